-- What is read is what was written, and what is written is read: a field, and a line. Lemmas named `read_` go from what was read, those that
-- end in `_read` from what is written.
use Rattle.std.proofs.Common.{◌≡◌, ℕ, zero, suc, ◌==◌, Bool, true, false, cond, ◌+◌, ◌^◌, ◌<◌, ◌≤◌, All, leb, List, [], ◌∷◌, ◌++◌, length, map, get_or, drop, take_at, drop_at, length-append, Option, Some, None, Result, Ok, Err, refl, sym, ap, subst, ◌∙◌, append_assoc, arith}
use Rattle.std.specs.List.{before_first, after_first, position_or_len, list_any, join_with_byte, AllByRecursion}
use Rattle.std.specs.Fmt.{decimal}
use Rattle.std.specs.Str.{all_ascii_digits}
use Rattle.std.specs.Char.{is_ascii_digit}
use Rattle.std.specs.Option.{ok_or, option_and_then}
use Rattle.std.specs.Bool.{then_some}
use Rattle.std.proofs.lemmas.Bool.{and_parts, or_parts, leb-true, ltb-true, eqb-true}
use Rattle.std.proofs.lemmas.List.Sums.{split_at_first, passes_at_first}
use Rattle.std.proofs.lemmas.List.Splits.{join_with_byte-slice_split, slice_split_none, slice_split_at}
use Rattle.std.proofs.lemmas.List.Elements.{All-from_recursion}
use Rattle.std.proofs.lemmas.List.Folds.{list_any-append}
use Rattle.std.proofs.lemmas.Option.{none-some}
use Rattle.std.proofs.lemmas.Fmt.{decimal_digit, first_decimal}
use Rattle.numerals.specs.Numerals.{number_of}
use Rattle.numerals.proofs.Written.{digits_written, number_written, written_number, chosen}
use Rattle.measures.specs.Limits.{last}
use Rattle.plan.specs.declared.faults.Break.{Break}
use Rattle.plan.specs.declared.fields.Span.{Span}
use Rattle.measures.specs.Results.{◌>>=◌}
use Rattle.plan.specs.Reading.{is_feed, is_space, is_within, has_leading_zero, number_in, next_number, numbers, fields, breaks, Left, next_line}
use Rattle.plan.specs.Writing.{written_line}
use Rattle.plan.proofs.Cuts.{any_first}

-- ---- a field

-- a number of this span
abbrev pub In : Span → ℕ → Type 0
In span n = is_within span n ≡ true

plain_start : (text : List ℕ) → has_leading_zero text ≡ false → get_or text 0 0 ≡ 48 → length text ≡ 1
plain_start [] plain first = absurd (let e : ◌≡◌ {A = ℕ} 0 48 = first in omega arith)
plain_start (c ∷ []) plain first = refl
plain_start (c ∷ d ∷ ds) plain first = absurd (let e : c ≡ 48 = first in let f : (c == 48) ≡ false = plain in grind (arith, e, f))

starts_above : (text : List ℕ) → 48 < get_or text 0 0 → has_leading_zero text ≡ false
starts_above [] above = refl
starts_above (c ∷ []) above = refl
starts_above (c ∷ d ∷ ds) above = let e : 48 < c = above in grind (arith, e)

no_leading_zero : (n : ℕ) → n < 2 ^ 64 → has_leading_zero (decimal n) ≡ false
no_leading_zero zero small = rw (decimal_digit 0 (omega arith)) refl
no_leading_zero (suc n) small = starts_above (decimal (suc n)) (first_decimal (suc n) (omega arith) small)

from_test : (b : Bool) (n v : ℕ) → then_some b n ≡ Some v → (b ≡ true) × (n ≡ v)
from_test true n v e = (refl, cc)
from_test false n v e = absurd (none-some v e)

from_span : (span : Span) (o : Option ℕ) (v : ℕ) → option_and_then (λ n. then_some (is_within span n) n) o ≡ Some v → (o ≡ Some v) × In span v
from_span span None v e = absurd (none-some v e)
from_span span (Some n) v e =
    let parts = from_test (is_within span n) n v e in
    (ap (λ k. Some k) parts.1, rw (← parts.1) parts.0)

small_in : (span : Span) (v : ℕ) → span.greatest ≤ last → In span v → v ≤ last
small_in span v top within = omega (arith, leb-true v span.greatest (and_parts (leb span.least v) (leb v span.greatest) within).1)

pub read_field : (span : Span) (text : List ℕ) (v : ℕ) → span.greatest ≤ last → number_in span text ≡ Some v → In span v × (text ≡ decimal v)
read_field span text v top read =
    let plain = chosen _ _ _ read in
    let found = from_span span (number_of text) v plain.1 in
    (found.1, written_number text v found.0 (omega (arith, small_in span v top found.1)) (plain_start text plain.0))

pub field_read : (span : Span) (v : ℕ) → span.greatest ≤ last → In span v → number_in span (decimal v) ≡ Some v
field_read span v top within =
    let small : v < 2 ^ 64 = omega (arith, small_in span v top within) in
    rw (no_leading_zero v small, number_written v small, within) refl

-- ---- the fields of a line

pub bind_ok : {A B : Type 0} (r : Result A Break) (f : A → Result B Break) (y : B) → (r >>= f) ≡ Ok y → (x : A) × (r ≡ Ok x) × (f x ≡ Ok y)
bind_ok (Ok x) f y e = (x, refl, e)
bind_ok (Err b) f y e = absurd cc

-- a step that did not fail
abbrev pub done : {A : Type 0} → A → Result A Break
done x = Ok x

pub ok_is : {A : Type 0} (x y : A) → done x ≡ done y → x ≡ y
ok_is x y e = cc

from_ok_or : (o : Option ℕ) (b : Break) (v : ℕ) → ok_or o b ≡ done v → o ≡ Some v
from_ok_or None b v e = absurd cc
from_ok_or (Some n) b v e = ap (λ k. Some k) (ok_is n v e)

read_numbers : (span : Span) (l f n : ℕ) (ps : List (List ℕ)) (vs : List ℕ) → span.greatest ≤ last → numbers span l f n ps ≡ Ok vs
    → (length vs ≡ n) × AllByRecursion (In span) vs × (ps ≡ map decimal vs)
read_numbers span l f zero [] vs top e =
    subst (λ (us : List ℕ). (length us ≡ 0) × AllByRecursion (In span) us × ([] ≡ map decimal us)) (ok_is [] vs e) (refl, tt, refl)
read_numbers span l f zero (p ∷ ps) vs top e = absurd cc
read_numbers span l f (suc n) [] vs top e = absurd cc
read_numbers span l f (suc n) (p ∷ ps) vs top e =
    let at : Break = record { line = l; field = f } in
    let head = bind_ok (next_number span at (p ∷ ps)) (λ head. numbers span l (suc f) n head.1 >>= λ us. Ok (head.0 ∷ us)) vs e in
    let b = bind_ok (ok_or (number_in span p) at) (λ v. Ok (v, ps)) head.0 head.1 in
    let c = bind_ok (numbers span l (suc f) n head.0.1) (λ us. Ok (head.0.0 ∷ us)) vs head.2 in
    let same = ok_is (b.0, ps) head.0 b.2 in
    let first = read_field span p b.0 top (from_ok_or (number_in span p) at b.0 b.1) in
    let rest = read_numbers span l (suc f) n ps c.0 top (rw (ap (λ (x : ℕ × List (List ℕ)). numbers span l (suc f) n x.1) same) c.1) in
    let made : b.0 ∷ c.0 ≡ vs = ap (λ (x : ℕ × List (List ℕ)). x.0 ∷ c.0) same ∙ ok_is (head.0.0 ∷ c.0) vs c.2 in
    subst (λ (us : List ℕ). (length us ≡ suc n) × AllByRecursion (In span) us × (p ∷ ps ≡ map decimal us)) made
    (ap suc rest.0, (first.0, rest.1), ap (λ (x : List ℕ). x ∷ ps) first.1 ∙ ap (λ xs. decimal b.0 ∷ xs) rest.2)

numbers_read : (span : Span) (l f : ℕ) (vs : List ℕ) → span.greatest ≤ last → AllByRecursion (In span) vs
    → numbers span l f (length vs) (map decimal vs) ≡ Ok vs
numbers_read span l f [] top all = refl
numbers_read span l f (v ∷ vs) top all = rw (field_read span v top all.0, numbers_read span l (suc f) vs top all.1) refl

-- ---- where a line is cut

-- no element passes
abbrev pub Lacks : (ℕ → Bool) → List ℕ → Type 0
Lacks p xs = list_any p xs ≡ false

past : (xs : List ℕ) (y : ℕ) (ys : List ℕ) → drop (length xs + 1) (xs ++ y ∷ ys) ≡ ys
past xs y ys = ap (drop (length xs + 1)) (sym (append_assoc xs (y ∷ []) ys)) ∙ drop_at (xs ++ y ∷ []) ys (length xs + 1) (length-append xs (y ∷ []))

module _ (p : ℕ → Bool) where
  none_pass : (xs : List ℕ) → Lacks p xs → All (λ x. p x ≡ false) xs
  none_pass xs lacks = All-from_recursion (λ x. p x ≡ false) xs (go xs lacks) where
    go : (ys : List ℕ) → Lacks p ys → AllByRecursion (λ x. p x ≡ false) ys
    go [] lacks = tt
    go (y ∷ ys) lacks =
        let parts = or_parts (p y) (list_any p ys) lacks in
        (parts.0, go ys parts.1)

  first_at : (xs : List ℕ) (y : ℕ) (ys : List ℕ) → Lacks p xs → p y ≡ true → position_or_len p (xs ++ y ∷ ys) ≡ length xs
  first_at [] y ys lacks passes = rw passes refl
  first_at (x ∷ xs) y ys lacks passes =
      let parts = or_parts (p x) (list_any p xs) lacks in
      rw (parts.0, first_at xs y ys parts.1 passes) (omega arith)

  cut_at : (xs : List ℕ) (y : ℕ) (ys : List ℕ) → Lacks p xs → p y ≡ true
      → (before_first p (xs ++ y ∷ ys) ≡ xs) × (after_first p (xs ++ y ∷ ys) ≡ ys) × (list_any p (xs ++ y ∷ ys) ≡ true)
  cut_at xs y ys lacks passes =
      let first = first_at xs y ys lacks passes in
      (rw first (take_at xs (y ∷ ys) (length xs) refl), rw first (past xs y ys), list_any-append p xs (y ∷ ys) ∙ rw (lacks, passes) refl)

-- ---- the bytes of a line

-- digits are neither spaces nor line feeds
digits_lack : (p : ℕ → Bool) → ((c : ℕ) → is_ascii_digit c ≡ true → p c ≡ false) → (ds : List ℕ) → all_ascii_digits ds ≡ true → Lacks p ds
digits_lack p none [] all = refl
digits_lack p none (c ∷ cs) all =
    let parts = and_parts (is_ascii_digit c) (all_ascii_digits cs) all in
    rw (none c parts.0, digits_lack p none cs parts.1) refl

digit_no_space : (c : ℕ) → is_ascii_digit c ≡ true → is_space c ≡ false
digit_no_space c digit = grind (arith, digit)

digit_no_feed : (c : ℕ) → is_ascii_digit c ≡ true → is_feed c ≡ false
digit_no_feed c digit = grind (arith, digit)

-- a line without its line feed
abbrev pub text : List ℕ → List ℕ
text vs = join_with_byte 32 (map decimal vs)

-- each number is small enough to be written and read
abbrev pub Small : List ℕ → Type 0
Small vs = AllByRecursion (λ n. n ≤ last) vs

decimal_lacks : (p : ℕ → Bool) → ((c : ℕ) → is_ascii_digit c ≡ true → p c ≡ false) → (n : ℕ) → n ≤ last → Lacks p (decimal n)
decimal_lacks p none n small = digits_lack p none (decimal n) (digits_written n (omega arith))

text_fields : (v : ℕ) (vs : List ℕ) → Small (v ∷ vs) → fields (text (v ∷ vs)) ≡ map decimal (v ∷ vs)
text_fields v [] small = slice_split_none is_space (decimal v) (none_pass is_space (decimal v) (decimal_lacks is_space digit_no_space v small.0))
text_fields v (w ∷ vs) small =
    slice_split_at is_space (decimal v) 32 (text (w ∷ vs)) (none_pass is_space (decimal v) (decimal_lacks is_space digit_no_space v small.0)) refl
    ∙ ap (λ ps. decimal v ∷ ps) (text_fields w vs small.1)

text_one_line : (vs : List ℕ) → Small vs → Lacks is_feed (text vs)
text_one_line [] small = refl
text_one_line (v ∷ []) small = decimal_lacks is_feed digit_no_feed v small.0
text_one_line (v ∷ w ∷ vs) small =
    list_any-append is_feed (decimal v) (32 ∷ text (w ∷ vs)) ∙ rw (decimal_lacks is_feed digit_no_feed v small.0, text_one_line (w ∷ vs) small.1) refl

pub all_small : (span : Span) (vs : List ℕ) → span.greatest ≤ last → AllByRecursion (In span) vs → Small vs
all_small span [] top all = tt
all_small span (v ∷ vs) top all = (small_in span v top all.0, all_small span vs top all.1)

-- what a line that was read is: its numbers as they are written, and what is left follows
pub record Took (span : Span) (n : ℕ) (s : Left) (vs : List ℕ) (then : Left) : Type 0 where
  pub count : length vs ≡ n
  pub within : AllByRecursion (In span) vs
  pub bytes : s.bytes ≡ written_line vs ++ then.bytes

pub from_guard : {A : Type 0} (b : Bool) (x : A) (e : Break) (y : A) → cond b (Ok x) (Err e) ≡ done y → (b ≡ true) × (x ≡ y)
from_guard true x e y read = (refl, ok_is x y read)
from_guard false x e y read = absurd cc

pub read_line : (span : Span) (n : ℕ) (s : Left) (vs : List ℕ) (then : Left) → span.greatest ≤ last → next_line span n s ≡ Ok (vs, then)
    → Took span n s vs then
read_line span n s vs then top read =
    let first = before_first is_feed s.bytes in
    let rest : Left = record { bytes = after_first is_feed s.bytes; line = s.line + 1 } in
    let ended : List ℕ → Result (List ℕ × Left) Break = λ us. cond (list_any is_feed s.bytes) (Ok (us, rest)) (breaks s.line n) in
    let head = bind_ok (numbers span s.line 1 n (fields first)) ended (vs, then) read in
    let g = from_guard (list_any is_feed s.bytes) (head.0, rest) (record { line = s.line; field = n }) (vs, then) head.2 in
    let r = read_numbers span s.line 1 n (fields first) head.0 top head.1 in
    let inside : position_or_len is_feed s.bytes < length s.bytes = ltb-true _ _ (sym (any_first is_feed s.bytes) ∙ g.0) in
    let feed : get_or s.bytes (position_or_len is_feed s.bytes) 0 ≡ 10 = eqb-true _ _ (passes_at_first is_feed s.bytes 0 inside) in
    let line : first ≡ text head.0 = sym (join_with_byte-slice_split 32 first) ∙ ap (join_with_byte 32) r.2 in
    let whole : s.bytes ≡ written_line head.0 ++ rest.bytes =
    split_at_first is_feed s.bytes 0 inside
    ∙ ap (λ (b : ℕ). first ++ b ∷ rest.bytes) feed
    ∙ ap (λ (x : List ℕ). x ++ 10 ∷ rest.bytes) line
    ∙ sym (append_assoc (text head.0) (10 ∷ []) rest.bytes) in
    subst (λ (x : List ℕ × Left). Took span n s x.0 x.1) g.1 (record { count = r.0; within = r.1; bytes = whole })

pub line_read : (span : Span) (v : ℕ) (vs : List ℕ) (s : Left) (rest : List ℕ) → span.greatest ≤ last → AllByRecursion (In span) (v ∷ vs)
    → s.bytes ≡ written_line (v ∷ vs) ++ rest → next_line span (length (v ∷ vs)) s ≡ Ok (v ∷ vs, record { bytes = rest; line = s.line + 1 })
line_read span v vs s rest top all is =
    let small = all_small span (v ∷ vs) top all in
    let bytes : s.bytes ≡ text (v ∷ vs) ++ 10 ∷ rest = is ∙ append_assoc (text (v ∷ vs)) (10 ∷ []) rest in
    let cut = cut_at is_feed (text (v ∷ vs)) 10 rest (text_one_line (v ∷ vs) small) refl in
    let found : numbers span s.line 1 (length (v ∷ vs)) (fields (before_first is_feed s.bytes)) ≡ Ok (v ∷ vs) =
    rw (bytes, cut.0, text_fields v vs small) (numbers_read span s.line 1 (v ∷ vs) top all) in
    rw (found, bytes, cut.1, cut.2) refl
