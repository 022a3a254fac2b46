-- The bytes that are read as a plan are those in which it is written, and no others: lines, sections and the plan, by Spelling.
use Rattle.std.proofs.Common.{◌≡◌, ℕ, zero, suc, ◌==◌, Bool, true, false, cond, ◌+◌, ◌<◌, ◌≤◌, leb, ltb, List, [], ◌∷◌, ◌++◌, length, map, Result, Ok, Err, refl, sym, ap, subst, ◌∙◌, append_assoc, append-nil, arith}
use Rattle.std.specs.Prelude.{slice_index, IfOk}
use Rattle.std.specs.List.{flat_map, AllByRecursion}
use Rattle.std.proofs.lemmas.Bool.{and_parts, leb-true, le-leb, ltb-false, le-ltb, eqb-true}
use Rattle.std.proofs.lemmas.List.{nil_from_length, length-map}
use Rattle.std.proofs.lemmas.List.Concat.{flat_map-append}
use Rattle.measures.specs.Limits.{last, most_plan_bytes}
use Rattle.plan.specs.declared.faults.Break.{Break}
use Rattle.plan.specs.declared.faults.ReadError.{ReadError}
use Rattle.plan.specs.declared.faults.ReadError.TheVariants as errors
use Rattle.plan.specs.declared.fields.Span.{Span}
use Rattle.plan.specs.declared.plan.Terms.{Terms}
use Rattle.plan.specs.declared.plan.Filing.{Filing}
use Rattle.plan.specs.declared.plan.Withdrawal.{Withdrawal}
use Rattle.plan.specs.declared.plan.Plan.{Plan}
use Rattle.plan.specs.Plans.{Lists, lists, terms_of, filing_of, withdrawal_of}
use Rattle.measures.specs.Results.{◌>>=◌}
use Rattle.plan.specs.Reading.{lab_counts, filing_counts, withdrawal_counts, Left, any_number, start, next_line, lines, section, no_more, plan_of, or_broken, read_plan}
use Rattle.plan.specs.Readers.{Answers}
use Rattle.plan.specs.Writing.{written_line, terms_numbers, filing_numbers, withdrawal_numbers, counted, Writes}
use Rattle.plan.proofs.Spelling.{In, Small, Took, all_small, bind_ok, ok_is, from_guard, read_line, line_read}

in_any : (vs : List ℕ) → Small vs → AllByRecursion (In any_number) vs
in_any [] small = tt
in_any (v ∷ vs) small = (rw (le-leb 0 v (omega arith), le-leb v last small.0) refl, in_any vs small.1)

-- what is meant by the numbers of a line, and the numbers by which it is meant
pub record IsLine {T : Type 0} (meant : List ℕ → T) (spelled : T → List ℕ) (width : ℕ) : Type 0 where
  pub back : (x : T) → meant (spelled x) ≡ x
  pub again : (ns : List ℕ) → length ns ≡ width → spelled (meant ns) ≡ ns
  pub wide : (x : T) → length (spelled x) ≡ width
  pub some : 0 < width

-- the bytes of these lines
abbrev bytes_of : List (List ℕ) → List ℕ
bytes_of ls = flat_map written_line ls

line_again : (span : Span) (vs : List ℕ) (s : Left) (rest : List ℕ) → span.greatest ≤ last → 0 < length vs → AllByRecursion (In span) vs
    → s.bytes ≡ written_line vs ++ rest → next_line span (length vs) s ≡ Ok (vs, record { bytes = rest; line = s.line + 1 })
line_again span [] s rest top some all is = absurd (omega arith)
line_again span (v ∷ vs) s rest top some all is = line_read span v vs s rest top all is

module _ {T : Type 0} (meant : List ℕ → T) (spelled : T → List ℕ) (width : ℕ) (is : IsLine meant spelled width) where
  -- lines that were read
  record TookAll (k : ℕ) (s : Left) (xs : List T) (then : Left) : Type 0 where
    count : length xs ≡ k
    small : AllByRecursion Small (map spelled xs)
    bytes : s.bytes ≡ bytes_of (map spelled xs) ++ then.bytes

  read_lines : (k : ℕ) (s : Left) (xs : List T) (then : Left) → lines meant width k s ≡ Ok (xs, then) → TookAll k s xs then
  read_lines zero s xs then e =
      subst (λ (r : List T × Left). TookAll 0 s r.0 r.1) (ok_is ([], s) (xs, then) e) (record { count = refl; small = tt; bytes = refl })
  read_lines (suc k) s xs then e =
      let head = bind_ok (next_line any_number width s) (λ head. lines meant width k head.1 >>= λ b. Ok (meant head.0 ∷ b.0, b.1)) (xs, then) e in
      let b = bind_ok (lines meant width k head.0.1) (λ b. Ok (meant head.0.0 ∷ b.0, b.1)) (xs, then) head.2 in
      let first = read_line any_number width s head.0.0 head.0.1 (omega arith) head.1 in
      let rest = read_lines k head.0.1 b.0.0 b.0.1 b.1 in
      let same = is.again head.0.0 first.count in
      let whole : s.bytes ≡ bytes_of (map spelled (meant head.0.0 ∷ b.0.0)) ++ b.0.1.bytes =
      first.bytes ∙ ap (λ (bs : List ℕ). written_line head.0.0 ++ bs) rest.bytes
      ∙ sym (append_assoc (written_line head.0.0) (bytes_of (map spelled b.0.0)) b.0.1.bytes)
      ∙ ap (λ (ns : List ℕ). (written_line ns ++ bytes_of (map spelled b.0.0)) ++ b.0.1.bytes) (sym same) in
      let all : TookAll (suc k) s (meant head.0.0 ∷ b.0.0) b.0.1 =
      record {
        count = ap suc rest.count;
        small = (subst (λ (ns : List ℕ). Small ns) (sym same) (all_small any_number head.0.0 (omega arith) first.within), rest.small);
        bytes = whole;
      } in
      subst (λ (r : List T × Left). TookAll (suc k) s r.0 r.1) (ok_is (meant head.0.0 ∷ b.0.0, b.0.1) (xs, then) b.2) all

  lines_read : (xs : List T) (s : Left) (rest : List ℕ) → AllByRecursion Small (map spelled xs) → s.bytes ≡ bytes_of (map spelled xs) ++ rest
      → (then : Left) × (lines meant width (length xs) s ≡ Ok (xs, then)) × (then.bytes ≡ rest)
  lines_read [] s rest small bytes = (s, refl, bytes)
  lines_read (x ∷ xs) s rest small bytes =
      let more : List ℕ = bytes_of (map spelled xs) ++ rest in
      let after : Left = record { bytes = more; line = s.line + 1 } in
      let wide = is.wide x in
      let there : 0 < length (spelled x) = omega (arith, wide, is.some) in
      let one : next_line any_number (length (spelled x)) s ≡ Ok (spelled x, after) =
      line_again any_number (spelled x) s more (omega arith) there (in_any (spelled x) small.0)
      (bytes ∙ append_assoc (written_line (spelled x)) (bytes_of (map spelled xs)) rest) in
      let first : next_line any_number width s ≡ Ok (spelled x, after) = subst (λ (n : ℕ). next_line any_number n s ≡ Ok (spelled x, after)) wide one in
      let others = lines_read xs after rest small.1 refl in
      (others.0, rw (first, others.1, is.back x) refl, others.2)

  -- a section that was read
  record TookSection (counts : Span) (s : Left) (xs : List T) (then : Left) : Type 0 where
    count : In counts (length xs)
    small : AllByRecursion Small (counted (map spelled xs))
    bytes : s.bytes ≡ bytes_of (counted (map spelled xs)) ++ then.bytes

  read_section : (counts : Span) (s : Left) (xs : List T) (then : Left) → counts.greatest ≤ last → section meant width counts s ≡ Ok (xs, then)
      → TookSection counts s xs then
  read_section counts s xs then top e =
      let head = bind_ok (next_line counts 1 s) (λ head. lines meant width (slice_index head.0 0) head.1) (xs, then) e in
      let first = read_line counts 1 s head.0.0 head.0.1 top head.1 in
      go head.0.0 head.0.1 first head.2 where
        go : (ns : List ℕ) (mid : Left) → Took counts 1 s ns mid → lines meant width (slice_index ns 0) mid ≡ Ok (xs, then)
            → TookSection counts s xs then
        go [] mid first rest = absurd (omega (arith, first.count))
        go (n ∷ m ∷ ns) mid first rest = absurd (omega (arith, first.count))
        go (n ∷ []) mid first rest =
            let all = read_lines n mid xs then rest in
            let size : length (map spelled xs) ≡ n = length-map xs spelled ∙ all.count in
            let whole : s.bytes ≡ bytes_of (counted (map spelled xs)) ++ then.bytes =
            first.bytes ∙ ap (λ (bs : List ℕ). written_line (n ∷ []) ++ bs) all.bytes
            ∙ sym (append_assoc (written_line (n ∷ [])) (bytes_of (map spelled xs)) then.bytes)
            ∙ ap (λ (k : ℕ). (written_line (k ∷ []) ++ bytes_of (map spelled xs)) ++ then.bytes) (sym size) in
            record {
              count = subst (λ (k : ℕ). In counts k) (sym all.count) first.within.0;
              small = (subst (λ (k : ℕ). Small (k ∷ [])) (sym size) (all_small counts (n ∷ []) top first.within), all.small);
              bytes = whole;
            }

  section_read : (counts : Span) (xs : List T) (s : Left) (rest : List ℕ) → counts.greatest ≤ last → In counts (length xs)
      → AllByRecursion Small (counted (map spelled xs)) → s.bytes ≡ bytes_of (counted (map spelled xs)) ++ rest
      → (then : Left) × (section meant width counts s ≡ Ok (xs, then)) × (then.bytes ≡ rest)
  section_read counts xs s rest top within small bytes =
      let n = length (map spelled xs) in
      let size : n ≡ length xs = length-map xs spelled in
      let more : List ℕ = bytes_of (map spelled xs) ++ rest in
      let after : Left = record { bytes = more; line = s.line + 1 } in
      let count : In counts n = subst (λ (k : ℕ). In counts k) (sym size) within in
      let first : next_line counts 1 s ≡ Ok (n ∷ [], after) =
      line_again counts (n ∷ []) s more top (omega arith) (count, tt)
      (bytes ∙ append_assoc (written_line (n ∷ [])) (bytes_of (map spelled xs)) rest) in
      let others = lines_read xs after rest small.1 refl in
      (others.0, rw (first, size) others.1, others.2)

-- ---- a plan

terms_line : IsLine terms_of terms_numbers 3
terms_line = record { back = λ x. refl; again = again; wide = λ x. refl; some = omega arith } where
  again : (ns : List ℕ) → length ns ≡ 3 → terms_numbers (terms_of ns) ≡ ns
  again [] size = absurd (omega (arith, size))
  again (a ∷ []) size = absurd (omega (arith, size))
  again (a ∷ b ∷ []) size = absurd (omega (arith, size))
  again (a ∷ b ∷ c ∷ []) size = refl
  again (a ∷ b ∷ c ∷ d ∷ ns) size = absurd (omega (arith, size))

filing_line : IsLine filing_of filing_numbers 4
filing_line = record { back = λ x. refl; again = again; wide = λ x. refl; some = omega arith } where
  again : (ns : List ℕ) → length ns ≡ 4 → filing_numbers (filing_of ns) ≡ ns
  again [] size = absurd (omega (arith, size))
  again (a ∷ []) size = absurd (omega (arith, size))
  again (a ∷ b ∷ []) size = absurd (omega (arith, size))
  again (a ∷ b ∷ c ∷ []) size = absurd (omega (arith, size))
  again (a ∷ b ∷ c ∷ d ∷ []) size = refl
  again (a ∷ b ∷ c ∷ d ∷ e ∷ ns) size = absurd (omega (arith, size))

withdrawal_line : IsLine withdrawal_of withdrawal_numbers 2
withdrawal_line = record { back = λ x. refl; again = again; wide = λ x. refl; some = omega arith } where
  again : (ns : List ℕ) → length ns ≡ 2 → withdrawal_numbers (withdrawal_of ns) ≡ ns
  again [] size = absurd (omega (arith, size))
  again (a ∷ []) size = absurd (omega (arith, size))
  again (a ∷ b ∷ []) size = refl
  again (a ∷ b ∷ c ∷ ns) size = absurd (omega (arith, size))

abbrev Smalls : List (List ℕ) → Type 0
Smalls ls = AllByRecursion Small ls

smalls_join : (ls ms : List (List ℕ)) → Smalls ls → Smalls ms → Smalls (ls ++ ms)
smalls_join [] ms first second = second
smalls_join (l ∷ ls) ms first second = (first.0, smalls_join ls ms first.1 second)

smalls_split : (ls ms : List (List ℕ)) → Smalls (ls ++ ms) → Smalls ls × Smalls ms
smalls_split [] ms all = (tt, all)
smalls_split (l ∷ ls) ms all = let rest = smalls_split ls ms all.1 in ((all.0, rest.0), rest.1)

-- three sections one after another
in_one : (ls ms ns : List (List ℕ)) → bytes_of (ls ++ (ms ++ ns)) ≡ bytes_of ls ++ (bytes_of ms ++ bytes_of ns)
in_one ls ms ns = flat_map-append written_line ls (ms ++ ns) ∙ ap (λ (bs : List ℕ). bytes_of ls ++ bs) (flat_map-append written_line ms ns)

in_turn : (ls ms ns : List (List ℕ)) (bs cs ds es : List ℕ) → bs ≡ bytes_of ls ++ cs → cs ≡ bytes_of ms ++ ds → ds ≡ bytes_of ns ++ es → es ≡ []
    → bs ≡ bytes_of (ls ++ (ms ++ ns))
in_turn ls ms ns bs cs ds es one two three none = rw (one, two, three, none, append-nil (bytes_of ns)) (sym (in_one ls ms ns))

nothing_left : (s : Left) (u : Unit {0}) → no_more s ≡ Ok u → s.bytes ≡ []
nothing_left s u e = nil_from_length s.bytes (eqb-true _ _ (from_guard (length s.bytes == 0) tt (record { line = s.line; field = 1 }) u e).0)

low : (span : Span) (n : ℕ) → In span n → span.least ≤ n
low span n within = leb-true span.least n (and_parts (leb span.least n) (leb n span.greatest) within).0

high : (span : Span) (n : ℕ) → In span n → n ≤ span.greatest
high span n within = leb-true n span.greatest (and_parts (leb span.least n) (leb n span.greatest) within).1

took_sections : (bs : List ℕ) (labs : List Terms) (filings : List Filing) (withdrawals : List Withdrawal) (s t u : Left) (nothing : Unit {0})
    → section terms_of 3 lab_counts (start bs) ≡ Ok (labs, s) → section filing_of 4 filing_counts s ≡ Ok (filings, t)
    → section withdrawal_of 2 withdrawal_counts t ≡ Ok (withdrawals, u) → no_more u ≡ Ok nothing
    → length bs ≤ most_plan_bytes → Writes bs (record { labs = labs; filings = filings; withdrawals = withdrawals })
took_sections bs labs filings withdrawals s t u nothing first second third over small =
    let one = read_section terms_of terms_numbers 3 terms_line lab_counts (start bs) labs s (omega arith) first in
    let two = read_section filing_of filing_numbers 4 filing_line filing_counts s filings t (omega arith) second in
    let three = read_section withdrawal_of withdrawal_numbers 2 withdrawal_line withdrawal_counts t withdrawals u (omega arith) third in
    let ls = counted (map terms_numbers labs) in
    let ms = counted (map filing_numbers filings) in
    let ns = counted (map withdrawal_numbers withdrawals) in
    record {
      some_lab = low lab_counts (length labs) one.count;
      labs = high lab_counts (length labs) one.count;
      filings = high filing_counts (length filings) two.count;
      withdrawals = high withdrawal_counts (length withdrawals) three.count;
      numbers = smalls_join ls (ms ++ ns) one.small (smalls_join ms ns two.small three.small);
      few = small;
      bytes = in_turn ls ms ns bs s.bytes t.bytes u.bytes one.bytes two.bytes three.bytes (nothing_left u nothing over);
    }

-- what reading goes on with after each section
abbrev after_withdrawals : List Terms → List Filing → List Withdrawal × Left → Result Lists Break
after_withdrawals labs filings read = no_more read.1 >>= λ nothing. Ok (record { labs = labs; filings = filings; withdrawals = read.0 })

abbrev after_filings : List Terms → List Filing × Left → Result Lists Break
after_filings labs read = section withdrawal_of 2 withdrawal_counts read.1 >>= after_withdrawals labs read.0

abbrev after_labs : List Terms × Left → Result Lists Break
after_labs read = section filing_of 4 filing_counts read.1 >>= after_filings read.0

took_plan : (bs : List ℕ) (p : Lists) → length bs ≤ most_plan_bytes → plan_of bs ≡ Ok p → Writes bs p
unfolding plan_of
took_plan bs p few e =
    let labs = bind_ok (section terms_of 3 lab_counts (start bs)) after_labs p e in
    let filings = bind_ok (section filing_of 4 filing_counts labs.0.1) (after_filings labs.0.0) p labs.2 in
    let withdrawals = bind_ok (section withdrawal_of 2 withdrawal_counts filings.0.1) (after_withdrawals labs.0.0 filings.0.0) p filings.2 in
    let made : Lists = record { labs = labs.0.0; filings = filings.0.0; withdrawals = withdrawals.0.0 } in
    let over = bind_ok (no_more withdrawals.0.1) (λ nothing. Ok made) p withdrawals.2 in
    let took =
    took_sections bs labs.0.0 filings.0.0 withdrawals.0.0 labs.0.1 filings.0.1 withdrawals.0.1 over.0
    labs.1 filings.1 withdrawals.1 over.1 few in
    subst {A = Lists} (λ q. Writes bs q) (ok_is made p over.2) took

from_size : (b : Bool) (said : Result Lists Break) (p : Lists) → cond b (Err errors.TooLong) (or_broken said) ≡ Ok p → (b ≡ false) × (said ≡ Ok p)
from_size true said p e = absurd cc
from_size false (Ok q) p e = (refl, ap (λ r. Ok r) cc)
from_size false (Err b) p e = absurd cc

read_as_written : (bs : List ℕ) (p : Lists) → read_plan bs ≡ Ok p → Writes bs p
read_as_written bs p e =
    let size = from_size (ltb most_plan_bytes (length bs)) (plan_of bs) p e in
    took_plan bs p (ltb-false most_plan_bytes (length bs) size.0) size.1

within : (span : Span) (n : ℕ) → span.least ≤ n → n ≤ span.greatest → In span n
within span n from to = rw (le-leb span.least n from, le-leb n span.greatest to) refl

written_again : (bs : List ℕ) (p : Lists) → Writes bs p → read_plan bs ≡ Ok p
unfolding plan_of
written_again bs p form =
    let ls = counted (map terms_numbers p.labs) in
    let ms = counted (map filing_numbers p.filings) in
    let ns = counted (map withdrawal_numbers p.withdrawals) in
    let parts = smalls_split ls (ms ++ ns) form.numbers in
    let parts_after = smalls_split ms ns parts.1 in
    let one = section_read terms_of terms_numbers 3 terms_line lab_counts p.labs (start bs) (bytes_of ms ++ bytes_of ns) (omega arith)
    (within lab_counts (length p.labs) form.some_lab form.labs) parts.0 (form.bytes ∙ in_one ls ms ns) in
    let two = section_read filing_of filing_numbers 4 filing_line filing_counts p.filings one.0 (bytes_of ns) (omega arith)
    (within filing_counts (length p.filings) (omega arith) form.filings) parts_after.0 one.2 in
    let three = section_read withdrawal_of withdrawal_numbers 2 withdrawal_line withdrawal_counts p.withdrawals two.0 [] (omega arith)
    (within withdrawal_counts (length p.withdrawals) (omega arith) form.withdrawals) parts_after.1 (two.2 ∙ sym (append-nil (bytes_of ns))) in
    let small : ltb most_plan_bytes (length bs) ≡ false = le-ltb most_plan_bytes (length bs) form.few in
    let again : after_labs (p.labs, one.0) ≡ Ok p = rw (two.1, three.1, three.2) refl in
    rw (small, one.1, again) refl

-- what was returned is what the bytes write
pub is_written : (r : Result Plan ReadError) (bs : List ℕ) → Answers lists r (read_plan bs) → IfOk r (λ p. Writes bs (lists p))
is_written (Ok p) bs said = read_as_written bs (lists p) said
is_written (Err e) bs said = tt

-- and what they write is returned
pub is_read : (r : Result Plan ReadError) (bs : List ℕ) (p : Lists) → Answers lists r (read_plan bs) → Writes bs p → Answers lists r (Ok p)
is_read r bs p said form = subst (λ (x : Result Lists ReadError). Answers lists r x) (written_again bs p form) said
