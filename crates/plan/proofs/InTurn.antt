-- Reading fields and lines one after another, as loops do.
use Rattle.std.proofs.Common.{◌≡◌, ℕ, suc, ◌==◌, Bool, true, false, cond, ◌+◌, ◌-◌, ◌<◌, ◌≤◌, List, [], ◌∷◌, ◌++◌, length, take, set, replicate, length-set, Option, Some, None, Result, Ok, Err, refl, sym, ap, ◌∙◌, append_assoc, append-nil, take_all, arith}
use Rattle.std.proofs.lemmas.List.{take_more_set, length-replicate}
use Rattle.std.specs.List.{onto_first}
use Rattle.plan.specs.declared.faults.Break.{Break}
use Rattle.plan.specs.declared.fields.Span.{Span}
use Rattle.plan.specs.Readers.{fields_left}
use Rattle.measures.specs.Results.{◌>>=◌}
use Rattle.plan.specs.Reading.{next_number, numbers, fields, Left, any_number, next_line, lines}
use Rattle.std.specs.Borrow.{Bor}

-- these first, and then what is read
abbrev pub after : {A : Type 0} → List A → Result (List A) Break → Result (List A) Break
after done read = read >>= λ more. Ok (done ++ more)

after_one : {A : Type 0} (done : List A) (x : A) (read : Result (List A) Break)
    → after done (read >>= λ xs. Ok (x ∷ xs)) ≡ after (done ++ x ∷ []) read
after_one done x (Ok xs) = ap (λ ys. Ok ys) (sym (append_assoc done (x ∷ []) xs))
after_one done x (Err b) = refl

-- Of the n numbers of a line with these fields the first i, in the first places of ns, are read; with those of the fields that are left they are
-- all, or the first break is left.
unfoldable pub HaveFields : Span → ℕ → ℕ → List (List ℕ) → List ℕ → Option (Bor (List ℕ)) → ℕ → Type 0
HaveFields span line n all ns rest i =
    (after (take i ns) (numbers span line (i + 1) (n - i) (fields_left rest)) ≡ numbers span line 1 n all) × (length ns ≡ n)

first_field : (text : List ℕ) → (first : List ℕ) × (more : List (List ℕ)) × (fields text ≡ first ∷ more)
first_field [] = ([], [], refl)
first_field (b ∷ bs) = go (b == 32) (first_field bs) where
  go : (is : Bool) (rest : (first : List ℕ) × (more : List (List ℕ)) × (fields bs ≡ first ∷ more))
      → (first : List ℕ) × (more : List (List ℕ)) × (cond is ([] ∷ fields bs) (onto_first b (fields bs)) ≡ first ∷ more)
  go true rest = ([], fields bs, refl)
  go false rest = (b ∷ rest.0, rest.1, ap (onto_first b) rest.2)

module _ (span : Span) (line n : ℕ) where
  -- none is read
  pub no_field : (text : Bor (List ℕ)) → HaveFields span line n (fields text.now) (replicate n 0) (Some text) 0
  unfolding HaveFields
  no_field text = (rw (none_off) (only (numbers span line 1 n (fields text.now))), length-replicate n 0) where
    none_off : n - 0 ≡ n
    none_off = omega arith

    only : (read : Result (List ℕ) Break) → after [] read ≡ read
    only (Ok vs) = refl
    only (Err b) = refl

  -- the next field writes a number
  pub one_field : (i v : ℕ) (all : List (List ℕ)) (ns : List ℕ) (rest left : Option (Bor (List ℕ))) → HaveFields span line n all ns rest i → i < n
      → next_number span (record { line = line; field = i + 1 }) (fields_left rest) ≡ Ok (v, fields_left left)
      → HaveFields span line n all (set ns i v) left (i + 1)
  unfolding HaveFields
  one_field i v all ns rest left so_far more next =
      let k : n - i ≡ suc (n - (i + 1)) = omega arith in
      let two : i + 1 + 1 ≡ suc (i + 1) = omega arith in
      let others = numbers span line (i + 1 + 1) (n - (i + 1)) (fields_left left) in
      let read : numbers span line (i + 1) (n - i) (fields_left rest) ≡ (others >>= λ vs. Ok (v ∷ vs)) = rw (k, next, two) refl in
      let taken : take (i + 1) (set ns i v) ≡ take i ns ++ v ∷ [] = take_more_set ns i v (omega (arith, so_far.1)) in
      (rw taken (sym (after_one (take i ns) v others) ∙ ap (after (take i ns)) (sym read) ∙ so_far.0), length-set ns i v ∙ so_far.1)

  -- the next field breaks the form
  pub field_broken : (i : ℕ) (all : List (List ℕ)) (ns : List ℕ) (rest : Option (Bor (List ℕ))) (b : Break) → HaveFields span line n all ns rest i → i < n
      → next_number span (record { line = line; field = i + 1 }) (fields_left rest) ≡ Err b → numbers span line 1 n all ≡ Err b
  unfolding HaveFields
  field_broken i all ns rest b so_far more next =
      let k : n - i ≡ suc (n - (i + 1)) = omega arith in
      sym so_far.0 ∙ rw (k, next) refl

  -- all fields due were read, and none is left
  pub all_fields : (i : ℕ) (all : List (List ℕ)) (ns : List ℕ) (rest : Option (Bor (List ℕ))) → HaveFields span line n all ns rest i → n ≤ i → rest ≡ None
      → numbers span line 1 n all ≡ Ok ns
  unfolding HaveFields
  all_fields i all ns rest so_far done over =
      let none : n - i ≡ 0 = omega arith in
      sym so_far.0 ∙ rw (over, none, take_all i ns (omega (arith, so_far.1))) (ap (λ vs. Ok vs) (append-nil ns))

  -- all fields due were read, and one more is left
  pub surplus_field : (i : ℕ) (all : List (List ℕ)) (ns : List ℕ) (rest : Option (Bor (List ℕ))) (text : Bor (List ℕ))
      → HaveFields span line n all ns rest i → n ≤ i → i ≤ n → rest ≡ Some text
      → numbers span line 1 n all ≡ Err (record { line = line; field = n + 1 })
  unfolding HaveFields
  surplus_field i all ns rest text so_far done within next =
      let none : n - i ≡ 0 = omega arith in
      let same : i ≡ n = omega arith in
      sym so_far.0 ∙ rw (next, none, (first_field text.now).2, same) refl

-- these first, and then what lines mean
abbrev pub with_lines : {T : Type 0} → List T → Result (List T × Left) Break → Result (List T × Left) Break
with_lines done read = read >>= λ more. Ok (done ++ more.0, more.1)

with_line : {T : Type 0} (done : List T) (x : T) (read : Result (List T × Left) Break)
    → with_lines done (read >>= λ b. Ok (x ∷ b.0, b.1)) ≡ with_lines (done ++ x ∷ []) read
with_line done x (Ok b) = ap (λ xs. Ok (xs, b.1)) (sym (append_assoc done (x ∷ []) b.0))
with_line done x (Err b) = refl

-- Of n lines from s on the first i are read and mean xs, and now is left; with what the others mean that is all, or the first break is left.
unfoldable pub HaveLines : {T : Type 0} → (List ℕ → T) → ℕ → ℕ → Left → List T → Left → ℕ → Type 0
HaveLines meant width n s xs now i = with_lines xs (lines meant width (n - i) now) ≡ lines meant width n s

module _ {T : Type 0} (meant : List ℕ → T) (width n : ℕ) (s : Left) where
  -- none is read
  pub no_line : HaveLines meant width n s [] s 0
  unfolding HaveLines
  no_line = rw (none_off) (only (lines meant width n s)) where
    none_off : n - 0 ≡ n
    none_off = omega arith

    only : (read : Result (List T × Left) Break) → with_lines [] read ≡ read
    only (Ok b) = refl
    only (Err b) = refl

  -- the next line is read
  pub one_line : (i : ℕ) (xs : List T) (now then : Left) (ns : List ℕ) → HaveLines meant width n s xs now i → i < n
      → next_line any_number width now ≡ Ok (ns, then) → HaveLines meant width n s (xs ++ meant ns ∷ []) then (i + 1)
  unfolding HaveLines
  one_line i xs now then ns so_far more next =
      let k : n - i ≡ suc (n - (i + 1)) = omega arith in
      let read : lines meant width (n - i) now ≡ (lines meant width (n - (i + 1)) then >>= λ b. Ok (meant ns ∷ b.0, b.1)) = rw (k, next) refl in
      sym (with_line xs (meant ns) (lines meant width (n - (i + 1)) then)) ∙ ap (with_lines xs) (sym read) ∙ so_far

  -- the next line breaks the form
  pub line_broken : (i : ℕ) (xs : List T) (now : Left) (b : Break) → HaveLines meant width n s xs now i → i < n → next_line any_number width now ≡ Err b
      → lines meant width n s ≡ Err b
  unfolding HaveLines
  line_broken i xs now b so_far more next =
      let k : n - i ≡ suc (n - (i + 1)) = omega arith in
      sym so_far ∙ rw (k, next) refl

  -- all are read
  pub all_lines : (i : ℕ) (xs : List T) (now : Left) → HaveLines meant width n s xs now i → n ≤ i → lines meant width n s ≡ Ok (xs, now)
  unfolding HaveLines
  all_lines i xs now so_far done =
      let none : n - i ≡ 0 = omega arith in
      sym so_far ∙ rw none (ap (λ ys. Ok (ys, now)) (append-nil xs))
