-- Rows changed one after another.
use Rattle.std.proofs.Common.{◌≡◌, ℕ, ◌+◌, ◌<◌, ◌≤◌, List, [], ◌∷◌, ◌++◌, length, map, get_or, take, drop, set, slice_set, slice_index_or, Option, refl, sym, ap, ◌∙◌, append_assoc, arith, drop-set-lt}
use Rattle.std.proofs.lemmas.List.{take_more_set, at_drop_more, set-get_or, drop_all, take_all, append-nil}
use Rattle.std.specs.List.{sum_by}
use Rattle.std.proofs.lemmas.List.Edits.{map_over_more}
use Rattle.std.proofs.lemmas.List.Sums.{sum_by_more}
use Rattle.measures.specs.Limits.{greatest_rate}
use Rattle.budget.specs.Meaning.{Meaning, Sentences}
use Rattle.history.specs.Gates.{rested_one, rest_others}
use Rattle.history.specs.declared.import.Import.{Import}

-- a row stored where it was read
pub stored : {R : Type 0} (rows : List R) (k : ℕ) (d : R) → rows ≡ slice_set rows k (slice_index_or rows k d)
stored rows k d = sym (set-get_or rows k d)

-- rows begun anew, with one more
pub one_anew : {R : Type 0} (f : R → R) (before rows : List R) (k : ℕ) (x y : R) → k < length before → rows ≡ map f (take k before) ++ drop k before
    → x ≡ slice_index_or rows k x → y ≡ f x
    → slice_set rows k y ≡ map f (take (k + 1) before) ++ drop (k + 1) before
one_anew f before rows k x y within so_far read is = ap (slice_set rows k) is ∙ map_over_more f before rows k x within so_far read

module _ {R : Type 0} {m : Meaning R} (s : Sentences m) where
  pub rate_within : (x : R) → m.rate x ≤ greatest_rate
  rate_within x = s.rate_high x

-- the sum of the rates, with one more
pub one_added : {R : Type 0} (rate : R → ℕ) (rows : List R) (k sum r : ℕ) (x : R) → k < length rows → x ≡ slice_index_or rows k x → r ≡ rate x
    → sum ≡ sum_by rate (take k rows) → sum + r ≡ sum_by rate (take (k + 1) rows)
one_added rate rows k sum r x within read is so_far =
    let more = sum_by_more rate rows k x within in
    let same : rate x ≡ rate (slice_index_or rows k x) = ap rate read in
    omega (arith, so_far, is, same, more)

module _ {R : Type 0} (m : Meaning R) (running : Option Import) (d : ℕ) where
  -- the rows below lab k, and what those from it on are to become
  abbrev whole : List R → ℕ → List R
  whole rows k = take k rows ++ rest_others m running d k (drop k rows)

  changed : (rows : List R) (k : ℕ) (y e : R) → k < length rows → y ≡ rested_one m running d k (get_or rows k e)
      → whole (set rows k y) (k + 1) ≡ whole rows k
  unfolding rest_others
  changed rows k y e low is =
      let later = rest_others m running d (k + 1) (drop (k + 1) rows) in
      let to_come : rest_others m running d k (drop k rows) ≡ rested_one m running d k (get_or rows k e) ∷ later = at_drop_more (rest_others m running d k) rows k e low in
      (λ i. take_more_set rows k y low i ++ rest_others m running d (k + 1) (drop-set-lt (k + 1) rows k y (omega arith) i))
      ∙ append_assoc (take k rows) (y ∷ []) later
      ∙ ap (λ z. take k rows ++ z ∷ later) is
      ∙ ap (λ l. take k rows ++ l) (sym to_come)

  -- once the row of lab k has changed, the whole is the same
  pub one_more : (rows new all : List R) (k : ℕ) → k < length rows
      → ((e : R) → new ≡ slice_set rows k (rested_one m running d k (slice_index_or rows k e)))
      → take k rows ++ rest_others m running d k (drop k rows) ≡ all → take (k + 1) new ++ rest_others m running d (k + 1) (drop (k + 1) new) ≡ all
  one_more [] new all k low stored so_far = absurd (omega (arith, low))
  one_more (x ∷ xs) new all k low stored so_far =
      ap (λ l. whole l (k + 1)) (stored x) ∙ changed (x ∷ xs) k (rested_one m running d k (get_or (x ∷ xs) k x)) x low refl ∙ so_far

  -- and in the end it is the rows
  pub all_done : (rows all : List R) (n : ℕ) → length rows ≤ n → take n rows ++ rest_others m running d n (drop n rows) ≡ all → rows ≡ all
  unfolding rest_others
  all_done rows all n past so_far = sym ((λ i. take_all n rows past i ++ rest_others m running d n (drop_all n rows past i)) ∙ append-nil rows) ∙ so_far
