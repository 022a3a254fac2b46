-- The row of a lab, once time has passed or the row was told of a run.
use Rattle.std.proofs.Common.{◌≡◌, ℕ, zero, suc, ◌+◌, List, [], ◌∷◌, length, slice_get, slice_set, option_map, Option, Some, None, refl, ap, ◌∙◌, arith}
use Rattle.std.specs.Option.{option_map_or}
use Rattle.std.proofs.lemmas.List.{length-set}
use Rattle.budget.specs.Meaning.{Meaning}
use Rattle.history.specs.declared.import.Import.{Import}
use Rattle.history.proofs.Lists.{stored_same, stored_other}
use Rattle.history.specs.Gates.{rested_one, rest_others}
use Rattle.history.specs.Calls.{told, with_told}

module _ {R : Type 0} (m : Meaning R) where
  pub length-rest_others : (running : Option Import) (d k : ℕ) (rows : List R) → length (rest_others m running d k rows) ≡ length rows
  unfolding rest_others
  length-rest_others running d k [] = refl
  length-rest_others running d k (x ∷ xs) = ap suc (length-rest_others running d (k + 1) xs)

  rest_at_from : (running : Option Import) (d n k i : ℕ) (rows : List R) → n ≡ k + i
      → slice_get (rest_others m running d k rows) i ≡ option_map (rested_one m running d n) (slice_get rows i)
  unfolding rest_others
  rest_at_from running d n k i [] at = refl
  rest_at_from running d n k zero (x ∷ xs) at = let here : k ≡ n = omega (arith, at) in ap (λ j. Some (rested_one m running d j x)) here
  rest_at_from running d n k (suc i) (x ∷ xs) at = rest_at_from running d n (k + 1) i xs (omega (arith, at))

  -- the row of lab k has rested, unless its lab holds the lock
  pub rest_at : (running : Option Import) (d k : ℕ) (rows : List R) (x : R) → slice_get rows k ≡ Some x
      → slice_get (rest_others m running d 0 rows) k ≡ Some (rested_one m running d k x)
  rest_at running d k rows x there = rest_at_from running d k 0 k rows (omega arith) ∙ ap (option_map (rested_one m running d k)) there

  told_length : (rows : List R) (k c : ℕ) (o : Option R) → length (option_map_or (λ x. slice_set rows k (told m x c)) o rows) ≡ length rows
  told_length rows k c None = refl
  told_length rows k c (Some x) = length-set rows k (told m x c)

  pub length-with_told : (rows : List R) (k c : ℕ) → length (with_told m rows k c) ≡ length rows
  length-with_told rows k c = told_length rows k c (slice_get rows k)

  -- the row of the lab is told, and no other
  pub told_at : (rows : List R) (k c : ℕ) (x : R) → slice_get rows k ≡ Some x → slice_get (with_told m rows k c) k ≡ Some (told m x c)
  told_at rows k c x there = (λ j. slice_get (option_map_or (λ y. slice_set rows k (told m y c)) (there j) rows) k) ∙ stored_same rows k x (told m x c) there

  others_untold : (rows : List R) (k c j : ℕ) (o : Option R) → (j ≡ k → ⊥)
      → slice_get (option_map_or (λ x. slice_set rows k (told m x c)) o rows) j ≡ slice_get rows j
  others_untold rows k c j None other = refl
  others_untold rows k c j (Some x) other = stored_other rows k j (told m x c) other

  pub untold_at : (rows : List R) (k c j : ℕ) → (j ≡ k → ⊥) → slice_get (with_told m rows k c) j ≡ slice_get rows j
  untold_at rows k c j other = others_untold rows k c j (slice_get rows k) other
