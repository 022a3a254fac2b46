-- A list that is cut at the first element that passes.
use Rattle.std.proofs.Common.{◌≡◌, ℕ, ◌+◌, ◌-◌, Bool, true, false, cond, ltb, List, [], ◌∷◌, length, take, drop, Some, None, refl, sym, ◌∙◌, arith}
use Rattle.std.specs.List.{slice_split, position_or_len, position, list_any}
use Rattle.std.proofs.lemmas.Bool.{ltb-true, ltb-false}
use Rattle.std.proofs.lemmas.List.{take_rest}
use Rattle.std.proofs.lemmas.List.Sums.{fails_before_first}
use Rattle.std.proofs.lemmas.List.Splits.{slice_split_none, slice_split_first}
use Rattle.std.proofs.lemmas.Option.{cond_some}

module _ (p : ℕ → Bool) where
  -- some element passes just if the first place where one does is within
  pub any_first : (xs : List ℕ) → list_any p xs ≡ ltb (position_or_len p xs) (length xs)
  any_first [] = refl
  any_first (x ∷ xs) = go (p x) refl (any_first xs) where
    go : (b : Bool) → p x ≡ b → list_any p xs ≡ ltb (position_or_len p xs) (length xs)
        → list_any p (x ∷ xs) ≡ ltb (position_or_len p (x ∷ xs)) (length (x ∷ xs))
    go true e rest = rw e (grind arith)
    go false e rest = rw e (grind (arith, rest))

  first_within : (xs : List ℕ) (at : ℕ) → Some at ≡ position p xs → (ltb (position_or_len p xs) (length xs) ≡ true) × (position_or_len p xs ≡ at)
  first_within xs at found = cond_some _ _ _ (sym found)

  pub some_passes : (xs : List ℕ) (at : ℕ) → Some at ≡ position p xs → true ≡ list_any p xs
  some_passes xs at found = sym (any_first xs ∙ (first_within xs at found).0)

  pub cut_in_two : (xs : List ℕ) (at : ℕ) → Some at ≡ position p xs
      → slice_split p xs ≡ take at xs ∷ slice_split p (take (length xs - (at + 1)) (drop (at + 1) xs))
  cut_in_two xs at found =
      let first = first_within xs at found in
      rw (take_rest, ← first.1) (slice_split_first p xs 0 (ltb-true _ _ first.0))

  first_past : (b : Bool) (n : ℕ) → None ≡ cond b (Some n) None → b ≡ false
  first_past true n e = absurd cc
  first_past false n e = refl

  pub none_passes : (xs : List ℕ) → None ≡ position p xs → false ≡ list_any p xs
  none_passes xs missing = sym (any_first xs ∙ first_past _ _ missing)

  pub not_cut : (xs : List ℕ) → None ≡ position p xs → slice_split p xs ≡ xs ∷ []
  not_cut xs missing =
      slice_split_none p xs (λ k d within. fails_before_first p xs k d (omega (arith, ltb-false _ _ (first_past _ _ missing))))
