-- The first n places of xs before and after one element comes or goes.
use Rattle.std.proofs.Common.{◌≡◌, ℕ, ◌+◌, ◌-◌, ◌<◌, ◌≤◌, Bool, List, ◌∷◌, length, take, set, slice_get, slice_index_or, IsPermutation, sym, ap, subst, ◌∙◌, arith, Some}
use Rattle.std.proofs.lemmas.List.{take-take, take_more_set, length-take-le, length-set, get_or-take, get_or-set_other, get_or_default}
use Rattle.std.proofs.lemmas.List.Sorted.{IsPermutation-sym, IsPermutation-trans, IsPermutation-to_front, IsPermutation-cons, IsPermutation-swap_remove}
use Rattle.std.proofs.lemmas.Option.{slice_get-get_or}
use Rattle.std.proofs.Math.Seq.{take-set-lt}
use Rattle.std.specs.List.{swap_remove}
use Rattle.earliest.specs.HeapOrder.{IsHeap, IsHeapBut}
use Rattle.earliest.specs.Order.{IsStrictTotalOrder}
use Rattle.earliest.proofs.Heaps.{but_one}
use Rattle.earliest.proofs.Weak.{weak}

module _ {X : Type 0} (xs : List X) (n : ℕ) where
  -- x comes to the place past them
  module _ (x : X) (within : n < length xs) where
    pub came : (zs : List X) → IsPermutation (take (n + 1) (set xs n x)) zs → IsPermutation (x ∷ take n xs) zs
    came zs same = IsPermutation-trans _ _ _ (IsPermutation-sym _ _ (IsPermutation-to_front (take n xs) x)) (subst (λ l. IsPermutation l zs) (take_more_set xs n x within) same)

    pub but_last : (before : X → X → Bool) → IsStrictTotalOrder before → IsHeap before (take n xs) → IsHeapBut before n (take (n + 1) (set xs n x))
    but_last before o h =
        but_one before (weak o) (take n xs) (take (n + 1) (set xs n x)) n (λ k d short other.
        let long = length-take-le n xs (omega (arith, within)) in
        let longer = length-take-le (n + 1) (set xs n x) (omega (arith, length-set xs n x)) in (
          omega (arith, long),
          get_or-take (n + 1) (set xs n x) k d (omega arith) ∙ get_or-set_other xs n k x d other ∙ sym (get_or-take n xs k d (omega arith)),
        )) h

  -- the element at p goes, and the last takes its place
  module _ (p : ℕ) (p_used : p < n) (within : n ≤ length xs) where
    long : length (take n xs) ≡ n
    long = length-take-le n xs within

    pub value : (d : X) → Some (slice_index_or xs p d) ≡ slice_get (take n xs) p
    value d = sym (slice_get-get_or (take n xs) p d (omega (arith, long)) ∙ ap Some (get_or-take n xs p d p_used))

    module _ (e : X) where
      abbrev filled : List X
      filled = set xs p (slice_index_or xs (n - 1) e)

      left : (x : X) → take (n - 1) filled ≡ swap_remove (take n xs) p x
      left x =
          let one_less : n - 1 ≡ length (take n xs) - 1 = omega (arith, long) in
          let last : slice_index_or xs (n - 1) e ≡ slice_index_or (take n xs) (length (take n xs) - 1) x =
          get_or_default xs (n - 1) e x (omega (arith, within)) ∙ sym (get_or-take n xs (n - 1) x (omega arith)) ∙ ap (λ k. slice_index_or (take n xs) k x) one_less in
          sym (take-take (n - 1) n filled (omega arith)) ∙ ap (take (n - 1)) (take-set-lt n xs p _ p_used) ∙ (λ i. take (one_less i) (set (take n xs) p (last i)))

      pub went : (d : X) (zs : List X) → IsPermutation (take (n - 1) filled) zs → IsPermutation (take n xs) (slice_index_or xs p d ∷ zs)
      went d zs same =
          let x = slice_index_or xs p d in
          let x_is : x ≡ slice_index_or (take n xs) p x = get_or_default xs p d x (omega (arith, within)) ∙ sym (get_or-take n xs p x p_used) in
          IsPermutation-trans _ _ _ (IsPermutation-swap_remove (take n xs) p x (omega (arith, long)) x_is) (IsPermutation-cons x _ _ (subst (λ l. IsPermutation l zs) (left x) same))

      pub but_gap : (before : X → X → Bool) → IsStrictTotalOrder before → IsHeap before (take n xs) → IsHeapBut before p (take (n - 1) filled)
      but_gap before o h =
          but_one before (weak o) (take n xs) (take (n - 1) filled) p (λ k d short other.
          let few = length-take-le (n - 1) filled (omega (arith, length-set xs p (slice_index_or xs (n - 1) e))) in (
            omega (arith, long),
            get_or-take (n - 1) filled k d (omega arith) ∙ get_or-set_other xs p k _ d other ∙ sym (get_or-take n xs k d (omega arith)),
          )) h
