-- Lists: what stands at an index, what a range of numbers holds, and filters of a list in another order.
use Rattle.std.proofs.Common.{◌≡◌, ℕ, zero, suc, ◌+◌, ◌<◌, ◌≤◌, Bool, true, false, cond, List, [], ◌∷◌, ◌++◌, length, set, get_or, slice_get, slice_set, swap, find, filter, filter_map, IsPermutation, Option, Some, None, option_to_list, refl, sym, ap, subst, ◌∙◌, arith, ⊎_elim, append_assoc, true≢false}
use Rattle.std.specs.List.{list_all, range_with_len, cons_option}
use Rattle.std.proofs.lemmas.Bool.{cases_Bool, cases_eq, and_parts, and_from}
use Rattle.std.proofs.lemmas.Option.{same_Some}
use Rattle.std.proofs.lemmas.List.Elements.{filter_map-append}
use Rattle.std.proofs.lemmas.List.Sorted.{IsPermutation-refl, IsPermutation-sym, IsPermutation-trans, IsPermutation-cons, IsPermutation-append_left, IsPermutation-append_right, IsPermutation-append_comm, IsPermutation-keeps}

-- within a list an index has its element
pub element : {X : Type 0} (xs : List X) (k : ℕ) → k < length xs → (x : X) × (slice_get xs k ≡ Some x)
element [] k low = absurd (omega (arith, low))
element (x ∷ xs) zero low = (x, refl)
element (x ∷ xs) (suc k) low = element xs k (omega (arith, low))

-- what is stored at an index
pub stored_same : {X : Type 0} (xs : List X) (k : ℕ) (x y : X) → slice_get xs k ≡ Some x → slice_get (slice_set xs k y) k ≡ Some y
stored_same [] k x y there = absurd (let z : ◌≡◌ {A = ℕ} 0 1 = cc in omega arith)
stored_same (z ∷ zs) zero x y there = refl
stored_same (z ∷ zs) (suc k) x y there = stored_same zs k x y there

-- and at another one
pub stored_other : {X : Type 0} (xs : List X) (k j : ℕ) (y : X) → (j ≡ k → ⊥) → slice_get (slice_set xs k y) j ≡ slice_get xs j
stored_other [] k j y other = refl
stored_other (z ∷ zs) zero zero y other = absurd (other refl)
stored_other (z ∷ zs) zero (suc j) y other = refl
stored_other (z ∷ zs) (suc k) zero y other = refl
stored_other (z ∷ zs) (suc k) (suc j) y other = stored_other zs k j y (λ same. other (ap suc same))

-- what is found in a range is in it, and passes
pub find_within : (p : ℕ → Bool) (a n k : ℕ) → find p (range_with_len a n) ≡ Some k → (a ≤ k) × (k < a + n) × (p k ≡ true)
find_within p a zero k found = absurd (cc)
find_within p a (suc n) k found =
    ⊎_elim
    (λ yes.
    let is : a ≡ k = same_Some a k (grind (arith, yes, found)) in
    (omega (arith, is), omega (arith, is), subst (λ i. p i ≡ true) is yes))
    (λ no.
    let rest = find_within p (a + 1) n k (grind (arith, no, found)) in
    (omega (arith, rest.0), omega (arith, rest.1), rest.2))
    (cases_Bool (p a))

-- the only one of a range that passes is found
pub find_only : (p : ℕ → Bool) (a n k : ℕ) → a ≤ k → k < a + n → p k ≡ true → ((j : ℕ) → a ≤ j → j < a + n → p j ≡ true → j ≡ k)
    → find p (range_with_len a n) ≡ Some k
find_only p a zero k low high passes only = absurd (omega arith)
find_only p a (suc n) k low high passes only =
    ⊎_elim
    (λ yes. let is : a ≡ k = only a (omega arith) (omega arith) yes in rw yes (ap Some is))
    (λ no.
    let other : a ≡ k → ⊥ = λ is. true≢false (sym passes ∙ ap p (sym is) ∙ no) in
    rw no (find_only p (a + 1) n k (omega arith) (omega arith) passes (λ j j_low j_high. only j (omega arith) (omega arith))))
    (cases_Bool (p a))

-- where none passes none is found
pub find_none : (p : ℕ → Bool) (a n : ℕ) → ((j : ℕ) → a ≤ j → j < a + n → p j ≡ false) → find p (range_with_len a n) ≡ None
find_none p a zero none = refl
find_none p a (suc n) none = rw (none a (omega arith) (omega arith)) (find_none p (a + 1) n (λ j low high. none j (omega arith) (omega arith)))

-- where all of a range pass, each does
pub all_pass : (p : ℕ → Bool) (a n j : ℕ) → list_all p (range_with_len a n) ≡ true → a ≤ j → j < a + n → p j ≡ true
all_pass p a zero j all low high = absurd (omega arith)
all_pass p a (suc n) j all low high =
    let parts = and_parts (p a) (list_all p (range_with_len (a + 1) n)) all in
    ⊎_elim
    (λ here. subst (λ i. p i ≡ true) (sym here) parts.0)
    (λ later. all_pass p (a + 1) n j parts.1 (omega arith) (omega arith))
    (cases_eq j a)

-- and the other way
pub from_all : (p : ℕ → Bool) (a n : ℕ) → ((j : ℕ) → a ≤ j → j < a + n → p j ≡ true) → list_all p (range_with_len a n) ≡ true
from_all p a zero all = refl
from_all p a (suc n) all =
    and_from (p a) (list_all p (range_with_len (a + 1) n)) (all a (omega arith) (omega arith)) (from_all p (a + 1) n (λ j low high. all j (omega arith) (omega arith)))

-- a range with one number more
range_more : (a n k : ℕ) → a + n ≡ k → range_with_len a (n + 1) ≡ range_with_len a n ++ k ∷ []
range_more a zero k ends = ap (λ i. i ∷ []) (omega (arith, ends))
range_more a (suc n) k ends =
    let on : suc n + 1 ≡ suc (n + 1) = omega arith in
    ap (range_with_len a) on ∙ ap (λ l. a ∷ l) (range_more (a + 1) n k (omega (arith, ends)))

alone : (o : Option ℕ) → cons_option o [] ≡ option_to_list o
alone None = refl
alone (Some w) = refl

-- what is chosen of a range with one number more
pub chosen_more : (h : ℕ → Option ℕ) (n : ℕ) → filter_map h (range_with_len 0 (n + 1)) ≡ filter_map h (range_with_len 0 n) ++ option_to_list (h n)
chosen_more h n = ap (filter_map h) (range_more 0 n n (omega arith)) ∙ filter_map-append h (range_with_len 0 n) (n ∷ []) ∙ ap (λ l. filter_map h (range_with_len 0 n) ++ l) (alone (h n))

-- two parts in the other order
turned : {X : Type 0} (a b c : List X) → IsPermutation (a ++ (b ++ c)) (b ++ (a ++ c))
turned a b c =
    subst (λ l. IsPermutation l (b ++ (a ++ c))) (append_assoc a b c)
    (subst (IsPermutation ((a ++ b) ++ c)) (append_assoc b a c) (IsPermutation-append_left c _ _ (IsPermutation-append_comm a b)))

module _ {X : Type 0} (p : X → Bool) where
  -- x, if it passes
  abbrev kept_of : X → List X
  kept_of x = cond (p x) (x ∷ []) []

  -- a filter keeps what it keeps of the first and of the rest
  kept_first : (x : X) (xs : List X) → filter p (x ∷ xs) ≡ kept_of x ++ filter p xs
  kept_first x xs = ⊎_elim (λ yes. rw yes refl) (λ no. rw no refl) (cases_Bool (p x))

  -- y in the place of one element
  replaced : (xs : List X) (i : ℕ) (y d : X) → i < length xs
      → IsPermutation (kept_of (get_or xs i d) ++ filter p (set xs i y)) (kept_of y ++ filter p xs)
  replaced [] i y d within = absurd (omega (arith, within))
  replaced (x ∷ xs) zero y d within =
      subst (IsPermutation (kept_of x ++ filter p (y ∷ xs))) (ap (λ l. kept_of y ++ l) (sym (kept_first x xs)))
      (subst (λ l. IsPermutation (kept_of x ++ l) (kept_of y ++ (kept_of x ++ filter p xs))) (sym (kept_first y xs))
      (turned (kept_of x) (kept_of y) (filter p xs)))
  replaced (x ∷ xs) (suc i) y d within =
      let g = get_or xs i d in
      subst (IsPermutation (kept_of g ++ filter p (x ∷ set xs i y))) (ap (λ l. kept_of y ++ l) (sym (kept_first x xs)))
      (subst (λ l. IsPermutation (kept_of g ++ l) (kept_of y ++ (kept_of x ++ filter p xs))) (sym (kept_first x (set xs i y)))
      (IsPermutation-trans _ _ _ (turned (kept_of g) (kept_of x) (filter p (set xs i y)))
      (IsPermutation-trans _ _ _ (IsPermutation-append_right (kept_of x) _ _ (replaced xs i y d (omega arith)))
      (turned (kept_of x) (kept_of y) (filter p xs)))))

  -- two elements, each in the place of the other
  exchanged : (xs : List X) (i j : ℕ) (d : X) → i < length xs → j < length xs
      → IsPermutation (filter p (set (set xs i (get_or xs j d)) j (get_or xs i d))) (filter p xs)
  exchanged [] i j d i_in j_in = absurd (omega (arith, i_in))
  exchanged (x ∷ xs) zero zero d i_in j_in = IsPermutation-refl _
  exchanged (x ∷ xs) zero (suc j) d i_in j_in =
      subst (λ l. IsPermutation l (filter p (x ∷ xs))) (sym (kept_first (get_or xs j d) (set xs j x)))
      (subst (IsPermutation _) (sym (kept_first x xs)) (replaced xs j x d (omega arith)))
  exchanged (x ∷ xs) (suc i) zero d i_in j_in =
      subst (λ l. IsPermutation l (filter p (x ∷ xs))) (sym (kept_first (get_or xs i d) (set xs i x)))
      (subst (IsPermutation _) (sym (kept_first x xs)) (replaced xs i x d (omega arith)))
  exchanged (x ∷ xs) (suc i) (suc j) d i_in j_in =
      let rest = exchanged xs i j d (omega arith) (omega arith) in
      ⊎_elim (λ yes. rw yes (IsPermutation-cons x _ _ rest)) (λ no. rw no rest) (cases_Bool (p x))

  -- and so after a swap
  swapped : (xs : List X) (i j : ℕ) → i < length xs → j < length xs → IsPermutation (filter p xs) (filter p (swap xs i j))
  swapped [] i j i_in j_in = absurd (omega (arith, i_in))
  swapped (x ∷ xs) i j i_in j_in = IsPermutation-sym _ _ (exchanged (x ∷ xs) i j x i_in j_in)

  -- a list and its permutation keep the same elements, each as often
  pub filter-permutation : (xs ys : List X) → IsPermutation xs ys → IsPermutation (filter p xs) (filter p ys)
  filter-permutation xs ys same =
      IsPermutation-keeps xs (λ l. IsPermutation (filter p xs) (filter p l)) (IsPermutation-refl _)
      (λ l i j i_in j_in so_far. IsPermutation-trans _ _ _ so_far (swapped l i j i_in j_in)) ys same
