-- What the places of numbers say of their order as a list.
use Rattle.std.proofs.Common.{◌≡◌, ℕ, zero, suc, ◌+◌, ◌-◌, ◌<◌, ◌≤◌, Bool, true, false, List, [], ◌∷◌, ◌++◌, ◌==◌, refl, sym, ap, ◌∙◌, arith}
use Rattle.std.proofs.lemmas.Grind.{flat_map-append}
use Rattle.std.proofs.lemmas.List.Elements.{filter-append}
use Rattle.std.specs.List.{range_with_len, filter, flat_map}
use Rattle.measures.specs.Limits.{most_labs, greatest_lab_number}
use Rattle.turns.specs.Orders.{from_to, standing_at, in_order}

pub from_to-range : (a b n : ℕ) → a + n ≡ b + 1 → from_to a b ≡ range_with_len a n
unfolding from_to
from_to-range a b n long = ap (range_with_len a) (omega arith)

pub in_order-range : (place : ℕ → ℕ) → in_order place ≡ flat_map (standing_at place) (range_with_len 0 most_labs)
unfolding in_order
in_order-range place = ap (flat_map (standing_at place)) (from_to-range 0 greatest_lab_number most_labs refl)

-- a range from a on, of which the first m end before b
range-append : (a b m n k : ℕ) → a + m ≡ b → m + n ≡ k → range_with_len a k ≡ range_with_len a m ++ range_with_len b n
range-append a b zero n k ends whole = let same : a ≡ b = omega arith in let long : n ≡ k = omega arith in cc
range-append a b (suc m) n zero ends whole = absurd (omega arith)
range-append a b (suc m) n (suc k) ends whole = ap (λ l. a ∷ l) (range-append (a + 1) b m n k (omega arith) (omega arith))

pub flat_map-parts : {X : Type 0} (f : ℕ → List X) → (a b m n k : ℕ) → a + m ≡ b → m + n ≡ k → flat_map f (range_with_len a k) ≡ flat_map f (range_with_len a m) ++ flat_map f (range_with_len b n)
flat_map-parts f a b m n k ends whole = ap (flat_map f) (range-append a b m n k ends whole) ∙ flat_map-append f (range_with_len a m) (range_with_len b n)

-- two ranges of one length whose numbers give the same lists, one by one
pub flat_map-ranges : {X : Type 0} (f g : ℕ → List X) → (a b n : ℕ) → ((i j : ℕ) → a ≤ i → i < a + n → i + b ≡ j + a → f i ≡ g j) → flat_map f (range_with_len a n) ≡ flat_map g (range_with_len b n)
flat_map-ranges f g a b zero same = refl
flat_map-ranges f g a b (suc n) same =
    let here = same a b (omega arith) (omega arith) (omega arith) in
    let rest = flat_map-ranges f g (a + 1) (b + 1) n (λ i j low high next. same i j (omega arith) (omega arith) (omega arith)) in
    cc

pub filter-ranges : (p q : ℕ → Bool) → (a n : ℕ) → ((i : ℕ) → a ≤ i → i < a + n → p i ≡ q i) → filter p (range_with_len a n) ≡ filter q (range_with_len a n)
filter-ranges p q a zero same = refl
filter-ranges p q a (suc n) same =
    let here = same a (omega arith) (omega arith) in
    let rest = filter-ranges p q (a + 1) n (λ i low high. same i (omega arith) (omega arith)) in
    cc

-- none of a range passes
filter_none : (p : ℕ → Bool) (a n : ℕ) → ((i : ℕ) → a ≤ i → i < a + n → p i ≡ false) → filter p (range_with_len a n) ≡ []
filter_none p a zero none = refl
filter_none p a (suc n) none =
    let here = none a (omega arith) (omega arith) in
    let rest = filter_none p (a + 1) n (λ i low high. none i (omega arith) (omega arith)) in
    rw (here, rest) refl

-- one of a range passes
filter_one : (m a n : ℕ) → a ≤ m → m < a + n → filter (λ i. i == m) (range_with_len a n) ≡ m ∷ []
filter_one m a n low high =
    let test : ℕ → Bool = λ i. i == m in
    let left = n - (m - a) - 1 in
    let parts : range_with_len a n ≡ range_with_len a (m - a) ++ m ∷ range_with_len (m + 1) left = range-append a m (m - a) (suc left) n (omega arith) (omega arith) in
    let before = filter_none test a (m - a) (λ i i_low i_high. grind arith) in
    let behind = filter_none test (m + 1) left (λ i i_low i_high. grind arith) in
    let same : (m == m) ≡ true = grind arith in
    ap (filter test) parts ∙ filter-append test (range_with_len a (m - a)) (m ∷ range_with_len (m + 1) left) ∙ rw (before, same, behind) refl

-- m alone stands at place p
pub standing_alone : (place : ℕ → ℕ) (p m : ℕ) → m < most_labs → ((n : ℕ) → n < most_labs → (place n == p) ≡ (n == m)) → standing_at place p ≡ m ∷ []
unfolding standing_at from_to
standing_alone place p m low alone = filter-ranges (λ n. place n == p) (λ n. n == m) 0 most_labs (λ n n_low n_high. alone n n_high) ∙ filter_one m 0 most_labs (omega arith) low

flat_map-singles : {X : Type 0} (xs : List X) → flat_map (λ x. x ∷ []) xs ≡ xs
flat_map-singles [] = refl
flat_map-singles (x ∷ xs) = ap (λ l. x ∷ l) (flat_map-singles xs)

-- at n places from a on stand the n numbers from b on, each alone
pub standing_in_turn : (place : ℕ → ℕ) (a b n : ℕ) → b + n ≤ most_labs
    → ((p k m : ℕ) → a ≤ p → p < a + n → p + b ≡ k + a → m < most_labs → (place m == p) ≡ (m == k))
    → flat_map (standing_at place) (range_with_len a n) ≡ range_with_len b n
standing_in_turn place a b n within alone =
    flat_map-ranges (standing_at place) (λ k. k ∷ []) a b n (λ p k low high next. standing_alone place p k (omega arith) (λ m. alone p k m low high next))
    ∙ flat_map-singles (range_with_len b n)

-- an order in which number n stands at place n
pub in_own_order : (place : ℕ → ℕ) → ((n : ℕ) → n < most_labs → place n ≡ n) → in_order place ≡ from_to 0 greatest_lab_number
in_own_order place own =
    in_order-range place
    ∙ standing_in_turn place 0 0 most_labs (omega arith) (λ p k m low high next m_low. let is = own m m_low in grind arith)
    ∙ sym (from_to-range 0 greatest_lab_number most_labs refl)
