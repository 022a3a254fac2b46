-- The order of longest-unserved turns as a list.
use Rattle.std.proofs.Common.{◌≡◌, ℕ, ◌+◌, ◌-◌, ◌<◌, ◌≤◌, suc, Bool, true, not, List, [], ◌∷◌, ◌++◌, map, ◌==◌, slice_index, refl, sym, ap, ◌∙◌, append_assoc, arith}
use Rattle.std.specs.List.{range_with_len, filter, flat_map}
use Rattle.std.proofs.lemmas.List.Elements.{filter-append}
use Rattle.measures.specs.Limits.{most_labs, greatest_lab_number}
use Rattle.turns.specs.Orders.{from_to, standing_at, in_order}
use Rattle.turns.specs.Turns.{order}
use Rattle.turns.specs.Places.{moved}
use Rattle.turns.specs.PlacesStay.{place_own}
use Rattle.turns.specs.LongestUnserved.{longest_unserved, place, begun, served, with_last}
use Rattle.turns.specs.LongestUnservedIsFair.{place_served}
use Rattle.turns.specs.declared.longest_unserved.LongestUnservedTurns.{LongestUnservedTurns}
use Rattle.turns.proofs.Orders.{in_order-range, flat_map-parts, flat_map-ranges, filter-ranges, standing_alone, in_own_order}

pub order_begins : order longest_unserved begun ≡ from_to 0 greatest_lab_number
order_begins = in_own_order (place begun) place_own

filter_kept : (p q : ℕ → Bool) (xs : List ℕ) → ((n : ℕ) → p n ≡ true → q n ≡ true) → filter q (filter p xs) ≡ filter p xs
filter_kept p q [] kept = refl
filter_kept p q (x ∷ xs) kept = let rest = filter_kept p q xs kept in let here = kept x in grind arith

filter-flat_map : {X : Type 0} (q : ℕ → Bool) (f : X → List ℕ) (xs : List X) → filter q (flat_map f xs) ≡ flat_map (λ x. filter q (f x)) xs
filter-flat_map q f [] = refl
filter-flat_map q f (x ∷ xs) = filter-append q (f x) (flat_map f xs) ∙ ap (λ l. filter q (f x) ++ l) (filter-flat_map q f xs)

-- f are the places before k was served, and g those after it
module _ (f g : ℕ → ℕ) (k : ℕ) (k_low : k < most_labs)
    (within : (n : ℕ) → n < most_labs → f n ≤ greatest_lab_number)
    (apart : (a b : ℕ) → a < most_labs → b < most_labs → f a ≡ f b → a ≡ b)
    (g_is : (n : ℕ) → n < most_labs → g n ≡ moved (f k) (f n))
  where
    -- those who stood before k stay
    before : (p q : ℕ) → p < f k → p ≡ q → standing_at g p ≡ standing_at f q
    unfolding standing_at from_to
    before p q p_before same =
        filter-ranges (λ n. g n == p) (λ n. f n == q) 0 most_labs (λ n low high. let is = g_is n high in let was = within n high in let k_was = within k k_low in grind arith)

    -- those who stood behind k move up by one
    behind : (p q : ℕ) → f k ≤ p → p < greatest_lab_number → p + 1 ≡ q → standing_at g p ≡ standing_at f q
    unfolding standing_at from_to
    behind p q p_behind p_high next =
        filter-ranges (λ n. g n == p) (λ n. f n == q) 0 most_labs (λ n low high. let is = g_is n high in let was = within n high in grind arith)

    same_place : (n : ℕ) → n < most_labs → (f n == f k) ≡ (n == k)
    same_place n low = let one = apart n k low k_low in grind arith

    at_end : standing_at g greatest_lab_number ≡ k ∷ []
    at_end = standing_alone g greatest_lab_number k k_low (λ n low. let is = g_is n low in let was = within n low in let one = same_place n low in grind arith)

    where_k_was : standing_at f (f k) ≡ k ∷ []
    where_k_was = standing_alone f (f k) k k_low same_place

    abbrev not_k : ℕ → Bool
    not_k n = not (n == k)

    others : (p : ℕ) → (p ≡ f k → ⊥) → filter not_k (standing_at f p) ≡ standing_at f p
    unfolding standing_at
    others p other = filter_kept (λ n. f n == p) not_k (from_to 0 greatest_lab_number) (λ n stands. grind arith)

    order_moved : in_order g ≡ with_last k (in_order f)
    order_moved =
        let c = f k in
        let above = greatest_lab_number - c in
        let c_high : c ≤ greatest_lab_number = within k k_low in
        let F = standing_at f in
        let G = standing_at g in
        let kept : ℕ → List ℕ = λ p. filter not_k (F p) in
        let to_c = range_with_len 0 c in
        let from_c = range_with_len c above in
        let behind_c = range_with_len (c + 1) above in
        let ends : flat_map G (range_with_len c (suc above)) ≡ flat_map G from_c ++ (k ∷ []) =
        flat_map-parts G c greatest_lab_number above 1 (suc above) (omega arith) (omega arith) ∙ ap (λ l. flat_map G from_c ++ l) (rw at_end refl) in
        let all_of_g : in_order g ≡ flat_map G to_c ++ (flat_map G from_c ++ (k ∷ [])) =
        in_order-range g ∙ flat_map-parts G 0 c c (suc above) most_labs (omega arith) (omega arith) ∙ ap (λ l. flat_map G to_c ++ l) ends in
        let all_of_f : filter not_k (in_order f) ≡ flat_map kept to_c ++ (kept c ++ flat_map kept behind_c) =
        ap (filter not_k) (in_order-range f) ∙ filter-flat_map not_k F (range_with_len 0 most_labs) ∙ flat_map-parts kept 0 c c (suc above) most_labs (omega arith) (omega arith) in
        let ahead_stay : flat_map G to_c ≡ flat_map kept to_c =
        flat_map-ranges G kept 0 0 c (λ i j low high same. before i j (omega arith) (omega arith) ∙ sym (others j (λ e. omega (arith, e)))) in
        let behind_move : flat_map G from_c ≡ flat_map kept behind_c =
        flat_map-ranges G kept c (c + 1) above (λ i j low high next. behind i j low (omega arith) (omega arith) ∙ sym (others j (λ e. omega (arith, e)))) in
        let gone : kept c ≡ [] = let itself : (k == k) ≡ true = grind arith in ap (filter not_k) where_k_was ∙ rw itself refl in
        all_of_g ∙ rw (ahead_stay, behind_move, all_of_f, gone) (sym (append_assoc (flat_map kept to_c) (flat_map kept behind_c) (k ∷ [])))

pub order_moved_to_end : (x : LongestUnservedTurns) (k : ℕ) (places : List ℕ) → k < most_labs → places ≡ map (moved (place x k)) x.places → in_order (slice_index places) ≡ with_last k (order longest_unserved x)
order_moved_to_end x k places k_low is = ap (λ l. in_order (slice_index l)) is ∙ order_moved (place x) (place (served x k)) k k_low x.within x.apart (place_served x k)
