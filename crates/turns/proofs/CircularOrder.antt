-- The order of circular turns as a list.
use Rattle.std.proofs.Common.{◌≡◌, ℕ, ◌+◌, ◌-◌, ◌<◌, refl, ◌∙◌, arith}
use Rattle.measures.specs.Limits.{most_labs, greatest_lab_number}
use Rattle.turns.specs.Orders.{from_to, standing_at}
use Rattle.turns.specs.Turns.{order}
use Rattle.turns.specs.Circular.{circular, place, ending_with, round_to}
use Rattle.turns.proofs.Orders.{from_to-range, in_order-range, flat_map-parts, standing_in_turn}

pub order_goes_round : (k : ℕ) → k < most_labs → order circular (ending_with k) ≡ round_to k
order_goes_round k low =
    let at : ℕ → ℕ = place (ending_with k) in
    let above = greatest_lab_number - k in
    let first = standing_in_turn at 0 (k + 1) above (omega arith) (λ p n m p_low p_high next m_low. grind arith) in
    let round = standing_in_turn at above 0 (k + 1) (omega arith) (λ p n m p_low p_high next m_low. grind arith) in
    in_order-range at
    ∙ flat_map-parts (standing_at at) 0 above above (k + 1) most_labs (omega arith) (omega arith)
    ∙ rw (first, round, from_to-range (k + 1) greatest_lab_number above (omega arith), from_to-range 0 k (k + 1) (omega arith)) refl

pub order_begins : order circular (ending_with greatest_lab_number) ≡ from_to 0 greatest_lab_number
order_begins = order_goes_round greatest_lab_number (omega arith) ∙ rw (from_to-range (greatest_lab_number + 1) greatest_lab_number 0 refl) refl
