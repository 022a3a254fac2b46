-- Orders of the numbers that labs may have, 0 to 63, as the place of each number and as a list.
use Rattle.std.specs.Prelude.{ℕ, ◌+◌, ◌-◌, List, ◌==◌}
use Rattle.std.specs.List.{range_with_len, filter, flat_map}
use Rattle.measures.specs.Limits.{greatest_lab_number}

-- the numbers from a to b, both included; none where a is above b
unfoldable pub from_to : ℕ → ℕ → List ℕ
from_to a b = range_with_len a (b + 1 - a)

-- the numbers at a place
unfoldable pub standing_at : (ℕ → ℕ) → ℕ → List ℕ
standing_at place p = filter (λ n. place n == p) (from_to 0 greatest_lab_number)

-- the order as a list: for each of the places 0 to 63 in turn, the number there
unfoldable pub in_order : (ℕ → ℕ) → List ℕ
in_order place = flat_map (standing_at place) (from_to 0 greatest_lab_number)
