-- Circular turns: the order goes round, and whoever was served last ends it.
use Rattle.std.specs.Prelude.{ℕ, ◌+◌, ◌-◌, List, ◌++◌, nat_lt, if◌then◌else◌}
use Rattle.measures.specs.Limits.{greatest_lab_number}
use Rattle.turns.specs.Orders.{from_to}
use Rattle.turns.specs.Turns.{Turns}
use Rattle.turns.specs.declared.circular.CircularTurns.{CircularTurns}

-- The numbers above the one that ends the order come first, and then it goes round from 0. Where a number above 63 is stored, there is
-- none above it, and the order is that of the numbers.
abbrev pub place : CircularTurns → ℕ → ℕ
place x n = if nat_lt x.ends_with n then n - (x.ends_with + 1) else n + (greatest_lab_number - x.ends_with)

-- the order that ends with k
abbrev pub ending_with : ℕ → CircularTurns
ending_with k = record { ends_with = k }

-- whoever is served ends the order, whatever it was
abbrev pub circular : Turns CircularTurns
circular = record { place = place; served = λ x k. ending_with k }

-- the order after k was served: it begins at k + 1, goes round, and ends with k
abbrev pub round_to : ℕ → List ℕ
round_to k = from_to (k + 1) greatest_lab_number ++ from_to 0 k
