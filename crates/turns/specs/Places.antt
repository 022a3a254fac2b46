-- The places of the numbers 0 to 63 as a list: the place of n is entry n.
use Rattle.std.specs.Prelude.{◌≡◌, ℕ, ◌-◌, ◌<◌, ◌≤◌, List, nat_lt, slice_index, if◌then◌else◌, ◌==◌}
use Rattle.measures.specs.Limits.{most_labs, greatest_lab_number}
use Rattle.turns.specs.Orders.{from_to}

-- each number has one of the places 0 to 63
abbrev pub Within : List ℕ → Type 0
Within places = (n : ℕ) → n < most_labs → slice_index places n ≤ greatest_lab_number

-- no two in one place
abbrev pub Apart : List ℕ → Type 0
Apart places = (a b : ℕ) → a < most_labs → b < most_labs → slice_index places a ≡ slice_index places b → a ≡ b

-- number n at place n
abbrev pub own : List ℕ
own = from_to 0 greatest_lab_number

-- where place p moves to when the number at place c goes to the end: those behind c move up by one, and nothing else moves
abbrev pub moved : ℕ → ℕ → ℕ
moved c p = if p == c then greatest_lab_number else if nat_lt c p then p - 1 else p
