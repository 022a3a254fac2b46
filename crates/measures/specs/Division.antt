-- Division rounded up.
use Rattle.std.specs.Prelude.{ℕ, ◌+◌, ◌-◌, ◌*◌, ◌/◌, ◌≤◌}

-- a / b, rounded up, for a b above 0
abbrev pub up_div : ℕ → ℕ → ℕ
up_div a b = (a + (b - 1)) / b

-- q is the least number of times b that reaches a
pub record Least (a b q : ℕ) : Type 0 where
  pub reaches : a ≤ q * b
  pub least : (k : ℕ) → a ≤ k * b → q ≤ k
