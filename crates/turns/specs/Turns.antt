-- What a turn rule means to its callers, whatever it is made of, and what every turn rule has to show.
use Rattle.std.specs.Prelude.{◌≡◌, ℕ, ◌<◌, Bool, ◌&&◌, nat_lt, List, if◌then◌else◌}
use Rattle.measures.specs.Limits.{most_labs, is_lab_number}
use Rattle.turns.specs.Orders.{in_order}

-- A turn rule is an order of the numbers 0 to 63.
pub record Turns (T : Type 0) : Type 0 where
  -- where each number stands: a lower place comes first
  pub place : T → ℕ → ℕ
  -- the rule after a number was served
  pub served : T → ℕ → T

module _ {T : Type 0} (m : Turns T) where
  -- a comes before b
  abbrev pub is_ahead : T → ℕ → ℕ → Bool
  is_ahead x a b = is_lab_number a && is_lab_number b && nat_lt (m.place x a) (m.place x b)

  -- the rule after it heard that k was served: a number above 63 changes nothing
  abbrev pub after_served : T → ℕ → T
  after_served x k = if is_lab_number k then m.served x k else x

  -- the numbers in their order, of a rule whose places are 0 to 63
  abbrev pub order : T → List ℕ
  order x = in_order (m.place x)

-- The laws, of whatever a turn rule holds.
pub record Fair {T : Type 0} (m : Turns T) : Type 0 where
  -- no two in one place
  pub apart : (x : T) (a b : ℕ) → a < most_labs → b < most_labs → m.place x a ≡ m.place x b → a ≡ b
  -- each number behind k is then ahead of k
  pub yields : (x : T) (k j : ℕ) → k < most_labs → j < most_labs → m.place x k < m.place x j
      → m.place (m.served x k) j < m.place (m.served x k) k
  -- numbers behind k keep their order among themselves
  pub keeps : (x : T) (k i j : ℕ) → k < most_labs → i < most_labs → j < most_labs
      → m.place x k < m.place x i → m.place x i < m.place x j
      → m.place (m.served x k) i < m.place (m.served x k) j
