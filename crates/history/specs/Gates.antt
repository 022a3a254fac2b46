-- A gate as its callers see it, with the table of rows that the host brings.
use Rattle.std.specs.Prelude.{ℕ, ◌+◌, ◌-◌, List, [], ◌∷◌, nat_eq, Bool, false, if◌then◌else◌, Option}
use Rattle.std.specs.Option.{option_map_or}
use Rattle.budget.specs.Meaning.{Meaning}
use Rattle.waiting.specs.declared.ticket.Ticket.{Ticket}
use Rattle.waiting.specs.declared.queue_order.QueueOrder.{QueueOrder}
use Rattle.history.specs.declared.import.Import.{Import}

-- what a gate keeps, over a turn rule of the type T
pub record GateState (T : Type 0) : Type 0 where
  -- who comes first where several labs could begin
  pub turns : T
  -- how many labs there are
  pub labs : ℕ
  -- in which order a lab's tickets wait
  pub order : QueueOrder
  -- the tick of the latest granted call
  pub clock : ℕ
  -- how many tickets were given
  pub given : ℕ
  -- for each number that a lab may have, its waiting tickets in queue order
  pub waiting : List (List Ticket)
  -- the import that holds the lock, if there is one
  pub running : Option Import

-- a gate and its own table of rows, one for each lab
pub record Moment (R T : Type 0) : Type 0 where
  pub gate : GateState T
  pub rows : List R

-- lab k holds the lock
abbrev pub is_running : Option Import → ℕ → Bool
is_running running k = option_map_or (λ i. nat_eq i.lab k) running false

-- the row x of lab k once d ticks have passed: it rests, unless its lab holds the lock
abbrev pub rested_one : {R : Type 0} → Meaning R → Option Import → ℕ → ℕ → R → R
rested_one row running d k x = if is_running running k then x else row.rested x d

-- the rows of lab k and those above it once d ticks have passed
unfoldable pub rest_others : {R : Type 0} → Meaning R → Option Import → ℕ → ℕ → List R → List R
rest_others row running d k [] = []
rest_others row running d k (x ∷ xs) = rested_one row running d k x ∷ rest_others row running d (k + 1) xs

-- the rows at tick t, where the clock has not passed it
abbrev pub rested_to : {R T : Type 0} → Meaning R → GateState T → List R → ℕ → List R
rested_to row g rows t = rest_others row g.running (t - g.clock) 0 rows
