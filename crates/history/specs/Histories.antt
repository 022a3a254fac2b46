-- What can happen to a gate after it was opened: any calls, each with its answer.
use Rattle.std.specs.Prelude.{◌≡◌, ℕ, List, [], ◌∷◌, length, Err, Result}
use Rattle.measures.specs.declared.refusal.Refusal.{Refusal}
use Rattle.budget.specs.Meaning.{Meaning}
use Rattle.turns.specs.Turns.{Turns}
use Rattle.waiting.specs.declared.queue_order.QueueOrder.{QueueOrder}
use Rattle.history.specs.declared.turn.Turn.{Turn}
use Rattle.history.specs.Gates.{GateState, Moment}
use Rattle.history.specs.Calls.{Step, opens, files, withdraws, begins, ends}

-- what is said to a gate
pub data Call : Type 0 where
  ToFile : (tick lab length due : ℕ) → Call
  ToWithdraw : (tick number : ℕ) → Call
  ToBegin : (tick : ℕ) → Call
  ToEnd : (tick : ℕ) → Call

-- a call with what it was answered; of openings just those that were denied, since another one begins a history anew
pub data Event : Type 0 where
  OpenDenied : Refusal → Event
  File : (tick lab length due : ℕ) → Result ℕ Refusal → Event
  Withdraw : (tick number : ℕ) → Result ℕ Refusal → Event
  Begin : (tick : ℕ) → Result Turn Refusal → Event
  End : (tick : ℕ) → Result (ℕ × ℕ × ℕ) Refusal → Event

-- a call and its answer, with the gate and the rows that it leaves
pub record Done (R T : Type 0) : Type 0 where
  pub event : Event
  pub left : Moment R T

-- a step as an event, made of its answer, and the moment that it leaves
abbrev pub done : {A R T : Type 0} → (Result A Refusal → Event) → Step A R T → Done R T
done as_event s = record { event = as_event s.answer; left = record { gate = s.gate; rows = s.rows } }

module _ {R T : Type 0} (row : Meaning R) (turn : Turns T) where
  -- each call does what its own definition says
  abbrev pub does : Call → GateState T → List R → Done R T
  does (ToFile t lab declared due) g rows = done (File t lab declared due) (files row g rows t lab declared due)
  does (ToWithdraw t number) g rows = done (Withdraw t number) (withdraws row g rows t number)
  does (ToBegin t) g rows = done (Begin t) (begins row turn g rows t)
  does (ToEnd t) g rows = done (End t) (ends row g rows t)

  -- One call on a gate: on its own table; on a table of another length, whatever the call leaves of that one; or an opening, with any table,
  -- that is denied.
  pub data Happens (s : Moment R T) : Event → Moment R T → Type 0 where
    on_own_table : (c : Call) → Happens s (does c s.gate s.rows).event (does c s.gate s.rows).left
    on_another_table : (c : Call) (other : List R) → (length other ≡ length s.rows → ⊥)
        → Happens s (does c s.gate other).event (record { gate = (does c s.gate other).left.gate; rows = s.rows })
    denied_opening : (other : List R) (order : QueueOrder) (refusal : Refusal) → (opens row s.gate other order).answer ≡ Err refusal
        → Happens s (OpenDenied refusal) (record { gate = (opens row s.gate other order).gate; rows = s.rows })

  -- from a moment on, a succession of calls with their answers, the newest first, and the moment that they lead to
  pub data History (start : Moment R T) : List Event → Moment R T → Type 0 where
    opened : History start [] start
    next : {es : List Event} {s later : Moment R T} {e : Event} → History start es s → Happens s e later → History start (e ∷ es) later
