-- What happens at a gate by a plan, tick by tick.
use Rattle.std.specs.Prelude.{ℕ, zero, suc, ◌+◌, ◌-◌, ◌==◌, Bool, List, ◌++◌, fold, if◌then◌else◌, Result}
use Rattle.std.specs.Option.{option_map_or}
use Rattle.measures.specs.Limits.{last}
use Rattle.measures.specs.declared.refusal.Refusal.{Refusal}
use Rattle.budget.specs.Meaning.{Meaning}
use Rattle.turns.specs.Turns.{Turns}
use Rattle.history.specs.declared.import.Import.{Import}
use Rattle.history.specs.declared.turn.Turn.{Turn}
use Rattle.history.specs.Gates.{Moment}
use Rattle.history.specs.Calls.{begins}
use Rattle.history.specs.Histories.{Call, ToBegin, ToEnd, Event, does}
use Rattle.plan.specs.Plans.{Lists}
use Rattle.course.specs.Asking.{Asked, asked_at}
use Rattle.course.specs.Printing.{refused, ended}

-- how far a play has come
pub record Stage (R T : Type 0) : Type 0 where
  pub moment : Moment R T
  -- the bytes printed so far
  pub printed : List ℕ

-- the import i is to end at tick t: it lasts as declared
abbrev pub ends_at : ℕ → Import → Bool
ends_at t i = i.began + i.length == t

module _ {R T : Type 0} (row : Meaning R) (turn : Turns T) where
  -- a call is made on the gate's own table, and of what happens this is printed
  abbrev pub called : (Event → List ℕ) → Call → Stage R T → Stage R T
  called printing c s =
      let d = does row turn c s.moment.gate s.moment.rows in
      record { moment = d.left; printed = s.printed ++ printing d.event }

  -- a call that the plan asks for is made
  abbrev pub ask : Stage R T → Asked → Stage R T
  ask s a = called (refused a.line) a.call s

  -- the import that holds the lock ends, if it is to end at tick t
  abbrev pub end_due : ℕ → Stage R T → Stage R T
  end_due t s = option_map_or (λ i. if ends_at t i then called (ended i.lab) (ToEnd t) s else s) s.moment.gate.running s

  -- what a begin at tick t answers
  abbrev pub begin_answer : ℕ → Stage R T → Result Turn Refusal
  begin_answer t s = (begins row turn s.moment.gate s.moment.rows t).answer

  -- begin is called at tick t, also where the lock is held, when it is denied
  abbrev pub begun : ℕ → Stage R T → Stage R T
  begun t s = record s { moment = (does row turn (ToBegin t) s.moment.gate s.moment.rows).left }

  -- all that happens at tick t: first an end, then what the plan asks for, withdrawals before filings, then a begin
  abbrev pub tick_passed : Lists → ℕ → Stage R T → Stage R T
  tick_passed p t s = begun t (fold ask (end_due t s) (asked_at p t))

  -- the n ticks from t on
  unfoldable pub ticks : Lists → ℕ → ℕ → Stage R T → Stage R T
  ticks p t zero s = s
  ticks p t (suc n) s = ticks p (suc t) n (tick_passed p t s)

  -- what is printed once all ticks from t up to the last have passed
  abbrev pub printed_from : Lists → ℕ → Stage R T → List ℕ
  printed_from p t s = (ticks p t (last + 1 - t) s).printed
