-- What every call keeps of a gate is so at every stage of a play.
use Rattle.std.proofs.Common.{◌≡◌, ℕ, if◌then◌else◌, List, [], ◌∷◌, fold, Ok, Err, Result, Option, Some, None, refl, ⊎_elim}
use Rattle.std.specs.Option.{option_map_or}
use Rattle.std.proofs.lemmas.Bool.{cases_Bool}
use Rattle.measures.specs.declared.refusal.Refusal.{Refusal}
use Rattle.budget.specs.Meaning.{Meaning}
use Rattle.turns.specs.Turns.{Turns}
use Rattle.history.specs.declared.import.Import.{Import}
use Rattle.history.specs.Gates.{GateState, Moment}
use Rattle.history.specs.Calls.{step}
use Rattle.history.specs.Histories.{Call, ToBegin, ToEnd, does}
use Rattle.plan.specs.Plans.{Lists}
use Rattle.course.specs.Asking.{Asked, asked_at}
use Rattle.course.specs.Printing.{ended}
use Rattle.course.specs.Course.{Stage, ends_at, called, ask, end_due, tick_passed}

-- a step leaves the gate that it found, or where it is granted another
pub step_keeps : {A R T : Type 0} (P : GateState T → Type 0) (g left : GateState T) (rows left_rows : List R) (answer : Result A Refusal)
    → P g → ((a : A) → answer ≡ Ok a → P left) → P (step g rows answer left left_rows).gate
step_keeps P g left rows left_rows (Ok a) found after = after a refl
step_keeps P g left rows left_rows (Err r) found after = found

module _ {R T : Type 0} (row : Meaning R) (turn : Turns T) (P : GateState T → Type 0)
    (each : (c : Call) (m : Moment R T) → P m.gate → P (does row turn c m.gate m.rows).left.gate) where
  -- it is so at this stage
  abbrev Holds : Stage R T → Type 0
  Holds s = P s.moment.gate

  asks_keep : (asks : List Asked) (s : Stage R T) → Holds s → Holds (fold (ask row turn) s asks)
  asks_keep [] s found = found
  asks_keep (x ∷ asks) s found = asks_keep asks (ask row turn s x) (each x.call s.moment found)

  end_keeps : (t : ℕ) (s : Stage R T) → Holds s → Holds (end_due row turn t s)
  end_keeps t s found = by_import s.moment.gate.running
    where
      by_import : (o : Option Import) → Holds (option_map_or (λ i. if ends_at t i then called row turn (ended i.lab) (ToEnd t) s else s) o s)
      by_import None = found
      by_import (Some i) = ⊎_elim (λ yes. rw yes (each (ToEnd t) s.moment found)) (λ no. rw no found) (cases_Bool (ends_at t i))

  -- it stays so, before the begin of a tick
  pub asked_keeps : (p : Lists) (s : Stage R T) (t : ℕ) → P s.moment.gate → P (fold (ask row turn) (end_due row turn t s) (asked_at p t)).moment.gate
  asked_keeps p s t found = asks_keep (asked_at p t) (end_due row turn t s) (end_keeps t s found)

  -- and after it
  pub tick_keeps : (p : Lists) (s : Stage R T) (t : ℕ) → P s.moment.gate → P (tick_passed row turn p t s).moment.gate
  tick_keeps p s t found = each (ToBegin t) (fold (ask row turn) (end_due row turn t s) (asked_at p t)).moment (asked_keeps p s t found)
