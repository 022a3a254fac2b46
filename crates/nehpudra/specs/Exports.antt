-- What each call of a host answers and leaves.
use Rattle.std.specs.Prelude.{◌≡◌, ◌⊎◌, ℕ, List, length, nat_lt, nat_eq, if◌then◌else◌, Result, Ok, Err, Option, Some, None, IfSome}
use Rattle.measures.specs.Limits.{greatest_lab_number}
use Rattle.measures.specs.Refusals.{number_of}
use Rattle.measures.specs.declared.refusal.Refusal.{Refusal}
use Rattle.measures.specs.declared.refusal.Refusal.TheVariants.{ListTooShort}
use Rattle.turns.specs.Circular.{ending_with}
use Rattle.turns.specs.LongestUnserved.{begun}
use Rattle.site_turns.specs.Turns.{site}
use Rattle.site_turns.specs.declared.SiteTurns.{SiteTurns}
use Rattle.site_turns.specs.declared.SiteTurns.TheVariants.{Circular, LongestUnserved}
use Rattle.waiting.specs.Queues.{headed_by}
use Rattle.waiting.specs.declared.queue_order.QueueOrder.{QueueOrder}
use Rattle.waiting.specs.declared.queue_order.QueueOrder.TheVariants.{Arrival, Due, Short}
use Rattle.history.specs.Gates.{GateState}
use Rattle.history.specs.Calls.{Step, anew}
use Rattle.history.specs.Calls as gate
use Rattle.history.specs.Guaranteed.{Guarantee}
use Rattle.outlook.specs.Outlooks as foretold
use Rattle.outlook.specs.declared.entry.Entry.{Entry}
use Rattle.host_rows.specs.Row.{host}
use Rattle.host_rows.specs.declared.HostRow.{HostRow}
use Rattle.host_gates.specs.Answers.{no_gate, no_memory, status, untold, told, no_turn, turn_told, none_ended, ended_told}
use Rattle.host_gates.specs.declared.answers.Told.{Told}
use Rattle.host_gates.specs.declared.answers.HostTurn.{HostTurn}
use Rattle.host_gates.specs.declared.answers.HostEnded.{HostEnded}

-- what making a row leaves, where x was
abbrev pub row_left : Result HostRow Refusal → HostRow → HostRow
row_left (Ok row) x = row
row_left (Err refusal) x = x

-- the turns that a number stands for, at their beginning
abbrev pub turns_for : ℕ → SiteTurns
turns_for n = if nat_eq n 0 then Circular (ending_with greatest_lab_number) else LongestUnserved begun

-- the queue order that a number stands for
abbrev pub order_for : ℕ → QueueOrder
order_for n = if nat_eq n 0 then Arrival else if nat_eq n 1 then Due else Short

-- A new gate was made in a handle, or memory ran out, and the handle holds what it held.
abbrev pub MadeIn : ℕ → Option (GateState SiteTurns) → ℕ → Option (GateState SiteTurns) → Type 0
MadeIn turns old answer new = ((answer ≡ 0) × (new ≡ Some (anew (turns_for turns) 0 Arrival))) ⊎ ((answer ≡ no_memory) × (new ≡ old))

-- what a host is told, and what its handle and its table of rows hold then
pub record HostStep (A : Type 0) : Type 0 where
  pub answer : A
  pub gate : Option (GateState SiteTurns)
  pub rows : List HostRow

-- A call goes to the gate that the handle holds, and its answer is told; where there is none, that is told, and nothing changes.
abbrev pub on_gate : {A B : Type 0} → (Result A Refusal → B) → B → Option (GateState SiteTurns) → List HostRow → (GateState SiteTurns → Step A HostRow SiteTurns)
    → HostStep B
on_gate tell none None rows call = record { answer = none; gate = None; rows = rows }
on_gate tell none (Some g) rows call = record { answer = tell (call g).answer; gate = Some (call g).gate; rows = (call g).rows }

-- What is guaranteed of everything that can follow, of the gate that a handle holds and the table of rows.
abbrev pub GuaranteedIn : Option (GateState SiteTurns) → List HostRow → Type 0
GuaranteedIn handle rows = IfSome handle (λ g. Guarantee host site (record { gate = g; rows = rows }))

module _ (handle : Option (GateState SiteTurns)) (rows : List HostRow) where
  abbrev pub opens : ℕ → HostStep ℕ
  opens order = on_gate status no_gate handle rows (λ g. gate.opens host g rows (order_for order))

  abbrev pub files : ℕ → ℕ → ℕ → ℕ → HostStep Told
  files t lab declared due = on_gate told (untold no_gate) handle rows (λ g. gate.files host g rows t lab declared due)

  abbrev pub withdraws : ℕ → ℕ → HostStep Told
  withdraws t number = on_gate told (untold no_gate) handle rows (λ g. gate.withdraws host g rows t number)

  abbrev pub begins : ℕ → HostStep HostTurn
  begins t = on_gate turn_told (no_turn no_gate) handle rows (λ g. gate.begins host site g rows t)

  abbrev pub ends : ℕ → HostStep HostEnded
  ends t = on_gate ended_told (none_ended no_gate) handle rows (λ g. gate.ends host g rows t)

-- what a host is told of an outlook, and what its list holds then
pub record HostOutlook : Type 0 where
  pub answer : Told
  pub list : List Entry

abbrev pub outlooks : Option (GateState SiteTurns) → List HostRow → ℕ → List Entry → HostOutlook
outlooks None rows lab list = record { answer = untold no_gate; list = list }
outlooks (Some g) rows lab list = let said = foretold.outlooks host g rows lab list in record { answer = told said.answer; list = said.list }

-- what a host is told of a text, and what its slice holds then
pub record Written : Type 0 where
  pub answer : Told
  pub out : List ℕ

-- A text is written at the head of a slice, where there is room. How long it is is told in either case.
abbrev pub written : List ℕ → List ℕ → Written
written text out =
    if nat_lt (length out) (length text)
    then record { answer = record { status = number_of ListTooShort; number = length text }; out = out }
    else record { answer = record { status = 0; number = length text }; out = headed_by text out }

-- So it was, or memory ran out, and nothing was written.
abbrev pub WrittenTo : List ℕ → List ℕ → Told → List ℕ → Type 0
WrittenTo text old answer new = ((answer ≡ (written text old).answer) × (new ≡ (written text old).out)) ⊎ ((answer ≡ untold no_memory) × (new ≡ old))
