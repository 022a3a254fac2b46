-- What each call answers, and what gate and rows it leaves. Rows that a denied call was given, and the gate, stay as they were.
use Rattle.std.specs.Prelude.{ℕ, ◌+◌, ◌-◌, Bool, not, ◌&&◌, ◌||◌, nat_eq, nat_le, nat_lt, List, [], ◌∷◌, ◌++◌, map, length, slice_get, slice_set, is_some, is_none, if◌then◌else◌, Ok, Err, Result, Option}
use Rattle.std.specs.List.{sum_by}
use Rattle.std.specs.Option.{option_map_or}
use Rattle.std.specs.declared.option.Option.TheVariants.{Some, None}
use Rattle.measures.specs.Limits.{is_tick, is_length, is_lab_count, is_rate_sum, is_full, is_all_given}
use Rattle.measures.specs.Refusals.{granted_unless}
use Rattle.measures.specs.declared.refusal.Refusal.{Refusal}
use Rattle.measures.specs.declared.refusal.Refusal.TheVariants.{LabCountOutOfRange, RateSumTooLarge, TableMismatch, TickOutOfRange, NoSuchLab, LengthOutOfRange, DueOutOfRange, QueueFull, TicketsExhausted, NoSuchTicket, LockHeld, LockFree}
use Rattle.budget.specs.Meaning.{Meaning}
use Rattle.turns.specs.Turns.{Turns, after_served}
use Rattle.waiting.specs.Keys.{key_by}
use Rattle.waiting.specs.Queues.{queue_of, none_waiting, with_ticket, without_first, waiting_ticket, without_ticket}
use Rattle.waiting.specs.declared.queue_order.QueueOrder.{QueueOrder}
use Rattle.waiting.specs.declared.ticket.Ticket.{Ticket}
use Rattle.history.specs.declared.import.Import.{Import}
use Rattle.history.specs.declared.turn.Turn.{Turn}
use Rattle.history.specs.Gates.{GateState, rested_to}
use Rattle.history.specs.Standing.{next_import, whose_turn}

-- what a call answers, and the gate and the rows that it leaves
pub record Step (A R T : Type 0) : Type 0 where
  pub answer : Result A Refusal
  pub gate : GateState T
  pub rows : List R

-- With this answer of a call that found the gate g and rows: a granted call leaves what is given after it, and a denied one what it found.
abbrev pub step : {A R T : Type 0} → GateState T → List R → Result A Refusal → GateState T → List R → Step A R T
step g rows (Ok a) left left_rows = record { answer = Ok a; gate = left; rows = left_rows }
step g rows (Err refusal) left left_rows = record { answer = Err refusal; gate = g; rows = rows }

-- the table has not one row for each lab
abbrev pub is_other_table : {R T : Type 0} → GateState T → List R → Bool
is_other_table g rows = not (nat_eq (length rows) g.labs)

-- the tick is below the clock or above the last tick
abbrev pub is_out_of_time : {T : Type 0} → GateState T → ℕ → Bool
is_out_of_time g t = nat_lt t g.clock || not (is_tick t)

-- how an opening is denied: each check with its refusal, in order
abbrev pub open_checks : {R : Type 0} → Meaning R → List R → List (Bool × Refusal)
open_checks row rows = (not (is_lab_count (length rows)), LabCountOutOfRange) ∷ (not (is_rate_sum (sum_by row.rate rows)), RateSumTooLarge) ∷ []

module _ {R T : Type 0} (g : GateState T) (rows : List R) (t : ℕ) where
  -- the first two checks of every call but open
  abbrev pub call_checks : List (Bool × Refusal)
  call_checks = (is_other_table g rows, TableMismatch) ∷ (is_out_of_time g t, TickOutOfRange) ∷ []

  -- how file is denied, for a lab, a declared length and a due tick
  abbrev pub file_checks : ℕ → ℕ → ℕ → List (Bool × Refusal)
  file_checks lab length_declared due =
      call_checks
      ++ (nat_le g.labs lab, NoSuchLab)
      ∷ (not (is_length length_declared), LengthOutOfRange)
      ∷ (nat_lt due t || not (is_tick due), DueOutOfRange)
      ∷ (is_full (length (queue_of g.waiting lab)), QueueFull)
      ∷ (is_all_given g.given, TicketsExhausted)
      ∷ []

  -- how withdraw is denied
  abbrev pub withdraw_checks : ℕ → List (Bool × Refusal)
  withdraw_checks number = call_checks ++ (is_none (waiting_ticket g.waiting number), NoSuchTicket) ∷ []

  -- how begin is denied
  abbrev pub begin_checks : List (Bool × Refusal)
  begin_checks = call_checks ++ (is_some g.running, LockHeld) ∷ []

  -- how end is denied
  abbrev pub end_checks : List (Bool × Refusal)
  end_checks = call_checks ++ (is_none g.running, LockFree) ∷ []

-- a gate at its beginning, with so many labs: clock 0, no ticket given, none waiting, and a free lock
abbrev pub anew : {T : Type 0} → T → ℕ → QueueOrder → GateState T
anew turns labs order = record { turns = turns; labs = labs; order = order; clock = 0; given = 0; waiting = none_waiting; running = None }

-- the gate at tick t
abbrev pub at_tick : {T : Type 0} → GateState T → ℕ → GateState T
at_tick g t = record g { clock = t }

-- the ticket that a lab is given for what it files at tick t: the next number, and the key that the queue order gives
abbrev pub next_ticket : {T : Type 0} → GateState T → ℕ → ℕ → ℕ → ℕ → Ticket
next_ticket g t lab length_declared due = record { key = key_by g.order length_declared due; number = g.given + 1; lab = lab; filed = t; length = length_declared; due = due }

-- the ticket waits, and the count of tickets is its number
abbrev pub with_filed : {T : Type 0} → GateState T → Ticket → GateState T
with_filed g ticket = record g { given = ticket.number; waiting = with_ticket g.waiting ticket }

-- how long an import has held the lock at tick t
abbrev pub held_ticks : ℕ → Import → ℕ
held_ticks t i = t - i.began

-- what an end at tick t answers of the import that held the lock: ticket number, ticks held, and response time
abbrev pub end_answer : ℕ → Import → ℕ × ℕ × ℕ
end_answer t i = (i.number, held_ticks t i, t - i.filed)

module _ {R : Type 0} (row : Meaning R) where
  -- a row once it has been told that a run of c ticks has ended: one that answers no stays as it is
  abbrev pub told : R → ℕ → R
  told x c = if is_tick c && row.able x then row.ended x c else x

  -- the rows, where that of lab k is told that a run of c ticks has ended
  abbrev pub with_told : List R → ℕ → ℕ → List R
  with_told rows k c = option_map_or (λ x. slice_set rows k (told x c)) (slice_get rows k) rows

module _ {R T : Type 0} (row : Meaning R) where
  -- open: each row begins anew, and the turn rule keeps its order
  abbrev pub opens : GateState T → List R → QueueOrder → Step (Unit {0}) R T
  opens g rows order = step g rows (granted_unless (open_checks row rows) tt) (anew g.turns (length rows) order) (map row.restarted rows)

  -- file: the ticket waits, and its number is answered
  abbrev pub files : GateState T → List R → ℕ → ℕ → ℕ → ℕ → Step ℕ R T
  files g rows t lab length_declared due =
      step g rows
      (granted_unless (file_checks g rows t lab length_declared due) (g.given + 1))
      (with_filed (at_tick g t) (next_ticket g t lab length_declared due))
      (rested_to row g rows t)

  -- withdraw: the ticket waits no more, and its lab is answered
  abbrev pub withdraws : GateState T → List R → ℕ → ℕ → Step ℕ R T
  withdraws g rows t number =
      step g rows
      (granted_unless (withdraw_checks g rows t number) (option_map_or (λ ticket. ticket.lab) (waiting_ticket g.waiting number) 0))
      (record (at_tick g t) { waiting = without_ticket g.waiting number })
      (rested_to row g rows t)

  -- end: the lock is free, and the row of the lab that held it is told of the run
  abbrev pub ends : GateState T → List R → ℕ → Step (ℕ × ℕ × ℕ) R T
  ends g rows t =
      step g rows
      (granted_unless (end_checks g rows t) (option_map_or (end_answer t) g.running (0, 0, 0)))
      (record (at_tick g t) { running = None })
      (option_map_or (λ i. with_told row (rested_to row g rows t) i.lab (held_ticks t i)) g.running rows)

-- the gate once what begins next has begun: the turn rule has heard of its lab, its ticket has left, and it holds the lock
abbrev pub with_begun : {T : Type 0} → Turns T → GateState T → Option (ℕ × Ticket) → GateState T
with_begun turn g None = g
with_begun turn g (Some (k, ticket)) = record g {
  turns = after_served turn g.turns k;
  waiting = without_first g.waiting k;
  running = Some (record { lab = k; number = ticket.number; length = ticket.length; filed = ticket.filed; began = g.clock });
}

module _ {R T : Type 0} (row : Meaning R) (turn : Turns T) where
  -- begin: what begins next begins, if anything can, and whose turn it is is answered
  abbrev pub begins : GateState T → List R → ℕ → Step Turn R T
  begins g rows t =
      let rested = rested_to row g rows t in
      step g rows
      (granted_unless (begin_checks g rows t) (whose_turn row turn (at_tick g t) rested))
      (with_begun turn (at_tick g t) (next_import row turn (at_tick g t) rested))
      rested
