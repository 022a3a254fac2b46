-- What is foretold of tickets on one row, and what a gate answers that is asked for the outlook of a lab.
use Rattle.std.specs.Prelude.{◌≡◌, ℕ, ◌+◌, Bool, not, nat_le, nat_lt, List, [], ◌∷◌, ◌++◌, map, length, take, slice_get, is_some, IfSome, Ok, Err, Result}
use Rattle.std.specs.List.{list_all, AllPass}
use Rattle.std.specs.Option.{option_map_or}
use Rattle.measures.specs.Limits.{most_waiting, is_tick, is_length}
use Rattle.measures.specs.Refusals.{granted_unless}
use Rattle.measures.specs.declared.refusal.Refusal.{Refusal}
use Rattle.measures.specs.declared.refusal.Refusal.TheVariants.{TableMismatch, TickOutOfRange, NoSuchLab, LengthOutOfRange, QueueFull, LockHeld, ListTooShort}
use Rattle.budget.specs.Meaning.{Meaning}
use Rattle.budget.specs.Imports.{Slot, next_slot, after_run, schedule, AllSoonest}
use Rattle.waiting.specs.Queues.{queue_of, headed_by}
use Rattle.waiting.specs.declared.ticket.Ticket.{Ticket}
use Rattle.history.specs.Gates.{GateState}
use Rattle.history.specs.Calls.{is_other_table}
use Rattle.outlook.specs.declared.entry.Entry.{Entry}

-- the declared lengths of tickets
abbrev pub lengths : List Ticket → List ℕ
lengths tickets = map (λ ticket. ticket.length) tickets

-- what is told of a ticket that has this slot
abbrev pub entry_of : Ticket → Slot → Entry
entry_of ticket slot = record { number = ticket.number; start = slot.start; end = slot.end }

-- the same of tickets in their slots, one after another
abbrev pub entries : List Ticket → List Slot → List Entry
entries [] slots = []
entries (ticket ∷ tickets) [] = []
entries (ticket ∷ tickets) (slot ∷ slots) = entry_of ticket slot ∷ entries tickets slots

-- the slots that are told
abbrev pub slots : List Entry → List Slot
slots list = map (λ e. record { start = e.start; end = e.end }) list

-- What is foretold of tickets on the row x from tick t on: they have the slots that come next on that row alone.
abbrev pub outlook : {R : Type 0} → Meaning R → R → ℕ → List Ticket → List Entry
outlook row x t tickets = entries tickets (schedule row x t (lengths tickets))

-- The entries at the head of a list tell the soonest slots of tickets on the row x from tick t on: each the soonest after the end of the one
-- before, on the row as that has left it.
abbrev pub AreSoonest : {R : Type 0} → Meaning R → R → ℕ → List Ticket → List Entry → Type 0
AreSoonest row x t tickets list = AllSoonest row x t (lengths tickets) (slots (take (length tickets) list))

-- The import of a ticket is run on the row x from tick t on: it has this entry, and leaves the row y at tick u.
unfoldable pub Ran : {R : Type 0} → Meaning R → R → ℕ → Ticket → Entry → R → ℕ → Type 0
Ran row x t ticket e y u =
    let slot = next_slot row x t ticket.length in
    (e ≡ entry_of ticket slot) × (y ≡ after_run row x ticket.length) × (u ≡ slot.end)

-- each ticket has a lawful declared length
abbrev pub are_lawful : List Ticket → Bool
are_lawful tickets = list_all (λ ticket. is_length ticket.length) tickets

-- the tickets that decide whether a list of them is denied for a length: as many as can be listed, and one more, which is denied whatever comes
-- after it
unfoldable pub deciding : List Ticket → List Ticket
deciding tickets = take (most_waiting + 1) tickets

-- so many places are too few for an entry for each ticket
abbrev pub place_checks : List Ticket → ℕ → List (Bool × Refusal)
place_checks tickets places = (nat_lt places (length tickets), ListTooShort) ∷ []

-- how it is denied to list tickets from tick t on, in a list of so many places
abbrev pub list_checks : ℕ → List Ticket → ℕ → List (Bool × Refusal)
list_checks t tickets places =
    (not (is_tick t), TickOutOfRange)
    ∷ (not (are_lawful (deciding tickets)), LengthOutOfRange)
    ∷ (nat_lt most_waiting (length tickets), QueueFull)
    ∷ place_checks tickets places

-- whether tickets can be listed so, or the first refusal
abbrev pub listable : ℕ → List Ticket → ℕ → Result (Unit {0}) Refusal
listable t tickets places = granted_unless (list_checks t tickets places) tt

-- every ticket that waits has a lawful declared length
pub record AllLawful (qs : List (List Ticket)) : Type 0 where
  pub each : (k : ℕ) → AllPass (λ ticket. is_length ticket.length) (queue_of qs k)

-- what a gate that is asked for an outlook answers, and what it leaves of the list that it is given
pub record Told : Type 0 where
  pub answer : Result ℕ Refusal
  pub list : List Entry

-- with this answer: the entries are written over the first places of the list; a denied call leaves the list that it was given
abbrev pub told : Result ℕ Refusal → List Entry → List Entry → Told
told (Ok n) new list = record { answer = Ok n; list = headed_by new list }
told (Err refusal) new list = record { answer = Err refusal; list = list }

-- how an outlook of a lab is denied, whatever the list
abbrev pub lab_checks : {R T : Type 0} → GateState T → List R → ℕ → List (Bool × Refusal)
lab_checks g rows lab = (is_other_table g rows, TableMismatch) ∷ (nat_le g.labs lab, NoSuchLab) ∷ (is_some g.running, LockHeld) ∷ []

-- and how it is, for a list of so many places
abbrev pub outlook_checks : {R T : Type 0} → GateState T → List R → ℕ → ℕ → List (Bool × Refusal)
outlook_checks g rows lab places = lab_checks g rows lab ++ place_checks (queue_of g.waiting lab) places

module _ {R T : Type 0} (row : Meaning R) where
  -- what is foretold of a lab: of its tickets in queue order, on its own row, from the clock on
  abbrev pub outlook_of : GateState T → List R → ℕ → List Entry
  outlook_of g rows lab = option_map_or (λ x. outlook row x g.clock (queue_of g.waiting lab)) (slice_get rows lab) []

  -- the entries at the head of the list tell the soonest slots of the lab's tickets
  abbrev pub TellsSoonest : GateState T → List R → ℕ → List Entry → Type 0
  TellsSoonest g rows lab list = IfSome (slice_get rows lab) (λ x. AreSoonest row x g.clock (queue_of g.waiting lab) list)

  -- outlook: this is listed, and how many tickets of the lab wait is answered
  abbrev pub outlooks : GateState T → List R → ℕ → List Entry → Told
  outlooks g rows lab list = told (granted_unless (outlook_checks g rows lab (length list)) (length (queue_of g.waiting lab))) (outlook_of g rows lab) list
