-- What becomes of a lab that is left alone with its tickets, by the gate's own calls, and what it is for a list to foretell just this.
use Rattle.std.specs.Prelude.{◌≡◌, ◌↔◌, ℕ, ◌+◌, ◌-◌, ◌<◌, ◌≤◌, List, [], ◌∷◌, ◌++◌, Ok, if◌then◌else◌}
use Rattle.measures.specs.Limits.{last, is_tick}
use Rattle.budget.specs.Meaning.{Meaning}
use Rattle.turns.specs.Turns.{Turns}
use Rattle.waiting.specs.Queues.{queue_of, none_waiting, with_queue}
use Rattle.waiting.specs.declared.ticket.Ticket.{Ticket}
use Rattle.history.specs.Gates.{Moment}
use Rattle.history.specs.Histories.{Call, ToBegin, ToEnd, Event, End, does}
use Rattle.history.specs.Guaranteed.{started, Starts}
use Rattle.outlook.specs.declared.entry.Entry.{Entry}

-- the moment with no ticket waiting but those of one lab
abbrev pub only : {R T : Type 0} → ℕ → Moment R T → Moment R T
only lab s = record s { gate = record s.gate { waiting = with_queue none_waiting lab (queue_of s.gate.waiting lab) } }

module _ {R T : Type 0} (row : Meaning R) (turn : Turns T) where
  -- a call on the gate's own table, with its answer
  abbrev pub event : Call → Moment R T → Event
  event c s = (does row turn c s.gate s.rows).event

  -- and the moment that it leaves
  abbrev pub after : Call → Moment R T → Moment R T
  after c s = (does row turn c s.gate s.rows).left

  -- a begin at tick t would start an import
  abbrev pub CanBegin : Moment R T → ℕ → Type 0
  CanBegin s t = (lab : ℕ) × Starts lab (event (ToBegin t) s)

  -- t is the first tick at which a begin would start an import, and that import is declared to last c ticks
  pub record FirstBegin (s : Moment R T) (t c : ℕ) : Type 0 where
    pub lab : ℕ
    pub number : ℕ
    pub starts : event (ToBegin t) s ≡ started t lab number c
    pub not_before : (u : ℕ) → u < t → CanBegin s u → ⊥

  -- From a moment on the gate is left alone: each import begins as soon as one can and lasts as declared, and nothing is filed or withdrawn.
  -- These are the begins and ends that come up to the last tick, with their answers, the oldest first.
  pub data LeftAlone : Moment R T → List Event → Type 0 where
    -- no import can begin any more
    over : {s : Moment R T} → ((t : ℕ) → CanBegin s t → ⊥) → LeftAlone s []
    -- an import begins and ends
    runs : {s : Moment R T} {t c : ℕ} {es : List Event} → FirstBegin s t c → t + c ≤ last
        → LeftAlone (after (ToEnd (t + c)) (after (ToBegin t) s)) es
        → LeftAlone s (event (ToBegin t) s ∷ event (ToEnd (t + c)) (after (ToBegin t) s) ∷ es)
    -- an import begins, and is to end after the last tick
    outlasts : {s : Moment R T} {t c : ℕ} → FirstBegin s t c → last < t + c → LeftAlone s (event (ToBegin t) s ∷ [])

-- an event at tick t, if that is not above the last tick
abbrev pub up_to_last : ℕ → Event → List Event
up_to_last t e = if is_tick t then e ∷ [] else []

-- what an entry foretells of a ticket of a lab: it begins at its start, and ends at its end, with the ticks held and the response time
abbrev pub foretold : ℕ → Ticket → Entry → List Event
foretold lab ticket e =
    up_to_last e.start (started e.start lab e.number ticket.length)
    ++ up_to_last e.end (End e.end (Ok (e.number, e.end - e.start, e.end - ticket.filed)))

-- the same of tickets and their entries, one after another
abbrev pub all_foretold : ℕ → List Ticket → List Entry → List Event
all_foretold lab [] list = []
all_foretold lab (ticket ∷ tickets) [] = []
all_foretold lab (ticket ∷ tickets) (e ∷ list) = foretold lab ticket e ++ all_foretold lab tickets list

-- A list foretells what becomes of a lab: if it is left alone, and no other lab has tickets, the gate's own calls up to the last tick are the
-- begins and ends that the list tells of its tickets, in this order and no others.
unfoldable pub Foretells : {R T : Type 0} → Meaning R → Turns T → Moment R T → ℕ → List Entry → Type 0
Foretells row turn s lab list =
    (es : List Event) → LeftAlone row turn (only lab s) es ↔ (es ≡ all_foretold lab (queue_of s.gate.waiting lab) list)
