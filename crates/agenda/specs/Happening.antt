-- What an event of a play does.
use Rattle.std.specs.Prelude.{ℕ, ◌+◌, List, slice_get, fold, Result, Ok, Err, if◌then◌else◌}
use Rattle.std.specs.Option.{option_map_or}
use Rattle.measures.specs.Limits.{is_tick}
use Rattle.measures.specs.declared.refusal.Refusal.{Refusal}
use Rattle.earliest.specs.Sorted.{inserted}
use Rattle.budget.specs.Meaning.{Meaning}
use Rattle.turns.specs.Turns.{Turns}
use Rattle.history.specs.declared.turn.Turn.{Turn}
use Rattle.history.specs.declared.turn.Turn.TheVariants.{Began, Wait, Nothing}
use Rattle.history.specs.Histories.{ToEnd}
use Rattle.plan.specs.Plans.{Lists}
use Rattle.course.specs.Asking.{filing_call, withdrawal_call, filings_line, withdrawals_line}
use Rattle.course.specs.Printing.{ended}
use Rattle.course.specs.Course.{Stage, called, ask}
use Rattle.agenda.specs.Events.{event_before, end_at, begin_at, head_at}
use Rattle.agenda.specs.declared.event.Event.{Event}
use Rattle.agenda.specs.declared.event.Kind.{Kind}
use Rattle.agenda.specs.declared.event.Kind.TheVariants.{End, Withdrawal, Filing, Begin}

module _ {R T : Type 0} (row : Meaning R) (turn : Turns T) where
  -- the import that holds the lock ends at tick t
  abbrev pub end_running : ℕ → Stage R T → Stage R T
  end_running t s = option_map_or (λ i. called row turn (ended i.lab) (ToEnd t) s) s.moment.gate.running s

  -- What an event of this kind does: the import that runs ends, or what stands in a place of the plan is asked for. A begin is called once the
  -- other events of its tick have happened, and so its event does nothing.
  abbrev pub happens_as : Kind → Lists → Stage R T → Event → Stage R T
  happens_as End p s e = end_running e.tick s
  happens_as Withdrawal p s e =
      option_map_or (λ w. ask row turn s (record { line = withdrawals_line p + e.place; call = withdrawal_call w })) (slice_get p.withdrawals e.place) s
  happens_as Filing p s e =
      option_map_or (λ f. ask row turn s (record { line = filings_line p + e.place; call = filing_call f })) (slice_get p.filings e.place) s
  happens_as Begin p s e = s

  -- an event happens
  abbrev pub happens : Lists → Stage R T → Event → Stage R T
  happens p s e = happens_as e.kind p s e

  -- events happen, one after another
  unfoldable pub happen : Lists → Stage R T → List Event → Stage R T
  happen p s es = fold (happens p) s es

  -- the stage before the begin of tick t, once those of these events have happened that are first and at tick t
  abbrev pub before_begin : Lists → ℕ → Stage R T → List Event → Stage R T
  before_begin p t s es = happen p s (head_at t es)

-- the events to come, and one more, unless it is above the last tick
abbrev pub with_event : Event → List Event → List Event
with_event e es = if is_tick e.tick then inserted event_before e es else es

-- The events to come once a begin at tick t has answered: with the end of the import, which lasts as declared, or with another begin, once the
-- wait is over.
abbrev pub scheduled : ℕ → Result Turn Refusal → List Event → List Event
scheduled t (Ok (Began lab number declared)) es = with_event (end_at (t + declared)) es
scheduled t (Ok (Wait until)) es = with_event (begin_at until) es
scheduled t (Ok Nothing) es = es
scheduled t (Err r) es = es
