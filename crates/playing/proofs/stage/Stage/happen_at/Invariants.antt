-- What is done, with what the events left at the head do, is the whole.
use Rattle.std.proofs.Common.{◌≡◌, length}
use Rattle.server.specs.Row.{server}
use Rattle.turns.specs.Circular.{circular}
use Rattle.plan.specs.Plans.{lists}
use Rattle.agenda.specs.Happening.{happen}
use Rattle.agenda.specs.Events.{head_at, after_head}
use Rattle.playing.proofs.stage.Stage.happen_at.Given as goal

abbrev pub invariant-loop-event : goal.invariant-loop-event
invariant-loop-event l =
    let p = lists l.plan in
    (happen server circular p l.self (head_at l.tick l.agenda) ≡ happen server circular p l.initial.self (head_at l.tick l.initial.agenda))
    × (after_head l.tick l.agenda ≡ after_head l.tick l.initial.agenda)

abbrev pub decreases-loop-event : goal.decreases-loop-event
decreases-loop-event l = length l.agenda
