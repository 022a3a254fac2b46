use Rattle.server.specs.Row.{server}
use Rattle.turns.specs.Circular.{circular}
use Rattle.plan.specs.Plans.{lists}
use Rattle.course.specs.Course.{printed_from}
use Rattle.playing.proofs.Passing.{PlaysOn, ticks_left}
use Rattle.playing.proofs.stage.Stage.play_all.Given as goal

abbrev pub invariant-loop-event : goal.invariant-loop-event
invariant-loop-event l = PlaysOn server circular (lists l.plan) (printed_from server circular (lists l.plan) 0 l.initial.self) l.self l.agenda

abbrev pub decreases-loop-event : goal.decreases-loop-event
decreases-loop-event l = ticks_left l.agenda
