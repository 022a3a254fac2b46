use Rattle.plan.specs.Readers.{left}
use Rattle.plan.proofs.InTurn.{HaveLines}
use Rattle.plan.proofs.lines.Lines.lines.Given as goal

abbrev pub invariant-loop : goal.invariant-loop
invariant-loop g l = HaveLines g.T.PlanLine.meant g.row.N l.count (left l.initial.self) l.meant.items (left l.self) l.counter
