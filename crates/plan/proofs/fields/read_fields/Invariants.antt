use Rattle.plan.specs.Reading.{fields}
use Rattle.plan.proofs.InTurn.{HaveFields}
use Rattle.plan.proofs.fields.read_fields.Given as goal

abbrev pub invariant-loop-i : goal.invariant-loop-i
invariant-loop-i g l = HaveFields l.span l.line g.row.N (fields l.text) l.numbers l.rest l.i
