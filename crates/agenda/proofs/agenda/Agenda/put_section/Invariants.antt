use Rattle.agenda.proofs.Filling.{HavePut}
use Rattle.agenda.proofs.agenda.Agenda.put_section.Given as goal

abbrev pub invariant-loop-place : goal.invariant-loop-place
invariant-loop-place g l = HavePut g.T.AtTick.tick_of l.kind l.section l.place l.initial.self l.self
