use Rattle.history.specs.Standing.{Leads}
use Rattle.gate.proofs.gate.Gate.leader.Given as goal

-- the leader of the labs so far
abbrev pub invariant-loop-lab : goal.invariant-loop-lab
invariant-loop-lab g l = Leads g.R.BudgetRow.meaning g.T.TurnRule.turns l.self l.rows l.lab l.leader
