use Rattle.std.proofs.Common.{◌≡◌, ◌++◌, take, drop, map}
use Rattle.gate.proofs.rows.restart_all.Given as goal

-- the rows so far begin anew, and the others are as they were
abbrev pub invariant-loop-row : goal.invariant-loop-row
invariant-loop-row g l = l.rows ≡ map g.R.BudgetRow.meaning.restarted (take l.row-index l.initial.rows) ++ drop l.row-index l.initial.rows
