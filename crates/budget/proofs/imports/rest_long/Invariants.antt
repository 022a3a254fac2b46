use Rattle.std.proofs.Common.{◌≡◌}
use Rattle.budget.specs.Imports.{rest_counts}
use Rattle.budget.proofs.imports.rest_long.Given as goal

abbrev pub invariant-loop-i : goal.invariant-loop-i
invariant-loop-i g l = l.row ≡ rest_counts g.R.BudgetRow.meaning l.initial.row l._i
