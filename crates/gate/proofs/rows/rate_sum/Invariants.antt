use Rattle.std.proofs.Common.{◌≡◌, ◌≤◌, ◌*◌, take}
use Rattle.std.specs.List.{sum_by}
use Rattle.measures.specs.Limits.{greatest_rate}
use Rattle.gate.proofs.rows.rate_sum.Given as goal

-- the sum so far, of lawful rates
abbrev pub invariant-loop-row : goal.invariant-loop-row
invariant-loop-row g l = (l.sum ≡ sum_by g.R.BudgetRow.meaning.rate (take l.row-index l.rows)) × (l.sum ≤ l.row-index * greatest_rate)
