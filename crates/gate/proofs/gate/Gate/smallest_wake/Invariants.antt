use Rattle.std.proofs.Common.{◌≡◌, ◌*◌, ◌≤◌, IfSome}
use Rattle.measures.specs.Limits.{last}
use Rattle.history.specs.Standing.{smallest_below}
use Rattle.gate.proofs.gate.Gate.smallest_wake.Given as goal

-- the smallest wake of the labs so far
abbrev pub invariant-loop-lab : goal.invariant-loop-lab
invariant-loop-lab g l =
    (l.smallest ≡ smallest_below g.R.BudgetRow.meaning l.self l.rows l.lab) × IfSome l.smallest (λ wake. wake ≤ 1000 * last)
