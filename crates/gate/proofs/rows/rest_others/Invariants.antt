use Rattle.std.proofs.Common.{◌≡◌, drop, take, ◌++◌}
use Rattle.history.specs.Gates.{rest_others}
use Rattle.gate.proofs.rows.rest_others.Given as goal

-- the rows so far, and those that the others give, are all
abbrev pub invariant-loop-lab : goal.invariant-loop-lab
invariant-loop-lab g l =
    let m = g.R.BudgetRow.meaning in
    take l.lab l.rows ++ rest_others m l.running l.ticks l.lab (drop l.lab l.rows) ≡ rest_others m l.running l.ticks 0 l.initial.rows
