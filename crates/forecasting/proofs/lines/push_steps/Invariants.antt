use Rattle.std.proofs.Common.{◌≡◌, ◌++◌, drop, vec_items}
use Rattle.forecasting.specs.Lines.{steps}
use Rattle.forecasting.proofs.lines.push_steps.Given as goal

-- the lines so far, with those of the entries that are left, are all
abbrev pub invariant-loop-entry : goal.invariant-loop-entry
invariant-loop-entry g l =
    let m = g.R.BudgetRow.meaning in
    vec_items l.lines ++ steps m l.at.row l.at.tick (drop l.entry-index l.entries) ≡ vec_items l.initial.lines ++ steps m l.row 0 l.entries
