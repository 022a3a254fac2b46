use Rattle.std.proofs.Common.{◌≡◌, ◌++◌, drop, vec_items}
use Rattle.forecasting.specs.Lines.{imports}
use Rattle.forecasting.proofs.lines.push_imports.Given as goal

-- the lines so far, with those of the entries that are left, are all
abbrev pub invariant-loop-entry : goal.invariant-loop-entry
invariant-loop-entry l = vec_items l.lines ++ imports (drop l.entry-index l.entries) ≡ vec_items l.initial.lines ++ imports l.entries
