use Rattle.playing.proofs.Rows.{HaveRows}
use Rattle.playing.proofs.start.rows_of.Given as goal

abbrev pub invariant-loop-place : goal.invariant-loop-place
invariant-loop-place l = HaveRows l.labs l.rows.items l.place
