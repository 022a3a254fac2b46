use Rattle.std.proofs.Common.{◌≡◌, ◌++◌, map, take, drop}
use Rattle.turns.specs.Places.{moved}
use Rattle.turns.proofs.longest_unserved.move_to_end.Given as goal

abbrev pub invariant-loop-place : goal.invariant-loop-place
invariant-loop-place l = l.places ≡ map (moved l.vacated) (take l.place-index l.initial.places) ++ drop l.place-index l.initial.places
