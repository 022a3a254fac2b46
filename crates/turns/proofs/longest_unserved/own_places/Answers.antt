use Rattle.std.proofs.Common.{arith}
use Rattle.turns.specs.PlacesStay.{within_own, apart_own}
use Rattle.turns.proofs.Own.{own_filled}
use Rattle.turns.proofs.longest_unserved.own_places.Goals as goal

pub returns : goal.returns
returns c =
    let filled = own_filled c.loop-n.place-items c.loop-n-test.array_long (λ n low. c.loop-n.invariant n (omega arith)) in
    record { value = filled; within = rw filled within_own; apart = rw filled apart_own }
