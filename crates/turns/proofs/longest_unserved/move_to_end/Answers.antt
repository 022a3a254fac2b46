use Rattle.std.proofs.Common.{slice_index, arith}
use Rattle.std.proofs.lemmas.List.{get_or_default}
use Rattle.std.proofs.lemmas.List.Edits.{map_over_more}
use Rattle.turns.specs.Places.{moved}
use Rattle.turns.proofs.longest_unserved.move_to_end.Goals as goal

pub loop-place-preserved : goal.loop-place-preserved
loop-place-preserved c =
    let l = c.loop-place in
    let within = c.loop-place-test.true in
    let read = get_or_default l.places l.place-index 0 (slice_index l.places l.place-index) (omega (arith, l.auto.places)) in
    rw c.moved.ensures (map_over_more (moved c.args.vacated) c.args.places.now l.places l.place-index _ within l.invariant read)
