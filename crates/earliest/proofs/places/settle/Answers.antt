use Rattle.std.proofs.Common.{◌≡◌, ◌++◌, length, take, drop, IsPermutation, sym, subst, arith, ◌∙◌}
use Rattle.std.proofs.lemmas.List.{take-append-le, take_all, length-take-le}
use Rattle.std.proofs.lemmas.List.Sorted.{IsPermutation-trans, length_permutation}
use Rattle.earliest.proofs.places.settle.Goals as goal

pub returns-clause-same : goal.returns-clause-same
returns-clause-same g c =
    let used = c.args.used in
    let old = take used c.args.places.now in
    let new = c.sift_down.new.places in
    let both : IsPermutation old new = IsPermutation-trans _ _ _ c.sift_up.ensures.same c.sift_down.ensures.same in
    let long : length new ≡ used = length_permutation old new both ∙ length-take-le used c.args.places.now (omega arith) in
    let part : take used (new ++ drop used c.args.places.now) ≡ new = take-append-le used new _ (omega (arith, long)) ∙ take_all used new (omega (arith, long)) in
    subst (IsPermutation old) (sym part) both
