-- Labs of which no ticket waits.
use Rattle.std.proofs.Common.{◌≡◌, Bool, true, false, ◌&&◌, None, Option, refl, sym, ap}
use Rattle.std.specs.Prelude.{is_some}

-- where nothing is there, both are not so
pub none_stands : {A : Type 0} (able : Bool) (first : Option A) → first ≡ None → false ≡ (able && is_some first)
none_stands true first none = ap is_some (sym none)
none_stands false first none = refl
