-- A list whose entry n is n.
use Rattle.std.proofs.Common.{◌≡◌, ℕ, ◌<◌, List, length, slice_index, sym, ◌∙◌, arith}
use Rattle.std.proofs.lemmas.List.{ext_get_or}
use Rattle.measures.specs.Limits.{most_labs}
use Rattle.turns.specs.Places.{own}
use Rattle.turns.specs.PlacesStay.{whole_own, place_own}

pub own_filled : (places : List ℕ) → length places ≡ most_labs → ((n : ℕ) → n < most_labs → slice_index places n ≡ n) → places ≡ own
own_filled places whole filled =
    ext_get_or 0 places own (whole ∙ sym whole_own) (λ n low. let n_low : n < most_labs = omega (arith, whole) in filled n n_low ∙ sym (place_own n n_low))
