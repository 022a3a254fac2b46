-- The pause that a run leaves is the wake that is then read, and few ticks left are read as they are stored.
use Rattle.std.proofs.Common.{◌≡◌, ℕ, ◌-◌, ◌*◌, ◌<◌, ◌≤◌, min, subst, arith, mul-le-mul, mul-le-mul_right}
use Rattle.std.proofs.Math.Nat.{le_of_mul-le-mul_right}
use Rattle.measures.proofs.Quotients.{up_div_reaches}
use Rattle.measures.specs.Limits.{last, greatest_rate, nearest_rate}
use Rattle.spaced.specs.Row.{pause, ShortestPause}
use Rattle.spaced.specs.Keeps.{pause_mono, pause_shortest}

pub shortest_read : (rate c p : ℕ) → c ≤ last → ShortestPause (nearest_rate rate) c p
    → ShortestPause (nearest_rate rate) c (min p (pause (nearest_rate rate) last))
shortest_read rate c p lawful shortest =
    let r = nearest_rate rate in
    let within : p ≤ pause r c = shortest.shortest (pause r c) (pause_shortest r c (omega arith) (omega arith)).enough in
    let longer : pause r c ≤ pause r last = pause_mono r c last (omega arith) lawful in
    let same : p ≡ min p (pause r last) = omega arith in
    subst (ShortestPause r c) same shortest

-- no rate has a longest pause of fewer ticks
pub never_cut : (rate n : ℕ) → n ≤ 1000000000 → min n (pause (nearest_rate rate) last) ≡ n
never_cut rate n few =
    let r = nearest_rate rate in
    let high : r ≤ greatest_rate = omega arith in
    let reached : (1000 - r) * last ≤ pause r last * r = up_div_reaches ((1000 - r) * last) r (omega arith) in
    let spare : 1 ≤ 1000 - r = omega arith in
    let long : 1 * last ≤ (1000 - r) * last = mul-le-mul_right last spare in
    let small : n * r ≤ 1000000000 * greatest_rate = mul-le-mul few high in
    let under : n * r ≤ pause r last * r = omega arith in
    let some : 0 < r = omega arith in
    let within : n ≤ pause r last = le_of_mul-le-mul_right under some in
    omega arith
