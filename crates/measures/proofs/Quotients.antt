-- What division rounded up gives. Everything follows from two facts: it reaches, and it is below whatever reaches.
use Rattle.std.proofs.Common.{◌≡◌, ℕ, suc, ◌+◌, ◌-◌, ◌*◌, ◌/◌, ◌%◌, ◌<◌, ◌≤◌, min, ⊎_elim, mul-le-mul_right, mod-lt, suc-mul, div-lt_iff_lt-mul, add-mul, le_antisymm, lt_of_mul-lt-mul_right, div-add-mod', zero-mul, le-mul_of_pos_right, le_of_mul-le-mul_right, arith}
use native.Mathlib.Nat.{lt-div-mul-add, mul-sub}
use Rattle.std.proofs.lemmas.Bool.{cases_lt}
use Rattle.measures.specs.Division.{up_div, Least}

pub up_div_reaches : (a b : ℕ) → 0 < b → a ≤ up_div a b * b
up_div_reaches a b h = omega (arith, lt-div-mul-add {a = a + (b - 1)} {b = b} h)

pub up_div_below : (a b k : ℕ) → 0 < b → a ≤ k * b → up_div a b ≤ k
up_div_below a b k h r =
    let under : a + (b - 1) < suc k * b = rw (suc-mul) (omega arith) in
    let q : up_div a b < suc k = (div-lt_iff_lt-mul {k = b} {x = a + (b - 1)} {y = suc k} h).1 under in
    omega arith

pub up_div_least : (a b : ℕ) → 0 < b → Least a b (up_div a b)
up_div_least a b h = record { reaches = up_div_reaches a b h; least = λ k r. up_div_below a b k h r }

pub least_is_up_div : (a b q : ℕ) → 0 < b → Least a b q → q ≡ up_div a b
least_is_up_div a b q h l = le_antisymm (l.least (up_div a b) (up_div_reaches a b h)) (up_div_below a b q h l.reaches)

-- the quotient, and one more where something is left over
module _ (a b : ℕ) (h : 0 < b) where
  exact : a % b ≡ 0 → Least a b (a / b + min 1 (a % b))
  exact e =
      let whole : a / b * b ≡ a = omega (arith, div-add-mod' a b) in
      let same : a / b + min 1 (a % b) ≡ a / b = omega arith in
      record {
        reaches = rw same (omega arith);
        least = λ k r.
            let q : a / b ≤ k = le_of_mul-le-mul_right {m = a / b} {n = k} {k = b} (omega arith) h in
            omega arith;
      }

  over : 0 < a % b → Least a b (a / b + min 1 (a % b))
  over p =
      let split : a / b * b + a % b ≡ a = div-add-mod' a b in
      let low : a % b < b = mod-lt a h in
      let more : a / b + min 1 (a % b) ≡ suc (a / b) = omega arith in
      record {
        reaches = rw (more, suc-mul) (omega arith);
        least = λ k r.
            let q : a / b < k = lt_of_mul-lt-mul_right b {m = a / b} {n = k} (omega arith) in
            omega arith;
      }

  pub quotient_least : Least a b (a / b + min 1 (a % b))
  quotient_least = ⊎_elim over (λ e. exact (omega arith)) (cases_lt 0 (a % b))

-- it reaches by less than one time more
pub up_div_near : (a b : ℕ) → 0 < b → up_div a b * b < a + b
up_div_near a b h =
    let q = up_div a b in
    ⊎_elim (λ (short : (q - 1) * b < a). omega (arith, mul-sub b q 1))
    (λ (enough : a ≤ (q - 1) * b).
    let none : q ≤ 0 = omega (arith, up_div_below a b (q - 1) h enough) in
    omega (arith, mul-le-mul_right {m = q} {n = 0} b none, zero-mul b))
    (cases_lt ((q - 1) * b) a)

-- what reaches further is further
pub up_div_mono : (a a' b : ℕ) → 0 < b → a ≤ a' → up_div a b ≤ up_div a' b
up_div_mono a a' b h le = up_div_below a b (up_div a' b) h (omega (arith, up_div_reaches a' b h))

pub up_div_self : (a b : ℕ) → 0 < b → up_div a b ≤ a
up_div_self a b h = up_div_below a b a h (le-mul_of_pos_right a h)

-- d times less to reach takes d less
pub up_div_less : (a b d : ℕ) → 0 < b → up_div (a - d * b) b ≡ up_div a b - d
up_div_less a b d h =
    let q = up_div a b in
    let p = up_div (a - d * b) b in
    let low : q ≤ p + d = up_div_below a b (p + d) h (omega (arith, up_div_reaches (a - d * b) b h, add-mul p d b)) in
    let high : p ≤ q - d = up_div_below (a - d * b) b (q - d) h (omega (arith, up_div_reaches a b h, mul-sub b q d)) in
    omega arith

pub up_div_positive : (a b : ℕ) → 0 < b → 0 < a → 0 < up_div a b
up_div_positive a b h some = ⊎_elim (λ p. p) (λ z. absurd (none z)) (cases_lt 0 (up_div a b))
  where
    none : up_div a b ≤ 0 → ⊥
    none z = omega (arith, up_div_reaches a b h, mul-le-mul_right {m = up_div a b} {n = 0} b z, zero-mul b)
