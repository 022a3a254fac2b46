-- The spaced row keeps the sentences.
use Rattle.std.specs.Prelude.{◌≡◌, ℕ, ◌+◌, ◌-◌, ◌*◌, ◌<◌, ◌≤◌, true, pos, ◌+ℤ◌, ◌≤ℤ◌, refl}
use Rattle.std.proofs.Common.{ap, ◌∙◌, mul-add, mul_comm, mul-le-mul_left, mul-zero, zero-add, arith}
use Rattle.std.proofs.lemmas.Int.{ints}
use Rattle.std.proofs.lemmas.Bool.{eqb-true}
use Rattle.measures.specs.Limits.{last, least_rate, greatest_rate}
use Rattle.measures.specs.Division.{up_div}
use Rattle.measures.proofs.Rates.{whole}
use Rattle.measures.proofs.Quotients.{up_div_reaches, up_div_near, up_div_below, up_div_mono}
use Rattle.budget.specs.Meaning.{Sentences, SameTerms, full_wait}
use Rattle.spaced.specs.Row.{pause, ShortestPause, rate_of, left_of, level_of, able_of, with_left, rested, ended, spaced}
use Rattle.spaced.specs.declared.SpacedRow.{SpacedRow}

-- a longer run has a longer pause
pub pause_mono : (rate c c' : ℕ) → 0 < rate → c ≤ c' → pause rate c ≤ pause rate c'
pause_mono rate c c' h le = up_div_mono ((1000 - rate) * c) ((1000 - rate) * c') rate h (mul-le-mul_left (1000 - rate) le)

pub pause_shortest : (rate c : ℕ) → 0 < rate → rate ≤ 1000 → ShortestPause rate c (pause rate c)
pause_shortest rate c low high =
    let all = whole rate c high in
    record {
      enough = omega (arith, up_div_reaches ((1000 - rate) * c) rate low, mul_comm rate (pause rate c), mul-add rate c (pause rate c));
      shortest = λ q reached. up_div_below ((1000 - rate) * c) rate q low (omega (arith, mul_comm rate q, mul-add rate c q));
    }

-- with a threshold of 0, the full wait is the pause
full_wait_spaced : (rate c : ℕ) → full_wait rate 0 c ≡ pause rate c
full_wait_spaced rate c = ap (λ n. up_div n rate) (zero-add ((1000 - rate) * c))

module _ (x : SpacedRow) where
  rate_low : least_rate ≤ rate_of x
  rate_low = omega arith

  rate_high : rate_of x ≤ greatest_rate
  rate_high = omega arith

  able_left : able_of x ≡ true → left_of x ≡ 0
  able_left a = eqb-true (left_of x) 0 a

  debt_able : able_of x ≡ true → rate_of x * left_of x ≡ 0
  debt_able a = ap (λ n. rate_of x * n) (able_left a) ∙ mul-zero (rate_of x)

-- What is stored of the ticks left is what is read.

left_rested : (x : SpacedRow) (d : ℕ) → left_of (rested x d) ≡ left_of x - d
left_rested x d = omega arith

left_ended : (x : SpacedRow) (c : ℕ) → c ≤ last → left_of (ended x c) ≡ pause (rate_of x) c
left_ended x c lawful = omega (arith, pause_mono (rate_of x) c last (rate_low x) lawful)

rest_level : (x : SpacedRow) (d : ℕ) → level_of (rested x d) ≤ℤ (level_of x +ℤ pos (rate_of x * d))
rest_level x d =
    let within : left_of x ≤ left_of (rested x d) + d = omega (arith, left_rested x d) in
    let more : rate_of x * left_of x ≤ rate_of x * left_of (rested x d) + rate_of x * d =
    omega (arith, mul-add (rate_of x) (left_of (rested x d)) d, mul-le-mul_left (rate_of x) within) in
    omega (arith, ints)

end_level : (x : SpacedRow) (c : ℕ) → c ≤ last → able_of x ≡ true → (level_of (ended x c) +ℤ pos ((1000 - rate_of x) * c)) ≤ℤ level_of x
end_level x c lawful able =
    let rate = rate_of x in
    let made_up : (1000 - rate) * c ≤ rate * left_of (ended x c) =
    omega (arith, up_div_reaches ((1000 - rate) * c) rate (rate_low x), mul_comm rate (pause rate c), ap (λ n. rate * n) (left_ended x c lawful)) in
    omega (arith, ints, debt_able x able)

end_wake : (x : SpacedRow) (c : ℕ) → c ≤ last → left_of (ended x c) ≤ full_wait (rate_of x) 0 c
end_wake x c lawful = omega (arith, left_ended x c lawful, full_wait_spaced (rate_of x) c)

wake_high : (x : SpacedRow) → left_of x ≤ full_wait (rate_of x) 0 last
wake_high x = omega (arith, full_wait_spaced (rate_of x) last)

-- what the ticks left stand for, in thousandths, is at most what a run of the last tick's length takes
pub debt_high : (x : SpacedRow) → rate_of x * left_of x ≤ 1000 * last
debt_high x =
    let rate = rate_of x in
    let within : left_of x ≤ pause rate last = omega arith in
    omega (
      arith,
      mul-le-mul_left rate within,
      mul_comm rate (pause rate last),
      up_div_near ((1000 - rate) * last) rate (rate_low x),
    )

same_terms : (x : SpacedRow) (n : ℕ) → SameTerms spaced x (with_left x n)
same_terms x n = record { rate = refl; ceiling = refl; threshold = refl }

pub keeps : Sentences spaced
keeps = record {
  rate_low = rate_low;
  rate_high = rate_high;
  ceiling_high = λ x. omega arith;
  threshold_high = λ x. omega arith;
  restart_terms = λ x. same_terms x _;
  rest_terms = λ x d. same_terms x _;
  end_terms = λ x c. same_terms x _;
  below_ceiling = λ x. omega (arith, ints);
  solvent = λ x able. omega (arith, ints, debt_able x able);
  awake = λ x. refl;
  rest_level = λ x d lawful. rest_level x d;
  rest_wake = λ x d lawful. left_rested x d;
  end_level = end_level;
  restart_wake = λ x. omega arith;
  end_wake = λ x c lawful able. end_wake x c lawful;
  wake_high = wake_high;
  rest_rest = λ x d e lawful. ap (with_left x) (omega (arith, left_rested x d));
}
