-- What the sentences say of a row that rests for any number of ticks, and of the imports that come next on it.
use Rattle.std.proofs.Common.{◌≡◌, ℕ, zero, suc, ◌+◌, ◌-◌, ◌*◌, ◌/◌, ◌%◌, ◌<◌, ◌≤◌, true, false, List, [], ◌∷◌, sym, refl, ap, ◌∙◌, subst, ⊎_elim, mul-le-mul_right, suc-mul, div-add-mod', zero-mul, arith}
use Rattle.std.proofs.lemmas.Bool.{cases_lt, eq-eqb, ne_eqb}
use Rattle.measures.specs.Limits.{last}
use Rattle.measures.proofs.Quotients.{up_div_self}
use Rattle.budget.specs.Meaning.{Meaning, Sentences}
use Rattle.budget.specs.Imports.{rest_counts, rest_long, next_slot, after_run, schedule, Soonest, AllSoonest}

module _ {R : Type 0} {m : Meaning R} (s : Sentences m) where
  counts_wake : (x : R) (n : ℕ) → m.wake (rest_counts m x n) ≡ m.wake x - n * last
  counts_wake x zero = omega (arith, zero-mul last)
  counts_wake x (suc n) =
      s.rest_wake (rest_counts m x n) last (omega arith) ∙ omega (arith, counts_wake x n, suc-mul n last)

  -- up to the last tick one count of rest is enough
  pub one_rest : (x : R) (d : ℕ) → d ≤ last → rest_long m x d ≡ m.rested x d
  one_rest x d low = ⊎_elim
      (λ below.
      let counts : d / last ≡ 0 = omega arith in
      let left : d % last ≡ d = omega arith in
      (λ i. m.rested (rest_counts m x (counts i)) (left i)))
      (λ not_below.
      let all : last ≡ d = omega arith in
      let counts : d / last ≡ 1 = omega arith in
      let left : d % last ≡ 0 = omega arith in
      (λ i. m.rested (rest_counts m x (counts i)) (left i)) ∙ s.rest_rest x last 0 (omega arith) ∙ ap (m.rested x) all)
      (cases_lt d last)

  pub long_wake : (x : R) (d : ℕ) → m.wake (rest_long m x d) ≡ m.wake x - d
  long_wake x d =
      s.rest_wake (rest_counts m x (d / last)) (d % last) (omega arith) ∙ omega (arith, counts_wake x (d / last), div-add-mod' d last)

  pub woken_able : (x : R) → m.able (rest_long m x (m.wake x)) ≡ true
  woken_able x = s.awake _ ∙ eq-eqb _ 0 (omega (arith, long_wake x (m.wake x)))

  pub early_unable : (x : R) (d : ℕ) → d < m.wake x → m.able (rest_long m x d) ≡ false
  early_unable x d h = s.awake _ ∙ ne_eqb _ 0 (λ e. omega (arith, long_wake x d))

  -- no wake is above this one, whatever the terms
  pub wake_limit : (x : R) → m.wake x ≤ 1000 * last
  wake_limit x =
      let low = s.rate_low x in
      let debt : (1000 - m.rate x) * last ≤ 999 * last = mul-le-mul_right {m = 1000 - m.rate x} {n = 999} last (omega arith) in
      omega (
        arith,
        s.wake_high x,
        up_div_self (m.threshold x + (1000 - m.rate x) * last) (m.rate x) (omega arith),
        s.threshold_high x,
        s.ceiling_high x,
      )

  soonest : (x : R) (t c : ℕ) → Soonest m x t c (next_slot m x t c)
  soonest x t c =
      let waited : t + m.wake x - t ≡ m.wake x = omega arith in
      record {
        from = omega arith;
        able = subst (λ d. m.able (rest_long m x d) ≡ true) (sym waited) (woken_able x);
        not_before = λ u low high. early_unable x (u - t) (omega arith);
        lasts = refl;
      }

  pub all_soonest : (x : R) (t : ℕ) (cs : List ℕ) → AllSoonest m x t cs (schedule m x t cs)
  all_soonest x t [] = tt
  all_soonest x t (c ∷ cs) =
      let waited : t + m.wake x - t ≡ m.wake x = omega arith in
      let end = (next_slot m x t c).end in (
        soonest x t c,
        subst (λ d. AllSoonest m (m.ended (rest_long m x d) c) end cs (schedule m (after_run m x c) end cs)) (sym waited) (all_soonest (after_run m x c) end cs),
      )
