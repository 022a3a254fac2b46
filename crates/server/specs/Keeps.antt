-- The server row keeps the sentences.
use Rattle.std.specs.Prelude.{◌≡◌, ℕ, ◌+◌, ◌-◌, ◌*◌, ◌≤◌, Bool, true, false, ◌&&◌, ◌||◌, ℤ, pos, ◌+ℤ◌, ◌≤ℤ◌, ◌<ℤ◌, ◌==◌, int_le, refl}
use Rattle.std.proofs.Common.{sym, ap, ◌∙◌, ⊎_elim, mul-add, mul-le-mul_left, arith}
use Rattle.std.specs.Int.{int_min}
use Rattle.std.proofs.lemmas.Int.{ints, clamps}
use Rattle.std.proofs.lemmas.Bool.{cond-true, cond-false, or_cases, or_left, or_right, or_from, cases_Bool, eq-eqb, ne_eqb}
use Rattle.measures.specs.Limits.{last, least_rate, greatest_rate}
use Rattle.measures.specs.Division.{up_div}
use Rattle.measures.proofs.Quotients.{up_div_below, up_div_less, up_div_mono, up_div_positive}
use Rattle.budget.specs.Meaning.{Sentences, SameTerms, full_wait, first_wait}
use Rattle.server.specs.Row.{rate_of, ceiling_of, threshold_of, debt, level_of, able_of, missing, wake_of, with_level, restarted, raised, rested, charged, ended, server}
use Rattle.server.specs.declared.ServerRow.{ServerRow}

-- able, by its two numbers and the mark
abbrev able_at : ℕ → ℤ → Bool → Bool
able_at t l mark = int_le (pos t) l || (mark && int_le (pos 0) l)

able_solvent : (t : ℕ) (l : ℤ) (mark : Bool) → able_at t l mark ≡ true → pos 0 ≤ℤ l
able_solvent t l mark a = grind (arith, ints)

able_not : (t : ℕ) (l : ℤ) (mark : Bool) → able_at t l mark ≡ false → l <ℤ pos t
able_not t l mark a = grind (arith, ints)

-- a mark that says how the row is, and is not set in debt, is what is read
marked : (t : ℕ) (l : ℤ) (mark : Bool) → (int_le (pos t) l ≡ true → mark ≡ true) → (mark ≡ true → pos 0 ≤ℤ l) → able_at t l mark ≡ mark
marked t l true full solvent = grind (arith, ints)
marked t l false full solvent = grind (arith, ints)

raise_twice : (l : ℤ) (a b c : ℕ) → int_min (int_min (l +ℤ pos a) (pos c) +ℤ pos b) (pos c) ≡ int_min (l +ℤ pos (a + b)) (pos c)
raise_twice l a b c = omega (arith, ints, clamps)

-- what is full stays full as the level rises
or_full : (a : Bool) (t : ℕ) (l l' : ℤ) → l ≤ℤ l' → ((a || int_le (pos t) l) || int_le (pos t) l') ≡ (a || int_le (pos t) l')
or_full true t l l' h = refl
or_full false t l l' h = grind (arith, ints)

module _ (x : ServerRow) where
  rate_low : least_rate ≤ rate_of x
  rate_low = omega arith

  rate_high : rate_of x ≤ greatest_rate
  rate_high = omega arith

  threshold_high : threshold_of x ≤ ceiling_of x
  threshold_high = omega arith

  level_low : debt (rate_of x) last ≤ℤ level_of x
  level_low = omega (arith, ints, clamps)

  below_ceiling : level_of x ≤ℤ pos (ceiling_of x)
  below_ceiling = omega (arith, ints, clamps)

  solvent : able_of x ≡ true → pos 0 ≤ℤ level_of x
  solvent a = able_solvent (threshold_of x) (level_of x) x.able a

  wake_able : able_of x ≡ true → wake_of x ≡ 0
  wake_able a = cond-true (able_of x) _ _ a

  wake_not : able_of x ≡ false → wake_of x ≡ up_div (missing x) (rate_of x)
  wake_not n = cond-false (able_of x) _ _ n

  -- whatever is missing at most, the wake is at most its quotient
  wake_within : (most : ℕ) → pos (threshold_of x) ≤ℤ (level_of x +ℤ pos most) → wake_of x ≤ up_div most (rate_of x)
  wake_within most h =
      ⊎_elim (λ a. omega (arith, wake_able a))
      (λ n.
      let under = able_not (threshold_of x) (level_of x) x.able n in
      omega (arith, wake_not n, up_div_mono (missing x) most (rate_of x) rate_low (omega (arith, ints))))
      (cases_Bool (able_of x))

  awake : able_of x ≡ (wake_of x == 0)
  awake =
      ⊎_elim (λ a. a ∙ sym (eq-eqb (wake_of x) 0 (wake_able a)))
      (λ n.
      let under = able_not (threshold_of x) (level_of x) x.able n in
      let some = up_div_positive (missing x) (rate_of x) rate_low (omega (arith, ints)) in
      n ∙ sym (ne_eqb (wake_of x) 0 (λ e. omega (arith, wake_not n))))
      (cases_Bool (able_of x))

module _ (x : ServerRow) (d : ℕ) where
  level_rested : level_of (rested x d) ≡ raised x d
  level_rested = omega (arith, ints, clamps, level_low x)

  raised_solvent : (able_of x || int_le (pos (threshold_of x)) (raised x d)) ≡ true → pos 0 ≤ℤ raised x d
  raised_solvent m =
      ⊎_elim (λ (a : able_of x ≡ true). omega (arith, ints, clamps, solvent x a))
      (λ (f : int_le (pos (threshold_of x)) (raised x d) ≡ true). omega (arith, ints))
      (or_cases (able_of x) (int_le (pos (threshold_of x)) (raised x d)) m)

  able_rested : able_of (rested x d) ≡ (able_of x || int_le (pos (threshold_of x)) (raised x d))
  able_rested =
      let mark = able_of x || int_le (pos (threshold_of x)) (raised x d) in
      ap (λ l. able_at (threshold_of x) l mark) level_rested
      ∙ marked (threshold_of x) (raised x d) mark (λ f. or_right (able_of x) _ f) raised_solvent

  rest_level : level_of (rested x d) ≤ℤ (level_of x +ℤ pos (rate_of x * d))
  rest_level = omega (arith, ints, clamps, level_rested)

  -- where the threshold is reached within d ticks, nothing is missing
  wake_reached : int_le (pos (threshold_of x)) (raised x d) ≡ true → wake_of (rested x d) ≡ wake_of x - d
  wake_reached f =
      let able = able_rested ∙ or_right (able_of x) _ f in
      let within : wake_of x ≤ up_div (d * rate_of x) (rate_of x) = wake_within x (d * rate_of x) (omega (arith, ints, clamps)) in
      let enough : up_div (d * rate_of x) (rate_of x) ≤ d = up_div_below (d * rate_of x) (rate_of x) d (rate_low x) (omega arith) in
      omega (arith, wake_able (rested x d) able)

  -- where it is not, d ticks less are missing
  wake_short : able_of x ≡ false → int_le (pos (threshold_of x)) (raised x d) ≡ false → wake_of (rested x d) ≡ wake_of x - d
  wake_short n f =
      let under = able_not (threshold_of x) (level_of x) x.able n in
      let not_yet = able_rested ∙ or_from (able_of x) _ n f in
      let less : missing (rested x d) ≡ missing x - d * rate_of x =
      omega (arith, ints, clamps, level_rested, threshold_high x) in
      wake_not (rested x d) not_yet
      ∙ ap (λ k. up_div k (rate_of x)) less
      ∙ up_div_less (missing x) (rate_of x) d (rate_low x)
      ∙ ap (λ k. k - d) (sym (wake_not x n))

  rest_wake : wake_of (rested x d) ≡ wake_of x - d
  rest_wake =
      ⊎_elim wake_reached
      (λ f.
      ⊎_elim (λ a. omega (arith, wake_able x a, wake_able (rested x d) (able_rested ∙ or_left (able_of x) _ a)))
      (λ n. wake_short n f)
      (cases_Bool (able_of x)))
      (cases_Bool (int_le (pos (threshold_of x)) (raised x d)))

module _ (x : ServerRow) (d e : ℕ) where
  raised_more : raised (rested x d) e ≡ raised x (d + e)
  raised_more =
      ap (λ l. int_min (l +ℤ pos (rate_of x * e)) (pos (ceiling_of x))) (level_rested x d)
      ∙ raise_twice (level_of x) (rate_of x * d) (rate_of x * e) (ceiling_of x)
      ∙ ap (λ k. int_min (level_of x +ℤ pos k) (pos (ceiling_of x))) (sym (mul-add (rate_of x) d e))

  rest_rest : rested (rested x d) e ≡ rested x (d + e)
  rest_rest =
      let t = threshold_of x in
      let higher : raised x d ≤ℤ raised x (d + e) = omega (arith, ints, clamps, mul-add (rate_of x) d e) in
      let able : (able_of (rested x d) || int_le (pos t) (raised (rested x d) e)) ≡ (able_of x || int_le (pos t) (raised x (d + e))) =
      ap (λ a. a || int_le (pos t) (raised (rested x d) e)) (able_rested x d)
      ∙ ap (λ l. (able_of x || int_le (pos t) (raised x d)) || int_le (pos t) l) raised_more
      ∙ or_full (able_of x) t (raised x d) (raised x (d + e)) higher in
      ap (λ l. with_level x l (able_of (rested x d) || int_le (pos t) (raised (rested x d) e))) raised_more
      ∙ ap (with_level x (raised x (d + e))) able

module _ (x : ServerRow) (c : ℕ) (lawful : c ≤ last) (able : able_of x ≡ true) where
  level_ended : level_of (ended x c) ≡ charged x c
  level_ended = omega (arith, ints, clamps, solvent x able, below_ceiling x, mul-le-mul_left (1000 - rate_of x) lawful)

  end_level : (level_of (ended x c) +ℤ pos ((1000 - rate_of x) * c)) ≤ℤ level_of x
  end_level = omega (arith, ints, level_ended)

  end_wake : wake_of (ended x c) ≤ full_wait (rate_of x) (threshold_of x) c
  end_wake = wake_within (ended x c) (threshold_of x + (1000 - rate_of x) * c) (omega (arith, ints, level_ended, solvent x able))

restart_wake : (x : ServerRow) → wake_of (restarted x) ≤ first_wait (rate_of x) (threshold_of x)
restart_wake x = wake_within (restarted x) (threshold_of x) (omega (arith, ints, clamps))

wake_high : (x : ServerRow) → wake_of x ≤ full_wait (rate_of x) (threshold_of x) last
wake_high x = wake_within x (threshold_of x + (1000 - rate_of x) * last) (omega (arith, ints, level_low x))

same_terms : (x : ServerRow) (l : ℤ) (a : Bool) → SameTerms server x (with_level x l a)
same_terms x l a = record { rate = refl; ceiling = refl; threshold = refl }

pub keeps : Sentences server
keeps = record {
  rate_low = rate_low;
  rate_high = rate_high;
  ceiling_high = λ x. omega arith;
  threshold_high = threshold_high;
  restart_terms = λ x. same_terms x _ _;
  rest_terms = λ x d. same_terms x _ _;
  end_terms = λ x c. same_terms x _ _;
  below_ceiling = below_ceiling;
  solvent = solvent;
  awake = awake;
  rest_level = λ x d lawful. rest_level x d;
  rest_wake = λ x d lawful. rest_wake x d;
  end_level = end_level;
  restart_wake = restart_wake;
  end_wake = end_wake;
  wake_high = wake_high;
  rest_rest = λ x d e lawful. rest_rest x d e;
}
