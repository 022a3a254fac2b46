-- What is known of one lab at a tick, from what its row says and from its runs: how long it can have held the lock.
use Rattle.std.proofs.Common.{◌≡◌, ℕ, ◌+◌, ◌-◌, ◌*◌, ◌≤◌, true, List, [], ◌∷◌, All, refl, ap, ◌∙◌, arith, ⊎_elim, mul-add, mul-le-mul_left}
use Rattle.std.specs.Prelude.{pos, ◌+ℤ◌, ◌≤ℤ◌}
use Rattle.std.proofs.lemmas.Bool.{cases_lt}
use Rattle.std.proofs.lemmas.Int.{ints}
use Rattle.std.proofs.lemmas.List.Elements.{All-nil, All-cons}
use Rattle.measures.specs.Limits.{last}
use Rattle.measures.proofs.Rates.{whole}
use Rattle.budget.specs.Meaning.{Meaning, Sentences, SameTerms, full_wait, first_wait}
use Rattle.history.specs.Logs.{Run, is_in_some, ticks_with, longest}
use Rattle.history.specs.Guaranteed.{rest_over}
use Rattle.history.proofs.Counting.{ticks_in_two, same_ticks, at_most, is_in_some-cons, no_ticks_after}

-- of the n ticks from a on, runs of a lab hold no more than its licence allows, where x is its row
abbrev pub KeepsLicence : {R : Type 0} → Meaning R → R → List Run → ℕ → ℕ → Type 0
KeepsLicence m x rs a n = 1000 * ticks_with (is_in_some rs) a n ≤ m.rate x * n + m.ceiling x + (1000 - m.rate x) * longest rs

-- what is known of a lab whose row is x and began as x0, by tick t, where rs are its runs, the newest first, and it holds no lock
pub record Ledger {R : Type 0} (m : Meaning R) (x0 : R) (rs : List Run) (t : ℕ) (x : R) : Type 0 where
  pub same : SameTerms m x0 x
  -- no run ends later
  pub past : All (λ r. r.to ≤ t) rs
  -- what the lab has used since any tick a, and what its level is now, come to no more than what it was granted since, and its ceiling
  pub level : (a n : ℕ) → a + n ≡ t → (pos (1000 * ticks_with (is_in_some rs) a n) +ℤ m.level x) ≤ℤ pos (m.rate x0 * n + m.ceiling x0)
  -- the wake is over no later than the full wait
  pub wake : m.wake x ≤ rest_over (m.rate x0) (m.threshold x0) rs - t
  -- in any ticks up to now the lab has held the lock within its licence
  pub bound : (a n : ℕ) → a + n ≤ t → KeepsLicence m x0 rs a n

-- the run of a lab from tick p up to tick t
abbrev pub run_up_to : ℕ → ℕ → ℕ → Run
run_up_to lab p t = record { lab = lab; from = p; to = t }

longer_new : (r : Run) (rs : List Run) → r.to - r.from ≤ longest (r ∷ rs)
unfolding longest
longer_new r rs = omega arith

longer_old : (r : Run) (rs : List Run) → longest rs ≤ longest (r ∷ rs)
unfolding longest
longer_old r rs = omega arith

-- up to its begin a run adds nothing
before_begin : (lab p t : ℕ) (rs : List Run) (a n : ℕ) → a + n ≤ p
    → ticks_with (is_in_some (run_up_to lab p t ∷ rs)) a n ≡ ticks_with (is_in_some rs) a n
before_begin lab p t rs a n early = same_ticks _ _ a n (λ k low high. is_in_some-cons (run_up_to lab p t) rs k ∙ grind arith)

-- over the ticks from a up to tick p and c more, a run from p on adds at most c
with_more : (lab p t : ℕ) (rs : List Run) (a n c w : ℕ) → a + n ≡ p → w ≡ n + c
    → ticks_with (is_in_some (run_up_to lab p t ∷ rs)) a w ≤ ticks_with (is_in_some rs) a n + c
with_more lab p t rs a n c w at parts =
    let q = is_in_some (run_up_to lab p t ∷ rs) in
    omega (arith, ap (ticks_with q a) parts, ticks_in_two q a n c, at_most q (a + n) c, before_begin lab p t rs a n (omega arith))

-- over the ticks from a up to tick p and d more, runs that ended by tick p count as they did
no_more : (rs : List Run) (p a n d w : ℕ) → All (λ r. r.to ≤ p) rs → a + n ≡ p → w ≡ n + d
    → ticks_with (is_in_some rs) a w ≡ ticks_with (is_in_some rs) a n
no_more rs p a n d w past at parts =
    let q = is_in_some rs in
    omega (arith, ap (ticks_with q a) parts, ticks_in_two q a n d, no_ticks_after rs p (a + n) d past (omega arith))

-- what is granted, in two parts
granted : (rate n d w : ℕ) → w ≡ n + d → rate * w ≡ rate * n + rate * d
granted rate n d w parts = ap (λ k. rate * k) parts ∙ mul-add rate n d

then_same : {R : Type 0} {m : Meaning R} {x y z : R} → SameTerms m x y → SameTerms m y z → SameTerms m x z
then_same e f = record { rate = f.rate ∙ e.rate; ceiling = f.ceiling ∙ e.ceiling; threshold = f.threshold ∙ e.threshold }

module _ {R : Type 0} {m : Meaning R} (s : Sentences m) where
  -- after a restart, at tick 0
  pub ledger_begins : (y : R) → Ledger m (m.restarted y) [] 0 (m.restarted y)
  ledger_begins y =
      let x = m.restarted y in
      let none = λ (a n : ℕ). no_ticks_after [] 0 a n (All-nil _) (omega arith) in
      record {
        same = record { rate = refl; ceiling = refl; threshold = refl };
        past = All-nil _;
        level = λ a n now. omega (arith, ints, none a n, s.below_ceiling x);
        wake =
            let terms = s.restart_terms y in
            let same : first_wait (m.rate x) (m.threshold x) ≡ first_wait (m.rate y) (m.threshold y) =
            (λ i. first_wait (terms.rate i) (terms.threshold i)) in
            omega (arith, same, s.restart_wake y);
        bound = λ a n early. omega (arith, none a n);
      }

module _ {R : Type 0} {m : Meaning R} (s : Sentences m) {x0 x : R} {rs : List Run} {p : ℕ} (l : Ledger m x0 rs p x) where
  low : m.rate x0 ≤ 1000
  low = omega (arith, s.rate_high x0)

  rested_terms : (d : ℕ) → SameTerms m x0 (m.rested x d)
  rested_terms d = then_same l.same (s.rest_terms x d)

  ended_terms : (c : ℕ) → SameTerms m x0 (m.ended x c)
  ended_terms c = then_same l.same (s.end_terms x c)

  rested_level : (d : ℕ) → d ≤ last → m.level (m.rested x d) ≤ℤ (m.level x +ℤ pos (m.rate x0 * d))
  rested_level d lawful = omega (arith, ints, s.rest_level x d lawful, ap (λ k. k * d) l.same.rate)

  level_at_rest : (d : ℕ) → d ≤ last → (a n : ℕ) → a + n ≡ p + d
      → (pos (1000 * ticks_with (is_in_some rs) a n) +ℤ m.level (m.rested x d)) ≤ℤ pos (m.rate x0 * n + m.ceiling x0)
  level_at_rest d lawful a n now =
      ⊎_elim
      (λ later.
      let none = no_ticks_after rs p a n l.past (omega arith) in
      let top = s.below_ceiling (m.rested x d) in
      let same = (rested_terms d).ceiling in
      omega (arith, ints, none, top, same))
      (λ before.
      let n' = p - a in
      let parts : n ≡ n' + d = omega arith in
      let at : a + n' ≡ p = omega arith in
      let count = no_more rs p a n' d n l.past at parts in
      let grant = granted (m.rate x0) n' d n parts in
      omega (arith, ints, count, grant, l.level a n' at, rested_level d lawful))
      (cases_lt p a)

  bound_at_rest : (a n : ℕ) → KeepsLicence m x0 rs a n
  bound_at_rest a n =
      ⊎_elim
      (λ later. omega (arith, no_ticks_after rs p a n l.past (omega arith)))
      (λ before.
      ⊎_elim
      (λ ends.
      let n' = p - a in
      let count = no_more rs p a n' (n - n') n l.past (omega arith) (omega arith) in
      omega (arith, count, l.bound a n' (omega arith), mul-le-mul_left {m = n'} {n = n} (m.rate x0) (omega arith)))
      (λ within. l.bound a n within)
      (cases_lt p (a + n)))
      (cases_lt p a)

  -- once the row has rested d ticks more
  pub ledger_rests : (d : ℕ) → d ≤ last → Ledger m x0 rs (p + d) (m.rested x d)
  ledger_rests d lawful = record {
    same = rested_terms d;
    past = λ k e short. omega (arith, l.past k e short);
    level = level_at_rest d lawful;
    wake = omega (arith, s.rest_wake x d lawful, l.wake);
    bound = λ a n early. bound_at_rest a n;
  }

  module _ (lab : ℕ) (able : m.able x ≡ true) where
    -- what the lab may have used since a tick a when a run begins
    used : (a n : ℕ) → a + n ≡ p → 1000 * ticks_with (is_in_some rs) a n ≤ m.rate x0 * n + m.ceiling x0
    used a n now = omega (arith, ints, l.level a n now, s.solvent x able)

    module _ (t : ℕ) (on : p ≤ t) where
      -- what no more ticks than the run's cost beyond the rate
      short : (e : ℕ) → e ≤ t - p → (1000 - m.rate x0) * e ≤ (1000 - m.rate x0) * longest (run_up_to lab p t ∷ rs)
      short e h =
          let long = longer_new (run_up_to lab p t) rs in
          mul-le-mul_left {m = e} {n = longest (run_up_to lab p t ∷ rs)} (1000 - m.rate x0) (omega arith)

      old : (1000 - m.rate x0) * longest rs ≤ (1000 - m.rate x0) * longest (run_up_to lab p t ∷ rs)
      old =
          let long = longer_old (run_up_to lab p t) rs in
          mul-le-mul_left {m = longest rs} {n = longest (run_up_to lab p t ∷ rs)} (1000 - m.rate x0) long

      -- while a run that began on an able row goes on
      pub running_bound : (a n : ℕ) → a + n ≤ t
          → KeepsLicence m x0 (run_up_to lab p t ∷ rs) a n
      running_bound a n early =
          ⊎_elim
          (λ later. omega (arith, at_most (is_in_some (run_up_to lab p t ∷ rs)) a n, whole (m.rate x0) n low, short n (omega arith)))
          (λ before.
          ⊎_elim
          (λ ends.
          let n' = p - a in
          let c = n - n' in
          let parts : n ≡ n' + c = omega arith in
          let at : a + n' ≡ p = omega arith in
          let count = with_more lab p t rs a n' c n at parts in
          let grant = granted (m.rate x0) n' c n parts in
          omega (arith, count, grant, used a n' at, whole (m.rate x0) c low, short c (omega arith)))
          (λ within. omega (arith, before_begin lab p t rs a n within, l.bound a n within, old))
          (cases_lt p (a + n)))
          (cases_lt p a)

    module _ (c : ℕ) (lawful : c ≤ last) where
      ended_level : (m.level (m.ended x c) +ℤ pos ((1000 - m.rate x0) * c)) ≤ℤ m.level x
      ended_level = omega (arith, ints, s.end_level x c lawful able, ap (λ k. (1000 - k) * c) l.same.rate)

      level_at_end : (a n : ℕ) → a + n ≡ p + c
          → (pos (1000 * ticks_with (is_in_some (run_up_to lab p (p + c) ∷ rs)) a n) +ℤ m.level (m.ended x c))
          ≤ℤ pos (m.rate x0 * n + m.ceiling x0)
      level_at_end a n now =
          ⊎_elim
          (λ later.
          let most = at_most (is_in_some (run_up_to lab p (p + c) ∷ rs)) a n in
          let less = mul-le-mul_left {m = n} {n = c} (1000 - m.rate x0) (omega arith) in
          let top = s.below_ceiling x in
          let same = l.same.ceiling in
          omega (arith, ints, most, less, top, same, ended_level, whole (m.rate x0) n low))
          (λ before.
          let n' = p - a in
          let parts : n ≡ n' + c = omega arith in
          let at : a + n' ≡ p = omega arith in
          let count = with_more lab p (p + c) rs a n' c n at parts in
          let grant = granted (m.rate x0) n' c n parts in
          omega (arith, ints, count, grant, l.level a n' at, ended_level, whole (m.rate x0) c low))
          (cases_lt p a)

      full : full_wait (m.rate x) (m.threshold x) c ≡ full_wait (m.rate x0) (m.threshold x0) c
      full = (λ i. full_wait (l.same.rate i) (l.same.threshold i) c)

      -- once a run of c ticks that began on an able row has ended
      pub ledger_ran : Ledger m x0 (run_up_to lab p (p + c) ∷ rs) (p + c) (m.ended x c)
      ledger_ran = record {
        same = ended_terms c;
        past = All-cons (λ r. r.to ≤ p + c) _ rs (omega arith) (λ k e h. omega (arith, l.past k e h));
        level = level_at_end;
        wake =
            let held : p + c - p ≡ c = omega arith in
            omega (arith, s.end_wake x c lawful able, full, ap (full_wait (m.rate x0) (m.threshold x0)) held);
        bound = running_bound (p + c) (omega arith);
      }
