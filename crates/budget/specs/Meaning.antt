-- What a budget row means to its callers, whatever it is made of, and what every row has to show.
use Rattle.std.specs.Prelude.{◌≡◌, ℕ, ◌+◌, ◌-◌, ◌*◌, ◌≤◌, Bool, true, ℤ, pos, ◌+ℤ◌, ◌≤ℤ◌, ◌==◌}
use Rattle.measures.specs.Limits.{last, least_rate, greatest_rate, greatest_ceiling}
use Rattle.measures.specs.Division.{up_div}

-- the full wait: the ticks of rest after which a lab can count on its row again, after a run of c ticks
abbrev pub full_wait : ℕ → ℕ → ℕ → ℕ
full_wait rate threshold c = up_div (threshold + (1000 - rate) * c) rate

-- the same before the first run of a lab
abbrev pub first_wait : ℕ → ℕ → ℕ
first_wait rate threshold = up_div threshold rate

pub record Meaning (R : Type 0) : Type 0 where
  -- thousandths of a tick, below 0 when in debt
  pub level : R → ℤ
  -- ticks of rest still missing
  pub wake : R → ℕ
  -- whether an import may begin
  pub able : R → Bool
  -- the terms, which never change
  pub rate : R → ℕ
  pub ceiling : R → ℕ
  pub threshold : R → ℕ
  -- what a row holds fixes what each change leaves: a restart, a rest of d ticks, and the end of a run of c ticks
  pub restarted : R → R
  pub rested : R → ℕ → R
  pub ended : R → ℕ → R

pub record SameTerms {R : Type 0} (m : Meaning R) (x y : R) : Type 0 where
  pub rate : m.rate y ≡ m.rate x
  pub ceiling : m.ceiling y ≡ m.ceiling x
  pub threshold : m.threshold y ≡ m.threshold x

-- The sentences, of whatever a row holds.
pub record Sentences {R : Type 0} (m : Meaning R) : Type 0 where
  -- the terms are in range
  pub rate_low : (x : R) → least_rate ≤ m.rate x
  pub rate_high : (x : R) → m.rate x ≤ greatest_rate
  pub ceiling_high : (x : R) → m.ceiling x ≤ greatest_ceiling
  pub threshold_high : (x : R) → m.threshold x ≤ m.ceiling x
  -- and never change
  pub restart_terms : (x : R) → SameTerms m x (m.restarted x)
  pub rest_terms : (x : R) (d : ℕ) → SameTerms m x (m.rested x d)
  pub end_terms : (x : R) (c : ℕ) → SameTerms m x (m.ended x c)
  -- the level is never above the ceiling, and an able row has a level of 0 or more
  pub below_ceiling : (x : R) → m.level x ≤ℤ pos (m.ceiling x)
  pub solvent : (x : R) → m.able x ≡ true → pos 0 ≤ℤ m.level x
  -- the wake is 0 exactly when the row is able
  pub awake : (x : R) → m.able x ≡ (m.wake x == 0)
  -- a rest of d ticks raises the level by at most rate × d, and lowers the wake by d, but not below 0
  pub rest_level : (x : R) (d : ℕ) → d ≤ last → m.level (m.rested x d) ≤ℤ (m.level x +ℤ pos (m.rate x * d))
  pub rest_wake : (x : R) (d : ℕ) → d ≤ last → m.wake (m.rested x d) ≡ m.wake x - d
  -- the end of a run of c ticks on an able row lowers the level by at least (1000 − rate) × c
  pub end_level : (x : R) (c : ℕ) → c ≤ last → m.able x ≡ true → (m.level (m.ended x c) +ℤ pos ((1000 - m.rate x) * c)) ≤ℤ m.level x
  -- how long a lab waits at most: after a restart, after a run, and ever
  pub restart_wake : (x : R) → m.wake (m.restarted x) ≤ first_wait (m.rate x) (m.threshold x)
  pub end_wake : (x : R) (c : ℕ) → c ≤ last → m.able x ≡ true → m.wake (m.ended x c) ≤ full_wait (m.rate x) (m.threshold x) c
  pub wake_high : (x : R) → m.wake x ≤ full_wait (m.rate x) (m.threshold x) last
  -- a rest of d and then of e ticks leaves what a rest of d + e ticks leaves
  pub rest_rest : (x : R) (d e : ℕ) → d + e ≤ last → m.rested (m.rested x d) e ≡ m.rested x (d + e)

-- A row that holds another, as `hold` makes it of that one, behaves as the row it holds: in each answer, and in what it holds after each
-- change.
pub record BehavesAsHeld {A B : Type 0} (m : Meaning A) (n : Meaning B) (hold : A → B) : Type 0 where
  pub level : (x : A) → n.level (hold x) ≡ m.level x
  pub wake : (x : A) → n.wake (hold x) ≡ m.wake x
  pub able : (x : A) → n.able (hold x) ≡ m.able x
  pub rate : (x : A) → n.rate (hold x) ≡ m.rate x
  pub ceiling : (x : A) → n.ceiling (hold x) ≡ m.ceiling x
  pub threshold : (x : A) → n.threshold (hold x) ≡ m.threshold x
  pub restarted : (x : A) → n.restarted (hold x) ≡ hold (m.restarted x)
  pub rested : (x : A) (d : ℕ) → n.rested (hold x) d ≡ hold (m.rested x d)
  pub ended : (x : A) (c : ℕ) → n.ended (hold x) c ≡ hold (m.ended x c)
