-- What a spaced row means. It saves nothing: after each run it pauses until its rate has made up for the ticks held, and then an
-- import may begin at any time.
use Rattle.std.specs.Prelude.{ℕ, ◌+◌, ◌-◌, ◌*◌, ◌≤◌, min, Bool, not, [], ◌∷◌, ℤ, pos, neg_ℤ, Result, ◌==◌}
use Rattle.measures.specs.Limits.{last, is_rate, nearest_rate}
use Rattle.measures.specs.Division.{up_div}
use Rattle.measures.specs.Refusals.{granted_unless}
use Rattle.measures.specs.declared.refusal.Refusal.{Refusal}
use Rattle.measures.specs.declared.refusal.Refusal.TheVariants.{RateOutOfRange}
use Rattle.budget.specs.Meaning.{Meaning}
use Rattle.spaced.specs.declared.SpacedRow.{SpacedRow}

-- the pause after a run of c ticks: as many ticks as the rate needs to make up for the rest of each tick held, rounded up
abbrev pub pause : ℕ → ℕ → ℕ
pause rate c = up_div ((1000 - rate) * c) rate

-- What that means: p is the shortest pause with which a run of c ticks, from its start to the end of the pause, has held the lock for no
-- more than its rate of the time.
pub record ShortestPause (rate c p : ℕ) : Type 0 where
  pub enough : 1000 * c ≤ rate * (c + p)
  pub shortest : (q : ℕ) → 1000 * c ≤ rate * (c + q) → p ≤ q

-- A stored number out of its range is read as the nearest lawful one.

abbrev pub rate_of : SpacedRow → ℕ
rate_of x = nearest_rate x.rate

-- the ticks left of the pause, of which no run leaves more than one of the last tick's length
abbrev pub left_of : SpacedRow → ℕ
left_of x = min x.left (pause (rate_of x) last)

-- in debt by what the rate makes up in the ticks left
abbrev pub level_of : SpacedRow → ℤ
level_of x = neg_ℤ (pos (rate_of x * left_of x))

-- able exactly when no ticks are left
abbrev pub able_of : SpacedRow → Bool
able_of x = left_of x == 0

-- the same rate with other ticks left
abbrev pub with_left : SpacedRow → ℕ → SpacedRow
with_left x n = record { rate = x.rate; left = n }

abbrev pub restarted : SpacedRow → SpacedRow
restarted x = with_left x 0

-- d ticks fewer are left, but not fewer than none
abbrev pub rested : SpacedRow → ℕ → SpacedRow
rested x d = with_left x (left_of x - d)

-- the pause begins, by the ticks held
abbrev pub ended : SpacedRow → ℕ → SpacedRow
ended x c = with_left x (pause (rate_of x) c)

-- the ticks to wait are the ticks left; nothing is saved, so ceiling and threshold are 0
abbrev pub spaced : Meaning SpacedRow
spaced = record {
  level = level_of;
  wake = left_of;
  able = able_of;
  rate = rate_of;
  ceiling = λ x. 0;
  threshold = λ x. 0;
  restarted = restarted;
  rested = rested;
  ended = ended;
}

-- a row of this rate, as after a restart
abbrev pub fresh : ℕ → SpacedRow
fresh rate = restarted (record { rate = rate; left = 0 })

-- a new row, or the refusal
abbrev pub made : ℕ → Result SpacedRow Refusal
made rate = granted_unless ((not (is_rate rate), RateOutOfRange) ∷ []) (fresh rate)
