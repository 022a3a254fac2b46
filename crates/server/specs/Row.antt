-- What a server row means. Between runs it is able or not able: a run may only begin on an able row, a row in debt becomes able
-- again at its threshold, and an able row stays able.
use Rattle.std.specs.Prelude.{ℕ, ◌-◌, ◌*◌, min, Bool, false, not, ◌&&◌, ◌||◌, [], ◌∷◌, ℤ, pos, ◌+ℤ◌, ◌-ℤ◌, neg_ℤ, Result, ◌==◌, if◌then◌else◌, int_le, nat_lt, unsigned_abs}
use Rattle.std.specs.Int.{int_max, int_min}
use Rattle.measures.specs.Limits.{last, greatest_ceiling, is_rate, nearest_rate, is_ceiling}
use Rattle.measures.specs.Division.{up_div}
use Rattle.measures.specs.Refusals.{granted_unless}
use Rattle.measures.specs.declared.refusal.Refusal.{Refusal}
use Rattle.measures.specs.declared.refusal.Refusal.TheVariants.{RateOutOfRange, CeilingOutOfRange, ThresholdAboveCeiling}
use Rattle.budget.specs.Meaning.{Meaning}
use Rattle.server.specs.declared.ServerRow.{ServerRow}

-- A stored number out of its range is read as the nearest lawful one.

abbrev pub rate_of : ServerRow → ℕ
rate_of x = nearest_rate x.rate

abbrev pub ceiling_of : ServerRow → ℕ
ceiling_of x = min greatest_ceiling x.ceiling

abbrev pub threshold_of : ServerRow → ℕ
threshold_of x = min (ceiling_of x) x.threshold

-- the level to which a run of c ticks takes a row of this rate that has nothing
abbrev pub debt : ℕ → ℕ → ℤ
debt rate c = neg_ℤ (pos ((1000 - rate) * c))

-- no debt is above this, whatever the rate
abbrev pub deepest : ℕ
deepest = 1000 * last

-- no level is below that after a run of the last tick's length, or above the ceiling
abbrev pub level_of : ServerRow → ℤ
level_of x = int_max (debt (rate_of x) last) (int_min x.level (pos (ceiling_of x)))

-- at the threshold or above, or marked able and not in debt
abbrev pub able_of : ServerRow → Bool
able_of x = int_le (pos (threshold_of x)) (level_of x) || (x.able && int_le (pos 0) (level_of x))

-- how far the level is from the threshold
abbrev pub missing : ServerRow → ℕ
missing x = unsigned_abs (pos (threshold_of x) -ℤ level_of x)

-- the ticks in which the rate makes up for what is missing, rounded up; none on an able row
abbrev pub wake_of : ServerRow → ℕ
wake_of x = if able_of x then 0 else up_div (missing x) (rate_of x)

-- the same terms with another level and mark
abbrev pub with_level : ServerRow → ℤ → Bool → ServerRow
with_level x l a = record { rate = x.rate; ceiling = x.ceiling; threshold = x.threshold; level = l; able = a }

-- level 0, and able exactly if the threshold is 0
abbrev pub restarted : ServerRow → ServerRow
restarted x = with_level x (pos 0) (threshold_of x == 0)

-- what d ticks of rest raise the level to: rate × d more, cut at the ceiling
abbrev pub raised : ServerRow → ℕ → ℤ
raised x d = int_min (level_of x +ℤ pos (rate_of x * d)) (pos (ceiling_of x))

-- a row that is not able becomes able when the level reaches the threshold, and an able row stays able
abbrev pub rested : ServerRow → ℕ → ServerRow
rested x d = with_level x (raised x d) (able_of x || int_le (pos (threshold_of x)) (raised x d))

-- a run is charged by the ticks held
abbrev pub charged : ServerRow → ℕ → ℤ
charged x c = level_of x +ℤ debt (rate_of x) c

-- then the row is able exactly if the level is 0 or more
abbrev pub ended : ServerRow → ℕ → ServerRow
ended x c = with_level x (charged x c) (int_le (pos 0) (charged x c))

abbrev pub server : Meaning ServerRow
server = record {
  level = level_of;
  wake = wake_of;
  able = able_of;
  rate = rate_of;
  ceiling = ceiling_of;
  threshold = threshold_of;
  restarted = restarted;
  rested = rested;
  ended = ended;
}

-- a row on these terms, as after a restart
abbrev pub fresh : ℕ → ℕ → ℕ → ServerRow
fresh rate ceiling threshold = restarted (record { rate = rate; ceiling = ceiling; threshold = threshold; level = pos 0; able = false })

-- a new row, or the first refusal
abbrev pub made : ℕ → ℕ → ℕ → Result ServerRow Refusal
made rate ceiling threshold =
    granted_unless
    ((not (is_rate rate), RateOutOfRange) ∷ (not (is_ceiling ceiling), CeilingOutOfRange) ∷ (nat_lt ceiling threshold, ThresholdAboveCeiling) ∷ [])
    (fresh rate ceiling threshold)
