-- What comes next on one row alone: imports in order, each begun as soon as the row is able and lasting as declared.
use Rattle.std.specs.Prelude.{◌≡◌, ℕ, zero, suc, ◌+◌, ◌-◌, ◌/◌, ◌%◌, ◌<◌, ◌≤◌, Bool, true, false, not, List, [], ◌∷◌, length, Result, nat_lt}
use Rattle.std.specs.List.{list_all}
use Rattle.measures.specs.Limits.{last, most_waiting, is_length}
use Rattle.measures.specs.Refusals.{granted_unless}
use Rattle.measures.specs.declared.refusal.Refusal.{Refusal}
use Rattle.measures.specs.declared.refusal.Refusal.TheVariants.{LengthOutOfRange, QueueFull}
use Rattle.budget.specs.Meaning.{Meaning}

-- the ticks from start to end, for which an import is to hold the lock
pub record Slot : Type 0 where
  pub start : ℕ
  pub end : ℕ

module _ {R : Type 0} (row : Meaning R) where
  -- n counts of rest, each of the last tick
  abbrev pub rest_counts : R → ℕ → R
  rest_counts x zero = x
  rest_counts x (suc n) = row.rested (rest_counts x n) last

  -- d ticks of rest, in counts of at most the last tick
  abbrev pub rest_long : R → ℕ → R
  rest_long x d = row.rested (rest_counts x (d / last)) (d % last)

  -- from tick t on, the slot of an import of c ticks: it starts after the wake, and lasts as declared
  abbrev pub next_slot : R → ℕ → ℕ → Slot
  next_slot x t c = record { start = t + row.wake x; end = t + row.wake x + c }

  -- the row once it has rested until it is able, and run for c ticks
  abbrev pub after_run : R → ℕ → R
  after_run x c = row.ended (rest_long x (row.wake x)) c

  -- from tick t on, the slots of imports of these lengths, one after another
  abbrev pub schedule : R → ℕ → List ℕ → List Slot
  schedule x t [] = []
  schedule x t (c ∷ cs) = next_slot x t c ∷ schedule (after_run x c) (next_slot x t c).end cs

  -- The slot s is the soonest for an import of c ticks on the row x from tick t on: the row is able at its start and at no
  -- tick before, and it lasts c ticks.
  pub record Soonest (x : R) (t c : ℕ) (s : Slot) : Type 0 where
    pub from : t ≤ s.start
    pub able : row.able (rest_long x (s.start - t)) ≡ true
    pub not_before : (u : ℕ) → t ≤ u → u < s.start → row.able (rest_long x (u - t)) ≡ false
    pub lasts : s.end ≡ s.start + c

  -- each import has the soonest slot after the end of the one before, on the row as that has left it
  abbrev pub AllSoonest : R → ℕ → List ℕ → List Slot → Type 0
  AllSoonest x t [] [] = Unit {0}
  AllSoonest x t [] (s ∷ ss) = ⊥
  AllSoonest x t (c ∷ cs) [] = ⊥
  AllSoonest x t (c ∷ cs) (s ∷ ss) = Soonest x t c s × AllSoonest (row.ended (rest_long x (s.start - t)) c) s.end cs ss

abbrev pub are_lengths : List ℕ → Bool
are_lengths cs = list_all is_length cs

-- whether a lab with no ticket waiting can file imports of these lengths one after another, or the first refusal
abbrev pub fileable : List ℕ → Result (Unit {0}) Refusal
fileable cs = granted_unless ((not (are_lengths cs), LengthOutOfRange) ∷ (nat_lt most_waiting (length cs), QueueFull) ∷ []) tt
