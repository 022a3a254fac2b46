-- A row that behaves as the row it holds does so over any rest, and has the same imports in the same slots.
use Rattle.std.proofs.Common.{◌≡◌, ℕ, zero, suc, ◌+◌, ◌/◌, ◌%◌, List, [], ◌∷◌, refl, ap, ◌∙◌}
use Rattle.measures.specs.Limits.{last}
use Rattle.budget.specs.Meaning.{Meaning, BehavesAsHeld}
use Rattle.budget.specs.Imports.{rest_counts, rest_long, next_slot, after_run, schedule}

module _ {A B : Type 0} {m : Meaning A} {n : Meaning B} {hold : A → B} (b : BehavesAsHeld m n hold) where
  held_counts : (x : A) (k : ℕ) → rest_counts n (hold x) k ≡ hold (rest_counts m x k)
  held_counts x zero = refl
  held_counts x (suc k) = ap (λ y. n.rested y last) (held_counts x k) ∙ b.rested (rest_counts m x k) last

  pub held_rest : (x : A) (d : ℕ) → rest_long n (hold x) d ≡ hold (rest_long m x d)
  held_rest x d = ap (λ y. n.rested y (d % last)) (held_counts x (d / last)) ∙ b.rested (rest_counts m x (d / last)) (d % last)

  held_run : (x : A) (c : ℕ) → after_run n (hold x) c ≡ hold (after_run m x c)
  held_run x c =
      ap (λ w. n.ended (rest_long n (hold x) w) c) (b.wake x)
      ∙ ap (λ y. n.ended y c) (held_rest x (m.wake x))
      ∙ b.ended (rest_long m x (m.wake x)) c

  pub held_schedule : (x : A) (t : ℕ) (cs : List ℕ) → schedule n (hold x) t cs ≡ schedule m x t cs
  held_schedule x t [] = refl
  held_schedule x t (c ∷ cs) =
      ap (λ w. record { start = t + w; end = t + w + c } ∷ schedule n (after_run n (hold x) c) (t + w + c) cs) (b.wake x)
      ∙ ap (λ y. next_slot m x t c ∷ schedule n y (next_slot m x t c).end cs) (held_run x c)
      ∙ ap (λ ss. next_slot m x t c ∷ ss) (held_schedule (after_run m x c) (next_slot m x t c).end cs)
