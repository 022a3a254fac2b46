-- Who is behind whom as labs are served.
use Rattle.std.proofs.Common.{◌≡◌, ℕ, ◌<◌, true, refl, sym, subst, arith}
use Rattle.std.proofs.lemmas.Bool.{le-leb}
use Rattle.measures.specs.Limits.{most_labs, greatest_lab_number}
use Rattle.turns.specs.Turns.{Turns, Fair, is_ahead, after_served}
use Rattle.history.proofs.Leading.{ahead_means}

module _ {T : Type 0} (turn : Turns T) where
  -- o is behind i
  abbrev pub Behind : T → ℕ → ℕ → Type 0
  Behind x i o = turn.place x i < turn.place x o

  -- a lab number is served
  served_is : (x : T) (k : ℕ) → k < most_labs → after_served turn x k ≡ turn.served x k
  served_is x k low = rw (le-leb k greatest_lab_number (omega arith)) refl

  -- whoever is ahead has the other behind
  behind_ahead : (x : T) (i o : ℕ) → is_ahead turn x i o ≡ true → Behind x i o
  behind_ahead x i o ahead = (ahead_means turn x i o ahead).2

  module _ (fair : Fair turn) where
    -- o stays behind i while a third is served that is ahead of i
    pub after_behind : (x : T) (i o j : ℕ) → i < most_labs → o < most_labs → j < most_labs → is_ahead turn x j i ≡ true → Behind x i o
        → Behind (after_served turn x j) i o
    after_behind x i o j i_low o_low j_low ahead behind =
        subst (λ y. Behind y i o) (sym (served_is x j j_low)) (fair.keeps x j i o j_low i_low o_low (behind_ahead x j i ahead) behind)

    -- o is behind i once it is served ahead of i
    pub first_behind : (x : T) (i o : ℕ) → i < most_labs → o < most_labs → is_ahead turn x o i ≡ true → Behind (after_served turn x o) i o
    first_behind x i o i_low o_low ahead =
        subst (λ y. Behind y i o) (sym (served_is x o o_low)) (fair.yields x o i o_low i_low (behind_ahead x o i ahead))
