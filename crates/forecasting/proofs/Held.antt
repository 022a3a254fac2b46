-- What is told of a row that behaves as the row it holds is what is told of that one.
use Rattle.std.proofs.Common.{◌≡◌, ℕ, ◌-◌, Bool, true, false, cond, List, [], ◌∷◌, ◌++◌, Ok, Err, Result, refl, ap, ◌∙◌}
use Rattle.budget.specs.Meaning.{Meaning, BehavesAsHeld}
use Rattle.budget.specs.Imports.{fileable}
use Rattle.budget.proofs.Holding.{held_rest}
use Rattle.outlook.specs.declared.entry.Entry.{Entry}
use Rattle.outlook.proofs.Held.{held_outlook}
use Rattle.measures.specs.Results.{◌>>=◌}
use Rattle.forecasting.specs.Lines.{or_fault, filed, held, at_start, after_step, step_lines, steps, told, listed, on_row}
use Rattle.forecast_lines.specs.declared.Fault.{Fault}
use Rattle.forecast_lines.specs.declared.Line.TheVariants.{Begin, End}

either_held : {A B : Type 0} (hold : A → B) (b : Bool) (x y : A) → cond b (hold x) (hold y) ≡ hold (cond b x y)
either_held hold true x y = refl
either_held hold false x y = refl

module _ {A B : Type 0} {m : Meaning A} {n : Meaning B} {hold : A → B} (b : BehavesAsHeld m n hold) where
  held_start : (x : A) (t : ℕ) (e : Entry) → at_start n (hold x) t e ≡ hold (at_start m x t e)
  held_start x t e = held_rest b x (e.start - t)

  held_after : (x : A) (t : ℕ) (e : Entry) → after_step n (hold x) t e ≡ hold (after_step m x t e)
  held_after x t e = rw (held_start x t e, b.able, b.ended) (either_held hold _ _ _)

  held_lines : (x : A) (t : ℕ) (e : Entry) → step_lines n (hold x) t e ≡ step_lines m x t e
  held_lines x t e =
      let k = e.number in
      let end = after_step n (hold x) t e in
      ap (λ y. Begin e.start k (n.level y) ∷ End e.end k (held e) (n.level end) (n.wake end) ∷ []) (held_start x t e)
      ∙ ap (λ y. Begin e.start k (n.level (hold (at_start m x t e))) ∷ End e.end k (held e) (n.level y) (n.wake y) ∷ []) (held_after x t e)
      ∙ rw (b.level (at_start m x t e), b.level (after_step m x t e), b.wake (after_step m x t e)) refl

  held_steps : (x : A) (t : ℕ) (es : List Entry) → steps n (hold x) t es ≡ steps m x t es
  held_steps x t [] = refl
  held_steps x t (e ∷ es) =
      ap (λ ls. ls ++ steps n (after_step n (hold x) t e) e.end es) (held_lines x t e)
      ∙ ap (λ y. step_lines m x t e ++ steps n y e.end es) (held_after x t e)
      ∙ ap (λ ls. step_lines m x t e ++ ls) (held_steps (after_step m x t e) e.end es)

  held_told : (x : A) (es : List Entry) → told n (hold x) es ≡ told m x es
  unfolding told
  held_told x es = rw (b.rate, b.ceiling, b.threshold, b.level, b.wake, held_steps x 0 es) refl

  told_alike : (x : A) (list : Result (List Entry) Fault) → (list >>= λ es. Ok (told n (hold x) es)) ≡ (list >>= λ es. Ok (told m x es))
  told_alike x (Ok es) = ap (λ ls. Ok ls) (held_told x es)
  told_alike x (Err fault) = refl

  pub held_row : (x : A) (cs : List ℕ) → on_row n (Ok (hold x)) cs ≡ on_row m (Ok x) cs
  held_row x cs =
      ap (λ list. or_fault (fileable cs >>= λ _. Ok list) >>= λ es. Ok (told n (hold x) es)) (held_outlook b x 0 (filed cs))
      ∙ told_alike x (listed m x cs)
