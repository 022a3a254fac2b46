-- What is told of a mixed row is what numbers ask for, where it holds the row that is made of the first of them.
use Rattle.std.proofs.Common.{◌≡◌, ℕ, ◌+◌, ◌-◌, ◌<◌, false, cond, List, length, get_or, take, drop, ◌==◌, nat_lt, Ok, Err, Result, Vec, sym, ap, ◌∙◌, subst, arith, length-drop}
use Rattle.std.specs.declared.alloc.Global.{Global}
use Rattle.std.proofs.Math.Seq.{take-length}
use Rattle.std.proofs.lemmas.Bool.{cond-false, eqb-false, le-ltb}
use Rattle.measures.specs.declared.refusal.Refusal.{Refusal}
use Rattle.budget.specs.Meaning.{Meaning, BehavesAsHeld}
use Rattle.server.specs.Row.{made as server_made}
use Rattle.server.specs.declared.ServerRow.{ServerRow}
use Rattle.spaced.specs.Row.{made as spaced_made}
use Rattle.spaced.specs.declared.SpacedRow.{SpacedRow}
use Rattle.mixed.specs.Row.{mixed}
use Rattle.mixed.specs.declared.MixedRow.{MixedRow}
use Rattle.mixed.specs.declared.MixedRow.TheVariants.{Server, Spaced}
use Rattle.mixed.proofs.Held.{server_held, spaced_held}
use Rattle.forecast_lines.specs.declared.Line.{Line}
use Rattle.forecast_lines.specs.declared.Fault.{Fault}
use Rattle.forecast_lines.specs.declared.Fault.TheVariants.{TooFewNumbers}
use Rattle.forecasting.specs.declared.lines.Rule.{Rule}
use Rattle.forecasting.specs.declared.lines.Rule.TheVariants as rules
use Rattle.forecasting.specs.Lines.{on_row, foretold, Answers}
use Rattle.forecasting.proofs.Held.{held_row}

-- what comes after the first k numbers
abbrev pub rest : ℕ → List ℕ → List ℕ
rest k ns = take (length ns - k) (drop k ns)

-- the first k numbers are terms, of which a row x is made, and the others are lengths, of which there is one or more
asked : {R : Type 0} {m : Meaning R} {hold : R → MixedRow} → BehavesAsHeld m mixed hold
    → (k : ℕ) (ns : List ℕ) (made : Result R Refusal) (x : R) → false ≡ (length (rest k ns) == 0) → Ok x ≡ made
    → on_row mixed (Ok (hold x)) (rest k ns) ≡ cond (nat_lt (length ns) (k + 1)) (Err TooFewNumbers) (on_row m made (drop k ns))
asked {m = m} {hold = hold} b k ns made x some is_made =
    let all : rest k ns ≡ drop k ns = ap (λ j. take j (drop k ns)) (sym (length-drop k ns)) ∙ take-length (drop k ns) in
    let empty = eqb-false (length (rest k ns)) 0 (sym some) in
    let more : k < length ns = grind (arith, ap length all, length-drop k ns, empty) in
    let enough : nat_lt (length ns) (k + 1) ≡ false = le-ltb (length ns) (k + 1) (omega arith) in
    ap (on_row mixed (Ok (hold x))) all
    ∙ held_row b x (drop k ns)
    ∙ ap (λ row. on_row m row (drop k ns)) is_made
    ∙ sym (cond-false (nat_lt (length ns) (k + 1)) (Err TooFewNumbers) _ enough)

module _ (ns : List ℕ) (rule : Rule) (row : MixedRow) (answer : Result (Vec Line Global) Fault) where
  pub asked_server : (x : ServerRow) → rule ≡ rules.Server → row ≡ Server x → false ≡ (length (rest 3 ns) == 0) → Ok x ≡ server_made (get_or ns 0 0) (get_or ns 1 0) (get_or ns 2 0)
      → Answers answer (on_row mixed (Ok row) (rest 3 ns)) → Answers answer (foretold rule ns)
  asked_server x is_rule is_row some made =
      subst (Answers answer)
      (ap (λ y. on_row mixed (Ok y) (rest 3 ns)) is_row ∙ asked server_held 3 ns _ x some made ∙ ap (λ r. foretold r ns) (sym is_rule))

  pub asked_spaced : (x : SpacedRow) → rule ≡ rules.Spaced → row ≡ Spaced x → false ≡ (length (rest 1 ns) == 0) → Ok x ≡ spaced_made (get_or ns 0 0)
      → Answers answer (on_row mixed (Ok row) (rest 1 ns)) → Answers answer (foretold rule ns)
  asked_spaced x is_rule is_row some made =
      subst (Answers answer)
      (ap (λ y. on_row mixed (Ok y) (rest 1 ns)) is_row ∙ asked spaced_held 1 ns _ x some made ∙ ap (λ r. foretold r ns) (sym is_rule))
