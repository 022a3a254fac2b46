-- The rows of a plan's labs, made one after another.
use Rattle.std.proofs.Common.{◌≡◌, ℕ, suc, ◌+◌, ◌<◌, ◌≤◌, List, [], ◌∷◌, ◌++◌, drop, length, slice_index_or, Ok, Err, Result, refl, sym, ap, ◌∙◌, append_assoc, append-nil, arith}
use Rattle.std.proofs.lemmas.List.{at_drop_more, drop_all}
use Rattle.measures.specs.declared.refusal.Refusal.{Refusal}
use Rattle.server.specs.declared.ServerRow.{ServerRow}
use Rattle.plan.specs.declared.plan.Terms.{Terms}
use Rattle.course.specs.Asking.{labs_line}
use Rattle.measures.specs.Results.{◌>>=◌}
use Rattle.course.specs.Playing.{Refused, row_of, rows_of}

-- these first, and then the rows that are made
abbrev with_rows : List ServerRow → Result (List ServerRow) Refused → Result (List ServerRow) Refused
with_rows done made = made >>= λ xs. Ok (done ++ xs)

-- The rows of the first i labs are these; with those of the others they are all, or the first refusal is left.
unfoldable pub HaveRows : List Terms → List ServerRow → ℕ → Type 0
HaveRows labs rows i = with_rows rows (rows_of (i + labs_line) (drop i labs)) ≡ rows_of labs_line labs

-- no row is made
pub no_row : (labs : List Terms) → HaveRows labs [] 0
unfolding HaveRows
no_row labs = only (rows_of labs_line labs)
  where
    only : (made : Result (List ServerRow) Refused) → with_rows [] made ≡ made
    only (Ok xs) = refl
    only (Err r) = refl

with_row : (done : List ServerRow) (x : ServerRow) (made : Result (List ServerRow) Refused)
    → with_rows done (made >>= λ xs. Ok (x ∷ xs)) ≡ with_rows (done ++ x ∷ []) made
with_row done x (Ok xs) = ap Ok (sym (append_assoc done (x ∷ []) xs))
with_row done x (Err r) = refl

module _ (labs : List Terms) (rows : List ServerRow) (i : ℕ) where
  -- the row of the next lab is made
  pub one_row : (d : Terms) (x : ServerRow) → HaveRows labs rows i → i < length labs → row_of (slice_index_or labs i d) ≡ Ok x
      → HaveRows labs (rows ++ x ∷ []) (i + 1)
  unfolding HaveRows
  one_row d x so_far more good =
      let on : i + 1 + labs_line ≡ suc (i + labs_line) = omega arith in
      let rest = rows_of (suc (i + labs_line)) (drop (i + 1) labs) in
      let read : rows_of (i + labs_line) (slice_index_or labs i d ∷ drop (i + 1) labs) ≡ (rest >>= λ xs. Ok (x ∷ xs)) = rw good refl in
      ap (λ k. with_rows (rows ++ x ∷ []) (rows_of k (drop (i + 1) labs))) on
      ∙ sym (with_row rows x rest)
      ∙ ap (with_rows rows) (sym read ∙ sym (at_drop_more (rows_of (i + labs_line)) labs i d more))
      ∙ so_far

  -- it is refused
  pub row_refused : (d : Terms) (r : Refusal) → HaveRows labs rows i → i < length labs → row_of (slice_index_or labs i d) ≡ Err r
      → rows_of labs_line labs ≡ Err (record { line = i + labs_line; refusal = r })
  unfolding HaveRows
  row_refused d r so_far more bad =
      let read : rows_of (i + labs_line) (slice_index_or labs i d ∷ drop (i + 1) labs) ≡ Err (record { line = i + labs_line; refusal = r })
      = rw bad refl in
      sym so_far ∙ ap (with_rows rows) (at_drop_more (rows_of (i + labs_line)) labs i d more ∙ read)

  -- all are made
  pub all_rows : HaveRows labs rows i → length labs ≤ i → rows_of labs_line labs ≡ Ok rows
  unfolding HaveRows
  all_rows so_far done = sym so_far ∙ ap (λ l. with_rows rows (rows_of (i + labs_line) l)) (drop_all i labs done) ∙ ap Ok (append-nil rows)
