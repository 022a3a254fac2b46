-- The lock is free for what the rates leave, where each lab holds it within its licence.
use Rattle.std.proofs.Common.{◌≡◌, ℕ, zero, suc, ◌+◌, ◌*◌, ◌<◌, ◌≤◌, Bool, true, false, true≢false, ◌||◌, nat_eq, List, [], ◌∷◌, length, All, Some, refl, sym, ap, subst, ◌∙◌, arith, ⊎_elim, add-mul}
use Rattle.std.specs.Prelude.{slice_get}
use Rattle.std.specs.List.{sum_by}
use Rattle.std.proofs.lemmas.Bool.{cases_Bool, cases_eq, or_cases, or_left, or_right, eq-eqb}
use Rattle.std.proofs.lemmas.List.Elements.{All-head, All-tail}
use Rattle.std.proofs.lemmas.List.Sums.{sum_by-cons}
use Rattle.budget.specs.Meaning.{Meaning}
use Rattle.history.specs.Histories.{Event}
use Rattle.history.specs.Logs.{Run, is_inside, is_in_some, ticks_with, runs, runs_of, lock_time, free_ticks}
use Rattle.history.specs.Guaranteed.{beyond_rates}
use Rattle.history.proofs.Ledgers.{KeepsLicence}
use Rattle.history.proofs.Counting.{ticks_with-not, ticks_with-or, fewer_ticks, no_ticks}

-- tick j lies in a run of one of n labs, of which k is the first
is_held : List Run → ℕ → ℕ → ℕ → Bool
is_held rs k zero j = false
is_held rs k (suc n) j = is_in_some (runs_of k rs) j || is_held rs (suc k) n j

-- what lies in a run of lab lab lies in runs of the n labs, if it is among them
held_by : (rs : List Run) (j lab k n : ℕ) → k ≤ lab → lab < k + n → is_in_some (runs_of lab rs) j ≡ true → is_held rs k n j ≡ true
unfolding is_held
held_by rs j lab k zero from below held = absurd (omega (arith, from, below))
held_by rs j lab k (suc n) from below held =
    ⊎_elim
    (λ same. or_left (is_in_some (runs_of k rs) j) _ (subst (λ i. is_in_some (runs_of i rs) j ≡ true) same held))
    (λ other. or_right (is_in_some (runs_of k rs) j) _ (held_by rs j lab (suc k) n (omega arith) (omega arith) held))
    (cases_eq lab k)

-- a tick in some run lies in a run of that run's lab
of_some_lab : (rs : List Run) (n j : ℕ) → All (λ r. r.lab < n) rs → is_in_some rs j ≡ true
    → (lab : ℕ) × (lab < n) × (is_in_some (runs_of lab rs) j ≡ true)
unfolding is_in_some
of_some_lab [] n j labs held = absurd (true≢false (sym held))
of_some_lab (r ∷ rs) n j labs held =
    let own : r.lab < n = All-head (λ r. r.lab < n) r rs labs in
    ⊎_elim
    (λ inside. (r.lab, own, rw (eq-eqb r.lab r.lab refl) (or_left (is_inside j r) _ inside)))
    (λ later.
    let found = of_some_lab rs n j (All-tail (λ r. r.lab < n) r rs labs) later in
    let lab = found.0 in (
      lab,
      found.1,
      ⊎_elim
          (λ yes. rw yes (or_right (is_inside j r) _ found.2))
          (λ no. rw no found.2)
          (cases_Bool (nat_eq r.lab lab)),
    ))
    (or_cases (is_inside j r) (is_in_some rs j) held)

-- so it lies in a run of one of the n labs
all_held : (rs : List Run) (n j : ℕ) → All (λ r. r.lab < n) rs → is_in_some rs j ≡ true → is_held rs 0 n j ≡ true
all_held rs n j labs held =
    let found = of_some_lab rs n j labs held in
    held_by rs j found.0 0 n (omega arith) (omega (arith, found.1)) found.2

module _ {R : Type 0} (m : Meaning R) (es : List Event) (a n : ℕ) where
  -- the runs of a lab keep its licence, where x is its row
  abbrev IsWithin : ℕ → R → Type 0
  IsWithin lab x = KeepsLicence m x (runs_of lab (runs es)) a n

  -- all labs together, where the first row is that of lab k
  held_time : (k : ℕ) (rows : List R) → ((lab i : ℕ) (x : R) → lab ≡ k + i → slice_get rows i ≡ Some x → IsWithin lab x)
      → 1000 * ticks_with (is_held (runs es) k (length rows)) a n ≤ sum_by m.rate rows * n + beyond_rates m es k rows
  unfolding is_held beyond_rates
  held_time k [] within = omega (arith, no_ticks (is_held (runs es) k 0) a n (λ j low high. refl))
  held_time k (x ∷ xs) within =
      let rest = held_time (suc k) xs (λ lab i y at is. within lab (suc i) y (omega (arith, at)) is) in
      let others = is_held (runs es) (suc k) (length xs) in
      let both : ticks_with (is_held (runs es) k (suc (length xs))) a n ≤ lock_time es k a n + ticks_with others a n =
      ticks_with-or (is_in_some (runs_of k (runs es))) others a n in
      let rates = ap (λ r. r * n) (sum_by-cons m.rate x xs) ∙ add-mul (m.rate x) (sum_by m.rate xs) n in
      omega (arith, rest, both, rates, within k 0 x (omega arith) refl)

pub curators : {R : Type 0} (m : Meaning R) (rows : List R) (es : List Event) → All (λ r. r.lab < length rows) (runs es) → (a n : ℕ)
    → ((lab : ℕ) (x : R) → slice_get rows lab ≡ Some x → IsWithin m es a n lab x)
    → 1000 * n ≤ 1000 * free_ticks es a n + sum_by m.rate rows * n + beyond_rates m es 0 rows
curators m rows es labs a n within =
    let rs = runs es in
    let held = held_time m es a n 0 rows (λ lab i x at is. subst (λ k. IsWithin m es a n k x) (omega (arith, at)) (within i x is)) in
    let more = fewer_ticks (is_in_some rs) (is_held rs 0 (length rows)) a n (λ j in_run. all_held rs (length rows) j labs in_run) in
    omega (arith, held, more, ticks_with-not (is_in_some rs) a n)
