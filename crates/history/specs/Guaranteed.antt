-- What a gate promises of everything that can follow its opening.
use Rattle.std.specs.Prelude.{◌≡◌, ℕ, suc, ◌+◌, ◌-◌, ◌*◌, ◌≤◌, true, List, [], ◌∷◌, ◌++◌, slice_get, Ok}
use Rattle.std.specs.List.{sum_by, Contains}
use Rattle.std.specs.declared.option.Option.TheVariants.{Some}
use Rattle.budget.specs.Meaning.{Meaning, full_wait, first_wait}
use Rattle.turns.specs.Turns.{Turns}
use Rattle.history.specs.declared.turn.Turn.{Turn}
use Rattle.history.specs.declared.turn.Turn.TheVariants.{Began}
use Rattle.history.specs.Gates.{Moment}
use Rattle.history.specs.Histories.{Event, File, Begin, End, History}
use Rattle.history.specs.Logs.{Run, log, runs_of, lock_time, free_ticks, longest_run, waits}

-- Of a lab's finished runs, the newest first: the tick at which its full wait after the last of them is over; without one, that at which the
-- wait that counts from the opening is over.
abbrev pub rest_over : ℕ → ℕ → List Run → ℕ
rest_over rate threshold [] = first_wait rate threshold
rest_over rate threshold (r ∷ rs) = r.to + full_wait rate threshold (r.to - r.from)

-- by tick t the lab with the row x has rested its full wait
abbrev pub HasRested : {R : Type 0} → Meaning R → R → List Event → ℕ → ℕ → Type 0
HasRested row x es lab t = rest_over (row.rate x) (row.threshold x) (runs_of lab (log es).over) ≤ t

-- a begin at tick t that starts an import: of the lab, by the ticket with this number, declared to last so long
abbrev pub started : ℕ → ℕ → ℕ → ℕ → Event
started t lab number declared = Begin t (Ok (Began lab number declared))

-- the event starts an import of the lab
abbrev pub Starts : ℕ → Event → Type 0
Starts lab e = (t : ℕ) × (number : ℕ) × (declared : ℕ) × (e ≡ started t lab number declared)

-- before each of these events, and after the last of them, a ticket of the lab waits, and none of them starts an import of the lab
abbrev pub KeepsWaiting : ℕ → List Event → List Event → Type 0
KeepsWaiting lab [] before = waits before lab ≡ true
KeepsWaiting lab (e ∷ es) before = (waits (e ∷ es ++ before) lab ≡ true) × (Starts lab e → ⊥) × KeepsWaiting lab es before

-- what the labs from k on may take beyond their rates: each its ceiling and (1000 − rate) × its longest run; the first row is that of lab k
unfoldable pub beyond_rates : {R : Type 0} → Meaning R → List Event → ℕ → List R → ℕ
beyond_rates row es k [] = 0
beyond_rates row es k (x ∷ xs) = row.ceiling x + (1000 - row.rate x) * longest_run es k + beyond_rates row es (suc k) xs

-- the event is a granted file, answered with this number
abbrev pub IsFiling : ℕ → Event → Type 0
IsFiling number e = (t : ℕ) × (lab : ℕ) × (declared : ℕ) × (due : ℕ) × (e ≡ File t lab declared due (Ok number))

-- What an end at tick t answers of the run that it ends is so by the events before it: the one ticket with that number was filed, and holds
-- the lock since it began; held is the ticks since it began, and response those since it was filed.
pub record IsExact (es : List Event) (t number held response : ℕ) : Type 0 where
  pub lab : ℕ
  pub declared : ℕ
  pub due : ℕ
  pub filed : ℕ
  pub began : ℕ
  pub was_filed : Contains es (File filed lab declared due (Ok number))
  pub once : (e : Event) → Contains es e → IsFiling number e → e ≡ File filed lab declared due (Ok number)
  pub has_begun : Contains es (started began lab number declared)
  pub holds : (log es).hold ≡ Some (record { lab = lab; number = number; from = began })
  pub held_since : began + held ≡ t
  pub responds_since : filed + response ≡ t

-- what is guaranteed of events, the newest first, on a gate that was opened with these rows
pub record Kept {R : Type 0} (row : Meaning R) (rows : List R) (es : List Event) : Type 0 where
  -- In the n ticks from a on, up to the clock, no lab holds the lock beyond its licence.
  pub lab_bound : (lab a n : ℕ) (x : R) → slice_get rows lab ≡ Some x → a + n ≤ (log es).clock
      → 1000 * lock_time es lab a n ≤ row.rate x * n + row.ceiling x + (1000 - row.rate x) * longest_run es lab
  -- Curators keep their share: all ticks but those that the rates allow, and what each lab's ceiling and its longest run take, are free.
  pub curators : (a n : ℕ) → a + n ≤ (log es).clock → 1000 * n ≤ 1000 * free_ticks es a n + sum_by row.rate rows * n + beyond_rates row es 0 rows
  -- While a lab that has rested waits, each granted begin starts an import.
  pub no_idling : (lab t : ℕ) (x : R) (told : Turn) (earlier : List Event) → slice_get rows lab ≡ Some x → es ≡ Begin t (Ok told) ∷ earlier
      → HasRested row x earlier lab t → waits earlier lab ≡ true → (k : ℕ) × Starts k (Begin t (Ok told))
  -- And no other lab starts two, until it begins or has no ticket waiting.
  pub no_overtaking : (lab other t number declared : ℕ) (x : R) (second : Event) (between earlier : List Event) → slice_get rows lab ≡ Some x
      → (lab ≡ other → ⊥)
      → let first = started t other number declared in es ≡ second ∷ between ++ first ∷ earlier
      → HasRested row x earlier lab t → KeepsWaiting lab (between ++ first ∷ []) earlier
      → Starts other second → ⊥
  -- Each granted end answers the ticket of the run that it ends, and just the ticks since that began and was filed.
  pub exact_end : (t number held response : ℕ) (earlier : List Event) → es ≡ End t (Ok (number, held, response)) ∷ earlier
      → IsExact earlier t number held response

-- everything that can follow the moment s keeps what is guaranteed
unfoldable pub Guarantee : {R T : Type 0} → Meaning R → Turns T → Moment R T → Type 0
Guarantee row turn s = (es : List Event) (later : Moment _ _) → History row turn s es later → Kept row s.rows es
