-- What a forecast says of one lab's imports, filed at tick 0 and begun as soon as its row is able.
use Rattle.std.specs.Prelude.{◌≡◌, ℕ, ◌+◌, ◌-◌, ◌&&◌, List, [], ◌∷◌, ◌++◌, map, length, drop, Ok, Err, vec_items, Result, Vec, if◌then◌else◌, nat_lt, slice_index}
use Rattle.std.specs.List.{enumerate_from}
use Rattle.std.specs.declared.alloc.Global.{Global}
use Rattle.measures.specs.Limits.{last, is_tick}
use Rattle.measures.specs.Results.{◌>>=◌}
use Rattle.measures.specs.declared.refusal.Refusal.{Refusal}
use Rattle.budget.specs.Meaning.{Meaning}
use Rattle.budget.specs.Imports.{rest_long, fileable}
use Rattle.waiting.specs.declared.ticket.Ticket.{Ticket}
use Rattle.outlook.specs.Outlooks.{outlook}
use Rattle.outlook.specs.declared.entry.Entry.{Entry}
use Rattle.server.specs.Row.{server, made as server_made}
use Rattle.spaced.specs.Row.{spaced, made as spaced_made}
use Rattle.forecast_lines.specs.declared.Line.{Line}
use Rattle.forecast_lines.specs.declared.Line.TheVariants.{Terms, Opening, Begin, End, Import}
use Rattle.forecast_lines.specs.declared.Fault.{Fault}
use Rattle.forecast_lines.specs.declared.Fault.TheVariants.{NotANumber, TooFewNumbers, Refused, OutOfMemory}
use Rattle.forecasting.specs.declared.lines.Rule.{Rule}
use Rattle.forecasting.specs.declared.lines.Rule.TheVariants.{Server, Spaced}

-- the ticket of lab 0 for an import of c ticks that is filed at tick 0 with no due date, where tickets wait in the order of arrival
abbrev pub filed_ticket : ℕ → ℕ → Ticket
filed_ticket number c = record { key = 0; number = number; lab = 0; filed = 0; length = c; due = last }

-- The tickets for imports of these lengths, as if they were the first that are filed at a new gate, by its lab 0: they are numbered from 1.
-- Whether a gate would take them all is not asked here.
abbrev pub filed : List ℕ → List Ticket
filed cs = map (λ p. filed_ticket (p.0 + 1) p.1) (enumerate_from 0 cs)

-- the ticks that an import holds the lock
abbrev pub held : Entry → ℕ
held e = e.end - e.start

-- a line for each import: its number, start, end, and the response time since the filing at tick 0
abbrev pub imports : List Entry → List Line
imports [] = []
imports (e ∷ es) = Import e.number e.start e.end e.end ∷ imports es

module _ {R : Type 0} (row : Meaning R) where
  -- the row at the start of an import, if it has rested since tick t
  abbrev pub at_start : R → ℕ → Entry → R
  at_start x t e = rest_long row x (e.start - t)

  -- the row at the end of the import, once it has heard of the run; a row that answers no stays as it is
  abbrev pub after_step : R → ℕ → Entry → R
  after_step x t e = if is_tick (held e) && row.able (at_start x t e) then row.ended (at_start x t e) (held e) else at_start x t e

  -- an import begins and ends
  abbrev pub step_lines : R → ℕ → Entry → List Line
  step_lines x t e =
      Begin e.start e.number (row.level (at_start x t e)) ∷ End e.end e.number (held e) (row.level (after_step x t e)) (row.wake (after_step x t e)) ∷ []

  -- the imports of these entries begin and end, from tick t on
  abbrev pub steps : R → ℕ → List Entry → List Line
  steps x t [] = []
  steps x t (e ∷ es) = step_lines x t e ++ steps (after_step x t e) e.end es

  -- all that happens to the imports of these entries from tick 0 on
  unfoldable pub told : R → List Entry → List Line
  told x es = Terms (row.rate x) (row.ceiling x) (row.threshold x) ∷ Opening (row.level x) (row.wake x) ∷ (steps x 0 es ++ imports es)

-- a refusal is the fault of a forecast
abbrev pub or_fault : {A : Type 0} → Result A Refusal → Result A Fault
or_fault (Ok a) = Ok a
or_fault (Err r) = Err (Refused r)

-- the entries of imports of these lengths, filed at tick 0 and listed on the row x, or the first refusal
abbrev pub listed : {R : Type 0} → Meaning R → R → List ℕ → Result (List Entry) Fault
listed m x cs = or_fault (fileable cs >>= λ _. Ok (outlook m x 0 (filed cs)))

-- imports of these lengths are filed at tick 0 on a row, if it is made: what then happens, or the first refusal
abbrev pub on_row : {R : Type 0} → Meaning R → Result R Refusal → List ℕ → Result (List Line) Fault
on_row m row cs = or_fault row >>= λ x. listed m x cs >>= λ es. Ok (told m x es)

-- how many numbers ask for a forecast at least: the terms of a row of this rule, and one length
abbrev pub fewest : Rule → ℕ
fewest Server = 4
fewest Spaced = 2

-- what the terms of a row of this rule and one length or more ask for: of a server row a rate, a ceiling and a threshold, of a spaced
-- row a rate
abbrev pub foretold : Rule → List ℕ → Result (List Line) Fault
foretold Server ns =
    if nat_lt (length ns) (fewest Server) then Err TooFewNumbers else on_row server (server_made (slice_index ns 0) (slice_index ns 1) (slice_index ns 2)) (drop 3 ns)
foretold Spaced ns = if nat_lt (length ns) (fewest Spaced) then Err TooFewNumbers else on_row spaced (spaced_made (slice_index ns 0)) (drop 1 ns)

-- what a fault says of what was asked for; want of memory says nothing
abbrev pub Excused : {A : Type 0} → Fault → Result A Fault → Type 0
Excused OutOfMemory asked = Unit {0}
Excused (NotANumber k) asked = asked ≡ Err (NotANumber k)
Excused TooFewNumbers asked = asked ≡ Err TooFewNumbers
Excused (Refused r) asked = asked ≡ Err (Refused r)

-- the answer holds what was asked for, or says why there is none
abbrev pub Answers : {A : Type 0} → Result (Vec A Global) Fault → Result (List A) Fault → Type 0
Answers (Ok v) asked = asked ≡ Ok (vec_items v)
Answers (Err f) asked = Excused f asked
