-- Ten worked cases as one table of figures, and that each figure is what the definitions give.
use Rattle.std.specs.Prelude.{◌≡◌, ℕ, true, false, pos, neg_ℤ, List, [], ◌∷◌, ◌++◌, All, Ok, Err, Result}
use Rattle.measures.specs.Limits.{last, greatest_lab_number}
use Rattle.measures.specs.Refusals.{number_of}
use Rattle.measures.specs.declared.refusal.Refusal.{Refusal}
use Rattle.budget.specs.Meaning.{full_wait}
use Rattle.server.specs.declared.ServerRow.{ServerRow}
use Rattle.server.specs.Row.{fresh as server_row}
use Rattle.spaced.specs.Row.{fresh as spaced_row, left_of, spaced}
use Rattle.turns.specs.Orders.{from_to}
use Rattle.turns.specs.Turns.{after_served, order}
use Rattle.turns.specs.Circular.{circular, ending_with}
use Rattle.turns.specs.LongestUnserved.{longest_unserved, begun}
use Rattle.history.specs.declared.turn.Turn.TheVariants.{Began, Wait}
use Rattle.history.specs.Histories.{File, Begin, End}
use Rattle.examples.specs.Transcripts.{Seen, Transcript, opening, transcript, calls_of}

-- a fact of a case: what is asked, and last the figures that answer it
pub data Fact : Type 0 where
  -- a gate is opened on these rows, and these are the calls on it, each with its answer and with what the rows then answer
  OnGate : (rows : List ServerRow) → Transcript → Fact
  -- the full wait after a run of so many ticks
  FullWait : (rate threshold run : ℕ) → ℕ → Fact
  -- the ticks left on a new spaced row after a run of so many ticks
  TicksLeft : (rate run : ℕ) → ℕ → Fact
  -- the order of circular turns, or of longest-unserved turns, once only this number was served
  CircularOrder : (served : ℕ) → List ℕ → Fact
  LongestUnservedOrder : (served : ℕ) → List ℕ → Fact
  -- an opening on these rows: granted, or refused by this number
  Opens : (rows : List ServerRow) → Result (Unit {0}) ℕ → Fact

-- figures of each kind
pub data Figures : Type 0 where
  Lines : Transcript → Figures
  Ticks : ℕ → Figures
  Numbers : List ℕ → Figures
  Granted : Result (Unit {0}) ℕ → Figures

-- the figures of a fact that the table has
abbrev pub in_table : Fact → Figures
in_table (OnGate rows lines) = Lines lines
in_table (FullWait rate threshold run wait) = Ticks wait
in_table (TicksLeft rate run left) = Ticks left
in_table (CircularOrder served numbers) = Numbers numbers
in_table (LongestUnservedOrder served numbers) = Numbers numbers
in_table (Opens rows answer) = Granted answer

-- a refusal by its number
abbrev pub numbered : Result (Unit {0}) Refusal → Result (Unit {0}) ℕ
numbered (Ok granted) = Ok granted
numbered (Err refusal) = Err (number_of refusal)

-- the figures of a fact that the definitions give
abbrev pub by_definition : Fact → Figures
by_definition (OnGate rows lines) = Lines (transcript rows (calls_of lines))
by_definition (FullWait rate threshold run wait) = Ticks (full_wait rate threshold run)
by_definition (TicksLeft rate run left) = Ticks (left_of (spaced.ended (spaced_row rate) run))
by_definition (CircularOrder served numbers) = Numbers (order circular (after_served circular (ending_with greatest_lab_number) served))
by_definition (LongestUnservedOrder served numbers) = Numbers (order longest_unserved (after_served longest_unserved begun served))
by_definition (Opens rows answer) = Granted (numbered (opening rows).answer)

-- what the only row of a table answers: it is able, and has this level
abbrev pub able : ℕ → List Seen
able level = record { level = pos level; able = true; wake = 0 } ∷ []

-- it is not able, and has this level and this wake
abbrev pub not_able : ℕ → ℕ → List Seen
not_able level wake = record { level = pos level; able = false; wake = wake } ∷ []

-- it is not able, and has this wake and a level so far below 0
abbrev pub in_debt : ℕ → ℕ → List Seen
in_debt debt wake = record { level = neg_ℤ (pos debt); able = false; wake = wake } ∷ []

-- the table of one lab, whose row is of rate 200, ceiling 2000 and threshold 1000
abbrev pub one_row : List ServerRow
one_row = server_row 200 2000 1000 ∷ []

-- two imports are filed at tick 0, of 3 ticks and of 1, with no due date
abbrev pub filed : Transcript
filed = (File 0 0 3 last (Ok 1), not_able 0 5) ∷ (File 0 0 1 last (Ok 2), not_able 0 5) ∷ []

-- 1. Begin at 0 answers wait, with tick 5. At 5 ticket 1 begins.
abbrev pub first_begun : Transcript
first_begun = filed ++ (Begin 0 (Ok (Wait 5)), not_able 0 5) ∷ (Begin 5 (Ok (Began 0 1 3)), able 1000) ∷ []

-- 2. An end at 8 leaves level −1400, and begin answers wait, with tick 20.
abbrev pub first_ended : Transcript
first_ended = first_begun ++ (End 8 (Ok (1, 3, 8)), in_debt 1400 12) ∷ (Begin 8 (Ok (Wait 20)), in_debt 1400 12) ∷ []

-- 3. At 20 the level is 1000. An end at 21 leaves 200, and the row is able.
abbrev pub second_ended : Transcript
second_ended = first_ended ++ (Begin 20 (Ok (Began 0 2 1)), able 1000) ∷ (End 21 (Ok (2, 1, 21)), able 200) ∷ []

-- 5. The first import begins at 8 and ends at 10: the level is 0, and the row is able.
abbrev pub begun_at_8 : Transcript
begun_at_8 = filed ++ (Begin 8 (Ok (Began 0 1 3)), able 1600) ∷ (End 10 (Ok (1, 2, 10)), able 0) ∷ []

-- 6. The first import begins at 7 and ends at 9: the level is −200, and the wake is 6.
abbrev pub begun_at_7 : Transcript
begun_at_7 = filed ++ (Begin 7 (Ok (Began 0 1 3)), able 1400) ∷ (End 9 (Ok (1, 2, 9)), in_debt 200 6) ∷ []

-- 7. A row of rate 300, with the same ceiling and threshold, has level 900 at tick 3 and is not able, and level 1200 at 4 and is able.
abbrev pub able_at_4 : Transcript
able_at_4 = (File 0 0 1 last (Ok 1), not_able 0 4) ∷ (Begin 3 (Ok (Wait 4)), not_able 900 1) ∷ (Begin 4 (Ok (Began 0 1 1)), able 1200) ∷ []

-- the table: ten cases in their order, each with its facts
unfoldable pub cases : List (List Fact)
cases =
    (OnGate one_row first_begun ∷ [])
    ∷ (OnGate one_row first_ended ∷ [])
    ∷ (OnGate one_row second_ended ∷ [])
    -- 4. The full wait of 3 ticks is 17.
    ∷ (FullWait 200 1000 3 17 ∷ [])
    ∷ (OnGate one_row begun_at_8 ∷ [])
    ∷ (OnGate one_row begun_at_7 ∷ [])
    ∷ (OnGate (server_row 300 2000 1000 ∷ []) able_at_4 ∷ [])
    -- 8. A spaced row of rate 300 has 3 ticks left after a run of 1.
    ∷ (TicksLeft 300 1 3 ∷ [])
    -- 9. After only 1 was served, circular turns go on 2, 3 to 63, 0, 1, and longest-unserved turns 0, 2, 3 to 63, 1.
    ∷ (CircularOrder 1 (from_to 2 63 ++ 0 ∷ 1 ∷ []) ∷ LongestUnservedOrder 1 (0 ∷ from_to 2 63 ++ 1 ∷ []) ∷ [])
    -- 10. Rates 450 and 450 open; 450 and 451 give refusal 5.
    ∷ (Opens (server_row 450 0 0 ∷ server_row 450 0 0 ∷ []) (Ok tt) ∷ Opens (server_row 450 0 0 ∷ server_row 451 0 0 ∷ []) (Err 5) ∷ [])
    ∷ []

-- the figures of a fact in the table are those that the definitions give
abbrev pub IsAsDefined : Fact → Type 0
IsAsDefined fact = by_definition fact ≡ in_table fact

-- so it is of every fact of every case of the table
abbrev pub AllAsDefined : Type 0
AllAsDefined = All (λ facts. All IsAsDefined facts) cases
