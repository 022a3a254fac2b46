-- Transcripts: calls on a gate, one after another, each with its answer and with what is then seen of the rows.
use Rattle.std.specs.Prelude.{ℕ, Bool, ℤ, List, [], ◌∷◌, map, Option}
use Rattle.std.specs.List.{filter_map}
use Rattle.std.specs.declared.option.Option.TheVariants.{Some, None}
use Rattle.measures.specs.Limits.{greatest_lab_number}
use Rattle.server.specs.declared.ServerRow.{ServerRow}
use Rattle.server.specs.Row.{server}
use Rattle.turns.specs.declared.circular.CircularTurns.{CircularTurns}
use Rattle.turns.specs.Circular.{circular, ending_with}
use Rattle.waiting.specs.declared.queue_order.QueueOrder.TheVariants.{Arrival}
use Rattle.history.specs.Gates.{Moment}
use Rattle.history.specs.Calls.{Step, anew, opens}
use Rattle.history.specs.Histories.{Call, ToFile, ToWithdraw, ToBegin, ToEnd, Event, OpenDenied, File, Withdraw, Begin, End, does}

-- what a row answers to its callers
pub record Seen : Type 0 where
  pub level : ℤ
  pub able : Bool
  pub wake : ℕ

-- what a server row answers
abbrev pub seen : ServerRow → Seen
seen x = record { level = server.level x; able = server.able x; wake = server.wake x }

-- calls with their answers, and after each what the row of each lab answers
abbrev pub Transcript : Type 0
Transcript = List (Event × List Seen)

-- the opening of a new gate on these rows, with circular turns and queues by arrival
abbrev pub opening : List ServerRow → Step (Unit {0}) ServerRow CircularTurns
opening rows = opens server (anew (ending_with greatest_lab_number) 0 Arrival) rows Arrival

-- what these calls are answered, one after another, from a moment on
abbrev pub answered : Moment ServerRow CircularTurns → List Call → Transcript
answered m [] = []
answered m (c ∷ cs) = let d = does server circular c m.gate m.rows in (d.event, map seen d.left.rows) ∷ answered d.left cs

-- what they are answered by a new gate once it has been opened, or refused to open, on these rows
abbrev pub transcript : List ServerRow → List Call → Transcript
transcript rows calls = let s = opening rows in answered (record { gate = s.gate; rows = s.rows }) calls

-- the call of an event; that of an opening is left out
abbrev pub call_of : Event → Option Call
call_of (OpenDenied refusal) = None
call_of (File t lab declared due answer) = Some (ToFile t lab declared due)
call_of (Withdraw t number answer) = Some (ToWithdraw t number)
call_of (Begin t answer) = Some (ToBegin t)
call_of (End t answer) = Some (ToEnd t)

-- the calls of a transcript
abbrev pub calls_of : Transcript → List Call
calls_of lines = filter_map (λ line. call_of line.0) lines
