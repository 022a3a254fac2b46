-- What a succession of calls and their answers says, of itself alone: the clock, the runs of the lock, and the tickets that wait.
use Rattle.std.specs.Prelude.{ℕ, ◌-◌, max, Bool, not, ◌&&◌, nat_eq, nat_le, nat_lt, List, [], ◌∷◌, Ok, Err, Option}
use Rattle.std.specs.List.{filter, list_any, count_by, range_with_len}
use Rattle.std.specs.declared.option.Option.TheVariants.{Some, None}
use Rattle.history.specs.declared.turn.Turn.TheVariants.{Began, Wait, Nothing}
use Rattle.history.specs.Histories.{Event, OpenDenied, File, Withdraw, Begin, End}

-- a run of the lock, from the tick of its begin up to that of its end
pub record Run : Type 0 where
  pub lab : ℕ
  pub from : ℕ
  pub to : ℕ

-- a lab that holds the lock, by which ticket, and since when
pub record Hold : Type 0 where
  pub lab : ℕ
  pub number : ℕ
  pub from : ℕ

-- a ticket that waits: whose it is, and its number
pub record WaitingTicket : Type 0 where
  pub lab : ℕ
  pub number : ℕ

-- what is known once these events have happened
pub record Log : Type 0 where
  -- the tick of the latest granted call
  pub clock : ℕ
  -- the runs that are over, the newest first
  pub over : List Run
  -- the lab that holds the lock, if one does
  pub hold : Option Hold
  -- the tickets filed, and neither withdrawn nor begun since
  pub waiting : List WaitingTicket

-- the runs, with that of a hold up to tick t
abbrev pub closed : ℕ → Option Hold → List Run → List Run
closed t None runs = runs
closed t (Some h) runs = record { lab = h.lab; from = h.from; to = t } ∷ runs

-- without the ticket of a number
abbrev pub without_number : ℕ → List WaitingTicket → List WaitingTicket
without_number n ws = filter (λ w. not (nat_eq w.number n)) ws

-- what an event adds: a denied call adds nothing
abbrev pub noted : Event → Log → Log
noted (File t lab declared due (Ok number)) l = record l { clock = t; waiting = record { lab = lab; number = number } ∷ l.waiting }
noted (Withdraw t number (Ok lab)) l = record l { clock = t; waiting = without_number number l.waiting }
noted (Begin t (Ok (Began lab number declared))) l = record l { clock = t; hold = Some (record { lab = lab; number = number; from = t }); waiting = without_number number l.waiting }
noted (Begin t (Ok (Wait until))) l = record l { clock = t }
noted (Begin t (Ok Nothing)) l = record l { clock = t }
noted (End t (Ok answer)) l = record l { clock = t; over = closed t l.hold l.over; hold = None }
noted (OpenDenied refusal) l = l
noted (File t lab declared due (Err refusal)) l = l
noted (Withdraw t number (Err refusal)) l = l
noted (Begin t (Err refusal)) l = l
noted (End t (Err refusal)) l = l

-- what a succession of events says, the newest first
abbrev pub log : List Event → Log
log [] = record { clock = 0; over = []; hold = None; waiting = [] }
log (e ∷ es) = noted e (log es)

-- all runs, the unfinished one up to the clock
abbrev pub runs : List Event → List Run
runs es = closed (log es).clock (log es).hold (log es).over

-- those of one lab
abbrev pub runs_of : ℕ → List Run → List Run
runs_of lab rs = filter (λ r. nat_eq r.lab lab) rs

-- tick k is one of the run's
abbrev pub is_inside : ℕ → Run → Bool
is_inside k r = nat_le r.from k && nat_lt k r.to

-- tick k lies in some of these runs
unfoldable pub is_in_some : List Run → ℕ → Bool
is_in_some rs k = list_any (is_inside k) rs

-- how many of the n ticks from a on pass the test
unfoldable pub ticks_with : (ℕ → Bool) → ℕ → ℕ → ℕ
ticks_with test a n = count_by test (range_with_len a n)

-- of the n ticks from a on, how many lie in runs of the lab
abbrev pub lock_time : List Event → ℕ → ℕ → ℕ → ℕ
lock_time es lab a n = ticks_with (is_in_some (runs_of lab (runs es))) a n

-- of the n ticks from a on, how many lie in no run
abbrev pub free_ticks : List Event → ℕ → ℕ → ℕ
free_ticks es a n = ticks_with (λ k. not (is_in_some (runs es) k)) a n

-- the ticks of the longest of these runs, and 0 without a run
unfoldable pub longest : List Run → ℕ
longest [] = 0
longest (r ∷ rs) = max (r.to - r.from) (longest rs)

-- the ticks of a lab's longest run
abbrev pub longest_run : List Event → ℕ → ℕ
longest_run es lab = longest (runs_of lab (runs es))

-- some ticket of the lab waits
abbrev pub waits : List Event → ℕ → Bool
waits es lab = list_any (λ w. nat_eq w.lab lab) (log es).waiting
