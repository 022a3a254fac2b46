-- Whose turn it is, on a gate with a free lock and rows that have rested up to the clock.
use Rattle.std.specs.Prelude.{◌≡◌, ℕ, ◌+◌, ◌<◌, min, Bool, true, false, not, ◌&&◌, ◌||◌, nat_eq, List, length, slice_get, is_some, if◌then◌else◌, option_map, option_and_then, Option}
use Rattle.std.specs.List.{find, list_all, filter_map, range_with_len, reduce}
use Rattle.std.specs.Option.{option_map_or}
use Rattle.std.specs.declared.option.Option.TheVariants.{Some, None}
use Rattle.budget.specs.Meaning.{Meaning}
use Rattle.turns.specs.Turns.{Turns, is_ahead}
use Rattle.waiting.specs.Queues.{queue_of}
use Rattle.waiting.specs.declared.ticket.Ticket.{Ticket}
use Rattle.history.specs.declared.turn.Turn.{Turn}
use Rattle.history.specs.declared.turn.Turn.TheVariants.{Began, Wait, Nothing}
use Rattle.history.specs.Gates.{GateState}

-- the first waiting ticket of lab k
abbrev pub first_ticket : List (List Ticket) → ℕ → Option Ticket
first_ticket qs k = slice_get (queue_of qs k) 0

-- a ticket of lab k waits
abbrev pub has_ticket : List (List Ticket) → ℕ → Bool
has_ticket qs k = is_some (first_ticket qs k)

-- the labs of a table of rows
abbrev pub labs_of : {R : Type 0} → List R → List ℕ
labs_of rows = range_with_len 0 (length rows)

-- whose turn it is at tick t: what begins next, by its lab and ticket; else until when to wait, if there is a smallest wake
abbrev pub turn_of : ℕ → Option (ℕ × Ticket) → Option ℕ → Turn
turn_of t (Some (k, ticket)) wake = Began k ticket.number ticket.length
turn_of t None (Some wake) = Wait (t + wake)
turn_of t None None = Nothing

module _ {R T : Type 0} (row : Meaning R) (g : GateState T) (rows : List R) where
  -- lab k stands: its row is able, and a ticket of it waits
  unfoldable pub stands : ℕ → Bool
  stands k = option_map_or row.able (slice_get rows k) false && has_ticket g.waiting k

  -- how long lab k still has to wait for its row, where a ticket of it waits
  abbrev pub wake_of : ℕ → Option ℕ
  wake_of k = if has_ticket g.waiting k then option_map row.wake (slice_get rows k) else None

  -- the smallest wake among labs below n with tickets
  unfoldable pub smallest_below : ℕ → Option ℕ
  smallest_below n = reduce min (filter_map wake_of (range_with_len 0 n))

  -- the smallest wake among labs with tickets
  abbrev pub smallest_wake : Option ℕ
  smallest_wake = smallest_below (length rows)

module _ {R T : Type 0} (row : Meaning R) (turn : Turns T) (g : GateState T) (rows : List R) where
  -- lab k is ahead of all other labs that stand
  unfoldable pub is_ahead_of_others : ℕ → Bool
  is_ahead_of_others k = list_all (λ j. not (stands row g rows j) || nat_eq j k || is_ahead turn g.turns k j) (labs_of rows)

  -- the standing lab ahead of all others
  unfoldable pub leader : Option ℕ
  leader = find (λ k. stands row g rows k && is_ahead_of_others k) (labs_of rows)

  -- of the labs below n, the one that stands ahead of the others that stand; none where none stands
  pub record Leads (n : ℕ) (best : Option ℕ) : Type 0 where
    pub nobody : best ≡ None → (j : ℕ) → j < n → stands row g rows j ≡ false
    pub within : (k : ℕ) → best ≡ Some k → k < n
    pub stood : (k : ℕ) → best ≡ Some k → stands row g rows k ≡ true
    pub ahead : (k j : ℕ) → best ≡ Some k → j < n → stands row g rows j ≡ true → (j ≡ k → ⊥) → is_ahead turn g.turns k j ≡ true

  -- what begins next, if anything can: the leader and its first ticket
  abbrev pub next_import : Option (ℕ × Ticket)
  next_import = option_and_then (λ k. option_map (λ ticket. (k, ticket)) (first_ticket g.waiting k)) leader

  -- whose turn it is at the clock
  abbrev pub whose_turn : Turn
  whose_turn = turn_of g.clock next_import (smallest_wake row g rows)
