-- The tickets that wait, as their callers see them: for each lab its queue, which is the list of its waiting tickets in queue order.
use Rattle.std.specs.Prelude.{◌≡◌, ℕ, ◌≤◌, Bool, nat_eq, not, ◌&&◌, List, [], ◌∷◌, ◌++◌, length, drop, set, replicate, slice_index_or, if◌then◌else◌, All, Option}
use Rattle.std.specs.List.{AllPairs, find, flat_map}
use Rattle.std.specs.Option.{option_map_or}
use Rattle.earliest.specs.Sorted.{inserted}
use Rattle.measures.specs.Limits.{most_labs, is_lab_number, is_full}
use Rattle.waiting.specs.Tickets.{ticket_before}
use Rattle.waiting.specs.declared.ticket.Ticket.{Ticket}

-- the queue of a lab; that of a lab which does not exist is empty
abbrev pub queue_of : List (List Ticket) → ℕ → List Ticket
queue_of qs k = slice_index_or qs k []

-- there is a queue for each lab, and every ticket waits in that of its own lab
pub record AreOwn (qs : List (List Ticket)) : Type 0 where
  pub labs : length qs ≡ most_labs
  pub own : (k : ℕ) → All (λ t. t.lab ≡ k) (queue_of qs k)

-- no ticket of a queue stands behind one with a larger key, or behind one with the same key and a larger number
unfoldable pub IsInOrder : List Ticket → Type 0
IsInOrder q = AllPairs (λ t u. (t.key ≤ u.key) × (t.key ≡ u.key → t.number ≤ u.number)) q

-- no ticket waits
unfoldable pub none_waiting : List (List Ticket)
none_waiting = replicate most_labs []

-- the same queues, but q for lab k
abbrev pub with_queue : List (List Ticket) → ℕ → List Ticket → List (List Ticket)
with_queue qs k q = set qs k q

-- a ticket may wait if its lab exists and the queue of that lab is not full
abbrev pub may_wait : List (List Ticket) → Ticket → Bool
may_wait qs t = is_lab_number t.lab && not (is_full (length (queue_of qs t.lab)))

-- with a ticket more, where it belongs in the queue of its lab
abbrev pub with_ticket : List (List Ticket) → Ticket → List (List Ticket)
with_ticket qs t = with_queue qs t.lab (inserted ticket_before t (queue_of qs t.lab))

-- without the first ticket of lab k
abbrev pub without_first : List (List Ticket) → ℕ → List (List Ticket)
without_first qs k = with_queue qs k (drop 1 (queue_of qs k))

-- the first of some tickets that has the number n
abbrev pub ticket_numbered : ℕ → List Ticket → Option Ticket
ticket_numbered n ts = find (λ t. nat_eq t.number n) ts

-- the tickets without the first that has the number n, and all of them where none has it
unfoldable pub without_numbered : ℕ → List Ticket → List Ticket
without_numbered n [] = []
without_numbered n (t ∷ ts) = if nat_eq t.number n then ts else t ∷ without_numbered n ts

-- the waiting ticket with the number n; should it wait more than once, the first of the lowest lab
abbrev pub waiting_ticket : List (List Ticket) → ℕ → Option Ticket
waiting_ticket qs n = ticket_numbered n (flat_map (λ q. q) qs)

-- without that ticket, where there is one
abbrev pub without_ticket : List (List Ticket) → ℕ → List (List Ticket)
without_ticket qs n = option_map_or (λ t. with_queue qs t.lab (without_numbered n (queue_of qs t.lab))) (waiting_ticket qs n) qs

-- a list with these at its head, written over what it held there
abbrev pub headed_by : {A : Type 0} → List A → List A → List A
headed_by new list = new ++ drop (length new) list
