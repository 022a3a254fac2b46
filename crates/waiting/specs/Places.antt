-- Tickets in the first places of a slice, and the search for one of them by its number.
use Rattle.std.specs.Prelude.{ℕ, nat_eq, List, take, slice_get, if◌then◌else◌, Option}
use Rattle.std.specs.declared.option.Option.TheVariants.{Some, None}
use Rattle.earliest.specs.HeapOrder.{IsHeap}
use Rattle.earliest.specs.Sorted.{sorted}
use Rattle.waiting.specs.Tickets.{ticket_before}
use Rattle.waiting.specs.declared.ticket.Ticket.{Ticket}

-- the tickets in the first n places, in queue order
abbrev pub queue_in : ℕ → List Ticket → List Ticket
queue_in n ps = sorted ticket_before (take n ps)

-- the tickets in the first n places lie as a heap
abbrev pub LieAsHeap : ℕ → List Ticket → Type 0
LieAsHeap n ps = IsHeap ticket_before (take n ps)

-- the ticket at a place, where a place is given and it has one
abbrev pub ticket_at : List Ticket → Option ℕ → Option Ticket
ticket_at ts None = None
ticket_at ts (Some p) = slice_get ts p

-- the first of t and another ticket, and t where there is no other
abbrev pub first_of_two : Ticket → Option Ticket → Option Ticket
first_of_two t None = Some t
first_of_two t (Some u) = Some (if ticket_before u t then u else t)

-- the first ticket with the number n, where u is the first so far and t comes to them
abbrev pub first_with : ℕ → Option Ticket → Option Ticket → Option Ticket
first_with n None u = u
first_with n (Some t) u = if nat_eq t.number n then first_of_two t u else u
