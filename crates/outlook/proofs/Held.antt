-- The outlook on a row that behaves as the row it holds is the outlook on that one.
use Rattle.std.proofs.Common.{◌≡◌, ℕ, List, ap}
use Rattle.budget.specs.Meaning.{Meaning, BehavesAsHeld}
use Rattle.budget.proofs.Holding.{held_schedule}
use Rattle.waiting.specs.declared.ticket.Ticket.{Ticket}
use Rattle.outlook.specs.Outlooks.{lengths, entries, outlook}

pub held_outlook : {A B : Type 0} {m : Meaning A} {n : Meaning B} {hold : A → B} → BehavesAsHeld m n hold
    → (x : A) (t : ℕ) (ts : List Ticket) → outlook n (hold x) t ts ≡ outlook m x t ts
held_outlook b x t ts = ap (entries ts) (held_schedule b x t (lengths ts))
