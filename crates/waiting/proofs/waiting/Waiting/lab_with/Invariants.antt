use Rattle.std.proofs.Common.{◌≡◌, take, None}
use Rattle.waiting.specs.Queues.{waiting_ticket}
use Rattle.waiting.proofs.waiting.Waiting.lab_with.Given as goal

-- no lab below has a ticket with the number
abbrev pub invariant-loop-lab : goal.invariant-loop-lab
invariant-loop-lab l = waiting_ticket (take l.lab l.self) l.number ≡ None
