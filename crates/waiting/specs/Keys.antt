-- The key that a queue order gives a ticket.
use Rattle.std.specs.Prelude.{ℕ}
use Rattle.waiting.specs.declared.queue_order.QueueOrder.{QueueOrder}
use Rattle.waiting.specs.declared.queue_order.QueueOrder.TheVariants.{Arrival, Due, Short}

-- the key of a ticket with this declared length and due tick
abbrev pub key_by : QueueOrder → ℕ → ℕ → ℕ
key_by Arrival length due = 0
key_by Due length due = due
key_by Short length due = length
