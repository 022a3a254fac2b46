use Rattle.std.proofs.Common.{◌≡◌, [], ◌++◌, take, drop, map}
use Rattle.waiting.proofs.waiting.clear_all.Given as goal

-- the queues so far are cleared, and the others are as they were
abbrev pub invariant-loop-queue : goal.invariant-loop-queue
invariant-loop-queue l = l.queues ≡ map (λ q. []) (take l.queue-index l.initial.queues) ++ drop l.queue-index l.initial.queues
