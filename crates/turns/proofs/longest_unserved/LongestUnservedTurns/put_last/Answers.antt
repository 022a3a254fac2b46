use Rattle.turns.specs.LongestUnserved.{served}
use Rattle.turns.proofs.LongestUnservedOrder.{order_moved_to_end}
use Rattle.turns.proofs.longest_unserved.LongestUnservedTurns.put_last.Goals as goal

pub invariant_of-self : goal.invariant_of-self
invariant_of-self c =
    let left = served c.args.self.now c.args.k in
    rw c.move_to_end.ensures (record { whole = left.whole; within = left.within; apart = left.apart })

pub returns-clause-order : goal.returns-clause-order
returns-clause-order c = order_moved_to_end c.args.self.now c.args.k c.move_to_end.new.places c.requires c.move_to_end.ensures
