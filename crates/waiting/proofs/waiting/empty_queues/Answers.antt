use Rattle.std.proofs.Common.{rules, []}
use Rattle.waiting.proofs.Labs.{all_empty}
use Rattle.waiting.proofs.waiting.empty_queues.Goals as goal

pub returns : goal.returns
returns c = all_empty c.from_fn.result c.from_fn.ensures.items.long (λ k low. let made = (c.from_fn.ensures.items.at k [] low).2 in search rules)
