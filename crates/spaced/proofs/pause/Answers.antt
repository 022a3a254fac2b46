use Rattle.std.proofs.Common.{arith}
use Rattle.spaced.specs.Keeps.{pause_shortest}
use Rattle.spaced.proofs.pause.Goals as goal

pub returns-clause-shortest : goal.returns-clause-shortest
returns-clause-shortest c = rw (c.ticks_for.ensures, c.charge.ensures.value) (pause_shortest c.args.rate.per_tick c.args.ticks.count (omega (arith, c.args.rate.low)) (omega (arith, c.args.rate.high)))
