-- Circular turns are fair.
use Rattle.std.proofs.Common.{arith}
use Rattle.turns.specs.Turns.{Fair}
use Rattle.turns.specs.Circular.{circular}

pub circular_fair : Fair circular
circular_fair = record {
  apart = λ x a b low high same. grind arith;
  yields = λ x k j k_low j_low behind. grind arith;
  keeps = λ x k i j k_low i_low j_low behind next. grind arith;
}
