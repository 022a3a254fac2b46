-- Longest-unserved turns are fair.
use Rattle.std.specs.Prelude.{◌≡◌, ℕ, ◌<◌}
use Rattle.std.proofs.Common.{arith}
use Rattle.measures.specs.Limits.{most_labs}
use Rattle.turns.specs.Turns.{Fair}
use Rattle.turns.specs.Places.{moved}
use Rattle.turns.specs.PlacesStay.{place_moved}
use Rattle.turns.specs.LongestUnserved.{place, served, longest_unserved}
use Rattle.turns.specs.declared.longest_unserved.LongestUnservedTurns.{LongestUnservedTurns}

pub place_served : (x : LongestUnservedTurns) (k n : ℕ) → n < most_labs → place (served x k) n ≡ moved (place x k) (place x n)
place_served x k n low = place_moved x.places x.whole (place x k) n low

pub longest_unserved_fair : Fair longest_unserved
longest_unserved_fair = record {
  apart = λ x a b a_low b_low same. x.apart a b a_low b_low same;
  yields = λ x k j k_low j_low behind.
      let j_within = x.within j j_low in
      let k_is = place_served x k k k_low in
      let j_is = place_served x k j j_low in
      grind arith;
  keeps = λ x k i j k_low i_low j_low behind next.
      let i_is = place_served x k i i_low in
      let j_is = place_served x k j j_low in
      grind arith;
}
