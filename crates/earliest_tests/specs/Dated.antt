-- The order of the elements that the tests use.
use Rattle.std.specs.Prelude.{Bool, ◌&&◌, ◌||◌, nat_lt, nat_eq}
use Rattle.std.proofs.Common.{arith}
use Rattle.earliest.specs.Order.{IsStrictTotalOrder}
use Rattle.earliest_tests.specs.declared.dated.Dated.{Dated}

-- by date, then by number
abbrev pub dated_before : Dated → Dated → Bool
dated_before a b = nat_lt a.date b.date || nat_eq a.date b.date && nat_lt a.number b.number

pub dated_order : IsStrictTotalOrder dated_before
dated_order = record {
  irreflexive = λ x. grind arith;
  transitive = λ x y z first second. grind arith;
  total = λ x y first second. grind arith;
}
