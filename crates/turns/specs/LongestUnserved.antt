-- Longest-unserved turns: whoever was served goes to the end.
use Rattle.std.specs.Prelude.{ℕ, List, [], ◌∷◌, ◌++◌, map, not, slice_index, ◌==◌}
use Rattle.std.specs.List.{filter}
use Rattle.turns.specs.Turns.{Turns}
use Rattle.turns.specs.Places.{own, moved}
use Rattle.turns.specs.PlacesStay.{whole_own, within_own, apart_own, whole_moved, within_moved, apart_moved}
use Rattle.turns.specs.declared.longest_unserved.LongestUnservedTurns.{LongestUnservedTurns}

-- the place of each number is stored
abbrev pub place : LongestUnservedTurns → ℕ → ℕ
place x n = slice_index x.places n

-- before anyone was served: number n at place n
abbrev pub begun : LongestUnservedTurns
begun = record { places = own; whole = whole_own; within = within_own; apart = apart_own }

-- k leaves its place and goes to the end, and the places stay those of an order
abbrev pub served : LongestUnservedTurns → ℕ → LongestUnservedTurns
served x k = let c = place x k in record {
  places = map (moved c) x.places;
  whole = whole_moved x.places x.whole c;
  within = within_moved x.places x.whole c x.within;
  apart = apart_moved x.places x.whole c x.within x.apart;
}

abbrev pub longest_unserved : Turns LongestUnservedTurns
longest_unserved = record { place = place; served = served }

-- k moved to the end of an order, and nothing else
abbrev pub with_last : ℕ → List ℕ → List ℕ
with_last k numbers = filter (λ n. not (n == k)) numbers ++ k ∷ []
