-- Places stay those of an order: they are so before anyone was served, and after each serving.
use Rattle.std.specs.Prelude.{◌≡◌, ℕ, ◌<◌, List, length, map, slice_index, refl}
use Rattle.std.proofs.Common.{arith, ◌∙◌, sym}
use Rattle.std.proofs.lemmas.List.{get_or-map, length-map}
use Rattle.std.proofs.lemmas.List.FromFn.{get_or-range_with_len}
use Rattle.measures.specs.Limits.{most_labs}
use Rattle.turns.specs.Orders.{from_to}
use Rattle.turns.specs.Places.{Within, Apart, own, moved}

pub whole_own : length own ≡ most_labs
unfolding from_to
whole_own = refl

pub place_own : (n : ℕ) → n < most_labs → slice_index own n ≡ n
unfolding from_to
place_own n low = get_or-range_with_len 0 most_labs n 0 low ∙ omega arith

pub within_own : Within own
within_own n low = let is = place_own n low in omega arith

pub apart_own : Apart own
apart_own a b a_low b_low same = sym (place_own a a_low) ∙ same ∙ place_own b b_low

-- once the number at place c has gone to the end
module _ (places : List ℕ) (whole : length places ≡ most_labs) (c : ℕ) where
  pub whole_moved : length (map (moved c) places) ≡ most_labs
  whole_moved = length-map places (moved c) ∙ whole

  pub place_moved : (n : ℕ) → n < most_labs → slice_index (map (moved c) places) n ≡ moved c (slice_index places n)
  place_moved n low = get_or-map (moved c) places n 0 0 (omega arith)

  pub within_moved : Within places → Within (map (moved c) places)
  within_moved within n low = let is = place_moved n low in let was = within n low in grind arith

  pub apart_moved : Within places → Apart places → Apart (map (moved c) places)
  apart_moved within apart a b a_low b_low same =
      let a_is = place_moved a a_low in
      let b_is = place_moved b b_low in
      let a_was = within a a_low in
      let b_was = within b b_low in
      apart a b a_low b_low (grind arith)
