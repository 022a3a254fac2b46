-- The turns of a site are fair, since those of each rule are.
use Rattle.turns.specs.Turns.{Fair}
use Rattle.turns.specs.CircularIsFair.{circular_fair}
use Rattle.turns.specs.LongestUnservedIsFair.{longest_unserved_fair}
use Rattle.turns.specs.declared.circular.CircularTurns.{CircularTurns}
use Rattle.turns.specs.declared.longest_unserved.LongestUnservedTurns.{LongestUnservedTurns}
use Rattle.site_turns.specs.Turns.{site}
use Rattle.site_turns.specs.declared.SiteTurns.{SiteTurns}
use Rattle.site_turns.specs.declared.SiteTurns.TheVariants.{Circular, LongestUnserved}

-- what holds of turns of each rule holds of a site's
either : (P : SiteTurns → Type 0) → ((x : CircularTurns) → P (Circular x)) → ((x : LongestUnservedTurns) → P (LongestUnserved x)) → (x : SiteTurns) → P x
either P f g (Circular x) = f x
either P f g (LongestUnserved x) = g x

pub site_fair : Fair site
site_fair = record {
  apart = either _ circular_fair.apart longest_unserved_fair.apart;
  yields = either _ circular_fair.yields longest_unserved_fair.yields;
  keeps = either _ circular_fair.keeps longest_unserved_fair.keeps;
}
