-- What the turns of a site mean: they hold turns of either rule, and behave as those they hold.
use Rattle.std.specs.Prelude.{ℕ}
use Rattle.turns.specs.Turns.{Turns}
use Rattle.turns.specs.Circular.{circular}
use Rattle.turns.specs.LongestUnserved.{longest_unserved}
use Rattle.site_turns.specs.declared.SiteTurns.{SiteTurns}
use Rattle.site_turns.specs.declared.SiteTurns.TheVariants.{Circular, LongestUnserved}

-- where a number stands in the order of the turns held
abbrev pub place : SiteTurns → ℕ → ℕ
place (Circular x) n = circular.place x n
place (LongestUnserved x) n = longest_unserved.place x n

-- the turns held hear of who was served, and stay turns of their rule
abbrev pub served : SiteTurns → ℕ → SiteTurns
served (Circular x) k = Circular (circular.served x k)
served (LongestUnserved x) k = LongestUnserved (longest_unserved.served x k)

abbrev pub site : Turns SiteTurns
site = record { place = place; served = served }
