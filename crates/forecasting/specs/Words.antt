-- What the words of a command line ask for.
use Rattle.std.specs.Prelude.{ℕ, ◌+◌, List, [], ◌∷◌, Ok, string_bytes, codes, Result, String, if◌then◌else◌}
use Rattle.std.specs.Option.{ok_or}
use Rattle.std.specs.Str.{bytes_eq}
use Rattle.std.specs.declared.alloc.Global.{Global}
use Rattle.forecasting.specs.Lines as lines
use Rattle.measures.specs.Results.{◌>>=◌}
use Rattle.numerals.specs.Numerals.{number_of}
use Rattle.forecasting.specs.declared.lines.Rule.{Rule}
use Rattle.forecasting.specs.declared.lines.Rule.TheVariants.{Server, Spaced}
use Rattle.forecast_lines.specs.declared.Line.{Line}
use Rattle.forecast_lines.specs.declared.Fault.{Fault}
use Rattle.forecast_lines.specs.declared.Fault.TheVariants.{NotANumber}

-- the numbers that these words write, or the first of them that writes none, told by its place; the first of them has place k
abbrev pub numbers_at : ℕ → List (String Global) → Result (List ℕ) Fault
numbers_at k [] = Ok []
numbers_at k (w ∷ ws) = ok_or (number_of (string_bytes w)) (NotANumber k) >>= λ n. numbers_at (k + 1) ws >>= λ ns. Ok (n ∷ ns)

-- the place of the first word that is to be a number; the name of the rule comes before it, but the server rule goes without saying
abbrev pub first_place : Rule → ℕ
first_place Server = 1
first_place Spaced = 2

-- the forecast on a row of this rule that these words ask for by their numbers
abbrev pub foretold_on : Rule → List (String Global) → Result (List Line) Fault
foretold_on rule ws = numbers_at (first_place rule) ws >>= lines.foretold rule

-- the forecast on a spaced row if the first word is `spaced`, and else on a server row
abbrev pub foretold : List (String Global) → Result (List Line) Fault
foretold [] = foretold_on Server []
foretold (w ∷ ws) = if bytes_eq (string_bytes w) (codes "spaced") then foretold_on Spaced ws else foretold_on Server (w ∷ ws)
