-- What a mixed row means: it holds a row of either rule, and behaves as the row it holds.
use Rattle.budget.specs.Meaning.{Meaning}
use Rattle.server.specs.Row.{server}
use Rattle.server.specs.declared.ServerRow.{ServerRow}
use Rattle.spaced.specs.Row.{spaced}
use Rattle.spaced.specs.declared.SpacedRow.{SpacedRow}
use Rattle.mixed.specs.declared.MixedRow.{MixedRow}
use Rattle.mixed.specs.declared.MixedRow.TheVariants.{Server, Spaced}

-- the row held answers a question
abbrev pub asked : {A : Type 0} → (ServerRow → A) → (SpacedRow → A) → MixedRow → A
asked f g (Server x) = f x
asked f g (Spaced x) = g x

-- the row held changes, and stays a row of its rule
abbrev pub changed : (ServerRow → ServerRow) → (SpacedRow → SpacedRow) → MixedRow → MixedRow
changed f g (Server x) = Server (f x)
changed f g (Spaced x) = Spaced (g x)

abbrev pub mixed : Meaning MixedRow
mixed = record {
  level = asked server.level spaced.level;
  wake = asked server.wake spaced.wake;
  able = asked server.able spaced.able;
  rate = asked server.rate spaced.rate;
  ceiling = asked server.ceiling spaced.ceiling;
  threshold = asked server.threshold spaced.threshold;
  restarted = changed server.restarted spaced.restarted;
  rested = λ x d. changed (λ y. server.rested y d) (λ y. spaced.rested y d) x;
  ended = λ x c. changed (λ y. server.ended y c) (λ y. spaced.ended y c) x;
}
