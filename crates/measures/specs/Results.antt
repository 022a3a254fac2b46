-- Steps one after another, of which each may fail.
use Rattle.std.specs.Prelude.{Ok, Err, Result}

-- what comes after a step, unless it failed
infixl 10 ◌>>=◌
abbrev pub ◌>>=◌ : {A B E : Type 0} → Result A E → (A → Result B E) → Result B E
(Ok a) >>= f = f a
(Err e) >>= f = Err e
