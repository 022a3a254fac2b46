use Rattle.std.proofs.Common.{◌≡◌, ◌+◌, ◌++◌, drop, vec_items, Ok}
use Rattle.measures.specs.Results.{◌>>=◌}
use Rattle.forecasting.specs.Words.{numbers_at}
use Rattle.forecasting.proofs.words.read_numbers.Given as goal

-- the numbers so far, and then those that what is left gives, are all
abbrev pub invariant-loop-i : goal.invariant-loop-i
invariant-loop-i l = numbers_at l.first l.words ≡ (numbers_at (l.first + l.i) (drop l.i l.words) >>= λ ns. Ok (vec_items l.numbers ++ ns))
