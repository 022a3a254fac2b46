-- The number that a text of decimal digits writes.
use Rattle.std.specs.Prelude.{ℕ, ◌+◌, ◌-◌, ◌*◌, ◌^◌, min, List, [], ◌∷◌, length, Some, None, Option, if◌then◌else◌, ◌==◌}
use Rattle.std.specs.Str.{all_ascii_digits}

-- the largest number of 64 bits
abbrev pub largest : ℕ
largest = 2 ^ 64 - 1

-- the number n with these digits written after it
abbrev pub followed_by : ℕ → List ℕ → ℕ
followed_by n [] = n
followed_by n (b ∷ bs) = followed_by (n * 10 + (b - 48)) bs

-- digits and nothing else; too large a number is read as the largest of 64 bits
abbrev pub digits_of : List ℕ → Option ℕ
digits_of bs = if all_ascii_digits bs then Some (min (followed_by 0 bs) largest) else None

-- one digit or more
abbrev pub number_of : List ℕ → Option ℕ
number_of bs = if length bs == 0 then None else digits_of bs
