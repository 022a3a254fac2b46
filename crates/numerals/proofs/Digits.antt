-- Reading digits one after another.
use Rattle.std.proofs.Common.{◌≡◌, ℕ, ◌+◌, ◌-◌, ◌*◌, ◌<◌, min, ◌&&◌, List, [], ◌∷◌, length, get_or, drop, sym, ◌∙◌, arith}
use Rattle.std.proofs.lemmas.List.{at_drop_more}
use Rattle.std.specs.Char.{is_ascii_digit}
use Rattle.std.specs.Str.{all_ascii_digits}
use Rattle.numerals.specs.Numerals.{largest, followed_by}

-- numbers that are cut to the same are so with more digits too
same_cut : (n m : ℕ) (bs : List ℕ) → min n largest ≡ min m largest → min (followed_by n bs) largest ≡ min (followed_by m bs) largest
same_cut n m [] e = e
same_cut n m (b ∷ bs) e = same_cut (n * 10 + (b - 48)) (m * 10 + (b - 48)) bs (omega arith)

pub digits_more : (bs : List ℕ) (i : ℕ) → i < length bs → all_ascii_digits (drop i bs) ≡ (is_ascii_digit (get_or bs i 0) && all_ascii_digits (drop (i + 1) bs))
digits_more bs i h = at_drop_more all_ascii_digits bs i 0 h

-- the next digit, cut at the largest
pub value_more : (n v : ℕ) (bs : List ℕ) (i : ℕ) → i < length bs → v ≡ min (min (n * 10) largest + (get_or bs i 0 - 48)) largest
    → min (followed_by v (drop (i + 1) bs)) largest ≡ min (followed_by n (drop i bs)) largest
value_more n v bs i h e =
    same_cut v (n * 10 + (get_or bs i 0 - 48)) (drop (i + 1) bs) (omega arith)
    ∙ sym (at_drop_more (λ ds. min (followed_by n ds) largest) bs i 0 h)
