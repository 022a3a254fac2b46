-- Numbers as they are written, with no leading zero: each is read as itself, and nothing else with no leading zero is.
use Rattle.std.proofs.Common.{◌≡◌, ℕ, ◌^◌, ◌<◌, min, Bool, true, false, cond, eqb, List, length, get_or, Some, None, Option, refl, sym, ap, ◌∙◌, rules, arith}
use Rattle.std.specs.Str.{all_ascii_digits}
use Rattle.std.specs.Fmt.{decimal}
use Rattle.std.proofs.lemmas.Bool.{eqb-false, ne_eqb}
use Rattle.std.proofs.lemmas.Option.{cond_some, none-some}
use Rattle.std.proofs.lemmas.Str.Parse.{IsNumeralModel, numerals_by_fold}
use Rattle.std.proofs.lemmas.Fmt.{digits_decimal, digits_value-decimal, decimal-digits_value, decimal_nonempty}
use Rattle.numerals.specs.Numerals.{largest, followed_by, number_of}

lt_from_ne : (n : ℕ) → (n ≡ 0 → ⊥) → 0 < n
lt_from_ne n other = grind (arith, other)

below_largest : (n : ℕ) → n < largest → n < 2 ^ 64
below_largest n small = omega arith

own : IsNumeralModel (λ ds. all_ascii_digits ds ≡ true) (followed_by 0)
own = numerals_by_fold _ (search rules) followed_by (search rules)

pub digits_written : (n : ℕ) → n < 2 ^ 64 → all_ascii_digits (decimal n) ≡ true
digits_written n small = digits_decimal own n small

-- a number is read as it is written
pub number_written : (n : ℕ) → n < 2 ^ 64 → number_of (decimal n) ≡ Some n
number_written n small =
    let there : eqb (length (decimal n)) 0 ≡ false = ne_eqb _ _ (λ e. omega (arith, decimal_nonempty n small)) in
    let value : min (followed_by 0 (decimal n)) largest ≡ n = omega (arith, digits_value-decimal own n small) in
    rw (there, digits_written n small, value) refl

-- a choice that gives something
pub chosen : {A : Type 0} (b : Bool) (o : Option A) (x : A) → cond b None o ≡ Some x → (b ≡ false) × (o ≡ Some x)
chosen true o x e = absurd (none-some x e)
chosen false o x e = (refl, e)

-- a text with no leading zero that is read as a number below the largest is what writes it
pub written_number : (text : List ℕ) (n : ℕ) → number_of text ≡ Some n → n < largest → (get_or text 0 0 ≡ 48 → length text ≡ 1) → text ≡ decimal n
written_number text n read small plain =
    let some = chosen _ _ n read in
    let digits = cond_some _ _ _ some.1 in
    let value : followed_by 0 text ≡ n = omega (arith, digits.1) in
    let there : 0 < length text = lt_from_ne (length text) (eqb-false _ _ some.0) in
    let within : followed_by 0 text < 2 ^ 64 = rw value (below_largest n small) in
    sym (decimal-digits_value own text digits.0 there plain within) ∙ ap decimal value
