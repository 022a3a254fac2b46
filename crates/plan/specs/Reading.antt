-- What the bytes of a plan say: the plan, or where they first break its form.
use Rattle.std.specs.Prelude.{ℕ, zero, suc, ◌+◌, Bool, false, ◌&&◌, List, [], ◌∷◌, length, Option, None, Result, Ok, Err, nat_le, nat_lt, ◌==◌, if◌then◌else◌, slice_index}
use Rattle.std.specs.List.{slice_split, before_first, after_first, list_any}
use Rattle.std.specs.Option.{ok_or, option_and_then}
use Rattle.std.specs.Bool.{then_some}
use Rattle.measures.specs.Limits.{last, most_labs, most_filings, most_withdrawals, most_plan_bytes}
use Rattle.measures.specs.Results.{◌>>=◌}
use Rattle.numerals.specs.Numerals.{number_of}
use Rattle.plan.specs.declared.faults.Break.{Break}
use Rattle.plan.specs.declared.faults.ReadError.{ReadError}
use Rattle.plan.specs.declared.faults.ReadError.TheVariants as errors
use Rattle.plan.specs.declared.fields.Span.{Span}
use Rattle.plan.specs.Plans.{Lists, terms_of, filing_of, withdrawal_of}

-- a line feed, which ends a line
abbrev pub is_feed : ℕ → Bool
is_feed b = b == 10

-- a space, which stands between two fields
abbrev pub is_space : ℕ → Bool
is_space b = b == 32

-- a 0 with more after it
abbrev pub has_leading_zero : List ℕ → Bool
has_leading_zero [] = false
has_leading_zero (c ∷ []) = false
has_leading_zero (c ∷ d ∷ ds) = c == 48

-- from the least to the greatest of this span
abbrev pub is_within : Span → ℕ → Bool
is_within span n = nat_le span.least n && nat_le n span.greatest

-- the number that a field writes in decimal digits, if it is within this span
abbrev pub number_in : Span → List ℕ → Option ℕ
number_in span field =
    if has_leading_zero field then None else option_and_then (λ n. then_some (is_within span n) n) (number_of field)

-- any number that a plan may have
abbrev pub any_number : Span
any_number = record { least = 0; greatest = last }

-- how many labs a plan may have
abbrev pub lab_counts : Span
lab_counts = record { least = 1; greatest = most_labs }

-- how many filings
abbrev pub filing_counts : Span
filing_counts = record { least = 0; greatest = most_filings }

-- how many withdrawals
abbrev pub withdrawal_counts : Span
withdrawal_counts = record { least = 0; greatest = most_withdrawals }

-- the form is broken on line l at field f
abbrev pub breaks : {A : Type 0} → ℕ → ℕ → Result A Break
breaks l f = Err (record { line = l; field = f })

-- the fields of a line: what stands between its spaces
abbrev pub fields : List ℕ → List (List ℕ)
fields text = slice_split is_space text

-- the number in the first of these fields, which is due at this place, and the fields after it
abbrev pub next_number : Span → Break → List (List ℕ) → Result (ℕ × List (List ℕ)) Break
next_number span at [] = Err at
next_number span at (p ∷ ps) = ok_or (number_in span p) at >>= λ v. Ok (v, ps)

-- the numbers in these fields of line l, of which n are due and the first is field f
abbrev pub numbers : Span → ℕ → ℕ → ℕ → List (List ℕ) → Result (List ℕ) Break
numbers span l f zero [] = Ok []
numbers span l f zero (p ∷ ps) = breaks l f
numbers span l f (suc n) ps =
    next_number span (record { line = l; field = f }) ps >>= λ first. numbers span l (suc f) n first.1 >>= λ vs. Ok (first.0 ∷ vs)

-- what is left to read: the bytes from the start of a line on, and the number of that line
pub record Left : Type 0 where
  pub bytes : List ℕ
  pub line : ℕ

-- all of the bytes, from line 1 on
abbrev pub start : List ℕ → Left
start bs = record { bytes = bs; line = 1 }

-- The n numbers of the next line, and what is left after it. Its fields end where the first line feed is, or where the bytes end; a line with its
-- numbers and no line feed breaks at its last field.
abbrev pub next_line : Span → ℕ → Left → Result (List ℕ × Left) Break
next_line span n s =
    numbers span s.line 1 n (fields (before_first is_feed s.bytes)) >>= λ vs.
    if list_any is_feed s.bytes then Ok (vs, record { bytes = after_first is_feed s.bytes; line = s.line + 1 }) else breaks s.line n

-- what is meant by the next k lines of n numbers each
abbrev pub lines : {T : Type 0} → (List ℕ → T) → ℕ → ℕ → Left → Result (List T × Left) Break
lines meant n zero s = Ok ([], s)
lines meant n (suc k) s = next_line any_number n s >>= λ line. lines meant n k line.1 >>= λ more. Ok (meant line.0 ∷ more.0, more.1)

-- what is meant by a section: on a line of its own how many lines it has, and then these
abbrev pub section : {T : Type 0} → (List ℕ → T) → ℕ → Span → Left → Result (List T × Left) Break
section meant n counts s = next_line counts 1 s >>= λ count. lines meant n (slice_index count.0 0) count.1

-- nothing is left
abbrev pub no_more : Left → Result (Unit {0}) Break
no_more s = if length s.bytes == 0 then Ok tt else breaks s.line 1

-- a break is an error of reading
abbrev pub or_broken : {A : Type 0} → Result A Break → Result A ReadError
or_broken (Ok a) = Ok a
or_broken (Err b) = Err (errors.Broken b)

-- the plan that the bytes write, or the first break of its form
unfoldable pub plan_of : List ℕ → Result Lists Break
plan_of bs = do
  labs ← section terms_of 3 lab_counts (start bs)
  filings ← section filing_of 4 filing_counts labs.1
  withdrawals ← section withdrawal_of 2 withdrawal_counts filings.1
  nothing ← no_more withdrawals.1
  Ok (record { labs = labs.0; filings = filings.0; withdrawals = withdrawals.0 })

-- what the bytes say, of which there may be too many
abbrev pub read_plan : List ℕ → Result Lists ReadError
read_plan bs = if nat_lt most_plan_bytes (length bs) then Err errors.TooLong else or_broken (plan_of bs)
