-- The refusals, their numbers and names, and checks in order.
use Rattle.std.specs.Prelude.{ℕ, Bool, List, [], ◌∷◌, ◌++◌, Ok, Err, Result, if◌then◌else◌, codes}
use Rattle.std.specs.Fmt.{decimal}
use Rattle.measures.specs.declared.refusal.Refusal.{Refusal}
use Rattle.measures.specs.declared.refusal.Refusal.TheVariants.{RateOutOfRange, CeilingOutOfRange, ThresholdAboveCeiling, LabCountOutOfRange, RateSumTooLarge, TableMismatch, TickOutOfRange, NoSuchLab, LengthOutOfRange, DueOutOfRange, QueueFull, TicketsExhausted, NoSuchTicket, LockHeld, LockFree, ListTooShort}

-- the number that callers are told
abbrev pub number_of : Refusal → ℕ
number_of RateOutOfRange = 1
number_of CeilingOutOfRange = 2
number_of ThresholdAboveCeiling = 3
number_of LabCountOutOfRange = 4
number_of RateSumTooLarge = 5
number_of TableMismatch = 6
number_of TickOutOfRange = 7
number_of NoSuchLab = 8
number_of LengthOutOfRange = 9
number_of DueOutOfRange = 10
number_of QueueFull = 11
number_of TicketsExhausted = 12
number_of NoSuchTicket = 13
number_of LockHeld = 14
number_of LockFree = 15
number_of ListTooShort = 16

-- the name that a person reads
abbrev pub name_of : Refusal → List ℕ
name_of RateOutOfRange = codes "RateOutOfRange"
name_of CeilingOutOfRange = codes "CeilingOutOfRange"
name_of ThresholdAboveCeiling = codes "ThresholdAboveCeiling"
name_of LabCountOutOfRange = codes "LabCountOutOfRange"
name_of RateSumTooLarge = codes "RateSumTooLarge"
name_of TableMismatch = codes "TableMismatch"
name_of TickOutOfRange = codes "TickOutOfRange"
name_of NoSuchLab = codes "NoSuchLab"
name_of LengthOutOfRange = codes "LengthOutOfRange"
name_of DueOutOfRange = codes "DueOutOfRange"
name_of QueueFull = codes "QueueFull"
name_of TicketsExhausted = codes "TicketsExhausted"
name_of NoSuchTicket = codes "NoSuchTicket"
name_of LockHeld = codes "LockHeld"
name_of LockFree = codes "LockFree"
name_of ListTooShort = codes "ListTooShort"

-- the text of a refusal: its number and its name
abbrev pub refusal_text : Refusal → List ℕ
refusal_text refusal = codes "refusal " ++ (decimal (number_of refusal) ++ (codes ": " ++ name_of refusal))

-- Checks in order, each a test with its refusal: the first test that is true answers, and if none is, the call is granted.
abbrev pub granted_unless : {A : Type 0} → List (Bool × Refusal) → A → Result A Refusal
granted_unless [] a = Ok a
granted_unless ((test, refusal) ∷ checks) a = if test then Err refusal else granted_unless checks a
