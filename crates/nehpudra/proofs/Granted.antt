-- A status of 0 says that the call was granted.
use Rattle.std.specs.Prelude.{◌≡◌, ℕ, Result, Ok, Err, OnOk}
use Rattle.std.proofs.Common.{arith, sym, ◌∙◌}
use Rattle.measures.specs.Refusals.{number_of}
use Rattle.measures.specs.declared.refusal.Refusal.{Refusal}
use Rattle.measures.specs.declared.refusal.Refusal.TheVariants.{RateOutOfRange, CeilingOutOfRange, ThresholdAboveCeiling, LabCountOutOfRange, RateSumTooLarge, TableMismatch, TickOutOfRange, NoSuchLab, LengthOutOfRange, DueOutOfRange, QueueFull, TicketsExhausted, NoSuchTicket, LockHeld, LockFree, ListTooShort}
use Rattle.host_gates.specs.Answers.{status}

-- no refusal has the number 0
not_0 : (r : Refusal) → number_of r ≡ 0 → ⊥
not_0 RateOutOfRange is = grind arith
not_0 CeilingOutOfRange is = grind arith
not_0 ThresholdAboveCeiling is = grind arith
not_0 LabCountOutOfRange is = grind arith
not_0 RateSumTooLarge is = grind arith
not_0 TableMismatch is = grind arith
not_0 TickOutOfRange is = grind arith
not_0 NoSuchLab is = grind arith
not_0 LengthOutOfRange is = grind arith
not_0 DueOutOfRange is = grind arith
not_0 QueueFull is = grind arith
not_0 TicketsExhausted is = grind arith
not_0 NoSuchTicket is = grind arith
not_0 LockHeld is = grind arith
not_0 LockFree is = grind arith
not_0 ListTooShort is = grind arith

-- what a granted call promises holds where the status is 0
pub on_granted : {A : Type 0} (answer : Result A Refusal) (s : ℕ) (P : Type 0) → s ≡ status answer → OnOk answer P → s ≡ 0 → P
on_granted (Ok a) s P is p granted = p
on_granted (Err r) s P is p granted = absurd (not_0 r (sym is ∙ granted))
