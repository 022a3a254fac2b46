-- What play prints for a plan, and for the bytes of one: with server rows, circular turns, and tickets in the order of arrival.
use Rattle.std.specs.Prelude.{ℕ, suc, nat_lt, List, [], ◌∷◌, length, Result, Ok, Err, if◌then◌else◌}
use Rattle.measures.specs.Limits.{greatest_lab_number, most_plan_bytes}
use Rattle.measures.specs.Results.{◌>>=◌}
use Rattle.measures.specs.declared.refusal.Refusal.{Refusal}
use Rattle.server.specs.declared.ServerRow.{ServerRow}
use Rattle.server.specs.Row.{server, made}
use Rattle.turns.specs.declared.circular.CircularTurns.{CircularTurns}
use Rattle.turns.specs.Circular.{circular, ending_with}
use Rattle.waiting.specs.declared.queue_order.QueueOrder.TheVariants.{Arrival}
use Rattle.history.specs.Calls.{anew, opens}
use Rattle.plan.specs.declared.plan.Terms.{Terms}
use Rattle.plan.specs.declared.faults.Break.{Break}
use Rattle.plan.specs.Plans.{Lists}
use Rattle.plan.specs.Reading.{plan_of}
use Rattle.course.specs.Asking.{labs_line}
use Rattle.course.specs.Printing.{no_line, bad_line, big_line}
use Rattle.course.specs.Course.{Stage, printed_from}

-- a line of the plan, and the refusal of what stands on it
pub record Refused : Type 0 where
  pub line : ℕ
  pub refusal : Refusal

-- a refusal of what stands on this line
abbrev pub on_line : {A : Type 0} → ℕ → Result A Refusal → Result A Refused
on_line line (Ok a) = Ok a
on_line line (Err r) = Err (record { line = line; refusal = r })

-- the row that a lab's terms make
unfoldable pub row_of : Terms → Result ServerRow Refusal
row_of t = made t.rate t.ceiling t.threshold

-- the rows that labs' terms make, the first of which stand on this line; or the first refusal
abbrev pub rows_of : ℕ → List Terms → Result (List ServerRow) Refused
rows_of line [] = Ok []
rows_of line (t ∷ ts) = on_line line (row_of t) >>= λ x. rows_of (suc line) ts >>= λ xs. Ok (x ∷ xs)

-- the second, where the first is granted; else its refusal
abbrev pub if_granted : {A B : Type 0} → Result A Refusal → B → Result B Refusal
if_granted (Ok a) b = Ok b
if_granted (Err r) b = Err r

-- the gate that a new one, with circular turns, becomes when it is opened on these rows, and nothing printed yet
abbrev pub opening : List ServerRow → Result (Stage ServerRow CircularTurns) Refusal
opening rows =
    let step = opens server (anew (ending_with greatest_lab_number) 0 Arrival) rows Arrival in
    if_granted step.answer (record { moment = record { gate = step.gate; rows = step.rows }; printed = [] })

-- how a play of these labs begins, or the first refusal: the refusal of an opening counts for line 1
unfoldable pub beginning : List Terms → Result (Stage ServerRow CircularTurns) Refused
beginning labs = rows_of labs_line labs >>= λ rows. on_line 1 (opening rows)

-- the bytes that a play of this plan prints, if it begins so
abbrev pub played_from : Lists → Result (Stage ServerRow CircularTurns) Refused → List ℕ
played_from p (Ok s) = printed_from server circular p 0 s
played_from p (Err r) = no_line r.line r.refusal

-- the bytes that a play of this plan prints
unfoldable pub played : Lists → List ℕ
played p = played_from p (beginning p.labs)

-- the bytes that are printed of what was read: the play of a plan, or where the form is first broken
abbrev pub read_prints : Result Lists Break → List ℕ
read_prints (Ok p) = played p
read_prints (Err at) = bad_line at

-- the bytes that are printed for any bytes, of a plan or of none
unfoldable pub prints : List ℕ → List ℕ
prints bs = if nat_lt most_plan_bytes (length bs) then big_line else read_prints (plan_of bs)
