-- What play prints, by what was read; and what is known of a plan that was read, and of a play that begins.
use Rattle.std.proofs.Common.{◌≡◌, ℕ, ◌≤◌, Bool, true, false, not, if◌then◌else◌, nat_lt, List, [], ◌∷◌, ◌++◌, length, map, All, IfOk, Ok, Err, Result, String, refl, sym, ap, subst, arith}
use Rattle.std.specs.List.{AllByRecursion}
use Rattle.std.specs.declared.alloc.AllocError.{AllocError}
use Rattle.std.specs.declared.alloc.Global.{Global}
use Rattle.std.proofs.lemmas.List.Elements.{All-nil, All-cons}
use Rattle.measures.specs.Limits.{last, most_labs, greatest_lab_number, most_plan_bytes, is_lab_count}
use Rattle.measures.specs.Refusals.{granted_unless}
use Rattle.measures.specs.declared.refusal.Refusal.{Refusal}
use Rattle.server.specs.declared.ServerRow.{ServerRow}
use Rattle.server.specs.Row.{server}
use Rattle.turns.specs.declared.circular.CircularTurns.{CircularTurns}
use Rattle.turns.specs.Circular.{circular, ending_with}
use Rattle.waiting.specs.declared.queue_order.QueueOrder.TheVariants.{Arrival}
use Rattle.history.specs.Gates.{GateState}
use Rattle.history.specs.Calls.{step, anew, open_checks}
use Rattle.history.proofs.Effects.{granted}
use Rattle.plan.specs.declared.faults.Break.{Break}
use Rattle.plan.specs.declared.faults.ReadError.{ReadError}
use Rattle.plan.specs.declared.faults.ReadError.TheVariants as errors
use Rattle.plan.specs.declared.plan.Terms.{Terms}
use Rattle.plan.specs.declared.plan.Filing.{Filing}
use Rattle.plan.specs.declared.plan.Withdrawal.{Withdrawal}
use Rattle.plan.specs.declared.plan.Plan.{Plan}
use Rattle.plan.specs.Plans.{Lists, lists}
use Rattle.plan.specs.Reading.{plan_of, read_plan, or_broken}
use Rattle.plan.specs.Readers.{Answers}
use Rattle.plan.proofs.RoundTrip.{is_written}
use Rattle.plan.specs.Writing.{terms_numbers, filing_numbers, withdrawal_numbers, counted, Writes}
use Rattle.course.specs.Asking.{labs_line}
use Rattle.course.specs.Printing.{no_line, bad_line, big_line}
use Rattle.course.specs.Course.{Stage, printed_from}
use Rattle.measures.specs.Results.{◌>>=◌}
use Rattle.course.specs.Playing.{Refused, on_line, if_granted, rows_of, opening, beginning, played_from, played, read_prints, prints}
use Rattle.playing.specs.Stages.{IsLawful, IsFresh, Prints}

-- where memory ran out, nothing is said
pub no_memory : (e : AllocError) (out : List ℕ) → Prints (Err e) out
unfolding Prints
no_memory e out = tt

-- what was read of some bytes, and what play prints for them
abbrev reads : Bool → Result Lists Break → Result Lists ReadError
reads big said = if big then Err errors.TooLong else or_broken said

abbrev out_of : Bool → Result Lists Break → List ℕ
out_of big said = if big then big_line else read_prints said

plan_printed : (big : Bool) (said : Result Lists Break) (p : Lists) → reads big said ≡ Ok p → out_of big said ≡ played p
plan_printed true said p e = absurd (let z : ◌≡◌ {A = ℕ} 0 1 = cc in omega arith)
plan_printed false (Ok q) p e = let same : q ≡ p = cc in ap played same
plan_printed false (Err b) p e = absurd (let z : ◌≡◌ {A = ℕ} 0 1 = cc in omega arith)

bad_printed : (big : Bool) (said : Result Lists Break) (at : Break) → reads big said ≡ Err (errors.Broken at) → out_of big said ≡ bad_line at
bad_printed true said at e = absurd (let z : ◌≡◌ {A = ℕ} 0 1 = cc in omega arith)
bad_printed false (Ok q) at e = absurd (let z : ◌≡◌ {A = ℕ} 0 1 = cc in omega arith)
bad_printed false (Err b) at e = let same : b ≡ at = cc in ap bad_line same

big_printed : (big : Bool) (said : Result Lists Break) → reads big said ≡ Err errors.TooLong → out_of big said ≡ big_line
big_printed true said e = refl
big_printed false (Ok q) e = absurd (let z : ◌≡◌ {A = ℕ} 0 1 = cc in omega arith)
big_printed false (Err b) e = absurd (let z : ◌≡◌ {A = ℕ} 0 1 = cc in omega arith)

module _ (bs : List ℕ) (r : Result (String Global) AllocError) where
  abbrev is_big : Bool
  is_big = nat_lt most_plan_bytes (length bs)

  -- the bytes are a plan
  pub prints_plan : (p : Lists) → read_plan bs ≡ Ok p → Prints r (played p) → Prints r (prints bs)
  unfolding prints
  prints_plan p read has = subst (Prints r) (sym (plan_printed is_big (plan_of bs) p read)) has

  -- they break its form
  pub prints_bad : (at : Break) → read_plan bs ≡ Err (errors.Broken at) → Prints r (bad_line at)
      → Prints r (prints bs)
  unfolding prints
  prints_bad at read has = subst (Prints r) (sym (bad_printed is_big (plan_of bs) at read)) has

  -- they are too many
  pub prints_big : read_plan bs ≡ Err errors.TooLong → Prints r big_line → Prints r (prints bs)
  unfolding prints
  prints_big read has = subst (Prints r) (sym (big_printed is_big (plan_of bs) read)) has

-- a play begins
pub play_begins : (p : Lists) (r : Result (String Global) AllocError) (s : Stage ServerRow CircularTurns) → beginning p.labs ≡ Ok s
    → Prints r (printed_from server circular p 0 s) → Prints r (played p)
unfolding played
play_begins p r s begun has = subst (Prints r) (sym (ap (played_from p) begun)) has

-- it is refused
pub play_refused : (p : Lists) (r : Result (String Global) AllocError) (line : ℕ) (refusal : Refusal)
    → beginning p.labs ≡ Err (record { line = line; refusal = refusal }) → Prints r (no_line line refusal)
    → Prints r (played p)
unfolding played
play_refused p r line refusal denied has = subst (Prints r) (sym (ap (played_from p) denied)) has

-- ---- a plan that was read

all_right : {X : Type 0} (P : X → Type 0) (xs ys : List X) → AllByRecursion P (xs ++ ys) → AllByRecursion P ys
all_right P [] ys all = all
all_right P (x ∷ xs) ys all = all_right P xs ys all.1

all_left : {X : Type 0} (P : X → Type 0) (xs ys : List X) → AllByRecursion P (xs ++ ys) → AllByRecursion P xs
all_left P [] ys all = tt
all_left P (x ∷ xs) ys all = (all.0, all_left P xs ys all.1)

-- a line of numbers that a plan may have
abbrev Lawful : List ℕ → Type 0
Lawful = AllByRecursion (λ n. n ≤ last)

filed_by : (fs : List Filing) → AllByRecursion Lawful (map filing_numbers fs) → All (λ f. f.tick ≤ last) fs
filed_by [] all = All-nil _
filed_by (f ∷ fs) all = All-cons (λ g. g.tick ≤ last) f fs all.0.0 (filed_by fs all.1)

withdrawn_by : (ws : List Withdrawal) → AllByRecursion Lawful (map withdrawal_numbers ws) → All (λ w. w.tick ≤ last) ws
withdrawn_by [] all = All-nil _
withdrawn_by (w ∷ ws) all = All-cons (λ v. v.tick ≤ last) w ws all.0.0 (withdrawn_by ws all.1)

writes_lawful : (bs : List ℕ) (p : Lists) → Writes bs p → IsLawful p
writes_lawful bs p written =
    let first = counted (map terms_numbers p.labs) in
    let second = counted (map filing_numbers p.filings) in
    let third = counted (map withdrawal_numbers p.withdrawals) in
    let others = all_right Lawful first (second ++ third) written.numbers in
    record {
      labs = written.labs;
      filings = written.filings;
      filed = filed_by p.filings (all_left Lawful second third others).1;
      withdrawn = withdrawn_by p.withdrawals (all_right Lawful second third others).1;
    }

lawful_read : (bs : List ℕ) (r : Result Plan ReadError) → IfOk r (λ p. Writes bs (lists p)) → IfOk r (λ p. IsLawful (lists p))
lawful_read bs (Ok p) written = writes_lawful bs (lists p) written
lawful_read bs (Err e) written = tt

-- a plan that was read is within the limits
pub lawful : (bs : List ℕ) (r : Result Plan ReadError) → Answers lists r (read_plan bs) → IfOk r (λ p. IsLawful (lists p))
lawful bs r said = lawful_read bs r (is_written r bs said)

-- ---- a play that begins

few_labs : (n : ℕ) → not (is_lab_count n) ≡ false → n ≤ most_labs
few_labs n counted = grind (arith, counted)

-- a gate at its beginning, with so many labs
abbrev gate_of : ℕ → GateState CircularTurns
gate_of n = anew (ending_with greatest_lab_number) n Arrival

opened_fresh : (rows : List ServerRow) (answer : Result (Unit {0}) Refusal) (s : Stage ServerRow CircularTurns)
    → granted_unless (open_checks server rows) tt ≡ answer
    → let r = step (gate_of 0) rows answer (gate_of (length rows)) (map server.restarted rows) in
    on_line 1 (if_granted r.answer (record { moment = record { gate = r.gate; rows = r.rows }; printed = [] })) ≡ Ok s → IsFresh s
opened_fresh rows (Err refusal) s is e = absurd (let z : ◌≡◌ {A = ℕ} 0 1 = cc in omega arith)
opened_fresh rows (Ok done) s is e =
    let ((few, rest), same) = granted (open_checks server rows) tt done is in
    let stage : Stage ServerRow CircularTurns
    = record { moment = record { gate = gate_of (length rows); rows = map server.restarted rows }; printed = [] } in
    let begun : stage ≡ s = cc in
    subst IsFresh begun (record { clock = refl; free = refl; labs = few_labs (length rows) few; waiting = refl })

rows_fresh : (made : Result (List ServerRow) Refused) (s : Stage ServerRow CircularTurns) → (made >>= λ rows. on_line 1 (opening rows)) ≡ Ok s → IsFresh s
rows_fresh (Ok rows) s e = opened_fresh rows (granted_unless (open_checks server rows) tt) s refl e
rows_fresh (Err r) s e = absurd (let z : ◌≡◌ {A = ℕ} 0 1 = cc in omega arith)

-- nothing has happened where a play begins
pub fresh : (labs : List Terms) (s : Stage ServerRow CircularTurns) → beginning labs ≡ Ok s → IsFresh s
unfolding beginning
fresh labs s e = rows_fresh (rows_of labs_line labs) s e
