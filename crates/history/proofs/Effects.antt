-- What an event does to a gate, as data: one case for each thing that can happen, with the facts that the checks of the call gave. What is
-- proved of histories matches on it, and never sees how a call is defined.
use Rattle.std.proofs.Common.{◌≡◌, ℕ, ◌+◌, ◌<◌, ◌≤◌, Bool, true, false, List, [], ◌∷◌, length, map, is_some, is_none, is_ok, Ok, Err, Result, option_map, option_and_then, Option, Some, None, refl, sym, ap, subst, ◌∙◌, arith}
use Rattle.std.specs.Option.{option_map_or}
use Rattle.std.proofs.lemmas.Option.{same_Some}
use Rattle.std.proofs.lemmas.Bool.{leb-false, ne_eqb}
use Rattle.measures.specs.Limits.{last}
use Rattle.measures.specs.Refusals.{granted_unless}
use Rattle.measures.specs.declared.refusal.Refusal.{Refusal}
use Rattle.measures.specs.declared.refusal.Refusal.TheVariants.{TableMismatch}
use Rattle.budget.specs.Meaning.{Meaning}
use Rattle.turns.specs.Turns.{Turns}
use Rattle.waiting.specs.Queues.{waiting_ticket, without_ticket}
use Rattle.waiting.specs.declared.queue_order.QueueOrder.{QueueOrder}
use Rattle.waiting.specs.declared.ticket.Ticket.{Ticket}
use Rattle.history.specs.declared.import.Import.{Import}
use Rattle.history.specs.declared.turn.Turn.{Turn}
use Rattle.history.specs.declared.turn.Turn.TheVariants.{Began}
use Rattle.history.specs.Gates.{Moment, rested_to}
use Rattle.history.specs.Standing.{first_ticket, leader, smallest_wake, next_import, turn_of}
use Rattle.history.specs.Calls.{step, open_checks, anew, is_other_table, is_out_of_time, file_checks, withdraw_checks, begin_checks, end_checks, at_tick, next_ticket, with_filed, with_told, with_begun, held_ticks, end_answer}
use Rattle.history.specs.Histories.{Call, ToFile, ToWithdraw, ToBegin, ToEnd, Event, OpenDenied, File, Withdraw, Begin, End, does, Happens, on_own_table, on_another_table, denied_opening}

-- a call that was denied
pub data Denied : Event → Type 0 where
  open_denied : (r : Refusal) → Denied (OpenDenied r)
  file_denied : (t lab declared due : ℕ) (r : Refusal) → Denied (File t lab declared due (Err r))
  withdraw_denied : (t number : ℕ) (r : Refusal) → Denied (Withdraw t number (Err r))
  begin_denied : (t : ℕ) (r : Refusal) → Denied (Begin t (Err r))
  end_denied : (t : ℕ) (r : Refusal) → Denied (End t (Err r))

-- a call that was granted
abbrev pub is_granted : Event → Bool
is_granted (OpenDenied r) = false
is_granted (File t lab declared due answer) = is_ok answer
is_granted (Withdraw t number answer) = is_ok answer
is_granted (Begin t answer) = is_ok answer
is_granted (End t answer) = is_ok answer

pub not_granted : {e : Event} → Denied e → is_granted e ≡ false
not_granted (open_denied r) = refl
not_granted (file_denied t lab declared due r) = refl
not_granted (withdraw_denied t number r) = refl
not_granted (begin_denied t r) = refl
not_granted (end_denied t r) = refl

-- every test of the checks is false
abbrev pub Passed : List (Bool × Refusal) → Type 0
Passed [] = Unit {0}
Passed ((test, refusal) ∷ checks) = (test ≡ false) × Passed checks

-- what a grant says of its checks
pub granted : {A : Type 0} (checks : List (Bool × Refusal)) (a b : A) → granted_unless checks a ≡ Ok b → Passed checks × (a ≡ b)
granted [] a b e = (tt, cc)
granted ((true, refusal) ∷ checks) a b e = absurd (let z : ◌≡◌ {A = ℕ} 0 1 = cc in omega arith)
granted ((false, refusal) ∷ checks) a b e = let rest = granted checks a b e in ((refl, rest.0), rest.1)

-- what the test of an option says
pub none_there : {A : Type 0} (o : Option A) → is_some o ≡ false → o ≡ None
none_there None free = refl
none_there (Some a) free = absurd (let z : true ≡ false = free in grind (arith, z))

-- what a pair was made of
found : {A : Type 0} (i : ℕ) (o : Option A) (j : ℕ) (a : A) → option_map {U = ℕ × A} (λ v. (i, v)) o ≡ Some (j, a) → (i ≡ j) × (o ≡ Some a)
found i None j a e = absurd (let z : ◌≡◌ {A = ℕ} 0 1 = cc in omega arith)
found {A} i (Some v) j a e = let pair : ◌≡◌ {A = ℕ × A} (i, v) (j, a) = same_Some (i, v) (j, a) e in (ap (λ p. p.0) pair, ap (λ p. Some (p.1)) pair)

-- tick t may be the next
abbrev pub InTime : {R T : Type 0} → Moment R T → ℕ → Type 0
InTime s t = (s.gate.clock ≤ t) × (t ≤ last)

-- time passes, up to tick t
abbrev pub passed_to : {R T : Type 0} → Meaning R → Moment R T → ℕ → Moment R T
passed_to row s t = record { gate = at_tick s.gate t; rows = rested_to row s.gate s.rows t }

-- a ticket comes
abbrev pub with_come : {R T : Type 0} → Moment R T → Ticket → Moment R T
with_come s ticket = record s { gate = with_filed s.gate ticket }

-- a ticket leaves
abbrev pub with_left : {R T : Type 0} → Moment R T → ℕ → Moment R T
with_left s number = record s { gate = record s.gate { waiting = without_ticket s.gate.waiting number } }

-- a run begins
abbrev pub with_run : {R T : Type 0} → Turns T → Moment R T → ℕ → Ticket → Moment R T
with_run turn s k ticket = record s { gate = with_begun turn s.gate (Some (k, ticket)) }

-- a run ends
abbrev pub with_end : {R T : Type 0} → Meaning R → Moment R T → Import → Moment R T
with_end row s i = record { gate = record s.gate { running = None }; rows = with_told row s.rows i.lab (held_ticks s.gate.clock i) }

module _ {R T : Type 0} (row : Meaning R) (turn : Turns T) where
  -- what an event does
  pub data Effect (s : Moment R T) : Event → Moment R T → Type 0 where
    stays : {e : Event} → Denied e → Effect s e s
    ticket_comes : (t lab declared due : ℕ) → InTime s t → lab < s.gate.labs
        → Effect s (File t lab declared due (Ok (s.gate.given + 1))) (with_come (passed_to row s t) (next_ticket s.gate t lab declared due))
    ticket_leaves : (t number : ℕ) (ticket : Ticket) → InTime s t → waiting_ticket s.gate.waiting number ≡ Some ticket
        → Effect s (Withdraw t number (Ok ticket.lab)) (with_left (passed_to row s t) number)
    none_begins : (t : ℕ) (wake : Option ℕ) → InTime s t → s.gate.running ≡ None
        → next_import row turn (at_tick s.gate t) (rested_to row s.gate s.rows t) ≡ None
        → Effect s (Begin t (Ok (turn_of t None wake))) (passed_to row s t)
    run_begins : (t k : ℕ) (ticket : Ticket) → InTime s t → s.gate.running ≡ None
        → leader row turn (at_tick s.gate t) (rested_to row s.gate s.rows t) ≡ Some k → first_ticket s.gate.waiting k ≡ Some ticket
        → Effect s (Begin t (Ok (Began k ticket.number ticket.length))) (with_run turn (passed_to row s t) k ticket)
    run_ends : (t : ℕ) (i : Import) → InTime s t → s.gate.running ≡ Some i
        → Effect s (End t (Ok (end_answer t i))) (with_end row (passed_to row s t) i)

  -- a call that was granted came in time
  in_time : (s : Moment R T) (t : ℕ) → is_out_of_time s.gate t ≡ false → InTime s t
  in_time s t passed = (grind (arith, passed), grind (arith, passed))

  filed : (s : Moment R T) (t lab declared due : ℕ) (answer : Result ℕ Refusal)
      → granted_unless (file_checks s.gate s.rows t lab declared due) (s.gate.given + 1) ≡ answer
      → let r = step s.gate s.rows answer (with_filed (at_tick s.gate t) (next_ticket s.gate t lab declared due)) (rested_to row s.gate s.rows t) in
      Effect s (File t lab declared due r.answer) (record { gate = r.gate; rows = r.rows })
  filed s t lab declared due (Err r) e = stays (file_denied t lab declared due r)
  filed s t lab declared due (Ok n) e =
      let ((table, (time, (no_lab, rest))), is) = granted (file_checks s.gate s.rows t lab declared due) (s.gate.given + 1) n e in
      subst (λ k. Effect s (File t lab declared due (Ok k)) (with_come (passed_to row s t) (next_ticket s.gate t lab declared due))) is
      (ticket_comes t lab declared due (in_time s t time) (leb-false s.gate.labs lab no_lab))

  withdrawn : (s : Moment R T) (t number : ℕ) (ticket : Option Ticket) (answer : Result ℕ Refusal) → waiting_ticket s.gate.waiting number ≡ ticket
      → granted_unless (withdraw_checks s.gate s.rows t number) (option_map_or (λ ticket. ticket.lab) ticket 0) ≡ answer
      → let r = step s.gate s.rows answer (record (at_tick s.gate t) { waiting = without_ticket s.gate.waiting number }) (rested_to row s.gate s.rows t) in
      Effect s (Withdraw t number r.answer) (record { gate = r.gate; rows = r.rows })
  withdrawn s t number ticket (Err r) is e = stays (withdraw_denied t number r)
  withdrawn s t number None (Ok n) is e =
      let ((table, (time, (gone, rest))), same) = granted (withdraw_checks s.gate s.rows t number) 0 n e in
      absurd (let z : false ≡ true = sym gone ∙ ap is_none is in grind (arith, z))
  withdrawn s t number (Some ticket) (Ok n) is e =
      let ((table, (time, rest)), same) = granted (withdraw_checks s.gate s.rows t number) ticket.lab n e in
      subst (λ k. Effect s (Withdraw t number (Ok k)) (with_left (passed_to row s t) number)) same
      (ticket_leaves t number ticket (in_time s t time) is)

  begun : (s : Moment R T) (t : ℕ) (next : Option (ℕ × Ticket)) (wake : Option ℕ) (answer : Result Turn Refusal)
      → next_import row turn (at_tick s.gate t) (rested_to row s.gate s.rows t) ≡ next
      → granted_unless (begin_checks s.gate s.rows t) (turn_of t next wake) ≡ answer
      → let r = step s.gate s.rows answer (with_begun turn (at_tick s.gate t) next) (rested_to row s.gate s.rows t) in
      Effect s (Begin t r.answer) (record { gate = r.gate; rows = r.rows })
  begun s t next wake (Err r) is e = stays (begin_denied t r)
  begun s t None wake (Ok told) is e =
      let ((table, (time, (free, rest))), same) = granted (begin_checks s.gate s.rows t) (turn_of t None wake) told e in
      subst (λ u. Effect s (Begin t (Ok u)) (passed_to row s t)) same (none_begins t wake (in_time s t time) (none_there s.gate.running free) is)
  begun s t (Some (k, ticket)) wake (Ok told) is e =
      let ((table, (time, (free, rest))), same) = granted (begin_checks s.gate s.rows t) (Began k ticket.number ticket.length) told e in
      let (leads, first) = next_is (leader row turn (at_tick s.gate t) (rested_to row s.gate s.rows t)) k ticket is in
      subst (λ u. Effect s (Begin t (Ok u)) (with_run turn (passed_to row s t) k ticket)) same (run_begins t k ticket (in_time s t time) (none_there s.gate.running free) leads first)
    where
      next_is : (o : Option ℕ) (j : ℕ) (u : Ticket)
          → option_and_then {U = ℕ × Ticket} (λ i. option_map {U = ℕ × Ticket} (λ v. (i, v)) (first_ticket s.gate.waiting i)) o ≡ Some (j, u)
          → (o ≡ Some j) × (first_ticket s.gate.waiting j ≡ Some u)
      next_is None j u e = absurd (let z : ◌≡◌ {A = ℕ} 0 1 = cc in omega arith)
      next_is (Some i) j u e = let (same, first) = found i (first_ticket s.gate.waiting i) j u e in (ap Some same, subst (λ n. first_ticket s.gate.waiting n ≡ Some u) same first)

  ended : (s : Moment R T) (t : ℕ) (running : Option Import) (answer : Result (ℕ × ℕ × ℕ) Refusal) → s.gate.running ≡ running
      → granted_unless (end_checks s.gate s.rows t) (option_map_or (end_answer t) running (0, 0, 0)) ≡ answer
      → let rested = rested_to row s.gate s.rows t in
      let r = step s.gate s.rows answer (record (at_tick s.gate t) { running = None }) (option_map_or (λ i. with_told row rested i.lab (held_ticks t i)) running s.rows) in
      Effect s (End t r.answer) (record { gate = r.gate; rows = r.rows })
  ended s t running (Err r) is e = stays (end_denied t r)
  ended s t None (Ok told) is e =
      let ((table, (time, (held, rest))), same) = granted (end_checks s.gate s.rows t) (0, 0, 0) told e in
      absurd (let z : false ≡ true = sym held ∙ ap is_none is in grind (arith, z))
  ended s t (Some i) (Ok told) is e =
      let ((table, (time, (held, rest))), same) = granted (end_checks s.gate s.rows t) (end_answer t i) told e in
      subst (λ u. Effect s (End t (Ok u)) (with_end row (passed_to row s t) i)) same (run_ends t i (in_time s t time) is)

  own_effect : (c : Call) (s : Moment R T) → let d = does row turn c s.gate s.rows in Effect s d.event d.left
  own_effect (ToFile t lab declared due) s = filed s t lab declared due (granted_unless (file_checks s.gate s.rows t lab declared due) (s.gate.given + 1)) refl
  own_effect (ToWithdraw t number) s =
      withdrawn s t number (waiting_ticket s.gate.waiting number) (granted_unless (withdraw_checks s.gate s.rows t number) (option_map_or (λ ticket. ticket.lab) (waiting_ticket s.gate.waiting number) 0)) refl refl
  own_effect (ToBegin t) s =
      let g = at_tick s.gate t in
      let rows = rested_to row s.gate s.rows t in
      let next = next_import row turn g rows in
      let wake = smallest_wake row g rows in
      begun s t next wake (granted_unless (begin_checks s.gate s.rows t) (turn_of t next wake)) refl refl
  own_effect (ToEnd t) s = ended s t s.gate.running (granted_unless (end_checks s.gate s.rows t) (option_map_or (end_answer t) s.gate.running (0, 0, 0))) refl refl

  -- on a table of another length every call is denied
  no_effect : (c : Call) (s : Moment R T) (other : List R) → is_other_table s.gate other ≡ true
      → let d = does row turn c s.gate other in Effect s d.event (record { gate = d.left.gate; rows = s.rows })
  no_effect (ToFile t lab declared due) s other differs = rw differs (stays (file_denied t lab declared due TableMismatch))
  no_effect (ToWithdraw t number) s other differs = rw differs (stays (withdraw_denied t number TableMismatch))
  no_effect (ToBegin t) s other differs = rw differs (stays (begin_denied t TableMismatch))
  no_effect (ToEnd t) s other differs = rw differs (stays (end_denied t TableMismatch))

  -- an opening that is denied changes nothing
  no_opening : (s : Moment R T) (other : List R) (order : QueueOrder) (r : Refusal) (answer : Result (Unit {0}) Refusal)
      → let o = step s.gate other answer (anew s.gate.turns (length other) order) (map row.restarted other) in
      o.answer ≡ Err r → Effect s (OpenDenied r) (record { gate = o.gate; rows = s.rows })
  no_opening s other order r (Ok done) e = absurd (let z : ◌≡◌ {A = ℕ} 0 1 = cc in omega arith)
  no_opening s other order r (Err refusal) e = stays (open_denied r)

  -- whatever happens is one of these
  pub effect : (s : Moment R T) → s.gate.labs ≡ length s.rows → {e : Event} {later : Moment R T} → Happens row turn s e later → Effect s e later
  effect s labs (on_own_table c) = own_effect c s
  effect s labs (denied_opening other order r denied) = no_opening s other order r (granted_unless (open_checks row other) tt) denied
  effect s labs (on_another_table c other differs) = no_effect c s other (ne_other s other labs differs)
    where
      ne_other : (s : Moment R T) (other : List R) → s.gate.labs ≡ length s.rows → (length other ≡ length s.rows → ⊥)
          → is_other_table s.gate other ≡ true
      ne_other s other labs differs = let apart = ne_eqb (length other) s.gate.labs (λ same. differs (same ∙ labs)) in rw apart refl
