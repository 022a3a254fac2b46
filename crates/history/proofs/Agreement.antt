-- A log and the moment that its events lead to agree, and go on agreeing whatever happens.
use Rattle.std.proofs.Common.{◌≡◌, ℕ, ◌+◌, ◌-◌, ◌<◌, ◌≤◌, true, false, ◌&&◌, nat_eq, List, [], ◌∷◌, length, map, slice_get, option_map, Ok, Option, Some, None, All, refl, sym, ap, subst, ◌∙◌, arith, ⊎_elim}
use Rattle.std.proofs.lemmas.Bool.{cases_eq, eq-eqb, ne_eqb, and_from, le-leb}
use Rattle.std.proofs.lemmas.List.{length-map}
use Rattle.std.proofs.lemmas.List.Elements.{All-cons, All-nil}
use Rattle.std.proofs.lemmas.Option.{same_Some, slice_get-map, slice_get_within}
use Rattle.measures.specs.Limits.{last, most_labs, is_tick}
use Rattle.budget.specs.Meaning.{Meaning, Sentences}
use Rattle.turns.specs.Turns.{Turns}
use Rattle.waiting.specs.Queues.{none_waiting, waiting_ticket}
use Rattle.waiting.specs.declared.ticket.Ticket.{Ticket}
use Rattle.history.specs.declared.import.Import.{Import}
use Rattle.history.specs.Gates.{Moment, is_running, rested_one, rested_to}
use Rattle.history.specs.Standing.{first_ticket, stands, leader, turn_of}
use Rattle.history.specs.Calls.{told, with_told}
use Rattle.history.specs.Logs.{Log, log, Run, Hold, closed, runs_of, without_number, noted}
use Rattle.history.specs.Histories.{Event, Begin}
use Rattle.history.proofs.Ledgers.{Ledger, ledger_begins, ledger_rests, ledger_ran, run_up_to}
use Rattle.history.proofs.Filings.{SameTickets, same_at_first, same_filed, same_withdrawn, same_begun_ticket}
use Rattle.history.proofs.Leading.{leader_leads, stands_able}
use Rattle.history.proofs.Lists.{element}
use Rattle.history.proofs.Resting.{length-rest_others, rest_at, length-with_told, told_at, untold_at}
use Rattle.history.proofs.Effects.{Effect, stays, ticket_comes, ticket_leaves, none_begins, run_begins, run_ends, Denied, open_denied, file_denied, withdraw_denied, begin_denied, end_denied, passed_to, with_come, with_left, with_run, with_end}

-- the hold of an import
abbrev pub hold_of : Import → Hold
hold_of i = record { lab = i.lab; number = i.number; from = i.began }

pub record Agrees {R T : Type 0} (m : Meaning R) (start : List R) (b : Log) (s : Moment R T) : Type 0 where
  pub clock : b.clock ≡ s.gate.clock
  pub in_time : s.gate.clock ≤ last
  pub labs : s.gate.labs ≡ length s.rows
  pub few : length s.rows ≤ most_labs
  pub as_many : length s.rows ≡ length start
  pub tickets : SameTickets b.waiting s.gate.waiting s.gate.given
  pub holds : b.hold ≡ option_map hold_of s.gate.running
  pub holder : (i : Import) → s.gate.running ≡ Some i → i.lab < length s.rows
  pub of_labs : All (λ r. r.lab < length start) b.over
  -- a lab that does not hold the lock has kept its budget up to the clock, and one that does, up to its begin
  pub resting : (k : ℕ) (x0 x : R) → slice_get start k ≡ Some x0 → slice_get s.rows k ≡ Some x → is_running s.gate.running k ≡ false
      → Ledger m x0 (runs_of k b.over) s.gate.clock x
  pub running : (i : Import) (x0 x : R) → slice_get start i.lab ≡ Some x0 → slice_get s.rows i.lab ≡ Some x → s.gate.running ≡ Some i
      → Ledger m x0 (runs_of i.lab b.over) i.began x × (m.able x ≡ true) × (i.began ≤ s.gate.clock)

-- the row of a lab from that before
row_before : {R : Type 0} (rows new : List R) (k : ℕ) (y : R) (f : R → R) → length new ≡ length rows
    → ((x : R) → slice_get rows k ≡ Some x → slice_get new k ≡ Some (f x)) → slice_get new k ≡ Some y
    → (x : R) × (slice_get rows k ≡ Some x) × (y ≡ f x)
row_before rows new k y f long each there =
    let (x, was) = element rows k (omega (arith, slice_get_within new k y there, long)) in
    (x, was, same_Some y (f x) (sym there ∙ each x was))

no_import : {A : Type 0} (i : Import) → ◌≡◌ {A = Option Import} None (Some i) → A
no_import i e = absurd (let z : ◌≡◌ {A = ℕ} 0 1 = cc in omega arith)

-- the runs of a lab, with one more
of_same : (lab from to k : ℕ) (rs : List Run) → k ≡ lab → runs_of k (run_up_to lab from to ∷ rs) ≡ run_up_to lab from to ∷ runs_of lab rs
of_same lab from to k rs same = ap (λ j. runs_of j (run_up_to lab from to ∷ rs)) same ∙ rw (eq-eqb lab lab refl) refl

module _ {R T : Type 0} {m : Meaning R} (sentences : Sentences m) {start : List R} {b : Log} {s : Moment R T} (a : Agrees m start b s) where
  -- time passes
  pub agrees_passed : (t : ℕ) → s.gate.clock ≤ t → t ≤ last → Agrees m start (record b { clock = t }) (passed_to m s t)
  agrees_passed t low high =
      let d = t - s.gate.clock in
      let g = s.gate in
      let rows = rested_to m g s.rows t in
      let long : length rows ≡ length s.rows = length-rest_others m g.running d 0 s.rows in
      let on : g.clock + d ≡ t = omega arith in
      let before : (k : ℕ) (y : R) → slice_get rows k ≡ Some y → (x : R) × (slice_get s.rows k ≡ Some x) × (y ≡ rested_one m g.running d k x) =
      λ k y there. row_before s.rows rows k y (rested_one m g.running d k) long (rest_at m g.running d k s.rows) there in
      record {
        clock = refl;
        in_time = high;
        labs = a.labs ∙ sym long;
        few = omega (arith, a.few, long);
        as_many = long ∙ a.as_many;
        tickets = a.tickets;
        holds = a.holds;
        holder = λ i is. omega (arith, a.holder i is, long);
        of_labs = a.of_labs;
        resting = λ k x0 y began there free.
            let (x, was, is) = before k y there in
            let rested : y ≡ m.rested x d = is ∙ rw free refl in
            let ledger = ledger_rests sentences (a.resting k x0 x began was free) d (omega arith) in
            subst (λ z. Ledger m x0 (runs_of k b.over) t z) (sym rested) (subst (λ c. Ledger m x0 (runs_of k b.over) c (m.rested x d)) on ledger);
        running = λ i x0 y began there held.
            let (x, was, is) = before i.lab y there in
            let itself : is_running g.running i.lab ≡ true = rw held (eq-eqb i.lab i.lab refl) in
            let kept : y ≡ x = is ∙ rw itself refl in
            let (ledger, able, since) = a.running i x0 x began was held in
            (subst (λ z. Ledger m x0 (runs_of i.lab b.over) i.began z) (sym kept) ledger, subst (λ z. m.able z ≡ true) (sym kept) able, omega (arith, since));
      }

  -- a ticket comes
  pub agrees_come : (ticket : Ticket) → ticket.number ≡ s.gate.given + 1 → ticket.lab < s.gate.labs
      → Agrees m start (record b { waiting = record { lab = ticket.lab; number = ticket.number } ∷ b.waiting }) (with_come s ticket)
  agrees_come ticket next lab = record {
    clock = a.clock;
    in_time = a.in_time;
    labs = a.labs;
    few = a.few;
    as_many = a.as_many;
    tickets = same_filed a.tickets ticket next (omega (arith, lab, a.labs, a.few));
    holds = a.holds;
    holder = a.holder;
    of_labs = a.of_labs;
    resting = a.resting;
    running = a.running;
  }

  -- a ticket leaves
  pub agrees_left : (number : ℕ) (ticket : Ticket) → waiting_ticket s.gate.waiting number ≡ Some ticket
      → Agrees m start (record b { waiting = without_number number b.waiting }) (with_left s number)
  agrees_left number ticket there = record {
    clock = a.clock;
    in_time = a.in_time;
    labs = a.labs;
    few = a.few;
    as_many = a.as_many;
    tickets = same_withdrawn a.tickets number ticket there;
    holds = a.holds;
    holder = a.holder;
    of_labs = a.of_labs;
    resting = a.resting;
    running = a.running;
  }

  -- a run begins
  pub agrees_run : (turn : Turns T) (k : ℕ) (ticket : Ticket) → s.gate.running ≡ None → leader m turn s.gate s.rows ≡ Some k
      → first_ticket s.gate.waiting k ≡ Some ticket
      → Agrees m start (record b { hold = Some (record { lab = k; number = ticket.number; from = s.gate.clock }); waiting = without_number ticket.number b.waiting }) (with_run turn s k ticket)
  agrees_run turn k ticket free leads first =
      let (within, stood, _) = leader_leads m turn s.gate s.rows k leads in
      let idle : (j : ℕ) → is_running s.gate.running j ≡ false = λ j. rw free refl in
      record {
        clock = a.clock;
        in_time = a.in_time;
        labs = a.labs;
        few = a.few;
        as_many = a.as_many;
        tickets = same_begun_ticket a.tickets k ticket first;
        holds = refl;
        holder = λ i is. let same = ap (λ n. n.lab) (same_Some _ i is) in omega (arith, same, within);
        of_labs = a.of_labs;
        resting = λ j x0 x began there other. a.resting j x0 x began there (idle j);
        running = λ i x0 x began there held.
            let same : k ≡ i.lab = ap (λ n. n.lab) (same_Some _ i held) in
            let since : s.gate.clock ≡ i.began = ap (λ n. n.began) (same_Some _ i held) in (
              subst (λ c. Ledger m x0 (runs_of i.lab b.over) c x) since (a.resting i.lab x0 x began there (idle i.lab)),
              stands_able m s.gate s.rows i.lab x (subst (λ j. stands m s.gate s.rows j ≡ true) same stood) there,
              omega (arith, since),
            );
      }

  -- a run ends
  pub agrees_end : (i : Import) → s.gate.running ≡ Some i
      → Agrees m start (record b { over = closed b.clock b.hold b.over; hold = None }) (with_end m s i)
  agrees_end i held =
      let t = s.gate.clock in
      let c = t - i.began in
      let rows = with_told m s.rows i.lab c in
      let long : length rows ≡ length s.rows = length-with_told m s.rows i.lab c in
      let holds : b.hold ≡ Some (hold_of i) = a.holds ∙ ap (option_map hold_of) held in
      let over : closed b.clock b.hold b.over ≡ run_up_to i.lab i.began t ∷ b.over = (λ j. closed (a.clock j) (holds j) b.over) in
      let within = a.holder i held in
      record {
        clock = a.clock;
        in_time = a.in_time;
        labs = a.labs ∙ sym long;
        few = omega (arith, a.few, long);
        as_many = long ∙ a.as_many;
        tickets = a.tickets;
        holds = refl;
        holder = λ j is. no_import j is;
        of_labs = subst (All (λ r. r.lab < length start)) (sym over) (All-cons (λ r. r.lab < length start) (run_up_to i.lab i.began t) b.over (omega (arith, within, a.as_many)) a.of_labs);
        resting = λ k x0 y began there free. ⊎_elim
            (λ same.
            let (x, was) = element s.rows i.lab within in
            let first : slice_get start i.lab ≡ Some x0 = ap (slice_get start) (sym same) ∙ began in
            let (ledger, able, since) = a.running i x0 x first was held in
            let on : i.began + c ≡ t = omega (arith, since) in
            let lawful : c ≤ last = omega (arith, a.in_time) in
            let new = told_at m s.rows i.lab c x was in
            let yes : (is_tick c && m.able x) ≡ true = and_from (is_tick c) (m.able x) (le-leb c last lawful) able in
            let is : y ≡ m.ended x c = same_Some y (told m x c) (sym there ∙ ap (slice_get rows) same ∙ new) ∙ rw yes refl in
            let ran = ledger_ran sentences ledger i.lab able c lawful in
            let of_k : runs_of k (closed b.clock b.hold b.over) ≡ run_up_to i.lab i.began t ∷ runs_of i.lab b.over = ap (runs_of k) over ∙ of_same i.lab i.began t k b.over same in
            subst (λ rs. Ledger m x0 rs t y) (sym of_k)
            (subst (λ z. Ledger m x0 (run_up_to i.lab i.began t ∷ runs_of i.lab b.over) t z) (sym is)
            (subst (λ u. Ledger m x0 (run_up_to i.lab i.began u ∷ runs_of i.lab b.over) u (m.ended x c)) on ran)))
            (λ other.
            let apart : nat_eq i.lab k ≡ false = ne_eqb i.lab k (λ e. other (sym e)) in
            let idle : is_running s.gate.running k ≡ false = rw held apart in
            let of_k : runs_of k (closed b.clock b.hold b.over) ≡ runs_of k b.over = ap (runs_of k) over ∙ rw apart refl in
            subst (λ rs. Ledger m x0 rs t y) (sym of_k) (a.resting k x0 y began (sym (untold_at m s.rows i.lab c k other) ∙ there) idle))
            (cases_eq k i.lab);
        running = λ j x0 x began there is. no_import j is;
      }

-- a gate that was just opened: one lab for each row, at most 64, and each row begun anew
pub record Opened {R T : Type 0} (row : Meaning R) (s : Moment R T) : Type 0 where
  pub clock : s.gate.clock ≡ 0
  pub running : s.gate.running ≡ None
  pub waiting : s.gate.waiting ≡ none_waiting
  pub labs : s.gate.labs ≡ length s.rows
  pub few : length s.rows ≤ most_labs
  pub anew : (rows : List R) × (s.rows ≡ map row.restarted rows)

-- such a moment agrees with a log of no events
pub agrees_opened : {R T : Type 0} {m : Meaning R} (sentences : Sentences m) (s : Moment R T) → Opened m s
    → Agrees m s.rows (log []) s
agrees_opened {R} {T} {m} sentences s o =
    let (before, anew) = o.anew in
    let begun : (k : ℕ) (x : R) → slice_get s.rows k ≡ Some x → (y : R) × (x ≡ m.restarted y) = λ k x there.
    let long : length s.rows ≡ length before = ap length anew ∙ length-map before m.restarted in
    let (y, was) = element before k (omega (arith, slice_get_within s.rows k x there, long)) in
    (y, same_Some x (m.restarted y) (sym there ∙ ap (λ l. slice_get l k) anew ∙ slice_get-map m.restarted before k ∙ ap (option_map m.restarted) was)) in
    record {
      clock = sym o.clock;
      in_time = omega (arith, o.clock);
      labs = o.labs;
      few = o.few;
      as_many = refl;
      tickets = same_at_first s.gate.waiting s.gate.given o.waiting;
      holds = sym (ap (option_map hold_of) o.running);
      holder = λ i is. no_import i (sym o.running ∙ is);
      of_labs = All-nil (λ r. r.lab < length s.rows);
      resting = λ k x0 x first there free.
          let same : x0 ≡ x = same_Some x0 x (sym first ∙ there) in
          let (y, is) = begun k x0 first in
          let ledger = ledger_begins sentences y in
          subst (λ z. Ledger m x0 [] s.gate.clock z) same (subst (λ t. Ledger m x0 [] t x0) (sym o.clock) (subst (λ z. Ledger m z [] 0 z) (sym is) ledger));
      running = λ i x0 x first there is. no_import i (sym o.running ∙ is);
    }

-- an event that the log takes note of leads to what agrees again
module _ {R T : Type 0} {m : Meaning R} (sentences : Sentences m) (turn : Turns T) {start : List R} where
  denied : {b : Log} {s : Moment R T} {e : Event} → Denied e → Agrees m start b s → Agrees m start (noted e b) s
  denied (open_denied r) a = a
  denied (file_denied t lab declared due r) a = a
  denied (withdraw_denied t number r) a = a
  denied (begin_denied t r) a = a
  denied (end_denied t r) a = a

  idle : (b : Log) {s : Moment R T} (t : ℕ) (wake : Option ℕ) → Agrees m start (record b { clock = t }) s
      → Agrees m start (noted (Begin t (Ok (turn_of t None wake))) b) s
  idle b t None a = a
  idle b t (Some w) a = a

  pub agrees_on : {b : Log} {s later : Moment R T} {e : Event} → Agrees m start b s → Effect m turn s e later → Agrees m start (noted e b) later
  agrees_on a (stays d) = denied d a
  agrees_on a (ticket_comes t lab declared due (low, high) is) = agrees_come sentences (agrees_passed sentences a t low high) _ refl is
  agrees_on a (ticket_leaves t number ticket (low, high) there) = agrees_left sentences (agrees_passed sentences a t low high) number ticket there
  agrees_on a (none_begins t wake (low, high) free none) = idle _ t wake (agrees_passed sentences a t low high)
  agrees_on a (run_begins t k ticket (low, high) free leads first) = agrees_run sentences (agrees_passed sentences a t low high) turn k ticket free leads first
  agrees_on a (run_ends t i (low, high) held) = agrees_end sentences (agrees_passed sentences a t low high) i held
