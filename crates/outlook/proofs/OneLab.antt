-- What begins and ends do to a gate with a free lock on which one lab alone has tickets.
use Rattle.std.proofs.Common.{◌≡◌, ℕ, ◌+◌, ◌-◌, ◌<◌, ◌≤◌, true, false, not, List, [], ◌∷◌, length, drop, slice_get, is_some, Ok, Result, option_map, option_and_then, Some, None, refl, sym, ap, subst, ◌∙◌, arith, ⊎_elim, true≢false}
use Rattle.std.proofs.lemmas.Bool.{cases_eq, eq-eqb, eqb-true, le-leb, le-ltb}
use Rattle.std.proofs.lemmas.List.{get_or-set_same, get_or-set_other, length-replicate, length-set}
use Rattle.measures.specs.Limits.{last, most_labs}
use Rattle.measures.specs.declared.refusal.Refusal.{Refusal}
use Rattle.budget.specs.Meaning.{Meaning, Sentences}
use Rattle.budget.specs.Imports.{rest_long, after_run}
use Rattle.budget.proofs.Resting.{one_rest, woken_able}
use Rattle.turns.specs.Turns.{Turns}
use Rattle.waiting.specs.Queues.{queue_of, none_waiting}
use Rattle.waiting.specs.declared.ticket.Ticket.{Ticket}
use Rattle.waiting.proofs.Labs.{queue_of-none_waiting}
use Rattle.history.specs.declared.import.Import.{Import}
use Rattle.history.specs.declared.turn.Turn.{Turn}
use Rattle.history.specs.declared.turn.Turn.TheVariants.{Began}
use Rattle.history.specs.Gates.{GateState, Moment, rested_to}
use Rattle.history.specs.Standing.{first_ticket, has_ticket, stands, leader, next_import}
use Rattle.history.specs.Calls.{is_other_table, is_out_of_time, at_tick, end_answer}
use Rattle.history.specs.Histories.{ToBegin, ToEnd, Event, Begin, End, does, on_own_table}
use Rattle.history.specs.Guaranteed.{started}
use Rattle.history.proofs.Resting.{length-rest_others, rest_at, length-with_told, told_at}
use Rattle.history.proofs.Leading.{leader_leads, leader_is, stands_able, stands_waits, stands_from}
use Rattle.history.proofs.Effects.{Effect, stays, ticket_comes, ticket_leaves, none_begins, run_begins, run_ends, InTime, passed_to, with_run, with_end, effect}
use Rattle.history.proofs.Keeping.{denied_none, none_told, same_begun}
use Rattle.outlook.specs.LeftAlone.{CanBegin, only}

-- a gate's own table is no other one
own_table : {R T : Type 0} (g : GateState T) (rows : List R) → g.labs ≡ length rows → is_other_table g rows ≡ false
own_table g rows labs = ap not (eq-eqb (length rows) g.labs (sym labs))

timely : {T : Type 0} (g : GateState T) (t : ℕ) → g.clock ≤ t → t ≤ last → is_out_of_time g t ≡ false
timely g t low high = rw (le-ltb t g.clock low, le-leb t last high) refl

same_begin_tick : (t u : ℕ) (x y : Result Turn Refusal) → Begin t x ≡ Begin u y → t ≡ u
same_begin_tick t u x y e = cc

module _ {R T : Type 0} (row : Meaning R) (turn : Turns T) (s : Moment R T) (labs : s.gate.labs ≡ length s.rows) where
  -- a granted begin, where it is known what begins next
  begin_does : (t lab : ℕ) (k : Ticket) → InTime s t → s.gate.running ≡ None
      → next_import row turn (at_tick s.gate t) (rested_to row s.gate s.rows t) ≡ Some (lab, k)
      → does row turn (ToBegin t) s.gate s.rows ≡ record { event = started t lab k.number k.length; left = with_run turn (passed_to row s t) lab k }
  begin_does t lab k (low, high) free next =
      let is_free : is_some s.gate.running ≡ false = ap is_some free in
      rw (own_table s.gate s.rows labs, timely s.gate t low high, is_free, next) refl

  -- a granted end, where it is known which import is running
  end_does : (t : ℕ) (i : Import) → InTime s t → s.gate.running ≡ Some i
      → does row turn (ToEnd t) s.gate s.rows ≡ record { event = End t (Ok (end_answer t i)); left = with_end row (passed_to row s t) i }
  end_does t i (low, high) held = rw (own_table s.gate s.rows labs, timely s.gate t low high, held) refl

  -- tick t may be the next, and a lab leads then
  abbrev HasLeader : ℕ → Type 0
  HasLeader t = InTime s t × ((j : ℕ) × (leader row turn (at_tick s.gate t) (rested_to row s.gate s.rows t) ≡ Some j))

  -- so it is where an event starts an import
  leader_at_start : {e : Event} {later : Moment R T} → Effect row turn s e later → (t j n l : ℕ) → e ≡ started t j n l → HasLeader t
  leader_at_start (stays d) t j n l e = absurd (denied_none t (Began j n l) d e)
  leader_at_start (ticket_comes u k declared due time is) t j n l e = absurd (let z : ◌≡◌ {A = ℕ} 0 1 = cc in omega arith)
  leader_at_start (ticket_leaves u number ticket time there) t j n l e = absurd (let z : ◌≡◌ {A = ℕ} 0 1 = cc in omega arith)
  leader_at_start (none_begins u wake time free none) t j n l e = absurd (none_told u wake j n l (same_begun u t _ _ e).1)
  leader_at_start (run_begins u k ticket time free leads first) t j n l e = subst HasLeader (same_begun u t _ _ e).0 (time, (k, leads))
  leader_at_start (run_ends u i time held) t j n l e = absurd (let z : ◌≡◌ {A = ℕ} 0 1 = cc in omega arith)

  leader_where_one_can : (u : ℕ) → CanBegin row turn s u → HasLeader u
  leader_where_one_can u (j, (t, n, l, e)) =
      subst HasLeader (sym (same_begin_tick u t _ _ e)) (leader_at_start (effect row turn s labs (on_own_table (ToBegin u))) t j n l e)

-- The lock is free, and the lab, which has the row x, is the only one with tickets: these ones.
pub record HasAlone {R T : Type 0} (lab : ℕ) (x : R) (tickets : List Ticket) (s : Moment R T) : Type 0 where
  pub free : s.gate.running ≡ None
  pub labs : s.gate.labs ≡ length s.rows
  pub row : slice_get s.rows lab ≡ Some x
  pub own : queue_of s.gate.waiting lab ≡ tickets
  pub others : (k : ℕ) → (k ≡ lab → ⊥) → queue_of s.gate.waiting k ≡ []
  pub exists : lab < length s.gate.waiting

-- it is so at the moment with no ticket but those of the lab
pub alone_only : {R T : Type 0} (s : Moment R T) (lab : ℕ) (x : R) → s.gate.labs ≡ length s.rows → lab < most_labs → s.gate.running ≡ None
    → slice_get s.rows lab ≡ Some x → HasAlone lab x (queue_of s.gate.waiting lab) (only lab s)
unfolding none_waiting
alone_only s lab x labs low free there =
    let q = queue_of s.gate.waiting lab in
    let within : lab < length none_waiting = omega (arith, low, length-replicate {A = List Ticket} most_labs []) in
    record {
      free = free;
      labs = labs;
      row = there;
      own = get_or-set_same none_waiting lab q [] within;
      others = λ k other. get_or-set_other none_waiting lab k q [] other ∙ queue_of-none_waiting k;
      exists = omega (arith, within, length-set none_waiting lab q);
    }

module _ {R T : Type 0} {lab : ℕ} {x : R} {tickets : List Ticket} {s : Moment R T} (a : HasAlone lab x tickets s) where
  -- the row of the lab at tick t
  row_at : (m : Meaning R) (t : ℕ) → slice_get (rested_to m s.gate s.rows t) lab ≡ Some (m.rested x (t - s.gate.clock))
  row_at m t = rest_at m s.gate.running (t - s.gate.clock) lab s.rows x a.row ∙ rw a.free refl

  -- a lab with a ticket is this one
  is_lab : (j : ℕ) → has_ticket s.gate.waiting j ≡ true → j ≡ lab
  is_lab j waits = ⊎_elim
      (λ same. same)
      (λ other. absurd (true≢false (sym waits ∙ ap (λ l. is_some (slice_get l 0)) (a.others j other))))
      (cases_eq j lab)

  -- no begin can start an import without a ticket, or before the row is able, or after the last tick
  pub can_begin_alone : {m : Meaning R} → Sentences m → (turn : Turns T) (u : ℕ) → CanBegin m turn s u
      → (s.gate.clock + m.wake x ≤ u) × (u ≤ last) × (tickets ≡ [] → ⊥)
  can_begin_alone {m} sentences turn u can =
      let g = at_tick s.gate u in
      let rows = rested_to m s.gate s.rows u in
      let d = u - s.gate.clock in
      let y = m.rested x d in
      let ((low, high), (j, leads)) = leader_where_one_can m turn s a.labs u can in
      let (within, stood, ahead) = leader_leads m turn g rows j leads in
      let waits = stands_waits m g rows j stood in
      let is = is_lab j waits in
      let able = stands_able m g rows lab y (subst (λ k. stands m g rows k ≡ true) is stood) (row_at m u) in
      let awake = eqb-true (m.wake y) 0 (sym (sentences.awake y) ∙ able) in
      let some : has_ticket s.gate.waiting lab ≡ true = subst (λ k. has_ticket s.gate.waiting k ≡ true) is waits in (
        omega (arith, awake, sentences.rest_wake x d (omega arith), low),
        high,
        λ none. true≢false (sym some ∙ ap (λ l. is_some (slice_get l 0)) (a.own ∙ none)),
      )

-- the import of the lab's ticket k that has begun at tick t
abbrev pub import_of : ℕ → Ticket → ℕ → Import
import_of lab k t = record { lab = lab; number = k.number; length = k.length; filed = k.filed; began = t }

module _ {R T : Type 0} (row : Meaning R) (turn : Turns T) (lab : ℕ) (k : Ticket) (s : Moment R T) (t : ℕ) where
  -- what its begin leaves
  abbrev pub once_begun : Moment R T
  once_begun = with_run turn (passed_to row s t) lab k

  -- and its end at tick u
  abbrev pub once_ended : ℕ → Moment R T
  once_ended u = with_end row (passed_to row once_begun u) (import_of lab k t)

  begun_labs : s.gate.labs ≡ length s.rows → once_begun.gate.labs ≡ length once_begun.rows
  begun_labs labs = labs ∙ sym (length-rest_others row s.gate.running (t - s.gate.clock) 0 s.rows)

-- the lab's row is able from tick t on
module _ {R T : Type 0} {m : Meaning R} (sentences : Sentences m) (turn : Turns T) {lab : ℕ} {x : R} {k : Ticket} {ks : List Ticket} {s : Moment R T}
    (a : HasAlone lab x (k ∷ ks) s) (t : ℕ) (at : s.gate.clock + m.wake x ≡ t) (high : t ≤ last) where
  row_woken : slice_get (rested_to m s.gate s.rows t) lab ≡ Some (rest_long m x (m.wake x))
  row_woken =
      let waited : t - s.gate.clock ≡ m.wake x = omega arith in
      row_at a m t ∙ ap (λ d. Some (m.rested x d)) waited ∙ ap Some (sym (one_rest sentences x (m.wake x) (omega arith)))

  -- its first ticket begins next
  first_is_next : next_import m turn (at_tick s.gate t) (rested_to m s.gate s.rows t) ≡ Some (lab, k)
  first_is_next =
      let g = at_tick s.gate t in
      let rows = rested_to m s.gate s.rows t in
      let first : first_ticket s.gate.waiting lab ≡ Some k = ap (λ l. slice_get l 0) a.own in
      let stood = stands_from m g rows lab (rest_long m x (m.wake x)) row_woken (woken_able sentences x) (ap is_some first) in
      let leads : leader m turn g rows ≡ Some lab
      = leader_is m turn g rows lab stood (λ j within j_stood other. absurd (other (is_lab a j (stands_waits m g rows j j_stood)))) in
      ap (option_and_then {U = ℕ × Ticket} (λ i. option_map {U = ℕ × Ticket} (λ ticket. (i, ticket)) (first_ticket s.gate.waiting i))) leads
      ∙ ap (option_map {U = ℕ × Ticket} (λ ticket. (lab, ticket))) first

  -- a begin then starts the import of the first ticket
  pub begin_alone : does m turn (ToBegin t) s.gate s.rows ≡ record { event = started t lab k.number k.length; left = once_begun m turn lab k s t }
  begin_alone = begin_does m turn s a.labs t lab k (omega (arith, at), high) a.free first_is_next

  -- an end after that answers what this import took
  pub end_alone : (u : ℕ) → t ≤ u → u ≤ last → let b = once_begun m turn lab k s t in
      does m turn (ToEnd u) b.gate b.rows ≡ record { event = End u (Ok (k.number, u - t, u - k.filed)); left = once_ended m turn lab k s t u }
  end_alone u low u_high = end_does m turn (once_begun m turn lab k s t) (begun_labs m turn lab k s t a.labs) u (import_of lab k t) (low, u_high) refl

  -- and leaves the lab alone with its other tickets
  pub alone_again : (c u : ℕ) → t + c ≡ u → u ≤ last → HasAlone lab (after_run m x c) ks (once_ended m turn lab k s t u)
  alone_again c u ends u_high =
      let d = u - t in
      let y = rest_long m x (m.wake x) in
      let b = once_begun m turn lab k s t in
      let rows = rested_to m b.gate b.rows u in
      let left = drop 1 (queue_of s.gate.waiting lab) in
      let kept : slice_get rows lab ≡ Some y = rest_at m b.gate.running d lab b.rows y row_woken ∙ rw (eq-eqb lab lab refl) refl in
      let took : d ≡ c = omega (arith, ends) in
      let lawful = le-leb d last (omega (arith, ends)) in
      let able = woken_able sentences x in
      record {
        free = refl;
        labs = begun_labs m turn lab k s t a.labs ∙ sym (length-rest_others m b.gate.running d 0 b.rows) ∙ sym (length-with_told m rows lab d);
        row = told_at m rows lab d y kept ∙ rw (lawful, able, took) refl;
        own = get_or-set_same s.gate.waiting lab left [] a.exists ∙ ap (drop 1) a.own;
        others = λ j other. get_or-set_other s.gate.waiting lab j left [] other ∙ a.others j other;
        exists = omega (arith, length-set s.gate.waiting lab left, a.exists);
      }
