-- What a gate keeps of tickets, waiting and running, is what the events say of them.
use Rattle.std.proofs.Common.{◌+◌, ◌⊎◌, inr, inl, zero, ◌≡◌, ℕ, suc, ◌-◌, ◌≤◌, List, [], ◌∷◌, length, drop, slice_get, slice_index_or, Ok, option_map, Option, Some, None, All, refl, sym, ap, subst, true≢false, ◌∙◌, arith, ⊎_elim}
use Rattle.std.specs.List.{Contains}
use Rattle.std.proofs.lemmas.Bool.{cases_eq, cases_lt}
use Rattle.std.proofs.lemmas.List.{get_or-set_same, get_or-set_other, get_or_past, length-set}
use Rattle.std.proofs.lemmas.List.Elements.{All-nil, All-drop}
use Rattle.std.proofs.lemmas.Option.{same_Some, get_or_from_slice_get, slice_get_within}
use Rattle.waiting.specs.Queues.{AreOwn, queue_of, none_waiting, with_queue, without_numbered, waiting_ticket, without_ticket}
use Rattle.waiting.specs.declared.ticket.Ticket.{Ticket}
use Rattle.waiting.proofs.Labs.{queue_of-none_waiting, All-inserted, All-without_numbered}
use Rattle.budget.specs.Meaning.{Meaning}
use Rattle.turns.specs.Turns.{Turns}
use Rattle.history.specs.declared.import.Import.{Import}
use Rattle.history.specs.declared.turn.Turn.TheVariants.{Began}
use Rattle.history.specs.Gates.{Moment}
use Rattle.history.specs.Calls.{end_answer}
use Rattle.history.specs.Histories.{Event, File, Begin, End}
use Rattle.history.specs.Guaranteed.{IsExact, IsFiling}
use Rattle.history.specs.Logs.{log}
use Rattle.history.proofs.Agreement.{hold_of}
use Rattle.history.proofs.Effects.{Effect, stays, ticket_comes, ticket_leaves, none_begins, run_begins, run_ends, is_granted, not_granted}

-- what has happened before is still there after one more event
happened : (e f : Event) (es : List Event) → Contains es f → Contains (e ∷ es) f
happened e f es (k, within, is) = (suc k, omega (arith, within), is)

happens_now : (e : Event) (es : List Event) → Contains (e ∷ es) e
happens_now e es = (0, omega arith, refl)

-- an event of more is the latest, or was there before
in_more : (e f : Event) (es : List Event) → Contains (e ∷ es) f → (e ≡ f) ⊎ Contains es f
in_more e f es (zero, within, is) = inl is
in_more e f es (suc k, within, is) = inr (k, omega (arith, within), is)

-- the ticket was filed as it says, by tick c
abbrev pub IsFiled : List Event → ℕ → Ticket → Type 0
IsFiled es c u = Contains es (File u.filed u.lab u.length u.due (Ok u.number)) × (u.filed ≤ c)

-- the import is that of a ticket that was filed, and began as it says, by tick c
pub record HasBegun (es : List Event) (c : ℕ) (i : Import) : Type 0 where
  pub due : ℕ
  pub filed : Contains es (File i.filed i.lab i.length due (Ok i.number))
  pub began : Contains es (Begin i.began (Ok (Began i.lab i.number i.length)))
  pub filed_by : i.filed ≤ c
  pub began_by : i.began ≤ c

-- the granted filings have numbers up to n, no two the same one
pub record Numbered (es : List Event) (n : ℕ) : Type 0 where
  pub within : (number : ℕ) (e : Event) → Contains es e → IsFiling number e → number ≤ n
  pub once : (number : ℕ) (e f : Event) → Contains es e → Contains es f → IsFiling number e → IsFiling number f → e ≡ f

-- with one event more that is no granted filing
same_filings : (e : Event) (es : List Event) (n : ℕ) → ((number : ℕ) → IsFiling number e → ⊥) → Numbered es n → Numbered (e ∷ es) n
same_filings e es n none old = record {
  within = λ number f there is. ⊎_elim
      (λ now. absurd (none number (subst (IsFiling number) (sym now) is)))
      (λ before. old.within number f before is)
      (in_more e f es there);
  once = λ number f g f_there g_there f_is g_is. ⊎_elim
      (λ now. absurd (none number (subst (IsFiling number) (sym now) f_is)))
      (λ f_before. ⊎_elim
      (λ now. absurd (none number (subst (IsFiling number) (sym now) g_is)))
      (λ g_before. old.once number f g f_before g_before f_is g_is)
      (in_more e g es g_there))
      (in_more e f es f_there);
}

number_is : (t lab declared due number n : ℕ) (f : Event) → File t lab declared due (Ok number) ≡ f → IsFiling n f → number ≡ n
number_is t lab declared due number n f now (t', lab', declared', due', is) = let same = now ∙ is in cc

-- with one more granted filing, which has the next number
next_filing : (t lab declared due : ℕ) (es : List Event) (n : ℕ) → Numbered es n → Numbered (File t lab declared due (Ok (n + 1)) ∷ es) (n + 1)
next_filing t lab declared due es n old =
    let e = File t lab declared due (Ok (n + 1)) in
    record {
      within = λ number f there is. ⊎_elim
          (λ now. let same = number_is t lab declared due (n + 1) number f now is in omega (arith, same))
          (λ before. let low = old.within number f before is in omega (arith, low))
          (in_more e f es there);
      once = λ number f g f_there g_there f_is g_is. ⊎_elim
          (λ f_now. ⊎_elim
          (λ g_now. sym f_now ∙ g_now)
          (λ g_before.
          let same = number_is t lab declared due (n + 1) number f f_now f_is in
          let low = old.within number g g_before g_is in
          absurd (omega (arith, same, low)))
          (in_more e g es g_there))
          (λ f_before. ⊎_elim
          (λ g_now.
          let same = number_is t lab declared due (n + 1) number g g_now g_is in
          let low = old.within number f f_before f_is in
          absurd (omega (arith, same, low)))
          (λ g_before. old.once number f g f_before g_before f_is g_is)
          (in_more e g es g_there))
          (in_more e f es f_there);
    }

pub record Traced {R T : Type 0} (es : List Event) (s : Moment R T) : Type 0 where
  pub waiting : (k : ℕ) → All (IsFiled es s.gate.clock) (queue_of s.gate.waiting k)
  pub running : (i : Import) → s.gate.running ≡ Some i → HasBegun es s.gate.clock i
  pub filings : Numbered es s.gate.given

-- what holds of every ticket of a queue does so of all queues, where it does of the others
in_each : (P : Ticket → Type 0) (qs : List (List Ticket)) (k : ℕ) (q : List Ticket) → All P q → ((j : ℕ) → All P (queue_of qs j)) → (j : ℕ)
    → All P (queue_of (with_queue qs k q) j)
in_each P qs k q new old j =
    ⊎_elim
    (λ same.
    ⊎_elim
    (λ low. subst (All P) (sym (ap (λ i. slice_index_or (with_queue qs k q) i []) same ∙ get_or-set_same qs k q [] low)) new)
    (λ past. subst (All P) (sym (get_or_past (with_queue qs k q) j [] (omega (arith, same, past, length-set qs k q)))) (All-nil P))
    (cases_lt k (length qs)))
    (λ other. subst (All P) (sym (get_or-set_other qs k j q [] other)) (old j))
    (cases_eq j k)

module _ (e : Event) (es : List Event) (c t : ℕ) (later : c ≤ t) where
  still_filed : (u : Ticket) → IsFiled es c u → IsFiled (e ∷ es) t u
  still_filed u (filed, by) = (happened e _ es filed, omega (arith, by, later))

  still_all : (q : List Ticket) → All (IsFiled es c) q → All (IsFiled (e ∷ es) t) q
  still_all q all k d within = still_filed (slice_index_or q k d) (all k d within)

  still_begun : (i : Import) → HasBegun es c i → HasBegun (e ∷ es) t i
  still_begun i b = record {
    due = b.due;
    filed = happened e _ es b.filed;
    began = happened e _ es b.began;
    filed_by = omega (arith, b.filed_by, later);
    began_by = omega (arith, b.began_by, later);
  }

  -- without a ticket, each that is left was filed
  left_filed : (n : ℕ) (qs : List (List Ticket)) (ticket : Ticket) → waiting_ticket qs n ≡ Some ticket
      → ((k : ℕ) → All (IsFiled es c) (queue_of qs k))
      → (k : ℕ) → All (IsFiled (e ∷ es) t) (queue_of (without_ticket qs n) k)
  left_filed n qs ticket there all k =
      let P = IsFiled (e ∷ es) t in
      let still : (j : ℕ) → All P (queue_of qs j) = λ j. still_all (queue_of qs j) (all j) in
      rw there (in_each P qs ticket.lab (without_numbered n (queue_of qs ticket.lab)) (All-without_numbered P n (queue_of qs ticket.lab) (still ticket.lab)) still k)

-- two ends that answer the same
same_ended : (u t : ℕ) (i : Import) (number held response : ℕ) → End u (Ok (end_answer u i)) ≡ End t (Ok (number, held, response))
    → (u ≡ t) × (i.number ≡ number) × (u - i.began ≡ held) × (u - i.filed ≡ response)
same_ended u t i number held response e = let pair : ◌≡◌ {A = ℕ × ℕ × ℕ} (end_answer u i) (number, held, response) = cc in (cc, ap (λ p. p.0) pair, ap (λ p. p.1) pair, ap (λ p. p.2) pair)

-- what holds of every ticket of a queue holds of the first
of_first : (P : Ticket → Type 0) (q : List Ticket) (u : Ticket) → All P q → slice_get q 0 ≡ Some u → P u
of_first P q u all first = subst P (get_or_from_slice_get q 0 u u first) (all 0 u (slice_get_within q 0 u first))

module _ {R T : Type 0} where
  -- before anything has happened no ticket waits, and no import runs
  pub traced_opened : (s : Moment R T) → s.gate.waiting ≡ none_waiting → s.gate.running ≡ None → Traced [] s
  traced_opened s none free = record {
    waiting = λ k. subst (All (IsFiled [] s.gate.clock)) (sym (ap (λ qs. queue_of qs k) none ∙ queue_of-none_waiting k)) (All-nil (IsFiled [] s.gate.clock));
    running = λ i is. absurd (let z : ◌≡◌ {A = Option Import} None (Some i) = sym free ∙ is in let y : ◌≡◌ {A = ℕ} 0 1 = cc in omega arith);
    filings = record {
      within = λ number e there is. absurd (omega (arith, there.1));
      once = λ number e f there also is so. absurd (omega (arith, there.1));
    };
  }

  still_waiting : {es : List Event} {s : Moment R T} (e : Event) (t : ℕ) → Traced es s → s.gate.clock ≤ t → (k : ℕ)
      → All (IsFiled (e ∷ es) t) (queue_of s.gate.waiting k)
  still_waiting {es} {s} e t traced low k = still_all e es s.gate.clock t low (queue_of s.gate.waiting k) (traced.waiting k)

module _ {R T : Type 0} {m : Meaning R} {turn : Turns T} where
  -- and so on, whatever happens
  pub traced_on : {es : List Event} {s later : Moment R T} {e : Event} → Traced es s → AreOwn s.gate.waiting → Effect m turn s e later
      → Traced (e ∷ es) later
  traced_on {es} {s} {later} {e} traced own (stays d) = record {
    waiting = still_waiting e s.gate.clock traced (omega arith);
    running = λ i is. still_begun e es s.gate.clock s.gate.clock (omega arith) i (traced.running i is);
    filings = same_filings e es s.gate.given (λ n (u, k, l, f, same). true≢false (sym (ap is_granted same) ∙ not_granted d)) traced.filings;
  }
  traced_on {es} {s} {later} {e} traced own (ticket_comes t lab declared due (low, high) is) =
      let P = IsFiled (e ∷ es) t in
      let still = still_waiting e t traced low in
      record {
        waiting = in_each P s.gate.waiting lab _ (All-inserted P _ (queue_of s.gate.waiting lab) (happens_now e es, omega arith) (still lab)) still;
        running = λ i is. still_begun e es s.gate.clock t low i (traced.running i is);
        filings = next_filing t lab declared due es s.gate.given traced.filings;
      }
  traced_on {es} {s} {later} {e} traced own (ticket_leaves t number ticket (low, high) there) = record {
    waiting = left_filed e es s.gate.clock t low number s.gate.waiting ticket there traced.waiting;
    running = λ i is. still_begun e es s.gate.clock t low i (traced.running i is);
    filings = same_filings e es s.gate.given (λ n (u, k, l, f, same). absurd (let z : ◌≡◌ {A = ℕ} 0 1 = cc in omega arith)) traced.filings;
  }
  traced_on {es} {s} {later} {e} traced own (none_begins t wake (low, high) free none) = record {
    waiting = still_waiting e t traced low;
    running = λ i is. still_begun e es s.gate.clock t low i (traced.running i is);
    filings = same_filings e es s.gate.given (λ n (u, k, l, f, same). absurd (let z : ◌≡◌ {A = ℕ} 0 1 = cc in omega arith)) traced.filings;
  }
  traced_on {es} {s} {later} {e} traced own (run_begins t k ticket (low, high) free leads first) =
      let P = IsFiled (e ∷ es) t in
      let q = queue_of s.gate.waiting k in
      let still = still_waiting e t traced low in
      let (filed, by) = of_first P q ticket (still k) first in
      let of_k : ticket.lab ≡ k = of_first (λ u. u.lab ≡ k) q ticket (own.own k) first in
      record {
        waiting = in_each P s.gate.waiting k (drop 1 q) (All-drop P 1 q (still k)) still;
        running = λ i is. subst (HasBegun (e ∷ es) t) (same_Some _ i is) (record {
          due = ticket.due;
          filed = subst (λ j. Contains (e ∷ es) (File ticket.filed j ticket.length ticket.due (Ok ticket.number))) of_k filed;
          began = happens_now e es;
          filed_by = by;
          began_by = omega arith;
        });
        filings = same_filings e es s.gate.given (λ n (u, j, l, f, same). absurd (let z : ◌≡◌ {A = ℕ} 0 1 = cc in omega arith)) traced.filings;
      }
  traced_on {es} {s} {later} {e} traced own (run_ends t i (low, high) held) = record {
    waiting = still_waiting e t traced low;
    running = λ j is. absurd (let z : ◌≡◌ {A = Option Import} None (Some j) = is in let y : ◌≡◌ {A = ℕ} 0 1 = cc in omega arith);
    filings = same_filings e es s.gate.given (λ n (u, k, l, f, same). absurd (let z : ◌≡◌ {A = ℕ} 0 1 = cc in omega arith)) traced.filings;
  }

  -- an end answers what is so
  pub ends_exactly : {es : List Event} {s later : Moment R T} {e : Event} → Traced es s → (log es).hold ≡ option_map hold_of s.gate.running
      → Effect m turn s e later → (t number held response : ℕ) → e ≡ End t (Ok (number, held, response))
      → IsExact es t number held response
  ends_exactly traced holds (stays denied) t number held response e = absurd (true≢false (sym (ap is_granted e) ∙ not_granted denied))
  ends_exactly traced holds (ticket_comes u k declared due time is) t number held response e = absurd (let z : ◌≡◌ {A = ℕ} 0 1 = cc in omega arith)
  ends_exactly traced holds (ticket_leaves u n ticket time there) t number held response e = absurd (let z : ◌≡◌ {A = ℕ} 0 1 = cc in omega arith)
  ends_exactly traced holds (none_begins u wake time free none) t number held response e = absurd (let z : ◌≡◌ {A = ℕ} 0 1 = cc in omega arith)
  ends_exactly traced holds (run_begins u k ticket time free leads first) t number held response e = absurd (let z : ◌≡◌ {A = ℕ} 0 1 = cc in omega arith)
  ends_exactly {es} traced holds (run_ends u i (low, high) is) t number held response e =
      let (at, same_number, same_held, same_response) = same_ended u t i number held response e in
      let begun = traced.running i is in
      record {
        lab = i.lab;
        declared = i.length;
        due = begun.due;
        filed = i.filed;
        began = i.began;
        was_filed = subst (λ n. Contains es (File i.filed i.lab i.length begun.due (Ok n))) same_number begun.filed;
        has_begun = subst (λ n. Contains es (Begin i.began (Ok (Began i.lab n i.length)))) same_number begun.began;
        holds = holds ∙ ap (option_map hold_of) is ∙ ap (λ n. Some (record { lab = i.lab; number = n; from = i.began })) same_number;
        once = λ f there is.
            let mine : Contains es (File i.filed i.lab i.length begun.due (Ok number)) = subst (λ n. Contains es (File i.filed i.lab i.length begun.due (Ok n))) same_number begun.filed in
            traced.filings.once number f _ there mine is (i.filed, i.lab, i.length, begun.due, refl);
        held_since = omega (arith, at, same_held, begun.began_by, low);
        responds_since = omega (arith, at, same_response, begun.filed_by, low);
      }
