-- Moments of a gate that no later call can tell apart.
use Rattle.std.proofs.Common.{◌≡◌, ℕ, ◌+◌, ◌-◌, ◌≤◌, Bool, true, false, nat_lt, List, [], ◌∷◌, ◌++◌, ◌||◌, not, nat_eq, length, drop, is_none, Ok, Err, Result, Option, Some, None, refl, sym, ap, subst, ◌∙◌, arith, ⊎_elim, true≢false}
use Rattle.std.specs.Option.{option_map_or}
use Rattle.std.proofs.lemmas.Bool.{cases_Bool, le-ltb}
use Rattle.measures.specs.Limits.{is_tick, last}
use Rattle.measures.specs.Refusals.{granted_unless}
use Rattle.measures.specs.declared.refusal.Refusal.{Refusal}
use Rattle.measures.specs.declared.refusal.Refusal.TheVariants.{TableMismatch, TickOutOfRange}
use Rattle.budget.specs.Meaning.{Meaning, Sentences}
use Rattle.turns.specs.Turns.{Turns}
use Rattle.waiting.specs.Queues.{waiting_ticket}
use Rattle.waiting.specs.declared.ticket.Ticket.{Ticket}
use Rattle.history.specs.declared.import.Import.{Import}
use Rattle.history.specs.declared.turn.Turn.{Turn}
use Rattle.history.specs.declared.turn.Turn.TheVariants.{Began}
use Rattle.history.specs.Gates.{GateState, Moment, is_running, rested_one, rest_others, rested_to}
use Rattle.history.specs.Standing.{smallest_wake, next_import, whose_turn, turn_of}
use Rattle.history.specs.Calls.{step, call_checks, at_tick, file_checks, withdraw_checks, begin_checks, end_checks, held_ticks, end_answer, begins, with_told, next_ticket, with_begun}
use Rattle.history.specs.Histories.{Call, ToFile, ToWithdraw, ToBegin, ToEnd, Event, File, Withdraw, Begin, End, done, does}
use Rattle.history.specs.Guaranteed.{Starts}
use Rattle.history.proofs.Resting.{length-rest_others}
use Rattle.history.proofs.Effects.{Passed, granted, passed_to, with_come, with_left, with_run}
use Rattle.course.specs.Asking.{tick_of}

module _ {R T : Type 0} (row : Meaning R) where
  -- two moments that no call at tick t or later can tell apart: they are one moment once time has passed up to t
  pub record Alike (t : ℕ) (a b : Moment R T) : Type 0 where
    pub reached : a.gate.clock ≤ t
    pub reached_too : b.gate.clock ≤ t
    pub same : passed_to row a t ≡ passed_to row b t

  -- a moment is alike to itself
  pub alike_itself : (s : Moment R T) (t : ℕ) → s.gate.clock ≤ t → Alike t s s
  alike_itself s t low = record { reached = low; reached_too = low; same = refl }

module _ {R : Type 0} {row : Meaning R} (sentences : Sentences row) where
  -- a rest in two goes is one rest
  rested_twice : (running : Option Import) (d e k : ℕ) (x : R) → d + e ≤ last
      → rested_one row running e k (rested_one row running d k x) ≡ rested_one row running (d + e) k x
  rested_twice running d e k x low =
      ⊎_elim (λ yes. rw yes refl) (λ no. rw no (sentences.rest_rest x d e low)) (cases_Bool (is_running running k))

  others_twice : (running : Option Import) (d e k : ℕ) (rows : List R) → d + e ≤ last
      → rest_others row running e k (rest_others row running d k rows) ≡ rest_others row running (d + e) k rows
  unfolding rest_others
  others_twice running d e k [] low = refl
  others_twice running d e k (x ∷ xs) low = (λ i. rested_twice running d e k x low i ∷ others_twice running d e (k + 1) xs low i)

module _ {R T : Type 0} {row : Meaning R} (sentences : Sentences row) where
  -- time that passes in two goes passes in one
  pub passed_twice : (s : Moment R T) (t u : ℕ) → s.gate.clock ≤ t → t ≤ u → u ≤ last → passed_to row (passed_to row s t) u ≡ passed_to row s u
  passed_twice s t u low later high =
      let whole : t - s.gate.clock + (u - t) ≡ u - s.gate.clock = omega arith in
      ap (λ l. record { gate = at_tick s.gate u; rows = l })
      (others_twice sentences s.gate.running (t - s.gate.clock) (u - t) 0 s.rows (omega arith) ∙ ap (λ d. rest_others row s.gate.running d 0 s.rows) whole)

  -- alike moments stay so
  pub alike_later : {a b : Moment R T} (t u : ℕ) → Alike row t a b → t ≤ u → u ≤ last → Alike row u a b
  alike_later {a} {b} t u alike later high =
      let low = alike.reached in
      let low_too = alike.reached_too in
      record {
        reached = omega arith;
        reached_too = omega arith;
        same = sym (passed_twice a t u low later high) ∙ ap (λ s. passed_to row s u) alike.same ∙ passed_twice b t u low_too later high;
      }

  -- a moment is alike to the one that it becomes as time passes
  pub alike_passed : (s : Moment R T) (t : ℕ) → s.gate.clock ≤ t → t ≤ last → Alike row t (passed_to row s t) s
  alike_passed s t low high = record { reached = omega arith; reached_too = low; same = passed_twice s t t low (omega arith) high }

module _ {R T : Type 0} (row : Meaning R) (turn : Turns T) where
  -- on two moments a call has one event, and it leaves alike moments
  abbrev pub SameOf : Call → Moment R T → Moment R T → Type 0
  SameOf c a b =
      let d = does row turn c a.gate a.rows in
      let e = does row turn c b.gate b.rows in
      (d.event ≡ e.event) × Alike row (tick_of c) d.left e.left

  module _ {t : ℕ} {a b : Moment R T} (alike : Alike row t a b) where
    -- so it is of two steps, with these answers, which leave these moments if they are granted
    abbrev SameSteps : {A : Type 0} → (Result A Refusal → Event) → Moment R T → Moment R T → Result A Refusal → Result A Refusal → Type 0
    SameSteps as_event later later_too x y =
        let d = done as_event (step a.gate a.rows x later.gate later.rows) in
        let e = done as_event (step b.gate b.rows y later_too.gate later_too.rows) in
        (d.event ≡ e.event) × Alike row t d.left e.left

    -- it is so where the answer is one, and what is left if it is granted
    same_answer : {A : Type 0} (as_event : Result A Refusal → Event) (later later_too : Moment R T) (x : Result A Refusal)
        → later.gate.clock ≤ t → ((w : A) → x ≡ Ok w → later ≡ later_too) → SameSteps as_event later later_too x x
    same_answer as_event later later_too (Ok w) low one =
        (refl, subst (Alike row t later) (one w refl) (alike_itself row later t low))
    same_answer as_event later later_too (Err r) low one = (refl, alike)

    same_steps : {A : Type 0} (as_event : Result A Refusal → Event) (later later_too : Moment R T) (x y : Result A Refusal)
        → later.gate.clock ≤ t → x ≡ y → ((w : A) → x ≡ Ok w → later ≡ later_too) → SameSteps as_event later later_too x y
    same_steps as_event later later_too x y low same one =
        subst (SameSteps as_event later later_too x) same (same_answer as_event later later_too x low one)

    -- what the first two checks read of a moment is the same
    same_checks : call_checks a.gate a.rows t ≡ call_checks b.gate b.rows t
    same_checks =
        let low = alike.reached in
        let low_too = alike.reached_too in
        let many : length a.rows ≡ length b.rows
        = sym (length-rest_others row a.gate.running (t - a.gate.clock) 0 a.rows)
        ∙ ap (λ s. length s.rows) alike.same
        ∙ length-rest_others row b.gate.running (t - b.gate.clock) 0 b.rows in
        let late : nat_lt t a.gate.clock ≡ nat_lt t b.gate.clock = le-ltb t a.gate.clock low ∙ sym (le-ltb t b.gate.clock low_too) in
        (λ i. (not (nat_eq (many i) (alike.same i).gate.labs), TableMismatch) ∷ (late i || not (is_tick t), TickOutOfRange) ∷ [])

    -- and so is all that a call reads
    same_call : {A : Type 0} (as_event : Result A Refusal → Event) (checks : Moment R T → List (Bool × Refusal)) (answer : Moment R T → A)
        (later later_too : Moment R T)
        → let granting = λ (first : List (Bool × Refusal)) (s : Moment R T). granted_unless (first ++ checks s) (answer s) in
        let x = granting (call_checks a.gate a.rows t) (passed_to row a t) in
        later.gate.clock ≤ t → ((w : A) → x ≡ Ok w → later ≡ later_too)
        → SameSteps as_event later later_too x (granting (call_checks b.gate b.rows t) (passed_to row b t))
    same_call as_event checks answer later later_too low one =
        same_steps as_event later later_too _ _ low (λ i. granted_unless (same_checks i ++ checks (alike.same i)) (answer (alike.same i))) one

  -- what a granted end leaves
  abbrev left_at_end : Moment R T → ℕ → List R → Moment R T
  left_at_end s t rows = record {
    gate = record s.gate { running = None };
    rows = option_map_or (λ i. with_told row s.rows i.lab (held_ticks t i)) s.gate.running rows;
  }

  -- a call at tick t gives alike moments one event, and leaves alike moments
  pub alike_after : (c : Call) (a b : Moment R T) → Alike row (tick_of c) a b → SameOf c a b
  alike_after (ToFile t lab declared due) a b alike =
      let left = λ (s : Moment R T). with_come s (next_ticket s.gate t lab declared due) in
      same_call alike (File t lab declared due) (λ s. drop 2 (file_checks s.gate s.rows t lab declared due)) (λ s. s.gate.given + 1)
      (left (passed_to row a t)) (left (passed_to row b t)) (omega arith) (λ w _. ap left alike.same)
  alike_after (ToWithdraw t number) a b alike =
      let left = λ (s : Moment R T). with_left s number in
      same_call alike (Withdraw t number) (λ s. drop 2 (withdraw_checks s.gate s.rows t number))
      (λ s. option_map_or (λ ticket. ticket.lab) (waiting_ticket s.gate.waiting number) 0)
      (left (passed_to row a t)) (left (passed_to row b t)) (omega arith) (λ w _. ap left alike.same)
  alike_after (ToBegin t) a b alike =
      let left = λ (s : Moment R T). record s { gate = with_begun turn s.gate (next_import row turn s.gate s.rows) } in
      let reached = passed_to row a t in
      same_call alike (Begin t) (λ s. drop 2 (begin_checks s.gate s.rows t)) (λ s. whose_turn row turn s.gate s.rows)
      (left reached) (left (passed_to row b t)) (begun_clock reached.gate (next_import row turn reached.gate reached.rows)) (λ w _. ap left alike.same)
    where
      begun_clock : (g : GateState T) (next : Option (ℕ × Ticket)) → (with_begun turn g next).clock ≤ g.clock
      begun_clock g None = omega arith
      begun_clock g (Some (k, ticket)) = omega arith
  alike_after (ToEnd t) a b alike =
      same_call alike (End t) (λ s. drop 2 (end_checks s.gate s.rows t)) (λ s. option_map_or (end_answer t) s.gate.running (0, 0, 0))
      (left_at_end (passed_to row a t) t a.rows) (left_at_end (passed_to row b t) t b.rows) (omega arith)
      (λ w ended.
      let ((table, (time, (held, rest))), same) = granted (end_checks a.gate a.rows t) (option_map_or (end_answer t) a.gate.running (0, 0, 0)) w ended in
      ap (λ s. left_at_end s t a.rows) alike.same
      ∙ ap (λ l. record { gate = record (at_tick b.gate t) { running = None }; rows = l })
      (one_where_held _ b.gate.running a.rows b.rows (sym (ap (λ s. is_none s.gate.running) alike.same) ∙ held)))
    where
      one_where_held : {A B : Type 0} (f : A → B) (o : Option A) (x y : B) → is_none o ≡ false → option_map_or f o x ≡ option_map_or f o y
      one_where_held f None x y held = absurd (let z : true ≡ false = held in true≢false z)
      one_where_held f (Some i) x y held = refl

  -- what a begin at tick t answers, and what it leaves
  pub data BeginDoes (s : Moment R T) (t : ℕ) : Result Turn Refusal → Moment R T → Type 0 where
    was_denied : (r : Refusal) → BeginDoes s t (Err r) s
    none_began : Passed (begin_checks s.gate s.rows t) → next_import row turn (at_tick s.gate t) (rested_to row s.gate s.rows t) ≡ None
        → BeginDoes s t (Ok (turn_of t None (smallest_wake row (at_tick s.gate t) (rested_to row s.gate s.rows t)))) (passed_to row s t)
    run_began : (k : ℕ) (ticket : Ticket) → Passed (begin_checks s.gate s.rows t)
        → next_import row turn (at_tick s.gate t) (rested_to row s.gate s.rows t) ≡ Some (k, ticket)
        → BeginDoes s t (Ok (Began k ticket.number ticket.length)) (with_run turn (passed_to row s t) k ticket)

  -- each begin does one of these
  pub begin_does : (s : Moment R T) (t : ℕ) → let b = begins row turn s.gate s.rows t in
      BeginDoes s t b.answer (record { gate = b.gate; rows = b.rows })
  begin_does s t =
      let g = at_tick s.gate t in
      let rows = rested_to row s.gate s.rows t in
      let next = next_import row turn g rows in
      go next (granted_unless (begin_checks s.gate s.rows t) (turn_of t next (smallest_wake row g rows))) refl refl
    where
      go : (next : Option (ℕ × Ticket)) (answer : Result Turn Refusal) → let g = at_tick s.gate t in let rows = rested_to row s.gate s.rows t in
          next_import row turn g rows ≡ next
          → granted_unless (begin_checks s.gate s.rows t) (turn_of t next (smallest_wake row g rows)) ≡ answer
          → let b = step s.gate s.rows answer (with_begun turn g next) rows in BeginDoes s t b.answer (record { gate = b.gate; rows = b.rows })
      go next (Err r) is e = was_denied r
      go None (Ok told) is e =
          let wake = smallest_wake row (at_tick s.gate t) (rested_to row s.gate s.rows t) in
          let (passed, same) = granted (begin_checks s.gate s.rows t) (turn_of t None wake) told e in
          subst (λ u. BeginDoes s t (Ok u) (passed_to row s t)) same (none_began passed is)
      go (Some (k, ticket)) (Ok told) is e =
          let (passed, same) = granted (begin_checks s.gate s.rows t) (Began k ticket.number ticket.length) told e in
          subst (λ u. BeginDoes s t (Ok u) (with_run turn (passed_to row s t) k ticket)) same (run_began k ticket passed is)

-- a begin that starts nothing leaves a moment alike to the one that it found
pub alike_idle : {R T : Type 0} {row : Meaning R} → Sentences row → (turn : Turns T) (s : Moment R T) (t : ℕ) → s.gate.clock ≤ t → t ≤ last
    → let d = does row turn (ToBegin t) s.gate s.rows in
    ((lab : ℕ) → Starts lab d.event → ⊥) → Alike row t d.left s
alike_idle {R} {T} {row} sentences turn s t low high idle = left_so (begin_does row turn s t) idle
  where
    left_so : {answer : Result Turn Refusal} {left : Moment R T} → BeginDoes row turn s t answer left
        → ((lab : ℕ) → Starts lab (Begin t answer) → ⊥) → Alike row t left s
    left_so (was_denied r) idle = alike_itself row s t low
    left_so (none_began passed next) idle = alike_passed sentences s t low high
    left_so (run_began k ticket passed next) idle = absurd (idle k (t, ticket.number, ticket.length, refl))
