-- Ticks at which nothing happens may be left out.
use Rattle.std.proofs.Common.{◌≡◌, ℕ, zero, suc, ◌+◌, ◌-◌, ◌<◌, ◌≤◌, ◌==◌, if◌then◌else◌, Bool, List, [], ◌∷◌, ◌++◌, fold, filter, map, Result, Option, Some, None, refl, sym, ap, subst, ◌∙◌, arith, ⊎_elim}
use Rattle.std.specs.Option.{option_map_or}
use Rattle.std.proofs.lemmas.Bool.{cases_Bool, eqb-true}
use Rattle.std.proofs.lemmas.List.Elements.{filter-append}
use Rattle.std.proofs.lemmas.List.Sums.{fold-append}
use Rattle.measures.specs.Limits.{last}
use Rattle.measures.specs.declared.refusal.Refusal.{Refusal}
use Rattle.budget.specs.Meaning.{Meaning, Sentences}
use Rattle.turns.specs.Turns.{Turns}
use Rattle.history.specs.declared.import.Import.{Import}
use Rattle.history.specs.Gates.{GateState, Moment, rested_to}
use Rattle.history.specs.Standing.{next_import}
use Rattle.waiting.specs.declared.ticket.Ticket.{Ticket}
use Rattle.history.specs.Calls.{step, with_begun}
use Rattle.history.specs.Histories.{Call, ToFile, ToWithdraw, ToBegin, ToEnd, Event, does}
use Rattle.history.specs.Guaranteed.{Starts}
use Rattle.plan.specs.Plans.{Lists}
use Rattle.course.specs.Asking.{Asked, tick_of, filing_call, withdrawal_call, filings_line, withdrawals_line, on_lines, asked, asked_at}
use Rattle.course.specs.Printing.{ended, refused}
use Rattle.course.specs.Course.{Stage, ends_at, called, ask, end_due, begun, tick_passed, ticks, printed_from}
use Rattle.course.proofs.Kept.{step_keeps, asked_keeps, tick_keeps}
use Rattle.course.proofs.Later.{Alike, alike_itself, alike_later, alike_after, alike_idle}

module _ {R T : Type 0} (row : Meaning R) (turn : Turns T) where
  -- no begin at tick u starts an import
  abbrev pub CannotBegin : Stage R T → ℕ → Type 0
  CannotBegin s u = (lab : ℕ) → Starts lab (does row turn (ToBegin u) s.moment.gate s.moment.rows).event → ⊥

  -- nothing happens at tick t: before its begin the stage stays as it is, and no begin starts an import
  pub record Quiet (p : Lists) (t : ℕ) (s : Stage R T) : Type 0 where
    pub still : fold (ask row turn) (end_due row turn t s) (asked_at p t) ≡ s
    pub cannot_begin : CannotBegin s t

  -- two stages that nothing at tick t or later can tell apart
  record AlikeStages (t : ℕ) (a b : Stage R T) : Type 0 where
    moment : Alike row t a.moment b.moment
    printed : a.printed ≡ b.printed

  stage_itself : (s : Stage R T) (t : ℕ) → s.moment.gate.clock ≤ t → AlikeStages t s s
  stage_itself s t low = record { moment = alike_itself row s.moment t low; printed = refl }

  -- they stay so after a call
  called_alike : (printing : Event → List ℕ) (c : Call) {a b : Stage R T} → AlikeStages (tick_of c) a b
      → AlikeStages (tick_of c) (called row turn printing c a) (called row turn printing c b)
  called_alike printing c {a} {b} alike =
      let (same, left) = alike_after row turn c a.moment b.moment alike.moment in
      record { moment = left; printed = (λ i. alike.printed i ++ printing (same i)) }

  -- a stage once the import i, which holds the lock, has ended if it is to end at tick t
  abbrev end_of : ℕ → Stage R T → Import → Stage R T
  end_of t s i = if ends_at t i then called row turn (ended i.lab) (ToEnd t) s else s

  end_alike : (t : ℕ) (a b : Stage R T) → AlikeStages t a b → AlikeStages t (end_due row turn t a) (end_due row turn t b)
  end_alike t a b alike =
      let one = ap (λ s. s.gate.running) alike.moment.same in
      subst (λ o. AlikeStages t (end_due row turn t a) (option_map_or (end_of t b) o b)) one (held a.moment.gate.running)
    where
      held : (o : Option Import) → AlikeStages t (option_map_or (end_of t a) o a) (option_map_or (end_of t b) o b)
      held None = alike
      held (Some i) =
          ⊎_elim (λ yes. rw yes (called_alike (ended i.lab) (ToEnd t) alike)) (λ no. rw no alike) (cases_Bool (ends_at t i))

  asks_alike : (t : ℕ) (asks : List Asked) (a b : Stage R T) → AlikeStages t a b → let here = filter (λ (x : Asked). tick_of x.call == t) asks in
      AlikeStages t (fold (ask row turn) a here) (fold (ask row turn) b here)
  asks_alike t [] a b alike = alike
  asks_alike t (x ∷ asks) a b alike =
      ⊎_elim
      (λ yes.
      let at = eqb-true (tick_of x.call) t yes in
      let next : AlikeStages t (ask row turn a x) (ask row turn b x)
      = subst (λ u. AlikeStages u (ask row turn a x) (ask row turn b x)) at
      (called_alike (refused x.line) x.call (subst (λ u. AlikeStages u a b) (sym at) alike)) in
      rw yes (asks_alike t asks (ask row turn a x) (ask row turn b x) next))
      (λ no. rw no (asks_alike t asks a b alike))
      (cases_Bool (tick_of x.call == t))

  tick_alike : (p : Lists) (t : ℕ) (a b : Stage R T) → AlikeStages t a b → AlikeStages t (tick_passed row turn p t a) (tick_passed row turn p t b)
  unfolding asked_at
  tick_alike p t a b alike =
      let before = asks_alike t (asked p) (end_due row turn t a) (end_due row turn t b) (end_alike t a b alike) in
      let (same, left) = alike_after row turn (ToBegin t) _ _ before.moment in
      record { moment = left; printed = before.printed }

  -- a tick passes
  pub passed : (p : Lists) (s : Stage R T) (t : ℕ) → t ≤ last
      → printed_from row turn p t s ≡ printed_from row turn p (suc t) (tick_passed row turn p t s)
  unfolding ticks
  passed p s t low =
      let left : last + 1 - t ≡ suc (last + 1 - suc t) = omega arith in
      ap (λ n. (ticks row turn p t n s).printed) left

  -- all ticks have passed
  pub all_passed : (p : Lists) (s : Stage R T) → printed_from row turn p (last + 1) s ≡ s.printed
  unfolding ticks
  all_passed p s = refl

  -- the clock is not above a tick that has passed
  pub clock_within : (p : Lists) (s : Stage R T) (t : ℕ) → s.moment.gate.clock ≤ t → (tick_passed row turn p t s).moment.gate.clock ≤ t
  clock_within p s t low = (tick_alike p t s s (stage_itself s t low)).moment.reached

  -- nor is it after what the plan asks for at this tick
  pub clock_asked : (p : Lists) (s : Stage R T) (t : ℕ) → s.moment.gate.clock ≤ t
      → (fold (ask row turn) (end_due row turn t s) (asked_at p t)).moment.gate.clock ≤ t
  unfolding asked_at
  clock_asked p s t low =
      let ended_first = end_due row turn t s in
      (asks_alike t (asked p) ended_first ended_first (end_alike t s s (stage_itself s t low))).moment.reached

module _ {R T : Type 0} {row : Meaning R} (sentences : Sentences row) (turn : Turns T) where
  stages_later : (t u : ℕ) (a b : Stage R T) → AlikeStages row turn t a b → t ≤ u → u ≤ last → AlikeStages row turn u a b
  stages_later t u a b alike later high = record { moment = alike_later sentences t u alike.moment later high; printed = alike.printed }

  ticks_alike : (p : Lists) (n v t : ℕ) (a b : Stage R T) → AlikeStages row turn v a b → v ≤ t → t + n ≤ last + 1
      → (ticks row turn p t n a).printed ≡ (ticks row turn p t n b).printed
  unfolding ticks
  ticks_alike p zero v t a b alike later high = alike.printed
  ticks_alike p (suc n) v t a b alike later high =
      ticks_alike p n t (suc t) (tick_passed row turn p t a) (tick_passed row turn p t b)
      (tick_alike row turn p t a b (stages_later v t a b alike later (omega arith))) (omega arith) (omega arith)

  -- a quiet tick may be left out
  skipped_one : (p : Lists) (s : Stage R T) (t : ℕ) → s.moment.gate.clock ≤ t → t ≤ last → Quiet row turn p t s
      → printed_from row turn p t s ≡ printed_from row turn p (suc t) s
  skipped_one p s t low high quiet =
      let idle : AlikeStages row turn t (begun row turn t s) s
      = record { moment = alike_idle sentences turn s.moment t low high quiet.cannot_begin; printed = refl } in
      passed row turn p s t high
      ∙ ap (λ v. printed_from row turn p (suc t) (begun row turn t v)) quiet.still
      ∙ ticks_alike p (last + 1 - suc t) t (suc t) (begun row turn t s) s idle (omega arith) (omega arith)

  skipped_some : (p : Lists) (s : Stage R T) (n t u : ℕ) → n + t ≡ u → s.moment.gate.clock ≤ t → u ≤ last + 1
      → ((v : ℕ) → t ≤ v → v < u → Quiet row turn p v s) → printed_from row turn p t s ≡ printed_from row turn p u s
  skipped_some p s zero t u at low high quiet = let same : t ≡ u = omega (arith, at) in ap (λ v. printed_from row turn p v s) same
  skipped_some p s (suc n) t u at low high quiet =
      skipped_one p s t low (omega arith) (quiet t (omega arith) (omega arith))
      ∙ skipped_some p s n (suc t) u (omega arith) (omega arith) high (λ v from below. quiet v (omega arith) below)

  -- ticks at which nothing happens may be left out
  pub skipped : (p : Lists) (s : Stage R T) (t u : ℕ) → s.moment.gate.clock ≤ t → t ≤ u → u ≤ last + 1
      → ((v : ℕ) → t ≤ v → v < u → Quiet row turn p v s) → printed_from row turn p t s ≡ printed_from row turn p u s
  skipped p s t u low later high quiet = skipped_some p s (u - t) t u (omega arith) low high quiet

module _ {R T : Type 0} (row : Meaning R) (turn : Turns T) where
  -- the import that holds the lock
  abbrev running_of : Stage R T → Option Import
  running_of s = s.moment.gate.running

  running_kept : {A : Type 0} (g left : GateState T) (rows left_rows : List R) (answer : Result A Refusal)
      → left.running ≡ g.running → (step g rows answer left left_rows).gate.running ≡ g.running
  running_kept g left rows left_rows answer same = step_keeps (λ h. h.running ≡ g.running) g left rows left_rows answer refl (λ a granted. same)

  asks_running : {X : Type 0} (call : X → Call) (test : Asked → Bool)
      → ((x : X) (line : ℕ) (s : Stage R T) → running_of (ask row turn s (record { line = line; call = call x })) ≡ running_of s)
      → (line : ℕ) (xs : List X) (s : Stage R T) → running_of (fold (ask row turn) s (filter test (on_lines line (map call xs)))) ≡ running_of s
  asks_running call test each line [] s = refl
  asks_running call test each line (x ∷ xs) s =
      let a : Asked = record { line = line; call = call x } in
      ⊎_elim
      (λ yes. rw yes (asks_running call test each (suc line) xs (ask row turn s a) ∙ each x line s))
      (λ no. rw no (asks_running call test each (suc line) xs s))
      (cases_Bool (test a))

  -- what a plan asks for does not change which import runs
  pub asked_running : (p : Lists) (s : Stage R T) (t : ℕ) → (fold (ask row turn) s (asked_at p t)).moment.gate.running ≡ s.moment.gate.running
  unfolding asked_at
  asked_running p s t =
      let here = λ (x : Asked). tick_of x.call == t in
      let first = on_lines (withdrawals_line p) (map withdrawal_call p.withdrawals) in
      let second = on_lines (filings_line p) (map filing_call p.filings) in
      let between = fold (ask row turn) s (filter here first) in
      ap (λ l. running_of (fold (ask row turn) s l)) (filter-append here first second)
      ∙ ap running_of (fold-append (ask row turn) s (filter here first) (filter here second))
      ∙ asks_running filing_call here (λ f line a. running_kept _ _ _ _ _ refl) (filings_line p) p.filings between
      ∙ asks_running withdrawal_call here (λ w line a. running_kept _ _ _ _ _ refl) (withdrawals_line p) p.withdrawals s

  begun_labs : (g : GateState T) (next : Option (ℕ × Ticket)) → (with_begun turn g next).labs ≡ g.labs
  begun_labs g None = refl
  begun_labs g (Some (k, ticket)) = refl

  call_labs : (n : ℕ) (c : Call) (m : Moment R T) → m.gate.labs ≡ n → (does row turn c m.gate m.rows).left.gate.labs ≡ n
  call_labs n (ToFile t lab declared due) m are = step_keeps (λ g. g.labs ≡ n) _ _ _ _ _ are (λ a granted. are)
  call_labs n (ToWithdraw t number) m are = step_keeps (λ g. g.labs ≡ n) _ _ _ _ _ are (λ a granted. are)
  call_labs n (ToBegin t) m are =
      let g = record m.gate { clock = t } in
      let next = next_import row turn g (rested_to row m.gate m.rows t) in
      step_keeps (λ h. h.labs ≡ n) m.gate (with_begun turn g next) _ _ _ are (λ a granted. begun_labs g next ∙ are)
  call_labs n (ToEnd t) m are = step_keeps (λ g. g.labs ≡ n) _ _ _ _ _ are (λ a granted. are)

  -- the labs stay as many, before the begin of a tick and after it
  pub labs_asked : (p : Lists) (s : Stage R T) (t : ℕ) → (fold (ask row turn) (end_due row turn t s) (asked_at p t)).moment.gate.labs ≡ s.moment.gate.labs
  labs_asked p s t = asked_keeps row turn (λ g. g.labs ≡ s.moment.gate.labs) (call_labs s.moment.gate.labs) p s t refl

  pub labs_kept : (p : Lists) (s : Stage R T) (t : ℕ) → (tick_passed row turn p t s).moment.gate.labs ≡ s.moment.gate.labs
  labs_kept p s t = tick_keeps row turn (λ g. g.labs ≡ s.moment.gate.labs) (call_labs s.moment.gate.labs) p s t refl
