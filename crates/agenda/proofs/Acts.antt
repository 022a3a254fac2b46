-- What events do is what a play does at their tick.
use Rattle.std.proofs.Common.{◌≡◌, ℕ, suc, ◌+◌, Bool, true, false, cond, ◌&&◌, ◌==◌, if◌then◌else◌, List, [], ◌∷◌, ◌++◌, map, filter, fold, slice_get, Option, Some, None, refl, sym, ap, ◌∙◌, arith}
use Rattle.std.specs.Option.{option_map_or}
use Rattle.std.proofs.lemmas.List.Elements.{filter-append}
use Rattle.std.proofs.lemmas.List.Sums.{fold-append}
use Rattle.budget.specs.Meaning.{Meaning}
use Rattle.turns.specs.Turns.{Turns}
use Rattle.history.specs.Histories.{Call, ToEnd}
use Rattle.history.specs.declared.import.Import.{Import}
use Rattle.plan.specs.Plans.{Lists}
use Rattle.course.specs.Asking.{tick_of, filing_call, withdrawal_call, filings_line, withdrawals_line, on_lines, asked_at}
use Rattle.course.specs.Printing.{ended}
use Rattle.course.specs.Course.{Stage, ends_at, called, ask, end_due}
use Rattle.agenda.specs.Events.{events_from, plan_events, end_at}
use Rattle.agenda.specs.Happening.{happens, happen}
use Rattle.agenda.specs.declared.event.Event.{Event}
use Rattle.agenda.specs.declared.event.Kind.{Kind}
use Rattle.agenda.specs.declared.event.Kind.TheVariants.{End, Withdrawal, Filing, Begin}

-- events of this kind do something by themselves
abbrev pub does_act : Kind → Bool
does_act End = true
does_act Withdrawal = true
does_act Filing = true
does_act Begin = false

-- the events of tick t that do
unfoldable pub acts_at : ℕ → List Event → List Event
acts_at t es = filter (λ e. does_act e.kind && e.tick == t) es

-- the end that tick t has, where the import that runs is to end then
unfoldable pub ends : ℕ → Option Import → List Event
ends t running = option_map_or (λ i. if ends_at t i then end_at t ∷ [] else []) running []

-- where one step by f is one by g, and so are those that follow, both ways to go on are alike
alike : {S A B : Type 0} (f : S → A → S) (g : S → B → S) (b : Bool) (x : A) (y : B) (xs : List A) (ys : List B) (s : S) → f s x ≡ g s y
    → ((r : S) → fold f r xs ≡ fold g r ys) → fold f s (cond b (x ∷ xs) xs) ≡ fold g s (cond b (y ∷ ys) ys)
alike f g true x y xs ys s one rest = rest (f s x) ∙ ap (λ r. fold g r ys) one
alike f g false x y xs ys s one rest = rest s

module _ {R T : Type 0} (row : Meaning R) (turn : Turns T) (p : Lists) where
  -- the end that is due happens
  end_happens : (t : ℕ) (s : Stage R T) (running : Option Import) → s.moment.gate.running ≡ running
      → fold (happens row turn p) s (ends t running) ≡ option_map_or (λ i. if ends_at t i then called row turn (ended i.lab) (ToEnd t) s else s) running s
  unfolding ends
  end_happens t s None is = refl
  end_happens t s (Some i) is = go (ends_at t i) where
    go : (b : Bool) → fold (happens row turn p) s (cond b (end_at t ∷ []) []) ≡ cond b (called row turn (ended i.lab) (ToEnd t) s) s
    go true = ap (λ r. option_map_or (λ j. called row turn (ended j.lab) (ToEnd t) s) r s) is
    go false = refl

  module _ {X : Type 0} (kind : Kind) (tick : X → ℕ) (call : X → Call) (line : ℕ) (xs : List X) (t : ℕ)
      (acts : does_act kind ≡ true) (timely : (x : X) → tick_of (call x) ≡ tick x)
      (asks : (s : Stage R T) (i : ℕ) (x : X) → slice_get xs i ≡ Some x
      → happens row turn p s (record { tick = tick x; kind = kind; place = i }) ≡ ask row turn s (record { line = line + i; call = call x })) where
    -- the events of a section from place i on are what it asks for there
    section_happens : (i : ℕ) (rest : List X) (s : Stage R T) → ((k : ℕ) → slice_get xs (i + k) ≡ slice_get rest k)
        → fold (happens row turn p) s (acts_at t (events_from kind i (map tick rest)))
        ≡ fold (ask row turn) s (filter (λ a. tick_of a.call == t) (on_lines (line + i) (map call rest)))
    unfolding acts_at
    section_happens i [] s there = refl
    section_happens i (x ∷ rest) s there =
        let here : slice_get xs i ≡ Some x = ap (slice_get xs) (omega arith) ∙ there 0 in
        let passes : (does_act kind && tick x == t) ≡ (tick_of (call x) == t) = rw (acts, timely x) refl in
        let on : line + suc i ≡ suc (line + i) = omega arith in
        rw passes (alike (happens row turn p) (ask row turn) (tick_of (call x) == t) _ _ _ _ s (asks s i x here)
        (λ r. section_happens (suc i) rest r (λ k. let far : suc i + k ≡ i + suc k = omega arith in ap (slice_get xs) far ∙ there (suc k))
        ∙ ap (λ l. fold (ask row turn) r (filter (λ a. tick_of a.call == t) (on_lines l (map call rest)))) on))

    -- all events of a section are all that it asks for
    whole_section : (s : Stage R T) → fold (happens row turn p) s (acts_at t (events_from kind 0 (map tick xs)))
        ≡ fold (ask row turn) s (filter (λ a. tick_of a.call == t) (on_lines line (map call xs)))
    whole_section s =
        let from : line + 0 ≡ line = omega arith in
        section_happens 0 xs s (λ k. let far : 0 + k ≡ k = omega arith in ap (slice_get xs) far)
        ∙ ap (λ l. fold (ask row turn) s (filter (λ a. tick_of a.call == t) (on_lines l (map call xs)))) from

  -- what the plan's events of tick t do is what it asks for then
  plan_happens : (t : ℕ) (s : Stage R T) → fold (happens row turn p) s (acts_at t (plan_events p)) ≡ fold (ask row turn) s (asked_at p t)
  unfolding acts_at asked_at
  plan_happens t s =
      let es = events_from Withdrawal 0 (map (λ w. w.tick) p.withdrawals) in
      let fs = events_from Filing 0 (map (λ f. f.tick) p.filings) in
      let to_withdraw = on_lines (withdrawals_line p) (map withdrawal_call p.withdrawals) in
      let to_file = on_lines (filings_line p) (map filing_call p.filings) in
      let withdrawn = whole_section Withdrawal (λ w. w.tick) withdrawal_call (withdrawals_line p) p.withdrawals t refl (λ w. refl)
      (λ r i w there. ap (λ o. option_map_or (λ v. ask row turn r (record { line = withdrawals_line p + i; call = withdrawal_call v })) o r) there) s in
      let filed = whole_section Filing (λ f. f.tick) filing_call (filings_line p) p.filings t refl (λ f. refl)
      (λ r i f there. ap (λ o. option_map_or (λ v. ask row turn r (record { line = filings_line p + i; call = filing_call v })) o r) there) in
      ap (fold (happens row turn p) s) (filter-append (λ e. does_act e.kind && e.tick == t) es fs)
      ∙ fold-append (happens row turn p) s (acts_at t es) (acts_at t fs)
      ∙ ap (λ r. fold (happens row turn p) r (acts_at t fs)) withdrawn
      ∙ filed _
      ∙ sym (fold-append (ask row turn) s (filter (λ a. tick_of a.call == t) to_withdraw) (filter (λ a. tick_of a.call == t) to_file))
      ∙ ap (fold (ask row turn) s) (sym (filter-append (λ a. tick_of a.call == t) to_withdraw to_file))

  -- the end that is due and what the plan's events do at tick t are all that happens before a begin
  pub bridge : (t : ℕ) (s : Stage R T) → happen row turn p s (ends t s.moment.gate.running ++ acts_at t (plan_events p))
      ≡ fold (ask row turn) (end_due row turn t s) (asked_at p t)
  unfolding happen
  bridge t s =
      fold-append (happens row turn p) s (ends t s.moment.gate.running) (acts_at t (plan_events p))
      ∙ ap (λ r. fold (happens row turn p) r (acts_at t (plan_events p))) (end_happens t s s.moment.gate.running refl)
      ∙ plan_happens t (end_due row turn t s)
