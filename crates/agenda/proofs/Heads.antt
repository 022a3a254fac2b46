-- The events at the head of a list that are at one tick, and those behind them.
use Rattle.std.proofs.Common.{◌≡◌, ℕ, zero, suc, ◌+◌, ◌<◌, ◌≤◌, false, cond, ◌&&◌, ◌==◌, List, [], ◌∷◌, fold, length, slice_index_or, All, Contains, refl, sym, ap, ◌∙◌, arith, ⊎_elim}
use Rattle.std.proofs.lemmas.Bool.{cases_Bool, eqb-true}
use Rattle.std.proofs.lemmas.List.Elements.{All-nil, All-cons, All-head, All-tail, All-weaker}
use Rattle.budget.specs.Meaning.{Meaning}
use Rattle.turns.specs.Turns.{Turns}
use Rattle.plan.specs.Plans.{Lists}
use Rattle.course.specs.Course.{Stage}
use Rattle.agenda.specs.Events.{head_at, after_head}
use Rattle.agenda.specs.Happening.{happens_as, happens, happen}
use Rattle.agenda.specs.declared.event.Event.{Event}
use Rattle.agenda.specs.declared.event.Kind.{Kind}
use Rattle.agenda.specs.declared.event.Kind.TheVariants.{End, Withdrawal, Filing, Begin}
use Rattle.agenda.proofs.Acts.{does_act, acts_at}
use Rattle.agenda.proofs.Ascending.{Ascend, later_ticks}

-- what is true of all events is true of those behind the head
pub after_keeps : (P : Event → Type 0) (t : ℕ) (es : List Event) → All P es → All P (after_head t es)
unfolding after_head
after_keeps P t [] all = all
after_keeps P t (e ∷ es) all =
    ⊎_elim (λ yes. rw yes (after_keeps P t es (All-tail P e es all))) (λ no. rw no all) (cases_Bool (e.tick == t))

-- those behind the head ascend, where all do
pub after_ascends : (t : ℕ) (es : List Event) → Ascend es → Ascend (after_head t es)
unfolding after_head
after_ascends t [] up = tt
after_ascends t (e ∷ es) up = ⊎_elim (λ yes. rw yes (after_ascends t es up.1)) (λ no. rw no up) (cases_Bool (e.tick == t))

-- where the first does not come before tick t, and is not at it, all come later
all_later : (t : ℕ) (e : Event) (es : List Event) → Ascend (e ∷ es) → t ≤ e.tick → e.tick == t ≡ false → All (λ x. t + 1 ≤ x.tick) (e ∷ es)
all_later t e es up low other =
    let later : t + 1 ≤ e.tick = grind (arith, low, other) in
    All-cons (λ x. t + 1 ≤ x.tick) e es later
    (All-weaker (λ x. e.tick ≤ x.tick) (λ x. t + 1 ≤ x.tick) (λ x more. omega (arith, later, more)) es (later_ticks e es up))

-- where none comes before tick t, all behind its events come later
pub after_later : (t : ℕ) (es : List Event) → Ascend es → All (λ e. t ≤ e.tick) es → All (λ e. t + 1 ≤ e.tick) (after_head t es)
unfolding after_head
after_later t [] up low = All-nil _
after_later t (e ∷ es) up low =
    ⊎_elim
    (λ yes. rw yes (after_later t es up.1 (All-tail (λ x. t ≤ x.tick) e es low)))
    (λ no. rw no (all_later t e es up (All-head (λ x. t ≤ x.tick) e es low) no))
    (cases_Bool (e.tick == t))

-- events of later ticks are all behind the head
pub after_acts : (t u : ℕ) (es : List Event) → t < u → acts_at u (after_head t es) ≡ acts_at u es
unfolding after_head acts_at
after_acts t u [] later = refl
after_acts t u (e ∷ es) later =
    ⊎_elim
    (λ yes.
    let is = eqb-true e.tick t yes in
    let passes_not : (does_act e.kind && e.tick == u) ≡ false = grind (arith, is, later) in
    rw (yes, passes_not) (after_acts t u es later))
    (λ no. rw no refl)
    (cases_Bool (e.tick == t))

-- another event than the first is behind it
behind : (e : Event) (es : List Event) (x : Event) (k : ℕ) → k < length (e ∷ es) → slice_index_or (e ∷ es) k x ≡ x → (e ≡ x → ⊥) → Contains es x
behind e es x zero low is other = absurd (other is)
behind e es x (suc k) low is other = (k, omega (arith, low), is)

-- an event of a later tick is behind the head
pub after_there : (t : ℕ) (es : List Event) (x : Event) → Contains es x → t < x.tick → Contains (after_head t es) x
unfolding after_head
after_there t [] x there later = there
after_there t (e ∷ es) x there later =
    ⊎_elim
    (λ yes.
    let is : e.tick ≡ t = eqb-true e.tick t yes in
    let other : e ≡ x → ⊥ = λ same. let tick = ap (λ y. y.tick) same in omega (arith, is, tick, later) in
    rw yes (after_there t es x (behind e es x there.0 there.1 there.2 other) later))
    (λ no. rw no there)
    (cases_Bool (e.tick == t))

-- where all come later, none is at tick t
pub none_at : (t : ℕ) (es : List Event) → All (λ e. t + 1 ≤ e.tick) es → acts_at t es ≡ []
unfolding acts_at
none_at t [] later = refl
none_at t (e ∷ es) later =
    let first = All-head (λ x. t + 1 ≤ x.tick) e es later in
    let passes_not : (does_act e.kind && e.tick == t) ≡ false = grind (arith, first) in
    rw passes_not (none_at t es (All-tail (λ x. t + 1 ≤ x.tick) e es later))

module _ {R T : Type 0} (row : Meaning R) (turn : Turns T) (p : Lists) where
  -- an event that does nothing may be left out
  left_out : (s : Stage R T) (e : Event) (es : List Event) (kind : Kind) → e.kind ≡ kind
      → fold (happens row turn p) (happens_as row turn kind p s e) es ≡ fold (happens row turn p) s (cond (does_act kind) (e ∷ es) es)
  left_out s e es End is = ap (λ k. fold (happens row turn p) (happens_as row turn k p s e) es) (sym is)
  left_out s e es Withdrawal is = ap (λ k. fold (happens row turn p) (happens_as row turn k p s e) es) (sym is)
  left_out s e es Filing is = ap (λ k. fold (happens row turn p) (happens_as row turn k p s e) es) (sym is)
  left_out s e es Begin is = refl

  -- where none comes before tick t, the events at the head do what the events of tick t do
  pub head_acts : (s : Stage R T) (t : ℕ) (es : List Event) → Ascend es → All (λ e. t ≤ e.tick) es
      → happen row turn p s (head_at t es) ≡ happen row turn p s (acts_at t es)
  unfolding happen head_at acts_at
  head_acts s t [] up low = refl
  head_acts s t (e ∷ es) up low =
      ⊎_elim
      (λ yes.
      let passes : (does_act e.kind && e.tick == t) ≡ does_act e.kind = grind (arith, yes) in
      let heads : head_at t (e ∷ es) ≡ e ∷ head_at t es = rw yes refl in
      let acts : acts_at t (e ∷ es) ≡ cond (does_act e.kind) (e ∷ acts_at t es) (acts_at t es) = rw passes refl in
      ap (fold (happens row turn p) s) heads
      ∙ head_acts (happens row turn p s e) t es up.1 (All-tail (λ x. t ≤ x.tick) e es low)
      ∙ left_out s e (acts_at t es) e.kind refl
      ∙ ap (fold (happens row turn p) s) (sym acts))
      (λ no.
      let none = none_at t (e ∷ es) (all_later t e es up (All-head (λ x. t ≤ x.tick) e es low) no) in
      let heads : head_at t (e ∷ es) ≡ [] = rw no refl in
      ap (fold (happens row turn p) s) (heads ∙ sym none))
      (cases_Bool (e.tick == t))
