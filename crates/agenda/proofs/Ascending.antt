-- Events in their order.
use Rattle.std.proofs.Common.{◌≡◌, ℕ, suc, ◌+◌, ◌≤◌, true, false, ◌&&◌, ◌==◌, List, [], ◌∷◌, ◌++◌, map, All, Contains, IsPermutation, refl, sym, ap, subst, ◌∙◌, arith, ⊎_elim}
use Rattle.std.specs.List.Sorted.{IsSortedBy}
use Rattle.std.proofs.lemmas.Bool.{cases_Bool, ne_eqb, eq-eqb, eqb-true, and_parts}
use Rattle.std.proofs.lemmas.List.Elements.{All-nil, All-cons, All-head, All-tail, All-append, All-weaker, All-filter, filter_passes, filter-append}
use Rattle.std.proofs.lemmas.List.Sorted.{All-permutation, Contains-permutation, sorted_far}
use Rattle.earliest.specs.Order.{NoneBefore}
use Rattle.earliest.specs.Numbers.{first_by}
use Rattle.earliest.specs.Sorted.{inserted, sorted}
use Rattle.earliest.proofs.InOrder.{inserted_same, sorted_same, sorted_ascends, sorted_permutation, in_front_of_all}
use Rattle.earliest.proofs.Weak.{weak}
use Rattle.history.proofs.Lists.{filter-permutation}
use Rattle.plan.specs.Plans.{Lists}
use Rattle.agenda.specs.Events.{event_before, event_order, rank_of, events_from, plan_events, first_events, begin_at, end_at}
use Rattle.agenda.specs.declared.event.Event.{Event}
use Rattle.agenda.specs.declared.event.Kind.{Kind}
use Rattle.agenda.specs.declared.event.Kind.TheVariants.{Withdrawal, Filing}
use Rattle.agenda.proofs.Acts.{does_act, acts_at}

-- no later event is before an earlier one
abbrev pub Ascend : List Event → Type 0
Ascend [] = Unit {0}
Ascend (e ∷ es) = NoneBefore event_before e es × Ascend es

ascending : (es : List Event) → IsSortedBy event_before es → Ascend es
ascending [] up = tt
ascending (e ∷ es) up =
    let far = sorted_far event_before (weak event_order) (e ∷ es) up in (
      λ k d short. far 0 (suc k) d (omega arith) (omega (arith, short)),
      ascending es (λ k d low high. far (suc k) (suc (k + 1)) d (omega arith) (omega (arith, high))),
    )

-- the sorted list of events ascends
pub ascends : (es : List Event) → Ascend (sorted event_before es)
ascends es = ascending _ (sorted_ascends event_before event_order es)

-- where events ascend they are their sorted list
in_order : (es : List Event) → Ascend es → sorted event_before es ≡ es
unfolding sorted
in_order [] up = refl
in_order (e ∷ es) up = ap (inserted event_before e) (in_order es up.1) ∙ in_front_of_all event_before event_order e es up.0

-- the same events, each as often, ascend in one way only
same_events : (es fs : List Event) → Ascend es → Ascend fs → IsPermutation es fs → es ≡ fs
same_events es fs e_up f_up same = sym (in_order es e_up) ∙ sorted_permutation event_before event_order es fs same ∙ in_order fs f_up

-- events that ascend still do with one put in
pub inserted_ascends : (e : Event) (es : List Event) → Ascend es → Ascend (inserted event_before e es)
unfolding sorted
inserted_ascends e es up = subst (λ l. Ascend (inserted event_before e l)) (in_order es up) (ascends (e ∷ es))

acts_ascend : (t : ℕ) (es : List Event) → Ascend es → Ascend (acts_at t es)
unfolding acts_at
acts_ascend t [] up = tt
acts_ascend t (e ∷ es) up =
    let rest = acts_ascend t es up.1 in
    let none = All-filter (λ f. does_act f.kind && f.tick == t) (λ f. event_before f e ≡ false) es up.0 in
    ⊎_elim (λ yes. rw yes (none, rest)) (λ no. rw no rest) (cases_Bool (does_act e.kind && e.tick == t))

-- one list's events of tick t are another's, if these have the same events, each as often, and both ascend
same_acts : (t : ℕ) (es fs : List Event) → Ascend (acts_at t es) → Ascend fs → IsPermutation es fs → acts_at t fs ≡ acts_at t es
unfolding acts_at
same_acts t es fs up f_up same =
    sym (same_events _ _ up (acts_ascend t fs f_up) (filter-permutation (λ e. does_act e.kind && e.tick == t) es fs same))

-- a begin that is put in does nothing
pub begin_put : (t u : ℕ) (es : List Event) → Ascend es → acts_at t (inserted event_before (begin_at u) es) ≡ acts_at t es
unfolding acts_at
begin_put t u es up =
    same_acts t (begin_at u ∷ es) _ (acts_ascend t es up) (inserted_ascends (begin_at u) es up) (inserted_same event_before (begin_at u) es)

-- an end that is put in is not of another tick
pub end_put_other : (t u : ℕ) (es : List Event) → Ascend es → (t ≡ u → ⊥) → acts_at t (inserted event_before (end_at u) es) ≡ acts_at t es
unfolding acts_at
end_put_other t u es up other =
    let passes_not : (u == t) ≡ false = ne_eqb u t (λ same. other (sym same)) in
    let same : acts_at t (end_at u ∷ es) ≡ acts_at t es = rw passes_not refl in
    same_acts t (end_at u ∷ es) _ (subst Ascend (sym same) (acts_ascend t es up)) (inserted_ascends (end_at u) es up)
    (inserted_same event_before (end_at u) es)
    ∙ same

-- no event is before an end of its tick
end_first : (u : ℕ) (e : Event) → e.tick ≡ u → event_before e (end_at u) ≡ false
unfolding event_before first_by
end_first u e same = grind (arith, same)

-- the events of tick t are of that tick
of_tick : (t : ℕ) (es : List Event) → All (λ e. e.tick ≡ t) (acts_at t es)
unfolding acts_at
of_tick t es =
    All-weaker (λ e. (does_act e.kind && e.tick == t) ≡ true) (λ e. e.tick ≡ t)
    (λ e passes. eqb-true e.tick t (and_parts (does_act e.kind) (e.tick == t) passes).1)
    _ (filter_passes (λ e. does_act e.kind && e.tick == t) es)

-- an end that is put in comes first at its tick
pub end_put : (u : ℕ) (es acts : List Event) → Ascend es → acts_at u es ≡ acts → acts_at u (inserted event_before (end_at u) es) ≡ end_at u ∷ acts
unfolding acts_at
end_put u es acts up are =
    let passes : (u == u) ≡ true = eq-eqb u u refl in
    let first : acts_at u (end_at u ∷ es) ≡ end_at u ∷ acts_at u es = rw passes refl in
    let none = All-weaker (λ e. e.tick ≡ u) (λ e. event_before e (end_at u) ≡ false) (end_first u) _ (of_tick u es) in
    let whole : Ascend (end_at u ∷ acts_at u es) = (none, acts_ascend u es up) in
    same_acts u (end_at u ∷ es) _ (subst Ascend (sym first) whole) (inserted_ascends (end_at u) es up) (inserted_same event_before (end_at u) es)
    ∙ first ∙ ap (λ l. end_at u ∷ l) are

-- an event of tick t and of this kind, in place i or later
abbrev IsFrom : ℕ → Kind → ℕ → Event → Type 0
IsFrom t kind i e = (e.tick ≡ t) × (e.kind ≡ kind) × (i ≤ e.place)

-- an event in a later place of a section is not before one of its tick
later_place : (t : ℕ) (kind : Kind) (i u : ℕ) (e : Event) → u ≡ t → IsFrom t kind (suc i) e
    → event_before e (record { tick = u; kind = kind; place = i }) ≡ false
unfolding event_before first_by
later_place t kind i u e is from = let rank = ap rank_of from.1 in grind (arith, is, rank, from.0, from.2)

-- a filing is not before a withdrawal of its tick
withdrawal_first : (t i j : ℕ) (e f : Event) → IsFrom t Withdrawal i e → IsFrom t Filing j f → event_before f e ≡ false
unfolding event_before first_by
withdrawal_first t i j e f withdrawn filed =
    let one : rank_of e.kind ≡ 1 = ap rank_of withdrawn.1 in
    let other : rank_of f.kind ≡ 2 = ap rank_of filed.1 in
    grind (arith, withdrawn.0, filed.0, one, other)

module _ (t : ℕ) (kind : Kind) where
  -- the events of tick t in a section from place i on
  of_section : (i : ℕ) (ts : List ℕ) → All (IsFrom t kind i) (acts_at t (events_from kind i ts))
  unfolding acts_at
  of_section i [] = All-nil _
  of_section i (u ∷ ts) =
      let rest = All-weaker (IsFrom t kind (suc i)) (IsFrom t kind i) (λ e from. (from.0, from.1, omega (arith, from.2))) _ (of_section (suc i) ts) in
      ⊎_elim
      (λ yes.
      let is : u ≡ t = eqb-true u t (and_parts (does_act kind) (u == t) yes).1 in
      rw yes (All-cons (IsFrom t kind i) _ _ (is, refl, omega arith) rest))
      (λ no. rw no rest)
      (cases_Bool (does_act kind && u == t))

  -- they ascend
  section_ascends : (i : ℕ) (ts : List ℕ) → Ascend (acts_at t (events_from kind i ts))
  unfolding acts_at
  section_ascends i [] = tt
  section_ascends i (u ∷ ts) =
      let rest = section_ascends (suc i) ts in
      ⊎_elim
      (λ yes.
      let is : u ≡ t = eqb-true u t (and_parts (does_act kind) (u == t) yes).1 in
      let none = All-weaker (IsFrom t kind (suc i)) (λ e. event_before e (record { tick = u; kind = kind; place = i }) ≡ false)
      (λ e from. later_place t kind i u e is from) _ (of_section (suc i) ts) in
      rw yes (none, rest))
      (λ no. rw no rest)
      (cases_Bool (does_act kind && u == t))

-- two lists ascend one behind the other, if none of the second is before one of the first
joined : (es fs : List Event) → Ascend es → Ascend fs → All (λ e. NoneBefore event_before e fs) es → Ascend (es ++ fs)
joined [] fs e_up f_up none = f_up
joined (e ∷ es) fs e_up f_up none = (
  All-append (λ f. event_before f e ≡ false) es fs e_up.0 (All-head (λ f. NoneBefore event_before f fs) e es none),
  joined es fs e_up.1 f_up (All-tail (λ f. NoneBefore event_before f fs) e es none),
)

-- what the plan asks for at tick t ascends
plan_ascends : (p : Lists) (t : ℕ) → Ascend (acts_at t (plan_events p))
unfolding acts_at
plan_ascends p t =
    let withdrawn = map (λ w. w.tick) p.withdrawals in
    let filed = map (λ f. f.tick) p.filings in
    subst Ascend (sym (filter-append (λ e. does_act e.kind && e.tick == t) (events_from Withdrawal 0 withdrawn) (events_from Filing 0 filed)))
    (joined _ _ (section_ascends t Withdrawal 0 withdrawn) (section_ascends t Filing 0 filed)
    (All-weaker (IsFrom t Withdrawal 0) (λ e. NoneBefore event_before e (acts_at t (events_from Filing 0 filed)))
    (λ e from. All-weaker (IsFrom t Filing 0) (λ f. event_before f e ≡ false) (λ f. withdrawal_first t 0 0 e f from) _ (of_section t Filing 0 filed))
    _ (of_section t Withdrawal 0 withdrawn)))

-- at each tick the plan's events come in its own order
pub acts_first : (p : Lists) (t : ℕ) → acts_at t (sorted event_before (first_events p)) ≡ acts_at t (plan_events p)
unfolding acts_at first_events
acts_first p t = same_acts t (first_events p) _ (plan_ascends p t) (ascends (first_events p)) (sorted_same event_before (first_events p))

-- a begin at tick 0 is there first
pub begin_first : (p : Lists) → Contains (sorted event_before (first_events p)) (begin_at 0)
unfolding first_events
begin_first p = Contains-permutation _ _ (begin_at 0) (sorted_same event_before (first_events p)) (0, omega arith, refl)

section_by : {X : Type 0} (kind : Kind) (tick : X → ℕ) (n i : ℕ) (xs : List X) → All (λ x. tick x ≤ n) xs
    → All (λ e. e.tick ≤ n) (events_from kind i (map tick xs))
section_by kind tick n i [] by = All-nil _
section_by kind tick n i (x ∷ xs) by =
    All-cons (λ e. e.tick ≤ n) _ _ (All-head (λ y. tick y ≤ n) x xs by) (section_by kind tick n (suc i) xs (All-tail (λ y. tick y ≤ n) x xs by))

-- no event is there first that comes later than all that the plan asks for
pub first_events_by : (p : Lists) (n : ℕ) → All (λ w. w.tick ≤ n) p.withdrawals → All (λ f. f.tick ≤ n) p.filings
    → All (λ e. e.tick ≤ n) (sorted event_before (first_events p))
unfolding first_events
first_events_by p n withdrawals filings =
    All-permutation (λ e. e.tick ≤ n) _ _ (sorted_same event_before (first_events p))
    (All-cons (λ e. e.tick ≤ n) _ _ (omega arith)
    (All-append (λ e. e.tick ≤ n) _ _ (section_by Withdrawal (λ w. w.tick) n 0 p.withdrawals withdrawals)
    (section_by Filing (λ f. f.tick) n 0 p.filings filings)))

-- what is true of all events and of one that is put in is true of all afterwards
pub inserted_all : (P : Event → Type 0) (e : Event) (es : List Event) → All P es → P e → All P (inserted event_before e es)
inserted_all P e es all one = All-permutation P _ _ (inserted_same event_before e es) (All-cons P e es one all)

-- an event that is put in is there
pub inserted_there : (e : Event) (es : List Event) → Contains (inserted event_before e es) e
inserted_there e es = Contains-permutation _ _ e (inserted_same event_before e es) (0, omega arith, refl)

not_before : (x y : Event) → event_before x y ≡ false → y.tick ≤ x.tick
unfolding event_before first_by
not_before x y none = grind (arith, none)

-- no event that comes later has an earlier tick
pub later_ticks : (e : Event) (es : List Event) → Ascend (e ∷ es) → All (λ x. e.tick ≤ x.tick) es
later_ticks e es up = All-weaker (λ x. event_before x e ≡ false) (λ x. e.tick ≤ x.tick) (λ x none. not_before x e none) es up.0
