-- The events of a plan come one after another.
use Rattle.std.proofs.Common.{◌≡◌, ℕ, suc, ◌+◌, ◌<◌, ◌≤◌, List, [], ◌∷◌, ◌++◌, map, drop, length, slice_index_or, IsPermutation, refl, sym, ap, subst, ◌∙◌, append_assoc, arith}
use Rattle.std.proofs.lemmas.List.{drop_more, drop_all}
use Rattle.std.proofs.lemmas.List.Sorted.{IsPermutation-trans, IsPermutation-middle, IsPermutation-append_comm}
use Rattle.earliest.specs.Sorted.{inserted, sorted}
use Rattle.earliest.proofs.InOrder.{sorted_permutation}
use Rattle.plan.specs.Plans.{Lists}
use Rattle.agenda.specs.Events.{event_before, event_order, events_from, first_events, begin_at, with_events}
use Rattle.agenda.specs.declared.event.Event.{Event}
use Rattle.agenda.specs.declared.event.Kind.{Kind}
use Rattle.agenda.specs.declared.event.Kind.TheVariants.{Withdrawal, Filing}

-- Of the lines of a section the first i have come to the events old, which are now these; with the others they are all.
unfoldable pub HavePut : {X : Type 0} → (X → ℕ) → Kind → List X → ℕ → List Event → List Event → Type 0
HavePut tick_of kind xs i old now = with_events (events_from kind i (map tick_of (drop i xs))) now ≡ with_events (events_from kind 0 (map tick_of xs)) old

module _ {X : Type 0} (tick_of : X → ℕ) (kind : Kind) (xs : List X) (old : List Event) where
  -- none has come
  pub none_put : HavePut tick_of kind xs 0 old old
  unfolding HavePut
  none_put = refl

  -- the next comes
  pub one_put : (i : ℕ) (x : X) (now then_now : List Event) → HavePut tick_of kind xs i old now → i < length xs → x ≡ slice_index_or xs i x
      → then_now ≡ inserted event_before (record { tick = tick_of x; kind = kind; place = i }) now → HavePut tick_of kind xs (i + 1) old then_now
  unfolding HavePut with_events
  one_put i x now then_now so_far more is came =
      let next : drop i xs ≡ x ∷ drop (i + 1) xs = drop_more xs i x more ∙ ap (λ y. y ∷ drop (i + 1) xs) (sym is) in
      let on : i + 1 ≡ suc i = omega arith in
      let e : Event = record { tick = tick_of x; kind = kind; place = i } in
      ap (with_events (events_from kind (i + 1) (map tick_of (drop (i + 1) xs)))) came
      ∙ ap (λ k. with_events (events_from kind k (map tick_of (drop (i + 1) xs))) (inserted event_before e now)) on
      ∙ ap (λ ys. with_events (events_from kind i (map tick_of ys)) now) (sym next)
      ∙ so_far

  -- all have come
  pub section_put : (i : ℕ) (now : List Event) → HavePut tick_of kind xs i old now → length xs ≤ i
      → now ≡ with_events (events_from kind 0 (map tick_of xs)) old
  unfolding HavePut with_events
  section_put i now so_far done = ap (λ ys. with_events (events_from kind i (map tick_of ys)) now) (sym (drop_all i xs done)) ∙ so_far

-- events that come to sorted ones are sorted with them
all_sorted : (new es : List Event) → with_events new (sorted event_before es) ≡ sorted event_before (new ++ es)
unfolding with_events sorted
all_sorted [] es = refl
all_sorted (e ∷ new) es =
    all_sorted new (e ∷ es) ∙ sorted_permutation event_before event_order (new ++ e ∷ es) (e ∷ new ++ es) (IsPermutation-middle new e es)

-- one event is sorted
only : (e : Event) → inserted event_before e [] ≡ sorted event_before (e ∷ [])
unfolding inserted sorted
only e = refl

-- all events of a plan have come
pub all_put : (p : Lists) (empty begin withdrawn filed : List Event) → empty ≡ [] → begin ≡ inserted event_before (begin_at 0) empty
    → withdrawn ≡ with_events (events_from Withdrawal 0 (map (λ w. w.tick) p.withdrawals)) begin
    → filed ≡ with_events (events_from Filing 0 (map (λ f. f.tick) p.filings)) withdrawn
    → filed ≡ sorted event_before (first_events p)
unfolding first_events
all_put p empty begin withdrawn filed none one two three =
    let first = events_from Withdrawal 0 (map (λ w. w.tick) p.withdrawals) in
    let second = events_from Filing 0 (map (λ f. f.tick) p.filings) in
    let alone : begin ≡ sorted event_before (begin_at 0 ∷ []) = one ∙ ap (inserted event_before (begin_at 0)) none ∙ only (begin_at 0) in
    let withdrawals : withdrawn ≡ sorted event_before (first ++ begin_at 0 ∷ [])
    = two ∙ ap (with_events first) alone ∙ all_sorted first (begin_at 0 ∷ []) in
    let front : IsPermutation (second ++ (first ++ begin_at 0 ∷ [])) (begin_at 0 ∷ first ++ second)
    = IsPermutation-trans _ _ _ (IsPermutation-append_comm second (first ++ begin_at 0 ∷ []))
    (subst (λ l. IsPermutation l (begin_at 0 ∷ first ++ second)) (sym (append_assoc first (begin_at 0 ∷ []) second))
    (IsPermutation-middle first (begin_at 0) second)) in
    three ∙ ap (with_events second) withdrawals ∙ all_sorted second (first ++ begin_at 0 ∷ []) ∙ sorted_permutation event_before event_order _ _ front
