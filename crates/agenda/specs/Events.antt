-- The events of a play, and their order.
use Rattle.std.specs.Prelude.{◌≡◌, ℕ, zero, suc, Bool, true, false, ◌==◌, List, [], ◌∷◌, ◌++◌, map, fold, if◌then◌else◌}
use Rattle.std.proofs.Common.{refl, sym, ap, ◌∙◌, arith}
use Rattle.earliest.specs.Numbers.{first_by, chained, decided}
use Rattle.earliest.specs.Order.{IsStrictTotalOrder}
use Rattle.earliest.specs.Sorted.{inserted}
use Rattle.plan.specs.Plans.{Lists}
use Rattle.agenda.specs.declared.event.Event.{Event}
use Rattle.agenda.specs.declared.event.Kind.{Kind}
use Rattle.agenda.specs.declared.event.Kind.TheVariants.{End, Withdrawal, Filing, Begin}

-- in which order kinds come at one tick
abbrev pub rank_of : Kind → ℕ
rank_of End = 0
rank_of Withdrawal = 1
rank_of Filing = 2
rank_of Begin = 3

-- by tick, then by kind, then by place
unfoldable pub event_before : Event → Event → Bool
event_before x y = first_by x.tick y.tick (first_by (rank_of x.kind) (rank_of y.kind) (first_by x.place y.place false))

-- the kind that has a rank
kind_of : ℕ → Kind
kind_of zero = End
kind_of (suc zero) = Withdrawal
kind_of (suc (suc zero)) = Filing
kind_of (suc (suc (suc n))) = Begin

-- it is the one whose rank it is
of_rank : (x : Kind) → kind_of (rank_of x) ≡ x
unfolding kind_of
of_rank End = refl
of_rank Withdrawal = refl
of_rank Filing = refl
of_rank Begin = refl

-- kinds of one rank are one
same_kind : (x y : Kind) → rank_of x ≡ rank_of y → x ≡ y
same_kind x y e = sym (of_rank x) ∙ ap kind_of e ∙ of_rank y

-- two events of which neither comes before the other are one
same : (x y : Event) → event_before x y ≡ false → event_before y x ≡ false → x ≡ y
unfolding event_before
same x y first second =
    let tick = decided _ _ _ _ first second in
    let rank = decided _ _ _ _ tick.1 tick.2 in
    let place = decided _ _ _ _ rank.1 rank.2 in
    let kind = same_kind x.kind y.kind rank.0 in
    λ i. record { tick = tick.0 i; kind = kind i; place = place.0 i }

-- of three events in turn, the first comes before the third
chain : (x y z : Event) → event_before x y ≡ true → event_before y z ≡ true → event_before x z ≡ true
unfolding event_before
chain x y z first second =
    let place = chained x.place y.place z.place _ _ _ (λ never _. never) in
    let kind = chained (rank_of x.kind) (rank_of y.kind) (rank_of z.kind) _ _ _ place in
    chained x.tick y.tick z.tick _ _ _ kind first second

-- no event comes before itself
itself : (x : Event) → event_before x x ≡ false
unfolding event_before first_by
itself x = grind arith

-- it is a strict total order
pub event_order : IsStrictTotalOrder event_before
event_order = record {
  irreflexive = itself;
  transitive = chain;
  total = same;
}

-- the events of one kind at these ticks, the first in this place
abbrev pub events_from : Kind → ℕ → List ℕ → List Event
events_from kind place [] = []
events_from kind place (t ∷ ts) = record { tick = t; kind = kind; place = place } ∷ events_from kind (suc place) ts

-- an event for each call that a plan asks for
abbrev pub plan_events : Lists → List Event
plan_events p = events_from Withdrawal 0 (map (λ w. w.tick) p.withdrawals) ++ events_from Filing 0 (map (λ f. f.tick) p.filings)

-- the event that an import ends at tick t
abbrev pub end_at : ℕ → Event
end_at t = record { tick = t; kind = End; place = 0 }

-- the event that a begin is to be called at tick t
abbrev pub begin_at : ℕ → Event
begin_at t = record { tick = t; kind = Begin; place = 0 }

-- the events to come when a play begins: those of the plan, and a begin at tick 0
unfoldable pub first_events : Lists → List Event
first_events p = begin_at 0 ∷ plan_events p

-- events, and others that come to them one after another
unfoldable pub with_events : List Event → List Event → List Event
with_events new es = fold (λ sofar e. inserted event_before e sofar) es new

-- the events at the head of a list that are at tick t
unfoldable pub head_at : ℕ → List Event → List Event
head_at t [] = []
head_at t (e ∷ es) = if e.tick == t then e ∷ head_at t es else []

-- the events from the first on that is not at tick t
unfoldable pub after_head : ℕ → List Event → List Event
after_head t [] = []
after_head t (e ∷ es) = if e.tick == t then after_head t es else e ∷ es
