-- Taking the events at the head of a list, while they are at one tick.
use Rattle.std.proofs.Common.{◌≡◌, ℕ, ◌<◌, List, [], ◌∷◌, length, drop, slice_get, Some, None, refl, ap, sym, ◌∙◌, arith}
use Rattle.std.proofs.lemmas.Bool.{eq-eqb, ne_eqb}
use Rattle.std.proofs.lemmas.Option.{none-some, same_Some}
use Rattle.std.specs.List.{fold}
use Rattle.budget.specs.Meaning.{Meaning}
use Rattle.turns.specs.Turns.{Turns}
use Rattle.plan.specs.Plans.{Lists}
use Rattle.course.specs.Course.{Stage}
use Rattle.agenda.specs.Happening.{happens, happen}
use Rattle.agenda.specs.Events.{head_at, after_head}
use Rattle.agenda.specs.declared.event.Event.{Event}

-- where a list has no event
pub head_empty : (t : ℕ) (es : List Event) → slice_get es 0 ≡ None → head_at t es ≡ []
unfolding head_at
head_empty t [] none = refl
head_empty t (e ∷ es) none = absurd (none-some e (sym none))

pub after_empty : (t : ℕ) (es : List Event) → slice_get es 0 ≡ None → after_head t es ≡ es
unfolding after_head
after_empty t [] none = refl
after_empty t (e ∷ es) none = absurd (none-some e (sym none))

-- where the first event is at tick t
pub head_taken : (t : ℕ) (es : List Event) (e : Event) → slice_get es 0 ≡ Some e → e.tick ≡ t → head_at t es ≡ e ∷ head_at t (drop 1 es)
unfolding head_at
head_taken t [] e first at = absurd (none-some e first)
head_taken t (d ∷ es) e first at =
    let same = same_Some d e first in
    rw (eq-eqb d.tick t (ap (λ x. x.tick) same ∙ at)) (ap (λ x. x ∷ head_at t es) same)

pub after_taken : (t : ℕ) (es : List Event) (e : Event) → slice_get es 0 ≡ Some e → e.tick ≡ t → after_head t (drop 1 es) ≡ after_head t es
unfolding after_head
after_taken t [] e first at = refl
after_taken t (d ∷ es) e first at = rw (eq-eqb d.tick t (ap (λ x. x.tick) (same_Some d e first) ∙ at)) refl

pub one_fewer : (es : List Event) (e : Event) → slice_get es 0 ≡ Some e → length (drop 1 es) < length es
one_fewer [] e first = absurd (none-some e first)
one_fewer (d ∷ es) e first = omega arith

-- where it is not
pub head_other : (t : ℕ) (es : List Event) (e : Event) → slice_get es 0 ≡ Some e → (e.tick ≡ t → ⊥) → head_at t es ≡ []
unfolding head_at
head_other t [] e first other = refl
head_other t (d ∷ es) e first other = rw (ne_eqb d.tick t (λ at. other (sym (ap (λ x. x.tick) (same_Some d e first)) ∙ at))) refl

pub after_other : (t : ℕ) (es : List Event) (e : Event) → slice_get es 0 ≡ Some e → (e.tick ≡ t → ⊥) → after_head t es ≡ es
unfolding after_head
after_other t [] e first other = refl
after_other t (d ∷ es) e first other = rw (ne_eqb d.tick t (λ at. other (sym (ap (λ x. x.tick) (same_Some d e first)) ∙ at))) refl

module _ {R T : Type 0} (row : Meaning R) (turn : Turns T) (p : Lists) where
  -- what one event does, and then the others
  pub one_more : (s : Stage R T) (e : Event) (es hs : List Event) → hs ≡ e ∷ es → happen row turn p (happens row turn p s e) es ≡ happen row turn p s hs
  unfolding happen
  one_more s e es hs is = ap (fold (happens row turn p) s) (sym is)

  -- where there is none
  pub no_more : (s : Stage R T) (hs : List Event) → hs ≡ [] → happen row turn p s hs ≡ s
  unfolding happen
  no_more s hs is = ap (fold (happens row turn p) s) is
