-- A strict total order is a strict weak one.
use Rattle.std.proofs.Common.{◌≡◌, Bool, true, false, true≢false, sym, ◌∙◌, arith, ⊎_elim}
use Rattle.std.proofs.lemmas.Bool.{cases_Bool}
use Rattle.std.specs.Cmp.{IsStrictWeakOrder}
use Rattle.earliest.specs.Order.{IsStrictTotalOrder}

module _ {X : Type 0} {before : X → X → Bool} (o : IsStrictTotalOrder before) where
  one_way : (x y : X) → before x y ≡ true → before y x ≡ false
  one_way x y earlier = let round = o.transitive x y x earlier in let not = o.irreflexive x in grind arith

  chain : (x y z : X) → before x y ≡ false → before y z ≡ false → before x z ≡ false
  chain x y z a b =
      ⊎_elim
      (λ earlier. ⊎_elim
      (λ back. absurd (true≢false (sym (o.transitive y x z back earlier) ∙ b)))
      (λ neither. absurd (true≢false (sym earlier ∙ (λ i. before (o.total x y a neither i) z) ∙ b)))
      (cases_Bool (before y x)))
      (λ not. not)
      (cases_Bool (before x z))

  pub weak : IsStrictWeakOrder before
  weak = record { one_way = one_way; chain = chain }
