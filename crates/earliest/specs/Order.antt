-- Which of two elements comes first.
use Rattle.std.specs.Prelude.{◌≡◌, Bool, true, false, List, All}

-- a strict total order
pub record IsStrictTotalOrder {X : Type 0} (before : X → X → Bool) : Type 0 where
  -- nothing is before itself
  pub irreflexive : (x : X) → before x x ≡ false
  -- if one is before a second, and the second before a third, the one is before the third
  pub transitive : (x y z : X) → before x y ≡ true → before y z ≡ true → before x z ≡ true
  -- two elements of which neither is before the other are one and the same
  pub total : (x y : X) → before x y ≡ false → before y x ≡ false → x ≡ y

-- no element is before x
abbrev pub NoneBefore : {X : Type 0} → (X → X → Bool) → X → List X → Type 0
NoneBefore before x xs = All (λ y. before y x ≡ false) xs
