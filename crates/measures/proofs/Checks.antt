-- Checks in order: what a grant says of them.
use Rattle.std.proofs.Common.{◌≡◌, ℕ, Bool, true, false, cond, Ok, Err, Result, refl, arith}
use Rattle.measures.specs.declared.refusal.Refusal.{Refusal}

-- the first test was false, and what comes after it granted
pub passed : {A : Type 0} (test : Bool) (refusal : Refusal) (rest : Result A Refusal) (a : A) → cond test (Err refusal) rest ≡ Ok a → (test ≡ false) × (rest ≡ Ok a)
passed false refusal rest a e = (refl, e)
passed true refusal rest a e = absurd (let z : ◌≡◌ {A = ℕ} 0 1 = cc in omega arith)
