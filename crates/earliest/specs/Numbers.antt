-- Orders by one number after another.
use Rattle.std.specs.Prelude.{◌≡◌, ℕ, Bool, true, false, ◌&&◌, ◌||◌, nat_lt, nat_eq}
use Rattle.std.proofs.Common.{arith}

-- the smaller of two numbers comes first; where they are equal, the rest decides
unfoldable pub first_by : ℕ → ℕ → Bool → Bool
first_by m n rest = nat_lt m n || nat_eq m n && rest

-- if k comes first of k and m, and m of m and n, then k comes first of k and n; r, s and t decide between equal numbers, and r and s give t
pub chained : (k m n : ℕ) (r s t : Bool) → (r ≡ true → s ≡ true → t ≡ true) → first_by k m r ≡ true → first_by m n s ≡ true → first_by k n t ≡ true
unfolding first_by
chained k m n r s t rest first second = grind arith

-- where neither comes first, the numbers are equal, and neither rest says yes
pub decided : (m n : ℕ) (r s : Bool) → first_by m n r ≡ false → first_by n m s ≡ false → (m ≡ n) × (r ≡ false) × (s ≡ false)
unfolding first_by
decided m n r s first second = (grind arith, grind arith, grind arith)
