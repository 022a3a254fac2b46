-- What a rate gives of each tick, and what it leaves.
use Rattle.std.proofs.Common.{◌≡◌, ℕ, ◌+◌, ◌-◌, ◌*◌, ◌≤◌, sym, ap, ◌∙◌, add-mul, arith}

-- of n ticks, both together are the whole
pub whole : (rate n : ℕ) → rate ≤ 1000 → (1000 - rate) * n + rate * n ≡ 1000 * n
whole rate n high = sym (add-mul (1000 - rate) rate n) ∙ ap (λ m. m * n) (omega arith)
