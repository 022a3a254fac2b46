-- What a plan holds, and what is meant by its lines.
use Rattle.std.specs.Prelude.{ℕ, List, slice_index}
use Rattle.plan.specs.declared.plan.Terms.{Terms}
use Rattle.plan.specs.declared.plan.Filing.{Filing}
use Rattle.plan.specs.declared.plan.Withdrawal.{Withdrawal}
use Rattle.plan.specs.declared.plan.Plan.{Plan}

-- the lists of a plan, apart from where they lie in memory
pub record Lists : Type 0 where
  pub labs : List Terms
  pub filings : List Filing
  pub withdrawals : List Withdrawal

-- those of this plan
abbrev pub lists : Plan → Lists
lists p = record { labs = p.labs.items; filings = p.filings.items; withdrawals = p.withdrawals.items }

-- the terms that are meant by the numbers of a line
abbrev pub terms_of : List ℕ → Terms
terms_of ns = record { rate = slice_index ns 0; ceiling = slice_index ns 1; threshold = slice_index ns 2 }

-- the filing that is meant
abbrev pub filing_of : List ℕ → Filing
filing_of ns = record { tick = slice_index ns 0; lab = slice_index ns 1; length = slice_index ns 2; due = slice_index ns 3 }

-- the withdrawal that is meant
abbrev pub withdrawal_of : List ℕ → Withdrawal
withdrawal_of ns = record { tick = slice_index ns 0; ticket = slice_index ns 1 }
