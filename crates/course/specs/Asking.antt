-- What a plan asks for, and when.
use Rattle.std.specs.Prelude.{ℕ, suc, ◌+◌, ◌==◌, List, [], ◌∷◌, ◌++◌, map, length, filter}
use Rattle.plan.specs.declared.plan.Filing.{Filing}
use Rattle.plan.specs.declared.plan.Withdrawal.{Withdrawal}
use Rattle.plan.specs.Plans.{Lists}
use Rattle.history.specs.Histories.{Call, ToFile, ToWithdraw, ToBegin, ToEnd}

-- a call that a plan asks for, and the line of the plan that asks for it
pub record Asked : Type 0 where
  pub line : ℕ
  pub call : Call

-- for which tick a call is asked
abbrev pub tick_of : Call → ℕ
tick_of (ToFile t lab declared due) = t
tick_of (ToWithdraw t number) = t
tick_of (ToBegin t) = t
tick_of (ToEnd t) = t

-- what a filing asks for
abbrev pub filing_call : Filing → Call
filing_call f = ToFile f.tick f.lab f.length f.due

-- what a withdrawal asks for
abbrev pub withdrawal_call : Withdrawal → Call
withdrawal_call w = ToWithdraw w.tick w.ticket

-- the line of a plan on which the first lab stands: each section comes after the line that counts it
abbrev pub labs_line : ℕ
labs_line = 2

-- the line on which the first filing stands
abbrev pub filings_line : Lists → ℕ
filings_line p = length p.labs + 3

-- the line on which the first withdrawal stands
abbrev pub withdrawals_line : Lists → ℕ
withdrawals_line p = length p.labs + length p.filings + 4

-- calls on lines that follow one another, the first on this one
abbrev pub on_lines : ℕ → List Call → List Asked
on_lines line [] = []
on_lines line (c ∷ cs) = record { line = line; call = c } ∷ on_lines (suc line) cs

-- all that a plan asks for: withdrawals first, then filings
abbrev pub asked : Lists → List Asked
asked p =
    on_lines (withdrawals_line p) (map withdrawal_call p.withdrawals)
    ++ on_lines (filings_line p) (map filing_call p.filings)

-- what it asks for at tick t
unfoldable pub asked_at : Lists → ℕ → List Asked
asked_at p t = filter (λ a. tick_of a.call == t) (asked p)
