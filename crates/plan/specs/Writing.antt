-- How a plan is written in bytes.
use Rattle.std.specs.Prelude.{◌≡◌, ℕ, ◌≤◌, List, [], ◌∷◌, ◌++◌, length, map}
use Rattle.std.specs.List.{flat_map, join_with_byte, AllByRecursion}
use Rattle.std.specs.Fmt.{decimal}
use Rattle.measures.specs.Limits.{last, most_labs, most_filings, most_withdrawals, most_plan_bytes}
use Rattle.plan.specs.declared.plan.Terms.{Terms}
use Rattle.plan.specs.declared.plan.Filing.{Filing}
use Rattle.plan.specs.declared.plan.Withdrawal.{Withdrawal}
use Rattle.plan.specs.Plans.{Lists}

-- a line: its numbers in decimal digits, one space between two, and a line feed
abbrev pub written_line : List ℕ → List ℕ
written_line ns = join_with_byte 32 (map decimal ns) ++ 10 ∷ []

-- the numbers of a line by which these terms are meant
abbrev pub terms_numbers : Terms → List ℕ
terms_numbers t = t.rate ∷ t.ceiling ∷ t.threshold ∷ []

-- the numbers of a filing
abbrev pub filing_numbers : Filing → List ℕ
filing_numbers f = f.tick ∷ f.lab ∷ f.length ∷ f.due ∷ []

-- the numbers of a withdrawal
abbrev pub withdrawal_numbers : Withdrawal → List ℕ
withdrawal_numbers w = w.tick ∷ w.ticket ∷ []

-- a section of these lines: one that counts them, and then they
abbrev pub counted : List (List ℕ) → List (List ℕ)
counted ls = (length ls ∷ []) ∷ ls

-- all lines of a plan
abbrev pub plan_lines : Lists → List (List ℕ)
plan_lines p = counted (map terms_numbers p.labs) ++ (counted (map filing_numbers p.filings) ++ counted (map withdrawal_numbers p.withdrawals))

-- the bytes in which a plan is written
abbrev pub written : Lists → List ℕ
written p = flat_map written_line (plan_lines p)

-- the bytes write this plan, whose lists and numbers are within the limits
pub record Writes (bs : List ℕ) (p : Lists) : Type 0 where
  pub some_lab : 1 ≤ length p.labs
  pub labs : length p.labs ≤ most_labs
  pub filings : length p.filings ≤ most_filings
  pub withdrawals : length p.withdrawals ≤ most_withdrawals
  pub numbers : AllByRecursion (AllByRecursion (λ n. n ≤ last)) (plan_lines p)
  pub few : length bs ≤ most_plan_bytes
  pub bytes : bs ≡ written p
