use Rattle.outlook.proofs.Listed.{Listed}
use Rattle.outlook.proofs.listing.fill_list.Given as goal

-- the entries so far are listed
abbrev pub invariant-loop-i : goal.invariant-loop-i
invariant-loop-i g l = Listed g.R.BudgetRow.meaning l.row l.tick l.tickets l.initial.list l.list l.next.row l.next.tick l.i
