use Rattle.std.proofs.Common.{◌∙◌}
use Rattle.forecasting.proofs.Listed.{never_denied}
use Rattle.forecasting.proofs.lines.list_filed.Goals as goal

pub returns-in_err-list_tickets-clause-said : goal.returns-in_err-list_tickets-clause-said
returns-in_err-list_tickets-clause-said g c =
    never_denied g.R.BudgetRow.meaning c.args.row.now c.args.lengths.now c.as_mut_slice.result.now c.as_slice.result.now c.in_ok-check_lengths.ensures
    (c.as_slice.ensures.value ∙ c.in_ok-tickets.ensures) (c.as_mut_slice.ensures.len ∙ c.in_ok-list.ensures.len) c.in_err-list_tickets.field-0.0
    c.from_residual-in_err-list_tickets.result c.in_err-list_tickets.ensures.answer
