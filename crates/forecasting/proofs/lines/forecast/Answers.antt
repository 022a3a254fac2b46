use Rattle.forecasting.proofs.Asked.{asked_server, asked_spaced}
use Rattle.forecasting.proofs.lines.forecast.Goals as goal

pub returns-in_ok-row-in-Server-len3-up-clause-said : goal.returns-in_ok-row-in-Server-len3-up-clause-said
returns-in_ok-row-in-Server-len3-up-clause-said c =
    asked_server c.args.numbers.now c.args.rule c.from.result c.forecast_row.result c.in_ok-row-in-Server-len3-up.row
    c.in-Server-len3-up.is-0 c.from.ensures c.if-not-is_empty.ensures c.in_ok-row-in-Server-len3-up.ensures c.forecast_row.ensures.said

pub returns-in_ok-row-in-Spaced-len1-up-clause-said : goal.returns-in_ok-row-in-Spaced-len1-up-clause-said
returns-in_ok-row-in-Spaced-len1-up-clause-said c =
    asked_spaced c.args.numbers.now c.args.rule c.from-in-Spaced-len1-up.result c.forecast_row-in-Spaced-len1-up.result c.in_ok-row-in-Spaced-len1-up.row
    c.in-Spaced-len1-up.is-0 c.from-in-Spaced-len1-up.ensures c.if-not-is_empty-2.ensures c.in_ok-row-in-Spaced-len1-up.ensures c.forecast_row-in-Spaced-len1-up.ensures.said
