-- The mixed row keeps the sentences, since each of the two rows does.
use Rattle.std.proofs.Common.{ap}
use Rattle.budget.specs.Meaning.{Sentences, SameTerms}
use Rattle.server.specs.Row.{server}
use Rattle.server.specs.declared.ServerRow.{ServerRow}
use Rattle.server.specs.Keeps.{keeps as of_server}
use Rattle.spaced.specs.Row.{spaced}
use Rattle.spaced.specs.declared.SpacedRow.{SpacedRow}
use Rattle.spaced.specs.Keeps.{keeps as of_spaced}
use Rattle.mixed.specs.Row.{mixed}
use Rattle.mixed.specs.declared.MixedRow.{MixedRow}
use Rattle.mixed.specs.declared.MixedRow.TheVariants.{Server, Spaced}

-- what holds of each row that is held holds of the mixed row
either : (P : MixedRow → Type 0) → ((x : ServerRow) → P (Server x)) → ((x : SpacedRow) → P (Spaced x)) → (x : MixedRow) → P x
either P f g (Server x) = f x
either P f g (Spaced x) = g x

server_terms : {x y : ServerRow} → SameTerms server x y → SameTerms mixed (Server x) (Server y)
server_terms t = record { rate = t.rate; ceiling = t.ceiling; threshold = t.threshold }

spaced_terms : {x y : SpacedRow} → SameTerms spaced x y → SameTerms mixed (Spaced x) (Spaced y)
spaced_terms t = record { rate = t.rate; ceiling = t.ceiling; threshold = t.threshold }

pub keeps : Sentences mixed
keeps = record {
  rate_low = either _ of_server.rate_low of_spaced.rate_low;
  rate_high = either _ of_server.rate_high of_spaced.rate_high;
  ceiling_high = either _ of_server.ceiling_high of_spaced.ceiling_high;
  threshold_high = either _ of_server.threshold_high of_spaced.threshold_high;
  restart_terms = either _ (λ x. server_terms (of_server.restart_terms x)) (λ x. spaced_terms (of_spaced.restart_terms x));
  rest_terms = either _ (λ x d. server_terms (of_server.rest_terms x d)) (λ x d. spaced_terms (of_spaced.rest_terms x d));
  end_terms = either _ (λ x c. server_terms (of_server.end_terms x c)) (λ x c. spaced_terms (of_spaced.end_terms x c));
  below_ceiling = either _ of_server.below_ceiling of_spaced.below_ceiling;
  solvent = either _ of_server.solvent of_spaced.solvent;
  awake = either _ of_server.awake of_spaced.awake;
  rest_level = either _ of_server.rest_level of_spaced.rest_level;
  rest_wake = either _ of_server.rest_wake of_spaced.rest_wake;
  end_level = either _ of_server.end_level of_spaced.end_level;
  restart_wake = either _ of_server.restart_wake of_spaced.restart_wake;
  end_wake = either _ of_server.end_wake of_spaced.end_wake;
  wake_high = either _ of_server.wake_high of_spaced.wake_high;
  rest_rest = either _ (λ x d e within. ap Server (of_server.rest_rest x d e within)) (λ x d e within. ap Spaced (of_spaced.rest_rest x d e within));
}
