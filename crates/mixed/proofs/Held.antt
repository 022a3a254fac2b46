-- A mixed row behaves as the row it holds.
use Rattle.std.proofs.Common.{refl}
use Rattle.budget.specs.Meaning.{BehavesAsHeld}
use Rattle.server.specs.Row.{server}
use Rattle.spaced.specs.Row.{spaced}
use Rattle.mixed.specs.Row.{mixed}
use Rattle.mixed.specs.declared.MixedRow.TheVariants.{Server, Spaced}

pub server_held : BehavesAsHeld server mixed Server
server_held = record {
  level = λ x. refl;
  wake = λ x. refl;
  able = λ x. refl;
  rate = λ x. refl;
  ceiling = λ x. refl;
  threshold = λ x. refl;
  restarted = λ x. refl;
  rested = λ x d. refl;
  ended = λ x c. refl;
}

pub spaced_held : BehavesAsHeld spaced mixed Spaced
spaced_held = record {
  level = λ x. refl;
  wake = λ x. refl;
  able = λ x. refl;
  rate = λ x. refl;
  ceiling = λ x. refl;
  threshold = λ x. refl;
  restarted = λ x. refl;
  rested = λ x d. refl;
  ended = λ x c. refl;
}
