-- What is known of a plan that was read and of a play that begins, and how answers are said where memory may run out.
use Rattle.std.specs.Prelude.{◌≡◌, ℕ, ◌≤◌, List, length, All, IfOk, string_bytes, Result, Ok, Err, String}
use Rattle.std.specs.declared.alloc.AllocError.{AllocError}
use Rattle.std.specs.declared.alloc.Global.{Global}
use Rattle.std.specs.declared.option.Option.TheVariants.{None}
use Rattle.measures.specs.Limits.{last, most_labs, most_filings}
use Rattle.waiting.specs.Queues.{none_waiting}
use Rattle.plan.specs.Plans.{Lists}
use Rattle.course.specs.Course.{Stage}
use Rattle.course.specs.Playing.{Refused}
use Rattle.playing.specs.declared.start.NoStart.{NoStart}
use Rattle.playing.specs.declared.start.NoStart.TheVariants as start

-- what a play needs of a plan: its limits, as far as lines and ticks go; one that was read has it
pub record IsLawful (p : Lists) : Type 0 where
  pub labs : length p.labs ≤ most_labs
  pub filings : length p.filings ≤ most_filings
  pub filed : All (λ f. f.tick ≤ last) p.filings
  pub withdrawn : All (λ w. w.tick ≤ last) p.withdrawals

-- a stage whose gate has at most 64 labs, and at which nothing has happened yet
pub record IsFresh {R T : Type 0} (s : Stage R T) : Type 0 where
  pub clock : s.moment.gate.clock ≡ 0
  pub free : s.moment.gate.running ≡ None
  pub labs : s.moment.gate.labs ≤ most_labs
  pub waiting : s.moment.gate.waiting ≡ none_waiting

-- what a function returned, seen by view, is what was said, where memory may run out
abbrev pub Tells : {A B : Type 0} → (A → B) → Result A NoStart → Result B Refused → Type 0
Tells view (Ok a) said = said ≡ Ok (view a)
Tells view (Err (start.Refused line refusal)) said = said ≡ Err (record { line = line; refusal = refusal })
Tells view (Err start.OutOfMemory) said = Unit {0}

-- the text, unless memory ran out, has these bytes
unfoldable pub Prints : Result (String Global) AllocError → List ℕ → Type 0
Prints r bytes = IfOk r (λ text. string_bytes text ≡ bytes)
