-- What the functions that read a plan hold and answer, in the words in which it is said what bytes say.
use Rattle.std.specs.Prelude.{◌≡◌, ℕ, List, [], Option, Result, Ok, Err}
use Rattle.std.specs.Option.{option_map_or}
use Rattle.std.specs.Borrow.{Bor}
use Rattle.plan.specs.declared.faults.Break.{Break}
use Rattle.plan.specs.declared.faults.ReadError.{ReadError}
use Rattle.plan.specs.declared.faults.ReadError.TheVariants as errors
use Rattle.plan.specs.declared.lines.Lines.{Lines}
use Rattle.plan.specs.Reading.{fields, Left}

-- the fields of a part of a line that is left, if there is one
abbrev pub fields_left : Option (Bor (List ℕ)) → List (List ℕ)
fields_left rest = option_map_or (λ text. fields text.now) rest []

-- what a reader of lines has left
abbrev pub left : Lines → Left
left s = record { bytes = s.rest.now; line = s.line }

-- what a function returned, seen by view, is what was said
abbrev pub Gives : {A B : Type 0} → (A → B) → Result A Break → Result B Break → Type 0
Gives view (Ok a) said = said ≡ Ok (view a)
Gives view (Err b) said = said ≡ Err b

-- the same, where memory may run out
abbrev pub Answers : {A B : Type 0} → (A → B) → Result A ReadError → Result B ReadError → Type 0
Answers view (Ok a) said = said ≡ Ok (view a)
Answers view (Err errors.TooLong) said = said ≡ Err errors.TooLong
Answers view (Err (errors.Broken b)) said = said ≡ Err (errors.Broken b)
Answers view (Err errors.OutOfMemory) said = Unit {0}
