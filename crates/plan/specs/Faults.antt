-- How it reads why there is no plan.
use Rattle.std.specs.Prelude.{ℕ, List, ◌++◌, codes}
use Rattle.std.specs.Fmt.{decimal}
use Rattle.plan.specs.declared.faults.ReadError.{ReadError}
use Rattle.plan.specs.declared.faults.ReadError.TheVariants as errors

-- the text of an error of reading
abbrev pub error_text : ReadError → List ℕ
error_text errors.TooLong = codes "too long for a plan"
error_text (errors.Broken at) = codes "line " ++ (decimal at.line ++ (codes " breaks the form of a plan at field " ++ decimal at.field))
error_text errors.OutOfMemory = codes "out of memory"
