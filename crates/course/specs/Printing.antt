-- The lines that are printed.
use Rattle.std.specs.Prelude.{ℕ, ◌-◌, List, [], ◌∷◌, ◌++◌, Ok, Err, codes}
use Rattle.measures.specs.declared.refusal.Refusal.{Refusal}
use Rattle.measures.specs.Refusals.{number_of}
use Rattle.plan.specs.declared.faults.Break.{Break}
use Rattle.plan.specs.Writing.{written_line}
use Rattle.history.specs.Histories.{Event, OpenDenied, File, Withdraw, Begin, End}

-- the line which says that what stands on a line of the plan is refused
unfoldable pub no_line : ℕ → Refusal → List ℕ
no_line line refusal = codes "no " ++ written_line (line ∷ number_of refusal ∷ [])

-- the line that says where the form of a plan is broken
unfoldable pub bad_line : Break → List ℕ
bad_line at = codes "bad " ++ written_line (at.line ∷ at.field ∷ [])

-- the line for more bytes than a plan may have
unfoldable pub big_line : List ℕ
big_line = codes "big" ++ 10 ∷ []

-- What is printed of a call that stands on this line of a plan: a line where it is refused, and nothing where it is granted.
abbrev pub refused : ℕ → Event → List ℕ
refused line (File t lab declared due (Err r)) = no_line line r
refused line (File t lab declared due (Ok number)) = []
refused line (Withdraw t number (Err r)) = no_line line r
refused line (Withdraw t number (Ok lab)) = []
refused line (Begin t answer) = []
refused line (End t answer) = []
refused line (OpenDenied r) = []

-- What is printed of the end of a lab's run: lab, ticket, start, end, and response time.
abbrev pub ended : ℕ → Event → List ℕ
ended lab (End t (Ok (number, held, response))) = written_line (lab ∷ number ∷ (t - held) ∷ t ∷ response ∷ [])
ended lab (End t (Err r)) = []
ended lab (File t k declared due answer) = []
ended lab (Withdraw t number answer) = []
ended lab (Begin t answer) = []
ended lab (OpenDenied r) = []
