-- How the lines of a forecast read, and why there is none.
use Rattle.std.specs.Prelude.{ℕ, List, ◌++◌, codes, ◌==◌, if◌then◌else◌}
use Rattle.std.specs.Fmt.{decimal, signed_decimal}
use Rattle.measures.specs.Refusals.{refusal_text}
use Rattle.forecast_lines.specs.declared.Line.{Line}
use Rattle.forecast_lines.specs.declared.Line.TheVariants.{Terms, Opening, Begin, End, Import}
use Rattle.forecast_lines.specs.declared.Fault.{Fault}
use Rattle.forecast_lines.specs.declared.Fault.TheVariants.{NotANumber, TooFewNumbers, Refused, OutOfMemory}

-- so many ticks
abbrev pub ticks_text : ℕ → List ℕ
ticks_text n = if n == 1 then codes "1 tick" else decimal n ++ codes " ticks"

-- the ticks that a row still has to wait, of which an able row has none
abbrev pub wait_text : ℕ → List ℕ
wait_text n = if n == 0 then codes "able" else ticks_text n ++ codes " to wait"

-- a line of a forecast
abbrev pub line_text : Line → List ℕ
line_text (Terms rate ceiling threshold) =
    codes "rate " ++ (decimal rate ++ (codes ", ceiling " ++ (decimal ceiling ++ (codes ", threshold " ++ decimal threshold))))
line_text (Opening level wait) = codes "tick 0: level " ++ (signed_decimal level ++ (codes ", " ++ wait_text wait))
line_text (Begin tick n level) =
    codes "tick " ++ (decimal tick ++ (codes ": import " ++ (decimal n ++ (codes " begins, level " ++ signed_decimal level))))
line_text (End tick n held level wait) =
    codes "tick " ++ (decimal tick ++ (codes ": import " ++ (decimal n ++ (codes " ends, held " ++ (ticks_text held
    ++ (codes ", level " ++ (signed_decimal level ++ (codes ", " ++ wait_text wait))))))))
line_text (Import n start end response) =
    codes "import " ++ (decimal n ++ (codes ": start " ++ (decimal start ++ (codes ", end " ++ (decimal end ++ (codes ", response time " ++ decimal response))))))

-- why there is no forecast
abbrev pub fault_text : Fault → List ℕ
fault_text (NotANumber place) = codes "word " ++ (decimal place ++ codes " is not a number")
fault_text TooFewNumbers = codes "usage: forecast RATE CEILING THRESHOLD LENGTH..., or: forecast spaced RATE LENGTH..."
fault_text (Refused refusal) = refusal_text refusal
fault_text OutOfMemory = codes "out of memory"
