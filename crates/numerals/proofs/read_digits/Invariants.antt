use Rattle.std.proofs.Common.{◌≡◌, ◌≤◌, min, drop}
use Rattle.std.specs.Str.{all_ascii_digits}
use Rattle.numerals.specs.Numerals.{largest, followed_by}
use Rattle.numerals.proofs.read_digits.Given as goal

-- what is left decides, and with what was read it gives the number
abbrev pub invariant-loop-byte : goal.invariant-loop-byte
invariant-loop-byte l = record {
  decides : all_ascii_digits l.text ≡ all_ascii_digits (drop l.byte-index l.text);
  number : min (followed_by l.value (drop l.byte-index l.text)) largest ≡ min (followed_by 0 l.text) largest;
  cut : l.value ≤ largest;
}
