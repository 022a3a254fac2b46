use Rattle.std.proofs.Common.{sym, arith, ◌∙◌}
use Rattle.numerals.proofs.Digits.{digits_more, value_more}
use Rattle.numerals.proofs.read_digits.Goals as goal

pub loop-byte-preserved : goal.loop-byte-preserved
loop-byte-preserved c =
    let bytes = c.args.text.now in
    let i = c.loop-byte.byte-index in
    let good = sym c.is_ascii_digit.ensures.value ∙ c.if-not-is_ascii_digit.false in
    record {
      decides = rw good at (c.loop-byte.invariant.decides ∙ digits_more bytes i c.loop-byte-test.true);
      number = value_more c.loop-byte.value c.saturating_add-value.result bytes i c.loop-byte-test.true (omega (arith, c.loop-byte.invariant.cut)) ∙ c.loop-byte.invariant.number;
      cut = omega arith;
    }
