-- One digit more is ten times the number so far, and the digit.
use Rattle.std.proofs.Common.{◌-◌, arith}
use Rattle.decl_text.proofs.ShortNumbers.{digit_range, front_small, number_more}
use Rattle.decl_text.proofs.word.short_number.Goals as goal

pub overflow_mul-number : goal.overflow_mul-number
overflow_mul-number c =
    omega (arith, c.reading.invariant, front_small c.args.digits.now c.reading.digit-index c.requires.digits c.reading-test.true c.requires.few)

pub overflow_add-number : goal.overflow_add-number
overflow_add-number c =
    omega (
      arith,
      c.reading.invariant,
      c.from.ensures,
      front_small c.args.digits.now c.reading.digit-index c.requires.digits c.reading-test.true c.requires.few,
      digit_range c.args.digits.now c.reading.digit-index c.requires.digits c.reading-test.true,
    )

pub reading-preserved : goal.reading-preserved
reading-preserved c =
    omega (
      arith,
      c.reading.invariant,
      c.from.ensures,
      number_more c.args.digits.now c.reading.digit-index c.requires.digits c.reading-test.true,
    )
