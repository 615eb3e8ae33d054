use Rattle.std.proofs.Common.{◌+◌, arith}
use Rattle.hpf_base.proofs.Digits.{value_step, value_within, digit_below}
use Rattle.token_scan.proofs.number.value_of.Goals as goal

pub returns-then-value-ge-FULL : goal.returns-then-value-ge-FULL
returns-then-value-ge-FULL c =
    omega (
      arith,
      value_step c.args.digits.now c.loop-digit.digit-index c.requires c.loop-digit-test.true,
      value_within c.args.digits.now (c.loop-digit.digit-index + 1),
      digit_below c.args.digits.now c.loop-digit.digit-index c.requires c.loop-digit-test.true,
    )

pub overflow_sub-digit : goal.overflow_sub-digit
overflow_sub-digit c = digit_below c.args.digits.now c.loop-digit.digit-index c.requires c.loop-digit-test.true

pub loop-digit-preserved : goal.loop-digit-preserved
loop-digit-preserved c =
    omega (
      arith,
      value_step c.args.digits.now c.loop-digit.digit-index c.requires c.loop-digit-test.true,
      digit_below c.args.digits.now c.loop-digit.digit-index c.requires c.loop-digit-test.true,
    )
