use Rattle.std.proofs.Common.{arith, rules, ◌<◌, get_or}
use Rattle.pf_text.proofs.Fronts.{more_fits, digit_most}
use Rattle.pf_text.proofs.scan.value_of_digits.Goals as goal

pub overflow_mul-n : goal.overflow_mul-n
overflow_mul-n c =
    let inside : c.loop-digit.digit-index < 20 = omega arith in
    let fits = more_fits c.loop-digit.digit-index c.loop-digit.n c.loop-digit.invariant.small inside in
    search rules

pub overflow_add-n : goal.overflow_add-n
overflow_add-n c =
    let inside : c.loop-digit.digit-index < 20 = omega arith in
    let fits = more_fits c.loop-digit.digit-index c.loop-digit.n c.loop-digit.invariant.small inside in
    let digit = digit_most (get_or c.args.digits.now c.loop-digit.digit-index 0) (c.requires.digits c.loop-digit.digit-index 0 c.loop-digit-test.true) in
    omega (arith, fits, digit)
