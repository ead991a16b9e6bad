use Rattle.pf_text.proofs.Fronts.{leading_are_digits}
use Rattle.pf_text.proofs.scan.number_at.Goals as goal

pub value_of_digits-requires-clause-digits : goal.value_of_digits-requires-clause-digits
value_of_digits-requires-clause-digits c = rw c.parted.ensures.digits (leading_are_digits c.args.text.now)
