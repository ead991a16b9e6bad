use Rattle.pf_layout.proofs.InverseLaws.{crossed_inverse, crossed_view}
use Rattle.pf_layout.proofs.layout.transposition.Goals as goal

pub invariant_of-result : goal.invariant_of-result
invariant_of-result c = rw (c.from.ensures, c.from-2.ensures) (crossed_inverse c.args.digit c.args.count c.requires.room c.requires.few)

pub returns-clause-each : goal.returns-clause-each
returns-clause-each c = λ d lt. rw (c.from.ensures, c.from-2.ensures) (crossed_view c.args.digit c.args.count c.requires.room c.requires.few d lt)
