use Rattle.std.proofs.Common.{◌≡◌, false}
use Rattle.pf_rulefile.specs.Meaning.Tokens.{tokens}
use Rattle.pf_rulefile.specs.Steps.NumberReads.{sum_read}
use Rattle.pf_rulefile.specs.Meaning.Lines.{slash_sign}
use Rattle.pf_rulefile.specs.Steps.Fronts.{sign_by}
use Rattle.pf_rulefile.specs.Steps.FieldReads.{child_part, children_read}
use Rattle.pf_rulefile.proofs.SumLaws.{behind_parts}
use Rattle.pf_rulefile.proofs.field.children.Given as goal

abbrev pub invariant-children : goal.invariant-children
invariant-children l = children_read l.most (tokens l.fn.text) ≡ behind_parts l.path (sum_read (sign_by slash_sign) child_part l.left false (tokens l.rest))

abbrev pub decreases-children : goal.decreases-children
decreases-children l = l.left
