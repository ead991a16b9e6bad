use Rattle.std.proofs.Common.{◌≡◌}
use Rattle.pf_rulefile.specs.Meaning.Tokens.{tokens}
use Rattle.pf_rulefile.specs.Meaning.Grammar.{sum_sign}
use Rattle.pf_rulefile.specs.Steps.Fronts.{sign_by}
use Rattle.pf_rulefile.specs.Steps.NumberReads.{item_read, sum_read, signed_read}
use Rattle.pf_rulefile.proofs.SumLaws.{behind_parts}
use Rattle.pf_rulefile.proofs.number.number_parts.Given as goal

abbrev pub invariant-parts : goal.invariant-parts
invariant-parts l = signed_read (item_read l.most l.depth) l.most (tokens l.fn.text) ≡ behind_parts l.parts (sum_read (sign_by sum_sign) (item_read l.most l.depth) l.left l.minus (tokens l.rest))

abbrev pub decreases-parts : goal.decreases-parts
decreases-parts l = l.left
