use Rattle.std.proofs.Common.{◌≡◌}
use Rattle.pf_rulefile.specs.Meaning.Tokens.{tokens}
use Rattle.pf_rulefile.specs.Steps.Parts.{parts}
use Rattle.pf_rulefile.specs.Steps.SideReads.{chain, shift_link}
use Rattle.pf_rulefile.specs.Steps.Fronts.{sign_by}
use Rattle.pf_rulefile.specs.Meaning.Grammar.{shift_of}
use Rattle.pf_rulefile.proofs.side.shifts.Given as goal

abbrev pub invariant-links : goal.invariant-links
invariant-links l = chain (sign_by shift_of) (shift_link (parts l.vars) l.most l.depth) l.most l.fn.part (tokens l.fn.text) ≡ chain (sign_by shift_of) (shift_link (parts l.vars) l.most l.depth) l.left l.part (tokens l.rest)

abbrev pub decreases-links : goal.decreases-links
decreases-links l = l.left
