use Rattle.std.proofs.Common.{◌≡◌, ◌+◌, ◌*◌}
use Rattle.pf_rulefile.specs.declared.word.Language.TheVariants.{Operators, Lanes}
use Rattle.pf_rulefile.specs.Meaning.Grammar.{times_of, sum_op_of}
use Rattle.pf_rulefile.specs.Meaning.Tokens.{tokens}
use Rattle.pf_rulefile.specs.Steps.Fronts.{sign_by}
use Rattle.pf_rulefile.specs.Steps.Parts.{parts}
use Rattle.pf_rulefile.specs.Steps.SideReads.{chain, pair_link, operands_more, loose_more, atom_read, product_read, summed_read, side_read}
use Rattle.pf_rulefile.proofs.side.+side.Given as goal

abbrev pub decreases-side : goal.decreases-side
decreases-side l = 10 * l.depth

abbrev pub decreases-operands : goal.decreases-operands
decreases-operands l = 10 * l.depth + 1

abbrev pub decreases-closed : goal.decreases-closed
decreases-closed l = 10 * l.depth + 1

abbrev pub decreases-loose_operands : goal.decreases-loose_operands
decreases-loose_operands l = 10 * l.depth + 1

abbrev pub decreases-arguments : goal.decreases-arguments
decreases-arguments l = 10 * l.depth + 2

abbrev pub decreases-cast : goal.decreases-cast
decreases-cast l = 10 * l.depth + 2

abbrev pub decreases-choice : goal.decreases-choice
decreases-choice l = 10 * l.depth + 2

abbrev pub decreases-loose : goal.decreases-loose
decreases-loose l = 10 * l.depth + 2

abbrev pub decreases-call : goal.decreases-call
decreases-call l = 10 * l.depth + 3

abbrev pub decreases-known_lane : goal.decreases-known_lane
decreases-known_lane l = 10 * l.depth + 3

abbrev pub decreases-lane_call : goal.decreases-lane_call
decreases-lane_call l = 10 * l.depth + 4

abbrev pub decreases-operators : goal.decreases-operators
decreases-operators l = 10 * l.depth + 5

abbrev pub decreases-lanes : goal.decreases-lanes
decreases-lanes l = 10 * l.depth + 5

abbrev pub decreases-atom : goal.decreases-atom
decreases-atom l = 10 * l.depth + 6

abbrev pub decreases-product : goal.decreases-product
decreases-product l = 10 * l.depth + 7

abbrev pub decreases-summed : goal.decreases-summed
decreases-summed l = 10 * l.depth + 8

abbrev pub decreases-whole : goal.decreases-whole
decreases-whole l = 10 * l.depth + 9

abbrev pub invariant-operands-operands : goal.invariant-operands-operands
invariant-operands-operands l =
    operands_more (parts l.vars) (side_read (parts l.vars) l.most l.language l.depth) l.fn.more l.fn.first (tokens l.fn.text)
    ≡ operands_more (parts l.vars) (side_read (parts l.vars) l.most l.language l.depth) l.left l.part (tokens l.rest)

abbrev pub decreases-operands-operands : goal.decreases-operands-operands
decreases-operands-operands l = l.left

abbrev pub invariant-loose_operands-operands : goal.invariant-loose_operands-operands
invariant-loose_operands-operands l =
    loose_more (parts l.vars) l.most l.inside (side_read (parts l.vars) l.most Lanes l.depth) l.most l.fn.first (tokens l.fn.text)
    ≡ loose_more (parts l.vars) l.most l.inside (side_read (parts l.vars) l.most Lanes l.depth) l.left l.part (tokens l.rest)

abbrev pub decreases-loose_operands-operands : goal.decreases-loose_operands-operands
decreases-loose_operands-operands l = l.left

abbrev pub invariant-product-links : goal.invariant-product-links
invariant-product-links l =
    product_read (parts l.vars) l.most (side_read (parts l.vars) l.most Operators l.depth) l.depth (tokens l.fn.text)
    ≡ chain (sign_by times_of) (pair_link (parts l.vars) (atom_read (parts l.vars) l.most Operators (side_read (parts l.vars) l.most Operators l.depth) l.depth)) l.left l.part (tokens l.rest)

abbrev pub decreases-product-links : goal.decreases-product-links
decreases-product-links l = l.left

abbrev pub invariant-summed-links : goal.invariant-summed-links
invariant-summed-links l =
    summed_read (parts l.vars) l.most (side_read (parts l.vars) l.most Operators l.depth) l.depth (tokens l.fn.text)
    ≡ chain (sign_by sum_op_of) (pair_link (parts l.vars) (product_read (parts l.vars) l.most (side_read (parts l.vars) l.most Operators l.depth) l.depth)) l.left l.part (tokens l.rest)

abbrev pub decreases-summed-links : goal.decreases-summed-links
decreases-summed-links l = l.left
