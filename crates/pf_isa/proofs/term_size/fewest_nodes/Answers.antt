use Rattle.pf_isa.proofs.NodeLaws.{text_nodes}
use Rattle.pf_isa.proofs.term_size.fewest_nodes.Goals as goal

pub returns : goal.returns
returns c = text_nodes c.args.text.now c.in_ok-tokens.tokens.items c.node_tokens.result c.in_ok-tokens.ensures (rw c.as_slice.ensures.value at c.node_tokens.ensures)
