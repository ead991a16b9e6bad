use Rattle.pf_terms.proofs.TreeTexts.{unsigned_here, tree_only, tree_told}
use Rattle.pf_terms.proofs.parse.read.read_draft.Goals as goal

pub read_tokens-requires : goal.read_tokens-requires
read_tokens-requires c = unsigned_here c.args.text.now c.in_ok-tokens.tokens.items c.as_slice.result.now c.in_ok-tokens.ensures c.as_slice.ensures.value

pub returns-clause-only : goal.returns-clause-only
returns-clause-only c =
    tree_only c.args.text.now c.in_ok-tokens.tokens.items c.as_slice.result.now c.read_tokens.result c.in_ok-tokens.ensures c.as_slice.ensures.value c.read_tokens.ensures.found c.read_tokens.ensures.fault

pub returns-clause-told : goal.returns-clause-told
returns-clause-told c =
    tree_told c.args.text.now c.in_ok-tokens.tokens.items c.as_slice.result.now c.read_tokens.result c.in_ok-tokens.ensures c.as_slice.ensures.value c.read_tokens.ensures.found c.read_tokens.ensures.fault
