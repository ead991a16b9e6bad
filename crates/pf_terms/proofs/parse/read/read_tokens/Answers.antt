use Rattle.std.proofs.Common.{arith, sym, ◌∙◌}
use Rattle.pf_terms.proofs.Places.{token_fault, keeps_token, tokens_drafted, tokens_end}
use Rattle.pf_terms.proofs.parse.read.read_tokens.Goals as goal

pub returns-then-not-branch-clause-fault : goal.returns-then-not-branch-clause-fault
returns-then-not-branch-clause-fault c =
    token_fault c.args.tokens.now c.loop-n.n c.index-tokens-n.result c.loop-n.reader c.take.new.self c.in_ok-take.field-0 c.is_own.result c.fault_place-at.result c.loop-n-test.true c.index-tokens-n.is c.in_ok-take.ensures
    c.if-not-branch.true c.is_own.ensures c.fault_place-at.ensures c.loop-n.invariant

pub loop-n-preserved : goal.loop-n-preserved
loop-n-preserved c =
    keeps_token c.args.tokens.now c.loop-n.n c.index-tokens-n.result c.loop-n.reader c.take.new.self c.in_ok-take.field-0 c.loop-n-test.true c.index-tokens-n.is c.in_ok-take.ensures c.if-not-branch.false c.loop-n.invariant

pub returns-in-Some-clause-found : goal.returns-in-Some-clause-found
returns-in-Some-clause-found c =
    tokens_drafted c.args.tokens.now c.loop-n.n c.loop-n.reader c.in-Some.tree (omega arith) c.loop-n-test.false (sym c.in-Some.is ∙ c.in_ok-tree.ensures) c.loop-n.invariant

pub returns-in-None-clause-fault : goal.returns-in-None-clause-fault
returns-in-None-clause-fault c =
    tokens_end c.args.tokens.now c.loop-n.n c.loop-n.reader c.token_place.result (omega arith) c.loop-n-test.false (sym c.in-None.is ∙ c.in_ok-tree.ensures) c.token_place.ensures c.loop-n.invariant
