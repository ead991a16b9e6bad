use Rattle.std.proofs.Common.{rules, ◌≡◌, ◌++◌, []}
use Rattle.pf_rules.specs.Meaning.Rules.{pair}
use Rattle.pf_match.specs.Meaning.Candidates.{type_before}
use Rattle.pf_match.proofs.KeyLaws.{types_more}
use Rattle.pf_match.proofs.roots.types_at.Goals as goal

pub loop-pair-preserved : goal.loop-pair-preserved
loop-pair-preserved c =
    let longer : c.match-found.types ≡ c.loop-pair.types ++ type_before c.in_ok-found.found [] = search rules in
    types_more c.args.parts.now c.args.pairs.now c.loop-pair.pair-index (pair 0 0) c.loop-pair.types c.match-found.types c.in_ok-found.found c.loop-pair.invariant c.loop-pair-test.true c.in_ok-found.ensures longer
