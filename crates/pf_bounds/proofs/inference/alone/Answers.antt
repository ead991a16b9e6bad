use Rattle.std.proofs.Common.{rules, ◌≡◌, Some}
use Rattle.std.proofs.lemmas.Int.{to_z-of_z}
use Rattle.pf_ints.specs.Meaning.Ranges.{range, within}
use Rattle.pf_bounds.proofs.TermLaws.{const_member}
use Rattle.pf_bounds.proofs.inference.alone.Goals as goal

pub returns-clause-member : goal.returns-clause-member
returns-clause-member c =
    let e : within (range c.args.n c.args.n) ≡ Some c.found-interval.result = search (rules, to_z-of_z) in
    const_member c.args._ty c.args.n c.found-interval.result e c.requires
