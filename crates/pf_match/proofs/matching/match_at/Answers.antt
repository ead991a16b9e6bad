use Rattle.std.proofs.Common.{◌≡◌, ap, ◌∙◌, Some}
use Rattle.pf_bounds.specs.Meaning.TermBounds.{part_of}
use Rattle.pf_match.proofs.matching.match_at.Goals as goal

pub returns : goal.returns
returns c =
    let t = c.in_ok-whole.whole.term in
    let at : part_of t c.new-2.result ≡ Some c.args.term.now = ap (part_of t) c.new-2.ensures ∙ ap Some (c.in_ok-whole.ensures.term ∙ c.in_ok-copy.ensures) in
    c.match_kept-2.ensures c.args.ranges.now c.args.term.now c.in_ok-whole.ensures.kept at
