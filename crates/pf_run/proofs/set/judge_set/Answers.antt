use Rattle.std.proofs.Common.{refl}
use Rattle.pf_run.proofs.SetLaws.{found_first, found_refused, found_kept}
use Rattle.pf_run.proofs.set.judge_set.Goals as goal

pub returns-in-Some-clause-judged : goal.returns-in-Some-clause-judged
returns-in-Some-clause-judged c =
    found_first _ c.args.taps.now _ _ _ _ c.as_slice-set.ensures c.size_of-width.ensures.width c.size_of-width.ensures.height c.if-set-images.false c.in-Some.fault c.in-Some.ensures

pub returns-in-Some-clause-refused : goal.returns-in-Some-clause-refused
returns-in-Some-clause-refused c =
    found_refused _ c.args.taps.now _ _ _ _ c.as_slice-set.ensures c.size_of-width.ensures.width c.size_of-width.ensures.height c.if-set-images.false c.in-Some.fault c.in-Some.ensures

pub returns-then-has_output-clause-judged : goal.returns-then-has_output-clause-judged
returns-then-has_output-clause-judged c =
    found_kept _ c.args.taps.now _ _ _ _ c.as_slice-set.ensures c.size_of-width.ensures.width c.size_of-width.ensures.height c.if-set-images.false c.in_default.ensures (c.if-has_output.ensures.0 refl)
