use Rattle.std.proofs.Common.{rules, ◌≡◌, sym, ◌∙◌, true, false, length}
use Rattle.pf_rules.specs.Meaning.Instances.{instance_by}
use Rattle.pf_match.specs.Steps.Trials.{bound}
use Rattle.pf_match.proofs.TrialLaws.{head_found, head_given, operands_typed, rest_more, rest_not, clash, fails, over_args, many_found}
use Rattle.pf_match.proofs.trials.Trial.+fits.Goals as goal

pub loop-i-init : goal.loop-i-init
loop-i-init t c =
    let i = c.in-Node-Node in
    let self = c.args.self.now in
    let p = c.args.pattern.now in
    let u = c.args.term.now in
    let xs = c.as_slice-arg-items.result.now in
    let yes : c.is_head.result ≡ true = search rules in
    let head = c.is_head.ensures.0 yes in
    let f = instance_by self.w self.k (bound self) in
    record {
      alike = search rules;
      typed = operands_typed u i.other i.ty i.amount i.terms i.is-1 c.requires.typed;
      rest = (
        (λ all. head_given self.w self.k (bound self) p i.op i.to i.k i.args i.is-0 u i.other i.ty i.amount i.terms i.is-1 c.requires.typed head (over_args f xs i.args c.as_slice-arg-items.ensures ∙ all)),
        (λ h. sym (over_args f xs i.args c.as_slice-arg-items.ensures) ∙ (head_found self.w self.k (bound self) p i.op i.to i.k i.args i.is-0 u i.other i.ty i.amount i.terms i.is-1 h).1),
      );
    }

pub returns-then-not-is_head : goal.returns-then-not-is_head
returns-then-not-is_head t c =
    let i = c.in-Node-Node in
    let self = c.args.self.now in
    let none : c.is_head.result ≡ false = search rules in
    fails (λ h. clash c.is_head.result none (c.is_head.ensures.1 (head_found self.w self.k (bound self) c.args.pattern.now i.op i.to i.k i.args i.is-0 c.args.term.now i.other i.ty i.amount i.terms i.is-1 h).0))

pub returns-then-len : goal.returns-then-len
returns-then-len t c =
    let i = c.in-Node-Node in
    let self = c.args.self.now in
    fails (λ h.
    let many : length i.args ≡ length i.terms = many_found (instance_by self.w self.k (bound self)) i.args i.terms (head_found self.w self.k (bound self) c.args.pattern.now i.op i.to i.k i.args i.is-0 c.args.term.now i.other i.ty i.amount i.terms i.is-1 h).1 in
    c.if-len.true (c.len.ensures ∙ many ∙ sym c.len-in-Node-Node.ensures))

pub returns-then-not-fits : goal.returns-then-not-fits
returns-then-not-fits t c =
    let i = c.in-Node-Node in
    let self = c.args.self.now in
    let none : c.fits.result ≡ false = search rules in
    fails (rest_not (instance_by self.w self.k (bound self)) c.as_slice-arg-items.result.now i.terms _ c.loop-i.i c.arg-item.result c.index-as_slice-i.result c.loop-i.invariant.rest c.loop-i-test.true (search rules) c.arg-item.is
    (search rules) (λ h. clash c.fits.result none (c.fits.ensures.1 h)))

pub loop-i-preserved : goal.loop-i-preserved
loop-i-preserved t c =
    let i = c.in-Node-Node in
    let self = c.args.self.now in
    let yes : c.fits.result ≡ true = search rules in
    record {
      alike = c.loop-i.invariant.alike;
      typed = c.loop-i.invariant.typed;
      rest =
          rest_more (instance_by self.w self.k (bound self)) c.as_slice-arg-items.result.now i.terms _ c.loop-i.i c.arg-item.result c.index-as_slice-i.result c.loop-i.invariant.rest c.loop-i-test.true (search rules) c.arg-item.is
          (search rules) (c.fits.ensures.0 yes);
    }
