use Rattle.std.proofs.Common.{◌≡◌, sym, ◌∙◌, subst, length, map, Some, None, true}
use Rattle.pf_forms.specs.Meaning.Shapes.{shape}
use Rattle.pf_forms.specs.Meaning.Equality.{same}
use Rattle.pf_rules.specs.Meaning.Sides.{form_at}
use Rattle.pf_rules.specs.Meaning.Rules.{pair, pairs}
use Rattle.pf_check.specs.Meaning.Checks.{at_pair}
use Rattle.pf_check.specs.Meaning.Citing.{filled, bindings, has_pair, have_bounds, first_outside}
use Rattle.pf_check.proofs.CitingLaws.{sort_left, sort_right, bindings_formed, cited_keeps}
use Rattle.pf_check.proofs.citing.Setting.cite.Goals as goal

pub form_of-requires : goal.form_of-requires
form_of-requires c =
    let q = pair c.args.self.now.w c.shift_or-k.result in
    let has : has_pair (pairs c.rule-rule.result.now) q ≡ true = sym c.in_ok-has_pair.ensures ∙ c.if-not-branch.false in
    sort_left c.args.checked.now c.rule-rule.ensures.kept c.parts-parts.result.now (c.parts-parts.ensures.value ∙ c.rule-rule.ensures.value) q
    (subst (λ s. has_pair (pairs s) q ≡ true) (sym c.parts-parts.ensures.value) has)

pub form_of-requires-2 : goal.form_of-requires-2
form_of-requires-2 c =
    let q = pair c.args.self.now.w c.shift_or-k.result in
    let has : has_pair (pairs c.rule-rule.result.now) q ≡ true = sym c.in_ok-has_pair.ensures ∙ c.if-not-branch.false in
    sort_right c.args.checked.now c.rule-rule.ensures.kept c.parts-parts.result.now (c.parts-parts.ensures.value ∙ c.rule-rule.ensures.value) q
    (subst (λ s. has_pair (pairs s) q ≡ true) (sym c.parts-parts.ensures.value) has)

pub have_bounds-requires : goal.have_bounds-requires
have_bounds-requires c =
    let found = sym (rw c.in-Some.is at c.in_ok-forms.ensures) in
    rw c.deref-2.ensures.value (bindings_formed (length c.args.self.now.ranges.now) 0 c.as_slice.result.now (shape c.in_ok-left.left) (shape c.args.form.now) (map shape c.in-Some.forms.items) c.requires found).formed

pub first_outside-requires : goal.first_outside-requires
first_outside-requires c =
    let found = sym (rw c.in-Some.is at c.in_ok-forms.ensures) in
    rw c.deref-3.ensures.value (bindings_formed (length c.args.self.now.ranges.now) 0 c.as_slice.result.now (shape c.in_ok-left.left) (shape c.args.form.now) (map shape c.in-Some.forms.items) c.requires found).formed

pub returns-clause-keeps : goal.returns-clause-keeps
returns-clause-keeps c =
    let q = pair c.args.self.now.w c.shift_or-k.result in
    let r = c.parts-parts.result.now in
    let f = shape c.args.form.now in
    let xs = map shape c.in-Some.forms.items in
    let left = form_at (at_pair r q) r.lhs in
    let has : has_pair (pairs c.rule-rule.result.now) q ≡ true = sym c.in_ok-has_pair.ensures ∙ c.if-not-branch.false in
    let bound : bindings 0 r.vars left f ≡ Some xs = rw (c.as_slice.ensures, c.in_ok-left.ensures.form) at (sym (rw c.in-Some.is at c.in_ok-forms.ensures)) in
    let fits : same (filled xs left) f ≡ true = rw (c.deref.ensures.value, c.in_ok-left.ensures.form) at (sym c.fits.ensures ∙ c.if-not-fits.false) in
    let some : have_bounds c.args.self.now.ranges.now xs ≡ true = rw c.deref-2.ensures.value at (sym c.have_bounds.ensures ∙ c.if-not-have_bounds.false) in
    let none : first_outside q c.args.self.now.ranges.now r.vars xs ≡ None =
    rw (c.as_slice-2.ensures, c.deref-3.ensures.value) at (sym c.in_default-first_outside.ensures) in
    rw (c.in_ok-filled.ensures, c.deref-4.ensures.value, c.in_ok-right.ensures.form)
    (cited_keeps c.args.checked.now c.rule-rule.ensures.kept r (c.parts-parts.ensures.value ∙ c.rule-rule.ensures.value) q
    (subst (λ s. has_pair (pairs s) q ≡ true) (sym c.parts-parts.ensures.value) has)
    c.args.self.now.ranges.now f xs c.requires bound fits some none)
