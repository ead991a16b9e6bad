use Rattle.std.proofs.Common.{◌≡◌, ◌∙◌, sym, ap, subst, false}
use Rattle.std.specs.Prelude.{codes}
use Rattle.std.specs.Str.{bytes_eq}
use Rattle.pf_rulefile.specs.Steps.NumberReads.{Gives}
use Rattle.pf_rulefile.specs.declared.part.Part.{Part}
use Rattle.pf_rulefile.specs.Meaning.Tokens.{tokens}
use Rattle.pf_rulefile.specs.Steps.Fronts.{sign_by}
use Rattle.pf_rulefile.specs.Meaning.Grammar.{times_of, sum_op_of}
use Rattle.pf_rulefile.specs.declared.word.Language.TheVariants.{Operators, Lanes}
use Rattle.pf_rulefile.specs.Steps.Parts.{parts}
use Rattle.pf_rulefile.specs.Steps.SideReads.{atom_read, product_read, side_read}
use Rattle.pf_rulefile.proofs.ChainLaws.{pair_step, operands_step, loose_step, side_by_operators, side_by_lanes, atom_by_operators, atom_by_lanes}
use Rattle.pf_rulefile.proofs.side.+side.Goals as goal

pub operands-operands-preserved : goal.operands-operands-preserved
operands-operands-preserved t c =
    let vars = c.args.vars.now in
    c.operands.invariant
    ∙ operands_step Part (parts vars) (side_read (parts vars) c.args.most c.args.language c.args.depth) c.operands.part c.in_ok-next.next c.in_ok-part.part (tokens c.operands.rest.now) (tokens c.in_ok-onward.onward.now) (tokens c.in_ok-next.behind.now)
    c.operands.left c.operands-test.true c.in_ok-onward.ensures c.in_ok-next.ensures c.in_ok-part.ensures

pub product-links-preserved : goal.product-links-preserved
product-links-preserved t c =
    let vars = c.args.vars.now in
    let n = c.in_ok-next-in-Some in
    c.links.invariant
    ∙ pair_step Part (parts vars) (atom_read (parts vars) c.args.most Operators (side_read (parts vars) c.args.most Operators c.args.depth) c.args.depth) c.links.part n.next c.in_ok-part-in-Some.part (tokens c.links.rest.now) (tokens c.in-Some.onward.now) (tokens n.behind.now)
    (sign_by times_of) c.in-Some.op c.links.left c.links-test.true c.in-Some.ensures n.ensures c.in_ok-part-in-Some.ensures

pub summed-links-preserved : goal.summed-links-preserved
summed-links-preserved t c =
    let vars = c.args.vars.now in
    let n = c.in_ok-next-in-Some in
    c.links.invariant
    ∙ pair_step Part (parts vars) (product_read (parts vars) c.args.most (side_read (parts vars) c.args.most Operators c.args.depth) c.args.depth) c.links.part n.next c.in_ok-part-in-Some.part (tokens c.links.rest.now) (tokens c.in-Some.onward.now) (tokens n.behind.now)
    (sign_by sum_op_of) c.in-Some.op c.links.left c.links-test.true c.in-Some.ensures n.ensures c.in_ok-part-in-Some.ensures

pub loose_operands-operands-preserved : goal.loose_operands-operands-preserved
loose_operands-operands-preserved t c =
    let vars = c.args.vars.now in
    let n = c.in_ok-next-in-Err-Syntax in
    let p = c.in_ok-part-in-Err-Syntax in
    c.operands.invariant
    ∙ loose_step Part (parts vars) (side_read (parts vars) c.args.most Lanes c.args.depth) c.operands.part n.next p.part (tokens c.operands.rest.now) (tokens c.in-Some.onward.now) (tokens n.behind.now)
    c.args.most c.saturating_sub-inside.result c.operands.left c.operands-test.true c.in-Some.ensures (rw c.in-Err-Syntax.field-0-is at c.in-Err-Syntax.ensures) n.ensures p.ensures

pub atom-returns-in-Operators : goal.atom-returns-in-Operators
atom-returns-in-Operators t c =
    let w = c.in-Some.found.0.now in
    let bracket : bytes_eq w (codes "(") ≡ false = ap (bytes_eq w) (sym c.as_slice.ensures) ∙ sym c.eq.ensures ∙ c.if-eq.false in
    let brace : bytes_eq w (codes "{") ≡ false = ap (bytes_eq w) (sym c.as_slice-2.ensures) ∙ sym c.eq-2.ensures ∙ c.if-eq-2.false in
    subst (Gives c.operators.result)
    (sym (atom_by_operators (parts c.args.vars.now) c.args.most c.args.language c.args.depth w (tokens c.args.text.now) (tokens c.in-Some.found.1.now) c.in-Some.ensures.value bracket brace c.in-Operators.is)) c.operators.ensures

pub atom-returns-in-Lanes : goal.atom-returns-in-Lanes
atom-returns-in-Lanes t c =
    let w = c.in-Some.found.0.now in
    let bracket : bytes_eq w (codes "(") ≡ false = ap (bytes_eq w) (sym c.as_slice.ensures) ∙ sym c.eq.ensures ∙ c.if-eq.false in
    let brace : bytes_eq w (codes "{") ≡ false = ap (bytes_eq w) (sym c.as_slice-2.ensures) ∙ sym c.eq-2.ensures ∙ c.if-eq-2.false in
    subst (Gives c.lanes.result)
    (sym (atom_by_lanes (parts c.args.vars.now) c.args.most c.args.language c.args.depth w (tokens c.args.text.now) (tokens c.in-Some.found.1.now) c.in-Some.ensures.value bracket brace c.in-Lanes.is)) c.lanes.ensures

pub side-returns-in-Operators : goal.side-returns-in-Operators
side-returns-in-Operators t c =
    subst (Gives c.whole.result) (sym (side_by_operators (parts c.args.vars.now) c.args.most c.args.language c.args.depth (tokens c.args.text.now) c.if-depth-eq0.false c.in-Operators.is)) c.whole.ensures

pub side-returns-in-Lanes : goal.side-returns-in-Lanes
side-returns-in-Lanes t c =
    subst (Gives c.atom.result) (sym (side_by_lanes (parts c.args.vars.now) c.args.most c.args.language c.args.depth (tokens c.args.text.now) c.if-depth-eq0.false c.in-Lanes.is)) c.atom.ensures
