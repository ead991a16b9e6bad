use Rattle.std.proofs.Common.{◌≡◌, refl, sym, ap, ◌∙◌, subst, length, true, All, get_or}
use Rattle.pf_terms.specs.Steps.Building.{is_formed_tree}
use Rattle.pf_terms.proofs.Lookups.{HasPair}
use Rattle.pf_terms.proofs.TreeParts.{formed_node, uses_more, uses_all}
use Rattle.pf_terms.proofs.wide_taps.+add_uses.Goals as goal

pub loop-n-init : goal.loop-n-init
loop-n-init t c =
    let parts = formed_node c.args.tree.now c.in-Node.op c.in-Node.less c.in-Node.ty c.in-Node.k c.in-Node.args c.in-Node.is c.requires.formed in
    record {
      formed = subst (λ xs. All (λ d. is_formed_tree d ≡ true) xs) (sym c.as_slice-args.ensures) parts.each;
      pair = subst (λ xs. HasPair c.in-Node.less (length xs)) (sym c.as_slice-args.ensures) parts.pair;
      onward = refl;
    }

pub loop-n-preserved : goal.loop-n-preserved
loop-n-preserved t c =
    let i = c.loop-n.invariant in
    record {
      formed = i.formed;
      pair = i.pair;
      onward = uses_more c.args.images.now c.in-Node.less c.as_slice-args.result.now c.loop-n.n c.index-args-place_in_order.result c.loop-n.wide_taps c.add_uses.new.wide_taps _ i.pair c.loop-n-test.true
          (c.index-args-place_in_order.is ∙ ap (λ k. get_or c.as_slice-args.result.now k c.index-args-place_in_order.result) c.place_in_order.ensures) c.in_ok-add_uses-in-Node.ensures i.onward;
    }

pub returns-after-loop-n : goal.returns-after-loop-n
returns-after-loop-n t c =
    uses_all c.args.images.now c.args.tree.now c.in-Node.op c.in-Node.less c.in-Node.ty c.in-Node.k c.in-Node.args c.as_slice-args.result.now c.loop-n.n c.loop-n.wide_taps c.args.wide_taps.now
    c.in-Node.is c.as_slice-args.ensures c.loop-n-test.false c.loop-n.invariant.onward
