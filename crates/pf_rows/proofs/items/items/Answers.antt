use Rattle.std.proofs.Common.{◌++◌, All, length, ap, sym, subst, ◌∙◌}
use Rattle.std.proofs.lemmas.Iterator.Adapters.{YieldsList-from_vec}
use Rattle.std.proofs.lemmas.Iterator.Consumers.{YieldsList-end}
use Rattle.std.proofs.lemmas.List.{flat_map_more, map-id}
use Rattle.std.proofs.lemmas.List.Elements.{All-push}
use Rattle.pf_rows.specs.Steps.RowCode.{item_lines, block_lines, IsOne}
use Rattle.pf_rows.proofs.items.items.Goals as goal

pub loop-step-preserved : goal.loop-step-preserved
loop-step-preserved g c =
    let inv = c.loop-step.invariant in
    record {
      code = c.in_ok-item.ensures.lines ∙ ap (λ l. l ++ item_lines g.I.Isa.table c.args.widths.now c.args.width c.in-Some.step) inv.code
          ∙ flat_map_more (λ i. item_lines g.I.Isa.table c.args.widths.now c.args.width i) c.args.code.now c.loop-step.yielded c.in-Some.step;
      known = All-push (λ i. IsOne g.I.Isa.is_op i) c.loop-step.yielded c.in-Some.step inv.known c.in_ok-item.ensures.known;
    }

pub returns-clause-lines : goal.returns-clause-lines
returns-clause-lines g c =
    let e = YieldsList-end (YieldsList-from_vec c.args.block (c.into_iter-step-iterator.ensures.into_iter_gives.0 ∙ c.into_vec-step-items.ensures) (c.into_iter-step-iterator.ensures.into_iter_gives.1 ∙ c.into_vec-step-items.result.ok.0 ∙ ap length c.into_vec-step-items.ensures)) c.loop-step.yielded c.loop-step.step-iterator c.loop-step.yielded_by c.next.result c.next.new.self c.in-None.is c.next.ensures.steps in
    let all = sym (map-id c.loop-step.yielded) ∙ e.0 in
    c.loop-step.invariant.code ∙ ap (λ l. c.args.code.now ++ block_lines g.I.Isa.table c.args.widths.now c.args.width l) all

pub returns-clause-known : goal.returns-clause-known
returns-clause-known g c =
    let e = YieldsList-end (YieldsList-from_vec c.args.block (c.into_iter-step-iterator.ensures.into_iter_gives.0 ∙ c.into_vec-step-items.ensures) (c.into_iter-step-iterator.ensures.into_iter_gives.1 ∙ c.into_vec-step-items.result.ok.0 ∙ ap length c.into_vec-step-items.ensures)) c.loop-step.yielded c.loop-step.step-iterator c.loop-step.yielded_by c.next.result c.next.new.self c.in-None.is c.next.ensures.steps in
    let all = sym (map-id c.loop-step.yielded) ∙ e.0 in
    subst (λ l. All (λ i. IsOne g.I.Isa.is_op i) l) all c.loop-step.invariant.known
