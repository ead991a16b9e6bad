use Rattle.std.proofs.Common.{rules, ◌≡◌}
use Rattle.pf_match.proofs.TrialLaws.{equal_start}
use Rattle.pf_match.proofs.equality.+equal.Goals as goal

pub loop-n-init : goal.loop-n-init
loop-n-init t c =
    let i = c.in-Node-Node in
    let op : i.op ≡ i.other = search rules in
    let ty : i.ty ≡ i.u = search rules in
    let k : i.k ≡ i.l = search rules in
    record {
      alike = search rules;
      rest = equal_start c.args.a.now c.args.b.now i.op i.other i.ty i.u i.k i.l i.args c.as_slice-arg-items.result.now i.terms i.is-0 i.is-1 c.as_slice-arg-items.ensures op ty k;
    }
