use Rattle.std.proofs.Common.{arith}
use Rattle.std.proofs.lemmas.List.Elements.{All-more}
use Rattle.pf_isa.specs.Meaning.Texts.{IsOpOf}
use Rattle.pf_isa.proofs.TextLaws.{code_lines-drop, written_on}
use Rattle.pf_isa.proofs.write.push_code.Goals as goal

pub loop-line-preserved : goal.loop-line-preserved
loop-line-preserved g c =
    let within = c.loop-line-test.true in
    let rest = rw (code_lines-drop g.I.Isa.table c.loop-line.n c.loop-line.line-index c.args.code.now c.loop-line.rest.now c.line-item.result within c.line-item.is) at c.loop-line.invariant.text in
    record {
      text = rw c.in_ok-rest.ensures.rest (written_on _ _ _ _ _ _ _ c.in_ok-rest.ensures.text c.in_ok-push_instruction.ensures.text rest);
      known = All-more (λ line. IsOpOf g.I.Isa.is_op line) c.args.code.now c.loop-line.line-index c.line-item.result within c.loop-line.invariant.known (rw c.line-item.is at c.in_ok-push_instruction.ensures.known);
      count = omega (arith, c.loop-line.invariant.count);
    }
