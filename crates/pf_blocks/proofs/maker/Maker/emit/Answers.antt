use Rattle.std.proofs.Common.{arith, rules, ◌≡◌, ◌+◌, ◌++◌, [], ◌∷◌}
use Rattle.pf_machine.specs.declared.block.Item.TheVariants.{Vector}
use Rattle.pf_blocks.specs.Meaning.Growth.{IsOperation}
use Rattle.pf_blocks.proofs.GrowthLaws.{continues_one}
use Rattle.pf_blocks.proofs.maker.Maker.emit.Goals as goal

pub returns-clause-continues : goal.returns-clause-continues
returns-clause-continues g c =
    let old = c.args.self.now in
    let e : c.push.new.self ≡ old.items ++ Vector c.args.op ∷ [] = search rules in
    rw e (continues_one g.I.Isa.table (IsOperation g.I.Isa.is_op) old.items (Vector c.args.op) old.next (old.next + 1) 1 (g.I.Isa.table.cost c.args.op)
    (record { kind = c.known.ensures; within = c.requires.within; fresh = c.requires.fresh }) (omega arith) (omega arith) (omega arith))
