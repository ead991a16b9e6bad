use Rattle.std.proofs.Common.{rules, arith, ◌≡◌}
use Rattle.std.proofs.lemmas.Int.{to_z-of_z}
use Rattle.pf_values.specs.Meaning.Operators.{row_of}
use Rattle.pf_values.proofs.Bounds.{two_told, four_told}
use Rattle.pf_values.proofs.values.applied.Goals as goal

pub returns-in-len2 : goal.returns-in-len2
returns-in-len2 c =
    let told : c.applied_to_two.result ≡ (row_of c.args.op).value c.args.ty c.args.k c.args.xs.now =
    two_told c.args.xs.now ((row_of c.args.op).value c.args.ty c.args.k) c.applied_to_two.result _ _ c.applied_to_two.ensures (omega arith) (search (rules, to_z-of_z)) (search (rules, to_z-of_z)) in
    search (rules, to_z-of_z)

pub returns-in-len4 : goal.returns-in-len4
returns-in-len4 c =
    let told : c.of_four.result ≡ (row_of c.args.op).value c.args.ty c.args.k c.args.xs.now =
    four_told c.args.xs.now ((row_of c.args.op).value c.args.ty c.args.k) c.of_four.result _ _ _ _ c.of_four.ensures (omega arith) (search (rules, to_z-of_z)) (search (rules, to_z-of_z)) (search (rules, to_z-of_z)) (search (rules, to_z-of_z)) in
    search (rules, to_z-of_z)
