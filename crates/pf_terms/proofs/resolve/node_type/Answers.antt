use Rattle.std.proofs.Common.{rules, ◌≡◌}
use Rattle.std.proofs.lemmas.Int.{to_z-of_z}
use Rattle.std.specs.Prelude.{unsigned_abs}
use Rattle.pf_terms.specs.Meaning.Meanings.{written_type}
use Rattle.pf_values.specs.Meaning.Operators.{row_of}
use Rattle.pf_values.specs.Meaning.Terms.{result_type, first_width}
use Rattle.pf_terms.proofs.Built.{types_told, amount_told, first_wide, some_operands}
use Rattle.pf_terms.proofs.resolve.node_type.Goals as goal

pub returns-in-Some-clause-found : goal.returns-in-Some-clause-found
returns-in-Some-clause-found c =
    let row = row_of c.args.op in
    let type : c.result_type-ty.result ≡ result_type row.gives (written_type c.args.ty) c.args.types.now = search rules in
    types_told row _ c.result_type-ty.result (unsigned_abs c.args.k) c.args.types.now c.type_fault.result c.in-Some.want c.in-Some.got type c.type_fault.ensures c.in-Some.is

pub returns-else-takes-clause-found : goal.returns-else-takes-clause-found
returns-else-takes-clause-found c =
    let row = row_of c.args.op in
    let type : c.result_type-ty.result ≡ result_type row.gives (written_type c.args.ty) c.args.types.now = search rules in
    let wide : c.width.result ≡ first_width c.args.types.now = first_wide c.args.types.now _ c.width.result _ c.requires (some_operands row.operands) c.width.ensures in
    let same : c.unsigned_abs-amount.result ≡ unsigned_abs c.args.k = search (rules, to_z-of_z) in
    amount_told row _ c.result_type-ty.result (unsigned_abs c.args.k) c.args.types.now c.type_fault.result c.takes.result c.width.result c.unsigned_abs-amount.result
    type c.type_fault.ensures c.in_default.is c.takes.ensures.value c.if-takes.false wide same
