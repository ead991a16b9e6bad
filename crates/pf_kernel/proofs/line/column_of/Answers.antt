use Rattle.std.proofs.Common.{◌≤◌, length, arith}
use Rattle.pf_kernel.proofs.LineLaws.{place_fits}
use Rattle.pf_kernel.proofs.line.column_of.Goals as goal

pub overflow_add-result : goal.overflow_add-result
overflow_add-result c =
    let fits : c.token_place.result ≤ length c.args.text.now = omega (arith, place_fits c.args.text.now c.args.tokens.now c.told_at.result c.requires.lexed, c.token_place.ensures) in
    omega arith
