use Rattle.std.proofs.Common.{rules}
use Rattle.std.proofs.lemmas.Int.{to_z-of_z}
use Rattle.pf_values.proofs.Bounds.{product_within}
use Rattle.pf_values.proofs.values.product.Goals as goal

pub returns-clause-bound : goal.returns-clause-bound
returns-clause-bound c =
    let b = product_within c.args.x c.args.y c.requires.first c.requires.second in
    search (rules, to_z-of_z)

pub returns-clause-value : goal.returns-clause-value
returns-clause-value c =
    let b = product_within c.args.x c.args.y c.requires.first c.requires.second in
    search (rules, to_z-of_z)
