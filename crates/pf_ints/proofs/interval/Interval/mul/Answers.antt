use Rattle.std.proofs.Common.{refl}
use Rattle.pf_ints.proofs.RangeLaws.{answered, least_product}
use Rattle.pf_ints.proofs.interval.Interval.mul.Goals as goal

pub returns-clause-least : goal.returns-clause-least
returns-clause-least c = (answered _ _ _ _ _ (least_product _ _ c.product.ensures.kept c.product.ensures.kept_o) c.product.ensures.value refl refl).0
