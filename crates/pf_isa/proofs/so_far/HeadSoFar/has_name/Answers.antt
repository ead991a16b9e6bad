use Rattle.std.proofs.Common.{map, rules}
use Rattle.pf_isa.proofs.NameLaws.{is_first, is_second}
use Rattle.pf_isa.proofs.so_far.HeadSoFar.has_name.Goals as goal

pub returns-then-has_image : goal.returns-then-has_image
returns-then-has_image c =
    (λ _. is_first (λ d. d.name) c.args.self.now.head.images (map (λ d. d.name) c.args.self.now.head.lifted) c.args.name.now (search rules), λ _. c.if-has_image.true)

pub returns-else-has_image : goal.returns-else-has_image
returns-else-has_image c =
    is_second (λ d. d.name) (λ d. d.name) c.args.self.now.head.images c.args.self.now.head.lifted c.args.name.now c.has_lifted.result (search rules) (search rules)
