use Rattle.std.proofs.Common.{rules}
use Rattle.pf_isa.proofs.LineLaws.{long_line}
use Rattle.pf_isa.proofs.target_line.is_for.Goals as goal

pub returns-in-None : goal.returns-in-None
returns-in-None c = (λ h. absurd (search rules), λ h. absurd (long_line c.args.line.now c.args.target c.in-None.ensures h))
