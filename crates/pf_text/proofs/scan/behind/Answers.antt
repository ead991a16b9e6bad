use Rattle.pf_text.proofs.Fronts.{stripped}
use Rattle.pf_text.proofs.scan.behind.Goals as goal

pub returns : goal.returns
returns c = stripped c.args.word.now c.args.text.now c.strip_prefix.result c.strip_prefix.ensures.cases
