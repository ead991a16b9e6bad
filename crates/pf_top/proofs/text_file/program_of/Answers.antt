use Rattle.std.proofs.Common.{length, rules}
use Rattle.pf_top.proofs.Files.{limit_low}
use Rattle.pf_top.proofs.text_file.program_of.Goals as goal

pub read_any-requires : goal.read_any-requires
read_any-requires c = limit_low (length c.args.text.now) (search rules)
