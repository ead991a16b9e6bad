use Rattle.pf_check.proofs.FileLaws.{suits_of}
use Rattle.pf_check.proofs.files.judge_file.Goals as goal

pub judge_rules-requires : goal.judge_rules-requires
judge_rules-requires c = rw (c.as_slice-rules.ensures, c.parts-parts.ensures.value) (suits_of c.args.file.now c.parts-parts.ensures.kept)
