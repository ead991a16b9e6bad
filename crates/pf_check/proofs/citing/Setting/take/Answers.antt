use Rattle.std.proofs.Common.{length}
use Rattle.pf_forms.specs.Meaning.Shapes.{shape}
use Rattle.pf_check.specs.Steps.Answers.{here}
use Rattle.pf_check.proofs.StepLaws.{keeps_put, kept_sized, taken_told}
use Rattle.pf_check.proofs.citing.Setting.take.Goals as goal

pub rewrite-requires : goal.rewrite-requires
rewrite-requires c = c.in-Some.ensures.form (length c.args.self.now.ranges.now) c.requires

pub returns-in-Err-clause-value : goal.returns-in-Err-clause-value
returns-in-Err-clause-value c = taken_told (here c.args.self.now) c.args.n c.args.step.now (shape c.args.form) (shape c.in-Some.part.now) c.in-Err.fault c.in-Some.ensures.value c.in-Err.ensures.value

pub returns-in-Ok-clause-keeps : goal.returns-in-Ok-clause-keeps
returns-in-Ok-clause-keeps c =
    kept_sized c.args.self.now.ranges.now (shape c.args.form) (shape c.put.result) c.sized.result c.sized.ensures.same
    (keeps_put c.args.self.now.ranges.now (shape c.args.form) (shape c.put.result) (shape c.in-Some.part.now) (shape c.in-Ok.new) c.args.step.now.path
    c.in-Some.ensures.value c.in-Ok.ensures.keeps c.requires c.put.ensures.form c.put.ensures.same_value)
