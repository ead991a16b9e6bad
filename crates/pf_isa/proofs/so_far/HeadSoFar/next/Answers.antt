use Rattle.std.proofs.Common.{◌≡◌, ◌≢◌, rules}
use Rattle.std.specs.List.{slice_split}
use Rattle.pf_isa.specs.declared.so_far.Stage.TheVariants.{Lifted}
use Rattle.pf_isa.specs.Steps.HeadWords.{words_in, is_space}
use Rattle.pf_isa.proofs.HeadLineLaws.{words_line_goes, lifted_stage}
use Rattle.pf_isa.proofs.so_far.HeadSoFar.next.Goals as goal

pub returns-then-eq : goal.returns-then-eq
returns-then-eq c =
    let is : c.args.self.stage ≡ Lifted = search rules in
    lifted_stage c.args.self c.args.line.now c.with_lifted_line.result is c.with_lifted_line.ensures

pub returns : goal.returns
returns c =
    let other : c.args.self.stage ≢ Lifted = λ e. search rules in
    let is : slice_split is_space c.as_slice.result.now ≡ words_in c.args.line.now = search rules in
    let words = slice_split is_space c.as_slice.result.now in
    words_line_goes c.args.self.stage c.args.self.head c.args.line.now words c.with_tight.result other c.requires is c.with_tight.ensures
