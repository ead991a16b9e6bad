use Rattle.std.proofs.Common.{◌≡◌, rules, subst}
use Rattle.std.specs.Prelude.{IfOk}
use Rattle.std.specs.List.{slice_split}
use Rattle.pf_isa.specs.Steps.HeadWords.{IsTheOne, is_space}
use Rattle.pf_isa.specs.Steps.HeadSteps.{WordsGoOn}
use Rattle.pf_isa.specs.Meaning.TextFaults.{texts}
use Rattle.pf_isa.proofs.so_far.HeadSoFar.with_tight.Goals as goal

pub returns : goal.returns
returns c =
    let is : texts c.as_slice.result.now ≡ slice_split is_space c.args.tight.now = search rules in
    subst (λ ws. IfOk c.with_words.result (IsTheOne (WordsGoOn c.args.self.stage c.args.self.head ws))) is c.with_words.ensures
