use Rattle.std.proofs.Common.{◌≡◌, rules, sym, subst}
use Rattle.std.specs.Prelude.{IfOk}
use Rattle.pf_isa.specs.declared.so_far.Stage.TheVariants.{Declarations, Scratch, Cost}
use Rattle.pf_isa.specs.Steps.HeadWords.{IsTheOne}
use Rattle.pf_isa.specs.Steps.HeadSteps.{WordsGoOn}
use Rattle.pf_isa.specs.Meaning.TextFaults.{texts}
use Rattle.pf_isa.proofs.so_far.HeadSoFar.with_words.Goals as goal

pub returns-in-Declarations : goal.returns-in-Declarations
returns-in-Declarations c =
    let is : c.args.self.stage ≡ Declarations = search rules in
    subst (λ st. IfOk c.with_declaration.result (IsTheOne (WordsGoOn st c.args.self.head (texts c.args.words.now)))) (sym is) c.with_declaration.ensures

pub returns-in-Scratch : goal.returns-in-Scratch
returns-in-Scratch c =
    let is : c.args.self.stage ≡ Scratch = search rules in
    subst (λ st. IsTheOne (WordsGoOn st c.args.self.head (texts c.args.words.now)) c.with_scratch_words.result) (sym is) c.with_scratch_words.ensures

pub returns-in-Cost : goal.returns-in-Cost
returns-in-Cost c =
    let is : c.args.self.stage ≡ Cost = search rules in
    subst (λ st. IsTheOne (WordsGoOn st c.args.self.head (texts c.args.words.now)) c.with_cost_words.result) (sym is) c.with_cost_words.ensures
