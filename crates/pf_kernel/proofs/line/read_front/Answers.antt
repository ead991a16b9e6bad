use Rattle.std.proofs.Common.{refl, sym, ◌∙◌, ap, subst, Result}
use Rattle.pf_terms.specs.declared.meaning.ReadFault.{ReadFault}
use Rattle.pf_terms.specs.Meaning.Tokens.{kinds}
use Rattle.pf_kernel.specs.declared.front.Front.{Front}
use Rattle.pf_kernel.specs.declared.front.Front.TheVariants.{Kernel as KernelFront, Image as ImageFront, Def as DefFront, Out as OutFront}
use Rattle.pf_kernel.specs.declared.reading.Reading.{Reading}
use Rattle.pf_kernel.specs.Meaning.Lines.{Bare, IsShape}
use Rattle.pf_kernel.specs.Steps.Readings.{begun_of, AnswersTokens, IsNearColumn, moved}
use Rattle.pf_kernel.proofs.FrontLaws.{bare_answers, near_column, moved_answers}
use Rattle.pf_kernel.proofs.line.read_front.Goals as goal

pub moved-requires : goal.moved-requires
moved-requires c =
    let b = begun_of c.args.reading in
    subst (λ n. IsNearColumn n c.read_def-read.result) (sym c.end_of.ensures)
    (near_column b (DefFront c.in-Def.name c.in-Def.ty) c.args.text.now c.expression_of.result.now c.args.tokens.now 3 c.read_def-read.result c.requires.lexed c.requires.short c.expression_of.ensures c.read_def-read.ensures.answers)

pub moved-requires-in-Out : goal.moved-requires-in-Out
moved-requires-in-Out c =
    let b = begun_of c.args.reading in
    subst (λ n. IsNearColumn n c.read_out-read.result) (sym c.end_of-in-Out.ensures)
    (near_column b (OutFront c.in-Out.ty) c.args.text.now c.expression_of-in-Out.result.now c.args.tokens.now 2 c.read_out-read.result c.requires.lexed c.requires.short c.expression_of-in-Out.ensures c.read_out-read.ensures.answers)

pub returns-in-Kernel-clause-answers : goal.returns-in-Kernel-clause-answers
returns-in-Kernel-clause-answers c =
    let shape = subst (λ (f : Front). IsShape (begun_of c.args.reading) (kinds c.args.tokens.now) f) c.in-Kernel.is c.requires.shape in
    (Bare (KernelFront c.in-Kernel.name), (shape, refl), (refl, c.called.ensures.value))

pub returns-in-Image-clause-answers : goal.returns-in-Image-clause-answers
returns-in-Image-clause-answers c =
    let b = begun_of c.args.reading in
    let shape = subst (λ (f : Front). IsShape b (kinds c.args.tokens.now) f) c.in-Image.is c.requires.shape in
    bare_answers b (ImageFront c.in-Image.image) c.args.text.now c.args.tokens.now shape c.read_image.result refl c.read_image.ensures.answers

pub returns-in-Def-clause-answers : goal.returns-in-Def-clause-answers
returns-in-Def-clause-answers c =
    let b = begun_of c.args.reading in
    let shape = subst (λ (f : Front). IsShape b (kinds c.args.tokens.now) f) c.in-Def.is c.requires.shape in
    let told = c.moved.ensures ∙ ap (λ n. moved n c.read_def-read.result) c.end_of.ensures in
    subst (λ (r : Result Reading ReadFault). AnswersTokens b c.args.text.now c.args.tokens.now r) (sym told)
    (moved_answers b (DefFront c.in-Def.name c.in-Def.ty) c.args.text.now c.args.tokens.now shape c.expression_of.result.now 3 c.read_def-read.result refl c.expression_of.ensures c.read_def-read.ensures.answers)

pub returns-in-Out-clause-answers : goal.returns-in-Out-clause-answers
returns-in-Out-clause-answers c =
    let b = begun_of c.args.reading in
    let shape = subst (λ (f : Front). IsShape b (kinds c.args.tokens.now) f) c.in-Out.is c.requires.shape in
    let told = c.moved-in-Out.ensures ∙ ap (λ n. moved n c.read_out-read.result) c.end_of-in-Out.ensures in
    subst (λ (r : Result Reading ReadFault). AnswersTokens b c.args.text.now c.args.tokens.now r) (sym told)
    (moved_answers b (OutFront c.in-Out.ty) c.args.text.now c.args.tokens.now shape c.expression_of-in-Out.result.now 2 c.read_out-read.result refl c.expression_of-in-Out.ensures c.read_out-read.ensures.answers)
