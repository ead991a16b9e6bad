use Rattle.std.proofs.Common.{◌≡◌, ◌∙◌, sym, ap, true, not, ◌==◌}
use Rattle.std.specs.List.{list_all}
use Rattle.pf_text.specs.Meaning.Lines.{tight}
use Rattle.pf_isa.specs.Meaning.Texts.{uncommented_code}
use Rattle.pf_isa.proofs.CodeLineLaws.{no_return, blank_line, label_tight, means_same, nothing_said}
use Rattle.pf_isa.proofs.code_line.code_line.Goals as goal

pub returns-then-bare-lt1 : goal.returns-then-bare-lt1
returns-then-bare-lt1 g c =
    let plain : list_all (λ b. not (b == 13)) c.args.line.now ≡ true = no_return c.args.line.now (sym c.contains.ensures.value ∙ c.if-contains.false) in
    let same : tight c.trimmed-bare.result.now ≡ tight (uncommented_code c.args.line.now) = c.trimmed-bare.ensures.same ∙ ap tight c.uncommented_code.ensures in
    ((plain, sym same ∙ blank_line c.trimmed-bare.result.now c.if-bare-lt1.true), tt)

pub returns-in-Some : goal.returns-in-Some
returns-in-Some g c =
    let plain : list_all (λ b. not (b == 13)) c.args.line.now ≡ true = no_return c.args.line.now (sym c.contains.ensures.value ∙ c.if-contains.false) in
    let same : tight c.trimmed-bare.result.now ≡ tight (uncommented_code c.args.line.now) = c.trimmed-bare.ensures.same ∙ ap tight c.uncommented_code.ensures in
    ((plain, (c.in-Some.ensures.0, sym same ∙ ap tight c.in-Some.ensures.1 ∙ label_tight c.in-Some.name.now c.in-Some.ensures.0)), tt)

pub returns-in-Some-instruction_of : goal.returns-in-Some-instruction_of
returns-in-Some-instruction_of g c =
    let plain : list_all (λ b. not (b == 13)) c.args.line.now ≡ true = no_return c.args.line.now (sym c.contains.ensures.value ∙ c.if-contains.false) in
    let same : tight c.trimmed-bare.result.now ≡ tight (uncommented_code c.args.line.now) = c.trimmed-bare.ensures.same ∙ ap tight c.uncommented_code.ensures in
    ((plain, means_same g.I.Isa.table c.in-Some-instruction_of.instruction _ _ (sym same) c.in-Some-instruction_of.ensures.1), c.in-Some-instruction_of.ensures.0)

pub returns-in-None : goal.returns-in-None
returns-in-None g c =
    let same : tight c.trimmed-bare.result.now ≡ tight (uncommented_code c.args.line.now) = c.trimmed-bare.ensures.same ∙ ap tight c.uncommented_code.ensures in
    nothing_said g.I.Isa.table g.I.Isa.is_op c.args.line.now c.trimmed-bare.result.now same c.trimmed-bare.ensures.front c.trimmed-bare.ensures.back c.if-bare-lt1.false c.in_default.ensures c.in-None.ensures
