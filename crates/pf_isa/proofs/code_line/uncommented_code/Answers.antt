use Rattle.std.proofs.Common.{◌≡◌, ◌∙◌, sym, [], ◌∷◌, drop, false}
use Rattle.std.specs.Bool.{nat_eq}
use Rattle.std.specs.List.{starts_with}
use Rattle.std.proofs.lemmas.List.{take_rest}
use Rattle.pf_isa.proofs.CodeLineLaws.{uncommented_more}
use Rattle.pf_isa.proofs.code_line.uncommented_code.Goals as goal

pub loop-i-preserved : goal.loop-i-preserved
loop-i-preserved c =
    let line = c.args.line.now in
    let i = c.loop-i.i in
    let none : starts_with nat_eq (drop i line) (47 ∷ 47 ∷ []) ≡ false = rw (take_rest line i) at (sym c.starts_with.ensures.value ∙ c.if-starts_with.false) in
    c.loop-i.invariant ∙ sym (uncommented_more line i c.loop-i-test.true none)
