use Rattle.std.proofs.Common.{◌∙◌, sym, [], ◌∷◌}
use Rattle.std.proofs.lemmas.Bool.Decides.{Decides-eqb}
use Rattle.std.proofs.lemmas.Slice.Eq.{strip_suffix_is}
use Rattle.pf_isa.proofs.code_line.label_of.Goals as goal

pub returns : goal.returns
returns c =
    (sym c.is_name.ensures ∙ c.if-not-is_name.false, rw c.in_ok-name.was at (strip_suffix_is Decides-eqb c.args.line.now (58 ∷ []) c.strip_suffix.result c.strip_suffix.ensures.cases))
