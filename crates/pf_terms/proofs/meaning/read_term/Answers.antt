use Rattle.std.proofs.Common.{subst, sym, ap, ◌∙◌, length, ◌+◌, ◌≤◌}
use Rattle.std.specs.Prelude.{Err}
use Rattle.pf_terms.specs.declared.meaning.ReadFault.TheVariants.{Syntax}
use Rattle.pf_terms.proofs.TreeForms.{text_formed}
use Rattle.pf_terms.proofs.Meant.{only_meant, typed_told, named_told, names_told, refused, refusal_within}
use Rattle.pf_terms.proofs.OneFault.{meaning_told, syntax_told}
use Rattle.pf_terms.proofs.ReadBackMeanings.{read_back}
use Rattle.pf_terms.proofs.meaning.read_term.Goals as goal

pub meaning_of-requires-clause-formed : goal.meaning_of-requires-clause-formed
meaning_of-requires-clause-formed c = text_formed c.args.text.now c.in-Ok.tree c.in-Ok.ensures.found

pub returns-in-Ok-clause-only : goal.returns-in-Ok-clause-only
returns-in-Ok-clause-only c t after h =
    only_meant c.args.names.now c.args.text.now c.in-Ok.tree t after c.meaning_of.new.names c.meaning_of.result c.in-Ok.ensures.only h c.meaning_of.ensures.read c.meaning_of.ensures.fault

pub returns-in-Ok-clause-back : goal.returns-in-Ok-clause-back
returns-in-Ok-clause-back c = read_back c.args.names.now c.args.text.now c.meaning_of.result c.meaning_of.new.names c.requires (returns-in-Ok-clause-only c)

pub returns-in-Ok-clause-typed : goal.returns-in-Ok-clause-typed
returns-in-Ok-clause-typed c =
    typed_told c.args.names.now c.in-Ok.tree c.meaning_of.new.names c.meaning_of.result (text_formed c.args.text.now c.in-Ok.tree c.in-Ok.ensures.found) c.meaning_of.ensures.read

pub returns-in-Ok-clause-named : goal.returns-in-Ok-clause-named
returns-in-Ok-clause-named c = named_told c.args.names.now c.in-Ok.tree c.meaning_of.new.names c.meaning_of.result c.meaning_of.ensures.read

pub returns-in-Ok-clause-names : goal.returns-in-Ok-clause-names
returns-in-Ok-clause-names c = names_told c.args.names.now c.in-Ok.tree c.meaning_of.new.names c.meaning_of.result c.requires c.meaning_of.ensures.read

pub returns-in-Err-Syntax-clause-only : goal.returns-in-Err-Syntax-clause-only
returns-in-Err-Syntax-clause-only c t after h = refused h.tree c.in-Err-Syntax.field-0 c.in-Err-Syntax.at c.in-Err-Syntax.field-0-is (c.in-Err-Syntax.ensures.only h.tree h.spelled)

pub returns-in-Err-Syntax-clause-back : goal.returns-in-Err-Syntax-clause-back
returns-in-Err-Syntax-clause-back c = read_back c.args.names.now c.args.text.now (Err (Syntax c.column_of.result)) c.args.names.now c.requires (returns-in-Err-Syntax-clause-only c)

pub column_of-requires : goal.column_of-requires
column_of-requires c =
    subst (λ n. n ≤ length c.args.text.now) (sym c.in-Err-Syntax.at-is) (refusal_within c.args.text.now c.in-Err-Syntax.field-0 c.in-Err-Syntax.at c.in-Err-Syntax.field-0-is c.in-Err-Syntax.ensures.fault)

pub returns-in-Ok-clause-told : goal.returns-in-Ok-clause-told
returns-in-Ok-clause-told c =
    meaning_told c.args.names.now c.args.text.now c.in-Ok.tree c.meaning_of.new.names c.meaning_of.result c.in-Ok.ensures.only c.in-Ok.ensures.told c.meaning_of.ensures.read c.meaning_of.ensures.fault

pub returns-in-Err-Syntax-clause-told : goal.returns-in-Err-Syntax-clause-told
returns-in-Err-Syntax-clause-told c =
    syntax_told c.args.names.now c.args.text.now c.in-Err-Syntax.field-0 c.in-Err-Syntax.at c.column_of.result c.in-Err-Syntax.field-0-is (c.column_of.ensures ∙ ap (λ n. n + 1) c.in-Err-Syntax.at-is) c.in-Err-Syntax.ensures.only
    c.in-Err-Syntax.ensures.told
