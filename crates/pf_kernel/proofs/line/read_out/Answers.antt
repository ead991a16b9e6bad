use Rattle.std.proofs.Common.{◌≡◌, refl, ◌∙◌, ap, subst, ◌-◌, ◌^◌, min, sum, map, List}
use Rattle.pf_values.specs.declared.kernel.Definition.{Definition}
use Rattle.pf_values.specs.declared.names.Names.{Names}
use Rattle.pf_terms.specs.Meaning.Meanings.{names_after, term_of}
use Rattle.pf_values.specs.Meaning.Terms.{node_count}
use Rattle.pf_kernel.specs.Meaning.Lines.{names_in, nodes_in}
use Rattle.pf_kernel.specs.Steps.Readings.{begun_of}
use Rattle.pf_kernel.proofs.Growing.{out_set}
use Rattle.pf_kernel.proofs.line.read_out.Goals as goal

pub returns-in-Ok-clause-kept : goal.returns-in-Ok-clause-kept
returns-in-Ok-clause-kept c =
    let r = c.args.reading in
    let b = begun_of r in
    let now = c.read_expression.new.names in
    let x = c.in-Ok.term in
    let found = c.in-Ok.ensures.found in
    let names : now ≡ names_after (names_in b) found.0 = subst (λ (m : Names). now ≡ names_after m found.0) c.requires.good.same found.4 in
    let term : x ≡ term_of (names_after (names_in b) found.0) found.0 = subst (λ (m : Names). x ≡ term_of (names_after m found.0) found.0) c.requires.good.same found.3 in
    let counted : c.nodes_in.result ≡ min (nodes_in b) (2 ^ 64 - 1) = c.nodes_in.ensures ∙ ap (λ (ds : List Definition). min (sum (map (λ d. node_count d.term) ds)) (2 ^ 64 - 1)) c.as_slice.ensures in
    out_set r _ now found.0 c.args.ty x c.nodes_in.result c.requires.good c.requires.may c.requires.pixels names term c.in-Ok.ensures.kept c.in-Ok.ensures.typed counted c.in-Ok.ensures.nodes refl refl refl refl refl
