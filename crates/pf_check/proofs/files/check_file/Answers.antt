use Rattle.std.proofs.Common.{◌≡◌, refl, sym, ap, ◌∙◌, subst, map}
use Rattle.pf_check.specs.Meaning.Files.{known, rule_of, entry, AreOfKind}
use Rattle.pf_check.proofs.FileLaws.{suits_of, some_known, known_entries, of_kind}
use Rattle.pf_check.proofs.files.check_file.Goals as goal

pub check_rules-requires : goal.check_rules-requires
check_rules-requires c = rw (c.as_slice.ensures, c.parts-parts.ensures.value) (suits_of c.args.file c.parts-parts.ensures.kept)

pub new-requires-in-Ok : goal.new-requires-in-Ok
new-requires-in-Ok c =
    let all : c.in-Ok.rules ≡ map (entry c.parts-parts.result.now.kind) c.as_slice.result.now = rw c.new.ensures at c.in-Ok.ensures.ok in
    rw all (some_known c.parts-parts.result.now.kind c.as_slice.result.now)

pub invariant_of-result : goal.invariant_of-result
invariant_of-result c =
    let kind = c.parts-parts.result.now.kind in
    let all : c.in-Ok.rules ≡ map (entry kind) c.as_slice.result.now = rw c.new.ensures at c.in-Ok.ensures.ok in
    let is : c.new-in-Ok.result ≡ map (rule_of kind) c.as_slice.result.now = c.new-in-Ok.ensures ∙ ap known all ∙ known_entries kind c.as_slice.result.now in
    record { alike = subst (AreOfKind kind) (sym is) (of_kind kind c.as_slice.result.now) }

pub returns-in-Ok-clause-rules : goal.returns-in-Ok-clause-rules
returns-in-Ok-clause-rules c =
    let kind = c.parts-parts.result.now.kind in
    let all : c.in-Ok.rules ≡ map (entry kind) c.as_slice.result.now = rw c.new.ensures at c.in-Ok.ensures.ok in
    let is : c.new-in-Ok.result ≡ map (rule_of kind) c.as_slice.result.now = c.new-in-Ok.ensures ∙ ap known all ∙ known_entries kind c.as_slice.result.now in
    is ∙ rw (c.as_slice.ensures, c.parts-parts.ensures.value) refl
