use Rattle.std.proofs.Common.{◌≡◌, sym, ◌∙◌, ap, subst, ◌+◌, ◌-◌, ◌^◌, ◌≤◌, min, sum, map, false, List, length, IfOk, OnOk, Result, arith}
use Rattle.pf_values.specs.declared.kernel.Definition.{Definition}
use Rattle.pf_terms.specs.declared.meaning.ReadFault.{ReadFault}
use Rattle.pf_values.specs.declared.names.Names.{Names}
use Rattle.pf_values.specs.declared.term.Term.{Term}
use Rattle.pf_terms.specs.Meaning.KernelNames.{IsNames}
use Rattle.pf_terms.specs.Meaning.Meanings.{names_after, term_of}
use Rattle.pf_values.specs.Meaning.Terms.{node_count}
use Rattle.pf_kernel.specs.Steps.Expressions.{Judges}
use Rattle.pf_kernel.specs.Meaning.Kernels.{IsTermOf}
use Rattle.pf_kernel.specs.Meaning.Lines.{names_in, nodes_in, is_taken}
use Rattle.pf_kernel.specs.Steps.Readings.{begun_of}
use Rattle.pf_kernel.proofs.Answering.{def_refused, taken_apart}
use Rattle.pf_kernel.proofs.Growing.{def_added, judged_so}
use Rattle.pf_kernel.proofs.line.read_def.Goals as goal

pub returns-in_ok-add_def-in-Ok-clause-kept : goal.returns-in_ok-add_def-in-Ok-clause-kept
returns-in_ok-add_def-in-Ok-clause-kept c =
    let r = c.args.reading in
    let b = begun_of r in
    let now = c.read_expression-read.new.names in
    let read = c.read_expression-read.result in
    let x = c.in-Ok.term in
    let n = c.args.name in
    let ty = c.args.ty in
    let apart = taken_apart b n ty c.args.text.now now read c.is_taken-is_taken.result x c.in-Ok.ensures in
    let free : is_taken (names_in b) n ≡ false = ap (λ (m : Names). is_taken m n) (sym c.requires.good.same) ∙ sym c.is_taken-is_taken.ensures ∙ apart.0 in
    let found = subst (λ (q : Result Term ReadFault). Judges r.names c.nodes_in.result ty (c.len.result + 1) c.args.text.now q now) apart.1 c.read_expression-read.ensures.found in
    let names : now ≡ names_after (names_in b) found.0 = subst (λ (m : Names). now ≡ names_after m found.0) c.requires.good.same found.4 in
    let term : x ≡ term_of (names_after (names_in b) found.0) found.0 = subst (λ (m : Names). x ≡ term_of (names_after m found.0) found.0) c.requires.good.same found.3 in
    let known : IsNames now = subst (λ (q : Result Term ReadFault). OnOk q (IsNames now)) apart.1 c.read_expression-read.ensures.kept in
    let typed : IsTermOf now ty x = subst (λ (q : Result Term ReadFault). IfOk q (λ t. IsTermOf now ty t)) apart.1 c.read_expression-read.ensures.typed in
    let room : c.len.result + 1 ≤ 64 = subst (λ (q : Result Term ReadFault). OnOk q (c.len.result + 1 ≤ 64)) apart.1 c.read_expression-read.ensures.room in
    let most : c.nodes_in.result + node_count x ≤ 512 = subst (λ (q : Result Term ReadFault). IfOk q (λ t. c.nodes_in.result + node_count t ≤ 512)) apart.1 c.read_expression-read.ensures.nodes in
    let counted : c.nodes_in.result ≡ min (nodes_in b) (2 ^ 64 - 1) = c.nodes_in.ensures ∙ ap (λ (ds : List Definition). min (sum (map (λ d. node_count d.term) ds)) (2 ^ 64 - 1)) c.as_slice.ensures in
    let others = c.in_ok-add_def-in-Ok.ensures.others in
    def_added r c.add_def.new.self now found.0 n ty x c.nodes_in.result c.requires.good c.requires.may c.requires.named free names term known typed (omega (arith, room, c.len.ensures)) counted most others.0 others.1 others.2 c.in_ok-add_def-in-Ok.ensures.names c.in_ok-add_def-in-Ok.ensures.defs

pub returns-in-Err-clause-answers : goal.returns-in-Err-clause-answers
returns-in-Err-clause-answers c =
    let r = c.args.reading in
    let b = begun_of r in
    let n = c.args.name in
    let ty = c.args.ty in
    let free : c.is_taken-is_taken.result ≡ is_taken (names_in b) n = c.is_taken-is_taken.ensures ∙ ap (λ (m : Names). is_taken m n) c.requires.good.same in
    let counted : c.nodes_in.result ≡ min (nodes_in b) (2 ^ 64 - 1) = c.nodes_in.ensures ∙ ap (λ (ds : List Definition). min (sum (map (λ d. node_count d.term) ds)) (2 ^ 64 - 1)) c.as_slice.ensures in
    let judged = judged_so r ty (c.len.result + 1) c.nodes_in.result (length r.defs + 1) c.args.text.now c.read_expression-read.result c.read_expression-read.new.names c.requires.good counted (ap (λ k. k + 1) c.len.ensures) c.read_expression-read.ensures.found in
    def_refused b n ty c.args.text.now c.read_expression-read.new.names c.read_expression-read.result c.is_taken-is_taken.result c.in-Err.fault free judged c.in-Err.ensures
