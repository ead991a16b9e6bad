use Rattle.std.proofs.Common.{◌≡◌, ◌≤◌, ◌∙◌, sym, ap, subst, length, take}
use Rattle.std.specs.Prelude.{Ok, Err}
use Rattle.std.specs.Result.{IfErr}
use Rattle.std.specs.Str.Lines.{lines}
use Rattle.pf_isa.specs.Meaning.Texts.{IsHeadText}
use Rattle.pf_isa.specs.Meaning.TextFaults.{texts, IsTextRefusal, IsProgramOr, IsTextFaultOr}
use Rattle.pf_isa.proofs.JoinLaws.{text_found, head_only, code_only, same_text, head_fault_only, code_fault_only, carried, code_refusal, length-texts}
use Rattle.pf_isa.proofs.OneFault.{head_refused, behind_told, code_refused}
use Rattle.pf_isa.proofs.text.read_text.Goals as goal

pub returns-in_err-head-clause-only : goal.returns-in_err-head-clause-only
returns-in_err-head-clause-only g c = λ p x.
    let f = c.in_err-head.field-0.0 in
    let ls = texts c.as_slice.result.now in
    let is : ls ≡ lines c.args.text.now = ap texts c.as_slice.ensures.value ∙ c.in_ok-lines.ensures in
    carried c.from_residual-in_err-head.result f (λ r. IsProgramOr p r) c.from_residual-in_err-head.ensures.1
    (head_fault_only f p.head (length x.front) p (head_only g.I.Isa.table g.I.Isa.is_op c.TARGET.result c.args.text.now ls (Err f) p is (g.met.I.Isa.target_is ∙ sym c.TARGET.ensures) c.in_err-head.ensures.only x))

pub returns-in_err-code-clause-only : goal.returns-in_err-code-clause-only
returns-in_err-code-clause-only g c = λ p x.
    let f = c.in_err-code.field-0.0 in
    let ls = texts c.as_slice.result.now in
    let back = texts c.as_slice-2.result.now in
    let is : ls ≡ lines c.args.text.now = ap texts c.as_slice.ensures.value ∙ c.in_ok-lines.ensures in
    let again : back ≡ lines c.args.text.now = ap texts c.as_slice-2.ensures.value ∙ c.in_ok-lines.ensures in
    let head = head_only g.I.Isa.table g.I.Isa.is_op c.TARGET.result c.args.text.now ls (Ok (c.in_ok-head.head, c.in_ok-head.start)) p is (g.met.I.Isa.target_is ∙ sym c.TARGET.ensures) c.in_ok-head.ensures.only x in
    carried c.from_residual-in_err-code.result f (λ r. IsProgramOr p r) c.from_residual-in_err-code.ensures.1
    (code_fault_only f p (code_only g.I.Isa.table g.I.Isa.is_op c.args.text.now back c.in_ok-head.start (Err f) p again c.in_err-code.ensures.only x head.1))

pub returns-in_err-code-clause-fault : goal.returns-in_err-code-clause-fault
returns-in_err-code-clause-fault g c =
    let f = c.in_err-code.field-0.0 in
    let back = texts c.as_slice-2.result.now in
    let again : back ≡ lines c.args.text.now = ap texts c.as_slice-2.ensures.value ∙ c.in_ok-lines.ensures in
    let same = c.as_slice.ensures.value ∙ sym c.as_slice-2.ensures.value in
    let says : IsHeadText c.TARGET.result (take c.in_ok-head.start back) c.in_ok-head.head = subst (λ l. IsHeadText c.TARGET.result (take c.in_ok-head.start (texts l)) c.in_ok-head.head) same c.in_ok-head.ensures.says in
    let within : c.in_ok-head.start ≤ length back = rw (length-texts c.as_slice-2.result.now) (subst (λ l. c.in_ok-head.start ≤ length l) same c.in_ok-head.ensures.within) in
    carried c.from_residual-in_err-code.result f (λ r. IfErr r (IsTextRefusal g.row.I.Denot g.I.Isa.table g.I.Isa.is_op c.args.text.now)) c.from_residual-in_err-code.ensures.1
    (code_refusal g.row.I.Denot g.I.Isa.table g.I.Isa.is_op c.TARGET.result c.args.text.now back c.in_ok-head.start c.in_ok-head.head f again (g.met.I.Isa.target_is ∙ sym c.TARGET.ensures) within says c.in_ok-head.ensures.kept c.in_err-code.ensures.fault)

pub returns-clause-found : goal.returns-clause-found
returns-clause-found g c =
    let back = texts c.as_slice-2.result.now in
    let again : back ≡ lines c.args.text.now = ap texts c.as_slice-2.ensures.value ∙ c.in_ok-lines.ensures in
    let same = c.as_slice.ensures.value ∙ sym c.as_slice-2.ensures.value in
    let says : IsHeadText c.TARGET.result (take c.in_ok-head.start back) c.in_ok-head.head = subst (λ l. IsHeadText c.TARGET.result (take c.in_ok-head.start (texts l)) c.in_ok-head.head) same c.in_ok-head.ensures.says in
    rw c.new.ensures (text_found g.I.Isa.table g.I.Isa.is_op c.TARGET.result c.args.text.now back c.in_ok-head.start c.in_ok-head.head c.in_ok-code.code c.in_ok-code.labels again (g.met.I.Isa.target_is ∙ sym c.TARGET.ensures) says c.in_ok-head.ensures.kept c.in_ok-code.ensures.says)

pub returns-clause-only : goal.returns-clause-only
returns-clause-only g c = λ p x.
    let ls = texts c.as_slice.result.now in
    let back = texts c.as_slice-2.result.now in
    let is : ls ≡ lines c.args.text.now = ap texts c.as_slice.ensures.value ∙ c.in_ok-lines.ensures in
    let again : back ≡ lines c.args.text.now = ap texts c.as_slice-2.ensures.value ∙ c.in_ok-lines.ensures in
    let head = head_only g.I.Isa.table g.I.Isa.is_op c.TARGET.result c.args.text.now ls (Ok (c.in_ok-head.head, c.in_ok-head.start)) p is (g.met.I.Isa.target_is ∙ sym c.TARGET.ensures) c.in_ok-head.ensures.only x in
    let code = code_only g.I.Isa.table g.I.Isa.is_op c.args.text.now back c.in_ok-head.start (Ok (c.in_ok-code.code, c.in_ok-code.labels)) p again c.in_ok-code.ensures.only x head.1 in
    c.new.ensures ∙ same_text c.in_ok-head.head p.head c.in_ok-code.code p.code c.in_ok-code.labels p.labels head.0 code.0 code.1

pub returns-in_err-head-clause-told : goal.returns-in_err-head-clause-told
returns-in_err-head-clause-told g c = λ line kind h.
    let f = c.in_err-head.field-0.0 in
    let ls = texts c.as_slice.result.now in
    let is : ls ≡ lines c.args.text.now = ap texts c.as_slice.ensures.value ∙ c.in_ok-lines.ensures in
    carried c.from_residual-in_err-head.result f (λ r. IsTextFaultOr line kind r) c.from_residual-in_err-head.ensures.1
    (head_refused g.row.I.Denot g.row.I-Op.Denot g.I.Isa.table g.I.Isa.is_op c.TARGET.result c.args.text.now ls f is (g.met.I.Isa.target_is ∙ sym c.TARGET.ensures) c.in_err-head.ensures.told c.in_err-head.ensures.only line kind h)

pub returns-in_err-code-clause-told : goal.returns-in_err-code-clause-told
returns-in_err-code-clause-told g c = λ line kind h.
    let f = c.in_err-code.field-0.0 in
    let ls = texts c.as_slice.result.now in
    let back = texts c.as_slice-2.result.now in
    let is : ls ≡ lines c.args.text.now = ap texts c.as_slice.ensures.value ∙ c.in_ok-lines.ensures in
    let again : back ≡ lines c.args.text.now = ap texts c.as_slice-2.ensures.value ∙ c.in_ok-lines.ensures in
    let told = behind_told g.row.I.Denot g.row.I-Op.Denot g.I.Isa.table g.I.Isa.is_op c.TARGET.result c.args.text.now ls back c.in_ok-head.head c.in_ok-head.start (Err f) is again (g.met.I.Isa.target_is ∙ sym c.TARGET.ensures)
    c.in_ok-head.ensures.told c.in_ok-head.ensures.only c.in_err-code.ensures.told in
    carried c.from_residual-in_err-code.result f (λ r. IsTextFaultOr line kind r) c.from_residual-in_err-code.ensures.1
    (code_refused g.row.I.Denot g.row.I-Op.Denot g.I.Isa.table g.I.Isa.is_op c.TARGET.result c.args.text.now f told line kind h)

pub returns-clause-told : goal.returns-clause-told
returns-clause-told g c = λ line kind h.
    let ls = texts c.as_slice.result.now in
    let back = texts c.as_slice-2.result.now in
    let is : ls ≡ lines c.args.text.now = ap texts c.as_slice.ensures.value ∙ c.in_ok-lines.ensures in
    let again : back ≡ lines c.args.text.now = ap texts c.as_slice-2.ensures.value ∙ c.in_ok-lines.ensures in
    behind_told g.row.I.Denot g.row.I-Op.Denot g.I.Isa.table g.I.Isa.is_op c.TARGET.result c.args.text.now ls back c.in_ok-head.head c.in_ok-head.start (Ok (c.in_ok-code.code, c.in_ok-code.labels)) is again (g.met.I.Isa.target_is ∙ sym c.TARGET.ensures)
    c.in_ok-head.ensures.told c.in_ok-head.ensures.only c.in_ok-code.ensures.told line kind h
