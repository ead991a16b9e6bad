use Rattle.std.proofs.Common.{◌-◌, [], length, take, drop, get_or, subst, sym, inl, rules}
use Rattle.pf_text.specs.Meaning.Answers.{Answers}
use Rattle.pf_isa.specs.declared.fault.TextFault.TheVariants.{Memory}
use Rattle.pf_isa.specs.Steps.HeadSteps.{IsReached, IsWholeFrom, IsStopped}
use Rattle.pf_text.specs.Meaning.Lines.{IsLine}
use Rattle.pf_isa.specs.Meaning.Texts.{target_line}
use Rattle.pf_isa.specs.Meaning.TextFaults.{texts, IsFor}
use Rattle.pf_isa.proofs.ReadingLaws.{texts_first, nothing_reached, way_from}
use Rattle.pf_isa.proofs.read_head.way_of.Goals as goal

pub read_rest-requires-clause-reached : goal.read_rest-requires-clause-reached
read_rest-requires-clause-reached c = subst (λ s. IsReached s) (sym c.new.ensures) nothing_reached

pub returns-then-not-is_for : goal.returns-then-not-is_for
returns-then-not-is_for c =
    let first = (get_or c.args.lines.now 0 (record { ref_ptr = (0, 0); now = [] })).now in
    let is = texts_first c.args.lines.now (record { ref_ptr = (0, 0); now = [] }) c.in-len1-up.len_at_least in
    let other : IsLine first (target_line c.args.target) → ⊥ = λ h. let told = c.is_for.ensures.1 h in absurd (search rules) in
    inl (inl (c.no_target-then-not-is_for.ensures, λ h. other (subst (λ l. IsFor c.args.target l) is h)))

pub returns : goal.returns
returns c =
    let first = (get_or c.args.lines.now 0 (record { ref_ptr = (0, 0); now = [] })).now in
    let rest = texts (take (length c.args.lines.now - 1) (drop 1 c.args.lines.now)) in
    let is = texts_first c.args.lines.now (record { ref_ptr = (0, 0); now = [] }) c.in-len1-up.len_at_least in
    let for_target : IsLine first (target_line c.args.target) = search rules in
    way_from c.args.target (texts c.args.lines.now) first rest c.read_rest.result is for_target (subst (λ s. Answers Memory (IsWholeFrom s rest 1) (IsStopped s rest 1) c.read_rest.result) c.new.ensures c.read_rest.ensures)
