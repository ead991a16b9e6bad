use Rattle.std.proofs.Common.{◌≡◌, ◌∙◌, sym, Some, None}
use Rattle.std.specs.List.{last_or}
use Rattle.pf_isa.proofs.CodeLaws.{last_is}
use Rattle.pf_isa.proofs.read_code.ends.Goals as goal

pub returns-in-None : goal.returns-in-None
returns-in-None g c =
    let none : last_or None c.args.code.now ≡ None = last_is c.args.code.now ∙ sym (rw c.in-None.is at c.last.ensures.value) in
    rw none (λ h. absurd (cc), λ h. absurd h)

pub returns-in-Some : goal.returns-in-Some
returns-in-Some g c =
    let some : last_or None c.args.code.now ≡ Some c.in-Some.line.now = last_is c.args.code.now ∙ sym (rw c.in-Some.is at c.last.ensures.value) in
    rw some c.is_end.ensures
