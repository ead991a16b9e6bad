use Rattle.std.proofs.Common.{rules}
use Rattle.std.specs.Prelude.{Contains}
use Rattle.pf_isa.specs.Steps.HeadSteps.{IsRoom}
use Rattle.pf_isa.specs.Meaning.TextFaults.{head_names}
use Rattle.pf_isa.proofs.HeadStepLaws.{lifted_goes}
use Rattle.pf_isa.proofs.so_far.HeadSoFar.with_lifted.Goals as goal

pub returns : goal.returns
returns c =
    let new : Contains (head_names c.args.self.head) c.args.name.now → ⊥ = λ h. search rules in
    let room : IsRoom c.args.self.head c.args.name.now = search rules in
    lifted_goes c.args.self.head c.args.name.now c.args.ty c.args.text.now c.with_term.result new room c.with_term.ensures
