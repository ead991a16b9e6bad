use Rattle.std.proofs.Common.{◌<◌, ℕ, get_or, rules}
use Rattle.std.proofs.lemmas.List.Elements.{All-from_get_or}
use Rattle.pf_machine.proofs.steps.overwrite_vector.Goals as goal

pub returns-clause-bytes : goal.returns-clause-bytes
returns-clause-bytes c =
    let each : (i : ℕ) → get_or c.args.held.now i 0 < 256 = search rules in
    All-from_get_or (λ b. b < 256) c.args.held.now 0 (λ i inside. each i)
