use Rattle.std.proofs.Common.{◌≡◌, ◌^◌, ◌<◌, drop}
use Rattle.pf_text.specs.Steps.Scan.{number_on}
use Rattle.pf_text.proofs.scan.value_of_digits.Given as goal

abbrev pub invariant-loop-digit : goal.invariant-loop-digit
invariant-loop-digit l =
    record { small : l.n < 10 ^ l.digit-index; value : number_on l.n (drop l.digit-index l.digits) ≡ number_on 0 l.digits }
