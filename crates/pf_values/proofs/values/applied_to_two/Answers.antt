use Rattle.std.proofs.Common.{rules}
use Rattle.std.proofs.lemmas.Int.{to_z-of_z}
use Rattle.pf_values.proofs.values.applied_to_two.Goals as goal

pub returns-in-Add : goal.returns-in-Add
returns-in-Add c = search (rules, to_z-of_z)

pub returns-in-Sub : goal.returns-in-Sub
returns-in-Sub c = search (rules, to_z-of_z)

pub returns-in-RoundingHalvingAdd : goal.returns-in-RoundingHalvingAdd
returns-in-RoundingHalvingAdd c = search (rules, to_z-of_z)

pub returns-in-HalvingSub : goal.returns-in-HalvingSub
returns-in-HalvingSub c = search (rules, to_z-of_z)

pub returns-in-SaturatingAdd : goal.returns-in-SaturatingAdd
returns-in-SaturatingAdd c = search (rules, to_z-of_z)

pub returns-in-SaturatingSub : goal.returns-in-SaturatingSub
returns-in-SaturatingSub c = search (rules, to_z-of_z)

pub returns-in-RoundingMulShr : goal.returns-in-RoundingMulShr
returns-in-RoundingMulShr c = search (rules, to_z-of_z)
