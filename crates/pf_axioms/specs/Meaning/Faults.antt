-- How a fault of building is told.
use Rattle.pf_templates.specs.declared.fault.BuildFault.{BuildFault}
use Rattle.pf_templates.specs.declared.fault.BuildFault.TheVariants as build
use Rattle.pf_axioms.specs.declared.fault.StepFault.{StepFault}
use Rattle.pf_axioms.specs.declared.fault.StepFault.TheVariants.{TooWide, Memory}

abbrev pub fault_of : BuildFault → StepFault
fault_of build.TooWide = TooWide
fault_of build.Memory = Memory
