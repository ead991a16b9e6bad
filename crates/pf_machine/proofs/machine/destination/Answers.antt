use Rattle.std.proofs.Common.{sym, ◌∙◌}
use Rattle.pf_machine.proofs.PlaceLaws.{no_destination, destination_found}
use Rattle.pf_machine.proofs.machine.destination.Goals as goal

pub returns-in-None : goal.returns-in-None
returns-in-None g c = λ ls f. no_destination ls c.args.end c.args.line.now (sym c.jump_label.ensures ∙ c.in-None.is)

pub returns-in-Some : goal.returns-in-Some
returns-in-Some g c = λ ls f. destination_found c.args.places.now ls c.args.end c.place_of.result c.in-Some.label c.args.line.now (sym c.jump_label.ensures ∙ c.in-Some.is) c.place_of.ensures f
