use Rattle.pf_templates.proofs.exponents.+exponent_up_to.Given as goal

abbrev pub decreases-exponent_up_to : goal.decreases-exponent_up_to
decreases-exponent_up_to l = l.e
