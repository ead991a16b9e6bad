use Rattle.pf_axioms.proofs.laws.by.Goals as goal

pub fits-requires-clause-a : goal.fits-requires-clause-a
fits-requires-clause-a c = (c.look-given.ensures.forms _ c.requires).a

pub fits-requires-clause-b : goal.fits-requires-clause-b
fits-requires-clause-b c = (c.look-given.ensures.forms _ c.requires).b

pub build-requires-clause-a : goal.build-requires-clause-a
build-requires-clause-a c = (c.look-given.ensures.forms _ c.requires).a

pub build-requires-clause-b : goal.build-requires-clause-b
build-requires-clause-b c = (c.look-given.ensures.forms _ c.requires).b

pub grant-requires : goal.grant-requires
grant-requires c = c.look-given.ensures.forms _ c.requires
