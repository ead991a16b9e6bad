use Rattle.std.proofs.Common.{map, string_bytes}
use Rattle.pf_top.specs.Meaning.Commands.{Selecting, Running}
use Rattle.pf_top.specs.Steps.CommandSteps.{the_command}
use Rattle.pf_top.proofs.Calls.{does, completes, headline, agrees}
use Rattle.pf_top.proofs.top.pitchfork.Goals as goal

pub returns-in-Some-clause-usage : goal.returns-in-Some-clause-usage
returns-in-Some-clause-usage g c = λ none. absurd (none (the_command c.in-Some.command) (rw (← c.as_slice.ensures.value) c.in-Some.ensures))

pub returns-in-Some-clause-does : goal.returns-in-Some-clause-does
returns-in-Some-clause-does g c = λ d is. does (map string_bytes c.args.words.now.items) (the_command c.in-Some.command) d _ _ _ _ _ (rw (← c.as_slice.ensures.value) c.in-Some.ensures) is c.do_command.ensures

pub returns-in-Some-clause-completes : goal.returns-in-Some-clause-completes
returns-in-Some-clause-completes g c = λ d held is. completes (map string_bytes c.args.words.now.items) (the_command c.in-Some.command) d held _ _ _ _ _ (rw (← c.as_slice.ensures.value) c.in-Some.ensures) is c.do_command.ensures

pub returns-in-Some-clause-headline : goal.returns-in-Some-clause-headline
returns-in-Some-clause-headline g c = λ s k old is. headline (map string_bytes c.args.words.now.items) (the_command c.in-Some.command) s k old _ _ _ _ _ (rw (← c.as_slice.ensures.value) c.in-Some.ensures) is c.do_command.ensures

pub returns-in-Some-clause-agrees : goal.returns-in-Some-clause-agrees
returns-in-Some-clause-agrees g c = λ r target source text pictures o old is. agrees (map string_bytes c.args.words.now.items) (the_command c.in-Some.command) r target source text pictures o old _ _ _ _ _ (rw (← c.as_slice.ensures.value) c.in-Some.ensures) is c.do_command.ensures

pub returns-in-None-clause-does : goal.returns-in-None-clause-does
returns-in-None-clause-does g c = λ d is. absurd (c.in-None.ensures d (rw c.as_slice.ensures.value is))

pub returns-in-None-clause-completes : goal.returns-in-None-clause-completes
returns-in-None-clause-completes g c = λ d held is. absurd (c.in-None.ensures d (rw c.as_slice.ensures.value is))

pub returns-in-None-clause-headline : goal.returns-in-None-clause-headline
returns-in-None-clause-headline g c = λ s k old is. absurd (c.in-None.ensures (Selecting s) (rw c.as_slice.ensures.value is))

pub returns-in-None-clause-agrees : goal.returns-in-None-clause-agrees
returns-in-None-clause-agrees g c = λ r target source text pictures o old is. absurd (c.in-None.ensures (Running r) (rw c.as_slice.ensures.value is))
