use Rattle.std.proofs.Common.{◌≡◌, ◌+◌, ◌∙◌, sym, true, take, drop, refl}
use Rattle.std.proofs.lemmas.List.{take_all}
use Rattle.std.proofs.lemmas.List.Elements.{All-same, All-more}
use Rattle.pf_isa.specs.Steps.CodeReading.{has_name}
use Rattle.pf_machine.proofs.PlaceLaws.{split_item}
use Rattle.pf_isa.proofs.jumps.first_missing.Goals as goal

pub returns-then-not-contains : goal.returns-then-not-contains
returns-then-not-contains c = record {
  front = take c.loop-jump.jump-index c.args.jumps.now;
  jump = c.jump-item.result;
  rest = drop (c.loop-jump.jump-index + 1) c.args.jumps.now;
  parts = split_item c.args.jumps.now c.loop-jump.jump-index c.jump-item.result c.loop-jump-test.true c.jump-item.is;
  before = c.loop-jump.invariant;
  missing = rw (← c.as_slice.ensures.value) (sym c.contains.ensures ∙ c.if-not-contains.true);
  line_is = refl;
}

pub loop-jump-preserved : goal.loop-jump-preserved
loop-jump-preserved c =
    let there : has_name c.args.names.now c.jump-item.result.label ≡ true = rw (← c.as_slice.ensures.value) (sym c.contains.ensures ∙ c.if-not-contains.false) in
    All-more (λ j. has_name c.args.names.now j.label ≡ true) c.args.jumps.now c.loop-jump.jump-index c.jump-item.result c.loop-jump-test.true c.loop-jump.invariant (rw c.jump-item.is at there)

pub returns : goal.returns
returns c = All-same (λ j. has_name c.args.names.now j.label ≡ true) c.args.jumps.now (take c.loop-jump.jump-index c.args.jumps.now) (sym (take_all c.loop-jump.jump-index c.args.jumps.now c.loop-jump-test.false)) c.loop-jump.invariant
