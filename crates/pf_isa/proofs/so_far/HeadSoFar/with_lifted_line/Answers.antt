use Rattle.std.proofs.Common.{◌≡◌, ◌+◌, ℕ, List, take, refl, subst}
use Rattle.std.proofs.lemmas.List.{take_rest}
use Rattle.pf_ints.specs.declared.lane.LaneType.{LaneType}
use Rattle.pf_isa.specs.Steps.HeadWords.{IsTheOne, IsLiftedName, lifted_words, words_in}
use Rattle.pf_isa.proofs.HeadLineLaws.{no_sign, lifted_line_goes, no_lifted_line}
use Rattle.pf_isa.proofs.so_far.HeadSoFar.with_lifted_line.Goals as goal

-- what the words in front of a sign say
abbrev Says : List ℕ → List ℕ × LaneType → Type 0
Says front r = IsLiftedName r.0 × (words_in front ≡ lifted_words r.0 r.1)

pub returns-in-None : goal.returns-in-None
returns-in-None c = λ next k. no_sign c.args.line.now c.args.self.head next c.in-None.ensures.value k

pub returns-in-Some-2 : goal.returns-in-Some-2
returns-in-Some-2 c =
    let front = take (c.in-Some.end + 1) c.args.line.now in
    let said = subst (IsTheOne (Says front)) c.in-Some-2.is c.in_ok-found.ensures in
    let behind = take_rest c.args.line.now (c.in-Some.end + 1) in
    lifted_line_goes c.args.self.head c.args.line.now c.in-Some.end (words_in front) c.in-Some-2.found _ c.with_lifted.result
    c.in-Some.ensures.value refl behind said c.with_lifted.ensures

pub returns-in-None-2 : goal.returns-in-None-2
returns-in-None-2 c =
    let front = take (c.in-Some.end + 1) c.args.line.now in
    let said = subst (IsTheOne (Says front)) c.in-None-2.is c.in_ok-found.ensures in
    no_lifted_line c.args.self.head c.args.line.now c.in-Some.end (words_in front) c.in-Some.ensures.value refl said
