use Rattle.std.proofs.Common.{◌≡◌, ◌≢◌, arith, ◌<◌, ◌-◌, ◌+◌, [], length, take, drop, get_or, subst, sym, inl, rules}
use Rattle.pf_isa.specs.declared.so_far.Stage.TheVariants.{Code}
use Rattle.pf_isa.specs.Steps.HeadWords.{IsTheOne}
use Rattle.pf_isa.specs.Meaning.TextFaults.{texts, GoesOn, HeadStops}
use Rattle.pf_isa.proofs.HeadSaid.{reached_ready}
use Rattle.pf_isa.proofs.ReadingLaws.{whole_here, stops_here, onward, reached_on, texts_first, texts_none, rest_count}
use Rattle.pf_isa.proofs.read_head.+read_rest.Goals as goal

pub next-requires : goal.next-requires
next-requires t c = reached_ready c.args.so_far c.requires.reached

pub read_rest-requires : goal.read_rest-requires
read_rest-requires t c =
    let line = (get_or c.args.lines.now 0 (record { ref_ptr = (0, 0); now = [] })).now in
    let told = subst (IsTheOne (GoesOn c.args.so_far line)) c.in-Some.is c.in_ok-next-in-len1-up.ensures in
    let reached = reached_on c.args.so_far c.in-Some.next line c.requires.reached told.0 in
    let fewer : length (take (length c.args.lines.now - 1) (drop 1 c.args.lines.now)) + 1 ≡ length c.args.lines.now = rest_count c.args.lines.now c.in-len1-up.len_at_least in
    let smaller : length (take (length c.args.lines.now - 1) (drop 1 c.args.lines.now)) < length c.args.lines.now = omega (arith, fewer) in
    (search (rules, smaller, c.decreases), (reached, omega (arith, c.requires.fits, fewer)))

pub returns-then-is_whole : goal.returns-then-is_whole
returns-then-is_whole t c = whole_here c.args.so_far (texts c.args.lines.now) c.args.n c.into_head.result (c.is_whole.ensures.0 c.if-is_whole.true) c.into_head.ensures

pub returns-in-empty : goal.returns-in-empty
returns-in-empty t c =
    let other : c.args.so_far.stage ≢ Code = λ e. let is = c.is_whole.ensures.1 e in absurd (search rules) in
    let stops : HeadStops c.args.so_far (texts c.args.lines.now) = subst (HeadStops c.args.so_far) (sym (texts_none c.args.lines.now c.in-empty.len_below)) other in
    inl (stops_here c.args.so_far (texts c.args.lines.now) c.args.n c.directive.result stops c.directive.ensures)

pub returns-in-None : goal.returns-in-None
returns-in-None t c =
    let other : c.args.so_far.stage ≢ Code = λ e. let is = c.is_whole.ensures.1 e in absurd (search rules) in
    let line = (get_or c.args.lines.now 0 (record { ref_ptr = (0, 0); now = [] })).now in
    let none = subst (IsTheOne (GoesOn c.args.so_far line)) c.in-None.is c.in_ok-next-in-len1-up.ensures in
    let is = texts_first c.args.lines.now (record { ref_ptr = (0, 0); now = [] }) c.in-len1-up.len_at_least in
    let stops : HeadStops c.args.so_far (texts c.args.lines.now) = subst (HeadStops c.args.so_far) (sym is) (other, none) in
    inl (stops_here c.args.so_far (texts c.args.lines.now) c.args.n c.directive-in-None.result stops c.directive-in-None.ensures)

pub returns-in-Some : goal.returns-in-Some
returns-in-Some t c =
    let line = (get_or c.args.lines.now 0 (record { ref_ptr = (0, 0); now = [] })).now in
    let rest = texts (take (length c.args.lines.now - 1) (drop 1 c.args.lines.now)) in
    let is = texts_first c.args.lines.now (record { ref_ptr = (0, 0); now = [] }) c.in-len1-up.len_at_least in
    let told = subst (IsTheOne (GoesOn c.args.so_far line)) c.in-Some.is c.in_ok-next-in-len1-up.ensures in
    onward c.args.so_far c.in-Some.next line (texts c.args.lines.now) rest c.args.n c.read_rest.result is told c.read_rest.ensures
