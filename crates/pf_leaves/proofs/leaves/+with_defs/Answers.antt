use Rattle.std.proofs.Common.{◌≡◌, refl, arith, ◌++◌, ◌∷◌, []}
use Rattle.pf_bounds.specs.declared.ranges.Ranges.{Ranges}
use Rattle.pf_leaves.specs.Meaning.Leaves.{def_name}
use Rattle.pf_leaves.proofs.LeafLaws.{rest_short, entries_range, whole_defined, follow_more, value_more, all_more, within_all}
use Rattle.pf_leaves.proofs.leaves.+with_defs.Goals as goal

pub bounds-range-requires-clause-entries : goal.bounds-range-requires-clause-entries
bounds-range-requires-clause-entries t c =
    let names = c.requires.0 in
    let d = c.def-item.result in
    entries_range names c.args.found c.requires.1 d.term (whole_defined names c.args.defs.now d c.in-len1-up.len_at_least c.def-item.is c.requires.2).0.named

pub with_defs-requires : goal.with_defs-requires
with_defs-requires t c =
    let names = c.requires.0 in
    let d = c.def-item.result in
    let ds = c.args.defs.now in
    let found = c.args.found in
    let new : Ranges = record { taps = found.taps; defs = c.push.new.self } in
    let r = c.bounds-range.result in
    let some = c.in-len1-up.len_at_least in
    let short = rest_short ds some in (
      omega (arith, c.decreases, short),
      (
        record names { defs = names.defs ++ def_name d ∷ [] },
        follow_more found new ds d r some c.def-item.is refl c.in_ok-push-in-len1-up.ensures.ok names c.requires.1 c.requires.2 c.bounds-range.ensures.member,
        (whole_defined names ds d some c.def-item.is c.requires.2).1,
      ),
    )

pub returns-in_ok-push-in-len1-up-clause-value : goal.returns-in_ok-push-in-len1-up-clause-value
returns-in_ok-push-in-len1-up-clause-value t c =
    let found = c.args.found in
    let new : Ranges = record { taps = found.taps; defs = c.push.new.self } in
    value_more found new c.args.defs.now c.def-item.result c.bounds-range.result c.in-len1-up.len_at_least c.def-item.is refl c.in_ok-push-in-len1-up.ensures.ok _ c.with_defs.result c.bounds-range.ensures.value c.with_defs.ensures.value

pub returns-in_ok-push-in-len1-up-clause-entries : goal.returns-in_ok-push-in-len1-up-clause-entries
returns-in_ok-push-in-len1-up-clause-entries t c =
    let found = c.args.found in
    let new : Ranges = record { taps = found.taps; defs = c.push.new.self } in
    all_more found new c.args.defs.now c.def-item.result c.bounds-range.result c.in-len1-up.len_at_least c.def-item.is refl c.in_ok-push-in-len1-up.ensures.ok _ c.with_defs.result c.bounds-range.ensures.member c.with_defs.ensures.entries

pub returns-in_ok-push-in-len1-up-clause-within : goal.returns-in_ok-push-in-len1-up-clause-within
returns-in_ok-push-in-len1-up-clause-within t c =
    let found = c.args.found in
    let new : Ranges = record { taps = found.taps; defs = c.push.new.self } in
    within_all found new c.args.defs.now c.def-item.result c.bounds-range.result c.in-len1-up.len_at_least c.def-item.is refl c.in_ok-push-in-len1-up.ensures.ok _ c.with_defs.result c.bounds-range.ensures.holds c.with_defs.ensures.within
