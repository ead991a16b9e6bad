use Rattle.std.proofs.Common.{◌+◌, ◌≤◌}
use Rattle.pf_values.specs.Meaning.Terms.{stated_type, depth_of, node_count}
use Rattle.pf_kernel.specs.Meaning.Kernels.{IsTermOf}
use Rattle.pf_kernel.proofs.Judging.{judged_found, judged_only, refused_only, clean, if_clean, on_clean}
use Rattle.pf_kernel.proofs.expression.read_expression.Goals as goal

pub returns-in-Ok-clause-found : goal.returns-in-Ok-clause-found
returns-in-Ok-clause-found c =
    judged_found c.args.names.now c.args.by.nodes c.args.by.ty c.args.by.defs c.args.text.now c.in-Ok.term c.read_term.new.names c.judge.result c.in-Ok.ensures.read c.judge.ensures

pub returns-in-Ok-clause-only : goal.returns-in-Ok-clause-only
returns-in-Ok-clause-only c d spelled none =
    judged_only c.args.names.now c.args.by.nodes c.args.by.ty c.args.by.defs c.args.text.now c.in-Ok.term c.read_term.new.names c.judge.result c.in-Ok.ensures.only c.judge.ensures d spelled none

pub returns-in-Ok-clause-typed : goal.returns-in-Ok-clause-typed
returns-in-Ok-clause-typed c =
    if_clean (λ t. IsTermOf c.read_term.new.names c.args.by.ty t) c.in-Ok.term _ c.judge.result c.judge.ensures
    (λ none. let is = clean c.args.by.ty (stated_type c.in-Ok.term) c.args.by.defs (depth_of c.in-Ok.term) (c.args.by.nodes + node_count c.in-Ok.term) none in
    record { formed = c.in-Ok.ensures.typed; typed = is.same; named = c.in-Ok.ensures.named; depth = is.shallow })

pub returns-in-Ok-clause-room : goal.returns-in-Ok-clause-room
returns-in-Ok-clause-room c =
    on_clean (c.args.by.defs ≤ 64) c.in-Ok.term _ c.judge.result c.judge.ensures
    (λ none. (clean c.args.by.ty (stated_type c.in-Ok.term) c.args.by.defs (depth_of c.in-Ok.term) (c.args.by.nodes + node_count c.in-Ok.term) none).few)

pub returns-in-Ok-clause-nodes : goal.returns-in-Ok-clause-nodes
returns-in-Ok-clause-nodes c =
    if_clean (λ t. c.args.by.nodes + node_count t ≤ 512) c.in-Ok.term _ c.judge.result c.judge.ensures
    (λ none. (clean c.args.by.ty (stated_type c.in-Ok.term) c.args.by.defs (depth_of c.in-Ok.term) (c.args.by.nodes + node_count c.in-Ok.term) none).small)

pub returns-in-Err-clause-only : goal.returns-in-Err-clause-only
returns-in-Err-clause-only c d spelled none =
    refused_only c.args.names.now c.args.by.nodes c.args.by.ty c.args.by.defs c.args.text.now c.in-Err.fault c.told.result c.read_term.new.names _ c.in-Err.ensures.only c.told.ensures.memory d spelled none
