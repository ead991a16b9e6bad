use Rattle.pf_select.proofs.HeadLaws.{head_taps}
use Rattle.pf_select.proofs.HeadlineLaws.{IsMade, selected_from}
use Rattle.pf_select.proofs.selected.text_of.Goals as goal

pub min_program-requires : goal.min_program-requires
min_program-requires c = rw c.in_ok-head.ensures (head_taps c.args.kernel.now _ _ c.names-names.ensures.kept c.requires)

pub returns : goal.returns
returns c =
    let made : IsMade _ _ _ _ = record { head = c.in_ok-program.ensures.head; moved = c.in_ok-program.ensures.moved; work = c.in_ok-program.ensures.work; right = c.in_ok-program.ensures.right } in
    selected_from c.args.kernel.now.source c.in_ok-text.text.items c.in_ok-head.head _ _ c.in_ok-program.program
    c.requires c.in_ok-head.ensures made c.in_ok-text.ensures.text c.in_ok-text.ensures.written
