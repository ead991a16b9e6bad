use Rattle.std.proofs.Common.{sym, ◌∙◌, arith}
use Rattle.std.proofs.lemmas.Bool.{ltb-true}
use Rattle.pf_machine_tests.proofs.Memories.{front_memory}
use Rattle.pf_machine_tests.proofs.machine.+is_memory.Goals as goal
use Rattle.pf_machine_tests.proofs.machine.+is_memory.Goals.{then-end-lt2147483648, else-end-lt2147483648}

pub returns-then-are_behind : goal.returns-then-are_behind
returns-then-are_behind t c ok =
    elim c.if-end-lt2147483648.branch [
      | then-end-lt2147483648 w ↦
          front_memory c.args.regions.now c.first-item.result c.in-Some.end c.in-len1-up.len_at_least c.first-item.is
          (omega (arith, c.in-Some.ensures.1, c.len.ensures)) w.if-end-lt2147483648.true
          (w.are_behind.ensures (sym w.value-is ∙ c.if-are_behind.true)) (c.is_memory.ensures ok)
      | else-end-lt2147483648 w ↦ absurd (omega (arith, ltb-true c.in-Some.end 2147483648 (sym w.value-is ∙ c.if-are_behind.true), w.if-end-lt2147483648.false))
    ]
