use Rattle.pf_top.proofs.statuses.tell_kernel.Goals as goal

pub returns-in-Syntax : goal.returns-in-Syntax
returns-in-Syntax g c = rw (c.in-Syntax.is, ← c.from.ensures) c.tell_line.ensures

pub returns-in-Types : goal.returns-in-Types
returns-in-Types g c = rw (c.in-Types.is, ← c.from-in-Types.ensures, ← c.type_word.ensures, ← c.type_word-in-Types.ensures) c.tell_line-in-Types.ensures
