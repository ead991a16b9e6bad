use Rattle.std.proofs.Common.{◌≡◌, drop, true, All}
use Rattle.std.specs.List.{last_or}
use Rattle.std.specs.Prelude.{None}
use Rattle.pf_machine.specs.Meaning.Programs.{IsLast}
use Rattle.pf_isa.specs.Meaning.TextFaults.{texts}
use Rattle.pf_isa.specs.Steps.CodeReading.{has_name, IsFirstMissing}
use Rattle.pf_isa.proofs.CodeTexts.{code_says, code_missing, code_open, length_behind}
use Rattle.pf_isa.proofs.read_code.read_whole_code.Goals as goal

pub returns-in-Some-clause-fault : goal.returns-in-Some-clause-fault
returns-in-Some-clause-fault g c =
    let r = c.in_ok-reading.reading in
    let read = c.in_ok-reading.ensures.read in
    let missing : IsFirstMissing (has_name r.names) r.jumps.items c.in-Some.line = rw c.as_slice.ensures.value at c.in-Some.ensures in
    rw c.fault.ensures (code_missing g.I.Isa.table g.I.Isa.is_op c.args.start (drop c.args.start (texts c.args.lines.now)) read.0 r c.in-Some.line read.1 missing)

pub returns-then-not-ends-clause-fault : goal.returns-then-not-ends-clause-fault
returns-then-not-ends-clause-fault g c =
    let r = c.in_ok-reading.reading in
    let read = c.in_ok-reading.ensures.read in
    let jumps : All (λ j. has_name r.names j.label ≡ true) r.jumps.items = rw c.as_slice.ensures.value at c.in_default.ensures in
    let open_end : IsLast (last_or None r.code) → ⊥ = λ h. let ends : c.ends.result ≡ true = c.ends.ensures.1 (rw c.as_slice-2.ensures h) in cc in
    rw c.fault-then-not-ends.ensures (code_open g.I.Isa.table g.I.Isa.is_op c.args.start (drop c.args.start (texts c.args.lines.now)) read.0 r read.1 jumps open_end, length_behind c.args.lines.now c.args.start c.requires)

pub returns-clause-says : goal.returns-clause-says
returns-clause-says g c =
    let r = c.in_ok-reading.reading in
    let read = c.in_ok-reading.ensures.read in
    let jumps : All (λ j. has_name r.names j.label ≡ true) r.jumps.items = rw c.as_slice.ensures.value at c.in_default.ensures in
    let ends : IsLast (last_or None r.code) = rw c.as_slice-2.ensures at (c.ends.ensures.0 c.if-not-ends.false) in
    code_says g.I.Isa.table g.I.Isa.is_op c.args.start (drop c.args.start (texts c.args.lines.now)) read.0 r read.1 jumps ends
