use Rattle.std.proofs.lemmas.Result.{err_from_is_err_and}
use Rattle.pf_top.specs.Steps.CommandSteps.{the_migration}
use Rattle.pf_top.proofs.Migrating.{rules_stopped, text_wanted, ended, unended}
use Rattle.pf_top.proofs.migrate.migrate.Goals as goal

pub returns-in_err-rules : goal.returns-in_err-rules
returns-in_err-rules g c =
    let p = err_from_is_err_and c.from_residual.result c.from_residual.ensures.1 in
    rw (p.1, p.2) (rules_stopped (the_migration c.args.words.now) _ _ c.in_err-rules.field-0.0 c.in_err-rules.ensures)

pub returns-in_err-text : goal.returns-in_err-text
returns-in_err-text g c =
    let p = err_from_is_err_and c.from_residual-in_err-text.result c.from_residual-in_err-text.ensures.1 in
    rw (p.1, p.2) (text_wanted (the_migration c.args.words.now) c.in_ok-rules.rules _ _ c.in_ok-rules.ensures)

pub returns-in_err-write_file : goal.returns-in_err-write_file
returns-in_err-write_file g c =
    let p = err_from_is_err_and c.from_residual-in_err-write_file.result c.from_residual-in_err-write_file.ensures.1 in
    rw (p.1, p.2) (unended (the_migration c.args.words.now) c.in_ok-rules.rules _ _ c.in_ok-rules.ensures _ _ c.as_slice.ensures.value c.in_ok-text.ensures _ c.in_err-write_file.field-0.0 c.in_err-write_file.ensures)

pub returns : goal.returns
returns g c = rw c.new.ensures (ended (the_migration c.args.words.now) c.in_ok-rules.rules _ _ c.in_ok-rules.ensures _ _ c.as_slice.ensures.value c.in_ok-text.ensures _ _ c.in_ok-write_file.ensures)
