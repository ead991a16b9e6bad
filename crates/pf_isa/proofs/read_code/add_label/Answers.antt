use Rattle.std.proofs.Common.{◌≡◌, refl}
use Rattle.std.proofs.lemmas.Map.Text.{is_eq-slice_cmp}
use Rattle.pf_isa.specs.Steps.CodeReading.{has_name}
use Rattle.pf_isa.proofs.CodeLineLaws.{name_size}
use Rattle.pf_isa.proofs.CodeLaws.{added_new}
use Rattle.pf_isa.proofs.read_code.add_label.Goals as goal

pub unwrap-label-requires : goal.unwrap-label-requires
unwrap-label-requires g c = c.new.ensures.some.1 (name_size c.args.name.now c.requires)

pub returns : goal.returns
returns g c =
    let word : c.unwrap-label.result ≡ c.args.name.now = rw c.unwrap-label.ensures at c.new.ensures.value in
    record {
      unknown = added_new (has_name c.args.reading.now.names c.args.name.now) _ c.in_ok-insert.ensures.added c.if-not-branch.false;
      code_is = refl;
      labels_are = rw (← word, ← c.len.ensures) c.in_ok-push.ensures.ok;
      names_are = λ other. rw is_eq-slice_cmp at (c.in_ok-insert.ensures.updates.0 (record { ref_ptr = (0, 0); now = other }));
      jumps_are = refl;
    }
