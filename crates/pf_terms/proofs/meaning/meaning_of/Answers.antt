use Rattle.std.proofs.Common.{sym, ap, ◌∙◌}
use Rattle.pf_terms.specs.Meaning.Meanings.{names_after}
use Rattle.pf_terms.proofs.Meant.{near_after, meant}
use Rattle.pf_terms.proofs.meaning.meaning_of.Goals as goal

pub taps_of-requires : goal.taps_of-requires
taps_of-requires c =
    near_after c.args.names.now c.args.tree.now c.as_slice-wide_taps.result.now c.requires.names c.in_ok-term.ensures.near (c.as_slice-wide_taps.ensures ∙ c.in_ok-wide_taps.ensures)

pub returns-clause-read : goal.returns-clause-read
returns-clause-read c =
    meant c.args.names.now c.args.tree.now c.in_ok-term.term c.as_slice-wide_taps.result.now c.in_ok-names.field-0 (sym c.first_unknown.ensures ∙ c.in_default.is) c.in_ok-term.ensures.typed c.in_ok-term.ensures.near
    (c.as_slice-wide_taps.ensures ∙ c.in_ok-wide_taps.ensures) c.in_ok-term.ensures.few c.in_ok-term.ensures.made c.in_ok-names.ensures
