use Rattle.std.proofs.Common.{refl}
use Rattle.pf_terms.specs.Meaning.Meanings.{same_tap}
use Rattle.pf_terms.proofs.Lookups.{place_told}
use Rattle.pf_terms.proofs.wide_taps.wide_tap_number.Goals as goal

pub returns-clause-value : goal.returns-clause-value
returns-clause-value c =
    place_told (same_tap c.args.wide_tap) c.args.wide_taps.now c.wide_tap_place.result _ c.unwrap_or.result c.wide_tap_place.ensures.value refl c.unwrap_or.ensures
