use Rattle.std.proofs.Common.{ap, ◌∙◌, Bool}
use Rattle.std.specs.List.{position}
use Rattle.std.specs.Str.{bytes_eq}
use Rattle.pf_values.specs.declared.names.ImageName.{ImageName}
use Rattle.pf_terms.proofs.Lookups.{place_told}
use Rattle.pf_terms.proofs.lookup.image_number.Goals as goal

pub returns-clause-value : goal.returns-clause-value
returns-clause-value c =
    let test : ImageName → Bool = λ i. bytes_eq i.name c.args.name.now in
    place_told test c.args.images.now c.image_place.result c.len.result c.unwrap_or.result (c.image_place.ensures.value ∙ ap (position test) c.as_slice.ensures) c.len.ensures c.unwrap_or.ensures
