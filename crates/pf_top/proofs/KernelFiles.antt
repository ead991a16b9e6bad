-- The types of a kernel's images.
use Rattle.std.proofs.Common.{◌<◌, List, [], ◌∷◌, length, map, subst, sym, arith}
use Rattle.std.specs.Prelude.{All}
use Rattle.std.proofs.lemmas.List.{get_or-map, length-map}
use Rattle.std.proofs.lemmas.List.Elements.{All-get_or, All-from_get_or}
use Rattle.pf_ints.specs.Meaning.Images.{IsPixelType}
use Rattle.pf_values.specs.declared.kernel.ImageDecl.{ImageDecl}
use Rattle.pf_values.specs.declared.names.ImageName.{ImageName}
use Rattle.pf_kernel.specs.Meaning.Kernels.{image_name}

pub pixel_decls : (ds : List ImageDecl) → All (λ (i : ImageName). IsPixelType i.ty) (map image_name ds) → All (λ d. IsPixelType d.ty) ds
pixel_decls [] all = λ k d low. absurd (omega (arith, low))
pixel_decls (x ∷ ds) all = All-from_get_or (λ (d : ImageDecl). IsPixelType d.ty) (x ∷ ds) x (λ i low.
    let within : i < length (map image_name (x ∷ ds)) = subst (λ k. i < k) (sym (length-map (x ∷ ds) image_name)) low in
    subst (λ (n : ImageName). IsPixelType n.ty) (get_or-map image_name (x ∷ ds) i x (image_name x) low) (All-get_or (λ (n : ImageName). IsPixelType n.ty) (map image_name (x ∷ ds)) i (image_name x) within all))
