use Rattle.std.proofs.Common.{◌≡◌, map, take, zip, string_bytes}
use Rattle.std.specs.List.{AllZip}
use Rattle.pf_outside.specs.Meaning.StoreCalls.{seen}
use Rattle.pf_top.specs.Steps.RunSteps.{HeldImages}
use Rattle.pf_top.proofs.image_files.read_images.Given as goal

abbrev pub invariant-images : goal.invariant-images
invariant-images g l = record {
  read : HeldImages (zip (map string_bytes l.names) l.decls) l.n l.images (seen g.F.Files.held g.F.Files.faults g.F.Files.calls l.initial.files) (seen g.F.Files.held g.F.Files.faults g.F.Files.calls l.files);
  types : AllZip (λ d p. p.ty ≡ d.ty) (take l.n l.decls) l.images;
}
