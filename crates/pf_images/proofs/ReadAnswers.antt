-- What a call answers, from what reading gives.
use Rattle.std.proofs.Common.{◌≡◌, ℕ, ◌-◌, ◌<◌, ◌≤◌, List, length, get_or, Result, Ok, Err, refl, sym, ap, ◌∙◌, arith, inl, inr, subst}
use Rattle.std.proofs.lemmas.List.Elements.{All-from_get_or, recursion_from_All}
use Rattle.pf_text.specs.Meaning.Answers.{Answers, Decides}
use Rattle.pf_text.proofs.Answering.{decides}
use Rattle.pf_ints.specs.declared.lane.LaneType.{LaneType}
use Rattle.pf_ints.specs.Meaning.Images.{Picture, IsPicture, IsPixelType}
use Rattle.pf_images.specs.declared.fault.Fault.{Fault}
use Rattle.pf_images.specs.declared.fault.ImageFault.{ImageFault}
use Rattle.pf_images.specs.declared.fault.ImageFault.TheVariants.{At, Memory}
use Rattle.pf_images.specs.declared.header.Header.{Header}
use Rattle.pf_images.specs.Meaning.Pgm.{IsPgm}
use Rattle.pf_images.specs.Meaning.Faults.{IsFault, IsFaultAt}
use Rattle.pf_images.specs.Steps.Reading.{GivesImage, parts_of, pixels_of, image_of}
use Rattle.pf_images.proofs.Pairs.{IsBytes}
use Rattle.pf_images.proofs.Images.{parts_take, image_takes, image_again}
use Rattle.pf_images.proofs.Faults.{left_within, image_told}
use Rattle.pf_images.proofs.FaultsAgain.{fault_again, at_within}

bytes_fit : (bytes : List ℕ) → ((i : ℕ) → get_or bytes i 0 < 256) → IsBytes bytes
bytes_fit bytes h = recursion_from_All (λ b. b < 256) bytes (All-from_get_or (λ b. b < 256) bytes 0 (λ i lt. h i))

pub placed_answers : (bytes : List ℕ) (read : Result Picture Fault) (f : Fault) → read ≡ Err f → f.left ≤ length bytes → GivesImage bytes (Err (At (length bytes - f.left) f.kind)) read
placed_answers bytes read f e h =
    let back : f.left ≡ length bytes - (length bytes - f.left) = omega arith in
    (omega arith, e ∙ ap (λ (n : ℕ). let g : Fault = record { left = n; kind = f.kind } in Err g) back)

-- the header and the pixels make an image
pub image_ready : (ty : LaneType) (bytes : List ℕ) (x : Header × List ℕ) (pixels : List ℕ) → IsPixelType ty → ((i : ℕ) → get_or bytes i 0 < 256) → parts_of ty bytes ≡ Ok x → pixels ≡ pixels_of x.0.maxval x.1
    → IsPicture (record { width = x.0.width; height = x.0.height; ty = ty; pixels = pixels })
image_ready ty bytes x pixels narrow fits e p = subst (λ (ps : List ℕ). IsPicture (record { width = x.0.width; height = x.0.height; ty = ty; pixels = ps })) (sym p) (parts_take ty bytes x narrow (bytes_fit bytes fits) e).picture

pub refused : (ty : LaneType) (bytes : List ℕ) (f : Fault) (e : ImageFault) → parts_of ty bytes ≡ Err f → e ≡ At (length bytes - f.left) f.kind → GivesImage bytes (Err e) (image_of ty bytes)
unfolding image_of
refused ty bytes f e is told = subst (λ (e : ImageFault). GivesImage bytes (Err e) (image_of ty bytes)) (sym told) (placed_answers bytes (image_of ty bytes) f (rw is refl) (left_within ty bytes f is))

module _ (ty : LaneType) (bytes : List ℕ) where
  -- an image is read of its bytes, and a fault is told
  answered : (r : Result Picture ImageFault) → IsPixelType ty → IsBytes bytes → GivesImage bytes r (image_of ty bytes) → Answers Memory (IsPgm bytes ty) (IsFault ty bytes) r
  answered (Ok p) narrow fits a = image_takes ty bytes p narrow fits a
  answered (Err (At at kind)) narrow fits a =
      let back : length bytes - (length bytes - at) ≡ at = omega (arith, a.0) in
      inl (subst (λ (n : ℕ). IsFaultAt ty bytes n kind) back (image_told ty bytes (record { left = length bytes - at; kind = kind }) a.1))
  answered (Err Memory) narrow fits a = inr refl

  one_image : (p q : Picture) → IsPgm bytes ty p → IsPgm bytes ty q → p ≡ q
  one_image p q h k = let same : ◌≡◌ {A = Result Picture Fault} (Ok p) (Ok q) = sym (image_again ty bytes p h) ∙ image_again ty bytes q k in cc

  err_is : (f g : Fault) → ◌≡◌ {A = Result Picture Fault} (Err f) (Err g) → f ≡ g
  err_is f g e = cc

  one_fault : (e f : ImageFault) → IsFault ty bytes e → IsFault ty bytes f → e ≡ f
  one_fault Memory f h k = absurd h
  one_fault (At at kind) Memory h k = absurd k
  one_fault (At at kind) (At place which) h k =
      let both = err_is (record { left = length bytes - at; kind = kind }) (record { left = length bytes - place; kind = which }) (sym (fault_again ty bytes at kind h) ∙ fault_again ty bytes place which k) in
      let left : length bytes - at ≡ length bytes - place = ap (λ (g : Fault). g.left) both in
      let same : at ≡ place = omega (arith, at_within ty bytes at kind h, at_within ty bytes place which k) in
      λ i. At (same i) (both i).kind

  whole : (p : Picture) (e : ImageFault) → IsPgm bytes ty p → IsFault ty bytes e → ⊥
  whole p Memory h k = k
  whole p (At at kind) h k =
      let both : ◌≡◌ {A = Result Picture Fault} (Ok p) (Err (record { left = length bytes - at; kind = kind })) = sym (image_again ty bytes p h) ∙ fault_again ty bytes at kind k in
      absurd (cc)

  pub decided : (r : Result Picture ImageFault) → IsPixelType ty → ((i : ℕ) → get_or bytes i 0 < 256) → GivesImage bytes r (image_of ty bytes) → Decides Memory (IsPgm bytes ty) (IsFault ty bytes) r
  decided r narrow fits a = decides Picture ImageFault Memory (IsPgm bytes ty) (IsFault ty bytes) one_image one_fault whole r (answered r narrow (bytes_fit bytes fits) a)
