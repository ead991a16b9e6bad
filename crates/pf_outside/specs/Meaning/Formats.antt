-- What is asked of a file.
use Rattle.std.specs.Prelude.{◌≡◌, ℕ, ◌+◌, List}
use Rattle.pf_images.specs.Meaning.Outside.{Contents}
use Rattle.pf_outside.specs.Meaning.StoreCalls.{FileStartsWith}

-- a format of files: P is what a file means, E why it is none
pub record Format (E P : Type 0) : Type 1 where
  -- the most bytes of a file. Of a longer one the first bytes up to one past them are judged
  pub most : ℕ
  -- the bytes mean this
  pub Spells : P → List ℕ → Type 0
  -- what is at fault in bytes that mean nothing
  pub Blames : E → List ℕ → Type 0

-- the bytes mean this and nothing else
abbrev pub Means : {E P : Type 0} → Format E P → P → List ℕ → Type 0
Means {E} {P} f p bytes = f.Spells p bytes × ((q : P) → f.Spells q bytes → p ≡ q)

-- the bytes mean nothing, for this reason
abbrev pub IsRefused : {E P : Type 0} → Format E P → E → List ℕ → Type 0
IsRefused {E} {P} f e bytes = ((p : P) → f.Spells p bytes → ⊥) × f.Blames e bytes

-- the name has a file that means this, and nothing else
abbrev pub Holds : {E P : Type 0} → Format E P → List ℕ → P → Contents → Type 0
Holds f name p files = FileStartsWith name (f.most + 1) (Means f p) files

-- the name has a file that is refused for this reason
abbrev pub HoldsNone : {E P : Type 0} → Format E P → List ℕ → E → Contents → Type 0
HoldsNone f name e files = FileStartsWith name (f.most + 1) (IsRefused f e) files
