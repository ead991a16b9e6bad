-- What is known of the files and of the output outside the program.
use Rattle.std.specs.Prelude.{◌≡◌, ◌≢◌, ℕ, ◌≤◌, List, [], ◌++◌, take, Option, Some, None, IsSomeAnd, IfSome, Result, Ok, Err, ◌⊎◌}
use Rattle.std.specs.Io.KnownBytes.{Appends as AppendsKnown}
use Rattle.pf_images.specs.declared.files.FilesFault.{FilesFault}
use Rattle.pf_images.specs.declared.files.FilesFault.TheVariants.{Missing, Failed, Memory}
use Rattle.pf_images.specs.Meaning.Counts.{Rose, raised}

-- what each name holds, or None where there is no such file
abbrev pub Contents : Type 0
Contents = List ℕ → Option (List ℕ)

-- every name holds what it held
abbrev pub SameContents : Contents → Contents → Type 0
SameContents old new = (name : List ℕ) → new name ≡ old name

-- the name holds the bytes, and every other name what it held
pub record Puts (name bytes : List ℕ) (old new : Contents) : Type 0 where
  pub there : new name ≡ Some bytes
  pub others : (other : List ℕ) → other ≢ name → new other ≡ old other

-- the name is as before or holds a prefix of the bytes, and every other name holds what it held
pub record PutsPart (name bytes : List ℕ) (old new : Contents) : Type 0 where
  pub there : (new name ≡ old name) ⊎ ((count : ℕ) × (new name ≡ Some (take count bytes)))
  pub others : (other : List ℕ) → other ≢ name → new other ≡ old other

-- how what is told changes: it stays untold, or stays told and changes by R
abbrev pub Changes : {T : Type 0} → (T → T → Type 0) → Option T → Option T → Type 0
Changes R None after = after ≡ None
Changes R (Some old) after = IsSomeAnd after (R old)

-- the first bytes of the file, where the store tells its contents
abbrev pub IsFrontOfFile : Option Contents → List ℕ → ℕ → List ℕ → Type 0
IsFrontOfFile held name most bytes = IfSome held (λ files. IsSomeAnd (files name) (λ all. bytes ≡ take most all))

-- that there is no file: the store has none of this name, or it tells nothing and a fault was counted
abbrev pub Lacks : Option Contents → List ℕ → ℕ → ℕ → Type 0
Lacks None name before after = Rose before after
Lacks (Some files) name before after = files name ≡ None

-- the count of faults over a call: only `Failed` and `Missing` may change it, and `Failed` raises it
abbrev pub HasCause : {T : Type 0} → ℕ → ℕ → Result T FilesFault → Type 0
HasCause before after (Ok _) = after ≡ before
HasCause before after (Err Memory) = after ≡ before
HasCause before after (Err Failed) = Rose before after
HasCause before after (Err Missing) = before ≤ after

-- the count of faults of a store in memory: one more after `Failed`
abbrev pub faults_after : {T : Type 0} → Result T FilesFault → ℕ → ℕ
faults_after (Ok _) before = before
faults_after (Err Memory) before = before
faults_after (Err Failed) before = raised before
faults_after (Err Missing) before = before

-- the count of faults of the machine: one more after `Failed` and after `Missing`
abbrev pub counted_after : {T : Type 0} → Result T FilesFault → ℕ → ℕ
counted_after (Ok _) before = before
counted_after (Err Memory) before = before
counted_after (Err Failed) before = raised before
counted_after (Err Missing) before = raised before

-- what a write leaves
abbrev pub Writes : {T : Type 0} → List ℕ → List ℕ → Option Contents → Option Contents → Result T FilesFault → Type 0
Writes name bytes old new (Ok _) = Changes (Puts name bytes) old new
Writes name bytes old new (Err Failed) = Changes (PutsPart name bytes) old new
Writes name bytes old new (Err _) = Changes SameContents old new

-- the bytes stand at the end
abbrev pub Appends : List ℕ → List ℕ → List ℕ → Type 0
Appends bytes old new = new ≡ old ++ bytes

-- a prefix of the bytes stands at the end
abbrev pub AppendsPart : List ℕ → List ℕ → List ℕ → Type 0
AppendsPart bytes old new = (count : ℕ) × (new ≡ old ++ take count bytes)

-- what a put leaves
abbrev pub Adds : {T : Type 0} → List ℕ → Option (List ℕ) → Option (List ℕ) → Result T FilesFault → Type 0
Adds bytes old new (Ok _) = Changes (Appends bytes) old new
Adds bytes old new (Err Failed) = Changes (AppendsPart bytes) old new
Adds bytes old new (Err _) = Changes (Appends []) old new

-- what a writer holds that was given the bytes, where it tells this: all of them behind what it held, or a prefix where it failed
abbrev pub Streams : {T : Type 0} → List ℕ → Option (List ℕ) → Option (List ℕ) → Result T FilesFault → Type 0
Streams bytes old new (Ok _) = AppendsKnown old new bytes
Streams bytes old new (Err _) = (count : ℕ) × AppendsKnown old new (take count bytes)
