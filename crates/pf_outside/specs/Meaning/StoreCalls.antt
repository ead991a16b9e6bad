-- What calls of a store come to, whatever they are made for.
use Rattle.std.specs.Prelude.{◌≡◌, ℕ, ◌≤◌, List, take, Option, IsSomeAnd, IfNone}
use Rattle.pf_images.specs.Meaning.Counts.{raised_by, Rose}
use Rattle.pf_images.specs.Meaning.Outside.{Contents, Changes}

-- what is seen of a store at a moment
pub record Store : Type 0 where
  pub held : Option Contents
  pub faults : ℕ
  pub calls : ℕ

-- what is seen of a store whose trait tells this
abbrev pub seen : {T : Type 0} → (T → Option Contents) → (T → ℕ) → (T → ℕ) → T → Store
seen held faults calls store = record { held = held store; faults = faults store; calls = calls store }

-- how some calls went: so many, and all well; the last of so many found no file; the last of so many failed; at most so
-- many, and memory was wanting
pub data Calls : Type 0 where
  Well : ℕ → Calls
  Lacking : ℕ → Calls
  Failing : ℕ → Calls
  Wanting : ℕ → Calls

-- the count of faults over them: it rose where a call failed, and where a file is missing from a store that tells nothing;
-- else it stayed, but where a file is missing
abbrev pub FaultsAre : Calls → Option Contents → ℕ → ℕ → Type 0
FaultsAre (Well n) held before after = after ≡ before
FaultsAre (Lacking n) held before after = (before ≤ after) × IfNone held (Rose before after)
FaultsAre (Failing n) held before after = Rose before after
FaultsAre (Wanting n) held before after = after ≡ before

-- a count after at most this many calls
abbrev pub RaisedUpTo : ℕ → ℕ → ℕ → Type 0
RaisedUpTo most before after = (calls : ℕ) × (calls ≤ most) × (after ≡ raised_by calls before)

-- the count of calls over them
abbrev pub CallsAre : Calls → ℕ → ℕ → Type 0
CallsAre (Well n) before after = after ≡ raised_by n before
CallsAre (Lacking n) before after = after ≡ raised_by n before
CallsAre (Failing n) before after = after ≡ raised_by n before
CallsAre (Wanting n) before after = RaisedUpTo n before after

-- the store's calls went so, and where it tells its contents, they changed so
pub record StoreAfter (change : Contents → Contents → Type 0) (went : Calls) (before after : Store) : Type 0 where
  pub contents : Changes change before.held after.held
  pub faults : FaultsAre went before.held before.faults after.faults
  pub calls : CallsAre went before.calls after.calls

-- ---- reading and judging one file

-- the name has a file, of which so many first bytes are such
abbrev pub FileStartsWith : List ℕ → ℕ → (List ℕ → Type 0) → Contents → Type 0
FileStartsWith name most Q files = IsSomeAnd (files name) (λ all. Q (take most all))
