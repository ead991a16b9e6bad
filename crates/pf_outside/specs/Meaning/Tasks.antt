-- What the words of a command ask for, and what a call comes to.
use Rattle.std.specs.Prelude.{◌≡◌, ◌↔◌, ℕ, ◌+◌, ◌<◌, List, [], Option, Some, None, IsSome, Result, Ok, Err, length, slice_index_or}
use Rattle.std.specs.Option.{unwrap_or}
use Rattle.pf_images.specs.Meaning.Outside.{Contents, SameContents, Puts, PutsPart}
use Rattle.pf_outside.specs.declared.stop.Stop.{Stop}
use Rattle.pf_outside.specs.declared.stop.Stop.TheVariants.{Missing, Unreadable, Refused, Failed, Unwritten, Memory}
use Rattle.pf_outside.specs.Meaning.StoreCalls.{Store, Calls, Well, Lacking, Failing, Wanting, StoreAfter}

-- what some words ask for. E is why a file is refused, F why a call stops whose files so far are good
pub record Task (E F : Type 0) : Type 1 where
  -- the files that are read, in this order, each judged before the next one is read
  pub names : List (List ℕ)
  -- the file that is written behind them
  pub out : Option (List ℕ)
  -- so many first files are such as they should be
  pub Good : ℕ → Contents → Type 0
  -- the file of this number, counted from 0, is refused
  pub Refuses : ℕ → E → Contents → Type 0
  -- it stops for this reason, and behind how many files
  pub Fails : F → Contents → Type 0
  pub reads : F → ℕ
  -- what the words leave room for, whatever the files hold: a reason tells of files of theirs
  pub Allows : F → Type 0
  -- the words alone are the reason
  pub Bars : F → Type 0
  -- the lines that it puts, and the bytes of the file that it writes
  pub Makes : List (List ℕ) → List ℕ → Contents → Type 0
  -- it does its work on these files
  pub Works : Contents → Type 0

-- what a call comes to: the lines of its work, or why it ended without it
abbrev pub Verdict : (E F : Type 0) → Type 0
Verdict E F = Result (List (List ℕ)) (Stop E F)

-- the name of a file that is read
abbrev pub file_name : {E F : Type 0} → Task E F → ℕ → List ℕ
file_name t n = slice_index_or t.names n []

-- the name of the file that is written
abbrev pub out_name : {E F : Type 0} → Task E F → List ℕ
out_name t = unwrap_or t.out []

-- the file is written whole, or in part; where there is none, nothing is
abbrev pub Leaves : Option (List ℕ) → List ℕ → Contents → Contents → Type 0
Leaves None bytes old new = SameContents old new
Leaves (Some name) bytes old new = Puts name bytes old new

abbrev pub LeavesPart : Option (List ℕ) → List ℕ → Contents → Contents → Type 0
LeavesPart None bytes old new = ⊥
LeavesPart (Some name) bytes old new = PutsPart name bytes old new

-- what the store held where the call came to this verdict, and what it holds after it
abbrev pub Effect : {E F : Type 0} → Task E F → Verdict E F → Contents → Contents → Type 0
Effect t (Ok lines) old new = (bytes : List ℕ) × t.Makes lines bytes old × Leaves t.out bytes old new
Effect t (Err (Missing n)) old new = t.Good n old × (old (file_name t n) ≡ None) × SameContents old new
Effect t (Err (Unreadable n)) old new = t.Good n old × SameContents old new
Effect t (Err (Refused n e)) old new = t.Good n old × t.Refuses n e old × SameContents old new
Effect t (Err (Failed f)) old new = t.Fails f old × SameContents old new
Effect t (Err Unwritten) old new = (lines : List (List ℕ)) × (bytes : List ℕ) × t.Makes lines bytes old × LeavesPart t.out bytes old new
Effect t (Err Memory) old new = SameContents old new

-- how many files are written
abbrev pub writes : Option (List ℕ) → ℕ
writes None = 0
writes (Some name) = 1

-- the calls of the store: each file that was judged was read once, no other was, and the last call writes
abbrev pub calls_of : {E F : Type 0} → Task E F → Verdict E F → Calls
calls_of t (Ok lines) = Well (length t.names + writes t.out)
calls_of t (Err (Missing n)) = Lacking (n + 1)
calls_of t (Err (Unreadable n)) = Failing (n + 1)
calls_of t (Err (Refused n e)) = Well (n + 1)
calls_of t (Err (Failed f)) = Well (t.reads f)
calls_of t (Err Unwritten) = Failing (length t.names + 1)
calls_of t (Err Memory) = Wanting (length t.names + writes t.out)

-- what a verdict tells of is the task's
abbrev pub IsAmong : {E F : Type 0} → Task E F → Verdict E F → Type 0
IsAmong t (Err (Missing n)) = n < length t.names
IsAmong t (Err (Unreadable n)) = n < length t.names
IsAmong t (Err (Refused n e)) = n < length t.names
IsAmong t (Err (Failed f)) = t.Allows f
IsAmong t (Err Unwritten) = IsSome t.out
IsAmong t _ = Unit {0}

-- the call came to this verdict; without a look at any file exactly where the words bar it
pub record EndsWith {E F : Type 0} (t : Task E F) (before : Store) (v : Verdict E F) (after : Store) : Type 0 where
  pub among : IsAmong t v
  pub barred : (f : F) → ((v ≡ Err (Failed f)) × (t.reads f ≡ 0)) ↔ t.Bars f
  pub went : StoreAfter (Effect t v) (calls_of t v) before after
