-- The effect of an operation of every set: what it reads, what it changes, and what a new name does to it.
use Rattle.std.proofs.Common.{◌≡◌, ◌≢◌, ℕ, zero, suc, ◌==◌, ◌<◌, List, [], ◌∷◌, length, map, All, false, refl, arith, sym, ◌∙◌, ap, ⊎_elim}
use Rattle.std.specs.Prelude.{Contains, if◌then◌else◌}
use Rattle.std.proofs.lemmas.Bool.{cases_eq}
use Rattle.std.proofs.lemmas.Bool.Decides.{nat_tests}
use Rattle.std.proofs.lemmas.List.{get_or-set_other, get_or-set_same, length-set, length-map}
use Rattle.std.proofs.lemmas.List.Elements.{All-head, All-tail}
use Rattle.pf_machine.specs.declared.registers.Reg.{Reg}
use Rattle.pf_machine.specs.declared.registers.Reg.TheVariants.{V, K, Q}
use Rattle.pf_machine.specs.declared.registers.RegFile.{RegFile}
use Rattle.pf_machine.specs.Meaning.Effects.{ReadsUses, ChangesDefs, IsRenamed, RenamingCommutes}
use Rattle.pf_machine.specs.Meaning.RegisterFiles.{read, write, reads, writes, IsRegisterOf, renamed_vector, renamed_register}
use Rattle.pf_machine.specs.Meaning.Tables.{Table, IsTable, after}

-- a register that is not among some is not the first of them, and not among the others
not_first : (d r : Reg) (ds : List Reg) → (Contains (d ∷ ds) r → ⊥) → d ≢ r
not_first d r ds none = λ e. none (0, omega arith, e)

not_later : (d r : Reg) (ds : List Reg) → (Contains (d ∷ ds) r → ⊥) → Contains ds r → ⊥
not_later d r ds none = λ c. none (suc c.0, omega (arith, c.1), c.2)

-- another register keeps what it holds
pub write_kept : (f : RegFile) (d r : Reg) (held : List ℕ) → d ≢ r → read (write f d held) r ≡ read f r
write_kept f (V n) (V m) held other = get_or-set_other f.vectors n m held [] (λ e. other (ap V (sym e)))
write_kept f (V n) K held other = refl
write_kept f (V n) Q held other = refl
write_kept f K (V m) held other = refl
write_kept f K K held other = absurd (other refl)
write_kept f K Q held other = refl
write_kept f Q (V m) held other = refl
write_kept f Q K held other = refl
write_kept f Q Q held other = absurd (other refl)

writes_kept : (f : RegFile) (ds : List Reg) (hs : List (List ℕ)) (r : Reg) → (Contains ds r → ⊥) → read (writes f ds hs) r ≡ read f r
writes_kept f [] hs r none = refl
writes_kept f (d ∷ ds) [] r none = refl
writes_kept f (d ∷ ds) (h ∷ hs) r none = writes_kept (write f d h) ds hs r (not_later d r ds none) ∙ write_kept f d r h (not_first d r ds none)

pub changes_defs : {O : Type 0} (t : Table O) → ChangesDefs t
changes_defs t op f r none = writes_kept f (t.defs op) (t.outcome op (reads f (t.uses op))) r none

length-write : (f : RegFile) (d : Reg) (held : List ℕ) → length (write f d held).vectors ≡ length f.vectors
length-write f (V n) held = length-set f.vectors n held
length-write f K held = refl
length-write f Q held = refl

-- the registers are those of a file
abbrev AreIn : RegFile → List Reg → Type 0
AreIn f rs = All (λ r. IsRegisterOf (length f.vectors) r) rs

later_in : (f : RegFile) (d : Reg) (ds : List Reg) (held : List ℕ) → AreIn f (d ∷ ds) → AreIn (write f d held) ds
later_in f d ds held inside = rw (length-write f d held) (All-tail (λ r. IsRegisterOf (length f.vectors) r) d ds inside)

first_in : (f : RegFile) (d : Reg) (ds : List Reg) → AreIn f (d ∷ ds) → IsRegisterOf (length f.vectors) d
first_in f d ds inside = All-head (λ r. IsRegisterOf (length f.vectors) r) d ds inside

-- what is written over two files is the same in both
same_written : (f g : RegFile) (d : Reg) (held : List ℕ) → IsRegisterOf (length f.vectors) d → IsRegisterOf (length g.vectors) d
    → read (write f d held) d ≡ read (write g d held) d
same_written f g (V n) held left right = get_or-set_same f.vectors n held [] left ∙ sym (get_or-set_same g.vectors n held [] right)
same_written f g K held left right = refl
same_written f g Q held left right = refl

still_same : (f g : RegFile) (d r : Reg) (held : List ℕ) → IsRegisterOf (length f.vectors) d → IsRegisterOf (length g.vectors) d → read f r ≡ read g r
    → read (write f d held) r ≡ read (write g d held) r
still_same f g (V n) (V m) held left right same =
    ⊎_elim
    (λ (e : n ≡ m). rw (← e) (same_written f g (V n) held left right))
    (λ (other : n ≡ m → ⊥). write_kept f (V n) (V m) held (λ e. other (vector_is e)) ∙ same ∙ sym (write_kept g (V n) (V m) held (λ e. other (vector_is e))))
    (cases_eq n m)
  where
    vector_is : {a b : ℕ} → ◌≡◌ {A = Reg} (V a) (V b) → a ≡ b
    vector_is e = cc
still_same f g (V n) K held left right same = same
still_same f g (V n) Q held left right same = same
still_same f g K (V m) held left right same = same
still_same f g K K held left right same = refl
still_same f g K Q held left right same = same
still_same f g Q (V m) held left right same = same
still_same f g Q K held left right same = same
still_same f g Q Q held left right same = refl

all_same : (f g : RegFile) (ds : List Reg) (hs : List (List ℕ)) (r : Reg) → AreIn f ds → AreIn g ds → read f r ≡ read g r
    → read (writes f ds hs) r ≡ read (writes g ds hs) r
all_same f g [] hs r left right same = same
all_same f g (d ∷ ds) [] r left right same = same
all_same f g (d ∷ ds) (h ∷ hs) r left right same =
    all_same (write f d h) (write g d h) ds hs r (later_in f d ds h left) (later_in g d ds h right) (still_same f g d r h (first_in f d ds left) (first_in g d ds right) same)

-- with a result for each register, all of them hold the same behind the writes
written_same : (f g : RegFile) (ds : List Reg) (hs : List (List ℕ)) (r : Reg) → length hs ≡ length ds → AreIn f ds → AreIn g ds → Contains ds r
    → read (writes f ds hs) r ≡ read (writes g ds hs) r
written_same f g [] hs r whole left right c = absurd (omega (arith, c.1))
written_same f g (d ∷ ds) [] r whole left right c = absurd (omega arith)
written_same f g (d ∷ ds) (h ∷ hs) r whole left right (zero, inside, is) =
    let here : read (write f d h) r ≡ read (write g d h) r = rw (← is) (same_written f g d h (first_in f d ds left) (first_in g d ds right)) in
    all_same (write f d h) (write g d h) ds hs r (later_in f d ds h left) (later_in g d ds h right) here
written_same f g (d ∷ ds) (h ∷ hs) r whole left right (suc k, inside, is) =
    written_same (write f d h) (write g d h) ds hs r (omega arith) (later_in f d ds h left) (later_in g d ds h right) (k, omega arith, is)

reads_same : (f g : RegFile) (rs : List Reg) → ((r : Reg) → Contains rs r → read f r ≡ read g r) → reads f rs ≡ reads g rs
reads_same f g [] same = refl
reads_same f g (r ∷ rs) same = rw (same r (0, omega arith, refl), reads_same f g rs (λ s c. same s (suc c.0, omega (arith, c.1), c.2))) refl

pub reads_uses : {O : Type 0} (t : Table O) (is_op : O → Type 0) → IsTable t is_op → ReadsUses t is_op
reads_uses t is_op laws op f g is left right same =
    let results = t.outcome op (reads f (t.uses op)) in
    let count : length results ≡ length (t.defs op) = laws.whole op (reads f (t.uses op)) is left.computes (length-map (t.uses op) (λ r. read f r)) in
    let alike : reads (writes f (t.defs op) results) (t.defs op) ≡ reads (writes g (t.defs op) results) (t.defs op) =
    reads_same (writes f (t.defs op) results) (writes g (t.defs op) results) (t.defs op) (λ r c. written_same f g (t.defs op) results r count left.defs right.defs c) in
    alike ∙ ap (λ held. reads (writes g (t.defs op) (t.outcome op held)) (t.defs op)) same

-- the new names read what the old ones read
reads_renamed : (from to : ℕ) (f g : RegFile) (rs : List Reg) → IsRenamed from to f g → (Contains rs (V to) → ⊥)
    → reads f rs ≡ reads g (map (λ r. renamed_register from to r) rs)
reads_renamed from to f g [] other none = refl
reads_renamed from to f g (r ∷ rs) other none = rw (other.same r (not_first r (V to) rs none), reads_renamed from to f g rs other (not_later r (V to) rs none)) refl

renamed_apart : (from to n m : ℕ) → n ≢ to → m ≢ to → n ≢ m → renamed_vector from to n ≢ renamed_vector from to m
renamed_apart from to n m a b differ e = grind (arith, nat_tests)

-- a write under the new name
renamed_written : (from to : ℕ) (f g : RegFile) (d r : Reg) (held : List ℕ) → IsRenamed from to f g → d ≢ V to → r ≢ V to → IsRegisterOf (length f.vectors) d
    → IsRegisterOf (length g.vectors) (renamed_register from to d)
    → read (write f d held) r ≡ read (write g (renamed_register from to d) held) (renamed_register from to r)
renamed_written from to f g (V n) (V m) held other a b left right =
    ⊎_elim
    (λ (e : n ≡ m). rw (e, get_or-set_same f.vectors m held [] (rw e at left), get_or-set_same g.vectors (renamed_vector from to m) held [] (rw e at right)) refl)
    (λ (differ : n ≡ m → ⊥).
    let apart : renamed_vector from to m ≢ renamed_vector from to n = renamed_apart from to m n (λ e. b (ap V e)) (λ e. a (ap V e)) (λ e. differ (sym e)) in
    get_or-set_other f.vectors n m held [] (λ e. differ (sym e)) ∙ other.same (V m) b ∙ sym (get_or-set_other g.vectors (renamed_vector from to n) (renamed_vector from to m) held [] apart))
    (cases_eq n m)
renamed_written from to f g (V n) K held other a b left right = other.same K b
renamed_written from to f g (V n) Q held other a b left right = other.same Q b
renamed_written from to f g K (V m) held other a b left right = other.same (V m) b
renamed_written from to f g K K held other a b left right = refl
renamed_written from to f g K Q held other a b left right = other.same Q b
renamed_written from to f g Q (V m) held other a b left right = other.same (V m) b
renamed_written from to f g Q K held other a b left right = other.same K b
renamed_written from to f g Q Q held other a b left right = refl

writes_renamed : (from to : ℕ) (f g : RegFile) (ds : List Reg) (hs : List (List ℕ)) → IsRenamed from to f g → (Contains ds (V to) → ⊥) → AreIn f ds
    → AreIn g (map (λ r. renamed_register from to r) ds)
    → IsRenamed from to (writes f ds hs) (writes g (map (λ r. renamed_register from to r) ds) hs)
writes_renamed from to f g [] hs other none left right = other
writes_renamed from to f g (d ∷ ds) [] other none left right = other
writes_renamed from to f g (d ∷ ds) (h ∷ hs) other none left right =
    let e = renamed_register from to d in
    let es = map (λ r. renamed_register from to r) ds in
    let next : IsRenamed from to (write f d h) (write g e h) = record { same = λ r free. renamed_written from to f g d r h other (not_first d (V to) ds none) free (first_in f d ds left) (first_in g e es right) } in
    writes_renamed from to (write f d h) (write g e h) ds hs next (not_later d (V to) ds none) (later_in f d ds h left) (later_in g e es h right)

pub renaming_commutes : {O : Type 0} (t : Table O) (is_op : O → Type 0) → IsTable t is_op → RenamingCommutes t
renaming_commutes t is_op laws op from to f g old new uses defs left right other =
    let named = t.renamed op from to in
    let read_by : reads g (t.uses named) ≡ reads f (t.uses op) = ap (reads g) (laws.rename_uses op from to old new) ∙ sym (reads_renamed from to f g (t.uses op) other uses) in
    let results : t.outcome named (reads g (t.uses named)) ≡ t.outcome op (reads f (t.uses op)) = laws.rename_outcome op from to _ ∙ ap (t.outcome op) read_by in
    let named_defs : t.defs named ≡ map (λ r. renamed_register from to r) (t.defs op) = laws.rename_defs op from to old new in
    let inside : AreIn g (map (λ r. renamed_register from to r) (t.defs op)) = rw named_defs at right.defs in
    rw (results, named_defs) (writes_renamed from to f g (t.defs op) _ other defs left.defs inside)
