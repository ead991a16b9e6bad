-- What lines of code say, with one line more.
use Rattle.std.proofs.Common.{◌≡◌, ℕ, suc, ◌+◌, ◌-◌, ◌<◌, ◌≤◌, List, [], ◌∷◌, ◌++◌, length, take, drop, map, Bool, true, false, not, ◌||◌, Option, Some, None, refl, sym, ◌∙◌, ap, subst, arith, get_or, ⊎_elim, append_assoc, if◌then◌else◌}
use Rattle.std.specs.Prelude.{Ok, Err, Result, Contains, slice_index_or, ◌≢◌}
use Rattle.std.specs.Borrow.{Bor}
use Rattle.std.specs.List.{AllPairs, AllZip, list_any, last_or, slice_get, drop-map}
use Rattle.std.specs.Result.{IfErr, IsErrAnd}
use Rattle.std.specs.Str.{bytes_eq}
use Rattle.std.proofs.lemmas.Bool.{cases_Bool}
use Rattle.std.proofs.lemmas.List.{append-nil, take_rest, length-map, get_or-map, length-take-le, take_all}
use Rattle.std.proofs.lemmas.List.Elements.{Contains-get_or}
use Rattle.std.proofs.lemmas.List.Folds.{list_any-append}
use Rattle.std.proofs.lemmas.List.Quantifiers.{all_pairs_push}
use Rattle.std.proofs.lemmas.Map.Views.{Contains-from_any, list_any-from_Contains}
use Rattle.std.proofs.lemmas.Cmp.{nat_list_eq_equiv}
use Rattle.std.proofs.lemmas.Slice.Eq.{bytes_eq-Decides}
use Rattle.pf_machine.specs.declared.code.Line.{Line}
use Rattle.pf_isa.specs.declared.fault.TextFault.{TextFault}
use Rattle.pf_isa.specs.declared.fault.TextFault.TheVariants.{At, Memory}
use Rattle.pf_isa.specs.declared.read_code.CodeReading.{CodeReading}
use Rattle.pf_machine.specs.Meaning.Tables.{Table}
use Rattle.pf_isa.specs.Meaning.Texts.{CodeMeaning, Nothing, Named, Does, code_of, labels_of}
use Rattle.pf_isa.specs.Meaning.TextFaults.{SaysKnown, texts, label_names}
use Rattle.pf_machine.proofs.PlaceLaws.{take_item, split_item}
use Rattle.pf_isa.specs.Steps.CodeReading.{jump_of, jumps_of, has_name, IsCodeReading, AddsLabel, AddsInstruction, IsTaken, IsLineRefusal}

zip_push : {A B : Type 0} (R : A → B → Type 0) (xs : List A) (ys : List B) (x : A) (y : B) → AllZip R xs ys → R x y → AllZip R (xs ++ x ∷ []) (ys ++ y ∷ [])
zip_push R [] [] x y z r = (r, tt)
zip_push R [] (b ∷ ys) x y z r = absurd z
zip_push R (a ∷ xs) [] x y z r = absurd z
zip_push R (a ∷ xs) (b ∷ ys) x y z r = (z.0, zip_push R xs ys x y z.1 r)

pub zip_length : {A B : Type 0} (R : A → B → Type 0) (xs : List A) (ys : List B) → AllZip R xs ys → length xs ≡ length ys
zip_length R [] [] z = refl
zip_length R [] (b ∷ ys) z = absurd z
zip_length R (a ∷ xs) [] z = absurd z
zip_length R (a ∷ xs) (b ∷ ys) z = ap suc (zip_length R xs ys z.1)

code_of-push : {I O : Type 0} (said : List (CodeMeaning I O)) (s : CodeMeaning I O) → code_of (said ++ s ∷ []) ≡ code_of said ++ code_of (s ∷ [])
code_of-push [] s = refl
code_of-push (Nothing ∷ said) s = code_of-push said s
code_of-push (Named name ∷ said) s = code_of-push said s
code_of-push (Does line ∷ said) s = ap (λ ls. line ∷ ls) (code_of-push said s)

label_names-push : {I O : Type 0} (said : List (CodeMeaning I O)) (s : CodeMeaning I O) → label_names (said ++ s ∷ []) ≡ label_names said ++ label_names (s ∷ [])
label_names-push [] s = refl
label_names-push (Nothing ∷ said) s = label_names-push said s
label_names-push (Named name ∷ said) s = ap (λ ls. name ∷ ls) (label_names-push said s)
label_names-push (Does line ∷ said) s = label_names-push said s

labels_of-push : {I O : Type 0} (n : ℕ) (said : List (CodeMeaning I O)) (s : CodeMeaning I O) → labels_of n (said ++ s ∷ []) ≡ labels_of n said ++ labels_of (n + length (code_of said)) (s ∷ [])
labels_of-push n [] s =
    let none : n + 0 ≡ n = omega arith in
    rw none refl
labels_of-push n (Nothing ∷ said) s = labels_of-push n said s
labels_of-push n (Named name ∷ said) s = ap (λ ls. record { name = name; before = n } ∷ ls) (labels_of-push n said s)
labels_of-push n (Does line ∷ said) s =
    let count : n + 1 + length (code_of said) ≡ n + suc (length (code_of said)) = omega arith in
    subst (λ m. labels_of (n + 1) (said ++ s ∷ []) ≡ labels_of (n + 1) said ++ labels_of m (s ∷ [])) count (labels_of-push (n + 1) said s)

jumps_of-push : {I O : Type 0} (n : ℕ) (said : List (CodeMeaning I O)) (s : CodeMeaning I O) → jumps_of n (said ++ s ∷ []) ≡ jumps_of n said ++ jump_of (n + length said + 1) s
jumps_of-push n [] s =
    let count : n + 0 + 1 ≡ n + 1 = omega arith in
    rw count (append-nil (jump_of (n + 1) s))
jumps_of-push n (x ∷ said) s =
    let count : n + 1 + length said + 1 ≡ n + suc (length said) + 1 = omega arith in
    let rest : jumps_of (n + 1) (said ++ s ∷ []) ≡ jumps_of (n + 1) said ++ jump_of (n + suc (length said) + 1) s = subst (λ m. jumps_of (n + 1) (said ++ s ∷ []) ≡ jumps_of (n + 1) said ++ jump_of m s) count (jumps_of-push (n + 1) said s) in
    ap (λ js. jump_of (n + 1) x ++ js) rest ∙ sym (append_assoc (jump_of (n + 1) x) (jumps_of (n + 1) said) (jump_of (n + suc (length said) + 1) s))

-- ---- names

pub has_contains : (names : List (List ℕ)) (name : List ℕ) → list_any (bytes_eq name) names ≡ true → Contains names name
has_contains names name h = Contains-from_any (λ x y e. (bytes_eq-Decides x y).0 e) name names h

pub contains_has : (names : List (List ℕ)) (name : List ℕ) → Contains names name → list_any (bytes_eq name) names ≡ true
contains_has names name h = list_any-from_Contains nat_list_eq_equiv name names h

-- what is said is no label that stands before
abbrev pub IsFresh : {I O : Type 0} → List (List ℕ) → CodeMeaning I O → Type 0
IsFresh names (Named name) = Contains names name → ⊥
IsFresh names _ = Unit {0}

distinct_push : {I O : Type 0} (names : List (List ℕ)) (s : CodeMeaning I O) → AllPairs (λ a b. a ≢ b) names → IsFresh names s → AllPairs (λ a b. a ≢ b) (names ++ label_names (s ∷ []))
distinct_push names Nothing pairs fresh = subst (λ ns. AllPairs (λ a b. a ≢ b) ns) (sym (append-nil names)) pairs
distinct_push names (Does line) pairs fresh = subst (λ ns. AllPairs (λ a b. a ≢ b) ns) (sym (append-nil names)) pairs
distinct_push names (Named name) pairs fresh = all_pairs_push (λ a b. a ≢ b) names name pairs (λ k d within e. fresh (subst (λ n. Contains names n) e (Contains-get_or names k d within)))

-- one line more
pub reading_more : {I O : Type 0} (t : Table O) (is_op : O → Type 0) (start : ℕ) (ls : List (List ℕ)) (said : List (CodeMeaning I O)) (line : List ℕ) (s : CodeMeaning I O) (number : ℕ) (old new : CodeReading I O)
    → number ≡ start + length ls + 1 → IsCodeReading t is_op start ls said old → SaysKnown t is_op line s → IsFresh (label_names said) s
    → new.code ≡ old.code ++ code_of (s ∷ [])
    → new.labels ≡ old.labels ++ labels_of (length old.code) (s ∷ [])
    → ((name : List ℕ) → has_name new.names name ≡ (has_name old.names name || list_any (bytes_eq name) (label_names (s ∷ []))))
    → new.jumps.items ≡ old.jumps.items ++ jump_of number s
    → IsCodeReading t is_op start (ls ++ line ∷ []) (said ++ s ∷ []) new
reading_more t is_op start ls said line s number old new numbered r says fresh code labels names jumps =
    let names_pushed = label_names-push said s in
    let same : length ls ≡ length said = zip_length (SaysKnown t is_op) ls said r.read.each in
    let count : number ≡ start + length said + 1 = omega arith in
    let front : 0 + length (code_of said) ≡ length (code_of said) = omega arith in
    let labels_pushed : labels_of 0 (said ++ s ∷ []) ≡ labels_of 0 said ++ labels_of (length (code_of said)) (s ∷ []) = subst (λ m. labels_of 0 (said ++ s ∷ []) ≡ labels_of 0 said ++ labels_of m (s ∷ [])) front (labels_of-push 0 said s) in
    record {
      read = record {
        each = zip_push (SaysKnown t is_op) ls said line s r.read.each says;
        distinct = subst (λ ns. AllPairs (λ a b. a ≢ b) ns) (sym names_pushed) (distinct_push (label_names said) s r.read.distinct fresh);
      };
      code_is = code ∙ rw r.code_is (sym (code_of-push said s));
      labels_are = labels ∙ rw (r.labels_are, r.code_is) (sym labels_pushed);
      names_are = λ name.
          let before : has_name old.names name ≡ list_any (bytes_eq name) (label_names said) = r.names_are name in
          let both : list_any (bytes_eq name) (label_names said ++ label_names (s ∷ [])) ≡ (list_any (bytes_eq name) (label_names said) || list_any (bytes_eq name) (label_names (s ∷ []))) = list_any-append (bytes_eq name) (label_names said) (label_names (s ∷ [])) in
          names name ∙ rw (names_pushed, both, before) refl;
      jumps_are = jumps ∙ rw (r.jumps_are, count) (sym (jumps_of-push start said s));
    }

or_true : (b : Bool) → (b || true) ≡ true
or_true true = refl
or_true false = refl

or_false : (b : Bool) → b ≡ (b || false)
or_false true = refl
or_false false = refl

-- a name that was added was new
pub added_new : (b added : Bool) → added ≡ not b → added ≡ true → b ≡ false
added_new true added is known = sym known ∙ is
added_new false added is known = refl

pub blank_taken : {I O : Type 0} (t : Table O) (is_op : O → Type 0) (start : ℕ) (ls : List (List ℕ)) (said : List (CodeMeaning I O)) (line : List ℕ) (number : ℕ) (old : CodeReading I O)
    → number ≡ start + length ls + 1 → IsCodeReading t is_op start ls said old → SaysKnown {I = I} t is_op line Nothing
    → (s : CodeMeaning I O) × IsCodeReading t is_op start (ls ++ line ∷ []) (said ++ s ∷ []) old
blank_taken t is_op start ls said line number old numbered r says =
    (Nothing, reading_more t is_op start ls said line Nothing number old old numbered r says tt (sym (append-nil old.code)) (sym (append-nil old.labels)) (λ name. or_false (has_name old.names name)) (sym (append-nil old.jumps.items)))

pub instruction_taken : {I O : Type 0} (t : Table O) (is_op : O → Type 0) (start : ℕ) (ls : List (List ℕ)) (said : List (CodeMeaning I O)) (line : List ℕ) (l : Line I O) (number : ℕ) (old new : CodeReading I O) (result : Result (Unit {0}) TextFault)
    → number ≡ start + length ls + 1 → IsCodeReading t is_op start ls said old → SaysKnown t is_op line (Does l) → AddsInstruction l number old new result → IsTaken t is_op start ls said line number new result
instruction_taken t is_op start ls said line l number old new (Ok done) numbered r says adds =
    (Does l, reading_more t is_op start ls said line (Does l) number old new numbered r says tt adds.code_is (adds.labels_are ∙ sym (append-nil old.labels)) (λ name. adds.names_are name ∙ or_false (has_name old.names name)) adds.jumps_are)
instruction_taken t is_op start ls said line l number old new (Err (At at kind)) numbered r says adds = absurd adds
instruction_taken t is_op start ls said line l number old new (Err Memory) numbered r says adds = tt

-- a set with one name more
more_names : (name other : List ℕ) (old new : Bool) → new ≡ (if bytes_eq name other then true else old) → new ≡ (old || (bytes_eq other name || false))
more_names name other old new is =
    let both : bytes_eq name other ≡ bytes_eq other name = nat_list_eq_equiv.symm name other in
    ⊎_elim
    (λ (here : bytes_eq name other ≡ true).
    let back : bytes_eq other name ≡ true = sym both ∙ here in
    rw (back) (rw here at is ∙ sym (or_true old)))
    (λ (apart : bytes_eq name other ≡ false).
    let back : bytes_eq other name ≡ false = sym both ∙ apart in
    rw (back) (rw apart at is ∙ or_false old))
    (cases_Bool (bytes_eq name other))

pub label_taken : {I O : Type 0} (t : Table O) (is_op : O → Type 0) (start : ℕ) (ls : List (List ℕ)) (said : List (CodeMeaning I O)) (line name : List ℕ) (number : ℕ) (old new : CodeReading I O) (result : Result (Unit {0}) TextFault)
    → number ≡ start + length ls + 1 → IsCodeReading t is_op start ls said old → SaysKnown {I = I} t is_op line (Named name) → AddsLabel name number old new result → IsTaken t is_op start ls said line number new result
label_taken t is_op start ls said line name number old new (Ok done) numbered r says adds =
    let unknown : list_any (bytes_eq name) (label_names said) ≡ false = sym (r.names_are name) ∙ adds.unknown in (
      Named name,
      reading_more t is_op start ls said line (Named name) number old new numbered r says
          (λ there. let known : list_any (bytes_eq name) (label_names said) ≡ true = contains_has (label_names said) name there in cc)
          (adds.code_is ∙ sym (append-nil old.code)) adds.labels_are (λ other. more_names name other (has_name old.names other) (has_name new.names other) (adds.names_are other)) (adds.jumps_are ∙ sym (append-nil old.jumps.items)),
    )
label_taken t is_op start ls said line name number old new (Err (At at kind)) numbered r says adds =
    let there : Contains (label_names said) name = has_contains (label_names said) name (sym (r.names_are name) ∙ adds.2) in
    (adds.0, rw adds.1 (name, says.0, there))
label_taken t is_op start ls said line name number old new (Err Memory) numbered r says adds = tt

-- ---- the lines behind a head, one after another

pub carried : {A E : Type 0} (r : Result A E) (f : E) (Q : E → Type 0) → IsErrAnd r (λ e. e ≡ f) → Q f → IfErr r Q
carried (Ok x) f Q is q = tt
carried (Err e) f Q is q = subst Q (sym is) q

pub behind_texts : (lines : List (Bor (List ℕ))) (start : ℕ) → take (length lines - start) (drop start lines) ≡ drop start lines
behind_texts lines start = take_rest lines start

pub text_at : (lines : List (Bor (List ℕ))) (start n : ℕ) (d : Bor (List ℕ)) → n < length (take (length lines - start) (drop start lines))
    → (n < length (drop start (texts lines))) × (slice_index_or (drop start (texts lines)) n (get_or (take (length lines - start) (drop start lines)) n d).now ≡ (get_or (take (length lines - start) (drop start lines)) n d).now)
text_at lines start n d within =
    let rest : take (length lines - start) (drop start lines) ≡ drop start lines = take_rest lines start in
    let all : drop start (texts lines) ≡ map (λ (s : Bor (List ℕ)). s.now) (drop start lines) = drop-map (λ (s : Bor (List ℕ)). s.now) start lines in
    let inside : n < length (drop start lines) = rw rest at within in
    let many : n < length (map (λ (s : Bor (List ℕ)). s.now) (drop start lines)) = rw length-map inside in
    (rw all many, rw (rest, all) (get_or-map (λ (s : Bor (List ℕ)). s.now) (drop start lines) n d _ inside))

pub number_at : (start n : ℕ) (back : List (List ℕ)) → n < length back → start + n + 1 ≡ start + length (take n back) + 1
number_at start n back within =
    let inside : n ≤ length back = omega arith in
    let size : length (take n back) ≡ n = length-take-le n back inside in
    rw size refl

pub reading_on : {I O : Type 0} (t : Table O) (is_op : O → Type 0) (start : ℕ) (back : List (List ℕ)) (n : ℕ) (line : List ℕ) (said : List (CodeMeaning I O)) (new : CodeReading I O)
    → n < length back → line ≡ slice_index_or back n line → (s : CodeMeaning I O) × IsCodeReading t is_op start (take n back ++ line ∷ []) (said ++ s ∷ []) new
    → (more : List (CodeMeaning I O)) × IsCodeReading t is_op start (take (n + 1) back) more new
reading_on t is_op start back n line said new within is on =
    (said ++ on.0 ∷ [], subst (λ ls. IsCodeReading t is_op start ls (said ++ on.0 ∷ []) new) (sym (take_item back n line within is)) on.1)

pub line_refused : {I O : Type 0} (t : Table O) (is_op : O → Type 0) (start : ℕ) (back : List (List ℕ)) (n : ℕ) (line : List ℕ) (said : List (CodeMeaning I O)) (old new : CodeReading I O) (fault : TextFault)
    → n < length back → line ≡ slice_index_or back n line → IsCodeReading t is_op start (take n back) said old
    → IsTaken t is_op start (take n back) said line (start + n + 1) new (Err fault) → IsLineRefusal I t is_op start back fault
line_refused t is_op start back n line said old new (At at kind) within is r h =
    let inside : n ≤ length back = omega arith in
    (n, record { front = take n back; line = line; rest = drop (n + 1) back; said = said; parts = split_item back n line within is; count = sym (length-take-le n back inside); before = r.read; fault = h.1 }, h.0)
line_refused t is_op start back n line said old new Memory within is r h = tt

pub all_read : {I O : Type 0} (t : Table O) (is_op : O → Type 0) (start n : ℕ) (back : List (List ℕ)) (r : CodeReading I O) → length back ≤ n
    → (said : List (CodeMeaning I O)) × IsCodeReading t is_op start (take n back) said r → (said : List (CodeMeaning I O)) × IsCodeReading t is_op start back said r
all_read t is_op start n back r many on = (on.0, subst (λ ls. IsCodeReading t is_op start ls on.0 r) (take_all n back many) on.1)

-- ---- the last instruction

last_item : {A : Type 0} (x : A) (xs : List A) (o : Option A) → last_or o (x ∷ xs) ≡ slice_get (x ∷ xs) (length xs)
last_item x [] o = refl
last_item x (y ∷ ys) o = last_item y ys (Some x)

pub last_is : {A : Type 0} (xs : List A) → last_or None xs ≡ slice_get xs (length xs - 1)
last_is [] = refl
last_is (x ∷ xs) =
    let count : length (x ∷ xs) - 1 ≡ length xs = omega arith in
    rw count (last_item x xs None)
