-- What all lines of a code say together.
use Rattle.std.proofs.Common.{◌≡◌, ℕ, suc, ◌+◌, ◌-◌, ◌≤◌, List, [], ◌∷◌, ◌++◌, length, map, drop, Bool, true, false, Option, Some, None, refl, sym, ◌∙◌, ap, subst, arith, All, inr}
use Rattle.std.specs.Prelude.{Contains, ◌≢◌, ◌⊎◌}
use Rattle.std.specs.Borrow.{Bor}
use Rattle.std.specs.List.{AllPairs, AllZip, list_any, last_or, drop-map}
use Rattle.std.proofs.lemmas.List.{length-map, length-drop}
use Rattle.std.specs.Str.{bytes_eq}
use Rattle.std.proofs.lemmas.List.Elements.{All-nil, All-cons, All-head, All-tail, All-weaker}
use Rattle.std.proofs.lemmas.List.Kept.{AllPairs-cons}
use Rattle.pf_machine.specs.declared.code.Label.{Label}
use Rattle.pf_machine.specs.declared.code.Line.{Line}
use Rattle.pf_machine.specs.declared.code.Line.TheVariants.{Vector, Control as Controls}
use Rattle.pf_isa.specs.declared.fault.TextKind.TheVariants.{Label as LabelFault}
use Rattle.pf_isa.specs.declared.jumps.Jump.{Jump}
use Rattle.pf_isa.specs.declared.read_code.CodeReading.{CodeReading}
use Rattle.pf_machine.specs.Meaning.Programs.{jumps_to, IsThere, IsInstructionOf, IsLast, IsLabel}
use Rattle.pf_machine.specs.Meaning.Tables.{Table}
use Rattle.pf_isa.specs.Meaning.Texts.{CodeMeaning, Nothing, Named, Does, SaysCode, code_of, labels_of, IsOpOf, IsCodeText}
use Rattle.pf_isa.specs.Meaning.TextFaults.{texts, IsOperation, SaysKnown, label_names, AreCodeLines, IsNamed, HasPlace, IsBadLine, IsBadJump, IsOpenEnd}
use Rattle.pf_isa.specs.Steps.CodeReading.{jump_at, jumps_of, has_name, IsFirstMissing, IsCodeReading}
use Rattle.pf_machine.specs.Steps.Places.{jump_label}
use Rattle.pf_isa.proofs.CodeLaws.{has_contains, contains_has}

-- ---- jumps and their labels

-- what is said is no jump to a label that a set lacks
abbrev placed_at : (List ℕ → Bool) → Option (List ℕ) → Bool
placed_at has None = true
placed_at has (Some label) = has label

abbrev is_placed : {I O : Type 0} → (List ℕ → Bool) → CodeMeaning I O → Bool
is_placed has (Does l) = placed_at has (jump_label l)
is_placed has _ = true

-- the set has these names
abbrev IsSetOf : List (List ℕ) → (List ℕ → Bool) → Type 0
IsSetOf names has = (name : List ℕ) → has name ≡ list_any (bytes_eq name) names

named_from : (names : List (List ℕ)) (has : List ℕ → Bool) → IsSetOf names has → (o : Option (List ℕ)) → placed_at has o ≡ true → IsNamed names o
named_from names has same None h = tt
named_from names has same (Some label) h = has_contains names label (sym (same label) ∙ h)

not_named : (names : List (List ℕ)) (has : List ℕ → Bool) → IsSetOf names has → (o : Option (List ℕ)) → placed_at has o ≡ false → IsNamed names o → ⊥
not_named names has same None h there = cc
not_named names has same (Some label) h there =
    let known : has label ≡ true = same label ∙ contains_has names label there in
    cc

place_from : {I O : Type 0} (names : List (List ℕ)) (has : List ℕ → Bool) → IsSetOf names has → (s : CodeMeaning I O) → is_placed has s ≡ true → HasPlace names s
place_from names has same Nothing h = tt
place_from names has same (Named name) h = tt
place_from names has same (Does (Vector op)) h = tt
place_from names has same (Does (Controls c)) h = named_from names has same (jumps_to c) h

no_place : {I O : Type 0} (names : List (List ℕ)) (has : List ℕ → Bool) → IsSetOf names has → (s : CodeMeaning I O) → is_placed has s ≡ false → HasPlace names s → ⊥
no_place names has same Nothing h there = cc
no_place names has same (Named name) h there = cc
no_place names has same (Does (Vector op)) h there = cc
no_place names has same (Does (Controls c)) h there = not_named names has same (jumps_to c) h there

-- the line of the first jump to a missing label, where so many lines stand before these
record IsMissingAt {I O : Type 0} (has : List ℕ → Bool) (n : ℕ) (said : List (CodeMeaning I O)) (line : ℕ) : Type 0 where
  front : List (CodeMeaning I O)
  jump : CodeMeaning I O
  rest : List (CodeMeaning I O)
  parts : said ≡ front ++ jump ∷ rest
  count : line ≡ n + length front + 1
  before : All (λ s. is_placed has s ≡ true) front
  missing : is_placed has jump ≡ false

later : {I O : Type 0} (has : List ℕ → Bool) (n : ℕ) (x : CodeMeaning I O) (said : List (CodeMeaning I O)) (line : ℕ) → is_placed has x ≡ true → IsMissingAt has (n + 1) said line → IsMissingAt has n (x ∷ said) line
later has n x said line placed m =
    let count : line ≡ n + 1 + length m.front + 1 = m.count in
    record {
      front = x ∷ m.front;
      jump = m.jump;
      rest = m.rest;
      parts = ap (λ ls. x ∷ ls) m.parts;
      count = omega arith;
      before = All-cons (λ s. is_placed has s ≡ true) x m.front placed m.before;
      missing = m.missing;
    }

here_or_later : {I O : Type 0} (has : List ℕ → Bool) (n : ℕ) (x : CodeMeaning I O) (said : List (CodeMeaning I O)) (line : ℕ) (first : Jump) (jumps front : List Jump) (jump : Jump) (rest : List Jump)
    → is_placed has x ≡ has first.label → first.line ≡ n + 1 → first ∷ jumps ≡ front ++ jump ∷ rest → All (λ j. has j.label ≡ true) front → has jump.label ≡ false → line ≡ jump.line
    → (IsFirstMissing has jumps line → IsMissingAt has (n + 1) said line) → IsMissingAt has n (x ∷ said) line
here_or_later has n x said line first jumps [] jump rest placed at parts before missing line_is go =
    let same : first ≡ jump = cc in
    let lacks : has first.label ≡ false = rw same missing in
    let number : line ≡ n + 1 = line_is ∙ ap (λ j. j.line) (sym same) ∙ at in
    record { front = []; jump = x; rest = said; parts = refl; count = omega arith; before = All-nil (λ s. is_placed has s ≡ true); missing = placed ∙ lacks }
here_or_later has n x said line first jumps (y ∷ front) jump rest placed at parts before missing line_is go =
    let same : first ≡ y = cc in
    let behind : jumps ≡ front ++ jump ∷ rest = cc in
    let known : has y.label ≡ true = All-head (λ j. has j.label ≡ true) y front before in
    let placed_here : is_placed has x ≡ true = placed ∙ rw same known in
    later has n x said line placed_here (go (record { front = front; jump = jump; rest = rest; parts = behind; before = All-tail (λ j. has j.label ≡ true) y front before; missing = missing; line_is = line_is }))

at_label : {I O : Type 0} (has : List ℕ → Bool) (n : ℕ) (x : CodeMeaning I O) (said : List (CodeMeaning I O)) (line : ℕ) (o : Option (List ℕ)) → is_placed has x ≡ placed_at has o
    → IsFirstMissing has (jump_at (n + 1) o ++ jumps_of (n + 1) said) line → (IsFirstMissing has (jumps_of (n + 1) said) line → IsMissingAt has (n + 1) said line) → IsMissingAt has n (x ∷ said) line
at_label has n x said line None placed m go = later has n x said line placed (go m)
at_label has n x said line (Some label) placed m go =
    here_or_later has n x said line (record { line = n + 1; label = label }) (jumps_of (n + 1) said) m.front m.jump m.rest placed refl m.parts m.before m.missing m.line_is go

no_front : {X : Type 0} (front : List X) (x : X) (rest : List X) → [] ≡ front ++ x ∷ rest → ⊥
no_front [] x rest e = cc
no_front (y ∷ front) x rest e = cc

missing_at : {I O : Type 0} (has : List ℕ → Bool) (n : ℕ) (said : List (CodeMeaning I O)) (line : ℕ) → IsFirstMissing has (jumps_of n said) line → IsMissingAt has n said line
missing_at has n [] line m = absurd (no_front m.front m.jump m.rest m.parts)
missing_at has n (Nothing ∷ said) line m = at_label has n Nothing said line None refl m (missing_at has (n + 1) said line)
missing_at has n (Named name ∷ said) line m = at_label has n (Named name) said line None refl m (missing_at has (n + 1) said line)
missing_at has n (Does l ∷ said) line m = at_label has n (Does l) said line (jump_label l) refl m (missing_at has (n + 1) said line)

-- no label is missing
placed_on : {I O : Type 0} (has : List ℕ → Bool) (n : ℕ) (x : CodeMeaning I O) (said : List (CodeMeaning I O)) (o : Option (List ℕ)) → is_placed has x ≡ placed_at has o
    → All (λ j. has j.label ≡ true) (jump_at (n + 1) o ++ jumps_of (n + 1) said) → (All (λ j. has j.label ≡ true) (jumps_of (n + 1) said) → All (λ s. is_placed has s ≡ true) said) → All (λ s. is_placed has s ≡ true) (x ∷ said)
placed_on has n x said None placed all go = All-cons (λ s. is_placed has s ≡ true) x said placed (go all)
placed_on has n x said (Some label) placed all go =
    let j : Jump = record { line = n + 1; label = label } in
    All-cons (λ s. is_placed has s ≡ true) x said (placed ∙ All-head (λ j. has j.label ≡ true) j (jumps_of (n + 1) said) all) (go (All-tail (λ j. has j.label ≡ true) j (jumps_of (n + 1) said) all))

all_placed : {I O : Type 0} (has : List ℕ → Bool) (n : ℕ) (said : List (CodeMeaning I O)) → All (λ j. has j.label ≡ true) (jumps_of n said) → All (λ s. is_placed has s ≡ true) said
all_placed has n [] all = All-nil (λ s. is_placed has s ≡ true)
all_placed has n (Nothing ∷ said) all = placed_on has n Nothing said None refl all (all_placed has (n + 1) said)
all_placed has n (Named name ∷ said) all = placed_on has n (Named name) said None refl all (all_placed has (n + 1) said)
all_placed has n (Does l ∷ said) all = placed_on has n (Does l) said (jump_label l) refl all (all_placed has (n + 1) said)

-- ---- the parts of a program

pub names_of_labels : {I O : Type 0} (n : ℕ) (said : List (CodeMeaning I O)) → map (λ (l : Label). l.name) (labels_of n said) ≡ label_names said
names_of_labels n [] = refl
names_of_labels n (Nothing ∷ said) = names_of_labels n said
names_of_labels n (Named name ∷ said) = ap (λ ls. name ∷ ls) (names_of_labels n said)
names_of_labels n (Does l ∷ said) = names_of_labels (n + 1) said

zip_says : {I O : Type 0} (t : Table O) (is_op : O → Type 0) (ls : List (List ℕ)) (said : List (CodeMeaning I O)) → AllZip (SaysKnown t is_op) ls said → AllZip (SaysCode t) ls said
zip_says t is_op [] [] z = tt
zip_says t is_op [] (s ∷ said) z = absurd z
zip_says t is_op (l ∷ ls) [] z = absurd z
zip_says t is_op (l ∷ ls) (s ∷ said) z = (z.0.0, zip_says t is_op ls said z.1)

op_of : {I O : Type 0} (t : Table O) (is_op : O → Type 0) (line : Line I O) → IsOperation t is_op (Does line) → IsOpOf is_op line
op_of t is_op (Vector op) k = k.0
op_of t is_op (Controls c) k = tt

ops_of : {I O : Type 0} (t : Table O) (is_op : O → Type 0) (ls : List (List ℕ)) (said : List (CodeMeaning I O)) → AllZip (SaysKnown t is_op) ls said → All (λ l. IsOpOf {I = I} is_op l) (code_of said)
ops_of {I} t is_op [] [] z = All-nil (λ l. IsOpOf {I = I} is_op l)
ops_of t is_op [] (s ∷ said) z = absurd z
ops_of t is_op (l ∷ ls) [] z = absurd z
ops_of t is_op (l ∷ ls) (Nothing ∷ said) z = ops_of t is_op ls said z.1
ops_of t is_op (l ∷ ls) (Named name ∷ said) z = ops_of t is_op ls said z.1
ops_of t is_op (l ∷ ls) (Does line ∷ said) z = All-cons (λ l. IsOpOf is_op l) line (code_of said) (op_of t is_op line z.0.1) (ops_of t is_op ls said z.1)

there_from : (labels : List Label) (names : List (List ℕ)) → map (λ (l : Label). l.name) labels ≡ names → (o : Option (List ℕ)) → IsNamed names o → IsThere labels o
there_from labels names same None there = tt
there_from labels names same (Some name) there = subst (λ ns. Contains ns name) (sym same) there

instruction_from : {I O : Type 0} (t : Table O) (is_op : O → Type 0) (labels : List Label) (names : List (List ℕ)) → map (λ (l : Label). l.name) labels ≡ names
    → (line : Line I O) → IsOperation t is_op (Does line) → HasPlace names (Does line) → IsInstructionOf t labels line
instruction_from t is_op labels names same (Vector op) k place = k.1
instruction_from t is_op labels names same (Controls c) k place = (k, there_from labels names same (jumps_to c) place)

instructions_of : {I O : Type 0} (t : Table O) (is_op : O → Type 0) (labels : List Label) (names : List (List ℕ)) → map (λ (l : Label). l.name) labels ≡ names
    → (ls : List (List ℕ)) (said : List (CodeMeaning I O)) → AllZip (SaysKnown t is_op) ls said → All (λ s. HasPlace names s) said → All (λ l. IsInstructionOf t labels l) (code_of said)
instructions_of t is_op labels names same [] [] z places = All-nil (λ l. IsInstructionOf t labels l)
instructions_of t is_op labels names same [] (s ∷ said) z places = absurd z
instructions_of t is_op labels names same (l ∷ ls) [] z places = absurd z
instructions_of t is_op labels names same (l ∷ ls) (Nothing ∷ said) z places = instructions_of t is_op labels names same ls said z.1 (All-tail (λ s. HasPlace names s) Nothing said places)
instructions_of t is_op labels names same (l ∷ ls) (Named name ∷ said) z places = instructions_of t is_op labels names same ls said z.1 (All-tail (λ s. HasPlace names s) (Named name) said places)
instructions_of t is_op labels names same (l ∷ ls) (Does line ∷ said) z places =
    All-cons (λ l. IsInstructionOf t labels l) line (code_of said) (instruction_from t is_op labels names same line z.0.1 (All-head (λ s. HasPlace names s) (Does line) said places))
    (instructions_of t is_op labels names same ls said z.1 (All-tail (λ s. HasPlace names s) (Does line) said places))

labels_within : {I O : Type 0} (t : Table O) (is_op : O → Type 0) (count n : ℕ) (ls : List (List ℕ)) (said : List (CodeMeaning I O)) → AllZip (SaysKnown t is_op) ls said → n + length (code_of said) ≤ count → All (IsLabel count) (labels_of n said)
labels_within t is_op count n [] [] z fits = All-nil (IsLabel count)
labels_within t is_op count n [] (s ∷ said) z fits = absurd z
labels_within t is_op count n (l ∷ ls) [] z fits = absurd z
labels_within t is_op count n (l ∷ ls) (Nothing ∷ said) z fits = labels_within t is_op count n ls said z.1 fits
labels_within t is_op count n (l ∷ ls) (Named name ∷ said) z fits =
    All-cons (IsLabel count) (record { name = name; before = n }) (labels_of n said) (record { name = z.0.0.1.0; before = omega arith }) (labels_within t is_op count n ls said z.1 fits)
labels_within t is_op count n (l ∷ ls) (Does line ∷ said) z fits =
    let more : n + 1 + length (code_of said) ≤ count = omega arith in
    labels_within t is_op count (n + 1) ls said z.1 more

pairs_head : {X : Type 0} (R : X → X → Type 0) (x : X) (xs : List X) → AllPairs R (x ∷ xs) → All (R x) xs
pairs_head R x xs pairs = λ k d within. pairs 0 (suc k) d (omega arith) (omega arith)

pairs_tail : {X : Type 0} (R : X → X → Type 0) (x : X) (xs : List X) → AllPairs R (x ∷ xs) → AllPairs R xs
pairs_tail R x xs pairs = λ i j d low high. pairs (suc i) (suc j) d (omega arith) (omega arith)

apart_from : {I O : Type 0} (name : List ℕ) (n m : ℕ) (said : List (CodeMeaning I O)) → n ≤ m → All (λ other. name ≢ other) (label_names said) → All (λ (l : Label). (name ≢ l.name) × (n ≤ l.before)) (labels_of m said)
apart_from name n m [] low apart = All-nil (λ (l : Label). (name ≢ l.name) × (n ≤ l.before))
apart_from name n m (Nothing ∷ said) low apart = apart_from name n m said low apart
apart_from name n m (Named other ∷ said) low apart =
    All-cons (λ (l : Label). (name ≢ l.name) × (n ≤ l.before)) (record { name = other; before = m }) (labels_of m said) (All-head (λ o. name ≢ o) other (label_names said) apart, low)
    (apart_from name n m said low (All-tail (λ o. name ≢ o) other (label_names said) apart))
apart_from name n m (Does line ∷ said) low apart =
    let more : n ≤ m + 1 = omega arith in
    apart_from name n (m + 1) said more apart

labels_apart : {I O : Type 0} (n : ℕ) (said : List (CodeMeaning I O)) → AllPairs (λ a b. a ≢ b) (label_names said) → AllPairs (λ (l m : Label). (l.name ≢ m.name) × (l.before ≤ m.before)) (labels_of n said)
labels_apart n [] pairs = λ i j d low high. absurd (omega arith)
labels_apart n (Nothing ∷ said) pairs = labels_apart n said pairs
labels_apart n (Named name ∷ said) pairs =
    let low : n ≤ n = omega arith in
    AllPairs-cons (λ (l m : Label). (l.name ≢ m.name) × (l.before ≤ m.before)) (record { name = name; before = n }) (labels_of n said)
    (apart_from name n n said low (pairs_head (λ a b. a ≢ b) name (label_names said) pairs)) (labels_apart n said (pairs_tail (λ a b. a ≢ b) name (label_names said) pairs))
labels_apart n (Does line ∷ said) pairs = labels_apart (n + 1) said pairs

-- ---- the code as a whole

places_from : {I O : Type 0} (t : Table O) (is_op : O → Type 0) (start : ℕ) (ls : List (List ℕ)) (said : List (CodeMeaning I O)) (r : CodeReading I O) → IsCodeReading t is_op start ls said r
    → All (λ j. has_name r.names j.label ≡ true) r.jumps.items → All (λ s. HasPlace (label_names said) s) said
places_from t is_op start ls said r reads jumps =
    All-weaker (λ s. is_placed (has_name r.names) s ≡ true) (λ s. HasPlace (label_names said) s) (place_from (label_names said) (has_name r.names) reads.names_are) said
    (all_placed (has_name r.names) start said (rw reads.jumps_are at jumps))

pub code_says : {I O : Type 0} (t : Table O) (is_op : O → Type 0) (start : ℕ) (ls : List (List ℕ)) (said : List (CodeMeaning I O)) (r : CodeReading I O) → IsCodeReading t is_op start ls said r
    → All (λ j. has_name r.names j.label ≡ true) r.jumps.items → IsLast (last_or None r.code) → IsCodeText t is_op ls r.code r.labels
code_says t is_op start ls said r reads jumps ends =
    let places = places_from t is_op start ls said r reads jumps in
    let size : 0 + length (code_of said) ≤ length (code_of said) = omega arith in
    record {
      said = said;
      body = zip_says t is_op ls said reads.read.each;
      code_is = reads.code_is;
      labels_are = reads.labels_are;
      ops = rw reads.code_is (ops_of t is_op ls said reads.read.each);
      instructions = rw (reads.code_is, reads.labels_are) (instructions_of t is_op (labels_of 0 said) (label_names said) (names_of_labels 0 said) ls said reads.read.each places);
      last = ends;
      places = rw (reads.code_is, reads.labels_are) (labels_within t is_op (length (code_of said)) 0 ls said reads.read.each size);
      distinct = rw reads.labels_are (labels_apart 0 said reads.read.distinct);
    }

pub code_missing : {I O : Type 0} (t : Table O) (is_op : O → Type 0) (start : ℕ) (ls : List (List ℕ)) (said : List (CodeMeaning I O)) (r : CodeReading I O) (line : ℕ) → IsCodeReading t is_op start ls said r
    → IsFirstMissing (has_name r.names) r.jumps.items line → (n : ℕ) × (IsBadLine I t is_op ls n LabelFault ⊎ IsBadJump I t is_op ls n) × (line ≡ start + n + 1)
code_missing t is_op start ls said r line reads first =
    let names = label_names said in
    let found : IsMissingAt (has_name r.names) start said line = missing_at (has_name r.names) start said line (rw reads.jumps_are at first) in
    let whole : said ≡ found.front ++ found.jump ∷ found.rest = found.parts in (
      length found.front,
      inr (record {
        front = found.front;
        jump = found.jump;
        rest = found.rest;
        read = subst (λ s. AreCodeLines t is_op ls s) whole reads.read;
        count = refl;
        before = subst (λ s. All (λ x. HasPlace (label_names s) x) found.front) whole (All-weaker (λ s. is_placed (has_name r.names) s ≡ true) (λ s. HasPlace names s) (place_from names (has_name r.names) reads.names_are) found.front found.before);
        missing = subst (λ s. HasPlace (label_names s) found.jump → ⊥) whole (no_place names (has_name r.names) reads.names_are found.jump found.missing);
      }),
      found.count,
    )

pub code_open : {I O : Type 0} (t : Table O) (is_op : O → Type 0) (start : ℕ) (ls : List (List ℕ)) (said : List (CodeMeaning I O)) (r : CodeReading I O) → IsCodeReading t is_op start ls said r
    → All (λ j. has_name r.names j.label ≡ true) r.jumps.items → (IsLast (last_or None r.code) → ⊥) → IsOpenEnd I t is_op ls
code_open t is_op start ls said r reads jumps open_end =
    record { said = said; read = reads.read; places = places_from t is_op start ls said r reads jumps; fault = λ h. open_end (rw reads.code_is h) }

pub length_behind : (lines : List (Bor (List ℕ))) (start : ℕ) → start ≤ length lines → length lines ≡ start + length (drop start (texts lines))
length_behind lines start within =
    let all : drop start (texts lines) ≡ map (λ (s : Bor (List ℕ)). s.now) (drop start lines) = drop-map (λ (s : Bor (List ℕ)). s.now) start lines in
    let size : length (map (λ (s : Bor (List ℕ)). s.now) (drop start lines)) ≡ length (drop start lines) = length-map (drop start lines) (λ s. s.now) in
    let rest : length (drop start lines) ≡ length lines - start = length-drop start lines in
    rw (all, size, rest) (omega arith)
