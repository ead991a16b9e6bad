-- Lines of code say one thing, and no fault is told of them where they say it.
use Rattle.std.proofs.Common.{◌≡◌, ℕ, ◌+◌, ◌<◌, ◌≤◌, List, [], ◌∷◌, ◌++◌, length, map, Option, Some, None, refl, sym, ◌∙◌, ap, subst, arith, All, ⊎_elim}
use Rattle.std.specs.Prelude.{Contains, ◌≢◌, Result, Ok, Err}
use Rattle.std.specs.List.{AllPairs, AllZip, last_or}
use Rattle.std.specs.Result.{IfOk, IfErr}
use Rattle.std.proofs.Math.ListN.{get_or-append, get_or-map}
use Rattle.std.proofs.Math.Seq.{get_or-append_seam}
use Rattle.std.proofs.lemmas.List.{append_cancel_right, length-append, length-map}
use Rattle.std.proofs.lemmas.List.Elements.{All-nil, All-cons, All-head, All-tail}
use Rattle.pf_machine.specs.declared.code.Label.{Label}
use Rattle.pf_machine.specs.declared.code.Line.{Line}
use Rattle.pf_machine.specs.declared.code.Line.TheVariants.{Vector, Control as Controls}
use Rattle.pf_isa.specs.declared.fault.TextFault.{TextFault}
use Rattle.pf_isa.specs.declared.fault.TextFault.TheVariants.{At, Memory}
use Rattle.pf_isa.specs.declared.fault.TextKind.{TextKind}
use Rattle.pf_isa.specs.declared.fault.TextKind.TheVariants.{Target, Directive, Instruction, Label as LabelFault, NoEnd}
use Rattle.pf_machine.specs.Meaning.Programs.{jumps_to, IsThere, IsInstructionOf, IsLast}
use Rattle.pf_text.specs.Meaning.Lines.{tight, IsLine, IsInstruction}
use Rattle.pf_machine.specs.Meaning.Tables.{Table, IsTable}
use Rattle.pf_isa.specs.Meaning.Texts.{CodeMeaning, Nothing, Named, Does, SaysCode, code_of, labels_of, label_text, MeansLine, IsOpOf, IsCodeText}
use Rattle.pf_isa.specs.Meaning.TextFaults.{IsOperation, SaysKnown, label_names, IsNamed, HasPlace, IsCodeLineFault, IsBadLine, IsBadJump, IsCodeFaultAt, IsCodeRefusal, IsCodeOr}
use Rattle.pf_isa.proofs.CodeTexts.{names_of_labels}

-- ---- one line

last_pushed : {A : Type 0} (xs : List A) (x : A) (o : Option A) → last_or o (xs ++ x ∷ []) ≡ Some x
last_pushed [] x o = refl
last_pushed (y ∷ xs) x o = last_pushed xs x (Some y)

no_empty_label : (name : List ℕ) → [] ≡ label_text name → ⊥
no_empty_label [] e = cc
no_empty_label (c ∷ cs) e = cc

-- a line that means an instruction is an instruction's, up to blanks, and so neither blank nor a label
instruction_line : {I O : Type 0} (t : Table O) (is_op : O → Type 0) → IsTable t is_op → (l : Line I O) (bare : List ℕ) → IsOperation t is_op (Does l) → MeansLine t bare l → (s : List ℕ) × IsInstruction s × IsLine bare s
instruction_line t is_op laws (Vector op) bare k m = (m.0, laws.instruction op m.0 k.0 k.1 m.1, m.2)
instruction_line t is_op laws (Controls c) bare k m = (t.control_text c, laws.control_instruction c k, m)

no_blank : {I O : Type 0} (t : Table O) (is_op : O → Type 0) → IsTable t is_op → (l : Line I O) (bare : List ℕ) → IsOperation t is_op (Does l) → MeansLine t bare l → tight bare ≡ [] → ⊥
no_blank t is_op laws l bare k m is = let i = instruction_line t is_op laws l bare k m in i.1.some (sym i.2 ∙ is)

no_label : {I O : Type 0} (t : Table O) (is_op : O → Type 0) → IsTable t is_op → (l : Line I O) (name bare : List ℕ) → IsOperation t is_op (Does l) → MeansLine t bare l → tight bare ≡ label_text name → ⊥
no_label t is_op laws l name bare k m is =
    let i = instruction_line t is_op laws l bare k m in
    let same : tight i.0 ≡ label_text name = sym i.2 ∙ is in
    i.1.no_label (rw same (last_pushed name 58 None))

one_line : {I O : Type 0} (t : Table O) (is_op : O → Type 0) → IsTable t is_op → (l m : Line I O) (bare : List ℕ) → IsOperation t is_op (Does l) → IsOperation t is_op (Does m) → MeansLine t bare l → MeansLine t bare m → l ≡ m
one_line t is_op laws (Vector op) (Vector other) bare k n a b = ap (λ o. Vector o) (laws.one_op op other a.0 k.0 n.0 k.1 n.1 a.1 (b.0, b.1, sym a.2 ∙ b.2))
one_line t is_op laws (Vector op) (Controls c) bare k n a b = absurd (laws.apart op c a.0 k.0 k.1 n a.1 (sym a.2 ∙ b))
one_line t is_op laws (Controls c) (Vector op) bare k n a b = absurd (laws.apart op c b.0 n.0 n.1 k b.1 (sym b.2 ∙ a))
one_line t is_op laws (Controls c) (Controls d) bare k n a b = ap (λ o. Controls o) (laws.one_control c d k n (sym a ∙ b))

one_said : {I O : Type 0} (t : Table O) (is_op : O → Type 0) → IsTable t is_op → (line : List ℕ) (s u : CodeMeaning I O) → SaysKnown t is_op line s → SaysKnown t is_op line u → s ≡ u
one_said t is_op laws line Nothing Nothing a b = refl
one_said t is_op laws line Nothing (Named name) a b = absurd (no_empty_label name (sym a.0.1 ∙ b.0.1.1))
one_said t is_op laws line Nothing (Does l) a b = absurd (no_blank t is_op laws l _ b.1 b.0.1 a.0.1)
one_said t is_op laws line (Named name) Nothing a b = absurd (no_empty_label name (sym b.0.1 ∙ a.0.1.1))
one_said t is_op laws line (Named name) (Named other) a b = ap (λ n. Named n) (append_cancel_right name other (58 ∷ []) (sym a.0.1.1 ∙ b.0.1.1))
one_said t is_op laws line (Named name) (Does l) a b = absurd (no_label t is_op laws l name _ b.1 b.0.1 a.0.1.1)
one_said t is_op laws line (Does l) Nothing a b = absurd (no_blank t is_op laws l _ a.1 a.0.1 b.0.1)
one_said t is_op laws line (Does l) (Named name) a b = absurd (no_label t is_op laws l name _ a.1 a.0.1 b.0.1.1)
one_said t is_op laws line (Does l) (Does m) a b = ap (λ l. Does l) (one_line t is_op laws l m _ a.1 b.1 a.0.1 b.0.1)

-- ---- all lines

pub all_said : {I O : Type 0} (t : Table O) (is_op : O → Type 0) → IsTable t is_op → (ls : List (List ℕ)) (s u : List (CodeMeaning I O)) → AllZip (SaysKnown t is_op) ls s → AllZip (SaysKnown t is_op) ls u → s ≡ u
all_said t is_op laws [] [] [] a b = refl
all_said t is_op laws [] (s ∷ ss) u a b = absurd a
all_said t is_op laws [] [] (u ∷ us) a b = absurd b
all_said t is_op laws (l ∷ ls) [] u a b = absurd a
all_said t is_op laws (l ∷ ls) (s ∷ ss) [] a b = absurd b
all_said t is_op laws (l ∷ ls) (s ∷ ss) (u ∷ us) a b =
    let first : s ≡ u = one_said t is_op laws l s u a.0 b.0 in
    let rest : ss ≡ us = all_said t is_op laws ls ss us a.1 b.1 in
    cc

known_line : {I O : Type 0} (t : Table O) (is_op : O → Type 0) (labels : List Label) (l : Line I O) → IsOpOf is_op l → IsInstructionOf t labels l → IsOperation t is_op (Does l)
known_line t is_op labels (Vector op) o i = (o, i)
known_line t is_op labels (Controls c) o i = i.0

-- what a program's lines say is known
known_zip : {I O : Type 0} (t : Table O) (is_op : O → Type 0) (labels : List Label) (ls : List (List ℕ)) (said : List (CodeMeaning I O)) → AllZip (SaysCode t) ls said
    → All (λ l. IsOpOf is_op l) (code_of said) → All (λ l. IsInstructionOf t labels l) (code_of said) → AllZip (SaysKnown t is_op) ls said
known_zip t is_op labels [] [] z ops lines = tt
known_zip t is_op labels [] (s ∷ said) z ops lines = absurd z
known_zip t is_op labels (l ∷ ls) [] z ops lines = absurd z
known_zip t is_op labels (l ∷ ls) (Nothing ∷ said) z ops lines = ((z.0, tt), known_zip t is_op labels ls said z.1 ops lines)
known_zip t is_op labels (l ∷ ls) (Named name ∷ said) z ops lines = ((z.0, tt), known_zip t is_op labels ls said z.1 ops lines)
known_zip t is_op labels (l ∷ ls) (Does line ∷ said) z ops lines =
    let here : IsOperation t is_op (Does line) = known_line t is_op labels line (All-head (λ l. IsOpOf is_op l) line (code_of said) ops) (All-head (λ l. IsInstructionOf t labels l) line (code_of said) lines) in
    ((z.0, here), known_zip t is_op labels ls said z.1 (All-tail (λ l. IsOpOf is_op l) line (code_of said) ops) (All-tail (λ l. IsInstructionOf t labels l) line (code_of said) lines))

known_text : {I O : Type 0} (t : Table O) (is_op : O → Type 0) (ls : List (List ℕ)) (code : List (Line I O)) (labels : List Label) → (c : IsCodeText t is_op ls code labels) → AllZip (SaysKnown t is_op) ls c.said
known_text t is_op ls code labels c = known_zip t is_op labels ls c.said c.body (rw c.code_is at c.ops) (rw c.code_is at c.instructions)

code_once : {I O : Type 0} (t : Table O) (is_op : O → Type 0) → IsTable t is_op → (ls : List (List ℕ)) (code other : List (Line I O)) (labels names : List Label)
    → IsCodeText t is_op ls code labels → IsCodeText t is_op ls other names → (code ≡ other) × (labels ≡ names)
code_once t is_op laws ls code other labels names c d =
    let same : c.said ≡ d.said = all_said t is_op laws ls c.said d.said (known_text t is_op ls code labels c) (known_text t is_op ls other names d) in
    (c.code_is ∙ ap code_of same ∙ sym d.code_is, c.labels_are ∙ ap (λ s. labels_of 0 s) same ∙ sym d.labels_are)

-- ---- no fault

-- lines of which the first say this, and the next that
zip_front : {A B : Type 0} (R : A → B → Type 0) (front : List A) (x : A) (rest : List A) (ys : List B) → AllZip R (front ++ x ∷ rest) ys
    → (before : List B) × (y : B) × (after : List B) × (ys ≡ before ++ y ∷ after) × AllZip R front before × R x y
zip_front R [] x rest [] z = absurd z
zip_front R [] x rest (y ∷ ys) z = ([], y, ys, refl, tt, z.0)
zip_front R (a ∷ front) x rest [] z = absurd z
zip_front R (a ∷ front) x rest (b ∷ ys) z =
    let more = zip_front R front x rest ys z.1 in
    (b ∷ more.0, more.1, more.2, ap (λ l. b ∷ l) more.3, (z.0, more.4), more.5)

label_names-append : {I O : Type 0} (xs ys : List (CodeMeaning I O)) → label_names (xs ++ ys) ≡ label_names xs ++ label_names ys
label_names-append [] ys = refl
label_names-append (Nothing ∷ xs) ys = label_names-append xs ys
label_names-append (Named name ∷ xs) ys = ap (λ l. name ∷ l) (label_names-append xs ys)
label_names-append (Does line ∷ xs) ys = label_names-append xs ys

not_twice : (names : List (List ℕ)) (name : List ℕ) (rest : List (List ℕ)) → AllPairs (λ a b. a ≢ b) (names ++ name ∷ rest) → Contains names name → ⊥
not_twice names name rest pairs there =
    let size : length (names ++ name ∷ rest) ≡ length names + length (name ∷ rest) = length-append names (name ∷ rest) in
    let inside : length names < length (names ++ name ∷ rest) = omega arith in
    pairs there.0 (length names) name there.1 inside (get_or-append names (name ∷ rest) name there.0 there.1 ∙ there.2 ∙ sym (get_or-append_seam names name rest name))

-- no line says nothing or a label twice
no_line_fault : {I O : Type 0} (t : Table O) (is_op : O → Type 0) → IsTable t is_op → (front : List (List ℕ)) (before known : List (CodeMeaning I O)) (line : List ℕ) (s : CodeMeaning I O) (after : List (CodeMeaning I O)) (kind : TextKind)
    → AllZip (SaysKnown t is_op) front before → AllZip (SaysKnown t is_op) front known → SaysKnown t is_op line s → AllPairs (λ a b. a ≢ b) (label_names (before ++ s ∷ after)) → IsCodeLineFault t is_op known line kind → ⊥
no_line_fault t is_op laws front before known line s after Instruction z y says distinct fault = fault s says
no_line_fault {I} {O} t is_op laws front before known line s after LabelFault z y says distinct fault =
    let named : CodeMeaning I O = Named fault.0 in
    let same : s ≡ named = one_said t is_op laws line s named says (fault.1, tt) in
    let first : before ≡ known = all_said t is_op laws front before known z y in
    let all : label_names (before ++ s ∷ after) ≡ label_names known ++ fault.0 ∷ label_names after = rw (first, same) (label_names-append known (named ∷ after)) in
    not_twice (label_names known) fault.0 (label_names after) (subst (λ ns. AllPairs (λ a b. a ≢ b) ns) all distinct) fault.2
no_line_fault t is_op laws front before known line s after Target z y says distinct fault = fault
no_line_fault t is_op laws front before known line s after Directive z y says distinct fault = fault
no_line_fault t is_op laws front before known line s after NoEnd z y says distinct fault = fault

pub no_bad_line : {I O : Type 0} (t : Table O) (is_op : O → Type 0) → IsTable t is_op → (ls : List (List ℕ)) (said : List (CodeMeaning I O)) → AllZip (SaysKnown t is_op) ls said → AllPairs (λ a b. a ≢ b) (label_names said)
    → (n : ℕ) (kind : TextKind) → IsBadLine I t is_op ls n kind → ⊥
no_bad_line t is_op laws ls said z distinct n kind bad =
    let split = zip_front (SaysKnown t is_op) bad.front bad.line bad.rest said (subst (λ l. AllZip (SaysKnown t is_op) l said) bad.parts z) in
    no_line_fault t is_op laws bad.front split.0 bad.said bad.line split.1 split.2 kind split.4 bad.before.each split.5 (subst (λ s. AllPairs (λ a b. a ≢ b) (label_names s)) split.3 distinct) bad.fault

named_there : (labels : List Label) (names : List (List ℕ)) → map (λ (l : Label). l.name) labels ≡ names → (o : Option (List ℕ)) → IsThere labels o → IsNamed names o
named_there labels names same None there = tt
named_there labels names same (Some name) there = subst (λ ns. Contains ns name) same there

place_line : {I O : Type 0} (t : Table O) (labels : List Label) (names : List (List ℕ)) → map (λ (l : Label). l.name) labels ≡ names → (line : Line I O) → IsInstructionOf t labels line → HasPlace names (Does line)
place_line t labels names same (Vector op) i = tt
place_line t labels names same (Controls c) i = named_there labels names same (jumps_to c) i.1

place_back : {I O : Type 0} (t : Table O) (labels : List Label) (names : List (List ℕ)) → map (λ (l : Label). l.name) labels ≡ names → (said : List (CodeMeaning I O)) → All (λ l. IsInstructionOf t labels l) (code_of said) → All (λ s. HasPlace names s) said
place_back t labels names same [] lines = All-nil (λ s. HasPlace names s)
place_back t labels names same (Nothing ∷ said) lines = All-cons (λ s. HasPlace names s) Nothing said tt (place_back t labels names same said lines)
place_back t labels names same (Named name ∷ said) lines = All-cons (λ s. HasPlace names s) (Named name) said tt (place_back t labels names same said lines)
place_back t labels names same (Does line ∷ said) lines =
    All-cons (λ s. HasPlace names s) (Does line) said (place_line t labels names same line (All-head (λ l. IsInstructionOf t labels l) line (code_of said) lines))
    (place_back t labels names same said (All-tail (λ l. IsInstructionOf t labels l) line (code_of said) lines))

pub middle : {X : Type 0} (P : X → Type 0) (xs : List X) (x : X) (ys : List X) → All P (xs ++ x ∷ ys) → P x
middle P xs x ys all =
    let size : length (xs ++ x ∷ ys) ≡ length xs + length (x ∷ ys) = length-append xs (x ∷ ys) in
    let inside : length xs < length (xs ++ x ∷ ys) = omega arith in
    subst P (get_or-append_seam xs x ys x) (all (length xs) x inside)

names_apart : (labels : List Label) → AllPairs (λ (l m : Label). (l.name ≢ m.name) × (l.before ≤ m.before)) labels → AllPairs (λ a b. a ≢ b) (map (λ (l : Label). l.name) labels)
names_apart labels pairs = λ i j d low high e.
    let x : Label = record { name = d; before = 0 } in
    let inside : j < length labels = rw length-map at high in
    (pairs i j x low inside).0 (sym (get_or-map (λ (l : Label). l.name) labels i x) ∙ e ∙ get_or-map (λ (l : Label). l.name) labels j x)

pub no_bad_jump : {I O : Type 0} (t : Table O) (is_op : O → Type 0) → IsTable t is_op → (ls : List (List ℕ)) (said : List (CodeMeaning I O)) → AllZip (SaysKnown t is_op) ls said → All (λ s. HasPlace (label_names said) s) said
    → (n : ℕ) → IsBadJump I t is_op ls n → ⊥
no_bad_jump t is_op laws ls said z places n bad =
    let same : said ≡ bad.front ++ bad.jump ∷ bad.rest = all_said t is_op laws ls said (bad.front ++ bad.jump ∷ bad.rest) z bad.read.each in
    bad.missing (middle (λ s. HasPlace (label_names (bad.front ++ bad.jump ∷ bad.rest)) s) bad.front bad.jump bad.rest (subst (λ s. All (λ x. HasPlace (label_names s) x) s) same places))

by_kind : {I O : Type 0} (t : Table O) (is_op : O → Type 0) → IsTable t is_op → (start : ℕ) (ls : List (List ℕ)) (said : List (CodeMeaning I O)) → AllZip (SaysKnown t is_op) ls said
    → AllPairs (λ a b. a ≢ b) (label_names said) → All (λ s. HasPlace (label_names said) s) said → IsLast (last_or None (code_of said)) → (at : ℕ) (kind : TextKind) → IsCodeFaultAt I t is_op start ls at kind → ⊥
by_kind t is_op laws start ls said z distinct places last at Instruction fault = no_bad_line t is_op laws ls said z distinct fault.0 Instruction fault.1
by_kind t is_op laws start ls said z distinct places last at LabelFault fault =
    ⊎_elim (λ bad. no_bad_line t is_op laws ls said z distinct fault.0 LabelFault bad) (λ bad. no_bad_jump t is_op laws ls said z places fault.0 bad) fault.1
by_kind t is_op laws start ls said z distinct places last at NoEnd fault =
    let same : said ≡ fault.0.said = all_said t is_op laws ls said fault.0.said z fault.0.read.each in
    fault.0.fault (subst (λ s. IsLast (last_or None (code_of s))) same last)
by_kind t is_op laws start ls said z distinct places last at Target fault = fault
by_kind t is_op laws start ls said z distinct places last at Directive fault = fault

pub no_fault : {I O : Type 0} (t : Table O) (is_op : O → Type 0) → IsTable t is_op → (start : ℕ) (ls : List (List ℕ)) (code : List (Line I O)) (labels : List Label) → IsCodeText t is_op ls code labels
    → (at : ℕ) (kind : TextKind) → IsCodeFaultAt I t is_op start ls at kind → ⊥
no_fault {I} {O} t is_op laws start ls code labels c at kind fault =
    let z : AllZip (SaysKnown t is_op) ls c.said = known_text t is_op ls code labels c in
    let names : map (λ (l : Label). l.name) labels ≡ label_names c.said = rw c.labels_are (names_of_labels 0 c.said) in
    let distinct : AllPairs (λ a b. a ≢ b) (label_names c.said) = subst (λ ns. AllPairs (λ a b. a ≢ b) ns) names (names_apart labels c.distinct) in
    let lines : All (λ l. IsInstructionOf t labels l) (code_of c.said) = rw c.code_is at c.instructions in
    let last : IsLast (last_or None (code_of c.said)) = rw c.code_is at c.last in
    by_kind t is_op laws start ls c.said z distinct (place_back t labels (label_names c.said) names c.said lines) last at kind fault

-- what lines say is read, unless memory runs out
pub code_only : {I O : Type 0} (t : Table O) (is_op : O → Type 0) → IsTable t is_op → (start : ℕ) (ls : List (List ℕ)) (result : Result (List (Line I O) × List Label) TextFault)
    → IfOk result (λ r. IsCodeText t is_op ls r.0 r.1) → IfErr result (IsCodeRefusal I t is_op start ls) → (code : List (Line I O)) (labels : List Label) → IsCodeText t is_op ls code labels → IsCodeOr code labels result
code_only t is_op laws start ls (Ok r) says refused code labels c = code_once t is_op laws ls r.0 code r.1 labels says c
code_only t is_op laws start ls (Err (At at kind)) says refused code labels c = absurd (no_fault t is_op laws start ls code labels c at kind refused)
code_only t is_op laws start ls (Err Memory) says refused code labels c = tt
