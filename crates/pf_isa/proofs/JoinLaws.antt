-- A text is its head and the code behind it.
use Rattle.std.proofs.Common.{◌≡◌, ℕ, ◌≤◌, List, ◌++◌, length, take, drop, refl, sym, ◌∙◌, ap, subst, inr}
use Rattle.std.specs.Prelude.{Result, Ok, Err}
use Rattle.std.specs.Borrow.{Bor}
use Rattle.std.specs.Result.{IsErrAnd}
use Rattle.std.specs.Str.Lines.{lines}
use Rattle.std.proofs.lemmas.List.{take-append-drop, length-take-le, length-map, drop_at}
use Rattle.pf_ints.specs.declared.target.Target.{Target}
use Rattle.pf_machine.specs.declared.code.Label.{Label}
use Rattle.pf_machine.specs.declared.code.Line.{Line}
use Rattle.pf_isa.specs.declared.fault.TextFault.{TextFault}
use Rattle.pf_isa.specs.declared.fault.TextFault.TheVariants.{At, Memory}
use Rattle.pf_machine.specs.declared.program.Head.{Head}
use Rattle.pf_machine.specs.Meaning.Heads.{IsHead}
use Rattle.pf_machine.specs.Meaning.Programs.{ProgramOf, IsProgram}
use Rattle.pf_machine.specs.Meaning.Tables.{Table}
use Rattle.pf_isa.specs.Meaning.Texts.{IsHeadText, IsCodeText, IsText}
use Rattle.pf_isa.specs.Meaning.TextFaults.{texts, IsCodeFaultAt, IsCodeRefusal, IsTextRefusal, IsHeadOr, IsCodeOr, IsProgramOr}

pub length-texts : (ls : List (Bor (List ℕ))) → length (texts ls) ≡ length ls
length-texts ls = length-map ls (λ s. s.now)

program_from : {I O : Type 0} (t : Table O) (is_op : O → Type 0) (ls : List (List ℕ)) (head : Head) (code : List (Line I O)) (labels : List Label) → IsHead head → IsCodeText t is_op ls code labels
    → IsProgram t (record { head = head; code = code; labels = labels })
program_from t is_op ls head code labels is_head c = record { head = is_head; code = c.instructions; last = c.last; labels = c.places; distinct = c.distinct }

pub text_found : {I O : Type 0} (t : Table O) (is_op : O → Type 0) (target : Target) (bytes : List ℕ) (ls : List (List ℕ)) (start : ℕ) (head : Head) (code : List (Line I O)) (labels : List Label)
    → ls ≡ lines bytes → t.target ≡ target → IsHeadText target (take start ls) head → IsHead head → IsCodeText t is_op (drop start ls) code labels
    → IsText t is_op bytes (record { head = head; code = code; labels = labels })
text_found t is_op target bytes ls start head code labels is for says is_head c =
    record {
      front = take start ls;
      back = drop start ls;
      said = c.said;
      parts = sym is ∙ sym (take-append-drop start ls);
      head = subst (λ x. IsHeadText x (take start ls) head) (sym for) says;
      body = c.body;
      code = c.code_is;
      labels = c.labels_are;
      ops = c.ops;
      program = program_from t is_op (drop start ls) head code labels is_head c;
    }

-- ---- only

code_of_text : {I O : Type 0} (t : Table O) (is_op : O → Type 0) (bytes : List ℕ) (p : ProgramOf I O) → (x : IsText t is_op bytes p) → IsCodeText t is_op x.back p.code p.labels
code_of_text t is_op bytes p x =
    record { said = x.said; body = x.body; code_is = x.code; labels_are = x.labels; ops = x.ops; instructions = x.program.code; last = x.program.last; places = x.program.labels; distinct = x.program.distinct }

pub head_only : {I O : Type 0} (t : Table O) (is_op : O → Type 0) (target : Target) (bytes : List ℕ) (ls : List (List ℕ)) (result : Result (Head × ℕ) TextFault) (p : ProgramOf I O) → ls ≡ lines bytes → t.target ≡ target
    → ((h : Head) (front back : List (List ℕ)) → ls ≡ front ++ back → IsHeadText target front h → IsHead h → IsHeadOr h (length front) result)
    → (x : IsText t is_op bytes p) → IsHeadOr p.head (length x.front) result
head_only t is_op target bytes ls result p is for only x = only p.head x.front x.back (is ∙ x.parts) (subst (λ y. IsHeadText y x.front p.head) for x.head) x.program.head

pub code_only : {I O : Type 0} (t : Table O) (is_op : O → Type 0) (bytes : List ℕ) (ls : List (List ℕ)) (start : ℕ) (result : Result (List (Line I O) × List Label) TextFault) (p : ProgramOf I O) → ls ≡ lines bytes
    → ((code : List (Line I O)) (labels : List Label) → IsCodeText t is_op (drop start ls) code labels → IsCodeOr code labels result)
    → (x : IsText t is_op bytes p) → start ≡ length x.front → IsCodeOr p.code p.labels result
code_only t is_op bytes ls start result p is only x at =
    let behind : drop start ls ≡ x.back = ap (λ l. drop start l) (is ∙ x.parts) ∙ drop_at x.front x.back start (sym at) in
    only p.code p.labels (subst (λ l. IsCodeText t is_op l p.code p.labels) (sym behind) (code_of_text t is_op bytes p x))

pub same_text : {I O : Type 0} (h k : Head) (c d : List (Line I O)) (l m : List Label) → h ≡ k → c ≡ d → l ≡ m → ◌≡◌ {A = ProgramOf I O} (record { head = h; code = c; labels = l }) (record { head = k; code = d; labels = m })
same_text h k c d l m first second third = rw (first, second, third) refl

pub head_fault_only : {I O : Type 0} (f : TextFault) (h : Head) (n : ℕ) (p : ProgramOf I O) → IsHeadOr h n (Err f) → IsProgramOr p (Err f)
head_fault_only (At at kind) h n p only = absurd only
head_fault_only Memory h n p only = tt

pub code_fault_only : {I O : Type 0} (f : TextFault) (p : ProgramOf I O) → IsCodeOr p.code p.labels (Err f) → IsProgramOr p (Err f)
code_fault_only (At at kind) p only = absurd only
code_fault_only Memory p only = tt

-- ---- what is answered

pub carried : {A E : Type 0} (r : Result A E) (f : E) (Q : Result A E → Type 0) → IsErrAnd r (λ e. e ≡ f) → Q (Err f) → Q r
carried (Ok x) f Q is q = absurd is
carried (Err e) f Q is q = subst (λ e. Q (Err e)) (sym is) q

pub code_refusal : (I : Type 0) {O : Type 0} (t : Table O) (is_op : O → Type 0) (target : Target) (bytes : List ℕ) (ls : List (List ℕ)) (start : ℕ) (head : Head) (f : TextFault)
    → ls ≡ lines bytes → t.target ≡ target → start ≤ length ls → IsHeadText target (take start ls) head → IsHead head → IsCodeRefusal I t is_op start (drop start ls) f → IsTextRefusal I t is_op bytes f
code_refusal I t is_op target bytes ls start head (At at kind) is for within says is_head refused =
    inr (record {
      head = head;
      front = take start ls;
      back = drop start ls;
      parts = sym is ∙ sym (take-append-drop start ls);
      says = subst (λ x. IsHeadText x (take start ls) head) (sym for) says;
      is_head = is_head;
      fault = subst (λ n. IsCodeFaultAt I t is_op n (drop start ls) at kind) (sym (length-take-le start ls within)) refused;
    })
code_refusal I t is_op target bytes ls start head Memory is for within says is_head refused = tt
