-- A text has one first fault, and it is told.
use Rattle.std.proofs.Common.{◌≡◌, refl, sym, ap, ◌∙◌, subst, inl, inr, ℕ, ◌+◌, List, ◌∷◌, ◌++◌, length, drop, All}
use Rattle.std.specs.Prelude.{◌⊎◌, Result, Ok, Err, IfOk, IfErr}
use Rattle.std.specs.Str.Lines.{lines}
use Rattle.std.proofs.lemmas.List.{drop_at}
use Rattle.pf_text.proofs.Lists.{IsFurther, fork_at}
use Rattle.pf_ints.specs.declared.target.Target.{Target}
use Rattle.pf_machine.specs.declared.code.Label.{Label}
use Rattle.pf_machine.specs.declared.code.Line.{Line}
use Rattle.pf_isa.specs.declared.fault.TextFault.{TextFault}
use Rattle.pf_isa.specs.declared.fault.TextFault.TheVariants.{At, Memory}
use Rattle.pf_isa.specs.declared.fault.TextKind.{TextKind}
use Rattle.pf_isa.specs.declared.fault.TextKind.TheVariants.{Target as TargetFault, Directive, Instruction, Label as LabelFault, NoEnd}
use Rattle.pf_machine.specs.declared.program.Head.{Head}
use Rattle.pf_machine.specs.Meaning.Heads.{IsHead}
use Rattle.pf_machine.specs.Meaning.Programs.{ProgramOf}
use Rattle.pf_machine.specs.Meaning.Tables.{Table, IsTable}
use Rattle.pf_isa.specs.Meaning.Texts.{CodeMeaning, Named, IsHeadText, IsCodeText}
use Rattle.pf_isa.specs.Meaning.TextFaults.{IsHeadFaultAt, label_names, HasPlace, IsCodeLineFault, IsBadLine, IsBadJump, IsOpenEnd, IsCodeFaultAt, IsCodeRefusal, IsTextFault, IsHeadOr, IsTextFaultOr}
use Rattle.pf_isa.proofs.CodeOnce.{all_said, middle, no_bad_line, no_bad_jump, no_fault}

-- ---- the lines behind the head

module _ (I O : Type 0) (t : Table O) (is_op : O → Type 0) (laws : IsTable t is_op) where
  one_kind : (said other : List (CodeMeaning I O)) (line : List ℕ) (k l : TextKind) → IsCodeLineFault t is_op said line k → IsCodeLineFault t is_op other line l → k ≡ l
  one_kind said other line Instruction Instruction h i = refl
  one_kind said other line Instruction LabelFault h i = absurd (h (Named i.0) (i.1, tt))
  one_kind said other line Instruction TargetFault h i = absurd i
  one_kind said other line Instruction Directive h i = absurd i
  one_kind said other line Instruction NoEnd h i = absurd i
  one_kind said other line LabelFault Instruction h i = absurd (i (Named h.0) (h.1, tt))
  one_kind said other line LabelFault LabelFault h i = refl
  one_kind said other line LabelFault TargetFault h i = absurd i
  one_kind said other line LabelFault Directive h i = absurd i
  one_kind said other line LabelFault NoEnd h i = absurd i
  one_kind said other line TargetFault l h i = absurd h
  one_kind said other line Directive l h i = absurd h
  one_kind said other line NoEnd l h i = absurd h

  module _ (start : ℕ) (ls : List (List ℕ)) where
    -- a line with a fault isn't among those before another
    not_before : (m n : ℕ) (k l : TextKind) (h : IsBadLine I t is_op ls m k) (i : IsBadLine I t is_op ls n l) → IsFurther h.front h.line i.front → ⊥
    not_before m n k l h i more =
        no_bad_line t is_op laws i.front i.said i.before.each i.before.distinct m k
        (record { front = h.front; line = h.line; rest = more.0; said = h.said; parts = more.1; count = h.count; before = h.before; fault = h.fault })

    one_line : (m n : ℕ) (k l : TextKind) → IsBadLine I t is_op ls m k → IsBadLine I t is_op ls n l → (m ≡ n) × (k ≡ l)
    one_line m n k l h i = by (fork_at h.front i.front h.line i.line h.rest i.rest (sym h.parts ∙ i.parts)) where
      by : ((h.front ≡ i.front) × (h.line ≡ i.line)) ⊎ (IsFurther h.front h.line i.front ⊎ IsFurther i.front i.line h.front) → (m ≡ n) × (k ≡ l)
      by (inl same) = (h.count ∙ ap (λ (l : List (List ℕ)). length l) same.0 ∙ sym i.count, one_kind h.said i.said i.line k l (subst (λ x. IsCodeLineFault t is_op h.said x k) same.1 h.fault) i.fault)
      by (inr (inl more)) = absurd (not_before m n k l h i more)
      by (inr (inr more)) = absurd (not_before n m l k i h more)

    -- nor does a jump without a label stand before another
    jump_before : (m n : ℕ) (h : IsBadJump I t is_op ls m) (i : IsBadJump I t is_op ls n) → h.front ++ h.jump ∷ h.rest ≡ i.front ++ i.jump ∷ i.rest → IsFurther h.front h.jump i.front → ⊥
    jump_before m n h i all more =
        let names : label_names (i.front ++ i.jump ∷ i.rest) ≡ label_names (h.front ++ h.jump ∷ h.rest) = ap label_names (sym all) in
        let before : All (HasPlace (label_names (i.front ++ i.jump ∷ i.rest))) (h.front ++ h.jump ∷ more.0) = subst (λ s. All (HasPlace (label_names (i.front ++ i.jump ∷ i.rest))) s) more.1 i.before in
        h.missing (subst (λ ns. HasPlace ns h.jump) names (middle (HasPlace (label_names (i.front ++ i.jump ∷ i.rest))) h.front h.jump more.0 before))

    one_jump : (m n : ℕ) → IsBadJump I t is_op ls m → IsBadJump I t is_op ls n → m ≡ n
    one_jump m n h i = by (fork_at h.front i.front h.jump i.jump h.rest i.rest all) where
      all : h.front ++ h.jump ∷ h.rest ≡ i.front ++ i.jump ∷ i.rest
      all = all_said t is_op laws ls (h.front ++ h.jump ∷ h.rest) (i.front ++ i.jump ∷ i.rest) h.read.each i.read.each

      by : ((h.front ≡ i.front) × (h.jump ≡ i.jump)) ⊎ (IsFurther h.front h.jump i.front ⊎ IsFurther i.front i.jump h.front) → m ≡ n
      by (inl same) = h.count ∙ ap (λ (l : List (CodeMeaning I O)). length l) same.0 ∙ sym i.count
      by (inr (inl more)) = absurd (jump_before m n h i all more)
      by (inr (inr more)) = absurd (jump_before n m i h (sym all) more)

    record LineAt (at : ℕ) (kind : TextKind) : Type 0 where
      n : ℕ
      bad : IsBadLine I t is_op ls n kind
      at_is : at ≡ start + n + 1

    record JumpAt (at : ℕ) (kind : TextKind) : Type 0 where
      n : ℕ
      bad : IsBadJump I t is_op ls n
      at_is : at ≡ start + n + 1
      kind_is : kind ≡ LabelFault

    record EndAt (at : ℕ) (kind : TextKind) : Type 0 where
      open_end : IsOpenEnd I t is_op ls
      at_is : at ≡ start + length ls
      kind_is : kind ≡ NoEnd

    abbrev Parts : ℕ → TextKind → Type 0
    Parts at kind = LineAt at kind ⊎ (JumpAt at kind ⊎ EndAt at kind)

    code_parts : (at : ℕ) (kind : TextKind) → IsCodeFaultAt I t is_op start ls at kind → Parts at kind
    code_parts at Instruction (n, bad, is) = inl (record { n = n; bad = bad; at_is = is })
    code_parts at LabelFault (n, inl bad, is) = inl (record { n = n; bad = bad; at_is = is })
    code_parts at LabelFault (n, inr bad, is) = inr (inl (record { n = n; bad = bad; at_is = is; kind_is = refl }))
    code_parts at NoEnd (bad, is) = inr (inr (record { open_end = bad; at_is = is; kind_is = refl }))
    code_parts at TargetFault h = absurd h
    code_parts at Directive h = absurd h

    one_code : (at other : ℕ) (k l : TextKind) → Parts at k → Parts other l → (at ≡ other) × (k ≡ l)
    one_code at other k l (inl h) (inl i) = let same = one_line h.n i.n k l h.bad i.bad in (h.at_is ∙ ap (λ n. start + n + 1) same.0 ∙ sym i.at_is, same.1)
    one_code at other k l (inl h) (inr (inl i)) = absurd (no_bad_line t is_op laws ls (i.bad.front ++ i.bad.jump ∷ i.bad.rest) i.bad.read.each i.bad.read.distinct h.n k h.bad)
    one_code at other k l (inl h) (inr (inr i)) = absurd (no_bad_line t is_op laws ls i.open_end.said i.open_end.read.each i.open_end.read.distinct h.n k h.bad)
    one_code at other k l (inr (inl h)) (inl i) = absurd (no_bad_line t is_op laws ls (h.bad.front ++ h.bad.jump ∷ h.bad.rest) h.bad.read.each h.bad.read.distinct i.n l i.bad)
    one_code at other k l (inr (inr h)) (inl i) = absurd (no_bad_line t is_op laws ls h.open_end.said h.open_end.read.each h.open_end.read.distinct i.n l i.bad)
    one_code at other k l (inr (inl h)) (inr (inl i)) = (h.at_is ∙ ap (λ n. start + n + 1) (one_jump h.n i.n h.bad i.bad) ∙ sym i.at_is, h.kind_is ∙ sym i.kind_is)
    one_code at other k l (inr (inl h)) (inr (inr i)) = absurd (no_bad_jump t is_op laws ls i.open_end.said i.open_end.read.each i.open_end.places h.n h.bad)
    one_code at other k l (inr (inr h)) (inr (inl i)) = absurd (no_bad_jump t is_op laws ls h.open_end.said h.open_end.read.each h.open_end.places i.n i.bad)
    one_code at other k l (inr (inr h)) (inr (inr i)) = (h.at_is ∙ sym i.at_is, h.kind_is ∙ sym i.kind_is)

    pub code_told : (r : Result (List (Line I O) × List Label) TextFault) → IfOk r (λ p. IsCodeText t is_op ls p.0 p.1) → IfErr r (IsCodeRefusal I t is_op start ls) → (at : ℕ) (kind : TextKind) → IsCodeFaultAt I t is_op start ls at kind → IsTextFaultOr at kind r
    code_told (Ok p) says refused at kind h = no_fault t is_op laws start ls p.0 p.1 says at kind h
    code_told (Err (At line other)) says refused at kind h = one_code line at other kind (code_parts line other refused) (code_parts at kind h)
    code_told (Err Memory) says refused at kind h = tt

-- ---- a text

told_as : (A B : Type 0) (f : TextFault) (at : ℕ) (kind : TextKind) → IsTextFaultOr {A = A} at kind (Err f) → IsTextFaultOr {A = B} at kind (Err f)
told_as A B (At line other) at kind h = h
told_as A B Memory at kind h = tt

refused_or : (I O : Type 0) (f : TextFault) (h : Head) (n at : ℕ) (kind : TextKind) → IsHeadOr h n (Err f) → IsTextFaultOr {A = ProgramOf I O} at kind (Err f)
refused_or I O (At line other) h n at kind only = absurd only
refused_or I O Memory h n at kind only = tt

module _ (I O : Type 0) (t : Table O) (is_op : O → Type 0) (target : Target) (bytes : List ℕ) where
  pub head_refused : (ls : List (List ℕ)) (f : TextFault) → ls ≡ lines bytes → t.target ≡ target → ((at : ℕ) (kind : TextKind) → IsHeadFaultAt target ls at kind → IsTextFaultOr {A = Head × ℕ} at kind (Err f))
      → ((h : Head) (front back : List (List ℕ)) → ls ≡ front ++ back → IsHeadText target front h → IsHead h → IsHeadOr h (length front) (Err f))
      → (at : ℕ) (kind : TextKind) → IsTextFault I t is_op bytes at kind → IsTextFaultOr {A = ProgramOf I O} at kind (Err f)
  head_refused ls f is for told only at kind (inl h) = told_as (Head × ℕ) (ProgramOf I O) f at kind (told at kind (subst (λ l. IsHeadFaultAt target l at kind) (sym is) (subst (λ x. IsHeadFaultAt x (lines bytes) at kind) for h)))
  head_refused ls f is for told only at kind (inr h) = refused_or I O f h.head (length h.front) at kind (only h.head h.front h.back (is ∙ h.parts) (subst (λ x. IsHeadText x h.front h.head) for h.says) h.is_head)

  -- behind a head that is read the fault is the code's
  pub behind_told : (ls back : List (List ℕ)) (head : Head) (start : ℕ) (r : Result (List (Line I O) × List Label) TextFault) → ls ≡ lines bytes → back ≡ lines bytes → t.target ≡ target
      → ((at : ℕ) (kind : TextKind) → IsHeadFaultAt target ls at kind → IsTextFaultOr {A = Head × ℕ} at kind (Ok (head, start)))
      → ((h : Head) (front back : List (List ℕ)) → ls ≡ front ++ back → IsHeadText target front h → IsHead h → IsHeadOr h (length front) (Ok (head, start)))
      → ((at : ℕ) (kind : TextKind) → IsCodeFaultAt I t is_op start (drop start back) at kind → IsTextFaultOr at kind r)
      → (at : ℕ) (kind : TextKind) → IsTextFault I t is_op bytes at kind → IsTextFaultOr at kind r
  behind_told ls back head start r is again for told only code at kind (inl h) = absurd (told at kind (subst (λ l. IsHeadFaultAt target l at kind) (sym is) (subst (λ x. IsHeadFaultAt x (lines bytes) at kind) for h)))
  behind_told ls back head start r is again for told only code at kind (inr h) =
      let same = only h.head h.front h.back (is ∙ h.parts) (subst (λ x. IsHeadText x h.front h.head) for h.says) h.is_head in
      let behind : drop start back ≡ h.back = ap (λ l. drop start l) (again ∙ h.parts) ∙ drop_at h.front h.back start (sym same.1) in
      code at kind (subst (λ l. IsCodeFaultAt I t is_op start l at kind) (sym behind) (subst (λ n. IsCodeFaultAt I t is_op n h.back at kind) (sym same.1) h.fault))

  pub code_refused : (f : TextFault) → ((at : ℕ) (kind : TextKind) → IsTextFault I t is_op bytes at kind → IsTextFaultOr {A = List (Line I O) × List Label} at kind (Err f))
      → (at : ℕ) (kind : TextKind) → IsTextFault I t is_op bytes at kind → IsTextFaultOr {A = ProgramOf I O} at kind (Err f)
  code_refused f told at kind h = told_as (List (Line I O) × List Label) (ProgramOf I O) f at kind (told at kind h)
