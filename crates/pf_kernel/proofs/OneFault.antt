-- A text has one first fault, and a kernel's text has none.
use Rattle.std.proofs.Common.{◌≡◌, refl, sym, ◌∙◌, ap, subst, ℕ, ◌+◌, ◌<◌, nat_lt, Bool, true, false, List, ◌++◌, length, take, drop, arith, append_assoc, take-append-drop, take-take, ltb-true, ltb-false}
use Rattle.std.specs.Prelude.{Option, Some, None, Result}
use Rattle.std.specs.Str.Lines.{lines}
use Rattle.std.proofs.lemmas.List.{length-map}
use Rattle.pf_text.specs.Meaning.Answers.{Answers, Decides}
use Rattle.pf_text.specs.Meaning.FirstFaults.{IsFirstFault}
use Rattle.pf_text.proofs.Answering.{decides}
use Rattle.pf_text.proofs.OneFault.{one_end, no_fault, one_first}
use Rattle.pf_terms.specs.declared.parse.syntax_tree.SyntaxTree.{SyntaxTree}
use Rattle.pf_terms.specs.declared.meaning.ReadFault.{ReadFault}
use Rattle.pf_terms.specs.declared.meaning.ReadFault.TheVariants.{Syntax as FaultSyntax}
use Rattle.pf_terms.specs.declared.token.TokenKind.{TokenKind}
use Rattle.pf_terms.specs.declared.token.Token.{Token}
use Rattle.pf_terms.specs.Meaning.SyntaxTrees.{IsSyntaxFault}
use Rattle.pf_terms.specs.Meaning.Meanings.{first_some}
use Rattle.pf_terms.specs.Meaning.Tokens.{kinds, token_place, IsLexed}
use Rattle.pf_terms.proofs.OneFault.{one_tree_text, one_syntax_fault, no_syntax_fault}
use Rattle.pf_terms.proofs.OneLexing.{one_lexing}
use Rattle.pf_kernel.specs.declared.fault.KernelFault.{KernelFault}
use Rattle.pf_kernel.specs.declared.fault.KernelFault.TheVariants.{Memory}
use Rattle.pf_kernel.specs.declared.front.Front.{Front}
use Rattle.pf_kernel.specs.Meaning.Kernels.{Meaning}
use Rattle.pf_kernel.specs.Meaning.Lines.{Begun, nothing, IsShape, MayStart, IsFrontFault, told_at, equals_of, end_of, uncommented, LineMeaning, Nothing, Bare, Over, SaysOf, faults, with_said, IsTokensFault, front, expression, said_fault, IsLineFault, IsStep, AreRead}
use Rattle.pf_kernel.specs.Meaning.Texts.{IsKernel, IsKernelFault, long, line, early, at_line, all_of}
use Rattle.pf_kernel.proofs.FrontLaws.{same_front, only_bare, only_over}
use Rattle.pf_kernel.proofs.ReadLaws.{never_early, same_meaning}

-- ---- the front of a line
module _ (b : Begun) (ks : List TokenKind) where
  begins_less : (xs ys : List TokenKind) → MayStart b (xs ++ ys) → MayStart b xs
  begins_less xs ys h = (ys ++ h.0, h.1, subst (λ (l : List TokenKind). IsShape b l h.1) (append_assoc xs ys h.0) h.2)

  -- a fault comes behind no other
  not_later : (m n : ℕ) → IsFrontFault b ks m → IsFrontFault b ks n → m < n → ⊥
  not_later m n f g below =
      let parts : take n ks ≡ take (m + 1) ks ++ drop (m + 1) (take n ks) =
      sym (take-append-drop (m + 1) (take n ks)) ∙ ap (λ l. l ++ drop (m + 1) (take n ks)) (take-take (m + 1) n ks (omega arith)) in
      f.fault (omega (arith, g.within)) (begins_less (take (m + 1) ks) (drop (m + 1) (take n ks)) (subst (MayStart b) parts (g.begun (omega arith))))

  one_front : (m n : ℕ) → IsFrontFault b ks m → IsFrontFault b ks n → m ≡ n
  one_front m n f g = by (nat_lt m n) (nat_lt n m) refl refl where
    by : (t u : Bool) → nat_lt m n ≡ t → nat_lt n m ≡ u → m ≡ n
    by true u e i = absurd (not_later m n f g (ltb-true m n e))
    by false true e i = absurd (not_later n m g f (ltb-true n m i))
    by false false e i = omega (arith, ltb-false m n e, ltb-false n m i)

  -- a line that has a shape has no fault in front
  shape_whole : (f : Front) (n : ℕ) → IsShape b ks f → IsFrontFault b ks n → ⊥
  shape_whole f n shape h = by (nat_lt n (length ks)) refl where
    by : (t : Bool) → nat_lt n (length ks) ≡ t → ⊥
    by true e = h.fault (ltb-true n (length ks) e) (drop (n + 1) ks, f, subst (λ (l : List TokenKind). IsShape b l f) (sym (take-append-drop (n + 1) ks)) shape)
    by false e = h.end (omega (arith, h.within, ltb-false n (length ks) e)) f shape

-- ---- the tokens of a line
module _ (b : Begun) (text : List ℕ) (ts : List Token) where
  says_front : (said : LineMeaning) (n : ℕ) → SaysOf b text ts said → IsFrontFault b (kinds ts) n → ⊥
  says_front Nothing n h k = absurd (omega (arith, k.some, length-map ts (λ t. t.kind), ap length h))
  says_front (Bare f) n h k = shape_whole b (kinds ts) f n h.0 k
  says_front (Over f d) n h k = shape_whole b (kinds ts) f n h.0 k

  one_said : (x y : LineMeaning) → SaysOf b text ts x → SaysOf b text ts y → x ≡ y
  one_said Nothing Nothing h k = refl
  one_said Nothing (Bare f) h k = only_bare b text ts f Nothing k.0 k.1 h
  one_said Nothing (Over f d) h k = let over = only_over b text ts f k.1.0 Nothing k.0 k.1.1 h in absurd (cc (over.is))
  one_said (Bare f) y h k = sym (only_bare b text ts f y h.0 h.1 k)
  one_said (Over f d) y h k =
      let over = only_over b text ts f h.1.0 y h.0 h.1.1 k in
      ap (λ (e : SyntaxTree). Over f e) (one_tree_text (drop (end_of ts h.1.0) text) d over.tree h.1.2 over.spelled) ∙ sym over.is

  says_expression : (said : LineMeaning) (f : Front) (n place : ℕ) → SaysOf b text ts said → IsShape b (kinds ts) f → equals_of f ≡ Some n → IsSyntaxFault (drop (end_of ts n) text) place → ⊥
  says_expression said f n place h shape equals broken =
      let over = only_over b text ts f n said shape equals h in
      no_syntax_fault (drop (end_of ts n) text) over.tree place over.spelled broken

  one_expression : (f g : Front) (m n p q : ℕ) → IsShape b (kinds ts) f → IsShape b (kinds ts) g → equals_of f ≡ Some m → equals_of g ≡ Some n → IsSyntaxFault (drop (end_of ts m) text) p → IsSyntaxFault (drop (end_of ts n) text) q → end_of ts m + p + 1 ≡ end_of ts n + q + 1
  one_expression f g m n p q h k e i broken other =
      let equals : ◌≡◌ {A = Option ℕ} (Some m) (Some n) = sym e ∙ ap equals_of (sym (same_front b (kinds ts) f g h k)) ∙ i in
      let same : m ≡ n = cc in
      let places : p ≡ q = one_syntax_fault (drop (end_of ts n) text) p q (subst (λ (l : ℕ). IsSyntaxFault (drop (end_of ts l) text) p) same broken) other in
      λ j. end_of ts (same j) + places j + 1

  one_tokens_fault : (e f : ReadFault) → IsTokensFault b text ts e → IsTokensFault b text ts f → e ≡ f
  one_tokens_fault _ _ (front m h) (front n k) = ap (λ (l : ℕ). FaultSyntax (token_place ts (told_at (kinds ts) l) + 1)) (one_front b (kinds ts) m n h k)
  one_tokens_fault _ _ (front m h) (expression g n q shape equals k) = absurd (shape_whole b (kinds ts) g m shape h)
  one_tokens_fault _ _ (front m h) (said_fault said f k first) = absurd (says_front said m k h)
  one_tokens_fault _ _ (expression g n q shape equals h) (front m k) = absurd (shape_whole b (kinds ts) g m shape k)
  one_tokens_fault _ _ (expression f m p h e broken) (expression g n q k i other) = ap FaultSyntax (one_expression f g m n p q h k e i broken other)
  one_tokens_fault _ _ (expression g n q shape equals h) (said_fault said f k first) = absurd (says_expression said g n q k shape equals h)
  one_tokens_fault _ _ (said_fault said f h first) (front m k) = absurd (says_front said m h k)
  one_tokens_fault _ _ (said_fault said f h first) (expression g n q shape equals k) = absurd (says_expression said g n q h shape equals k)
  one_tokens_fault _ _ (said_fault x e h first) (said_fault y f k other) =
      let both : ◌≡◌ {A = Option ReadFault} (Some e) (Some f) = sym first ∙ ap (λ (s : LineMeaning). first_some (faults b s)) (one_said x y h k) ∙ other in
      cc

  no_tokens_fault : (x : LineMeaning) (e : ReadFault) → SaysOf b text ts x → first_some (faults b x) ≡ None → IsTokensFault b text ts e → ⊥
  no_tokens_fault x _ h none (front m k) = says_front x m h k
  no_tokens_fault x _ h none (expression g n q shape equals k) = says_expression x g n q h shape equals k
  no_tokens_fault x _ h none (said_fault y e k first) =
      let both : ◌≡◌ {A = Option ReadFault} None (Some e) = sym none ∙ ap (λ (s : LineMeaning). first_some (faults b s)) (one_said x y h k) ∙ first in
      absurd (cc)

-- ---- a line
abbrev HasTokens : List ℕ → (List Token → Type 0) → Type 0
HasTokens l P = (ts : List Token) × IsLexed 0 (uncommented l) ts × P ts

same_tokens : (l : List ℕ) (P Q : List Token → Type 0) → HasTokens l P → HasTokens l Q → (ts : List Token) × P ts × Q ts
same_tokens l P Q h k = (k.0, subst P (one_lexing 0 (uncommented l) h.0 k.0 h.1 k.1) h.2, k.2)

one_step : (a b c : Begun) (l : List ℕ) → IsStep a l b → IsStep a l c → b ≡ c
one_step a b c l h k =
    let text = uncommented l in
    let both = same_tokens l (λ ts. SaysOf a text ts h.said) (λ ts. SaysOf a text ts k.said) h.read.says k.read.says in
    sym h.next ∙ ap (with_said a) (one_said a text both.0 h.said k.said both.1 both.2) ∙ k.next

step_whole : (a b : Begun) (l : List ℕ) (e : ReadFault) → IsStep a l b → IsLineFault a l e → ⊥
step_whole a b l e h k =
    let text = uncommented l in
    let both = same_tokens l (λ ts. SaysOf a text ts h.said) (λ ts. IsTokensFault a text ts e) h.read.says k in
    no_tokens_fault a text both.0 h.said e both.1 h.read.faultless both.2

one_line_fault : (a : Begun) (l : List ℕ) (e f : ReadFault) → IsLineFault a l e → IsLineFault a l f → e ≡ f
one_line_fault a l e f h k =
    let text = uncommented l in
    let both = same_tokens l (λ ts. IsTokensFault a text ts e) (λ ts. IsTokensFault a text ts f) h k in
    one_tokens_fault a text both.0 e f both.1 both.2

-- ---- the text
module _ (bytes : List ℕ) where
  abbrev LineAt : ℕ → ReadFault → Type 0
  LineAt n e = IsFirstFault IsStep IsLineFault nothing (lines bytes) n e

  one_reading : (b c : Begun) → AreRead nothing (lines bytes) b → AreRead nothing (lines bytes) c → b ≡ c
  one_reading b c h k = one_end Begun (List ℕ) IsStep one_step nothing b c (lines bytes) h k

  no_line : (b : Begun) (n : ℕ) (e : ReadFault) → AreRead nothing (lines bytes) b → LineAt n e → ⊥
  no_line b n e h k = no_fault Begun (List ℕ) IsStep one_step ReadFault IsLineFault step_whole nothing b (lines bytes) n e h k

  one_line : (m n : ℕ) (e f : ReadFault) → LineAt m e → LineAt n f → at_line (m + 1) e ≡ at_line (n + 1) f
  one_line m n e f h k =
      let both = one_first Begun (List ℕ) IsStep one_step ReadFault IsLineFault step_whole one_line_fault nothing (lines bytes) m n e f h k in
      λ i. at_line (both.0 i + 1) (both.1 i)

  one_fault : (e f : KernelFault) → IsKernelFault bytes e → IsKernelFault bytes f → e ≡ f
  one_fault _ _ (long h) (long k) = refl
  one_fault _ _ (long h) (line n f short k) = absurd (omega arith)
  one_fault _ _ (long h) (early c short read none) = absurd (omega arith)
  one_fault _ _ (line m e short h) (long k) = absurd (omega arith)
  one_fault _ _ (line m e short h) (line n f _ k) = one_line m n e f h k
  one_fault _ _ (line m e short h) (early c _ read none) = absurd (no_line c m e read h)
  one_fault _ _ (early c short read none) (long k) = absurd (omega arith)
  one_fault _ _ (early c _ read none) (line n f short k) = absurd (no_line c n f read k)
  one_fault _ _ (early c _ read none) (early d short again empty) = refl

  kernel_whole : (k : Meaning) (e : KernelFault) → IsKernel bytes k → IsKernelFault bytes e → ⊥
  kernel_whole k _ h (long over) = absurd (omega (arith, h.short))
  kernel_whole k _ h (line n f short broken) = no_line (all_of k) n f h.lines_read broken
  kernel_whole k _ h (early b short read none) = never_early k b (one_reading b (all_of k) read h.lines_read) none

  one_kernel : (j k : Meaning) → IsKernel bytes j → IsKernel bytes k → j ≡ k
  one_kernel j k h i = same_meaning j k (one_reading (all_of j) (all_of k) h.lines_read i.lines_read)

  pub decided : (r : Result Meaning KernelFault) → Answers Memory (IsKernel bytes) (IsKernelFault bytes) r → Decides Memory (IsKernel bytes) (IsKernelFault bytes) r
  decided r h = decides Meaning KernelFault Memory (IsKernel bytes) (IsKernelFault bytes) one_kernel one_fault kernel_whole r h
