-- One line after another.
use Rattle.std.proofs.Common.{◌≡◌, refl, sym, ◌∙◌, ap, subst, inl, inr, ℕ, ◌+◌, ◌≤◌, ◌<◌, List, [], ◌∷◌, ◌++◌, length, arith, append_assoc, append-nil, length-append}
use Rattle.std.specs.Prelude.{◌⊎◌, Option, Some, None, Result, Ok, Err, pos}
use Rattle.std.specs.Str.Lines.{lines}
use Rattle.pf_text.specs.Meaning.Answers.{Answers}
use Rattle.pf_text.proofs.OneFault.{steps_more}
use Rattle.pf_ints.specs.declared.lane.LaneType.{LaneType}
use Rattle.pf_terms.specs.declared.meaning.ReadFault.{ReadFault}
use Rattle.pf_terms.specs.declared.meaning.ReadFault.TheVariants.{Memory as NoMemory}
use Rattle.pf_values.specs.declared.limit.LimitKind.TheVariants.{Bytes}
use Rattle.pf_values.specs.declared.term.Term.{Term}
use Rattle.pf_kernel.specs.declared.fault.KernelFault.{KernelFault}
use Rattle.pf_kernel.specs.declared.fault.KernelFault.TheVariants.{Syntax, Limit, Memory}
use Rattle.pf_kernel.specs.declared.reading.Reading.{Reading}
use Rattle.pf_kernel.specs.Meaning.Kernels.{Meaning}
use Rattle.pf_kernel.specs.Meaning.Lines.{Begun, IsLineFault, IsStep, nothing, AreRead}
use Rattle.pf_kernel.specs.Steps.Readings.{begun_of, IsReading}
use Rattle.pf_kernel.specs.Steps.Reads.{IsKernelFaultAt, IsSoFar, IsWholeText, FinishesKernel}
use Rattle.pf_kernel.specs.Meaning.Texts.{IsKernel, IsKernelFault, long, line, early, at_line, all_of, byte_limit}

-- ---- lines that are read
pub told_line : (b : Begun) (l : List ℕ) (n : ℕ) (f : ReadFault) (e : KernelFault) → IsLineFault b l f ⊎ (f ≡ NoMemory) → e ≡ at_line n f → IsKernelFaultAt b l n e ⊎ (e ≡ Memory)
told_line b l n f e (inl h) is = inl (f, h, is)
told_line b l n f e (inr h) is = inr (is ∙ ap (at_line n) h)

module _ (text rest next l : List ℕ) (count : ℕ) (r : Reading) (h : IsSoFar text rest count r) (e : lines rest ≡ l ∷ lines next) where
  pub so_far_more : (s : Reading) → length next < length rest → IsReading s → IsStep (begun_of r) l (begun_of s) → IsSoFar text next (count + 1) s
  so_far_more s shorter good step =
      let room : count + length rest ≤ length text = h.room in
      record {
        good = good;
        before = h.before ++ l ∷ [];
        parts = h.parts ∙ ap (λ (ls : List (List ℕ)). h.before ++ ls) e ∙ sym (append_assoc h.before (l ∷ []) (lines next));
        count_is = omega (arith, h.count_is, length-append h.before (l ∷ []));
        room = omega arith;
        read = steps_more Begun (List ℕ) IsStep nothing (begun_of r) (begun_of s) h.before l h.read step;
      }

  pub next_told : (f : KernelFault) → length text ≤ byte_limit → IsKernelFaultAt (begun_of r) l (count + 1) f ⊎ (f ≡ Memory) → IsKernelFault text f ⊎ (f ≡ Memory)
  next_told f short (inr none) = inr none
  next_told f short (inl told) =
      inl (subst (IsKernelFault text) (sym told.2) (line count told.0 short (record {
        before = h.before;
        here = l;
        after = lines next;
        state = begun_of r;
        parts = h.parts ∙ ap (λ (ls : List (List ℕ)). h.before ++ ls) e;
        count = h.count_is;
        steps = h.read;
        stands = told.1;
      })))

-- ---- the end of the text
nil_at : (xs : List ℕ) → length xs ≤ 0 → xs ≡ []
nil_at [] h = refl
nil_at (x ∷ xs) h = absurd (omega arith)

pub whole : (text rest : List ℕ) (count : ℕ) (r : Reading) → IsSoFar text rest count r → length rest ≤ 0 → IsWholeText text r count
whole text rest count r h none =
    let all : lines text ≡ h.before = h.parts ∙ ap (λ (ls : List (List ℕ)). h.before ++ ls) (ap lines (nil_at rest none)) ∙ append-nil h.before in
    record { good = h.good; count_is = h.count_is ∙ ap length (sym all); read = subst (λ (ls : List (List ℕ)). AreRead nothing ls (begun_of r)) (sym all) h.read }

-- ---- the kernel
some_same : {A : Type 0} (a b : A) → ◌≡◌ {A = Option A} (Some a) (Some b) → a ≡ b
some_same a b h = cc

pub same_meaning : (j k : Meaning) → all_of j ≡ all_of k → j ≡ k
same_meaning j k h =
    let name = some_same j.name k.name (ap (λ (b : Begun). b.name) h) in
    let images = ap (λ (b : Begun). b.images) h in
    let taps = ap (λ (b : Begun). b.taps) h in
    let defs = ap (λ (b : Begun). b.defs) h in
    let out = some_same (j.source.out_ty, j.source.out) (k.source.out_ty, k.source.out) (ap (λ (b : Begun). b.out) h) in
    let ty = ap (λ (p : LaneType × Term). p.0) out in
    let term = ap (λ (p : LaneType × Term). p.1) out in
    λ i. record { name = name i; source = record { images = images i; taps = taps i; defs = defs i; out_ty = ty i; out = term i } }

pub never_early : (k : Meaning) (b : Begun) → b ≡ all_of k → b.out ≡ None → ⊥
never_early k b is none = absurd (let some : ◌≡◌ {A = Option (LaneType × Term)} (Some (k.source.out_ty, k.source.out)) None = ap (λ (c : Begun). c.out) (sym is) ∙ none in cc)

pub finished : (text : List ℕ) (r : Reading) (count : ℕ) (k : Result Meaning KernelFault) → length text ≤ byte_limit → IsWholeText text r count → FinishesKernel (begun_of r) count k → Answers Memory (IsKernel text) (IsKernelFault text) k
finished text r count (Ok k) short h is = record { short = short; lines_read = subst (AreRead nothing (lines text)) (sym is) h.read }
finished text r count (Err e) short h is =
    inl (subst (IsKernelFault text) (sym is.1) (subst (λ (n : ℕ). IsKernelFault text (Syntax (n + 1) 1)) (sym h.count_is) (early (begun_of r) short h.read is.0)))

pub too_long_told : (bytes : List ℕ) (e : KernelFault) → 65536 < length bytes → e ≡ Limit Bytes (pos (length bytes)) → IsKernelFault bytes e
unfolding byte_limit
too_long_told bytes e over told = subst (IsKernelFault bytes) (sym told) (long over)

pub few_bytes : (n : ℕ) → n ≤ byte_limit → n ≤ 65536
unfolding byte_limit
few_bytes n h = h

pub within_limit : (n : ℕ) → n ≤ 65536 → n ≤ byte_limit
unfolding byte_limit
within_limit n h = h
