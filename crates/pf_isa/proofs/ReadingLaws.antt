-- What reading a head line by line says of all its lines.
use Rattle.std.proofs.Common.{◌≡◌, ◌≢◌, refl, sym, ap, ◌∙◌, subst, inl, inr, ℕ, suc, ◌+◌, ◌≤◌, ◌<◌, List, [], ◌∷◌, ◌++◌, length, take, drop, get_or, ◌-◌, arith, length-append}
use Rattle.std.specs.Prelude.{◌⊎◌, Result, Ok, Err, IfErr}
use Rattle.std.specs.Borrow.{Bor}
use Rattle.std.proofs.Math.Seq.{take-append_seam}
use Rattle.std.proofs.lemmas.List.{take_rest, length-drop, length-map}
use Rattle.pf_text.specs.Meaning.Answers.{Answers}
use Rattle.pf_text.specs.Meaning.FirstFaults.{OnlySteps, Halts}
use Rattle.pf_text.proofs.Answering.{answers_map}
use Rattle.pf_text.proofs.Lists.{rest_same}
use Rattle.pf_text.proofs.OneFault.{steps_more, steps_of, one_halt}
use Rattle.pf_ints.specs.declared.target.Target.{Target}
use Rattle.pf_isa.specs.declared.fault.TextFault.{TextFault}
use Rattle.pf_isa.specs.declared.fault.TextFault.TheVariants.{At, Memory}
use Rattle.pf_isa.specs.declared.fault.TextKind.{TextKind}
use Rattle.pf_isa.specs.declared.fault.TextKind.TheVariants.{Target as TargetFault, Directive, Instruction, Label, NoEnd}
use Rattle.pf_machine.specs.declared.program.Head.{Head}
use Rattle.pf_isa.specs.declared.so_far.Stage.TheVariants.{Code}
use Rattle.pf_isa.specs.Steps.HeadSteps.{whole, IsWholeFrom, IsStopped, IsReached, IsHeadWay, IsHeadStop}
use Rattle.pf_machine.specs.Meaning.Heads.{IsHead}
use Rattle.pf_text.specs.Meaning.Lines.{IsLine}
use Rattle.pf_isa.specs.Meaning.Texts.{IsHeadText, target_line}
use Rattle.pf_isa.specs.Meaning.TextFaults.{texts, SoFar, empty_head, GoesOn, GoOn, HeadStops, IsFor, IsHeadOr, IsHeadRefusal, IsHeadFaultAt, IsTextFaultOr}
use Rattle.pf_isa.proofs.HeadSaid.{chain_is_head, chain_is_text}
use Rattle.pf_isa.proofs.HeadChains.{head_chain}

-- ---- from one line to the next
pub whole_here : (s : SoFar) (ls : List (List ℕ)) (n : ℕ) (h : Head) → s.stage ≡ Code → h ≡ s.head → IsWholeFrom s ls n (h, n)
whole_here s ls n h is same = ([], ls, refl, omega arith, λ i. record { stage = is i; head = sym same i })

pub stops_here : (s : SoFar) (ls : List (List ℕ)) (n : ℕ) (f : TextFault) → HeadStops s ls → f ≡ At (n + 1) Directive → IsStopped s ls n f
stops_here s ls n f stops is = let place : n + 1 ≡ n + 0 + 1 = omega arith in ([], ls, s, refl, is ∙ ap (λ m. At m Directive) place, refl, stops)

counted : (n k : ℕ) → n + 1 + k + 1 ≡ n + suc k + 1
counted n k = omega arith

pub onward : (s next : SoFar) (line : List ℕ) (ls rest : List (List ℕ)) (n : ℕ) (r : Result (Head × ℕ) TextFault) → ls ≡ line ∷ rest → GoesOn s line next × ((other : SoFar) → GoesOn s line other → other ≡ next)
    → Answers Memory (IsWholeFrom next rest (n + 1)) (IsStopped next rest (n + 1)) r → Answers Memory (IsWholeFrom s ls n) (IsStopped s ls n) r
onward s next line ls rest n (Ok p) is goes (front, back, parts, count, go) = (line ∷ front, back, is ∙ ap (λ l. line ∷ l) parts, omega (arith, count), (next, goes, go))
onward s next line ls rest n (Err f) is goes (inl (front, behind, end, parts, told, go, stops)) =
    inl (line ∷ front, behind, end, is ∙ ap (λ l. line ∷ l) parts, told ∙ ap (λ m. At m Directive) (counted n (length front)), (next, goes, go), stops)
onward s next line ls rest n (Err f) is goes (inr none) = inr none

pub nothing_reached : IsReached empty_head
nothing_reached = ([], refl)

pub reached_on : (s next : SoFar) (line : List ℕ) → IsReached s → GoesOn s line next → IsReached next
reached_on s next line (before, go) goes = (before ++ line ∷ [], steps_more SoFar (List ℕ) GoesOn empty_head s next before line go goes)

-- ---- the first of the lines
pub texts_first : (xs : List (Bor (List ℕ))) (d : Bor (List ℕ)) → 1 ≤ length xs → texts xs ≡ (get_or xs 0 d).now ∷ texts (take (length xs - 1) (drop 1 xs))
texts_first [] d some = absurd (omega arith)
texts_first (x ∷ xs) d some = ap (λ l. x.now ∷ texts l) (sym (take_rest (x ∷ xs) 1))

pub rest_count : (xs : List (Bor (List ℕ))) → 1 ≤ length xs → length (take (length xs - 1) (drop 1 xs)) + 1 ≡ length xs
rest_count xs some = let rest = take_rest xs 1 in omega (arith, some, ap (λ (l : List (Bor (List ℕ))). length l) rest, length-drop 1 xs)

pub length-texts : (xs : List (Bor (List ℕ))) → length (texts xs) ≡ length xs
length-texts xs = length-map xs (λ (s : Bor (List ℕ)). s.now)

pub texts_none : (xs : List (Bor (List ℕ))) → length xs < 1 → texts xs ≡ []
texts_none [] few = refl
texts_none (x ∷ xs) few = absurd (omega arith)

-- ---- the head of a text
pub way_from : (target : Target) (ls : List (List ℕ)) (first : List ℕ) (rest : List (List ℕ)) (r : Result (Head × ℕ) TextFault) → ls ≡ first ∷ rest → IsLine first (target_line target)
    → Answers Memory (IsWholeFrom empty_head rest 1) (IsStopped empty_head rest 1) r → Answers Memory (IsHeadWay target ls) (IsHeadStop target ls) r
way_from target ls first rest r is for_target h =
    answers_map Memory (IsWholeFrom empty_head rest 1) (IsHeadWay target ls) (IsStopped empty_head rest 1) (IsHeadStop target ls) r (λ p k. (first, rest, is, for_target, k)) (λ f k. inr (first, rest, is, for_target, k)) h

-- a head's lines halt where they end, whole or not
stopped_stage : (s : SoFar) (ls : List (List ℕ)) → HeadStops s ls → s.stage ≢ Code
stopped_stage s [] h = h
stopped_stage s (l ∷ ls) h = h.0

stops_halts : (s : SoFar) (ls : List (List ℕ)) → HeadStops s ls → Halts GoesOn s ls
stops_halts s [] h = tt
stops_halts s (l ∷ ls) h = h.1

whole_halts : (h : Head) (ls : List (List ℕ)) → Halts GoesOn (whole h) ls
whole_halts h [] = tt
whole_halts h (l ∷ ls) = λ next k. k

module _ (target : Target) (ls : List (List ℕ)) where
  pub way_within : (n : ℕ) → length ls ≡ n → (r : Head × ℕ) → IsHeadWay target ls r → r.1 ≤ n
  way_within n long r (first, rest, is, for_target, (front, back, parts, count, go)) =
      omega (arith, long, count, ap (λ (l : List (List ℕ)). length l) is, ap (λ (l : List (List ℕ)). length l) parts, length-append front back)

  took : (first : List ℕ) (front back : List (List ℕ)) (m : ℕ) → m ≡ 1 + length front → take m (first ∷ (front ++ back)) ≡ first ∷ front
  took first front back m is =
      let more : suc (length front) ≡ m = omega (arith, is) in
      subst (λ k. take k (first ∷ (front ++ back)) ≡ first ∷ front) more (ap (λ l. first ∷ l) (take-append_seam front back))

  pub way_says : (r : Head × ℕ) → IsHeadWay target ls r → IsHeadText target (take r.1 ls) r.0
  way_says r (first, rest, is, for_target, (front, back, parts, count, go)) =
      subst (λ l. IsHeadText target l r.0) (sym (ap (take r.1) (is ∙ ap (λ l. first ∷ l) parts) ∙ took first front back r.1 count))
      (chain_is_text target first r.0 front for_target (steps_of SoFar (List ℕ) GoesOn empty_head (whole r.0) front go))

  pub way_head : (r : Head × ℕ) → IsHeadWay target ls r → IsHead r.0
  way_head r (first, rest, is, for_target, (front, back, parts, count, go)) = chain_is_head r.0 front (steps_of SoFar (List ℕ) GoesOn empty_head (whole r.0) front go)

  -- ---- the lines of a head that is read are those of each other head
  module _ (h : Head) (front back : List (List ℕ)) (all : ls ≡ front ++ back) (text : IsHeadText target front h) (head : IsHead h) where
    way_only : (r : Head × ℕ) → IsHeadWay target ls r → (r.0 ≡ h) × (r.1 ≡ length front)
    way_only r (first, rest, is, for_target, (way, behind, parts, count, go)) =
        let chain = head_chain target front h head text in
        let lines : way ++ behind ≡ chain.rest ++ back = sym parts ∙ rest_same first chain.first rest (chain.rest ++ back) (sym is ∙ all ∙ ap (λ l. l ++ back) chain.parts) in
        let same = one_halt SoFar (List ℕ) GoesOn empty_head (whole r.0) (whole h) way chain.rest behind back lines go (whole_halts r.0 behind) chain.says (whole_halts h back) in
        (ap (λ (t : SoFar). t.head) same.1, omega (arith, count, same.0, ap (λ (l : List (List ℕ)). length l) chain.parts))

    no_stop : (f : TextFault) → IsHeadStop target ls f → ⊥
    no_stop f (inl (is, other)) = let chain = head_chain target front h head text in other (subst (IsFor target) (sym (all ∙ ap (λ l. l ++ back) chain.parts)) chain.for_target)
    no_stop f (inr (first, rest, is, for_target, (way, behind, end, parts, told, go, stops))) =
        let chain = head_chain target front h head text in
        let lines : way ++ behind ≡ chain.rest ++ back = sym parts ∙ rest_same first chain.first rest (chain.rest ++ back) (sym is ∙ all ∙ ap (λ l. l ++ back) chain.parts) in
        let same = one_halt SoFar (List ℕ) GoesOn empty_head end (whole h) way chain.rest behind back lines go (stops_halts end behind stops) chain.says (whole_halts h back) in
        stopped_stage end behind stops (ap (λ (t : SoFar). t.stage) same.1)

    pub only_way : (r : Result (Head × ℕ) TextFault) → Answers Memory (IsHeadWay target ls) (IsHeadStop target ls) r → IsHeadOr h (length front) r
    only_way (Ok p) way = way_only p way
    only_way (Err f) (inl stop) = absurd (no_stop f stop)
    only_way (Err f) (inr none) = subst (λ e. IsHeadOr h (length front) (Err e)) (sym none) tt

  -- ---- and where it stops is the first fault
  stop_fault : (f : TextFault) → IsHeadStop target ls f → IsHeadRefusal target ls f
  stop_fault f (inl (is, other)) = subst (IsHeadRefusal target ls) (sym is) (refl, other)
  stop_fault f (inr (first, rest, is, for_target, (way, behind, end, parts, told, go, stops))) =
      let place : 1 + length way + 1 ≡ length way + 2 = omega arith in
      let go_on = steps_of SoFar (List ℕ) GoesOn empty_head end way go in
      subst (IsHeadRefusal target ls) (sym told) (subst (λ l. IsHeadFaultAt target l (1 + length way + 1) Directive) (sym is)
      (for_target, (length way, record { front = way; rest = behind; so_far = end; parts = parts; count = refl; begun = go_on; stops = stops }, place)))

  pub way_fault : (r : Result (Head × ℕ) TextFault) → Answers Memory (IsHeadWay target ls) (IsHeadStop target ls) r → IfErr r (IsHeadRefusal target ls)
  way_fault (Ok p) way = tt
  way_fault (Err f) (inl stop) = stop_fault f stop
  way_fault (Err f) (inr none) = subst (IsHeadRefusal target ls) (sym none) tt

-- what is wrong with a head, in parts
record IsDirective (target : Target) (ls : List (List ℕ)) (at : ℕ) : Type 0 where
  first : List ℕ
  front : List (List ℕ)
  behind : List (List ℕ)
  end : SoFar
  parts : ls ≡ first ∷ (front ++ behind)
  for_target : IsLine first (target_line target)
  begun : GoOn empty_head front end
  stops : HeadStops end behind
  at_is : at ≡ length front + 2

abbrev FaultParts : Target → List (List ℕ) → ℕ → TextKind → Type 0
FaultParts target ls at kind = ((at ≡ 1) × (kind ≡ TargetFault) × (IsFor target ls → ⊥)) ⊎ ((kind ≡ Directive) × IsDirective target ls at)

fault_parts : (target : Target) (ls : List (List ℕ)) (at : ℕ) (kind : TextKind) → IsHeadFaultAt target ls at kind → FaultParts target ls at kind
fault_parts target ls at TargetFault h = inl (h.0, refl, h.1)
fault_parts target [] at Directive h = absurd h
fault_parts target (l ∷ ls) at Directive (for_target, (n, fault, at_is)) = inr (
  refl,
  record {
    first = l;
    front = fault.front;
    behind = fault.rest;
    end = fault.so_far;
    parts = ap (λ m. l ∷ m) fault.parts;
    for_target = for_target;
    begun = fault.begun;
    stops = fault.stops;
    at_is = omega (arith, at_is, fault.count);
  },
)
fault_parts target ls at Instruction h = absurd h
fault_parts target ls at Label h = absurd h
fault_parts target ls at NoEnd h = absurd h

module _ (target : Target) (ls : List (List ℕ)) (at : ℕ) where
  abbrev IsTold : TextKind → Result (Head × ℕ) TextFault → Type 0
  IsTold kind r = IsTextFaultOr {A = Head × ℕ} at kind r

  named : (first : List ℕ) (rest : List (List ℕ)) → ls ≡ first ∷ rest → IsLine first (target_line target) → IsFor target ls
  named first rest is for_target = subst (IsFor target) (sym is) for_target

  same_end : (d : IsDirective target ls at) (first : List ℕ) (rest way behind : List (List ℕ)) (end : SoFar) → ls ≡ first ∷ rest → rest ≡ way ++ behind → OnlySteps GoesOn empty_head way end → Halts GoesOn end behind → (length way ≡ length d.front) × (end ≡ d.end)
  same_end d first rest way behind end is parts go halt =
      let lines : way ++ behind ≡ d.front ++ d.behind = sym parts ∙ rest_same first d.first rest (d.front ++ d.behind) (sym is ∙ d.parts) in
      one_halt SoFar (List ℕ) GoesOn empty_head end d.end way d.front behind d.behind lines go halt d.begun (stops_halts d.end d.behind d.stops)

  told_by : (kind : TextKind) (r : Result (Head × ℕ) TextFault) → FaultParts target ls at kind → Answers Memory (IsHeadWay target ls) (IsHeadStop target ls) r → IsTold kind r
  told_by kind (Err f) fault (inr none) = subst (λ e. IsTold kind (Err e)) (sym none) tt
  told_by kind (Ok p) (inl (one, is, other)) (first, rest, whole_is, for_target, way) = absurd (other (named first rest whole_is for_target))
  told_by kind (Ok p) (inr (is, d)) (first, rest, whole_is, for_target, (way, behind, parts, count, go)) =
      let same = same_end d first rest way behind (whole p.0) whole_is parts go (whole_halts p.0 behind) in
      absurd (stopped_stage d.end d.behind d.stops (ap (λ (t : SoFar). t.stage) (sym same.1)))
  told_by kind (Err f) (inl (one, is, other)) (inl (inl (told, never))) = subst (λ e. IsTold kind (Err e)) (sym told) (sym one, sym is)
  told_by kind (Err f) (inr (is, d)) (inl (inl (told, never))) = absurd (never (named d.first (d.front ++ d.behind) d.parts d.for_target))
  told_by kind (Err f) (inl (one, is, other)) (inl (inr (first, rest, whole_is, for_target, way))) = absurd (other (named first rest whole_is for_target))
  told_by kind (Err f) (inr (is, d)) (inl (inr (first, rest, whole_is, for_target, (way, behind, end, parts, told, go, stops)))) =
      let same = same_end d first rest way behind end whole_is parts go (stops_halts end behind stops) in
      let place : 1 + length way + 1 ≡ at = omega (arith, same.0, d.at_is) in
      subst (λ e. IsTold kind (Err e)) (sym told) (place, sym is)

  pub way_told : (kind : TextKind) (r : Result (Head × ℕ) TextFault) → Answers Memory (IsHeadWay target ls) (IsHeadStop target ls) r → IsHeadFaultAt target ls at kind → IsTextFaultOr at kind r
  way_told kind r way h = told_by kind r (fault_parts target ls at kind h) way
