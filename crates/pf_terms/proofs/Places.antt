-- What the reader keeps from token to token, and where a fault stands.
use Rattle.std.proofs.Common.{◌≡◌, refl, sym, ap, ◌∙◌, subst, ℕ, ◌+◌, ◌≤◌, ◌<◌, Bool, true, false, List, [], ◌∷◌, ◌++◌, length, take, drop, get_or, append_assoc, arith, zero, suc, pos, length-append}
use Rattle.std.specs.Prelude.{Option, Some, None, if◌then◌else◌}
use Rattle.std.proofs.lemmas.List.{take-append-drop, get_or_default, drop_more, length-take-le, length-map}
use Rattle.std.proofs.Math.Seq.{take-append_seam}
use Rattle.pf_ints.specs.declared.lane.LaneType.{LaneType}
use Rattle.pf_ints.specs.declared.lane.Bits.{Bits}
use Rattle.pf_ints.specs.declared.lane.Bits.TheVariants.{Eight, Sixteen, ThirtyTwo}
use Rattle.pf_terms.specs.declared.parse.symbol.ParserSymbol.{ParserSymbol}
use Rattle.pf_terms.specs.declared.parse.symbol.ParserSymbol.TheVariants.{Atom, Column, Row}
use Rattle.pf_terms.specs.declared.token.TokenKind.{TokenKind}
use Rattle.pf_terms.specs.declared.token.TokenKind.TheVariants.{Number, Typed, Long, Minus}
use Rattle.pf_terms.specs.declared.token.Token.{Token}
use Rattle.pf_terms.specs.declared.parse.syntax_tree.SyntaxTree.{SyntaxTree}
use Rattle.pf_terms.specs.declared.parse.build.Build.{Build}
use Rattle.pf_terms.specs.declared.parse.reader.Reader.{Reader}
use Rattle.pf_ints.specs.Meaning.Lanes.{is_in}
use Rattle.pf_values.specs.Meaning.Terms.{typed_as}
use Rattle.pf_terms.specs.Meaning.Grammar.{IsSpelled, Whole, Spells}
use Rattle.pf_terms.specs.Steps.Parsing.{parser_step, taker, parser_after, built, parser_run, then_on, finished, expression_symbols}
use Rattle.pf_terms.specs.Meaning.Tokens.{kinds, token_place}
use Rattle.pf_terms.specs.Meaning.SyntaxTrees.{small_number, IsNegative, IsFaultPlace, at_minus, first}
use Rattle.pf_terms.specs.Steps.Reading.{minus_of, is_own, Takes, tree_of_build, fault_place, IsTreeOf, IsFaultOf}
use Rattle.pf_terms.proofs.Complete.{fresh, holding, spelled_built}
use Rattle.pf_terms.proofs.Sound.{run_spelled}
use Rattle.pf_terms.proofs.Viable.{completion, completes}
use Rattle.pf_terms.proofs.FirstFaults.{Stands, stands_first, stands_next, fault_here, fault_at_end, built_at_end, shallow_at_end}
use Rattle.pf_terms.proofs.Signs.{is_laid, laid_step, is_number, is_number_of, own_taker, number_comes}

-- token n - 1 is a minus, and this symbol took it
pub record IsTaken (ks : List TokenKind) (n : ℕ) (x : ParserSymbol) : Type 0 where
  pub m : ℕ
  pub next : n ≡ m + 1
  pub sign : Minus ≡ get_or ks m Minus
  pub symbols : List ParserSymbol
  pub then_symbols : List ParserSymbol
  pub build : Build
  pub depth : ℕ
  pub stands : Stands ks m symbols build depth
  pub laid : is_laid symbols ≡ true
  pub takes : taker symbols Minus ≡ Some x
  pub steps : parser_step symbols Minus ≡ Some then_symbols

-- what took the minus in front of token n, or None where no minus stands there
abbrev pub Behind : List TokenKind → ℕ → Option ParserSymbol → Type 0
Behind ks n (Some x) = IsTaken ks n x
Behind ks n None = (m : ℕ) → n ≡ m + 1 → m < length ks → Minus ≡ get_or ks m Minus → ⊥

pub record Keeps (ks : List TokenKind) (n : ℕ) (r : Reader) : Type 0 where
  pub stands : Stands ks n r.symbols r.build r.depth
  pub laid : is_laid r.symbols ≡ true
  pub minus : Behind ks n r.minus

pub keeps_first : (ks : List TokenKind) (r : Reader) → r.symbols ≡ expression_symbols → r.build.frames ≡ [] → r.build.ready ≡ None → r.depth ≡ 0 → r.minus ≡ None → Keeps ks 0 r
keeps_first ks r s f e d m =
    record {
      stands = rw (s, f, e, d) (stands_first ks);
      laid = rw s refl;
      minus = subst (Behind ks 0) (sym m) (λ j is below sign. absurd (omega arith));
    }

-- ---- the next token
other_sign : (ks : List TokenKind) (n : ℕ) (k : TokenKind) → n < length ks → k ≡ get_or ks n k → (k ≡ Minus → ⊥) → Behind ks (n + 1) None
other_sign ks n k below at other m is under sign =
    let same : n ≡ m = omega arith in
    other (at ∙ get_or_default ks n k Minus below ∙ ap (λ i. get_or ks i Minus) same ∙ sym sign)

behind_next : (k : TokenKind) (ks : List TokenKind) (n : ℕ) (x : ParserSymbol) (s t : List ParserSymbol) (b : Build) (d : ℕ) → n < length ks → k ≡ get_or ks n k → Stands ks n s b d → is_laid s ≡ true →
    parser_step s k ≡ Some t → taker s k ≡ Some x → Behind ks (n + 1) (minus_of x k)
behind_next Minus ks n x s t b d below at stands laid steps takes =
    record { m = n; next = refl; sign = at; symbols = s; then_symbols = t; build = b; depth = d; stands = stands; laid = laid; takes = takes; steps = steps }
behind_next k ks n x s t b d below at stands laid steps takes = other_sign ks n k below at (λ e. absurd (cc))

pub keeps_next : (ks : List TokenKind) (n : ℕ) (k : TokenKind) (r q : Reader) → n < length ks → k ≡ get_or ks n k → Takes true r k q → Keeps ks n r → Keeps ks (n + 1) q
keeps_next ks n k r q below at h keeps =
    record {
      stands = stands_next ks n k r.symbols q.symbols r.build q.build r.depth q.depth below at h.1 h.3 h.4 keeps.stands;
      laid = laid_step r.symbols q.symbols k h.1 keeps.laid;
      minus = subst (Behind ks (n + 1)) (sym h.5) (behind_next k ks n h.0 r.symbols q.symbols r.build r.depth below at keeps.stands keeps.laid h.1 h.2);
    }

-- ---- a number's own minus
zero_by : (s : Bool) (b : Bits) → is_in (typed_as s b) (pos 0) ≡ true
zero_by true Eight = refl
zero_by true Sixteen = refl
zero_by true ThirtyTwo = refl
zero_by false Eight = refl
zero_by false Sixteen = refl
zero_by false ThirtyTwo = refl

zero_after : (t : LaneType) → parser_after Atom (Typed (pos 0) t) ≡ Some []
zero_after t = ap (λ b. if b then Some [] else None) (zero_by t.signed t.bits)

two_more : (ks : List TokenKind) (m : ℕ) (j k : TokenKind) → m + 1 < length ks → j ≡ get_or ks m j → k ≡ get_or ks (m + 1) k → ks ≡ take m ks ++ j ∷ k ∷ drop (m + 1 + 1) ks
two_more ks m j k below at_j at_k =
    let here : drop m ks ≡ j ∷ drop (m + 1) ks = drop_more ks m j (omega arith) ∙ ap (λ i. i ∷ drop (m + 1) ks) (sym at_j) in
    let there : drop (m + 1) ks ≡ k ∷ drop (m + 1 + 1) ks = drop_more ks (m + 1) k below ∙ ap (λ i. i ∷ drop (m + 1 + 1) ks) (sym at_k) in
    sym (take-append-drop m ks) ∙ ap (λ l. take m ks ++ l) (here ∙ ap (λ l. j ∷ l) there)

negative_with : (ks : List TokenKind) (n : ℕ) (x : ParserSymbol) (k small : TokenKind) → small_number k ≡ Some small → is_number_of x small ≡ true → parser_after x small ≡ Some [] → IsTaken ks n x → n < length ks → k ≡ get_or ks n k → IsNegative ks n
negative_with ks n x k small like fits comes h below at =
    let v = number_comes h.symbols x small fits h.takes comes in
    let r = completes v.0 (built h.symbols small h.build) in
    let at_next : k ≡ get_or ks (h.m + 1) k = at ∙ ap (λ i. get_or ks i k) h.next in
    let under : h.m + 1 < length ks = omega (arith, h.next) in
    record {
      front = take h.m ks;
      rest = drop (h.m + 1 + 1) ks;
      number = k;
      small = small;
      tokens = two_more ks h.m Minus k under h.sign at_next;
      here = omega (arith, h.next, length-take-le h.m ks (omega arith));
      like = like;
      own = (
        completion v.0,
        run_spelled ((take h.m ks ++ small ∷ []) ++ completion v.0) (fresh []) r.0
            (ap (λ l. parser_run l expression_symbols (fresh [])) (append_assoc (take h.m ks) (small ∷ []) (completion v.0)) ∙ h.stands.onward (small ∷ completion v.0)
            ∙ ap (then_on (λ u. parser_run (completion v.0) u (built h.symbols small h.build))) v.1 ∙ r.1),
      );
    }

negative : (minus : Option ParserSymbol) (k : TokenKind) (ks : List TokenKind) (n : ℕ) → is_own minus k ≡ true → Behind ks n minus → n < length ks → k ≡ get_or ks n k → IsNegative ks n
negative (Some Atom) (Typed i t) ks n own h below at = negative_with ks n Atom (Typed i t) (Typed (pos 0) t) refl refl (zero_after t) h below at
negative (Some Atom) (Long (Some t)) ks n own h below at = negative_with ks n Atom (Long (Some t)) (Typed (pos 0) t) refl refl (zero_after t) h below at
negative (Some Column) (Long None) ks n own h below at = negative_with ks n Column (Long None) (Number (pos 0)) refl refl refl h below at
negative (Some Row) (Long None) ks n own h below at = negative_with ks n Row (Long None) (Number (pos 0)) refl refl refl h below at
negative _ _ ks n own h below at = absurd (let never : ◌≡◌ {A = Bool} false true = own in cc)

small_is_number : (k small : TokenKind) → small_number k ≡ Some small → is_number small ≡ true
small_is_number (Typed i t) small e = let same : Typed (pos 0) t ≡ small = cc in subst (λ j. is_number j ≡ true) same refl
small_is_number (Long (Some t)) small e = let same : Typed (pos 0) t ≡ small = cc in subst (λ j. is_number j ≡ true) same refl
small_is_number (Long None) small e = let same : Number (pos 0) ≡ small = cc in subst (λ j. is_number j ≡ true) same refl
small_is_number _ small e = absurd (cc)

own_typed : (x : ParserSymbol) (t : LaneType) → is_number_of x (Typed (pos 0) t) ≡ true → x ≡ Atom
own_typed Atom t h = refl
own_typed _ t h = absurd (let never : ◌≡◌ {A = Bool} false true = h in cc)

own_plain : (x : ParserSymbol) → is_number_of x (Number (pos 0)) ≡ true → is_own (Some x) (Long None) ≡ true
own_plain Column h = refl
own_plain Row h = refl
own_plain _ h = absurd (let never : ◌≡◌ {A = Bool} false true = h in cc)

own_by : (x : ParserSymbol) (k small : TokenKind) → small_number k ≡ Some small → is_number_of x small ≡ true → is_own (Some x) k ≡ true
own_by x (Typed i t) small e h =
    let same : Typed (pos 0) t ≡ small = cc in
    subst (λ y. is_own (Some y) (Typed i t) ≡ true) (sym (own_typed x t (subst (λ j. is_number_of x j ≡ true) (sym same) h))) refl
own_by x (Long (Some t)) small e h =
    let same : Typed (pos 0) t ≡ small = cc in
    subst (λ y. is_own (Some y) (Long (Some t)) ≡ true) (sym (own_typed x t (subst (λ j. is_number_of x j ≡ true) (sym same) h))) refl
own_by x (Long None) small e h = let same : Number (pos 0) ≡ small = cc in own_plain x (subst (λ j. is_number_of x j ≡ true) (sym same) h)
own_by x _ small e h = absurd (cc)

-- the parts of tokens that have such a number
front_is : (ks front rest : List TokenKind) (j : TokenKind) → ks ≡ front ++ j ∷ rest → (take (length front) ks ≡ front) × (get_or ks (length front) j ≡ j) × (length front < length ks)
front_is ks front rest j is =
    (ap (take (length front)) is ∙ take-append_seam front (j ∷ rest), ap (λ l. get_or l (length front) j) is ∙ get_seam front rest j, omega (arith, ap length is, length-append front (j ∷ rest))) where
      get_seam : (xs ys : List TokenKind) (i : TokenKind) → get_or (xs ++ i ∷ ys) (length xs) i ≡ i
      get_seam [] ys i = refl
      get_seam (x ∷ xs) ys i = get_seam xs ys i

took : (o : Option (List ParserSymbol)) (ks : List TokenKind) (s : List ParserSymbol) (k : TokenKind) (b r : Build) → parser_step s k ≡ o → then_on (λ u. parser_run ks u (built s k b)) o ≡ Some r → (v : List ParserSymbol) × (parser_step s k ≡ Some v)
took (Some v) ks s k b r e h = (v, e)
took None ks s k b r e h = absurd (cc)

taken_own : (ks : List TokenKind) (n : ℕ) (x : ParserSymbol) (k : TokenKind) → IsTaken ks n x → n < length ks → k ≡ get_or ks n k → IsNegative ks n → is_own (Some x) k ≡ true
taken_own ks n x k h below at g =
    let f = front_is ks g.front (g.number ∷ g.rest) Minus g.tokens in
    let same : length g.front ≡ h.m = omega (arith, h.next, g.here) in
    let front : take h.m ks ≡ g.front = ap (λ i. take i ks) (sym same) ∙ f.0 in
    let longer : ks ≡ (g.front ++ Minus ∷ []) ++ g.number ∷ g.rest = g.tokens ∙ sym (append_assoc g.front (Minus ∷ []) (g.number ∷ g.rest)) in
    let i = front_is ks (g.front ++ Minus ∷ []) g.rest g.number longer in
    let count : length (g.front ++ Minus ∷ []) ≡ n = omega (arith, g.here, length-append g.front (Minus ∷ [])) in
    let number : k ≡ g.number = at ∙ get_or_default ks n k g.number below ∙ ap (λ j. get_or ks j g.number) (sym count) ∙ i.1 in
    let built_all = spelled_built ((g.front ++ g.small ∷ []) ++ g.own.0) g.own.1.0 g.own.1.1 in
    let onward : parser_run (g.small ∷ g.own.0) h.symbols h.build ≡ Some (holding [] g.own.1.0) =
    sym (h.stands.onward (g.small ∷ g.own.0)) ∙ ap (λ l. parser_run (l ++ g.small ∷ g.own.0) expression_symbols (fresh [])) front ∙ ap (λ l. parser_run l expression_symbols (fresh [])) (sym (append_assoc g.front (g.small ∷ []) g.own.0)) ∙ built_all in
    let v = took (parser_step h.symbols g.small) g.own.0 h.symbols g.small h.build (holding [] g.own.1.0) refl onward in
    let like : small_number k ≡ Some g.small = ap small_number number ∙ g.like in
    own_by x k g.small like (own_taker h.symbols h.then_symbols v.0 x g.small (small_is_number k g.small like) h.laid h.takes h.steps v.1)

not_negative : (minus : Option ParserSymbol) (k : TokenKind) (ks : List TokenKind) (n : ℕ) → is_own minus k ≡ false → Behind ks n minus → n < length ks → k ≡ get_or ks n k → IsNegative ks n → ⊥
not_negative (Some x) k ks n own h below at g = absurd (let yes = taken_own ks n x k h below at g in let never : ◌≡◌ {A = Bool} true false = sym yes ∙ own in cc)
not_negative None k ks n own h below at g =
    let f = front_is ks g.front (g.number ∷ g.rest) Minus g.tokens in
    h (length g.front) g.here f.2 (sym f.1)

-- ---- the same of tokens
kind_at : (ts : List Token) (n : ℕ) (t : Token) → n < length ts → get_or (kinds ts) n t.kind ≡ (get_or ts n t).kind
kind_at [] n t below = absurd (omega arith)
kind_at (u ∷ ts) zero t below = refl
kind_at (u ∷ ts) (suc n) t below = kind_at ts n t (omega arith)

kind_here : (ts : List Token) (n : ℕ) (t : Token) → n < length ts → t ≡ get_or ts n t → t.kind ≡ get_or (kinds ts) n t.kind
kind_here ts n t below at = ap (λ u. u.kind) at ∙ sym (kind_at ts n t below)

count_is : (ts : List Token) → length (kinds ts) ≡ length ts
count_is ts = length-map ts (λ t. t.kind)

pub keeps_token : (ts : List Token) (n : ℕ) (t : Token) (r q : Reader) (fits : Bool) → n < length ts → t ≡ get_or ts n t → Takes fits r t.kind q → fits ≡ true → Keeps (kinds ts) n r → Keeps (kinds ts) (n + 1) q
keeps_token ts n t r q fits below at h is keeps =
    keeps_next (kinds ts) n t.kind r q (omega (arith, count_is ts)) (kind_here ts n t below at) (subst (λ b. Takes b r t.kind q) is h) keeps

place_by_sign : (ts : List Token) (n : ℕ) (own : Bool) → (own ≡ true → IsNegative (kinds ts) n) → (own ≡ false → IsNegative (kinds ts) n → ⊥) → IsFaultPlace ts n (fault_place ts n own)
place_by_sign ts n true if_own if_not = at_minus ts n (if_own refl)
place_by_sign ts n false if_own if_not = first ts n (if_not refl)

pub token_fault : (ts : List Token) (n : ℕ) (t : Token) (r q : Reader) (fits own : Bool) (place : ℕ) → n < length ts → t ≡ get_or ts n t → Takes fits r t.kind q → fits ≡ false → own ≡ is_own q.minus t.kind →
    place ≡ fault_place ts n own → Keeps (kinds ts) n r → IsFaultOf ts place
token_fault ts n t r q fits own place below at h is owns stands keeps =
    let under : n < length (kinds ts) = omega (arith, count_is ts) in
    let kind = kind_here ts n t below at in
    let failed = subst (λ b. Takes b r t.kind q) is h in
    let minus = subst (Behind (kinds ts) n) (sym failed.1) keeps.minus in
    record {
      n = n;
      first = fault_here (kinds ts) n t.kind r.symbols r.build r.depth under kind failed.0 keeps.stands;
      stands =
          subst (IsFaultPlace ts n) (sym stands)
          (place_by_sign ts n own (λ yes. negative q.minus t.kind (kinds ts) n (sym owns ∙ yes) minus under kind) (λ no. not_negative q.minus t.kind (kinds ts) n (sym owns ∙ no) minus under kind));
    }

-- ---- the end
ready_is : (o : Option Build) (b : Build) → o ≡ Some b → tree_of_build o ≡ b.ready
ready_is o b e = ap tree_of_build e

some_build : (o : Option Build) (d : SyntaxTree) → Some d ≡ tree_of_build o → (b : Build) × (o ≡ Some b)
some_build (Some b) d e = (b, refl)
some_build None d e = absurd (cc)

pub tokens_drafted : (ts : List Token) (n : ℕ) (r : Reader) (d : SyntaxTree) → n ≤ length ts → length ts ≤ n → Some d ≡ tree_of_build (finished r.symbols r.build) → Keeps (kinds ts) n r → IsTreeOf ts d
tokens_drafted ts n r d within past e keeps =
    let all : n ≡ length (kinds ts) = omega (arith, count_is ts) in
    let b = some_build (finished r.symbols r.build) d e in
    let runs = built_at_end (kinds ts) n r.symbols r.build r.depth all keeps.stands in
    let spelled = run_spelled (kinds ts) (fresh []) b.0 (runs ∙ b.1) in
    let found = spelled_built (kinds ts) spelled.0 spelled.1 in
    let same : ◌≡◌ {A = Option SyntaxTree} (Some d) (Some spelled.0) = e ∙ ap tree_of_build (sym runs ∙ found) in
    let tree : spelled.0 ≡ d = cc in
    record { spelled = subst (Spells Whole (kinds ts)) tree spelled.1; shallow = shallow_at_end (kinds ts) n r.symbols r.build r.depth all keeps.stands }

pub tokens_end : (ts : List Token) (n : ℕ) (r : Reader) (place : ℕ) → n ≤ length ts → length ts ≤ n → None ≡ tree_of_build (finished r.symbols r.build) → place ≡ token_place ts (length ts) → Keeps (kinds ts) n r → IsFaultOf ts place
tokens_end ts n r place within past e stands keeps =
    let all : n ≡ length (kinds ts) = omega (arith, count_is ts) in
    let count : n ≡ length ts = omega arith in
    let runs = built_at_end (kinds ts) n r.symbols r.build r.depth all keeps.stands in
    let never : IsSpelled (kinds ts) → ⊥ = λ h.
    let found = spelled_built (kinds ts) h.0 h.1 in
    let same : ◌≡◌ {A = Option SyntaxTree} None (Some h.0) = e ∙ ap tree_of_build (sym runs ∙ found) in
    absurd (cc) in
    record {
      n = n;
      first = fault_at_end (kinds ts) n r.symbols r.build r.depth all never keeps.stands;
      stands =
          subst (IsFaultPlace ts n) (ap (token_place ts) count ∙ sym stands)
          (first ts n (λ g. let f = ap length g.tokens in absurd (omega (arith, f, all, g.here, length-append g.front (Minus ∷ g.number ∷ g.rest)))));
    }
