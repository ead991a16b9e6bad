-- Whether a minus is a number's own.
use Rattle.std.proofs.Common.{◌≡◌, refl, sym, ap, ◌∙◌, subst, Bool, true, false, List, [], ◌∷◌, ◌++◌}
use Rattle.std.specs.Prelude.{Option, Some, None, if◌then◌else◌, not, ◌&&◌, ◌||◌}
use Rattle.pf_terms.specs.declared.parse.symbol.ParserSymbol.{ParserSymbol}
use Rattle.pf_terms.specs.declared.parse.symbol.ParserSymbol.TheVariants.{Atom, Factors, Summands, Shifts, Offsets, Column, Row, NegatedColumn, NegatedRow, Digits, Negated, TypeName, Comparison, Open as OpenSymbol, Close as CloseSymbol, CloseSquare as CloseSquareSymbol, Comma as CommaSymbol, End}
use Rattle.pf_terms.specs.declared.parse.symbol.CallShape.{CallShape}
use Rattle.pf_terms.specs.declared.parse.symbol.CallShape.TheVariants.{One, Two, OneAndAmount, TwoAndAmount, TypeAndOne, NoCall}
use Rattle.pf_terms.specs.declared.token.TokenKind.{TokenKind}
use Rattle.pf_terms.specs.declared.token.TokenKind.TheVariants.{Name, TypeWord, Number, Typed, Word, Choose, Open, OpenSquare, Plus, Minus, Times, ShiftLeft, ShiftRight}
use Rattle.pf_terms.specs.Meaning.Grammar.{call_shape}
use Rattle.pf_terms.proofs.Complete.{passes_by}
use Rattle.pf_terms.proofs.Viable.{is_plain, plain_stops}
use Rattle.pf_terms.specs.Steps.Parsing.{parser_step, taker, meets, parser_after, after_atom, call_symbols, followed, passes, may_be_none, goes_on}

-- the symbols that a number may begin, and those behind which one of them may stand
abbrev pub is_starter : ParserSymbol → Bool
is_starter Atom = true
is_starter Column = true
is_starter Row = true
is_starter NegatedColumn = true
is_starter NegatedRow = true
is_starter Digits = true
is_starter Negated = true
is_starter _ = false

abbrev pub is_opener : ParserSymbol → Bool
is_opener OpenSymbol = true
is_opener CommaSymbol = true
is_opener Comparison = true
is_opener _ = false

abbrev pub may_follow : ParserSymbol → List ParserSymbol → Bool
may_follow x [] = true
may_follow x (y ∷ s) = is_opener x || not (is_starter y)

-- no symbol that a number may begin stands behind another than an opener
abbrev pub is_laid : List ParserSymbol → Bool
is_laid [] = true
is_laid (x ∷ s) = may_follow x s && is_laid s

both_left : (a b : Bool) → (a && b) ≡ true → a ≡ true
both_left true b h = refl
both_left false b h = h

both_right : (a b : Bool) → (a && b) ≡ true → b ≡ true
both_right true b h = h
both_right false b h = absurd (let never : ◌≡◌ {A = Bool} false true = h in cc)

-- the rest of what is laid is laid
laid_rest : (x : ParserSymbol) (s : List ParserSymbol) → is_laid (x ∷ s) ≡ true → is_laid s ≡ true
laid_rest x s h = both_right (may_follow x s) (is_laid s) h

-- symbols that are no openers may change places
same_follow : (x y : ParserSymbol) (s : List ParserSymbol) → is_opener x ≡ is_opener y → may_follow x s ≡ may_follow y s
same_follow x y [] same = refl
same_follow x y (z ∷ s) same = ap (λ b. b || not (is_starter z)) same

laid_alike : (x y : ParserSymbol) (s : List ParserSymbol) → is_opener x ≡ is_opener y → is_laid (x ∷ s) ≡ true → is_laid (y ∷ s) ≡ true
laid_alike x y s same h = ap (λ b. b && is_laid s) (sym (same_follow x y s same)) ∙ h

same_list : (a b : List ParserSymbol) → ◌≡◌ {A = Option (List ParserSymbol)} (Some a) (Some b) → a ≡ b
same_list a b e = cc

-- what is to come then, by the table
laid_as : (told new s : List ParserSymbol) → ◌≡◌ {A = Option (List ParserSymbol)} (Some told) (Some new) → is_laid (told ++ s) ≡ true → is_laid (new ++ s) ≡ true
laid_as told new s e h = subst (λ l. is_laid (l ++ s) ≡ true) (same_list told new e) h

laid_if : (b : Bool) (new s : List ParserSymbol) → (if b then Some [] else None) ≡ Some new → is_laid s ≡ true → is_laid (new ++ s) ≡ true
laid_if true new s e h = laid_as [] new s e h
laid_if false new s e h = absurd (cc)

laid_call : (shape : CallShape) (new s : List ParserSymbol) → call_symbols shape ≡ Some new → is_laid (End ∷ s) ≡ true → is_laid (new ++ s) ≡ true
laid_call One new s e h = laid_as _ new s e h
laid_call Two new s e h = laid_as _ new s e h
laid_call OneAndAmount new s e h = laid_as _ new s e h
laid_call TwoAndAmount new s e h = laid_as _ new s e h
laid_call TypeAndOne new s e h = laid_as _ new s e h
laid_call NoCall new s e h = absurd (cc)

laid_atom : (k : TokenKind) (new s : List ParserSymbol) → after_atom k ≡ Some new → is_laid (Atom ∷ s) ≡ true → is_laid (new ++ s) ≡ true
laid_atom (Typed n t) new s e h = laid_if _ new s e (laid_rest Atom s h)
laid_atom Minus new s e h = laid_as (Negated ∷ []) new s e (laid_alike Atom Negated s refl h)
laid_atom (Name w) new s e h = laid_as (Offsets ∷ End ∷ []) new s e (laid_alike Atom End s refl h)
laid_atom (TypeWord t) new s e h = laid_call One new s e (laid_alike Atom End s refl h)
laid_atom Open new s e h = laid_as _ new s e (laid_alike Atom CloseSymbol s refl h)
laid_atom (Word o) new s e h = laid_call (call_shape o) new s e (laid_alike Atom End s refl h)
laid_atom Choose new s e h = laid_as _ new s e (laid_alike Atom End s refl h)
laid_atom _ new s e h = absurd (cc)

laid_after : (x : ParserSymbol) (k : TokenKind) (new s : List ParserSymbol) → parser_after x k ≡ Some new → is_laid (x ∷ s) ≡ true → is_laid (new ++ s) ≡ true
laid_after Atom k new s e h = laid_atom k new s e h
laid_after Factors Times new s e h = laid_as _ new s e h
laid_after Summands Plus new s e h = laid_as _ new s e h
laid_after Summands Minus new s e h = laid_as _ new s e h
laid_after Shifts ShiftLeft new s e h = laid_as _ new s e h
laid_after Shifts ShiftRight new s e h = laid_as _ new s e h
laid_after Offsets OpenSquare new s e h = laid_as _ new s e (laid_alike Offsets CloseSquareSymbol s refl h)
laid_after Column Minus new s e h = laid_as _ new s e (laid_alike Column NegatedColumn s refl h)
laid_after Row Minus new s e h = laid_as _ new s e (laid_alike Row NegatedRow s refl h)
laid_after x k new s e h = laid_if (meets x k) new s e (laid_rest x s h)

laid_step_by : (x : ParserSymbol) (s t : List ParserSymbol) (k : TokenKind) (p : Bool) → (if p then parser_step s k else followed s (parser_after x k)) ≡ Some t → is_laid (x ∷ s) ≡ true → (parser_step s k ≡ Some t → is_laid t ≡ true) → is_laid t ≡ true
laid_step_by x s t k true e h ih = ih e
laid_step_by x s t k false e h ih = by (parser_after x k) refl e where
  by : (o : Option (List ParserSymbol)) → parser_after x k ≡ o → followed s o ≡ Some t → is_laid t ≡ true
  by (Some new) is e = subst (λ l. is_laid l ≡ true) (same_list (new ++ s) t e) (laid_after x k new s is h)
  by None is e = absurd (cc)

pub laid_step : (s t : List ParserSymbol) (k : TokenKind) → parser_step s k ≡ Some t → is_laid s ≡ true → is_laid t ≡ true
laid_step [] t k e h = absurd (cc)
laid_step (x ∷ s) t k e h = laid_step_by x s t k (passes x k) e h (λ f. laid_step s t k f (laid_rest x s h))

-- ---- numbers
abbrev pub is_number : TokenKind → Bool
is_number (Number n) = true
is_number (Typed n t) = true
is_number _ = false

-- a number of this kind may stand where the symbol takes a minus
abbrev pub is_number_of : ParserSymbol → TokenKind → Bool
is_number_of Atom (Typed n t) = true
is_number_of Column (Number n) = true
is_number_of Row (Number n) = true
is_number_of _ _ = false

number_plain : (k : TokenKind) → is_number k ≡ true → is_plain k ≡ true
number_plain (Number n) h = refl
number_plain (Typed n t) h = refl
number_plain _ h = absurd (let never : ◌≡◌ {A = Bool} false true = h in cc)

not_begun : (z : ParserSymbol) (k : TokenKind) → is_number k ≡ true → is_starter z ≡ false → parser_after z k ≡ None
not_begun Atom k h i = absurd (let never : ◌≡◌ {A = Bool} true false = i in cc)
not_begun Column k h i = absurd (let never : ◌≡◌ {A = Bool} true false = i in cc)
not_begun Row k h i = absurd (let never : ◌≡◌ {A = Bool} true false = i in cc)
not_begun NegatedColumn k h i = absurd (let never : ◌≡◌ {A = Bool} true false = i in cc)
not_begun NegatedRow k h i = absurd (let never : ◌≡◌ {A = Bool} true false = i in cc)
not_begun Digits k h i = absurd (let never : ◌≡◌ {A = Bool} true false = i in cc)
not_begun Negated k h i = absurd (let never : ◌≡◌ {A = Bool} true false = i in cc)
not_begun _ (Number n) h i = refl
not_begun _ (Typed n t) h i = refl
not_begun _ _ h i = absurd (let never : ◌≡◌ {A = Bool} false true = h in cc)

none_opens : (z : ParserSymbol) → may_be_none z ≡ true → is_opener z ≡ false
none_opens OpenSymbol h = absurd (let never : ◌≡◌ {A = Bool} false true = h in cc)
none_opens CommaSymbol h = absurd (let never : ◌≡◌ {A = Bool} false true = h in cc)
none_opens Comparison h = absurd (let never : ◌≡◌ {A = Bool} false true = h in cc)
none_opens _ h = refl

no_starter : (y z : ParserSymbol) (s : List ParserSymbol) → is_opener y ≡ false → is_laid (y ∷ z ∷ s) ≡ true → is_starter z ≡ false
no_starter y z s closed h = by (is_starter z) (sym (ap (λ b. b || not (is_starter z)) closed) ∙ both_left (may_follow y (z ∷ s)) (is_laid (z ∷ s)) h) where
  by : (b : Bool) → not b ≡ true → b ≡ false
  by true e = absurd (let never : ◌≡◌ {A = Bool} false true = e in cc)
  by false e = refl

-- behind another symbol than an opener no number comes
nothing_starts : (y : ParserSymbol) (s v : List ParserSymbol) (k : TokenKind) → is_number k ≡ true → is_opener y ≡ false → is_laid (y ∷ s) ≡ true → parser_step s k ≡ Some v → ⊥
nothing_starts y [] v k number closed h e = absurd (cc)
nothing_starts y (z ∷ s) v k number closed h e = by (passes z k) refl e (λ none f. nothing_starts z s v k number (none_opens z none) (laid_rest y (z ∷ s) h) f) where
  by : (p : Bool) → passes z k ≡ p → (if p then parser_step s k else followed s (parser_after z k)) ≡ Some v → (may_be_none z ≡ true → parser_step s k ≡ Some v → ⊥) → ⊥
  by true is e ih = ih (both_left (may_be_none z) (not (goes_on z k)) is) e
  by false is e ih =
      let nothing : followed s (parser_after z k) ≡ None = ap (followed s) (not_begun z k number (no_starter y z s closed h)) in
      let never : ◌≡◌ {A = Option (List ParserSymbol)} None (Some v) = sym nothing ∙ e in
      absurd (cc)

number_here : (x : ParserSymbol) (s u v : List ParserSymbol) (k : TokenKind) → is_number k ≡ true → is_laid (x ∷ s) ≡ true → passes x Minus ≡ false → followed s (parser_after x Minus) ≡ Some u → parser_step (x ∷ s) k ≡ Some v → is_number_of x k ≡ true
number_here Atom s u v (Typed n t) number h p e f = refl
number_here Column s u v (Number n) number h p e f = refl
number_here Row s u v (Number n) number h p e f = refl
number_here Summands s u v (Typed n t) number h p e f = absurd (nothing_starts Summands s v (Typed n t) refl refl h f)
number_here Summands s u v (Number n) number h p e f = absurd (nothing_starts Summands s v (Number n) refl refl h f)
number_here Atom s u v (Number n) number h p e f = absurd (cc)
number_here Column s u v (Typed n t) number h p e f = absurd (cc)
number_here Row s u v (Typed n t) number h p e f = absurd (cc)
number_here Factors s u v k number h p e f = absurd (let never : ◌≡◌ {A = Bool} true false = p in cc)
number_here Shifts s u v k number h p e f = absurd (let never : ◌≡◌ {A = Bool} true false = p in cc)
number_here Offsets s u v k number h p e f = absurd (let never : ◌≡◌ {A = Bool} true false = p in cc)
number_here End s u v k number h p e f = absurd (let never : ◌≡◌ {A = Bool} true false = p in cc)
number_here NegatedColumn s u v k number h p e f = absurd (cc)
number_here NegatedRow s u v k number h p e f = absurd (cc)
number_here Digits s u v k number h p e f = absurd (cc)
number_here Negated s u v k number h p e f = absurd (cc)
number_here TypeName s u v k number h p e f = absurd (cc)
number_here Comparison s u v k number h p e f = absurd (cc)
number_here OpenSymbol s u v k number h p e f = absurd (cc)
number_here CloseSymbol s u v k number h p e f = absurd (cc)
number_here CloseSquareSymbol s u v k number h p e f = absurd (cc)
number_here CommaSymbol s u v k number h p e f = absurd (cc)
number_here _ s u v _ number h p e f = absurd (let never : ◌≡◌ {A = Bool} false true = number in cc)

-- where a number and its minus may begin, the minus is taken as a number's
pub own_taker : (s u v : List ParserSymbol) (x : ParserSymbol) (k : TokenKind) → is_number k ≡ true → is_laid s ≡ true → taker s Minus ≡ Some x → parser_step s Minus ≡ Some u → parser_step s k ≡ Some v → is_number_of x k ≡ true
own_taker [] u v x k number h takes e f = absurd (cc)
own_taker (y ∷ s) u v x k number h takes e f = by (passes y Minus) refl takes e (λ i j l. own_taker s u v x k number (laid_rest y s h) i j l) where
  by : (p : Bool) → passes y Minus ≡ p → (if p then taker s Minus else Some y) ≡ Some x → (if p then parser_step s Minus else followed s (parser_after y Minus)) ≡ Some u →
      (taker s Minus ≡ Some x → parser_step s Minus ≡ Some u → parser_step s k ≡ Some v → is_number_of x k ≡ true) → is_number_of x k ≡ true
  by true is takes e ih =
      let none : may_be_none y ≡ true = both_left (may_be_none y) (not (goes_on y Minus)) is in
      let also : passes y k ≡ true = passes_by y k none (plain_stops y k (number_plain k number)) in
      ih takes e (sym (ap (λ p. if p then parser_step s k else followed s (parser_after y k)) also) ∙ f)
  by false is takes e ih =
      let same : y ≡ x = cc in
      subst (λ z. is_number_of z k ≡ true) same (number_here y s u v k number h is e f)

of_plain : (x : ParserSymbol) (k : TokenKind) → is_number_of x k ≡ true → is_plain k ≡ true
of_plain Atom (Typed n t) h = refl
of_plain Column (Number n) h = refl
of_plain Row (Number n) h = refl
of_plain _ _ h = absurd (let never : ◌≡◌ {A = Bool} false true = h in cc)

comes_here : (x : ParserSymbol) (s : List ParserSymbol) (k : TokenKind) → is_number_of x k ≡ true → parser_after x k ≡ Some [] → parser_step (x ∷ s) k ≡ Some s
comes_here Atom s (Typed n t) h e = ap (followed s) e
comes_here Column s (Number n) h e = ap (followed s) e
comes_here Row s (Number n) h e = ap (followed s) e
comes_here _ s _ h e = absurd (let never : ◌≡◌ {A = Bool} false true = h in cc)

-- where a minus is taken as a number's, such a number may come without it, if it is in its type
pub number_comes : (s : List ParserSymbol) (x : ParserSymbol) (k : TokenKind) → is_number_of x k ≡ true → taker s Minus ≡ Some x → (parser_after x k ≡ Some []) → (v : List ParserSymbol) × (parser_step s k ≡ Some v)
number_comes [] x k fits takes after_is = absurd (cc)
number_comes (y ∷ s) x k fits takes after_is = by (passes y Minus) refl takes (λ i. number_comes s x k fits i after_is) where
  by : (p : Bool) → passes y Minus ≡ p → (if p then taker s Minus else Some y) ≡ Some x → (taker s Minus ≡ Some x → (v : List ParserSymbol) × (parser_step s k ≡ Some v)) → (v : List ParserSymbol) × (parser_step (y ∷ s) k ≡ Some v)
  by true is takes ih =
      let none : may_be_none y ≡ true = both_left (may_be_none y) (not (goes_on y Minus)) is in
      let also : passes y k ≡ true = passes_by y k none (plain_stops y k (of_plain x k fits)) in
      let r = ih takes in
      (r.0, ap (λ p. if p then parser_step s k else followed s (parser_after y k)) also ∙ r.1)
  by false is takes ih =
      let same : y ≡ x = cc in
      (s, subst (λ z. parser_step (z ∷ s) k ≡ Some s) (sym same) (comes_here x s k fits after_is))
