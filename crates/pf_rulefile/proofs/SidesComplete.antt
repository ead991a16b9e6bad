-- What is a side by the grammar is read.
use Rattle.std.proofs.Common.{◌≡◌, refl, ap, ◌∙◌, ℕ, zero, suc, ◌+◌, ◌-◌, ◌<◌, ◌≤◌, List, [], ◌∷◌, length, Bool, true, false, arith, ⊎_elim}
use Rattle.std.specs.Prelude.{Option, Some, None, option_map, codes, if◌then◌else◌, not, nat_le, ◌&&◌}
use Rattle.std.specs.List.{list_all}
use Rattle.std.specs.Str.{bytes_eq}
use Rattle.std.proofs.lemmas.Bool.{cases_Bool, and_parts}
use Rattle.std.proofs.lemmas.Bool.Decides.{nat_tests}
use Rattle.std.proofs.lemmas.Slice.Eq.{bytes_eq-Decides}
use Rattle.pf_text.specs.Meaning.Words.{is_name, is_reserved, is_spelled, is_digit, is_letter, is_name_byte}
use Rattle.pf_values.specs.declared.op.Op.{Op}
use Rattle.pf_values.specs.Meaning.Spellings.{op_word}
use Rattle.pf_rules.specs.declared.number.Amount.{Amount}
use Rattle.pf_rules.specs.declared.pattern.PatType.{PatType}
use Rattle.pf_rulefile.specs.declared.word.Shape.{Shape}
use Rattle.pf_rulefile.specs.declared.word.Language.{Language}
use Rattle.pf_rulefile.specs.declared.word.Language.TheVariants.{Operators, Lanes}
use Rattle.pf_rulefile.specs.Meaning.Tokens.{int_of, is_int}
use Rattle.pf_rulefile.specs.Meaning.Words.{ptype_of, closing_type, comparison, is_variable, is_rule_name, op_in, call_ops, shape_of, lane_shape, is_some}
use Rattle.pf_rulefile.specs.Meaning.Grammar.{Tokens, Written, Pair, Phrase, Atom, Product, Sum, Whole, Operands, times_of, sum_op_of, shift_of, no_amount, in_order as grammar_order, sum_sign, unit_of, plain_amount, IsStated, unstated, stated, IsLastAmount, no_last, last_amount, IsSide, named, typed_number, bracketed, cast, called, choice, lane_called, unknown_called, factor, product, term, sum, unshifted, shifted, of_lanes, one_operand, more_operands}
use Rattle.pf_rulefile.specs.Steps.Fronts.{after, sign_by}
use Rattle.pf_rulefile.specs.Steps.NumberReads.{then_read, lin_read, linear_at, exponent_read}
use Rattle.pf_rulefile.specs.Steps.SideReads.{Algebra, made, Read, chain, stated_read, loose_stated, ended_read, pair_link, operands_more, operands_read, in_order, shift_link, arguments_read, loose_more, loose_operands, loose_read, atom_read, product_read, summed_read, whole_read, side_read}
use Rattle.pf_rulefile.proofs.Fronts.{other}
use Rattle.pf_rulefile.proofs.Numbers.{amount_complete, amount_shrink, number_complete, number_shrink, EndsItem}

-- ---- words
abbrev pub variable : List ℕ → Option (List ℕ)
variable w = if is_variable w then Some w else None

-- a word of this table is none of these operators'
no_op : {A : Type 0} (of : List ℕ → Option A) (os : List Op) (w : List ℕ) (x : A) → list_all (λ o. not (is_some (of (op_word o)))) os ≡ true → of w ≡ Some x → op_in os w ≡ None
no_op of [] w x all e = refl
no_op of (o ∷ os) w x all e =
    let parts = and_parts (not (is_some (of (op_word o)))) (list_all (λ o. not (is_some (of (op_word o)))) os) all in
    ⊎_elim
    (λ (h : bytes_eq (op_word o) w ≡ true). absurd (let some : of (op_word o) ≡ Some x = ap of ((bytes_eq-Decides (op_word o) w).0 h) ∙ e in let no : ◌≡◌ {A = Bool} false true = rw some at parts.0 in cc))
    (λ (h : bytes_eq (op_word o) w ≡ false). rw h (no_op of os w x parts.1 e))
    (cases_Bool (bytes_eq (op_word o) w))

-- a variable is no other word
pub record IsOther (v : List ℕ) : Type 0 where
  pub bracket : bytes_eq v (codes "(") ≡ false
  pub brace : bytes_eq v (codes "{") ≡ false
  pub select : bytes_eq v (codes "select") ≡ false
  pub at : bytes_eq v (codes "@") ≡ false
  pub op : op_in call_ops v ≡ None
  pub ptype : ptype_of v ≡ None
  pub unit : unit_of v ≡ None
  pub int : int_of v ≡ None
  pub minus : bytes_eq v (codes "-") ≡ false
  pub w : bytes_eq v (codes "w") ≡ false
  pub k : bytes_eq v (codes "k") ≡ false

pub no_int : (c : ℕ) (w : List ℕ) → is_letter c ≡ true → int_of (c ∷ w) ≡ None
no_int c w h =
    let no : is_digit c ≡ false = grind (arith, nat_tests, h) in
    let none : is_int (c ∷ w) ≡ false = both_false (nat_le 1 (length (c ∷ w))) _ (both_false (nat_le (length (c ∷ w)) 10) _ (rw no refl)) in
    rw none refl
  where
    both_false : (a b : Bool) → b ≡ false → (a && b) ≡ false
    both_false true b h = h
    both_false false b h = refl

name_first : (w : List ℕ) → is_name w ≡ true → int_of w ≡ None
unfolding is_name
name_first [] h = absurd (cc)
name_first (c ∷ w) h =
    let spelled = (and_parts (is_spelled (c ∷ w)) (nat_le (length (c ∷ w)) 32) (and_parts (is_spelled (c ∷ w) && nat_le (length (c ∷ w)) 32) (not (is_reserved (c ∷ w))) h).0).0 in
    no_int c w (and_parts (is_letter c) (list_all is_name_byte w) spelled).0

pub variable_name : (w : List ℕ) → is_variable w ≡ true → is_name w ≡ true
variable_name w h =
    (and_parts (is_name w) (not (is_some (ptype_of w))) (and_parts (is_rule_name w) (not (bytes_eq w (codes "w"))) (and_parts (is_rule_name w && not (bytes_eq w (codes "w"))) (not (bytes_eq w (codes "k"))) h).0).0).0

pub other_word : (w : List ℕ) → is_variable w ≡ true → IsOther w
unfolding is_name is_reserved
other_word w h =
    let e : variable w ≡ Some w = rw h refl in
    record {
      bracket = other variable w (codes "(") w e refl;
      brace = other variable w (codes "{") w e refl;
      select = other variable w (codes "select") w e refl;
      at = other variable w (codes "@") w e refl;
      op = no_op variable call_ops w w refl e;
      ptype = rw (other variable w (codes "u1") w e refl, other variable w (codes "u2") w e refl, other variable w (codes "u4") w e refl, other variable w (codes "i1") w e refl, other variable w (codes "i2") w e refl, other variable w (codes "i4") w e refl) refl;
      unit = rw (other variable w (codes "w") w e refl, other variable w (codes "k") w e refl) refl;
      int = name_first w (variable_name w h);
      minus = other variable w (codes "-") w e refl;
      w = other variable w (codes "w") w e refl;
      k = other variable w (codes "k") w e refl;
    }

-- ---- what lane operations begin with
record Begins (ts : Tokens) : Type 0 where
  minus : after (codes "-") ts ≡ None
  lin : (m : Bool) → lin_read m ts ≡ None
  exponent : (most d : ℕ) → exponent_read most d ts ≡ None
  stated : loose_stated ts ≡ Some (None, ts)

no_linear : (most d : ℕ) (ts : Tokens) → Begins ts → linear_at most d ts ≡ None
no_linear most zero ts b = refl
no_linear zero (suc d) ts b = refl
no_linear (suc most) (suc d) ts b = rw b.minus (rw (b.lin false) refl)

lane_begins : {d : ℕ} {t : Written} {ts us : Tokens} → IsSide d (Atom Lanes) t ts us → Begins ts
lane_begins (named {w = w} h) =
    let o = other_word w h in
    record { minus = rw o.minus refl; lin = λ m. rw (o.unit, o.int) refl; exponent = λ most d. rw o.bracket (rw (word_amount w o) refl); stated = rw o.ptype refl }
  where
    word_amount : (w : List ℕ) → IsOther w → plain_amount w ≡ None
    word_amount w o = rw (o.w, o.k) (rw o.int refl)
lane_begins (typed_number n e) = record { minus = refl; lin = λ m. refl; exponent = λ most d. refl; stated = refl }
lane_begins (bracketed {ts = ts} (of_lanes i)) = let b = lane_begins i in record { minus = refl; lin = λ m. refl; exponent = λ most d. no_linear most d ts b; stated = refl }
lane_begins (lane_called e s i k) = record { minus = refl; lin = λ m. refl; exponent = λ most d. refl; stated = refl }
lane_begins (unknown_called e w s i k) = record { minus = refl; lin = λ m. refl; exponent = λ most d. refl; stated = refl }

-- ---- phrases get shorter
last_shrink : (d : ℕ) (has : Bool) (k : Amount) (ts us : Tokens) → IsLastAmount d has k ts us → length us ≤ length ts
last_shrink d has k ts us no_last = omega arith
last_shrink d has k ts us (last_amount {ts = vs} i) = let less : length us < length vs = amount_shrink d k vs us i in omega (arith, less)

stated_shrink : (states : Bool) (to : Option PatType) (ts us : Tokens) → IsStated states to ts us → length us ≤ length ts
stated_shrink states to ts us unstated = omega arith
stated_shrink states to ts us (stated e) = omega arith

pub side_shrink : {d : ℕ} {r : Phrase} {t : Written} {ts us : Tokens} → IsSide d r t ts us → length us < length ts
side_shrink (named h) = omega arith
side_shrink {d} {us = us} (typed_number {n = n} {w = w} {ts = ts} i e) = let less : length (w ∷ us) < length ts = number_shrink d n ts (w ∷ us) i in omega (arith, less)
side_shrink {us = us} (bracketed {ts = ts} i) = let less : length (codes ")" ∷ us) < length ts = side_shrink i in omega (arith, less)
side_shrink {us = us} (cast {ts = ts} e i) = let less : length (codes ")" ∷ us) < length ts = side_shrink i in omega (arith, less)
side_shrink {us = ws} (called {d = d} {o = o} {to = to} {k = k} {ts = ts} {us = us} {vs = vs} e s i l) = let a : length us ≤ length ts = stated_shrink _ to ts us s in let b : length vs < length us = side_shrink i in let c : length (codes ")" ∷ ws) ≤ length vs = last_shrink d _ k vs (codes ")" ∷ ws) l in omega (arith, a, b, c)
side_shrink {us = zs} (choice {w = w} {ts = ts} {us = us} {vs = vs} {ws = ws} ia c ib ix iy) =
    let a : length (w ∷ us) < length ts = side_shrink ia in let b : length (codes "," ∷ vs) < length us = side_shrink ib in let c : length (codes "," ∷ ws) < length vs = side_shrink ix in let d : length (codes ")" ∷ zs) < length ws = side_shrink iy in omega (arith, a, b, c, d)
side_shrink {us = ws} (lane_called {d = d} {to = to} {k = k} {ts = ts} {us = us} {vs = vs} e s i l) = let a : length us ≤ length ts = stated_shrink _ to ts us s in let b : length vs < length us = side_shrink i in let c : length (codes ")" ∷ ws) ≤ length vs = last_shrink d _ k vs (codes ")" ∷ ws) l in omega (arith, a, b, c)
side_shrink {us = ws} (unknown_called {d = d} {to = to} {k = k} {ts = ts} {us = us} {vs = vs} e w s i l) = let a : length us ≤ length ts = stated_shrink _ to ts us s in let b : length vs < length us = side_shrink i in let c : length (codes ")" ∷ ws) ≤ length vs = last_shrink d _ k vs (codes ")" ∷ ws) l in omega (arith, a, b, c)
side_shrink (factor i) = side_shrink i
side_shrink {ts = ts} {us = vs} (product {w = w} {us = us} i e j) = let a : length (w ∷ us) < length ts = side_shrink i in let b : length vs < length us = side_shrink j in omega (arith, a, b)
side_shrink (term i) = side_shrink i
side_shrink {ts = ts} {us = vs} (sum {w = w} {us = us} i e j) = let a : length (w ∷ us) < length ts = side_shrink i in let b : length vs < length us = side_shrink j in omega (arith, a, b)
side_shrink (unshifted i) = side_shrink i
side_shrink {d} {ts = ts} {us = vs} (shifted {w = w} {k = k} {us = us} i e j) = let a : length (w ∷ us) < length ts = side_shrink i in let b : length vs < length us = amount_shrink d k us vs j in omega (arith, a, b)
side_shrink (of_lanes i) = side_shrink i
side_shrink (one_operand i) = side_shrink i
side_shrink {ts = ts} {us = vs} (more_operands {us = us} i j) = let a : length (codes "," ∷ us) < length ts = side_shrink i in let b : length vs < length us = side_shrink j in omega (arith, a, b)

-- ---- chains
-- reading comes to a chain
record Comes (P : Type 0) (sign : Tokens → Option (Op × Tokens)) (link : P → Op → Tokens → Read P) (read : Read P) (p : P) (us : Tokens) : Type 0 where
  left : ℕ
  room : length us < left
  is : read ≡ chain sign link left p us

module _ (P : Type 0) (link : P → Op → Tokens → Read P) (read : Read P) (p : P) where
  comes_end : (sign : Tokens → Option (Op × Tokens)) (us : Tokens) → Comes P sign link read p us → sign us ≡ None → read ≡ Some (p, us)
  comes_end sign us c none = by c.left c.room c.is
    where
      by : (left : ℕ) → length us < left → read ≡ chain sign link left p us → read ≡ Some (p, us)
      by zero h e = absurd (omega (arith, h))
      by (suc left) h e = e ∙ rw none refl

  comes_link : (table : List ℕ → Option Op) (w : List ℕ) (o : Op) (us vs : Tokens) (q : P) → Comes P (sign_by table) link read p (w ∷ us) → table w ≡ Some o → link p o us ≡ Some (q, vs) → length vs < length us → Comes P (sign_by table) link read q vs
  comes_link table w o us vs q c h l less = by c.left c.room c.is
    where
      by : (left : ℕ) → length (w ∷ us) < left → read ≡ chain (sign_by table) link left p (w ∷ us) → Comes P (sign_by table) link read q vs
      by zero r e = absurd (omega (arith, r))
      by (suc left) r e = record { left = left; room = omega (arith, r, less); is = e ∙ rw h (rw l refl) }

-- no expression goes on here
pub record Ends (us : Tokens) : Type 0 where
  pub times : sign_by times_of us ≡ None
  pub sum : sign_by sum_op_of us ≡ None
  pub shift : sign_by shift_of us ≡ None

comparison_ends : (w : List ℕ) (x : Op × Bool) (us : Tokens) → comparison w ≡ Some x → Ends (w ∷ us)
comparison_ends w x us e =
    record {
      times = rw (other comparison w (codes "*") x e refl) refl;
      sum = rw (other comparison w (codes "+") x e refl, other comparison w (codes "-") x e refl) refl;
      shift = rw (other comparison w (codes "<<") x e refl, other comparison w (codes ">>") x e refl) refl;
    }

last_ends : {d : ℕ} {has : Bool} {k : Amount} {ts us : Tokens} → IsLastAmount d has k ts (codes ")" ∷ us) → Ends ts
last_ends no_last = record { times = refl; sum = refl; shift = refl }
last_ends (last_amount i) = record { times = refl; sum = refl; shift = refl }

closing_ends : (w : List ℕ) (ty : PatType) (us : Tokens) → closing_type w ≡ Some ty → EndsItem (w ∷ us) × (sign_by sum_sign (w ∷ us) ≡ None)
closing_ends w ty us e = (
  record { times = rw (other closing_type w (codes "*") ty e refl) refl; power = rw (other closing_type w (codes "^") ty e refl) refl },
  rw (other closing_type w (codes "+") ty e refl, other closing_type w (codes "-") ty e refl) refl,
)

twice : {A B C : Type 0} (r : Option (A × Tokens)) (f : A → Tokens → Option (B × Tokens)) (g : B → Tokens → Option C) → then_read r (λ x us. then_read (f x us) g) ≡ then_read (then_read r f) g
twice None f g = refl
twice (Some p) f g = refl

module _ (P : Type 0) (alg : Algebra P) (most : ℕ) where
  abbrev inner : Language → ℕ → Tokens → Read P
  inner l d ts = side_read alg most l d ts

  abbrev LooseRead : Language → ℕ → Written → Tokens → Tokens → Type 0
  LooseRead Operators d t ts us = Unit {0}
  LooseRead Lanes d t ts us = (left : ℕ) × (length us < left) × (then_read (inner Lanes (suc d) ts) (loose_more alg most d (inner Lanes (suc d)) most) ≡ loose_more alg most d (inner Lanes (suc d)) left (made alg t) us)

  record OperandsRead (d : ℕ) (l : Language) (n : ℕ) (t : Written) (ts us : Tokens) : Type 0 where
    known : (m all : ℕ) → all ≡ n + m → operands_read alg (inner l (suc d)) all ts ≡ operands_more alg (inner l (suc d)) m (made alg t) us
    loose : LooseRead l d t ts us

  abbrev Reads : ℕ → Phrase → Written → Tokens → Tokens → Type 0
  Reads d (Atom l) t ts us = atom_read alg most l (inner l d) d ts ≡ Some (made alg t, us)
  Reads d Product t ts us = Comes P (sign_by times_of) (pair_link alg (atom_read alg most Operators (inner Operators d) d)) (product_read alg most (inner Operators d) d ts) (made alg t) us
  Reads d Sum t ts us = sign_by times_of us ≡ None → Comes P (sign_by sum_op_of) (pair_link alg (product_read alg most (inner Operators d) d)) (summed_read alg most (inner Operators d) d ts) (made alg t) us
  Reads d (Whole Operators) t ts us = sign_by times_of us ≡ None → sign_by sum_op_of us ≡ None → Comes P (sign_by shift_of) (shift_link alg most d) (whole_read alg most (inner Operators d) d ts) (made alg t) us
  Reads d (Whole Lanes) t ts us = atom_read alg most Lanes (inner Lanes d) d ts ≡ Some (made alg t, us)
  Reads d (Operands l n) t ts us = Ends us → OperandsRead d l n t ts us

  side_done : (d : ℕ) (l : Language) (t : Written) (ts us : Tokens) → Reads d (Whole l) t ts us → Ends us → inner l (suc d) ts ≡ Some (made alg t, us)
  side_done d Operators t ts us r e = comes_end P (shift_link alg most d) (whole_read alg most (inner Operators d) d ts) (made alg t) (sign_by shift_of) us (r e.times e.sum) e.shift
  side_done d Lanes t ts us r e = r

  ordered : (swap : Bool) (a b : Written) → in_order alg swap (made alg a) (made alg b) ≡ made alg (grammar_order swap a b)
  ordered true a b = refl
  ordered false a b = refl

  arguments_done : (d : ℕ) (l : Language) (shape : Shape) (to : Option PatType) (k : Amount) (t : Written) (ts us vs ws : Tokens) → length ts ≤ most → IsStated shape.states to ts us → length vs < length us →
      OperandsRead d l shape.more t us vs → IsLastAmount d shape.amount k vs (codes ")" ∷ ws) → arguments_read alg most (suc d - 1) (inner l (suc d)) shape (codes "(" ∷ ts) ≡ Some (((to, k), made alg t), ws)
  arguments_done d l shape to k t ts us vs ws h s less o a =
      let down : suc d - 1 ≡ d = omega arith in
      let none : shape.more ≡ shape.more + zero = omega arith in
      let some : length us ≤ length ts = stated_shrink shape.states to ts us s in
      rw (stated_done shape.states to ts us s) (rw (o.known zero shape.more none) (rw down (rw (ended_done d shape.amount k vs ws a (omega (arith, h, less, some))) refl)))
    where
      stated_done : (states : Bool) (to : Option PatType) (ts us : Tokens) → IsStated states to ts us → stated_read states ts ≡ Some (to, us)
      stated_done states to ts us unstated = refl
      stated_done states to ts us (stated e) = rw e refl

      ended_done : (d : ℕ) (has : Bool) (k : Amount) (vs ws : Tokens) → IsLastAmount d has k vs (codes ")" ∷ ws) → length vs ≤ most → ended_read most d has vs ≡ Some (k, ws)
      ended_done d has k vs ws no_last h = refl
      ended_done d has k vs ws (last_amount {ts = xs} i) h = rw (amount_complete d k xs (codes ")" ∷ ws) i most (omega (arith, h))) refl

  -- ---- operands of lane operations that there aren't
  first_loose : (l : Language) (d : ℕ) (t : Written) (ts us : Tokens) → inner l (suc d) ts ≡ Some (made alg t, us) → length us < most → LooseRead l d t ts us
  first_loose Operators d t ts us done less = tt
  first_loose Lanes d t ts us done less = (most, less, rw done refl)

  abbrev BeginsIn : Language → Tokens → Type 0
  BeginsIn Operators ts = Unit {0}
  BeginsIn Lanes ts = Begins ts

  whole_begin : {d : ℕ} {t : Written} {ts us : Tokens} (l : Language) → IsSide d (Whole l) t ts us → BeginsIn l ts
  whole_begin Operators i = tt
  whole_begin Lanes (of_lanes i) = lane_begins i

  next_loose : (l : Language) (d : ℕ) (p q : Written) (ts us vs : Tokens) → LooseRead l d p ts (codes "," ∷ us) → BeginsIn l us → inner l (suc d) us ≡ Some (made alg q, vs) → length vs < length us → LooseRead l d (Pair p q) ts vs
  next_loose Operators d p q ts us vs o b done less = tt
  next_loose Lanes d p q ts us vs o b done less = by o.0 o.1 o.2
    where
      by : (left : ℕ) → length (codes "," ∷ us) < left → then_read (inner Lanes (suc d) ts) (loose_more alg most d (inner Lanes (suc d)) most) ≡ loose_more alg most d (inner Lanes (suc d)) left (made alg p) (codes "," ∷ us) → LooseRead Lanes d (Pair p q) ts vs
      by zero r e = absurd (omega (arith, r))
      by (suc left) r e = (left, omega (arith, r, less), e ∙ rw (b.exponent most d) (rw done refl))

  operands_begin : {d n : ℕ} {t : Written} {ts us : Tokens} → IsSide d (Operands Lanes n) t ts us → Begins ts
  operands_begin (one_operand (of_lanes i)) = lane_begins i
  operands_begin (more_operands i j) = operands_begin i

  loose_done : (d : ℕ) (states : Bool) (to : Option PatType) {has : Bool} (k : Amount) (p : Written) (ts us vs ws : Tokens) → IsStated states to ts us → Begins us → LooseRead Lanes d p us vs → IsLastAmount d has k vs (codes ")" ∷ ws) → length vs ≤ most →
      loose_read alg most (suc d - 1) (inner Lanes (suc d)) (codes "(" ∷ ts) ≡ Some (alg.lane None to k (made alg p), ws)
  loose_done d states to k p ts us vs ws s b o a h =
      let down : suc d - 1 ≡ d = omega arith in rw down (rw (stated_done states to ts us s b) (operands_done o.0 o.1 o.2))
    where
      stated_done : (states : Bool) (to : Option PatType) (ts us : Tokens) → IsStated states to ts us → Begins us → loose_stated ts ≡ Some (to, us)
      stated_done states to ts us unstated b = b.stated
      stated_done states to ts us (stated e) b = rw e refl

      last_done : {has : Bool} (k : Amount) (vs ws : Tokens) (left : ℕ) → length vs < left → length vs ≤ most → IsLastAmount d has k vs (codes ")" ∷ ws) → loose_more alg most d (inner Lanes (suc d)) left (made alg p) vs ≡ Some ((k, made alg p), codes ")" ∷ ws)
      last_done k vs ws zero r h a = absurd (omega (arith, r))
      last_done k vs ws (suc left) r h no_last = refl
      last_done k vs ws (suc left) r h (last_amount {ts = xs} i) = rw (amount_complete d k xs (codes ")" ∷ ws) i most (omega (arith, h))) refl

      operands_done : (left : ℕ) → length vs < left → then_read (inner Lanes (suc d) us) (loose_more alg most d (inner Lanes (suc d)) most) ≡ loose_more alg most d (inner Lanes (suc d)) left (made alg p) vs → loose_operands alg most d (inner Lanes (suc d)) to us ≡ Some (alg.lane None to k (made alg p), ws)
      operands_done left r e = twice (inner Lanes (suc d) us) (loose_more alg most d (inner Lanes (suc d)) most) (λ q vs. option_map (λ ws. (alg.lane None to q.0 q.1, ws)) (after (codes ")") vs)) ∙ rw (e ∙ last_done k vs ws left r h a) refl

  -- ---- each phrase is read
  reads : {d : ℕ} {r : Phrase} {t : Written} {ts us : Tokens} → IsSide d r t ts us → length ts ≤ most → Reads d r t ts us
  reads {d} {us = us} (named {l = l} {w = w} e) h = by l
    where
      by : (l : Language) → atom_read alg most l (inner l d) d (w ∷ us) ≡ Some (alg.name w, us)
      by Operators = let o = other_word w e in rw (o.bracket, o.brace) (rw (o.select, o.op, o.ptype) (rw e refl))
      by Lanes = let o = other_word w e in rw (o.bracket, o.brace) (rw o.at (rw e refl))
  reads {d} {us = us} (typed_number {n = n} {w = w} {ty = ty} {ts = ts} i e) h =
      let f = closing_ends w ty us e in rw (number_complete d n ts (w ∷ us) i f.0 f.1 most (omega (arith, h))) (rw e refl)
  reads {us = us} (bracketed {d = d} {l = l} {p = p} {ts = ts} i) h = rw (side_done d l p ts (codes ")" ∷ us) (reads i (omega (arith, h))) (record { times = refl; sum = refl; shift = refl })) refl
  reads {us = us} (cast {d = d} {w = w} {ty = ty} {p = p} {ts = ts} e i) h =
      rw (other ptype_of w (codes "(") ty e refl, other ptype_of w (codes "{") ty e refl) (rw (other ptype_of w (codes "select") ty e refl, no_op ptype_of call_ops w ty refl e, e)
      (rw (side_done d Operators p ts (codes ")" ∷ us) (reads i (omega (arith, h))) (record { times = refl; sum = refl; shift = refl })) refl))
  reads {us = ws} (called {d = d} {w = w} {o = o} {to = to} {k = k} {p = p} {ts = ts} {us = us} {vs = vs} e s i a) h =
      let some : length us ≤ length ts = stated_shrink _ to ts us s in
      rw (other (op_in call_ops) w (codes "(") o e refl, other (op_in call_ops) w (codes "{") o e refl) (rw (other (op_in call_ops) w (codes "select") o e refl, e)
      (rw (arguments_done d Operators (shape_of o) to k p ts us vs ws (omega (arith, h)) s (side_shrink i) (reads i (omega (arith, h, some)) (last_ends a)) a) refl))
  reads {us = zs} (choice {d = d} {w = w} {o = o} {swap = swap} {a = a} {b = b} {x = x} {y = y} {ts = ts} {us = us} {vs = vs} {ws = ws} ia c ib ix iy) h =
      let sa : length (w ∷ us) < length ts = side_shrink ia in let sb : length (codes "," ∷ vs) < length us = side_shrink ib in let sx : length (codes "," ∷ ws) < length vs = side_shrink ix in
      rw (side_done d Operators a ts (w ∷ us) (reads ia (omega (arith, h))) (comparison_ends w (o, swap) us c)) (rw c
      (rw (side_done d Operators b us (codes "," ∷ vs) (reads ib (omega (arith, h, sa))) (record { times = refl; sum = refl; shift = refl }))
      (rw (side_done d Operators x vs (codes "," ∷ ws) (reads ix (omega (arith, h, sa, sb))) (record { times = refl; sum = refl; shift = refl }))
      (rw (side_done d Operators y ws (codes ")" ∷ zs) (reads iy (omega (arith, h, sa, sb, sx))) (record { times = refl; sum = refl; shift = refl })) (rw (ordered swap a b) refl)))))
  reads {us = ws} (lane_called {d = d} {w = w} {o = o} {to = to} {k = k} {p = p} {ts = ts} {us = us} {vs = vs} e s i a) h =
      let some : length us ≤ length ts = stated_shrink _ to ts us s in
      rw e (rw (arguments_done d Lanes (lane_shape o) to k p ts us vs ws (omega (arith, h)) s (side_shrink i) (reads i (omega (arith, h, some)) (last_ends a)) a) refl)
  reads {us = ws} (unknown_called {d = d} {w = w} {states = states} {to = to} {k = k} {p = p} {ts = ts} {us = us} {vs = vs} e word s i a) h =
      let some : length us ≤ length ts = stated_shrink _ to ts us s in
      let less : length vs < length us = side_shrink i in
      rw (e, word) (loose_done d states to k p ts us vs ws s (operands_begin i) (reads i (omega (arith, h, some)) (last_ends a)).loose a (omega (arith, h, some, less)))
  reads {d} {t} {ts} {us} (factor i) h = record { left = most; room = (let less : length us < length ts = side_shrink i in omega (arith, h, less)); is = rw (reads i h) refl }
  reads {d} {ts = ts} {us = vs} (product {w = w} {o = o} {p = p} {q = q} {us = us} i e j) h =
      let sp : length (w ∷ us) < length ts = side_shrink i in
      comes_link P (pair_link alg (atom_read alg most Operators (inner Operators d) d)) (product_read alg most (inner Operators d) d ts) (made alg p) times_of w o us vs (alg.node o None no_amount (alg.join (made alg p) (made alg q)))
      (reads i h) e (rw (reads j (omega (arith, h, sp))) refl) (side_shrink j)
  reads {d} {t} {ts} {us} (term i) h = λ none.
      record {
        left = most;
        room = (let less : length us < length ts = side_shrink i in omega (arith, h, less));
        is = rw (comes_end P (pair_link alg (atom_read alg most Operators (inner Operators d) d)) (product_read alg most (inner Operators d) d ts) (made alg t) (sign_by times_of) us (reads i h) none) refl;
      }
  reads {d} {ts = ts} {us = vs} (sum {w = w} {o = o} {p = p} {q = q} {us = us} i e j) h = λ none.
      let sp : length (w ∷ us) < length ts = side_shrink i in
      comes_link P (pair_link alg (product_read alg most (inner Operators d) d)) (summed_read alg most (inner Operators d) d ts) (made alg p) sum_op_of w o us vs (alg.node o None no_amount (alg.join (made alg p) (made alg q)))
      (reads i h (rw (other sum_op_of w (codes "*") o e refl) refl)) e
      (rw (comes_end P (pair_link alg (atom_read alg most Operators (inner Operators d) d)) (product_read alg most (inner Operators d) d us) (made alg q) (sign_by times_of) vs (reads j (omega (arith, h, sp))) none) refl) (side_shrink j)
  reads {d} {t} {ts} {us} (unshifted i) h = λ times sums.
      record {
        left = most;
        room = (let less : length us < length ts = side_shrink i in omega (arith, h, less));
        is = rw (comes_end P (pair_link alg (product_read alg most (inner Operators d) d)) (summed_read alg most (inner Operators d) d ts) (made alg t) (sign_by sum_op_of) us (reads i h times) sums) refl;
      }
  reads {d} {ts = ts} {us = vs} (shifted {w = w} {o = o} {k = k} {p = p} {us = us} i e j) h = λ times sums.
      let sp : length (w ∷ us) < length ts = side_shrink i in
      comes_link P (shift_link alg most d) (whole_read alg most (inner Operators d) d ts) (made alg p) shift_of w o us vs (alg.node o None k (made alg p))
      (reads i h (rw (other shift_of w (codes "*") o e refl) refl) (rw (other shift_of w (codes "+") o e refl, other shift_of w (codes "-") o e refl) refl)) e
      (rw (amount_complete d k us vs j most (omega (arith, h, sp))) refl) (amount_shrink d k us vs j)
  reads (of_lanes i) h = reads i h
  reads {d} {t = t} {ts = ts} {us = us} (one_operand {l = l} i) h = λ ends.
      let done : inner l (suc d) ts ≡ Some (made alg t, us) = side_done d l t ts us (reads i h) ends in
      record { known = λ m all same. rw done (let less : all ≡ m = omega (arith, same) in rw less refl); loose = first_loose l d t ts us done (let less : length us < length ts = side_shrink i in omega (arith, h, less)) }
  reads {d} {ts = ts} {us = vs} (more_operands {n = n} {l = l} {p = p} {q = q} {us = us} i j) h = λ ends.
      let sp : length (codes "," ∷ us) < length ts = side_shrink i in
      let o = reads i h (record { times = refl; sum = refl; shift = refl }) in
      let done : inner l (suc d) us ≡ Some (made alg q, vs) = side_done d l q us vs (reads j (omega (arith, h, sp))) ends in
      record { known = λ m all same. o.known (suc m) all (omega (arith, same)) ∙ rw done refl; loose = next_loose l d p q ts us vs o.loose (whole_begin l j) done (side_shrink j) }

  pub side_complete : (d : ℕ) (l : Language) (t : Written) (ts us : Tokens) → IsSide d (Whole l) t ts us → length ts ≤ most → Ends us → side_read alg most l (suc d) ts ≡ Some (made alg t, us)
  side_complete d l t ts us i h e = side_done d l t ts us (reads i h) e
