-- What is read of a side is one by the grammar.
use Rattle.std.proofs.Common.{◌≡◌, refl, sym, ap, ◌∙◌, subst, ℕ, zero, suc, ◌+◌, ◌-◌, List, [], ◌∷◌, Bool, true, false, arith, ⊎_elim}
use Rattle.std.specs.Prelude.{Option, Some, None, option_map, codes, if◌then◌else◌}
use Rattle.std.specs.Str.{bytes_eq}
use Rattle.std.proofs.lemmas.Bool.{cases_Bool}
use Rattle.std.proofs.lemmas.Slice.Eq.{bytes_eq-Decides}
use Rattle.pf_values.specs.declared.op.Op.{Op}
use Rattle.pf_values.specs.declared.op.Op.TheVariants.{Cast}
use Rattle.pf_laneops.specs.declared.lane_name.LaneName.{LaneName}
use Rattle.pf_rules.specs.declared.number.Amount.{Amount}
use Rattle.pf_rules.specs.declared.pattern.PatType.{PatType}
use Rattle.pf_rulefile.specs.declared.word.Shape.{Shape}
use Rattle.pf_rulefile.specs.declared.word.Language.{Language}
use Rattle.pf_rulefile.specs.declared.word.Language.TheVariants.{Operators, Lanes}
use Rattle.pf_rulefile.specs.Meaning.Words.{ptype_of, closing_type, comparison, is_variable, op_in, call_ops, shape_of, is_word, lane_in, lane_ops, lane_shape}
use Rattle.pf_rulefile.specs.Meaning.Grammar.{Tokens, IsAmount, IsNumber, Written, Name, Typed, Pair, Node, Lane, Phrase, Atom, Product, Sum, Whole, Operands, times_of, sum_op_of, shift_of, no_amount, over, in_order as grammar_order, IsStated, unstated, stated, IsLastAmount, no_last, last_amount, IsSide, named, typed_number, bracketed, cast, called, choice, lane_called, unknown_called, factor, product, term, sum, unshifted, shifted, of_lanes, one_operand, more_operands}
use Rattle.pf_rulefile.specs.Steps.Fronts.{after, sign_by}
use Rattle.pf_rulefile.specs.Steps.NumberReads.{then_read, exponent_read, number_read}
use Rattle.pf_rulefile.specs.Steps.SideReads.{Algebra, made, Read, chain_on, chain, stated_by, stated_read, begun_read, loose_stated_by, loose_stated, amount_read, ended_read, pair_link, closed, operands_more, operands_read, in_order, choice_read, cast_read, name_read, shift_link, typed_read, arguments_read, loose_next, loose_on, loose_more, loose_operands, loose_read, call_read, lane_read, word_by, operators_by, lane_by, lane_call, lanes_by, atom_of, atom_read, product_read, summed_read, language_read, side_read}
use Rattle.pf_rulefile.proofs.Fronts.{given, then_is, behind_is, and_then_is, map_is, after_is, sign_is}
use Rattle.pf_rulefile.proofs.Numbers.{amount_sound, number_sound}

-- a test that holds of what is read
pub tested : {A : Type 0} (b : Bool) (x : A) (q : A) → (if b then Some x else None) ≡ Some q → (b ≡ true) × (x ≡ q)
tested true x q e = (refl, cc)
tested false x q e = absurd (cc)

pub stated_sound : (states : Bool) (ts : Tokens) (q : Option PatType × Tokens) → stated_read states ts ≡ Some q → IsStated states q.0 ts q.1
stated_sound false ts q e = given (λ (x : Option PatType × Tokens). IsStated false x.0 ts x.1) (None, ts) q e unstated
stated_sound true [] q e = absurd (cc)
stated_sound true (t ∷ ts) q e = by (ptype_of t) refl e
  where
    by : (ty : Option PatType) → ptype_of t ≡ ty → stated_by ty (after (codes ",") ts) ≡ Some q → IsStated true q.0 (t ∷ ts) q.1
    by None h e = absurd (cc)
    by (Some ty) h e =
        let m = map_is (after (codes ",") ts) (λ vs. (Some ty, vs)) q e in
        subst (λ (x : Option PatType × Tokens). IsStated true x.0 (t ∷ ts) x.1) m.2 (subst (λ (vs : Tokens). IsStated true (Some ty) (t ∷ vs) m.0) (sym (after_is (codes ",") ts m.0 m.1)) (stated h))

loose_stated_sound : (ts : Tokens) (q : Option PatType × Tokens) → loose_stated ts ≡ Some q → (states : Bool) × IsStated states q.0 ts q.1
loose_stated_sound [] q e = absurd (cc)
loose_stated_sound (t ∷ ts) q e = by (ptype_of t) refl e
  where
    by : (ty : Option PatType) → ptype_of t ≡ ty → loose_stated_by ty (t ∷ ts) ts ≡ Some q → (states : Bool) × IsStated states q.0 (t ∷ ts) q.1
    by None h e = (false, given (λ (x : Option PatType × Tokens). IsStated false x.0 (t ∷ ts) x.1) (None, t ∷ ts) q e unstated)
    by (Some ty) h e = (true, stated_sound true (t ∷ ts) q (rw h e))

-- an amount, and the bracket behind it
ended_sound : (most d : ℕ) (has : Bool) (ts : Tokens) (q : Amount × Tokens) → ended_read most d has ts ≡ Some q → IsLastAmount d has q.0 ts (codes ")" ∷ q.1)
ended_sound most d has ts q e =
    let k = then_is (amount_read most d has ts) (λ k us. option_map (λ vs. (k, vs)) (after (codes ")") us)) q e in
    let v = map_is (after (codes ")") k.0.1) (λ vs. (k.0.0, vs)) q k.2 in
    subst (λ (x : Amount × Tokens). IsLastAmount d has x.0 ts (codes ")" ∷ x.1)) v.2 (subst (λ (us : Tokens). IsLastAmount d has k.0.0 ts us) (after_is (codes ")") k.0.1 v.0 v.1) (by has k.0 k.1))
  where
    by : (has : Bool) (q : Amount × Tokens) → amount_read most d has ts ≡ Some q → IsLastAmount d has q.0 ts q.1
    by false q e = given (λ (x : Amount × Tokens). IsLastAmount d false x.0 ts x.1) (no_amount, ts) q e no_last
    by true q e =
        let u = behind_is (after (codes ",") ts) (exponent_read most d) q e in
        subst (λ (us : Tokens). IsLastAmount d true q.0 us q.1) (sym (after_is (codes ",") ts u.0 u.1)) (last_amount (amount_sound most d u.0 q u.2))

module _ (P : Type 0) (alg : Algebra P) where
  -- what was read is made of such a phrase
  abbrev pub Made : ℕ → Phrase → Tokens → P × Tokens → Type 0
  Made d r ts q = (t : Written) × IsSide d r t ts q.1 × (q.0 ≡ made alg t)

  -- ---- chains
  module _ (d : ℕ) (r : Phrase) (table : List ℕ → Option Op) (link : P → Op → Tokens → Read P)
      (step : (t : Written) (w : List ℕ) (o : Op) (ts us : Tokens) (q : P × Tokens) → IsSide d r t ts (w ∷ us) → table w ≡ Some o → link (made alg t) o us ≡ Some q → Made d r ts q) where
    -- what is read behind a link
    abbrev Onward : ℕ → Type 0
    Onward most = (t : Written) (p : P) (ts us : Tokens) (q : P × Tokens) → p ≡ made alg t → IsSide d r t ts us → chain (sign_by table) link most p us ≡ Some q → Made d r ts q

    chain_on_sound : (most : ℕ) → Onward most → (t : Written) (p : P) (ts us : Tokens) (q : P × Tokens) → p ≡ made alg t → IsSide d r t ts us → (s : Option (Op × Tokens)) → sign_by table us ≡ s →
        chain_on link (chain (sign_by table) link most) p us s ≡ Some q → Made d r ts q
    chain_on_sound most next t p ts us q h i None n e = given (λ (x : P × Tokens). Made d r ts x) (p, us) q e (t, i, h)
    chain_on_sound most next t p ts us q h i (Some s) n e =
        let w = sign_is table us s n in
        let l = then_is (link p s.0 s.1) (chain (sign_by table) link most) q e in
        let m = step t w.0 s.0 ts s.1 l.0 (subst (λ (vs : Tokens). IsSide d r t ts vs) w.1 i) w.2 (rw (sym h) l.1) in
        next m.0 l.0.0 ts l.0.1 q m.2 m.1 l.2

    chain_sound : (most : ℕ) → Onward most
    chain_sound zero t p ts us q h i e = absurd (cc)
    chain_sound (suc most) t p ts us q h i e = chain_on_sound most (chain_sound most) t p ts us q h i (sign_by table us) refl e

  module _ (d : ℕ) (r s : Phrase) (table : List ℕ → Option Op) (operand : Tokens → Read P) (sound : (ts : Tokens) (q : P × Tokens) → operand ts ≡ Some q → Made d s ts q)
      (build : (t p : Written) (w : List ℕ) (o : Op) (ts us vs : Tokens) → IsSide d r t ts (w ∷ us) → table w ≡ Some o → IsSide d s p us vs → IsSide d r (over o (Pair t p)) ts vs) where
    pair_sound : (t : Written) (w : List ℕ) (o : Op) (ts us : Tokens) (q : P × Tokens) → IsSide d r t ts (w ∷ us) → table w ≡ Some o → pair_link alg operand (made alg t) o us ≡ Some q → Made d r ts q
    pair_sound t w o ts us q i h e =
        let m = map_is (operand us) (λ x. (alg.node o None no_amount (alg.join (made alg t) x.0), x.1)) q e in
        let b = sound us m.0 m.1 in
        subst (λ (x : P × Tokens). Made d r ts x) m.2 (over o (Pair t b.0), build t b.0 w o ts us m.0.1 i h b.1, ap (λ (x : P). alg.node o None no_amount (alg.join (made alg t) x)) b.2)

  -- ---- what is in brackets
  -- with brackets less deep
  abbrev pub Inside : ℕ → Language → Tokens → P × Tokens → Type 0
  Inside depth l ts q = (d : ℕ) × (depth ≡ suc d) × Made d (Whole l) ts q

  -- the arguments of a call behind its word
  pub record Arguments (d : ℕ) (l : Language) (more : ℕ) (ts us : Tokens) (to : Option PatType) (k : Amount) (p : P) : Type 0 where
    pub states : Bool
    pub has : Bool
    pub args : Written
    pub first : Tokens
    pub operands : Tokens
    pub behind : Tokens
    pub place : ts ≡ codes "(" ∷ first
    pub stated : IsStated states to first operands
    pub are : IsSide d (Operands l more) args operands behind
    pub last : IsLastAmount d has k behind (codes ")" ∷ us)
    pub is : p ≡ made alg args

  -- operands, and an amount or none
  abbrev pub Loose : ℕ → Tokens → (Amount × P) × Tokens → Type 0
  Loose d ts q = (m : ℕ) × (has : Bool) × (u : Written) × (vs : Tokens) × IsSide d (Operands Lanes m) u ts vs × IsLastAmount d has q.0.0 vs q.1 × (q.0.1 ≡ made alg u)

module _ (P : Type 0) (alg : Algebra P) (most depth : ℕ) (inside : (l : Language) (ts : Tokens) (q : P × Tokens) → side_read alg most l depth ts ≡ Some q → Inside P alg depth l ts q) where
  abbrev inner : Language → Tokens → Read P
  inner l ts = side_read alg most l depth ts

  -- at a depth that is known
  at_depth : (d : ℕ) → depth ≡ suc d → (l : Language) (ts : Tokens) (q : P × Tokens) → inner l ts ≡ Some q → Made P alg d (Whole l) ts q
  at_depth d h l ts q e = let i = inside l ts q e in let same : i.0 ≡ d = omega (arith, i.1, h) in subst (λ n. Made P alg n (Whole l) ts q) same i.2

  closed_sound : (l : Language) (ts : Tokens) (q : P × Tokens) → closed alg (inner l) ts ≡ Some q → (d : ℕ) × (depth ≡ suc d) × Made P alg d (Whole l) ts (q.0, codes ")" ∷ q.1)
  closed_sound l ts q e =
      let p = then_is (inner l ts) (λ p us. option_map (λ vs. (p, vs)) (after (codes ")") us)) q e in
      let v = map_is (after (codes ")") p.0.1) (λ vs. (p.0.0, vs)) q p.2 in
      let i = inside l ts p.0 p.1 in
      (i.0, i.1, subst (λ (x : P × Tokens). Made P alg i.0 (Whole l) ts (x.0, codes ")" ∷ x.1)) v.2 (i.2.0, subst (λ (us : Tokens). IsSide i.0 (Whole l) i.2.0 ts us) (after_is (codes ")") p.0.1 v.0 v.1) i.2.1, i.2.2))

  operands_sound : (d : ℕ) → depth ≡ suc d → (l : Language) (m n : ℕ) (t : Written) (p : P) (ts us : Tokens) (q : P × Tokens) → p ≡ made alg t → IsSide d (Operands l n) t ts us →
      operands_more alg (inner l) m p us ≡ Some q → Made P alg d (Operands l (n + m)) ts q
  operands_sound d h l zero n t p ts us q f i e =
      let same : n ≡ n + zero = omega arith in
      given (λ (x : P × Tokens). Made P alg d (Operands l (n + zero)) ts x) (p, us) q e (t, subst (λ k. IsSide d (Operands l k) t ts us) same i, f)
  operands_sound d h l (suc m) n t p ts us q f i e =
      let v = behind_is (after (codes ",") us) (λ us. then_read (inner l us) (λ q vs. operands_more alg (inner l) m (alg.join p q) vs)) q e in
      let x = then_is (inner l v.0) (λ q vs. operands_more alg (inner l) m (alg.join p q) vs) q v.2 in
      let b = at_depth d h l v.0 x.0 x.1 in
      let same : suc n + m ≡ n + suc m = omega arith in
      subst (λ k. Made P alg d (Operands l k) ts q) same
      (operands_sound d h l m (suc n) (Pair t b.0) (alg.join p x.0.0) ts x.0.1 q (ap (λ (y : P). alg.join y x.0.0) f ∙ ap (λ (y : P). alg.join (made alg t) y) b.2)
      (more_operands (subst (λ (vs : Tokens). IsSide d (Operands l n) t ts vs) (after_is (codes ",") us v.0 v.1) i) b.1) x.2)

  abbrev pub Result : Type 0
  Result = ((Option PatType × Amount) × P) × Tokens

  pub arguments_sound : (l : Language) (shape : Shape) (ts : Tokens) (q : Result) → arguments_read alg most (depth - 1) (inner l) shape ts ≡ Some q →
      (d : ℕ) × (depth ≡ suc d) × (a : Arguments P alg d l shape.more ts q.1 q.0.0.0 q.0.0.1 q.0.1) × (a.states ≡ shape.states) × (a.has ≡ shape.amount)
  arguments_sound l shape ts q e =
      let b = then_is (begun_read shape.states ts) (λ to us. then_read (operands_read alg (inner l) shape.more us) (λ p vs. option_map (λ q. (((to, q.0), p), q.1)) (ended_read most (depth - 1) shape.amount vs))) q e in
      let o = and_then_is (after (codes "(") ts) (stated_read shape.states) b.0 b.1 in
      let p = then_is (operands_read alg (inner l) shape.more b.0.1) (λ p vs. option_map (λ q. (((b.0.0, q.0), p), q.1)) (ended_read most (depth - 1) shape.amount vs)) q b.2 in
      let k = map_is (ended_read most (depth - 1) shape.amount p.0.1) (λ q. (((b.0.0, q.0), p.0.0), q.1)) q p.2 in
      let x = then_is (inner l b.0.1) (operands_more alg (inner l) shape.more) p.0 p.1 in
      let i = inside l b.0.1 x.0 x.1 in
      let down : depth - 1 ≡ i.0 = omega (arith, i.1) in
      let args = operands_sound i.0 i.1 l shape.more zero i.2.0 x.0.0 b.0.1 x.0.1 p.0 i.2.2 (one_operand i.2.1) x.2 in
      let none : zero + shape.more ≡ shape.more = omega arith in
      subst (λ (y : Result). (d : ℕ) × (depth ≡ suc d) × (a : Arguments P alg d l shape.more ts y.1 y.0.0.0 y.0.0.1 y.0.1) × (a.states ≡ shape.states) × (a.has ≡ shape.amount)) k.2 (
        i.0,
        i.1,
        record {
          states = shape.states;
          has = shape.amount;
          args = args.0;
          first = o.0;
          operands = b.0.1;
          behind = p.0.1;
          place = after_is (codes "(") ts o.0 o.1;
          stated = stated_sound shape.states o.0 b.0 o.2;
          are = subst (λ n. IsSide i.0 (Operands l n) args.0 b.0.1 p.0.1) none args.1;
          last = subst (λ n. IsLastAmount n shape.amount k.0.0 p.0.1 (codes ")" ∷ k.0.1)) down (ended_sound most (depth - 1) shape.amount p.0.1 k.0 k.1);
          is = args.2;
        },
        refl,
        refl,
      )

  -- ---- atoms
  deeper : (d : ℕ) (l : Language) (ts : Tokens) (q : P × Tokens) → depth ≡ suc d → Made P alg (suc d) (Atom l) ts q → Made P alg depth (Atom l) ts q
  deeper d l ts q h m = subst (λ n. Made P alg n (Atom l) ts q) (sym h) m

  name_sound : (l : Language) (t : List ℕ) (ts : Tokens) (q : P × Tokens) → name_read alg t ts ≡ Some q → Made P alg depth (Atom l) (t ∷ ts) q
  name_sound l t ts q e = let b = tested (is_variable t) (alg.name t, ts) q e in subst (λ (x : P × Tokens). Made P alg depth (Atom l) (t ∷ ts) x) b.1 (Name t, named b.0, refl)

  typed_sound : (l : Language) (ts : Tokens) (q : P × Tokens) → typed_read alg most depth ts ≡ Some q → Made P alg depth (Atom l) (codes "{" ∷ ts) q
  typed_sound l ts q e =
      let n = then_is (number_read most depth ts) (λ n us. option_map (λ q. (alg.typed n q.0, q.1)) (sign_by closing_type us)) q e in
      let c = map_is (sign_by closing_type n.0.1) (λ q. (alg.typed n.0.0 q.0, q.1)) q n.2 in
      let w = sign_is closing_type n.0.1 c.0 c.1 in
      subst (λ (x : P × Tokens). Made P alg depth (Atom l) (codes "{" ∷ ts) x) c.2
      (Typed n.0.0 c.0.0, typed_number (subst (λ (us : Tokens). IsNumber depth n.0.0 ts us) w.1 (number_sound most depth ts n.0 n.1)) w.2, refl)

  bracket_sound : (l : Language) (ts : Tokens) (q : P × Tokens) → closed alg (inner l) ts ≡ Some q → Made P alg depth (Atom l) (codes "(" ∷ ts) q
  bracket_sound l ts q e = let c = closed_sound l ts q e in deeper c.0 l (codes "(" ∷ ts) q c.1 (c.2.0, bracketed c.2.1, c.2.2)

  cast_sound : (t : List ℕ) (ty : PatType) (ts : Tokens) (q : P × Tokens) → ptype_of t ≡ Some ty → cast_read alg (inner Operators) ty ts ≡ Some q → Made P alg depth (Atom Operators) (t ∷ ts) q
  cast_sound t ty ts q h e =
      let u = behind_is (after (codes "(") ts) (λ us. option_map (λ q. (alg.node Cast (Some ty) no_amount q.0, q.1)) (closed alg (inner Operators) us)) q e in
      let p = map_is (closed alg (inner Operators) u.0) (λ q. (alg.node Cast (Some ty) no_amount q.0, q.1)) q u.2 in
      let c = closed_sound Operators u.0 p.0 p.1 in
      deeper c.0 Operators (t ∷ ts) q c.1
      (subst (λ (x : P × Tokens). Made P alg (suc c.0) (Atom Operators) (t ∷ ts) x) p.2 (
        Node Cast (Some ty) no_amount c.2.0,
        subst (λ (vs : Tokens). IsSide (suc c.0) (Atom Operators) (Node Cast (Some ty) no_amount c.2.0) (t ∷ vs) p.0.1) (sym (after_is (codes "(") ts u.0 u.1)) (cast h c.2.1),
        ap (λ (x : P). alg.node Cast (Some ty) no_amount x) c.2.2,
      ))

  call_sound : (t : List ℕ) (o : Op) (ts : Tokens) (q : P × Tokens) → op_in call_ops t ≡ Some o → call_read alg most (inner Operators) depth o ts ≡ Some q → Made P alg depth (Atom Operators) (t ∷ ts) q
  call_sound t o ts q h e =
      let m = map_is (arguments_read alg most (depth - 1) (inner Operators) (shape_of o) ts) (λ q. (alg.node o q.0.0.0 q.0.0.1 q.0.1, q.1)) q e in
      let s = arguments_sound Operators (shape_of o) ts m.0 m.1 in
      let a = s.2 in
      deeper s.0 Operators (t ∷ ts) q s.1
      (subst (λ (x : P × Tokens). Made P alg (suc s.0) (Atom Operators) (t ∷ ts) x) m.2 (
        Node o m.0.0.0.0 m.0.0.0.1 a.args,
        subst (λ (vs : Tokens). IsSide (suc s.0) (Atom Operators) (Node o m.0.0.0.0 m.0.0.0.1 a.args) (t ∷ vs) m.0.1) (sym a.place)
            (called h (subst (λ b. IsStated b m.0.0.0.0 a.first a.operands) s.3 a.stated) a.are (subst (λ b. IsLastAmount s.0 b m.0.0.0.1 a.behind (codes ")" ∷ m.0.1)) s.4 a.last)),
        ap (λ (x : P). alg.node o m.0.0.0.0 m.0.0.0.1 x) a.is,
      ))

  lane_sound : (t : List ℕ) (o : LaneName) (ts : Tokens) (q : P × Tokens) → lane_in lane_ops t ≡ Some o → lane_read alg most (inner Lanes) depth o ts ≡ Some q → Made P alg depth (Atom Lanes) (codes "@" ∷ t ∷ ts) q
  lane_sound t o ts q h e =
      let m = map_is (arguments_read alg most (depth - 1) (inner Lanes) (lane_shape o) ts) (λ q. (alg.lane (Some o) q.0.0.0 q.0.0.1 q.0.1, q.1)) q e in
      let s = arguments_sound Lanes (lane_shape o) ts m.0 m.1 in
      let a = s.2 in
      deeper s.0 Lanes (codes "@" ∷ t ∷ ts) q s.1
      (subst (λ (x : P × Tokens). Made P alg (suc s.0) (Atom Lanes) (codes "@" ∷ t ∷ ts) x) m.2 (
        Lane (Some o) m.0.0.0.0 m.0.0.0.1 a.args,
        subst (λ (vs : Tokens). IsSide (suc s.0) (Atom Lanes) (Lane (Some o) m.0.0.0.0 m.0.0.0.1 a.args) (codes "@" ∷ t ∷ vs) m.0.1) (sym a.place)
            (lane_called h (subst (λ b. IsStated b m.0.0.0.0 a.first a.operands) s.3 a.stated) a.are (subst (λ b. IsLastAmount s.0 b m.0.0.0.1 a.behind (codes ")" ∷ m.0.1)) s.4 a.last)),
        ap (λ (x : P). alg.lane (Some o) m.0.0.0.0 m.0.0.0.1 x) a.is,
      ))

  ordered : (swap : Bool) (a b : Written) (x y : P) → x ≡ made alg a → y ≡ made alg b → in_order alg swap x y ≡ made alg (grammar_order swap a b)
  ordered true a b x y f g = rw (f, g) refl
  ordered false a b x y f g = rw (f, g) refl

  choice_made : (d : ℕ) → depth ≡ suc d → (w : List ℕ) (o : Op) (swap : Bool) (a b x y : Written) (pa pb px py r : P) (ts us vs ws zs : Tokens) → IsSide d (Whole Operators) a ts (w ∷ us) → comparison w ≡ Some (o, swap) →
      IsSide d (Whole Operators) b us (codes "," ∷ vs) → IsSide d (Whole Operators) x vs (codes "," ∷ ws) → IsSide d (Whole Operators) y ws (codes ")" ∷ zs) →
      pa ≡ made alg a → pb ≡ made alg b → px ≡ made alg x → py ≡ made alg y → alg.join (alg.join (in_order alg swap pa pb) px) py ≡ r →
      Made P alg depth (Atom Operators) (codes "select" ∷ codes "(" ∷ ts) (alg.node o None no_amount r, zs)
  choice_made d h w o swap a b x y pa pb px py r ts us vs ws zs ia c ib ix iy ea eb ex ey er =
      let value : r ≡ made alg (Pair (Pair (grammar_order swap a b) x) y) = sym er ∙ rw (ordered swap a b pa pb ea eb, ex, ey) refl in
      deeper d Operators (codes "select" ∷ codes "(" ∷ ts) (alg.node o None no_amount r, zs) h (over o (Pair (Pair (grammar_order swap a b) x) y), choice ia c ib ix iy, ap (λ (p : P). alg.node o None no_amount p) value)

  -- the last two operands
  record LastTwo (p : P) (us : Tokens) (r : P × Tokens) : Type 0 where
    vs : Tokens
    ws : Tokens
    x : P × Tokens
    y : P × Tokens
    comma : us ≡ codes "," ∷ vs
    is_x : inner Operators vs ≡ Some x
    second : x.1 ≡ codes "," ∷ ws
    is_y : inner Operators ws ≡ Some y
    value : alg.join (alg.join p x.0) y.0 ≡ r.0
    rest : y.1 ≡ r.1

  last_two : (p : P) (us : Tokens) (r : P × Tokens) → operands_more alg (inner Operators) 2 p us ≡ Some r → LastTwo p us r
  last_two p us r e =
      let v = behind_is (after (codes ",") us) (λ us. then_read (inner Operators us) (λ q vs. operands_more alg (inner Operators) 1 (alg.join p q) vs)) r e in
      let x = then_is (inner Operators v.0) (λ q vs. operands_more alg (inner Operators) 1 (alg.join p q) vs) r v.2 in
      let w = behind_is (after (codes ",") x.0.1) (λ us. then_read (inner Operators us) (λ q vs. operands_more alg (inner Operators) 0 (alg.join (alg.join p x.0.0) q) vs)) r x.2 in
      let y = then_is (inner Operators w.0) (λ q vs. operands_more alg (inner Operators) 0 (alg.join (alg.join p x.0.0) q) vs) r w.2 in
      let same : (alg.join (alg.join p x.0.0) y.0.0, y.0.1) ≡ r = cc in
      record {
        vs = v.0;
        ws = w.0;
        x = x.0;
        y = y.0;
        comma = after_is (codes ",") us v.0 v.1;
        is_x = x.1;
        second = after_is (codes ",") x.0.1 w.0 w.1;
        is_y = y.1;
        value = ap (λ (q : P × Tokens). q.0) same;
        rest = ap (λ (q : P × Tokens). q.1) same;
      }

  -- the parts of a choice
  choice_of : (us : Tokens) (a : P × Tokens) (c : (Op × Bool) × Tokens) (b r : P × Tokens) (zs : Tokens) → inner Operators us ≡ Some a → sign_by comparison a.1 ≡ Some c → inner Operators c.1 ≡ Some b →
      operands_more alg (inner Operators) 2 (in_order alg c.0.1 a.0 b.0) b.1 ≡ Some r → r.1 ≡ codes ")" ∷ zs → Made P alg depth (Atom Operators) (codes "select" ∷ codes "(" ∷ us) (alg.node c.0.0 None no_amount r.0, zs)
  choice_of us a c b r zs ea ec eb er ez =
      let s = sign_is comparison a.1 c ec in
      let l = last_two (in_order alg c.0.1 a.0 b.0) b.1 r er in
      let ia = inside Operators us a ea in
      let ib = at_depth ia.0 ia.1 Operators c.1 b eb in
      let ix = at_depth ia.0 ia.1 Operators l.vs l.x l.is_x in
      let iy = at_depth ia.0 ia.1 Operators l.ws l.y l.is_y in
      choice_made ia.0 ia.1 s.0 c.0.0 c.0.1 ia.2.0 ib.0 ix.0 iy.0 a.0 b.0 l.x.0 l.y.0 r.0 us c.1 l.vs l.ws zs
      (subst (λ (vs : Tokens). IsSide ia.0 (Whole Operators) ia.2.0 us vs) s.1 ia.2.1) s.2
      (subst (λ (vs : Tokens). IsSide ia.0 (Whole Operators) ib.0 c.1 vs) l.comma ib.1)
      (subst (λ (vs : Tokens). IsSide ia.0 (Whole Operators) ix.0 l.vs vs) l.second ix.1)
      (subst (λ (vs : Tokens). IsSide ia.0 (Whole Operators) iy.0 l.ws vs) (l.rest ∙ ez) iy.1) ia.2.2 ib.2 ix.2 iy.2 l.value

  choice_sound : (ts : Tokens) (q : P × Tokens) → choice_read alg (inner Operators) ts ≡ Some q → Made P alg depth (Atom Operators) (codes "select" ∷ ts) q
  choice_sound ts q e =
      let u = behind_is (after (codes "(") ts) _ q e in
      let a = then_is (inner Operators u.0) _ q u.2 in
      let c = then_is (sign_by comparison a.0.1) _ q a.2 in
      let b = then_is (inner Operators c.0.1) _ q c.2 in
      let r = then_is (operands_more alg (inner Operators) 2 (in_order alg c.0.0.1 a.0.0 b.0.0) b.0.1) (λ p ys. option_map (λ zs. (alg.node c.0.0.0 None no_amount p, zs)) (after (codes ")") ys)) q b.2 in
      let z = map_is (after (codes ")") r.0.1) (λ zs. (alg.node c.0.0.0 None no_amount r.0.0, zs)) q r.2 in
      subst (λ (p : P × Tokens). Made P alg depth (Atom Operators) (codes "select" ∷ ts) p) z.2
      (subst (λ (vs : Tokens). Made P alg depth (Atom Operators) (codes "select" ∷ vs) (alg.node c.0.0.0 None no_amount r.0.0, z.0)) (sym (after_is (codes "(") ts u.0 u.1))
      (choice_of u.0 a.0 c.0 b.0 r.0 z.0 a.1 c.1 b.1 r.1 (after_is (codes ")") r.0.1 z.0 z.1)))

  -- ---- lane operations that there aren't
  loose_sound : (d : ℕ) → depth ≡ suc d → (left n : ℕ) (t : Written) (p : P) (ts us : Tokens) (q : (Amount × P) × Tokens) → p ≡ made alg t → IsSide d (Operands Lanes n) t ts us →
      loose_more alg most (depth - 1) (inner Lanes) left p us ≡ Some q →
      Loose P alg d ts q
  loose_sound d h zero n t p ts us q f i e = absurd (cc)
  loose_sound d h (suc left) n t p ts us q f i e = on (loose_more alg most (depth - 1) (inner Lanes) left) (loose_sound d h left) (after (codes ",") us) refl e
    where
      next : (more : P → Tokens → Read (Amount × P)) →
          ((n : ℕ) (t : Written) (p : P) (ts us : Tokens) (q : (Amount × P) × Tokens) → p ≡ made alg t → IsSide d (Operands Lanes n) t ts us → more p us ≡ Some q →
          Loose P alg d ts q) →
          (us' : Tokens) → us ≡ codes "," ∷ us' → (k : Option (Amount × Tokens)) → exponent_read most (depth - 1) us' ≡ k → loose_next alg most (depth - 1) (inner Lanes) more p us' k ≡ Some q →
          Loose P alg d ts q
      next more ih us' place None g e =
          let x = then_is (inner Lanes us') (λ q vs. more (alg.join p q) vs) q e in
          let b = at_depth d h Lanes us' x.0 x.1 in
          ih (suc n) (Pair t b.0) (alg.join p x.0.0) ts x.0.1 q (ap (λ (y : P). alg.join y x.0.0) f ∙ ap (λ (y : P). alg.join (made alg t) y) b.2) (more_operands (subst (λ (vs : Tokens). IsSide d (Operands Lanes n) t ts vs) place i) b.1) x.2
      next more ih us' place (Some k) g e =
          let down : depth - 1 ≡ d = omega (arith, h) in
          given (Loose P alg d ts) ((k.0, p), k.1) q e
          (n, true, t, us, i, subst (λ (vs : Tokens). IsLastAmount d true k.0 vs k.1) (sym place) (last_amount (subst (λ x. IsAmount x k.0 us' k.1) down (amount_sound most (depth - 1) us' k g))), f)

      on : (more : P → Tokens → Read (Amount × P)) →
          ((n : ℕ) (t : Written) (p : P) (ts us : Tokens) (q : (Amount × P) × Tokens) → p ≡ made alg t → IsSide d (Operands Lanes n) t ts us → more p us ≡ Some q →
          Loose P alg d ts q) →
          (o : Option Tokens) → after (codes ",") us ≡ o → loose_on alg most (depth - 1) (inner Lanes) more p us o ≡ Some q →
          Loose P alg d ts q
      on more ih None g e =
          given (Loose P alg d ts) ((no_amount, p), us) q e
          (n, false, t, us, i, no_last, f)
      on more ih (Some us') g e = next more ih us' (after_is (codes ",") us us' g) (exponent_read most (depth - 1) us') refl e

  unknown_sound : (t : List ℕ) (ts : Tokens) (q : P × Tokens) → lane_in lane_ops t ≡ None → is_word t ≡ true → loose_read alg most (depth - 1) (inner Lanes) ts ≡ Some q → Made P alg depth (Atom Lanes) (codes "@" ∷ t ∷ ts) q
  unknown_sound t ts q h word e =
      let u = behind_is (after (codes "(") ts) (λ us. then_read (loose_stated us) (loose_operands alg most (depth - 1) (inner Lanes))) q e in
      let s = then_is (loose_stated u.0) (loose_operands alg most (depth - 1) (inner Lanes)) q u.2 in
      let x = then_is (inner Lanes s.0.1) (λ first us. then_read (loose_more alg most (depth - 1) (inner Lanes) most first us) (λ q vs. option_map (λ ws. (alg.lane None s.0.0 q.0 q.1, ws)) (after (codes ")") vs))) q s.2 in
      let r = then_is (loose_more alg most (depth - 1) (inner Lanes) most x.0.0 x.0.1) (λ q vs. option_map (λ ws. (alg.lane None s.0.0 q.0 q.1, ws)) (after (codes ")") vs)) q x.2 in
      let z = map_is (after (codes ")") r.0.1) (λ ws. (alg.lane None s.0.0 r.0.0.0 r.0.0.1, ws)) q r.2 in
      let i = inside Lanes s.0.1 x.0 x.1 in
      let l = loose_sound i.0 i.1 most zero i.2.0 x.0.0 s.0.1 x.0.1 r.0 i.2.2 (one_operand i.2.1) r.1 in
      let st = loose_stated_sound u.0 s.0 s.1 in
      let tree = Lane None s.0.0 r.0.0.0 l.2 in
      deeper i.0 Lanes (codes "@" ∷ t ∷ ts) q i.1
      (subst (λ (p : P × Tokens). Made P alg (suc i.0) (Atom Lanes) (codes "@" ∷ t ∷ ts) p) z.2 (
        tree,
        subst (λ (vs : Tokens). IsSide (suc i.0) (Atom Lanes) tree (codes "@" ∷ t ∷ vs) z.0) (sym (after_is (codes "(") ts u.0 u.1))
            (unknown_called h word st.1 l.4 (subst (λ (vs : Tokens). IsLastAmount i.0 l.1 r.0.0.0 l.3 vs) (after_is (codes ")") r.0.1 z.0 z.1) l.5)),
        ap (λ (p : P). alg.lane None s.0.0 r.0.0.0 p) l.6,
      ))

  -- ---- by the first word
  word_sound : (t : List ℕ) (ts : Tokens) (q : P × Tokens) → operators_by alg most (inner Operators) depth t ts ≡ Some q → Made P alg depth (Atom Operators) (t ∷ ts) q
  word_sound t ts q e =
      ⊎_elim
      (λ (h : bytes_eq t (codes "select") ≡ true). subst (λ (w : List ℕ). Made P alg depth (Atom Operators) (w ∷ ts) q) (sym ((bytes_eq-Decides t (codes "select")).0 h)) (choice_sound ts q (rw h at e)))
      (λ (h : bytes_eq t (codes "select") ≡ false). by (op_in call_ops t) (ptype_of t) refl refl (rw h at e))
      (cases_Bool (bytes_eq t (codes "select")))
    where
      by : (o : Option Op) (ty : Option PatType) → op_in call_ops t ≡ o → ptype_of t ≡ ty → word_by alg most (inner Operators) depth o ty t ts ≡ Some q → Made P alg depth (Atom Operators) (t ∷ ts) q
      by (Some o) ty h g e = call_sound t o ts q h e
      by None (Some ty) h g e = cast_sound t ty ts q g e
      by None None h g e = name_sound Operators t ts q e

  lane_call_sound : (ts : Tokens) (q : P × Tokens) → lane_call alg most (inner Lanes) depth ts ≡ Some q → Made P alg depth (Atom Lanes) (codes "@" ∷ ts) q
  lane_call_sound [] q e = absurd (cc)
  lane_call_sound (t ∷ ts) q e = by (lane_in lane_ops t) refl e
    where
      by : (o : Option LaneName) → lane_in lane_ops t ≡ o → lane_by alg most (inner Lanes) depth o t ts ≡ Some q → Made P alg depth (Atom Lanes) (codes "@" ∷ t ∷ ts) q
      by (Some o) h e = lane_sound t o ts q h e
      by None h e =
          ⊎_elim
          (λ (w : is_word t ≡ true). unknown_sound t ts q h w (rw w at e))
          (λ (w : is_word t ≡ false). absurd (let no : ◌≡◌ {A = Option (P × Tokens)} None (Some q) = rw w at e in cc))
          (cases_Bool (is_word t))

  lanes_sound : (t : List ℕ) (ts : Tokens) (q : P × Tokens) → lanes_by alg most (inner Lanes) depth t ts ≡ Some q → Made P alg depth (Atom Lanes) (t ∷ ts) q
  lanes_sound t ts q e =
      ⊎_elim
      (λ (h : bytes_eq t (codes "@") ≡ true). subst (λ (w : List ℕ). Made P alg depth (Atom Lanes) (w ∷ ts) q) (sym ((bytes_eq-Decides t (codes "@")).0 h)) (lane_call_sound ts q (rw h at e)))
      (λ (h : bytes_eq t (codes "@") ≡ false). name_sound Lanes t ts q (rw h at e))
      (cases_Bool (bytes_eq t (codes "@")))

  atom_of_sound : (l : Language) (t : List ℕ) (ts : Tokens) (q : P × Tokens) → atom_of alg most l (inner l) depth t ts ≡ Some q → Made P alg depth (Atom l) (t ∷ ts) q
  atom_of_sound Operators t ts q e = word_sound t ts q e
  atom_of_sound Lanes t ts q e = lanes_sound t ts q e

  atom_sound : (l : Language) (ts : Tokens) (q : P × Tokens) → atom_read alg most l (inner l) depth ts ≡ Some q → Made P alg depth (Atom l) ts q
  atom_sound l [] q e = absurd (cc)
  atom_sound l (t ∷ ts) q e =
      ⊎_elim
      (λ (h : bytes_eq t (codes "(") ≡ true). subst (λ (w : List ℕ). Made P alg depth (Atom l) (w ∷ ts) q) (sym ((bytes_eq-Decides t (codes "(")).0 h)) (bracket_sound l ts q (rw h at e)))
      (λ (h : bytes_eq t (codes "(") ≡ false).
      ⊎_elim
      (λ (g : bytes_eq t (codes "{") ≡ true). subst (λ (w : List ℕ). Made P alg depth (Atom l) (w ∷ ts) q) (sym ((bytes_eq-Decides t (codes "{")).0 g)) (typed_sound l ts q (rw (h, g) at e)))
      (λ (g : bytes_eq t (codes "{") ≡ false). atom_of_sound l t ts q (rw (h, g) at e))
      (cases_Bool (bytes_eq t (codes "{"))))
      (cases_Bool (bytes_eq t (codes "(")))

  -- ---- by ranks
  product_sound : (ts : Tokens) (q : P × Tokens) → product_read alg most (inner Operators) depth ts ≡ Some q → Made P alg depth Product ts q
  product_sound ts q e =
      let a = then_is (atom_read alg most Operators (inner Operators) depth ts) (chain (sign_by times_of) (pair_link alg (atom_read alg most Operators (inner Operators) depth)) most) q e in
      let m = atom_sound Operators ts a.0 a.1 in
      chain_sound P alg depth Product times_of (pair_link alg (atom_read alg most Operators (inner Operators) depth))
      (pair_sound P alg depth Product (Atom Operators) times_of (atom_read alg most Operators (inner Operators) depth) (atom_sound Operators) (λ t p w o ts us vs i h j. product i h j))
      most m.0 a.0.0 ts a.0.1 q m.2 (factor m.1) a.2

  sum_sound : (ts : Tokens) (q : P × Tokens) → summed_read alg most (inner Operators) depth ts ≡ Some q → Made P alg depth Sum ts q
  sum_sound ts q e =
      let a = then_is (product_read alg most (inner Operators) depth ts) (chain (sign_by sum_op_of) (pair_link alg (product_read alg most (inner Operators) depth)) most) q e in
      let m = product_sound ts a.0 a.1 in
      chain_sound P alg depth Sum sum_op_of (pair_link alg (product_read alg most (inner Operators) depth))
      (pair_sound P alg depth Sum Product sum_op_of (product_read alg most (inner Operators) depth) product_sound (λ t p w o ts us vs i h j. sum i h j))
      most m.0 a.0.0 ts a.0.1 q m.2 (term m.1) a.2

  shift_sound : (t : Written) (w : List ℕ) (o : Op) (ts us : Tokens) (q : P × Tokens) → IsSide depth (Whole Operators) t ts (w ∷ us) → shift_of w ≡ Some o → shift_link alg most depth (made alg t) o us ≡ Some q →
      Made P alg depth (Whole Operators) ts q
  shift_sound t w o ts us q i h e =
      let m = map_is (exponent_read most depth us) (λ x. (alg.node o None x.0 (made alg t), x.1)) q e in
      subst (λ (x : P × Tokens). Made P alg depth (Whole Operators) ts x) m.2 (Node o None m.0.0 t, shifted i h (amount_sound most depth us m.0 m.1), refl)

  language_sound : (l : Language) (ts : Tokens) (q : P × Tokens) → language_read alg most l (inner l) depth ts ≡ Some q → Made P alg depth (Whole l) ts q
  language_sound Operators ts q e =
      let a = then_is (summed_read alg most (inner Operators) depth ts) (chain (sign_by shift_of) (shift_link alg most depth) most) q e in
      let m = sum_sound ts a.0 a.1 in
      chain_sound P alg depth (Whole Operators) shift_of (shift_link alg most depth) shift_sound most m.0 a.0.0 ts a.0.1 q m.2 (unshifted m.1) a.2
  language_sound Lanes ts q e = let m = atom_sound Lanes ts q e in (m.0, of_lanes m.1, m.2)

module _ (P : Type 0) (alg : Algebra P) (most : ℕ) where
  pub side_sound : (depth : ℕ) (l : Language) (ts : Tokens) (q : P × Tokens) → side_read alg most l depth ts ≡ Some q → Inside P alg depth l ts q
  side_sound zero l ts q e = absurd (cc)
  side_sound (suc depth) l ts q e = (depth, refl, language_sound P alg most depth (side_sound depth) l ts q e)
