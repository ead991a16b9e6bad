-- How the sides of rules are read from the front of tokens: what is made of their parts is given, as an algebra. No chain or sum is read
-- that has more links than a number that is given, `most`.
use Rattle.std.specs.Prelude.{◌≡◌, ℕ, zero, suc, ◌-◌, List, [], ◌∷◌, Bool, true, false, if◌then◌else◌, Option, Some, None, option_map, option_and_then, Result, Ok, Err, codes}
use Rattle.std.specs.Borrow.{Bor}
use Rattle.std.specs.Str.{bytes_eq}
use Rattle.pf_values.specs.declared.op.Op.{Op}
use Rattle.pf_values.specs.declared.op.Op.TheVariants.{Cast}
use Rattle.pf_laneops.specs.declared.lane_name.LaneName.{LaneName}
use Rattle.pf_rules.specs.declared.number.Amount.{Amount}
use Rattle.pf_rules.specs.declared.number.Number.{Number}
use Rattle.pf_rules.specs.declared.pattern.PatType.{PatType}
use Rattle.pf_rulefile.specs.declared.word.Shape.{Shape}
use Rattle.pf_rulefile.specs.declared.stop.Stop.{Stop}
use Rattle.pf_rulefile.specs.declared.stop.Stop.TheVariants.{Syntax, Memory}
use Rattle.pf_rulefile.specs.Meaning.Tokens.{tokens}
use Rattle.pf_rulefile.specs.declared.word.Language.{Language}
use Rattle.pf_rulefile.specs.declared.word.Language.TheVariants.{Operators, Lanes}
use Rattle.pf_rulefile.specs.Meaning.Words.{ptype_of, closing_type, comparison, is_variable, op_in, call_ops, shape_of, is_word, lane_in, lane_ops, lane_shape}
use Rattle.pf_rulefile.specs.Meaning.Grammar.{times_of, sum_op_of, shift_of, no_amount, Written, Name, Typed, Pair, Node, Lane}
use Rattle.pf_rulefile.specs.Steps.Fronts.{after, sign_by}
use Rattle.pf_rulefile.specs.Steps.NumberReads.{then_read, exponent_read, number_read}

-- what is made of names, typed numbers, several operands, operators and lane operations
pub record Algebra (P : Type 0) : Type 0 where
  pub name : List ℕ → P
  pub typed : Number → PatType → P
  pub join : P → P → P
  pub node : Op → Option PatType → Amount → P → P
  pub lane : Option LaneName → Option PatType → Amount → P → P

-- reading goes on behind a token
abbrev pub on_behind : {A : Type 0} → Option (List (List ℕ)) → (List (List ℕ) → Option A) → Option A
on_behind None f = None
on_behind (Some ts) f = f ts

-- the answer is what follows a token
abbrev pub GivesRest : Result (Bor (List ℕ)) Stop → Option (List (List ℕ)) → Type 0
GivesRest (Ok x) answer = answer ≡ Some (tokens x.now)
GivesRest (Err Syntax) answer = answer ≡ None
GivesRest (Err Memory) answer = Unit {0}

abbrev pub Read : Type 0 → Type 0
Read P = Option (P × List (List ℕ))

-- ---- chains
-- a link joins what was read with what follows an operator's sign
abbrev pub chain_on : {P : Type 0} → (P → Op → List (List ℕ) → Read P) → (P → List (List ℕ) → Read P) → P → List (List ℕ) → Option (Op × List (List ℕ)) → Read P
chain_on link more p ts None = Some (p, ts)
chain_on link more p ts (Some s) = then_read (link p s.0 s.1) more

abbrev pub chain : {P : Type 0} → (List (List ℕ) → Option (Op × List (List ℕ))) → (P → Op → List (List ℕ) → Read P) → ℕ → P → List (List ℕ) → Read P
chain sign link zero p ts = None
chain sign link (suc most) p ts = chain_on link (chain sign link most) p ts (sign ts)

-- ---- the parts of calls
abbrev pub stated_by : Option PatType → Option (List (List ℕ)) → Option (Option PatType × List (List ℕ))
stated_by None us = None
stated_by (Some ty) us = option_map (λ vs. (Some ty, vs)) us

abbrev pub stated_read : Bool → List (List ℕ) → Option (Option PatType × List (List ℕ))
stated_read false ts = Some (None, ts)
stated_read true [] = None
stated_read true (t ∷ ts) = stated_by (ptype_of t) (after (codes ",") ts)

-- the type that is stated, in front of the operands
abbrev pub begun_read : Bool → List (List ℕ) → Option (Option PatType × List (List ℕ))
begun_read states ts = option_and_then (stated_read states) (after (codes "(") ts)

-- a type, where one stands first
abbrev pub loose_stated_by : Option PatType → List (List ℕ) → List (List ℕ) → Option (Option PatType × List (List ℕ))
loose_stated_by None ts us = Some (None, ts)
loose_stated_by (Some ty) ts us = stated_by (Some ty) (after (codes ",") us)

abbrev pub loose_stated : List (List ℕ) → Option (Option PatType × List (List ℕ))
loose_stated [] = None
loose_stated (t ∷ ts) = loose_stated_by (ptype_of t) (t ∷ ts) ts

abbrev pub amount_read : ℕ → ℕ → Bool → List (List ℕ) → Option (Amount × List (List ℕ))
amount_read most depth false ts = Some (no_amount, ts)
amount_read most depth true ts = on_behind (after (codes ",") ts) (exponent_read most depth)

-- the amount, behind the operands
abbrev pub ended_read : ℕ → ℕ → Bool → List (List ℕ) → Option (Amount × List (List ℕ))
ended_read most depth amount ts = then_read (amount_read most depth amount ts) (λ k us. option_map (λ vs. (k, vs)) (after (codes ")") us))

-- ---- what is in brackets, read by `inner`
module _ {P : Type 0} (alg : Algebra P) where
  abbrev pub pair_link : (List (List ℕ) → Read P) → P → Op → List (List ℕ) → Read P
  pair_link operand p o ts = option_map (λ q. (alg.node o None no_amount (alg.join p q.0), q.1)) (operand ts)

  abbrev pub closed : (List (List ℕ) → Read P) → List (List ℕ) → Read P
  closed inner ts = then_read (inner ts) (λ p us. option_map (λ vs. (p, vs)) (after (codes ")") us))

  abbrev pub operands_more : (List (List ℕ) → Read P) → ℕ → P → List (List ℕ) → Read P
  operands_more inner zero p ts = Some (p, ts)
  operands_more inner (suc n) p ts = on_behind (after (codes ",") ts) (λ us. then_read (inner us) (λ q vs. operands_more inner n (alg.join p q) vs))

  -- the operands between
  abbrev pub operands_read : (List (List ℕ) → Read P) → ℕ → List (List ℕ) → Read P
  operands_read inner more ts = then_read (inner ts) (operands_more inner more)

  abbrev pub in_order : Bool → P → P → P
  in_order true a b = alg.join b a
  in_order false a b = alg.join a b

  abbrev pub choice_read : (List (List ℕ) → Read P) → List (List ℕ) → Read P
  choice_read inner ts =
      on_behind (after (codes "(") ts) (λ us. then_read (inner us) (λ a vs. then_read (sign_by comparison vs) (λ c ws. then_read (inner ws) (λ b xs.
      then_read (operands_more inner 2 (in_order c.1 a b) xs) (λ p ys. option_map (λ zs. (alg.node c.0 None no_amount p, zs)) (after (codes ")") ys))))))

  abbrev pub cast_read : (List (List ℕ) → Read P) → PatType → List (List ℕ) → Read P
  cast_read inner ty ts = on_behind (after (codes "(") ts) (λ us. option_map (λ q. (alg.node Cast (Some ty) no_amount q.0, q.1)) (closed inner us))

  abbrev pub name_read : List ℕ → List (List ℕ) → Read P
  name_read t ts = if is_variable t then Some (alg.name t, ts) else None

module _ {P : Type 0} (alg : Algebra P) (most depth : ℕ) where
  abbrev pub shift_link : P → Op → List (List ℕ) → Read P
  shift_link p o ts = option_map (λ q. (alg.node o None q.0 p, q.1)) (exponent_read most depth ts)

  abbrev pub typed_read : List (List ℕ) → Read P
  typed_read ts = then_read (number_read most depth ts) (λ n us. option_map (λ q. (alg.typed n q.0, q.1)) (sign_by closing_type us))

  -- the stated type, the amount and the operands of a call of this shape
  abbrev pub arguments_read : (List (List ℕ) → Read P) → Shape → List (List ℕ) → Read ((Option PatType × Amount) × P)
  arguments_read inner shape ts =
      then_read (begun_read shape.states ts) (λ to us. then_read (operands_read alg inner shape.more us) (λ p vs. option_map (λ q. (((to, q.0), p), q.1)) (ended_read most depth shape.amount vs)))

  -- ---- lane operations that there aren't
  -- the next operand and those behind it, where what stands there is no amount
  abbrev pub loose_next : (List (List ℕ) → Read P) → (P → List (List ℕ) → Read (Amount × P)) → P → List (List ℕ) → Read Amount → Read (Amount × P)
  loose_next inner more p us (Some q) = Some ((q.0, p), q.1)
  loose_next inner more p us None = then_read (inner us) (λ q vs. more (alg.join p q) vs)

  abbrev pub loose_on : (List (List ℕ) → Read P) → (P → List (List ℕ) → Read (Amount × P)) → P → List (List ℕ) → Option (List (List ℕ)) → Read (Amount × P)
  loose_on inner more p ts None = Some ((no_amount, p), ts)
  loose_on inner more p ts (Some us) = loose_next inner more p us (exponent_read most depth us)

  -- any number of operands, and an amount or none
  abbrev pub loose_more : (List (List ℕ) → Read P) → ℕ → P → List (List ℕ) → Read (Amount × P)
  loose_more inner zero p ts = None
  loose_more inner (suc left) p ts = loose_on inner (loose_more inner left) p ts (after (codes ",") ts)

  abbrev pub loose_operands : (List (List ℕ) → Read P) → Option PatType → List (List ℕ) → Read P
  loose_operands inner to ts =
      then_read (inner ts) (λ first us. then_read (loose_more inner most first us) (λ q vs. option_map (λ ws. (alg.lane None to q.0 q.1, ws)) (after (codes ")") vs)))

  -- what stands behind the word of a lane operation that there isn't
  abbrev pub loose_read : (List (List ℕ) → Read P) → List (List ℕ) → Read P
  loose_read inner ts = on_behind (after (codes "(") ts) (λ us. then_read (loose_stated us) (loose_operands inner))

-- ---- sides, `depth` being how deep brackets may still be nested
module _ {P : Type 0} (alg : Algebra P) (most : ℕ) where
  abbrev pub call_read : (List (List ℕ) → Read P) → ℕ → Op → List (List ℕ) → Read P
  call_read inner depth o ts = option_map (λ q. (alg.node o q.0.0.0 q.0.0.1 q.0.1, q.1)) (arguments_read alg most (depth - 1) inner (shape_of o) ts)

  abbrev pub lane_read : (List (List ℕ) → Read P) → ℕ → LaneName → List (List ℕ) → Read P
  lane_read inner depth o ts = option_map (λ q. (alg.lane (Some o) q.0.0.0 q.0.0.1 q.0.1, q.1)) (arguments_read alg most (depth - 1) inner (lane_shape o) ts)

  abbrev pub word_by : (List (List ℕ) → Read P) → ℕ → Option Op → Option PatType → List ℕ → List (List ℕ) → Read P
  word_by inner depth (Some o) ty t ts = call_read inner depth o ts
  word_by inner depth None (Some ty) t ts = cast_read alg inner ty ts
  word_by inner depth None None t ts = name_read alg t ts

  abbrev pub operators_by : (List (List ℕ) → Read P) → ℕ → List ℕ → List (List ℕ) → Read P
  operators_by inner depth t ts = if bytes_eq t (codes "select") then choice_read alg inner ts else word_by inner depth (op_in call_ops t) (ptype_of t) t ts

  abbrev pub lane_by : (List (List ℕ) → Read P) → ℕ → Option LaneName → List ℕ → List (List ℕ) → Read P
  lane_by inner depth (Some op) t ts = lane_read inner depth op ts
  lane_by inner depth None t ts = if is_word t then loose_read alg most (depth - 1) inner ts else None

  abbrev pub lane_call : (List (List ℕ) → Read P) → ℕ → List (List ℕ) → Read P
  lane_call inner depth [] = None
  lane_call inner depth (t ∷ ts) = lane_by inner depth (lane_in lane_ops t) t ts

  abbrev pub lanes_by : (List (List ℕ) → Read P) → ℕ → List ℕ → List (List ℕ) → Read P
  lanes_by inner depth t ts = if bytes_eq t (codes "@") then lane_call inner depth ts else name_read alg t ts

  abbrev pub atom_of : Language → (List (List ℕ) → Read P) → ℕ → List ℕ → List (List ℕ) → Read P
  atom_of Operators = operators_by
  atom_of Lanes = lanes_by

  abbrev pub atom_by : Language → (List (List ℕ) → Read P) → ℕ → List ℕ → List (List ℕ) → Read P
  atom_by l inner depth t ts =
      if bytes_eq t (codes "(") then closed alg inner ts else (if bytes_eq t (codes "{") then typed_read alg most depth ts else atom_of l inner depth t ts)

  abbrev pub atom_read : Language → (List (List ℕ) → Read P) → ℕ → List (List ℕ) → Read P
  atom_read l inner depth [] = None
  atom_read l inner depth (t ∷ ts) = atom_by l inner depth t ts

  abbrev pub product_read : (List (List ℕ) → Read P) → ℕ → List (List ℕ) → Read P
  product_read inner depth ts = then_read (atom_read Operators inner depth ts) (chain (sign_by times_of) (pair_link alg (atom_read Operators inner depth)) most)

  abbrev pub summed_read : (List (List ℕ) → Read P) → ℕ → List (List ℕ) → Read P
  summed_read inner depth ts = then_read (product_read inner depth ts) (chain (sign_by sum_op_of) (pair_link alg (product_read inner depth)) most)

  abbrev pub whole_read : (List (List ℕ) → Read P) → ℕ → List (List ℕ) → Read P
  whole_read inner depth ts = then_read (summed_read inner depth ts) (chain (sign_by shift_of) (shift_link alg most depth) most)

  abbrev pub language_read : Language → (List (List ℕ) → Read P) → ℕ → List (List ℕ) → Read P
  language_read Operators inner depth ts = whole_read inner depth ts
  language_read Lanes inner depth ts = atom_read Lanes inner depth ts

  -- a side with round brackets nested less deep than this; none with 0
  abbrev pub side_read : Language → ℕ → List (List ℕ) → Read P
  side_read l zero ts = None
  side_read l (suc depth) ts = language_read l (side_read l depth) depth ts

-- what an algebra makes of an expression
abbrev pub made : {P : Type 0} → Algebra P → Written → P
made alg (Name w) = alg.name w
made alg (Typed n ty) = alg.typed n ty
made alg (Pair a b) = alg.join (made alg a) (made alg b)
made alg (Node op to k args) = alg.node op to k (made alg args)
made alg (Lane op to k args) = alg.lane op to k (made alg args)
