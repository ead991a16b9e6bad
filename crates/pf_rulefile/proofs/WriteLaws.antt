-- Texts that are written part by part.
use Rattle.std.proofs.Common.{◌≡◌, sym, ap, ◌∙◌, ℕ, ◌+◌, ◌<◌, List, ◌∷◌, ◌++◌, length, drop, map, get_or, append_assoc}
use Rattle.std.specs.List.{flat_map}
use Rattle.std.proofs.lemmas.List.{drop_more}
use Rattle.pf_values.specs.declared.op.Op.{Op}
use Rattle.pf_laneops.specs.declared.lane_name.LaneName.{LaneName}
use Rattle.pf_rules.specs.declared.number.Amount.{Amount}
use Rattle.pf_rules.specs.declared.pattern.PatType.{PatType}
use Rattle.pf_rules.specs.declared.pattern.Pattern.{Pattern}
use Rattle.pf_rules.specs.declared.pattern.Pattern.TheVariants.{Node, rolls-Node, Lane, rolls-Lane}
use Rattle.pf_rules.specs.declared.pattern.Pattern.TheOpen.Pattern-F.{Node as NodeLayer, Lane as LaneLayer}
use Rattle.pf_rules.specs.declared.pattern.Pattern.TheFolds.{fold-roll-Pattern}
use Rattle.pf_rules.specs.declared.rule.VarDecl.{VarDecl}
use Rattle.pf_values.specs.Meaning.Spellings.{op_word, spelling_of}
use Rattle.std.specs.Prelude.{Option, Bool, false}
use Rattle.pf_rules.specs.declared.number.LinPart.{LinPart}
use Rattle.pf_rules.specs.declared.number.NumberPart.{NumberPart}
use Rattle.pf_rulefile.specs.Meaning.RuleTexts.{opening, onward, lane_opening, lane_onward, text_step, pattern_text, sign_text, lin_text, lin_parts_text, item_text, parts_text}

-- one more text is written
pub written_next : {A : Type 0} (f : A → List ℕ) (xs : List A) (i : ℕ) (x : A) (text now whole : List ℕ) → i < length xs → x ≡ get_or xs i x → now ≡ text ++ f x →
    text ++ flat_map f (drop i xs) ≡ whole → now ++ flat_map f (drop (i + 1) xs) ≡ whole
written_next f xs i x text now whole below at is onward =
    ap (λ t. t ++ flat_map f (drop (i + 1) xs)) is ∙ append_assoc text (f x) (flat_map f (drop (i + 1) xs))
    ∙ ap (λ ys. text ++ flat_map f ys) (ap (λ y. y ∷ drop (i + 1) xs) at ∙ sym (drop_more xs i x below)) ∙ onward

-- the text of a node, by its operands
pub node_text : (vars : List VarDecl) (op : Op) (to : Option PatType) (k : Amount) (args : List Pattern) →
    pattern_text vars (Node op to k args) ≡ opening (spelling_of op) (op_word op) to ++ onward op k 0 (map (pattern_text vars) args)
node_text vars op to k args = ap (pattern_text vars) (sym (rolls-Node op to k args)) ∙ fold-roll-Pattern (List ℕ) (text_step vars) (NodeLayer op to k args)

pub lane_text : (vars : List VarDecl) (op : LaneName) (to : Option PatType) (k : Amount) (args : List Pattern) →
    pattern_text vars (Lane op to k args) ≡ lane_opening op to ++ lane_onward op k 0 (map (pattern_text vars) args)
lane_text vars op to k args = ap (pattern_text vars) (sym (rolls-Lane op to k args)) ∙ fold-roll-Pattern (List ℕ) (text_step vars) (LaneLayer op to k args)

-- the first part of a text is written
pub begun_text : (text now first rest whole : List ℕ) → now ≡ text ++ first → first ++ rest ≡ whole → now ++ rest ≡ text ++ whole
begun_text text now first rest whole is all = ap (λ t. t ++ rest) is ∙ append_assoc text first rest ∙ ap (λ t. text ++ t) all

-- an operand is written, behind what stands before it
pub operand_written : (text mid now sign operand rest whole : List ℕ) → mid ≡ text ++ sign → now ≡ mid ++ operand → text ++ (sign ++ (operand ++ rest)) ≡ whole → now ++ rest ≡ whole
operand_written text mid now sign operand rest whole e f all =
    ap (λ t. t ++ rest) f ∙ append_assoc mid operand rest ∙ ap (λ t. t ++ (operand ++ rest)) e ∙ append_assoc text sign (operand ++ rest) ∙ all

-- one more part of a sum is written
pub lin_written : (parts : List LinPart) (i : ℕ) (d : LinPart) (first : Bool) (text mid now whole : List ℕ) → i < length parts → mid ≡ text ++ sign_text first (get_or parts i d).minus →
    now ≡ mid ++ lin_text (get_or parts i d).of (get_or parts i d).times → text ++ lin_parts_text first (drop i parts) ≡ whole → now ++ lin_parts_text false (drop (i + 1) parts) ≡ whole
lin_written parts i d first text mid now whole below e f all =
    operand_written text mid now (sign_text first (get_or parts i d).minus) (lin_text (get_or parts i d).of (get_or parts i d).times) (lin_parts_text false (drop (i + 1) parts)) whole e f
    (ap (λ (ps : List LinPart). text ++ lin_parts_text first ps) (sym (drop_more parts i d below)) ∙ all)

pub part_written : (parts : List NumberPart) (i : ℕ) (x : NumberPart) (first : Bool) (text mid now whole : List ℕ) → i < length parts → x ≡ get_or parts i x → mid ≡ text ++ sign_text first x.minus →
    now ≡ mid ++ item_text x.item → text ++ parts_text first (drop i parts) ≡ whole → now ++ parts_text false (drop (i + 1) parts) ≡ whole
part_written parts i x first text mid now whole below at e f all =
    operand_written text mid now (sign_text first x.minus) (item_text x.item) (parts_text false (drop (i + 1) parts)) whole e f
    (ap (λ (ps : List NumberPart). text ++ parts_text first ps) (ap (λ (y : NumberPart). y ∷ drop (i + 1) parts) at ∙ sym (drop_more parts i x below)) ∙ all)
