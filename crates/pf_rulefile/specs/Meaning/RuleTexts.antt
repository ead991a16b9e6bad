-- The texts of rule files, as they are written.
use Rattle.std.specs.Prelude.{ℕ, ◌+◌, ◌==◌, ℤ, pos, List, [], ◌∷◌, ◌++◌, Bool, true, false, if◌then◌else◌, Option, Some, None, slice_get, codes, decimal}
use Rattle.std.specs.Fmt.{signed_decimal}
use Rattle.std.specs.List.{flat_map}
use Rattle.std.specs.Ordering.{int_eq}
use Rattle.pf_ints.specs.Meaning.Targets.{target_word}
use Rattle.pf_forms.specs.Meaning.Axioms.{axiom_name}
use Rattle.pf_values.specs.declared.op.Op.{Op}
use Rattle.pf_values.specs.declared.row.Spelling.{Spelling}
use Rattle.pf_values.specs.declared.row.Spelling.TheVariants.{TypeCall, Infix, ShiftBy, Call, CallWithType, CallWithAmount, Select}
use Rattle.pf_values.specs.Meaning.Spellings.{op_word, spelling_of}
use Rattle.pf_laneops.specs.declared.lane_name.LaneName.{LaneName}
use Rattle.pf_rules.specs.declared.number.LinOf.{LinOf}
use Rattle.pf_rules.specs.declared.number.LinOf.TheVariants as of
use Rattle.pf_rules.specs.declared.number.LinPart.{LinPart}
use Rattle.pf_rules.specs.declared.number.Amount.{Amount}
use Rattle.pf_rules.specs.declared.number.Amount.TheVariants as amount
use Rattle.pf_rules.specs.declared.number.NumberItem.{NumberItem}
use Rattle.pf_rules.specs.declared.number.NumberItem.TheVariants as item
use Rattle.pf_rules.specs.declared.number.NumberPart.{NumberPart}
use Rattle.pf_rules.specs.declared.number.Number.{Number}
use Rattle.pf_rules.specs.declared.pattern.PatType.{PatType}
use Rattle.pf_rules.specs.declared.pattern.Pattern.{Pattern}
use Rattle.pf_rules.specs.declared.pattern.Pattern.TheOpen.{Pattern-F}
use Rattle.pf_rules.specs.declared.pattern.Pattern.TheOpen.Pattern-F.{Var, Const, Node, Lane}
use Rattle.pf_rules.specs.declared.pattern.Pattern.TheFolds.{fold-Pattern}
use Rattle.pf_rules.specs.declared.rule.VarDecl.{VarDecl}
use Rattle.pf_rules.specs.declared.rule.RuleParts.{RuleParts}
use Rattle.pf_rules.specs.declared.rule.By.{By}
use Rattle.pf_rules.specs.declared.rule.By.TheVariants as by
use Rattle.pf_rules.specs.declared.rule.Step.{Step}
use Rattle.pf_rules.specs.declared.rule.Kind.{Kind}
use Rattle.pf_rules.specs.declared.rule.Kind.TheVariants.{Lift, Lower}
use Rattle.pf_rules.specs.declared.rule_file.FileParts.{FileParts}
use Rattle.pf_rulefile.specs.Meaning.Words.{lane_word, lane_shape}

-- ---- numbers
-- the sign of a part, which the first has only where it is taken away
abbrev pub sign_text : Bool → Bool → List ℕ
sign_text first true = codes "-"
sign_text true false = []
sign_text false false = codes "+"

abbrev pub times_text : ℤ → List ℕ
times_text n = if int_eq n (pos 1) then [] else signed_decimal n ++ codes "*"

abbrev pub lin_text : LinOf → ℤ → List ℕ
lin_text of.One n = signed_decimal n
lin_text of.W n = times_text n ++ codes "w"
lin_text of.K n = times_text n ++ codes "k"

abbrev pub lin_parts_text : Bool → List LinPart → List ℕ
lin_parts_text first [] = []
lin_parts_text first (p ∷ ps) = sign_text first p.minus ++ (lin_text p.of p.times ++ lin_parts_text false ps)

abbrev pub amount_text : Amount → List ℕ
amount_text (amount.Int n) = signed_decimal n
amount_text amount.W = codes "w"
amount_text amount.K = codes "k"
amount_text (amount.Linear ps) = codes "(" ++ (lin_parts_text true ps ++ codes ")")

abbrev pub item_text : NumberItem → List ℕ
item_text (item.Int n) = signed_decimal n
item_text (item.Power times exponent) = times_text times ++ (codes "2^" ++ amount_text exponent)
item_text item.W = codes "w"
item_text item.K = codes "k"

abbrev pub parts_text : Bool → List NumberPart → List ℕ
parts_text first [] = []
parts_text first (p ∷ ps) = sign_text first p.minus ++ (item_text p.item ++ parts_text false ps)

-- without spaces, as 2^w-1
abbrev pub number_text : Number → List ℕ
number_text n = parts_text true n.parts

-- ---- patterns
abbrev pub letter : Bool → List ℕ
letter true = codes "i"
letter false = codes "u"

abbrev pub ptype_text : PatType → List ℕ
ptype_text t = letter t.signed ++ decimal t.times

abbrev pub stated_text : Option PatType → List ℕ
stated_text None = []
stated_text (Some t) = ptype_text t

abbrev pub spaced : List ℕ → List ℕ
spaced word = codes " " ++ (word ++ codes " ")

-- what stands before the operands, before operand n, and behind them
abbrev pub opening : Spelling → List ℕ → Option PatType → List ℕ
opening TypeCall word to = stated_text to ++ codes "("
opening Infix word to = codes "("
opening ShiftBy word to = codes "("
opening Call word to = word ++ codes "("
opening CallWithAmount word to = word ++ codes "("
opening CallWithType word to = word ++ (codes "(" ++ (stated_text to ++ codes ", "))
opening Select word to = codes "select("

abbrev pub between : Spelling → List ℕ → ℕ → List ℕ
between Infix word n = spaced word
between ShiftBy word n = spaced word
between Select word n = if n == 1 then spaced word else codes ", "
between _ word n = codes ", "

abbrev pub before : Spelling → List ℕ → ℕ → List ℕ
before spelling word n = if n == 0 then [] else between spelling word n

abbrev pub closing : Spelling → List ℕ → Amount → List ℕ
closing ShiftBy word k = spaced word ++ (amount_text k ++ codes ")")
closing CallWithAmount word k = codes ", " ++ (amount_text k ++ codes ")")
closing _ word k = codes ")"

-- operands from operand n on, and what is behind them
abbrev pub onward : Op → Amount → ℕ → List (List ℕ) → List ℕ
onward op k n [] = closing (spelling_of op) (op_word op) k
onward op k n (a ∷ args) = before (spelling_of op) (op_word op) n ++ (a ++ onward op k (n + 1) args)

abbrev pub lane_opening : LaneName → Option PatType → List ℕ
lane_opening op None = codes "@" ++ (lane_word op ++ codes "(")
lane_opening op (Some t) = codes "@" ++ (lane_word op ++ (codes "(" ++ (ptype_text t ++ codes ", ")))

abbrev pub comma : ℕ → List ℕ
comma n = if n == 0 then [] else codes ", "

abbrev pub lane_closing : LaneName → Amount → List ℕ
lane_closing op k = if (lane_shape op).amount then codes ", " ++ (amount_text k ++ codes ")") else codes ")"

abbrev pub lane_onward : LaneName → Amount → ℕ → List (List ℕ) → List ℕ
lane_onward op k n [] = lane_closing op k
lane_onward op k n (a ∷ args) = comma n ++ (a ++ lane_onward op k (n + 1) args)

abbrev pub name_by : Option VarDecl → List ℕ
name_by None = []
name_by (Some d) = d.name

abbrev pub const_text : Number → PatType → List ℕ
const_text n ty = codes "{" ++ (number_text n ++ (codes "}" ++ ptype_text ty))

abbrev pub text_step : List VarDecl → Pattern-F (List ℕ) → List ℕ
text_step vars (Var n) = name_by (slice_get vars n)
text_step vars (Const n ty) = const_text n ty
text_step vars (Node op to k args) = opening (spelling_of op) (op_word op) to ++ onward op k 0 args
text_step vars (Lane op to k args) = lane_opening op to ++ lane_onward op k 0 args

-- each operation between operands in round brackets, with a space on each side of its sign
abbrev pub pattern_text : List VarDecl → Pattern → List ℕ
pattern_text vars = fold-Pattern (List ℕ) (text_step vars)

-- ---- lines
abbrev pub ended : List ℕ → List ℕ
ended line = line ++ codes "\n"

abbrev pub kind_word : Kind → List ℕ
kind_word Lift = codes "lift"
kind_word (Lower target) = target_word target

abbrev pub width_text : ℤ → List ℕ
width_text w = codes " " ++ signed_decimal w

abbrev pub range_text : Number × Number → List ℕ
range_text r = codes " from " ++ (number_text r.0 ++ (codes " to " ++ number_text r.1))

abbrev pub range_or_none : Option (Number × Number) → List ℕ
range_or_none None = []
range_or_none (Some r) = range_text r

abbrev pub shift_text : Option (Number × Number) → List ℕ
shift_text None = []
shift_text (Some r) = codes "shift k" ++ ended (range_text r)

abbrev pub var_text : VarDecl → List ℕ
var_text d = codes "var " ++ (d.name ++ (codes " " ++ (ptype_text d.ty ++ ended (range_or_none d.range))))

abbrev pub child_text : ℕ → List ℕ
child_text n = codes "/" ++ decimal n

-- `/` for the root, else as /0/1
abbrev pub path_text : List ℕ → List ℕ
path_text [] = codes "/"
path_text (n ∷ ns) = flat_map child_text (n ∷ ns)

abbrev pub rule_name : Option RuleParts → List ℕ
rule_name None = []
rule_name (Some r) = r.name

abbrev pub by_text : List RuleParts → By → List ℕ
by_text rules (by.Axiom a) = axiom_name a
by_text rules (by.Rule n) = codes "use " ++ rule_name (slice_get rules n)

abbrev pub step_side_text : Bool → List ℕ
step_side_text true = codes "step l "
step_side_text false = codes "step r "

abbrev pub step_text : List RuleParts → Step → List ℕ
step_text rules s = step_side_text s.left ++ (path_text s.path ++ (codes " " ++ ended (by_text rules s.by)))

abbrev pub head_text : RuleParts → List ℕ
head_text r = codes "rule " ++ (ended r.name ++ (codes "widths" ++ (ended (flat_map width_text r.widths) ++ shift_text r.shift)))

abbrev pub sides_text : RuleParts → List ℕ
sides_text r = codes "left " ++ (ended (pattern_text r.vars r.lhs) ++ (codes "right " ++ ended (pattern_text r.vars r.rhs)))

abbrev pub rule_text : List RuleParts → RuleParts → List ℕ
rule_text rules r = head_text r ++ (flat_map var_text r.vars ++ (sides_text r ++ (flat_map (step_text rules) r.steps ++ codes "end\n")))

-- the text of a file
abbrev pub rules_text : FileParts → List ℕ
rules_text f = codes "rules " ++ (decimal f.format ++ (codes " " ++ (ended (kind_word f.kind) ++ flat_map (rule_text f.rules) f.rules)))

-- the file in another format
abbrev pub in_format : ℕ → FileParts → FileParts
in_format format f = record f { format = format }
