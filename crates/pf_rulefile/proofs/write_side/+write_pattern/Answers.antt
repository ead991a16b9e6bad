use Rattle.std.proofs.Common.{◌≡◌, ◌++◌, ◌∷◌, ◌+◌, ◌<◌, List, sym, ap, ◌∙◌, map, drop, length, arith}
use Rattle.std.proofs.lemmas.List.{drop_more}
use Rattle.pf_rules.specs.declared.pattern.Pattern.{Pattern}
use Rattle.pf_values.specs.Meaning.Spellings.{op_word, spelling_of}
use Rattle.pf_rulefile.specs.Meaning.RuleTexts.{pattern_text, opening, onward, before, lane_opening, lane_onward, comma}
use Rattle.pf_rulefile.proofs.WriteLaws.{node_text, lane_text, begun_text, operand_written}
use Rattle.pf_rulefile.proofs.write_side.+write_pattern.Goals as goal

pub loop-n-init : goal.loop-n-init
loop-n-init t c =
    let vars = c.args.vars.now in
    let n = c.in-Node in
    let xs = c.as_slice-arg-items.result.now in
    begun_text c.args.text.now.items c.write_opening.new.text.items (opening (spelling_of n.op) (op_word n.op) n.to) (onward n.op n.k 0 (map (pattern_text vars) xs)) (pattern_text vars c.args.pattern.now)
    c.in_ok-write_opening-in-Node.ensures
    (ap (λ (ys : List Pattern). opening (spelling_of n.op) (op_word n.op) n.to ++ onward n.op n.k 0 (map (pattern_text vars) ys)) c.as_slice-arg-items.ensures ∙ sym (node_text vars n.op n.to n.k n.args) ∙ ap (pattern_text vars) (sym n.is))

pub loop-n-preserved : goal.loop-n-preserved
loop-n-preserved t c =
    let vars = c.args.vars.now in
    let op = c.in-Node.op in
    let k = c.in-Node.k in
    let xs = c.as_slice-arg-items.result.now in
    let n = c.loop-n.n in
    let x = c.arg-item.result in
    let below : n < length xs = omega arith in
    let here : drop n xs ≡ x ∷ drop (n + 1) xs = drop_more xs n x below ∙ ap (λ y. y ∷ drop (n + 1) xs) (sym c.arg-item.is) in
    operand_written c.loop-n.text.items c.write_before.new.text.items c.write_pattern.new.text.items (before (spelling_of op) (op_word op) n) (pattern_text vars x) (onward op k (n + 1) (map (pattern_text vars) (drop (n + 1) xs)))
    (c.args.text.now.items ++ pattern_text vars c.args.pattern.now) c.in_ok-write_before-in-Node.ensures c.in_ok-write_pattern-in-Node.ensures
    (ap (λ (ys : List Pattern). c.loop-n.text.items ++ onward op k n (map (pattern_text vars) ys)) (sym here) ∙ c.loop-n.invariant)

pub loop-m-init : goal.loop-m-init
loop-m-init t c =
    let vars = c.args.vars.now in
    let n = c.in-Lane in
    let xs = c.as_slice-operand-items.result.now in
    begun_text c.args.text.now.items c.write_lane_opening.new.text.items (lane_opening n.op n.to) (lane_onward n.op n.k 0 (map (pattern_text vars) xs)) (pattern_text vars c.args.pattern.now)
    c.in_ok-write_lane_opening-in-Lane.ensures
    (ap (λ (ys : List Pattern). lane_opening n.op n.to ++ lane_onward n.op n.k 0 (map (pattern_text vars) ys)) c.as_slice-operand-items.ensures ∙ sym (lane_text vars n.op n.to n.k n.args) ∙ ap (pattern_text vars) (sym n.is))

pub loop-m-preserved : goal.loop-m-preserved
loop-m-preserved t c =
    let vars = c.args.vars.now in
    let op = c.in-Lane.op in
    let k = c.in-Lane.k in
    let xs = c.as_slice-operand-items.result.now in
    let n = c.loop-m.m in
    let x = c.operand-item.result in
    let below : n < length xs = omega arith in
    let here : drop n xs ≡ x ∷ drop (n + 1) xs = drop_more xs n x below ∙ ap (λ y. y ∷ drop (n + 1) xs) (sym c.operand-item.is) in
    operand_written c.loop-m.text.items c.write_comma.new.text.items c.write_pattern-in-loop-m.new.text.items (comma n) (pattern_text vars x) (lane_onward op k (n + 1) (map (pattern_text vars) (drop (n + 1) xs)))
    (c.args.text.now.items ++ pattern_text vars c.args.pattern.now) c.in_ok-write_comma-in-Lane.ensures c.in_ok-write_pattern-in-Lane.ensures
    (ap (λ (ys : List Pattern). c.loop-m.text.items ++ lane_onward op k n (map (pattern_text vars) ys)) (sym here) ∙ c.loop-m.invariant)
