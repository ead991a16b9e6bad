-- A node's text, by its operands' texts.
use Rattle.std.proofs.Common.{◌≡◌, sym, ap, ◌∙◌, ℕ, true, List, map, ◌++◌}
use Rattle.std.proofs.lemmas.List.{length-map}
use Rattle.pf_ints.specs.declared.lane.LaneType.{LaneType}
use Rattle.pf_values.specs.declared.op.Op.{Op}
use Rattle.pf_values.specs.declared.term.Term.{Term}
use Rattle.pf_values.specs.declared.term.Term.TheVariants.{Node, rolls-Node}
use Rattle.pf_values.specs.declared.term.Term.TheOpen.Term-F.{Node as NodeLayer}
use Rattle.pf_values.specs.declared.term.Term.TheFolds.{fold-roll-Term}
use Rattle.pf_values.specs.declared.names.Names.{Names}
use Rattle.pf_terms.specs.Meaning.TermTexts.{term_text, text_step, node_text}
use Rattle.pf_values.specs.Meaning.Spellings.{op_word, spelling_of}
use Rattle.pf_terms.specs.Steps.Pieces.{opening, onward}
use Rattle.pf_terms.proofs.Printing.{pieces}
use Rattle.pf_values.specs.Meaning.Terms.{is_well_formed}
use Rattle.pf_values.proofs.NodeParts.{node_formed}

text_is : (names : Names) (op : Op) (ty : LaneType) (k : ℕ) (args : List Term) → term_text names (Node op ty k args) ≡ node_text op ty k (map (term_text names) args)
text_is names op ty k args = ap (term_text names) (sym (rolls-Node op ty k args)) ∙ fold-roll-Term (List ℕ) (text_step names) (NodeLayer op ty k args)

-- the pieces of a node's text make the text
pub text_told : (names : Names) (t : Term) (op : Op) (ty : LaneType) (k : ℕ) (args xs : List Term) → t ≡ Node op ty k args → xs ≡ args → is_well_formed t ≡ true →
    opening (spelling_of op) (op_word op) ty ++ onward (spelling_of op) (op_word op) k 0 (map (term_text names) xs) ≡ term_text names t
text_told names t op ty k args xs is same h =
    let count = (node_formed t op ty k args is h).0 in
    ap (λ ys. opening (spelling_of op) (op_word op) ty ++ onward (spelling_of op) (op_word op) k 0 (map (term_text names) ys)) same
    ∙ pieces op ty k (map (term_text names) args) (length-map args (term_text names) ∙ count)
    ∙ sym (text_is names op ty k args) ∙ ap (term_text names) (sym is)
