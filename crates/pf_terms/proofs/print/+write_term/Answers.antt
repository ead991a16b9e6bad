use Rattle.std.proofs.Common.{arith, ◌≡◌, ◌∷◌, ◌++◌, sym, ap, ◌∙◌, map, drop, ◌+◌, true, append_assoc, ◌<◌, length}
use Rattle.std.proofs.lemmas.List.{drop_more}
use Rattle.pf_values.specs.Meaning.Terms.{is_well_formed, all_true}
use Rattle.pf_terms.specs.Meaning.TermTexts.{term_text}
use Rattle.pf_values.specs.Meaning.Spellings.{op_word, spelling_of}
use Rattle.pf_terms.specs.Steps.Pieces.{onward}
use Rattle.pf_values.proofs.NodeParts.{node_formed, formed_each, named_each}
use Rattle.pf_terms.proofs.NodeTexts.{text_told}
use Rattle.pf_terms.proofs.Printing.{written_more}
use Rattle.pf_terms.proofs.print.+write_term.Goals as goal

pub loop-n-init : goal.loop-n-init
loop-n-init t c =
    let xs = c.as_slice-arg-items.result.now in
    let same = c.as_slice-arg-items.ensures in
    let parts = node_formed c.args.term.now c.in-Node.op c.in-Node.ty c.in-Node.k c.in-Node.args c.in-Node.is c.requires.formed in
    let all : all_true (map is_well_formed xs) ≡ true = ap (λ ys. all_true (map is_well_formed ys)) same ∙ parts.1 in
    let rest = onward (spelling_of c.in-Node.op) (op_word c.in-Node.op) c.in-Node.k 0 (map (term_text c.args.names.now) xs) in
    record {
      formed = formed_each xs all;
      named = named_each c.args.names.now c.args.term.now c.in-Node.op c.in-Node.ty c.in-Node.k c.in-Node.args xs c.in-Node.is same c.requires.named;
      whole = ap (λ ys. ys ++ rest) c.in_ok-write_opening-in-Node.ensures ∙ append_assoc c.args.text.now.items _ rest
          ∙ ap (λ ys. c.args.text.now.items ++ ys) (text_told c.args.names.now c.args.term.now c.in-Node.op c.in-Node.ty c.in-Node.k c.in-Node.args xs c.in-Node.is same c.requires.formed);
    }

pub loop-n-preserved : goal.loop-n-preserved
loop-n-preserved t c =
    let xs = c.as_slice-arg-items.result.now in
    let n = c.loop-n.n in
    let x = c.arg-item.result in
    let names = c.args.names.now in
    let op = c.in-Node.op in
    let below : n < length xs = omega arith in
    let here : drop n xs ≡ x ∷ drop (n + 1) xs = drop_more xs n x below ∙ ap (λ y. y ∷ drop (n + 1) xs) (sym c.arg-item.is) in
    let all = c.args.text.now.items ++ term_text names c.args.term.now in
    record {
      formed = c.loop-n.invariant.formed;
      named = c.loop-n.invariant.named;
      whole = written_more (spelling_of op) (op_word op) c.loop-n.text.items c.write_before.new.text.items c.write_term.new.text.items (term_text names x) c.in-Node.k n (map (term_text names) (drop (n + 1) xs)) all
          c.in_ok-write_before-in-Node.ensures c.in_ok-write_term-in-Node.ensures
          (ap (λ ys. c.loop-n.text.items ++ onward (spelling_of op) (op_word op) c.in-Node.k n (map (term_text names) ys)) (sym here) ∙ c.loop-n.invariant.whole);
    }
