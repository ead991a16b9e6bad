use Rattle.std.proofs.Common.{◌≡◌, ◌∙◌, ap, sym, List, ℕ, Bool, map, arith}
use Rattle.std.specs.Prelude.{nat_lt, slice_index_or, [], if◌then◌else◌}
use Rattle.pf_machine.specs.declared.registers.RegFile.{RegFile}
use Rattle.pf_machine.specs.declared.registers.Reg.TheVariants.{K}
use Rattle.pf_tables.specs.Meaning.Effects.{made_by_two}
use Rattle.pf_tables.proofs.TruthLaws.{truths_back}
use Rattle.pf_tables.proofs.effects.compare.Goals as goal

pub content-left-requires-clause-within : goal.content-left-requires-clause-within
content-left-requires-clause-within g c = c.requires.runs.uses 0 K (omega arith)

pub content-right-requires-clause-within : goal.content-right-requires-clause-within
content-right-requires-clause-within g c = c.requires.runs.uses 1 K (omega arith)

pub returns : goal.returns
returns g c =
    let f = c.args.regs.now in
    let s = g.R.Rows.set in
    let r = s.row c.args.place in
    let a = slice_index_or f.vectors c.args.r.left [] in
    let b = slice_index_or f.vectors c.args.r.right [] in
    let made : c.by_two.new.out ≡ made_by_two s.vector r a b = rw (← c.content-left.ensures.value, ← c.content-right.ensures.value, ← c.plain_row-row.ensures.value) c.by_two.ensures in
    let truths : c.set_truths.new.truths ≡ map (λ n. nat_lt 0 n) (map (λ b. if nat_lt 0 b then 1 else 0) (made_by_two s.vector r a b)) =
    c.set_truths.ensures ∙ ap (λ (bs : List ℕ). map (λ n. nat_lt 0 n) bs) made ∙ sym (truths_back (made_by_two s.vector r a b)) in
    let with : List Bool → RegFile = λ q. record { vectors = f.vectors; k = f.k; q = q } in
    ap with truths
