use Rattle.std.proofs.Common.{rules, arith, ◌≡◌, ◌∙◌, sym, ◌<◌, ◌≤◌, [], ◌∷◌, length}
use Rattle.pf_values.specs.Meaning.Operators.{row_of}
use Rattle.pf_bounds.proofs.TermLaws.{ready, each_typed, each_ranged, found_one, found_two, found_four, node_some, node_told, counted, operand_smaller}
use Rattle.pf_bounds.proofs.inference.+inferred.Goals.{in_default-via-then-as_slice-lt1, in_default-via-else-as_slice-lt1+else-this-lt2+else-this-lt3+then-this-lt4, in_default-via-else-as_slice-lt1+else-this-lt2+else-this-lt3+else-this-lt4+else-this-lt5}
use Rattle.pf_bounds.proofs.inference.+inferred.Goals as goal

pub inferred-requires : goal.inferred-requires
inferred-requires t c =
    let h = ready c.args.ranges.now c.args.term.now c.in-Node.op c.in-Node.ty c.in-Node.k c.in-Node.args c.as_slice.result.now c.in-Node.is c.as_slice.ensures c.requires.typed c.requires.entries in
    let below : 0 < length c.as_slice.result.now = omega (arith, c.in-len1.len_at_least) in
    let less = operand_smaller c.args.term.now c.in-Node.op c.in-Node.ty c.in-Node.k c.in-Node.args c.as_slice.result.now 0 c.x-item.result c.in-Node.is c.as_slice.ensures below c.x-item.is in
    (omega (arith, c.decreases, less), (each_typed c.as_slice.result.now 0 c.x-item.result h.typed below c.x-item.is, each_ranged c.args.ranges.now c.as_slice.result.now 0 c.x-item.result h.ranged below c.x-item.is))

pub of_one-requires-clause-count : goal.of_one-requires-clause-count
of_one-requires-clause-count t c =
    let h = ready c.args.ranges.now c.args.term.now c.in-Node.op c.in-Node.ty c.in-Node.k c.in-Node.args c.as_slice.result.now c.in-Node.is c.as_slice.ensures c.requires.typed c.requires.entries in
    let e : length c.as_slice.result.now ≡ 1 = omega (arith, c.in-len1.len_at_least, c.in-len1.len_below) in
    sym h.count ∙ e

pub of_one-requires-clause-amount : goal.of_one-requires-clause-amount
of_one-requires-clause-amount t c =
    let h = ready c.args.ranges.now c.args.term.now c.in-Node.op c.in-Node.ty c.in-Node.k c.in-Node.args c.as_slice.result.now c.in-Node.is c.as_slice.ensures c.requires.typed c.requires.entries in
    h.amount

pub found-requires : goal.found-requires
found-requires t c =
    let h = ready c.args.ranges.now c.args.term.now c.in-Node.op c.in-Node.ty c.in-Node.k c.in-Node.args c.as_slice.result.now c.in-Node.is c.as_slice.ensures c.requires.typed c.requires.entries in
    let e : length c.as_slice.result.now ≡ 1 = omega (arith, c.in-len1.len_at_least, c.in-len1.len_below) in
    let found = found_one c.args.ranges.now c.as_slice.result.now c.x-item.result c.inferred.result e c.x-item.is (record { value = c.inferred.ensures.value; kept = c.inferred.ensures.kept; member = c.inferred.ensures.member }) in
    node_some c.args.ranges.now c.in-Node.op c.in-Node.ty c.in-Node.k c.as_slice.result.now (c.inferred.result ∷ []) c.of_one.result h found c.of_one.ensures

pub inferred-requires-in-len2 : goal.inferred-requires-in-len2
inferred-requires-in-len2 t c =
    let h = ready c.args.ranges.now c.args.term.now c.in-Node.op c.in-Node.ty c.in-Node.k c.in-Node.args c.as_slice.result.now c.in-Node.is c.as_slice.ensures c.requires.typed c.requires.entries in
    let below : 0 < length c.as_slice.result.now = omega (arith, c.in-len2.len_at_least) in
    let less = operand_smaller c.args.term.now c.in-Node.op c.in-Node.ty c.in-Node.k c.in-Node.args c.as_slice.result.now 0 c.x-item-then-this-lt3.result c.in-Node.is c.as_slice.ensures below c.x-item-then-this-lt3.is in
    (omega (arith, c.decreases, less), (each_typed c.as_slice.result.now 0 c.x-item-then-this-lt3.result h.typed below c.x-item-then-this-lt3.is, each_ranged c.args.ranges.now c.as_slice.result.now 0 c.x-item-then-this-lt3.result h.ranged below c.x-item-then-this-lt3.is))

pub inferred-requires-in-len2-2 : goal.inferred-requires-in-len2-2
inferred-requires-in-len2-2 t c =
    let h = ready c.args.ranges.now c.args.term.now c.in-Node.op c.in-Node.ty c.in-Node.k c.in-Node.args c.as_slice.result.now c.in-Node.is c.as_slice.ensures c.requires.typed c.requires.entries in
    let below : 1 < length c.as_slice.result.now = omega (arith, c.in-len2.len_at_least) in
    let less = operand_smaller c.args.term.now c.in-Node.op c.in-Node.ty c.in-Node.k c.in-Node.args c.as_slice.result.now 1 c.y-item.result c.in-Node.is c.as_slice.ensures below c.y-item.is in
    (omega (arith, c.decreases, less), (each_typed c.as_slice.result.now 1 c.y-item.result h.typed below c.y-item.is, each_ranged c.args.ranges.now c.as_slice.result.now 1 c.y-item.result h.ranged below c.y-item.is))

pub of_two-requires-clause-count : goal.of_two-requires-clause-count
of_two-requires-clause-count t c =
    let h = ready c.args.ranges.now c.args.term.now c.in-Node.op c.in-Node.ty c.in-Node.k c.in-Node.args c.as_slice.result.now c.in-Node.is c.as_slice.ensures c.requires.typed c.requires.entries in
    let e : length c.as_slice.result.now ≡ 2 = omega (arith, c.in-len2.len_at_least, c.in-len2.len_below) in
    sym h.count ∙ e

pub of_two-requires-clause-amount : goal.of_two-requires-clause-amount
of_two-requires-clause-amount t c =
    let h = ready c.args.ranges.now c.args.term.now c.in-Node.op c.in-Node.ty c.in-Node.k c.in-Node.args c.as_slice.result.now c.in-Node.is c.as_slice.ensures c.requires.typed c.requires.entries in
    h.amount

pub found-requires-in-len2 : goal.found-requires-in-len2
found-requires-in-len2 t c =
    let h = ready c.args.ranges.now c.args.term.now c.in-Node.op c.in-Node.ty c.in-Node.k c.in-Node.args c.as_slice.result.now c.in-Node.is c.as_slice.ensures c.requires.typed c.requires.entries in
    let e : length c.as_slice.result.now ≡ 2 = omega (arith, c.in-len2.len_at_least, c.in-len2.len_below) in
    let found = found_two c.args.ranges.now c.as_slice.result.now c.x-item-then-this-lt3.result c.y-item.result c.inferred-in-len2.result c.inferred-in-len2-2.result e c.x-item-then-this-lt3.is c.y-item.is (record { value = c.inferred-in-len2.ensures.value; kept = c.inferred-in-len2.ensures.kept; member = c.inferred-in-len2.ensures.member }) (record { value = c.inferred-in-len2-2.ensures.value; kept = c.inferred-in-len2-2.ensures.kept; member = c.inferred-in-len2-2.ensures.member }) in
    node_some c.args.ranges.now c.in-Node.op c.in-Node.ty c.in-Node.k c.as_slice.result.now (c.inferred-in-len2.result ∷ c.inferred-in-len2-2.result ∷ []) c.of_two.result h found c.of_two.ensures

pub inferred-a-requires : goal.inferred-a-requires
inferred-a-requires t c =
    let h = ready c.args.ranges.now c.args.term.now c.in-Node.op c.in-Node.ty c.in-Node.k c.in-Node.args c.as_slice.result.now c.in-Node.is c.as_slice.ensures c.requires.typed c.requires.entries in
    let below : 0 < length c.as_slice.result.now = omega (arith, c.in-len4.len_at_least) in
    let less = operand_smaller c.args.term.now c.in-Node.op c.in-Node.ty c.in-Node.k c.in-Node.args c.as_slice.result.now 0 c.a-item.result c.in-Node.is c.as_slice.ensures below c.a-item.is in
    (omega (arith, c.decreases, less), (each_typed c.as_slice.result.now 0 c.a-item.result h.typed below c.a-item.is, each_ranged c.args.ranges.now c.as_slice.result.now 0 c.a-item.result h.ranged below c.a-item.is))

pub inferred-b-requires : goal.inferred-b-requires
inferred-b-requires t c =
    let h = ready c.args.ranges.now c.args.term.now c.in-Node.op c.in-Node.ty c.in-Node.k c.in-Node.args c.as_slice.result.now c.in-Node.is c.as_slice.ensures c.requires.typed c.requires.entries in
    let below : 1 < length c.as_slice.result.now = omega (arith, c.in-len4.len_at_least) in
    let less = operand_smaller c.args.term.now c.in-Node.op c.in-Node.ty c.in-Node.k c.in-Node.args c.as_slice.result.now 1 c.b-item.result c.in-Node.is c.as_slice.ensures below c.b-item.is in
    (omega (arith, c.decreases, less), (each_typed c.as_slice.result.now 1 c.b-item.result h.typed below c.b-item.is, each_ranged c.args.ranges.now c.as_slice.result.now 1 c.b-item.result h.ranged below c.b-item.is))

pub inferred-x-requires : goal.inferred-x-requires
inferred-x-requires t c =
    let h = ready c.args.ranges.now c.args.term.now c.in-Node.op c.in-Node.ty c.in-Node.k c.in-Node.args c.as_slice.result.now c.in-Node.is c.as_slice.ensures c.requires.typed c.requires.entries in
    let below : 2 < length c.as_slice.result.now = omega (arith, c.in-len4.len_at_least) in
    let less = operand_smaller c.args.term.now c.in-Node.op c.in-Node.ty c.in-Node.k c.in-Node.args c.as_slice.result.now 2 c.x-item-then-this-lt5.result c.in-Node.is c.as_slice.ensures below c.x-item-then-this-lt5.is in
    (omega (arith, c.decreases, less), (each_typed c.as_slice.result.now 2 c.x-item-then-this-lt5.result h.typed below c.x-item-then-this-lt5.is, each_ranged c.args.ranges.now c.as_slice.result.now 2 c.x-item-then-this-lt5.result h.ranged below c.x-item-then-this-lt5.is))

pub inferred-y-requires : goal.inferred-y-requires
inferred-y-requires t c =
    let h = ready c.args.ranges.now c.args.term.now c.in-Node.op c.in-Node.ty c.in-Node.k c.in-Node.args c.as_slice.result.now c.in-Node.is c.as_slice.ensures c.requires.typed c.requires.entries in
    let below : 3 < length c.as_slice.result.now = omega (arith, c.in-len4.len_at_least) in
    let less = operand_smaller c.args.term.now c.in-Node.op c.in-Node.ty c.in-Node.k c.in-Node.args c.as_slice.result.now 3 c.y-item-then-this-lt5.result c.in-Node.is c.as_slice.ensures below c.y-item-then-this-lt5.is in
    (omega (arith, c.decreases, less), (each_typed c.as_slice.result.now 3 c.y-item-then-this-lt5.result h.typed below c.y-item-then-this-lt5.is, each_ranged c.args.ranges.now c.as_slice.result.now 3 c.y-item-then-this-lt5.result h.ranged below c.y-item-then-this-lt5.is))

pub of_four-requires : goal.of_four-requires
of_four-requires t c =
    let h = ready c.args.ranges.now c.args.term.now c.in-Node.op c.in-Node.ty c.in-Node.k c.in-Node.args c.as_slice.result.now c.in-Node.is c.as_slice.ensures c.requires.typed c.requires.entries in
    let e : length c.as_slice.result.now ≡ 4 = omega (arith, c.in-len4.len_at_least, c.in-len4.len_below) in
    record { count = sym h.count ∙ e }

pub found-requires-in-len4 : goal.found-requires-in-len4
found-requires-in-len4 t c =
    let h = ready c.args.ranges.now c.args.term.now c.in-Node.op c.in-Node.ty c.in-Node.k c.in-Node.args c.as_slice.result.now c.in-Node.is c.as_slice.ensures c.requires.typed c.requires.entries in
    let e : length c.as_slice.result.now ≡ 4 = omega (arith, c.in-len4.len_at_least, c.in-len4.len_below) in
    let found = found_four c.args.ranges.now c.as_slice.result.now c.a-item.result c.b-item.result c.x-item-then-this-lt5.result c.y-item-then-this-lt5.result c.inferred-a.result c.inferred-b.result c.inferred-x.result c.inferred-y.result e c.a-item.is c.b-item.is c.x-item-then-this-lt5.is c.y-item-then-this-lt5.is (record { value = c.inferred-a.ensures.value; kept = c.inferred-a.ensures.kept; member = c.inferred-a.ensures.member }) (record { value = c.inferred-b.ensures.value; kept = c.inferred-b.ensures.kept; member = c.inferred-b.ensures.member }) (record { value = c.inferred-x.ensures.value; kept = c.inferred-x.ensures.kept; member = c.inferred-x.ensures.member }) (record { value = c.inferred-y.ensures.value; kept = c.inferred-y.ensures.kept; member = c.inferred-y.ensures.member }) in
    node_some c.args.ranges.now c.in-Node.op c.in-Node.ty c.in-Node.k c.as_slice.result.now (c.inferred-a.result ∷ c.inferred-b.result ∷ c.inferred-x.result ∷ c.inferred-y.result ∷ []) c.of_four.result h found (c.of_four.ensures c.in-Node.ty c.in-Node.k)

pub unreachable-requires : goal.unreachable-requires
unreachable-requires t c =
    let h = ready c.args.ranges.now c.args.term.now c.in-Node.op c.in-Node.ty c.in-Node.k c.in-Node.args c.as_slice.result.now c.in-Node.is c.as_slice.ensures c.requires.typed c.requires.entries in
    let n = counted (row_of c.in-Node.op).operands (length c.as_slice.result.now) h.count in
    elim c.in_default.branch [
      | in_default-via-then-as_slice-lt1 w ↦ let d : length c.as_slice.result.now < 1 = search rules in omega (arith, d, n.some)
      | in_default-via-else-as_slice-lt1+else-this-lt2+else-this-lt3+then-this-lt4 w ↦ let d : 3 ≤ length c.as_slice.result.now = search rules in let e : length c.as_slice.result.now < 4 = search rules in n.other (omega (arith, d, e))
      | in_default-via-else-as_slice-lt1+else-this-lt2+else-this-lt3+else-this-lt4+else-this-lt5 w ↦ let d : 5 ≤ length c.as_slice.result.now = search rules in omega (arith, d, n.most)
    ]

pub returns-in-len1-clause-value : goal.returns-in-len1-clause-value
returns-in-len1-clause-value t c =
    let h = ready c.args.ranges.now c.args.term.now c.in-Node.op c.in-Node.ty c.in-Node.k c.in-Node.args c.as_slice.result.now c.in-Node.is c.as_slice.ensures c.requires.typed c.requires.entries in
    let e : length c.as_slice.result.now ≡ 1 = omega (arith, c.in-len1.len_at_least, c.in-len1.len_below) in
    let found = found_one c.args.ranges.now c.as_slice.result.now c.x-item.result c.inferred.result e c.x-item.is (record { value = c.inferred.ensures.value; kept = c.inferred.ensures.kept; member = c.inferred.ensures.member }) in
    (node_told c.args.ranges.now c.args.term.now c.in-Node.op c.in-Node.ty c.in-Node.k c.in-Node.args c.as_slice.result.now (c.inferred.result ∷ []) c.of_one.result c.found.result c.in-Node.is c.as_slice.ensures h found c.of_one.ensures c.found.ensures).value

pub returns-in-len2-clause-value : goal.returns-in-len2-clause-value
returns-in-len2-clause-value t c =
    let h = ready c.args.ranges.now c.args.term.now c.in-Node.op c.in-Node.ty c.in-Node.k c.in-Node.args c.as_slice.result.now c.in-Node.is c.as_slice.ensures c.requires.typed c.requires.entries in
    let e : length c.as_slice.result.now ≡ 2 = omega (arith, c.in-len2.len_at_least, c.in-len2.len_below) in
    let found = found_two c.args.ranges.now c.as_slice.result.now c.x-item-then-this-lt3.result c.y-item.result c.inferred-in-len2.result c.inferred-in-len2-2.result e c.x-item-then-this-lt3.is c.y-item.is (record { value = c.inferred-in-len2.ensures.value; kept = c.inferred-in-len2.ensures.kept; member = c.inferred-in-len2.ensures.member }) (record { value = c.inferred-in-len2-2.ensures.value; kept = c.inferred-in-len2-2.ensures.kept; member = c.inferred-in-len2-2.ensures.member }) in
    (node_told c.args.ranges.now c.args.term.now c.in-Node.op c.in-Node.ty c.in-Node.k c.in-Node.args c.as_slice.result.now (c.inferred-in-len2.result ∷ c.inferred-in-len2-2.result ∷ []) c.of_two.result c.found-in-len2.result c.in-Node.is c.as_slice.ensures h found c.of_two.ensures c.found-in-len2.ensures).value

pub returns-in-len4-clause-value : goal.returns-in-len4-clause-value
returns-in-len4-clause-value t c =
    let h = ready c.args.ranges.now c.args.term.now c.in-Node.op c.in-Node.ty c.in-Node.k c.in-Node.args c.as_slice.result.now c.in-Node.is c.as_slice.ensures c.requires.typed c.requires.entries in
    let e : length c.as_slice.result.now ≡ 4 = omega (arith, c.in-len4.len_at_least, c.in-len4.len_below) in
    let found = found_four c.args.ranges.now c.as_slice.result.now c.a-item.result c.b-item.result c.x-item-then-this-lt5.result c.y-item-then-this-lt5.result c.inferred-a.result c.inferred-b.result c.inferred-x.result c.inferred-y.result e c.a-item.is c.b-item.is c.x-item-then-this-lt5.is c.y-item-then-this-lt5.is (record { value = c.inferred-a.ensures.value; kept = c.inferred-a.ensures.kept; member = c.inferred-a.ensures.member }) (record { value = c.inferred-b.ensures.value; kept = c.inferred-b.ensures.kept; member = c.inferred-b.ensures.member }) (record { value = c.inferred-x.ensures.value; kept = c.inferred-x.ensures.kept; member = c.inferred-x.ensures.member }) (record { value = c.inferred-y.ensures.value; kept = c.inferred-y.ensures.kept; member = c.inferred-y.ensures.member }) in
    (node_told c.args.ranges.now c.args.term.now c.in-Node.op c.in-Node.ty c.in-Node.k c.in-Node.args c.as_slice.result.now (c.inferred-a.result ∷ c.inferred-b.result ∷ c.inferred-x.result ∷ c.inferred-y.result ∷ []) c.of_four.result c.found-in-len4.result c.in-Node.is c.as_slice.ensures h found (c.of_four.ensures c.in-Node.ty c.in-Node.k) c.found-in-len4.ensures).value

pub returns-in-len1-clause-member : goal.returns-in-len1-clause-member
returns-in-len1-clause-member t c =
    let h = ready c.args.ranges.now c.args.term.now c.in-Node.op c.in-Node.ty c.in-Node.k c.in-Node.args c.as_slice.result.now c.in-Node.is c.as_slice.ensures c.requires.typed c.requires.entries in
    let e : length c.as_slice.result.now ≡ 1 = omega (arith, c.in-len1.len_at_least, c.in-len1.len_below) in
    let found = found_one c.args.ranges.now c.as_slice.result.now c.x-item.result c.inferred.result e c.x-item.is (record { value = c.inferred.ensures.value; kept = c.inferred.ensures.kept; member = c.inferred.ensures.member }) in
    (node_told c.args.ranges.now c.args.term.now c.in-Node.op c.in-Node.ty c.in-Node.k c.in-Node.args c.as_slice.result.now (c.inferred.result ∷ []) c.of_one.result c.found.result c.in-Node.is c.as_slice.ensures h found c.of_one.ensures c.found.ensures).member

pub returns-in-len2-clause-member : goal.returns-in-len2-clause-member
returns-in-len2-clause-member t c =
    let h = ready c.args.ranges.now c.args.term.now c.in-Node.op c.in-Node.ty c.in-Node.k c.in-Node.args c.as_slice.result.now c.in-Node.is c.as_slice.ensures c.requires.typed c.requires.entries in
    let e : length c.as_slice.result.now ≡ 2 = omega (arith, c.in-len2.len_at_least, c.in-len2.len_below) in
    let found = found_two c.args.ranges.now c.as_slice.result.now c.x-item-then-this-lt3.result c.y-item.result c.inferred-in-len2.result c.inferred-in-len2-2.result e c.x-item-then-this-lt3.is c.y-item.is (record { value = c.inferred-in-len2.ensures.value; kept = c.inferred-in-len2.ensures.kept; member = c.inferred-in-len2.ensures.member }) (record { value = c.inferred-in-len2-2.ensures.value; kept = c.inferred-in-len2-2.ensures.kept; member = c.inferred-in-len2-2.ensures.member }) in
    (node_told c.args.ranges.now c.args.term.now c.in-Node.op c.in-Node.ty c.in-Node.k c.in-Node.args c.as_slice.result.now (c.inferred-in-len2.result ∷ c.inferred-in-len2-2.result ∷ []) c.of_two.result c.found-in-len2.result c.in-Node.is c.as_slice.ensures h found c.of_two.ensures c.found-in-len2.ensures).member

pub returns-in-len4-clause-member : goal.returns-in-len4-clause-member
returns-in-len4-clause-member t c =
    let h = ready c.args.ranges.now c.args.term.now c.in-Node.op c.in-Node.ty c.in-Node.k c.in-Node.args c.as_slice.result.now c.in-Node.is c.as_slice.ensures c.requires.typed c.requires.entries in
    let e : length c.as_slice.result.now ≡ 4 = omega (arith, c.in-len4.len_at_least, c.in-len4.len_below) in
    let found = found_four c.args.ranges.now c.as_slice.result.now c.a-item.result c.b-item.result c.x-item-then-this-lt5.result c.y-item-then-this-lt5.result c.inferred-a.result c.inferred-b.result c.inferred-x.result c.inferred-y.result e c.a-item.is c.b-item.is c.x-item-then-this-lt5.is c.y-item-then-this-lt5.is (record { value = c.inferred-a.ensures.value; kept = c.inferred-a.ensures.kept; member = c.inferred-a.ensures.member }) (record { value = c.inferred-b.ensures.value; kept = c.inferred-b.ensures.kept; member = c.inferred-b.ensures.member }) (record { value = c.inferred-x.ensures.value; kept = c.inferred-x.ensures.kept; member = c.inferred-x.ensures.member }) (record { value = c.inferred-y.ensures.value; kept = c.inferred-y.ensures.kept; member = c.inferred-y.ensures.member }) in
    (node_told c.args.ranges.now c.args.term.now c.in-Node.op c.in-Node.ty c.in-Node.k c.in-Node.args c.as_slice.result.now (c.inferred-a.result ∷ c.inferred-b.result ∷ c.inferred-x.result ∷ c.inferred-y.result ∷ []) c.of_four.result c.found-in-len4.result c.in-Node.is c.as_slice.ensures h found (c.of_four.ensures c.in-Node.ty c.in-Node.k) c.found-in-len4.ensures).member
