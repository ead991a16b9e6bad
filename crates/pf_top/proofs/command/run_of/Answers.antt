use Rattle.std.proofs.Common.{◌≡◌, ◌∙◌, sym, arith, string_bytes, rules}
use Rattle.pf_top.proofs.RunLists.{other_command, other_word, run_items, run_texts, some_texts}
use Rattle.pf_top.proofs.command.run_of.Goals as goal

pub returns : goal.returns
returns c =
    let items = run_items c.args.words.now _ _ _ c.in-len3-up.len_at_least c.run-item.is c.text-item.is c.out-item.is in
    let first : c.args.command.now ≡ string_bytes c.run-item.result = search rules in
    (run_texts string_bytes c.args.words.now _ _ _ _ _ _ _ items first c.as_str-2.ensures.value c.as_str-3.ensures.value, some_texts string_bytes _ (c.if-is_empty.ensures))

pub returns-then-ne : goal.returns-then-ne
returns-then-ne c = λ r is.
    other_command string_bytes c.args.words.now c.run-item.result c.args.command.now (omega (arith, c.in-len3-up.len_at_least)) c.run-item.is
    (λ same. other_word c.as_str.result.now c.args.command.now c.if-ne.ensures (c.as_str.ensures.value ∙ sym same)) _ is.0
