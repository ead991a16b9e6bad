use Rattle.std.proofs.Common.{◌≡◌, string_bytes, sym, rules, ◌∙◌}
use Rattle.std.specs.Prelude.{codes}
use Rattle.pf_ints.specs.Meaning.Targets.{target_word}
use Rattle.pf_top.proofs.ThreeWords.{three_items, three_texts, middle_text}
use Rattle.pf_top.proofs.command.check_of.Goals as goal

pub returns : goal.returns
returns c =
    let items = three_items c.args.words.now _ _ _ c.in-len3.len_at_least c.in-len3.len_below c.check-item.is c.target-item.is c.file-item.is in
    let first : codes "check" ≡ string_bytes c.check-item.result = search rules in
    let second : target_word c.in_ok-target.target ≡ string_bytes c.target-item.result = sym c.in_ok-target.ensures ∙ c.as_str-2.ensures.value in
    three_texts _ _ _ _ _ _ _ _ items first second c.as_str-3.ensures.value

pub returns-in_err-target : goal.returns-in_err-target
returns-in_err-target c =
    let items = three_items c.args.words.now _ _ _ c.in-len3.len_at_least c.in-len3.len_below c.check-item.is c.target-item.is c.file-item.is in
    rw c.from_residual.ensures (λ d all. c.in_err-target.ensures d.target (c.as_str-2.ensures.value ∙ middle_text _ _ _ _ _ _ _ _ items all))
