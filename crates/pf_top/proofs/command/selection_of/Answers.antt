use Rattle.std.proofs.Common.{◌≡◌, string_bytes, sym, rules, ◌∙◌}
use Rattle.std.specs.Prelude.{codes}
use Rattle.pf_ints.specs.Meaning.Targets.{target_word}
use Rattle.pf_top.proofs.SixWords.{six_items, six_texts, second_text}
use Rattle.pf_top.proofs.command.selection_of.Goals as goal

pub returns : goal.returns
returns c =
    let items = six_items c.args.words.now _ _ _ _ _ _ c.in-len6.len_at_least c.in-len6.len_below c.select-item.is c.target-item.is c.kernel-item.is c.lift-item.is c.lower-item.is c.out-item.is in
    let first : codes "select" ≡ string_bytes c.select-item.result = search rules in
    let second : target_word c.in_ok-target.target ≡ string_bytes c.target-item.result = sym c.in_ok-target.ensures ∙ c.as_str-2.ensures.value in
    six_texts _ _ _ _ _ _ _ _ _ _ _ _ _ _ items first second c.as_str-3.ensures.value c.as_str-4.ensures.value c.as_str-5.ensures.value c.as_str-6.ensures.value

pub returns-in_err-target : goal.returns-in_err-target
returns-in_err-target c =
    let items = six_items c.args.words.now _ _ _ _ _ _ c.in-len6.len_at_least c.in-len6.len_below c.select-item.is c.target-item.is c.kernel-item.is c.lift-item.is c.lower-item.is c.out-item.is in
    rw c.from_residual.ensures (λ s all. c.in_err-target.ensures s.target (c.as_str-2.ensures.value ∙ second_text _ _ _ _ _ _ _ _ _ _ _ _ _ _ items all))
