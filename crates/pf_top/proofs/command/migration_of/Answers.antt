use Rattle.std.proofs.Common.{◌≡◌, string_bytes, rules}
use Rattle.std.specs.Prelude.{codes}
use Rattle.pf_top.proofs.ThreeWords.{three_items, three_texts}
use Rattle.pf_top.proofs.command.migration_of.Goals as goal

pub returns : goal.returns
returns c =
    let items = three_items c.args.words.now _ _ _ c.in-len3.len_at_least c.in-len3.len_below c.migrate-item.is c.file-item.is c.out-item.is in
    let first : codes "migrate" ≡ string_bytes c.migrate-item.result = search rules in
    three_texts _ _ _ _ _ _ _ _ items first c.as_str-2.ensures.value c.as_str-3.ensures.value
