use Rattle.std.proofs.Common.{rules, []}
use Rattle.pf_isa.proofs.HeadWordLaws.{two_behind, other_word}
use Rattle.pf_isa.proofs.head_words.behind_word.Goals as goal

pub returns : goal.returns
returns c = two_behind c.args.words.now (record { ref_ptr = (0, 0); now = [] }) c.args.key.now c.in-len2.len_at_least c.in-len2.len_below (search rules)

pub returns-then-ne : goal.returns-then-ne
returns-then-ne c = other_word c.args.words.now (record { ref_ptr = (0, 0); now = [] }) c.args.key.now c.in-len2.len_at_least c.in-len2.len_below (λ e. search rules)
