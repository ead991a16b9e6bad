use Rattle.pf_rulefile.proofs.TokenLaws.{no_token, token_in_front}
use Rattle.pf_rulefile.proofs.token.next_token.Goals as goal

pub returns-in-empty-clause-value : goal.returns-in-empty-clause-value
returns-in-empty-clause-value c = no_token c.args.text.now c.from_solid-solid.result.now c.from_solid-solid.ensures.value c.in-empty.len_below

pub returns-in-len1-up-clause-value : goal.returns-in-len1-up-clause-value
returns-in-len1-up-clause-value c =
    let e = c.stuck_count-end.ensures in
    token_in_front c.args.text.now c.from_solid-solid.result.now c.stuck_count-end.result c.from_solid-solid.ensures.value c.in-len1-up.len_at_least e.within e.stuck e.behind
