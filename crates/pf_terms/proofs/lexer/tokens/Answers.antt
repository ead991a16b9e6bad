use Rattle.std.proofs.Common.{arith, subst, sym, ap, ◌∙◌, [], ◌∷◌, ◌++◌, append-nil, append_assoc, ◌+◌}
use Rattle.pf_terms.specs.Meaning.Tokens.{IsLexed}
use Rattle.pf_terms.specs.declared.token.Token.{Token}
use Rattle.pf_terms.proofs.Lexing.{lexed_blank, lexed_token, lexed_end, front_end}
use Rattle.pf_terms.proofs.lexer.tokens.Goals as goal

pub loop-at-preserved-then-is_blank : goal.loop-at-preserved-then-is_blank
loop-at-preserved-then-is_blank c =
    record {
      within = omega arith;
      onward = λ ts h. c.loop-at.invariant.onward ts (lexed_blank c.args.text.now c.loop-at.at ts c.loop-at-test.true (sym c.is_blank.ensures ∙ c.if-is_blank.true) h);
    }

pub loop-at-preserved : goal.loop-at-preserved
loop-at-preserved c =
    let text = c.args.text.now in
    let at = c.loop-at.at in
    let size = c.front-size.result.0 in
    let kind = c.front-size.result.1 in
    let found : Token = record { start = at; end = at + size; kind = kind } in
    let front = front_end text at size kind c.loop-at-test.true c.front-size.ensures in
    record {
      within = front.1;
      onward = λ ts h.
          subst (λ us. IsLexed 0 text us) (sym (ap (λ us. us ++ ts) c.in_ok-push.ensures.items ∙ append_assoc c.loop-at.found.items (found ∷ []) ts))
          (c.loop-at.invariant.onward (found ∷ ts) (lexed_token text at size kind ts c.loop-at-test.true (sym c.is_blank.ensures ∙ c.if-is_blank.false) c.front-size.ensures h));
    }

pub returns : goal.returns
returns c =
    subst (λ us. IsLexed 0 c.args.text.now us) (append-nil c.loop-at.found.items) (c.loop-at.invariant.onward [] (lexed_end c.args.text.now c.loop-at.at c.loop-at-test.false))
