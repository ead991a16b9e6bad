use Rattle.std.proofs.Common.{◌≡◌, ◌++◌, drop, take, All}
use Rattle.pf_isa.specs.Meaning.Texts.{printed, code_lines, IsOpOf}
use Rattle.pf_isa.proofs.write.push_code.Given as goal

abbrev pub invariant-loop-line : goal.invariant-loop-line
invariant-loop-line g l =
    record {
      text : l.text.items ++ printed (code_lines g.I.Isa.table l.n (drop l.line-index l.code) l.rest) ≡ l.fn.text.items ++ printed (code_lines g.I.Isa.table 0 l.code l.labels);
      known : All (λ line. IsOpOf g.I.Isa.is_op line) (take l.line-index l.code);
      count : l.n ≡ l.line-index;
    }
