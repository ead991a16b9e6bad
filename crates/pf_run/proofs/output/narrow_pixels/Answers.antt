use Rattle.std.proofs.Common.{◌≡◌, ◌<◌, ℕ, All, take, get_or, sym, ap, subst, ◌∙◌, arith}
use Rattle.std.proofs.lemmas.List.{take_all}
use Rattle.pf_machine.specs.Meaning.Bytes.{packed}
use Rattle.pf_run.proofs.PixelLaws.{packed_one, bytes_are_small}
use Rattle.pf_run.proofs.output.narrow_pixels.Goals as goal

pub returns : goal.returns
returns c =
    let small : (i : ℕ) → get_or c.args.bytes.now i 0 < 256 = λ i. omega (arith, c.type_inv.bytes i) in
    let all : take c.bytes.byte-index c.args.bytes.now ≡ c.args.bytes.now = take_all c.bytes.byte-index c.args.bytes.now c.bytes-test.false in
    let same : c.from_vec.result ≡ c.args.bytes.now = c.from_vec.ensures ∙ c.bytes.invariant ∙ all in
    record {
      bytes = ap (packed 1) same ∙ packed_one c.args.bytes.now small;
      small = subst (λ l. All (λ n. n < 256) l) (sym same) (bytes_are_small c.args.bytes.now small);
    }
