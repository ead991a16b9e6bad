use Rattle.std.proofs.Common.{◌≡◌, drop, map, length, true, All}
use Rattle.std.specs.List.{flat_map}
use Rattle.pf_terms.specs.Steps.Building.{is_formed_tree}
use Rattle.pf_terms.specs.Meaning.Meanings.{in_order, tap_uses, with_taps}
use Rattle.pf_terms.proofs.Lookups.{HasPair}
use Rattle.pf_terms.proofs.wide_taps.+add_uses.Given as goal

abbrev pub invariant-loop-n : goal.invariant-loop-n
invariant-loop-n l =
    record {
      formed : All (λ d. is_formed_tree d ≡ true) l.args;
      pair : HasPair l.less (length l.args);
      onward : with_taps l.wide_taps (flat_map (λ ts. ts) (drop l.n (in_order l.less (map (tap_uses l.images) l.args)))) ≡ with_taps l.fn.wide_taps (flat_map (λ ts. ts) (in_order l.less (map (tap_uses l.images) l.args)));
    }
