use Rattle.std.proofs.Common.{ap, ◌∙◌}
use Rattle.pf_layout.specs.Meaning.Orders.{place_of}
use Rattle.pf_blocks.proofs.driver.stored.Goals as goal

pub returns : goal.returns
returns g c = record {
  middle = c.repaired.new.maker.items;
  names = c.repaired.new.maker.next;
  kept = c.in_ok-k.k;
  goes = c.in_ok-k.ensures.continues;
  plain = λ ds p is lt. ap (λ o. place_of o p) (c.in_ok-k.ensures.order ds is) ∙ c.plain-plain.ensures.plain p lt;
  holds = c.in_ok-k.ensures.value;
  stores = c.in_ok-store_parts.ensures.items;
}
