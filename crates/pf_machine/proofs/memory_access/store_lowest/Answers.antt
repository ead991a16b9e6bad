use Rattle.std.proofs.Common.{◌≡◌, take}
use Rattle.pf_machine.specs.Meaning.Bytes.{bytes}
use Rattle.pf_machine.proofs.MachineLaws.{lowest_bytes}
use Rattle.pf_machine.proofs.memory_access.store_lowest.Goals as goal

pub returns : goal.returns
returns c =
    let written : take c.from.result c.bytes_of-all.result ≡ bytes c.args.count c.args.n = rw (c.from.ensures, c.bytes_of-all.ensures) (lowest_bytes c.args.count c.args.n c.requires) in
    rw written at c.store.ensures
