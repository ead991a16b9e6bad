use Rattle.std.proofs.Common.{pos}
use Rattle.pf_match.proofs.ListLaws.{each_type}
use Rattle.pf_match.proofs.lists.TypeLists.with.Goals as goal

pub returns : goal.returns
returns c =
    each_type c.args.self.now (record {
      u8s = c.in_ok-longer.field-0;
      i8s = c.in_ok-longer-2.field-0;
      u16s = c.in_ok-longer-3.field-0;
      i16s = c.in_ok-longer-4.field-0;
      u32s = c.in_ok-longer-5.field-0;
      i32s = c.in_ok-longer-6.field-0;
    }) c.args.types.now (pos c.args.number) c.in_ok-longer.ensures c.in_ok-longer-2.ensures c.in_ok-longer-3.ensures c.in_ok-longer-4.ensures c.in_ok-longer-5.ensures c.in_ok-longer-6.ensures
