use Rattle.std.proofs.Common.{◌≡◌, ◌++◌, take, All}
use Rattle.std.specs.List.{flat_map}
use Rattle.plain_form.proofs.writing.put_each.Given as goal

abbrev pub invariant-loop-item : goal.invariant-loop-item
invariant-loop-item g l = record {
  bytes : l.out.items ≡ l.fn.out.items ++ flat_map g.T.ToBytes.spelled (take l.item-index l.items);
  typed : All g.T.ToBytes.typed (take l.item-index l.items);
}
