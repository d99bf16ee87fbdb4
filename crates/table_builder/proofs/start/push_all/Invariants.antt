use Rattle.std.proofs.Common.{◌≡◌, take}
use Rattle.table_builder.specs.Sound.{IsSound}
use Rattle.table_builder.proofs.start.push_all.Given as goal

abbrev pub invariant-loop-of : goal.invariant-loop-of
invariant-loop-of l = record {
  sound : IsSound l.table.types l.table.entries.items l.table.bases.items;
  entries : l.table.entries.items ≡ take l.of-index l.types;
  records : l.table.types.records ≡ l.initial.table.types.records;
  signatures : l.table.types.signatures ≡ l.initial.table.types.signatures;
  layouts : l.table.layouts ≡ l.initial.table.layouts;
  bases : l.table.bases ≡ l.initial.table.bases;
}
