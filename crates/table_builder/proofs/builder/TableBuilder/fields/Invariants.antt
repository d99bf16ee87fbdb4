use Rattle.std.proofs.Common.{take}
use Rattle.table_builder.specs.Contents.{AreFields}
use Rattle.table_builder.proofs.builder.TableBuilder.fields.Given as goal

abbrev pub invariant-loop-one : goal.invariant-loop-one
invariant-loop-one l = AreFields l.self.table.entries.items l.fields (take l.one-index l.added)
