use Rattle.ssa_valid.proofs.Tables.{noted_next}
use Rattle.ssa_valid.proofs.lists.Lists.note_operations.Goals as goal

pub loop-op-preserved : goal.loop-op-preserved
loop-op-preserved c = noted_next c.args.block c.args.ops.now c.loop-op.op-index c.op-item.result c.as_slice.result.now c.loop-op.self c.note_all.new.self c.args.self.now c.loop-op-test.true c.op-item.is c.as_slice.ensures c.in_ok-note_all.ensures c.loop-op.invariant
