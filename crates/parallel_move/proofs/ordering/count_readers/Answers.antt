use Rattle.std.proofs.Common.{arith}
use Rattle.parallel_move.proofs.Linking.{counted_few, counted_step}
use Rattle.parallel_move.proofs.ordering.count_readers.Goals as goal

pub add_reader-requires : goal.add_reader-requires
add_reader-requires c j lt = let few = counted_few c.loop-i.i j c.args.entries.now c.loop-i.entries c.loop-i.invariant lt in omega (arith, few)

pub loop-i-preserved : goal.loop-i-preserved
loop-i-preserved c = counted_step c.loop-i.i c.args.entries.now c.loop-i.entries c.add_reader.new.entries c.loop-i.invariant (omega arith) c.add_reader.ensures
