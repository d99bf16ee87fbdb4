use Rattle.std.proofs.Common.{refl}
use Rattle.boundary_resolve.proofs.Sought.{homes_more}
use Rattle.boundary_resolve.proofs.moves.set_of.Goals as goal

pub loop-value-preserved : goal.loop-value-preserved
loop-value-preserved c = homes_more c.args.values.now c.loop-value.value-index _ c.loop-value.set c.insert.new.self c.loop-value.invariant c.loop-value-test.true refl c.in_ok-insert.ensures.updates
