use Rattle.ssa_lowered.specs.Data.{layout}
use Rattle.ssa_build.proofs.Entering.{stored_more, stored_end}
use Rattle.ssa_build.proofs.entry.store_all.Goals as goal

pub loop-v-preserved : goal.loop-v-preserved
loop-v-preserved c = λ new g. c.loop-v.invariant new (stored_more c.args.types.now (layout c.args.types.now) c.args.bytes c.args.variables.now c.loop-v.v-index _ c.loop-v-test.true c.in_ok-store_first.ensures g)

pub returns : goal.returns
returns c = c.loop-v.invariant c.loop-v.b (stored_end c.args.types.now (layout c.args.types.now) c.args.bytes c.loop-v.b c.args.variables.now c.loop-v.v-index c.loop-v-test.false)
