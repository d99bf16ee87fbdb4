use Rattle.ssa_build.proofs.Entering.{further_more, further_end}
use Rattle.ssa_build.proofs.entry.further.Goals as goal

pub loop-i-preserved : goal.loop-i-preserved
loop-i-preserved c = λ new g. c.loop-i.invariant new (further_more c.loop-i.i c.args.words c.loop-i-test.true c.in_ok-emit.ensures g)

pub returns : goal.returns
returns c = c.loop-i.invariant _ (further_end _ c.loop-i.i c.args.words c.loop-i-test.false)
