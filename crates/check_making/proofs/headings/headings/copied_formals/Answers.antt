use Rattle.std.proofs.Common.{◌∙◌, arith}
use Rattle.check_making.proofs.headings.Signing.{take_next, take_past}
use Rattle.check_making.proofs.headings.headings.copied_formals.Goals as goal

pub loop-x-preserved : goal.loop-x-preserved
loop-x-preserved c = c.in_ok-push.ensures.ok ∙ take_next c.args.formals.now c.loop-x.all c.loop-x.x-index _ c.loop-x-test.true c.loop-x.invariant

pub returns-clause-same : goal.returns-clause-same
returns-clause-same c = c.loop-x.invariant ∙ take_past c.args.formals.now c.loop-x.x-index (let past = c.loop-x-test.false in omega (arith, past))
