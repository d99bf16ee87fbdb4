use Rattle.global_live.specs.Search.{marks_of}
use Rattle.global_live.proofs.Filled.{follow_more}
use Rattle.global_live.proofs.search.Search.follow.Goals as goal

pub loop-value-preserved : goal.loop-value-preserved
loop-value-preserved c = follow_more c.args.flow.now c.args.makers.now c.args.number c.args.values.now c.loop-value.value-index (marks_of c.args.self.now) (marks_of c.loop-value.self) (marks_of c.mark.new.self) (marks_of c.explore.new.self) c.loop-value-test.true c.loop-value.invariant c.in_ok-mark.ensures c.in_ok-explore.ensures
