use Rattle.global_live.specs.Search.{marks_of}
use Rattle.global_live.proofs.Filled.{operations_more}
use Rattle.global_live.proofs.search.Search.follow_operations.Goals as goal

pub loop-lir-preserved : goal.loop-lir-preserved
loop-lir-preserved c = operations_more c.args.flow.now c.args.makers.now c.args.number c.args.lirs.now c.loop-lir.lir-index c.lir-item.result c.as_slice.result.now (marks_of c.args.self.now) (marks_of c.loop-lir.self) (marks_of c.follow.new.self) c.loop-lir-test.true c.lir-item.is c.as_slice.ensures c.loop-lir.invariant c.in_ok-follow.ensures
