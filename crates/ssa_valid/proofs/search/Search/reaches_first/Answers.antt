use Rattle.ssa_valid.specs.Search.{marks_of}
use Rattle.ssa_valid.proofs.Exploring.{found_is}
use Rattle.ssa_valid.proofs.search.Search.reaches_first.Goals as goal

pub returns : goal.returns
returns c = found_is c.args.sources.now c.args.readers.now c.args.maker c.args.value (marks_of c.args.self.now) (marks_of c.mark_each.new.self) (marks_of c.explore.new.self) c.has.result c.in_ok-mark_each.ensures c.in_ok-explore.ensures c.has.ensures
