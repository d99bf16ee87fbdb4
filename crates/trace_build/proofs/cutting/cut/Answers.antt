use Rattle.std.proofs.Common.{◌-◌, length, refl}
use Rattle.trace_build.specs.Cuts.{lists_of}
use Rattle.trace_build.proofs.Cuts.{cut_step, cut_done}
use Rattle.trace_build.proofs.cutting.cut.Goals as goal

pub loop-rank-preserved : goal.loop-rank-preserved
loop-rank-preserved c = cut_step c.args.builder c.args.nodes.now c.args.ranks.now c.loop-rank.rank-index _ c.loop-rank.free (lists_of c.loop-rank.traces.items) c.begin.new.free (lists_of c.begin.new.traces.items) c.loop-rank.invariant c.requires.ranked c.loop-rank-test.true refl c.in_ok-begin.ensures.free c.in_ok-begin.ensures.traces

pub returns : goal.returns
returns c = cut_done c.args.builder c.args.nodes.now c.args.ranks.now c.loop-rank.rank-index (length c.args.nodes.now - length (lists_of c.loop-rank.traces.items)) c.loop-rank.free (lists_of c.loop-rank.traces.items) c.loop-rank.invariant c.requires.ranked c.loop-rank-test.false
