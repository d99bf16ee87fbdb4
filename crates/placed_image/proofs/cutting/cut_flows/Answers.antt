use Rattle.std.proofs.Common.{map}
use Rattle.placed_image.proofs.Cuts.{whole}
use Rattle.placed_image.proofs.cutting.cut_flows.Goals as goal

pub returns-clause-cut : goal.returns-clause-cut
returns-clause-cut c valid = whole c.args.builder c.args.flows.now c.loop-flow.flow-index (map (λ v. v.items) c.loop-flow.cuts.items) c.loop-flow-test.false (c.loop-flow.invariant.cut valid)
