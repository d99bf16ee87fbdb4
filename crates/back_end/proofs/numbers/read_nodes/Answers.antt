use Rattle.std.proofs.Common.{refl, ap, sym, ◌∙◌}
use Rattle.std.specs.Prelude.{◌&&◌}
use Rattle.link_blocks.specs.Fits.{trap_fits}
use Rattle.back_end.specs.Numbers.{lirs_number}
use Rattle.back_end.proofs.Reading.{further}
use Rattle.back_end.proofs.numbers.read_nodes.Goals as goal
use Rattle.modest_flows.proofs.Fitting.{both}

pub loop-node-preserved : goal.loop-node-preserved
loop-node-preserved c = record {
  end = refl;
  read = further (λ n. trap_fits n.end && lirs_number n.lirs) c.args.nodes.now c.loop-node.node-index c.node-item.result c.loop-node-test.true c.node-item.is c.loop-node.invariant.read (both _ _ c.read_kind.ensures (ap lirs_number (sym c.as_slice.ensures) ∙ c.read_lirs.ensures));
}
