use Rattle.std.proofs.Common.{◌++◌, ◌<◌, length, subst}
use Rattle.ssa_tables.specs.constants.Described.{described, all_described}
use Rattle.ssa_tables.proofs.constants.Telling.{counted_more}
use Rattle.ssa_tables.proofs.constants.bytes.push_descriptors.Goals as goal

pub loop-r-preserved : goal.loop-r-preserved
loop-r-preserved c =
    counted_more (described c.args.types.now c.args.first) c.loop-r.r (length c.args.types.now.records) c.loop-r.bytes.items c.push_descriptor.new.bytes.items
    (c.args.bytes.now.items ++ all_described c.args.types.now c.args.first) (subst (λ rs. c.loop-r.r < length rs) c.records-count.ensures c.loop-r-test.true)
    c.in_ok-push_descriptor.ensures c.loop-r.invariant
