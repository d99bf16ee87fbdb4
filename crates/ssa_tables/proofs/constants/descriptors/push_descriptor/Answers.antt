use Rattle.std.proofs.Common.{◌++◌, ap, ◌∙◌}
use Rattle.std.specs.Int.{to_le_bytes, w64}
use Rattle.ssa_lowered.specs.Constants.{ancestor}
use Rattle.ssa_tables.specs.constants.Described.{address_by, described}
use Rattle.ssa_tables.proofs.constants.Telling.{counted_more}
use Rattle.ssa_tables.proofs.constants.descriptors.push_descriptor.Goals as goal

pub loop-level-preserved : goal.loop-level-preserved
loop-level-preserved c =
    counted_more (λ j. to_le_bytes w64 (address_by c.args.first (ancestor c.args.types.now j c.args.r))) c.loop-level.level 16 c.loop-level.bytes.items c.extend_from_slice.new.self.items
    (c.args.bytes.now.items ++ described c.args.types.now c.args.first c.args.r) c.loop-level-test.true
    (c.in_ok-extend_from_slice.ensures.items ∙ ap (λ l. c.loop-level.bytes.items ++ l) (c.to_le_bytes.ensures ∙ ap (to_le_bytes w64) c.cell-address.ensures)) c.loop-level.invariant
