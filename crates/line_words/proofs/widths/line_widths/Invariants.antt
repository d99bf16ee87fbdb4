use Rattle.std.proofs.Common.{◌≡◌, ◌++◌, drop, length}
use Rattle.std.specs.Prelude.{flat_map}
use Rattle.placed_code.specs.Layout.{followed}
use Rattle.link_blocks.specs.Plans.{placed_in}
use Rattle.line_words.specs.LineWidths.{block_widths, line_widths}
use Rattle.line_words.proofs.widths.line_widths.Given as goal

abbrev pub invariant-loop-i : goal.invariant-loop-i
invariant-loop-i l = l.widths.items ++ flat_map (block_widths (placed_in l.plan)) (followed (length (placed_in l.plan).blocks) (drop l.i l.plan.order)) ≡ line_widths (placed_in l.plan)
