use Rattle.std.proofs.Common.{◌≡◌, ◌≤◌, ◌^◌, drop}
use Rattle.link_layout.specs.Starts.{end_from}
use Rattle.link_layout.proofs.blocks.end_of.Given as goal

abbrev pub invariant-loop-width : goal.invariant-loop-width
invariant-loop-width l = record { low : l.at ≤ 2 ^ 18; ends : end_from l.at (drop l.width-index l.widths) ≡ end_from l.first l.widths }
