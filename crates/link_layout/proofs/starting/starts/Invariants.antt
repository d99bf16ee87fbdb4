use Rattle.std.proofs.Common.{◌≡◌, ◌≤◌, ◌^◌, ◌++◌, drop}
use Rattle.link_layout.specs.Starts.{starts_from, end_from}
use Rattle.link_layout.proofs.starting.starts.Given as goal

abbrev pub invariant-loop-width : goal.invariant-loop-width
invariant-loop-width l = record {
  low : l.at ≤ 2 ^ 18;
  starts : l.starts.items ++ starts_from l.at (drop l.width-index l.widths) ≡ starts_from l.initial.first l.widths;
  ends : end_from l.at (drop l.width-index l.widths) ≡ end_from l.initial.first l.widths;
}
