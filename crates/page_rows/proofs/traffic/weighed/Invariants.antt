use Rattle.std.proofs.Common.{◌≡◌, drop}
use Rattle.page_rows.specs.Traffic.{weighed}
use Rattle.page_rows.proofs.traffic.weighed.Given as goal

abbrev pub invariant-loop-line : goal.invariant-loop-line
invariant-loop-line l = weighed l.nodes 0 0 l.lines ≡ weighed l.nodes l.freq l.weight (drop l.line-index l.lines)
