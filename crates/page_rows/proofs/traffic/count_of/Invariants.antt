use Rattle.std.proofs.Common.{◌≡◌, ◌+◌, drop}
use Rattle.std.specs.List.{count_by}
use Rattle.page_rows.specs.Traffic.{is_of}
use Rattle.page_rows.proofs.traffic.count_of.Given as goal

abbrev pub invariant-loop-line : goal.invariant-loop-line
invariant-loop-line l = l.count + count_by (is_of l.kind) (drop l.line-index l.lines) ≡ count_by (is_of l.kind) l.lines
