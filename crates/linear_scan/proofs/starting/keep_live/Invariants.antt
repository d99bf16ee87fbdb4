use Rattle.std.proofs.Common.{◌≡◌, ◌++◌, map, take, drop}
use Rattle.lir_core.specs.Rows.{has_bit}
use Rattle.linear_scan.specs.Starts.{if_live}
use Rattle.linear_scan.proofs.starting.keep_live.Given as goal

abbrev pub invariant-loop-content : goal.invariant-loop-content
invariant-loop-content l = l.row ≡ map (if_live (has_bit l.head.live.now l.head.node)) (take l.content-index l.initial.row) ++ drop l.content-index l.initial.row
