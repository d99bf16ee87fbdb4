use Rattle.std.proofs.Common.{◌≡◌, drop}
use Rattle.global_live.specs.Search.{marks_of, all_marked}
use Rattle.global_live.proofs.search.Search.mark_each.Given as goal

abbrev pub invariant-loop-node : goal.invariant-loop-node
invariant-loop-node l = all_marked l.makers l.value (drop l.node-index l.nodes) (marks_of l.self) ≡ all_marked l.makers l.value l.nodes (marks_of l.initial.self)
