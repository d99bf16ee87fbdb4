use Rattle.std.proofs.Common.{◌≡◌, drop}
use Rattle.ssa_valid.specs.Search.{marks_of, all_marked}
use Rattle.ssa_valid.proofs.search.Search.mark_each.Given as goal

abbrev pub invariant-loop-block : goal.invariant-loop-block
invariant-loop-block l = all_marked l.maker l.value (drop l.block-index l.blocks) (marks_of l.self) ≡ all_marked l.maker l.value l.blocks (marks_of l.initial.self)
