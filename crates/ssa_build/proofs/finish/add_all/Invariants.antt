use Rattle.std.proofs.Common.{◌≡◌, List, ◌++◌}
use Rattle.std.specs.Prelude.{slice_index}
use Rattle.block_runs.specs.declared.end.End.{End}
use Rattle.ssa_exprs.specs.declared.making.Piece.{Piece}
use Rattle.ssa_exprs.specs.Making.{resolved}
use Rattle.ssa_build.specs.Blocks.{finished}
use Rattle.ssa_build.proofs.finish.add_all.Given as goal

abbrev pub invariant-loop-piece : goal.invariant-loop-piece
invariant-loop-piece l = (rest : List Piece) (last : End) → finished l.blocks last (resolved (λ t. slice_index l.places t) rest) ≡ finished l.fn.blocks last (resolved (λ t. slice_index l.places t) (l.yielded ++ rest))
