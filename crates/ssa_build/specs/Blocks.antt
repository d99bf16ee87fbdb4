-- Blocks from pieces without places, and the blocks of labels.
use Rattle.std.specs.Prelude.{ℕ, List, [], ◌∷◌, ◌++◌, min, replicate, Option, None, slice_set, slice_index}
use Rattle.block_runs.specs.declared.end.End.{End}
use Rattle.block_runs.specs.declared.end.End.TheVariants.{Return}
use Rattle.ssa_core.specs.declared.procedure.Op.{Op}
use Rattle.ssa_core.specs.declared.procedure.Block.{Block}
use Rattle.ssa_lowered.specs.Pieces.{numbers}
use Rattle.ssa_exprs.specs.declared.making.Bound.{Bound}
use Rattle.ssa_exprs.specs.declared.making.Piece.{Piece}
use Rattle.ssa_exprs.specs.declared.making.Piece.TheVariants.{Adds, Ends}
use Rattle.ssa_exprs.specs.Making.{View, resolved}
use Rattle.ssa_build.specs.declared.finish.Head.{Head}
use Rattle.ssa_build.specs.declared.finish.Blocks.{Blocks}

-- the block of each label, by those of some labels and one bound label after the other
abbrev pub placed_at : List Bound → List ℕ → List ℕ
placed_at [] places = places
placed_at (x ∷ xs) places = placed_at xs (slice_set places x.label x.block)

-- the blocks that the pieces make behind these operations of an open block; the last gets the end that is given
abbrev pub blocks_by : Head → List Op → End → List Piece → List Block
blocks_by h ops last [] = record { params = h.params; ops = ops; end = last; freq = h.freq; enter = h.enter } ∷ []
blocks_by h ops last (Adds op ∷ more) = blocks_by h (ops ++ op ∷ []) last more
blocks_by h ops last (Ends end params freq enter ∷ more) =
    record { params = h.params; ops = ops; end = end; freq = h.freq; enter = h.enter } ∷ blocks_by (record { params = params; freq = freq; enter = enter }) [] last more

-- behind complete blocks
abbrev pub finished : Blocks → End → List Piece → List Block
finished b last more = b.done ++ blocks_by b.head b.ops last more

-- of a procedure in the making
abbrev pub place_by : View → ℕ → ℕ
place_by v t = slice_index (placed_at v.bounds (replicate v.labels 0)) t

abbrev pub blocks_in : View → (words : ℕ) → Option ℕ → List Block
blocks_in v words answer = blocks_by (record { params = numbers 0 (min words 4); freq = 1048576; enter = None }) [] (Return answer) (resolved (place_by v) v.made)
