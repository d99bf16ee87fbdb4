use Rattle.std.proofs.Common.{◌≡◌, ◌+◌, drop, length}
use Rattle.block_runs.specs.Valid.{size_of}
use Rattle.ssa_core.specs.Procedures.{code_blocks}
use Rattle.ssa_core.specs.Validity.{most}
use Rattle.program_image.proofs.sizes.is_short.Given as goal

-- what is left, and how large the blocks ahead are
abbrev pub invariant-loop-block : goal.invariant-loop-block
invariant-loop-block l = record {
  end : l.block-index-end ≡ length l.blocks;
  sum : l.left + size_of (code_blocks l.blocks) ≡ most + size_of (code_blocks (drop l.block-index l.blocks));
}
