-- Procedures that are short enough to be valid.
use Rattle.std.specs.Prelude.{Bool, List, nat_le}
use Rattle.block_runs.specs.Valid.{size_of}
use Rattle.ssa_core.specs.declared.procedure.Block.{Block}
use Rattle.ssa_core.specs.declared.procedure.Proc.{Proc}
use Rattle.ssa_core.specs.Procedures.{code_blocks}
use Rattle.ssa_core.specs.Validity.{most}

-- at most 500,000,000 blocks and operations
abbrev pub blocks_short : List Block → Bool
blocks_short bs = nat_le (size_of (code_blocks bs)) most

abbrev pub is_short : Proc → Bool
is_short p = blocks_short p.blocks
