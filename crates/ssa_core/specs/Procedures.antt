-- Procedures as code in blocks.
use Rattle.std.specs.Prelude.{List, map}
use Rattle.block_runs.specs.Blocks.{Operation, CodeBlock, Procedure}
use Rattle.ssa_core.specs.declared.procedure.Op.{Op}
use Rattle.ssa_core.specs.declared.procedure.Block.{Block}
use Rattle.ssa_core.specs.declared.procedure.Proc.{Proc}

abbrev pub operation_of : Op → Operation
operation_of op = record { code = op.code; uses = op.uses; def = op.def }

abbrev pub code_block : Block → CodeBlock
code_block b = record { params = b.params; ops = map operation_of b.ops; end = b.end }

abbrev pub code_blocks : List Block → List CodeBlock
code_blocks bs = map code_block bs

-- what runs
abbrev pub procedure : Proc → Procedure
procedure p = record { blocks = code_blocks p.blocks; counted = p.counted; cells = p.local_cells; bytes = p.local_bytes }

abbrev pub procedures : List Proc → List Procedure
procedures ps = map procedure ps
