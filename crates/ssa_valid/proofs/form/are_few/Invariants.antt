use Rattle.std.proofs.Common.{◌≡◌, drop}
use Rattle.std.specs.Prelude.{nat_le}
use Rattle.block_runs.specs.Valid.{size_of}
use Rattle.ssa_core.specs.Procedures.{code_blocks}
use Rattle.ssa_core.specs.Validity.{most}
use Rattle.ssa_valid.proofs.form.are_few.Given as goal

abbrev pub invariant-loop-block : goal.invariant-loop-block
invariant-loop-block l = nat_le (size_of (code_blocks (drop l.block-index l.blocks))) l.left ≡ nat_le (size_of (code_blocks l.blocks)) most
