-- When a procedure is valid.
use Rattle.std.specs.Prelude.{◌≡◌, ℕ, length, true}
use Rattle.std.specs.List.{list_all}
use Rattle.block_runs.specs.Valid.{enter_below, IsValidCode}
use Rattle.ssa_core.specs.declared.procedure.Proc.{Proc}
use Rattle.ssa_core.specs.Procedures.{code_blocks}

-- how many blocks and operations a procedure has at most
abbrev pub most : ℕ
most = 500000000

pub record IsValid (p : Proc) : Type 0 where
  pub code : IsValidCode most p.values p.args (code_blocks p.blocks)
  pub enters : list_all (λ b. enter_below (length p.blocks) b.enter) p.blocks ≡ true
