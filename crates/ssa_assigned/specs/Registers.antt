-- The variables that are in registers.
use Rattle.std.specs.Prelude.{ℕ, Bool, nat_lt, is_none, ◌&&◌}
use Rattle.ob_types.specs.declared.program.Program.{Program}
use Rattle.ssa_lowered.specs.Data.{layout}
use Rattle.ssa_lowered.specs.Lowered.{Here, registers}
use Rattle.ssa_lowered.specs.Pieces.{Mask}
use Rattle.ssa_exprs.specs.declared.tables.Tables.{Tables}
use Rattle.ssa_exprs.specs.Tables.{local_in}

-- a variable is one of the first so many, and in a register
abbrev pub kept : Tables → (count : ℕ) → ℕ → Bool
kept t count x = nat_lt x count && is_none (local_in t x)

-- the register variables of a mask
abbrev pub registers_in : Program → Here → Mask → Mask
registers_in p here mask = registers p (layout p.types) here mask
