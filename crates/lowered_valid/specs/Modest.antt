-- What procedures of programs within the limits have.
use Rattle.std.specs.Prelude.{◌<◌, ◌≤◌, ◌^◌}
use Rattle.size_limits.specs.Limits.{most_values}
use Rattle.ssa_core.specs.declared.procedure.Proc.{Proc}

-- at most as many values as a procedure may have
abbrev pub HasFewValues : Proc → Type 0
HasFewValues x = x.values ≤ most_values

-- local data whose cells are counted in 64 bits, and whose bytes in 24
pub record HasSmallData (x : Proc) : Type 0 where
  pub cells : x.local_cells < 2 ^ 64
  pub bytes : x.local_bytes < 2 ^ 24
