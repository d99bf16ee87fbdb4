-- Which limit a fault tells of.
use Rattle.std.specs.Prelude.{◌≡◌, length, nat_lt, Option, Some}
use Rattle.ob_types.specs.declared.program.Program.{Program}
use Rattle.ssa_lowered.specs.Limits.{Limit, or_else, passes, global_cells, constant_cells}
use Rattle.ssa_tables.specs.declared.fault.LowerFault.{LowerFault}
use Rattle.ssa_tables.specs.declared.fault.LowerFault.TheVariants as TheFault

-- a fault of a limit tells of this one; want of memory tells nothing
abbrev pub Tells : LowerFault → Option Limit → Type 0
Tells (TheFault.Limit n i) o = o ≡ Some (record { number = n; index = i })
Tells TheFault.Memory o = Unit {0}

-- the limits of procedures and globals, which are tried first
abbrev pub first_limit : Program → Option Limit
first_limit p = or_else (passes 52 (nat_lt 4096 (length p.procedures))) (passes 53 (nat_lt 1048576 (global_cells p)))

-- that of constants, which is tried last
abbrev pub last_limit : Program → Option Limit
last_limit p = passes 58 (nat_lt 262144 (constant_cells p))
