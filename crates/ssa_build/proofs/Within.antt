-- Where no limit is passed, none of its tests holds.
use Rattle.std.proofs.Common.{◌≡◌, ℕ, ◌≤◌, length, Bool, true, false, ltb, Option, Some, None, refl, arith}
use Rattle.std.specs.Prelude.{nat_lt}
use Rattle.ob_types.specs.declared.program.Program.{Program}
use Rattle.ob_types.proofs.Tests.{none_some}
use Rattle.std.proofs.Common.{sym}
use Rattle.ssa_lowered.specs.Data.{layout}
use Rattle.ssa_lowered.specs.Limits.{Limit, or_else, passes, global_cells, constant_cells, limits_from, limit_of}

both_none : (a b : Option Limit) → or_else a b ≡ None → (a ≡ None) × (b ≡ None)
both_none None b h = (refl, h)
both_none (Some x) b h = none_some x (sym h)

not_over : (n : ℕ) (b : Bool) → passes n b ≡ None → b ≡ false
not_over n true h = none_some (record { number = n; index = 0 }) (sym h)
not_over n false h = refl

at_most : (a b : ℕ) → ltb a b ≡ false → b ≤ a
at_most a b is = grind (arith, is)

module _ (p : Program) (none : limit_of p ≡ None) where
  abbrev later : Option Limit
  later = or_else (limits_from p (layout p.types) 0 p.procedures) (passes 58 (nat_lt 262144 (constant_cells p)))

  first : (passes 52 (nat_lt 4096 (length p.procedures)) ≡ None) × (or_else (passes 53 (nat_lt 1048576 (global_cells p))) later ≡ None)
  first = both_none (passes 52 (nat_lt 4096 (length p.procedures))) (or_else (passes 53 (nat_lt 1048576 (global_cells p))) later) none

  second : (passes 53 (nat_lt 1048576 (global_cells p)) ≡ None) × (later ≡ None)
  second = both_none (passes 53 (nat_lt 1048576 (global_cells p))) later first.1

  pub few_procedures : length p.procedures ≤ 4096
  few_procedures = at_most 4096 (length p.procedures) (not_over 52 (nat_lt 4096 (length p.procedures)) first.0)

  pub few_globals : global_cells p ≤ 1048576
  few_globals = at_most 1048576 (global_cells p) (not_over 53 (nat_lt 1048576 (global_cells p)) second.0)

  pub few_constants : constant_cells p ≤ 262144
  few_constants = at_most 262144 (constant_cells p) (not_over 58 (nat_lt 262144 (constant_cells p)) (both_none (limits_from p (layout p.types) 0 p.procedures) (passes 58 (nat_lt 262144 (constant_cells p))) second.1).1)
