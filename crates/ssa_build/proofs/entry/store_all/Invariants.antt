use Rattle.std.proofs.Common.{map, drop}
use Rattle.ssa_lowered.specs.Data.{layout}
use Rattle.ssa_lowered.specs.Variables.{stored}
use Rattle.ssa_exprs.specs.Making.{View, Gives}
use Rattle.ssa_tables.specs.Local.{seen}
use Rattle.ssa_build.proofs.entry.store_all.Given as goal

abbrev pub invariant-loop-v : goal.invariant-loop-v
invariant-loop-v l = (new : View) → Gives l.b new (stored l.types (layout l.types) l.bytes (map seen (drop l.v-index l.variables))) tt → Gives l.initial.b new (stored l.types (layout l.types) l.bytes (map seen l.variables)) tt
