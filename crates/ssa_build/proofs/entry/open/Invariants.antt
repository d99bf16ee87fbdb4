use Rattle.std.proofs.Common.{ℕ, List, ◌++◌, map, drop}
use Rattle.ssa_lowered.specs.Variables.{opened}
use Rattle.ssa_exprs.specs.Making.{View, Gives}
use Rattle.ssa_tables.specs.Local.{seen}
use Rattle.ssa_build.proofs.entry.open.Given as goal

abbrev pub invariant-loop-v : goal.invariant-loop-v
invariant-loop-v l = (new : View) (more : List ℕ) → Gives l.b new (opened (map seen (drop l.v-index l.variables))) more → Gives l.initial.b new (opened (map seen l.variables)) (l.env.items ++ more)
