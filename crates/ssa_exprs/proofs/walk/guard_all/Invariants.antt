use Rattle.std.proofs.Common.{drop}
use Rattle.ob_types.specs.declared.program.Program.{Program}
use Rattle.ssa_lowered.specs.Lowered.{Here}
use Rattle.ssa_exprs.specs.Making.{View}
use Rattle.ssa_exprs.specs.Tables.{Serves}
use Rattle.ssa_exprs.proofs.Guards.{Guarding}
use Rattle.ssa_exprs.proofs.walk.guard_all.Given as goal

abbrev pub invariant-loop-r : goal.invariant-loop-r
invariant-loop-r l = (program : Program) (here : Here) → Serves l.t program here → (new : View) → Guarding program here (drop l.r-index l.types) l.b new l.p → Guarding program here l.types l.initial.b new l.p
