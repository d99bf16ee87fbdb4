use Rattle.std.proofs.Common.{◌≡◌, ◌<◌, drop, length}
use Rattle.std.specs.Prelude.{slice_index}
use Rattle.ob_types.specs.declared.program.Program.{Program}
use Rattle.ssa_lowered.specs.Lowered.{Here}
use Rattle.ssa_exprs.specs.Making.{View}
use Rattle.ssa_exprs.specs.Tables.{Serves}
use Rattle.ssa_statements.specs.Cases.{Climbing}
use Rattle.ssa_statements.specs.Rungs.{rungs_in}
use Rattle.ssa_statements.proofs.cases.ladder.Given as goal

abbrev pub invariant-loop-i : goal.invariant-loop-i
invariant-loop-i l = (p : Program) (here : Here) → Serves l.t p here →
    (l.i < length l.rungs → l.b.freq ≡ l.freq)
    × ((z : View) → Climbing l.b z l.last (λ i. slice_index l.starts i) (rungs_in p here l.v (drop l.i l.rungs)) → Climbing l.initial.b z l.last (λ i. slice_index l.starts i) (rungs_in p here l.v l.rungs))
