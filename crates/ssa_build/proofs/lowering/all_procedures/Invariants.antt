use Rattle.std.proofs.Common.{◌≡◌, ◌++◌, drop}
use Rattle.ssa_lowered.specs.Data.{layout}
use Rattle.ssa_lowered.specs.Limits.{limits_from}
use Rattle.ssa_lowered.specs.Lowered.{procs_from}
use Rattle.ssa_build.proofs.lowering.all_procedures.Given as goal

abbrev pub invariant-loop-f : goal.invariant-loop-f
invariant-loop-f l =
    (l.list ++ procs_from l.program (layout l.program.types) l.f (drop l.f l.program.procedures) ≡ procs_from l.program (layout l.program.types) 0 l.program.procedures)
    × (limits_from l.program (layout l.program.types) l.f (drop l.f l.program.procedures) ≡ limits_from l.program (layout l.program.types) 0 l.program.procedures)
