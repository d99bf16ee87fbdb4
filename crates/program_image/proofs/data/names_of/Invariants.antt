use Rattle.std.proofs.Common.{◌≡◌, ◌++◌, map, drop}
use Rattle.compiled_runs.specs.Compiled.{name_of}
use Rattle.program_image.proofs.data.names_of.Given as goal

abbrev pub invariant-loop-procedure : goal.invariant-loop-procedure
invariant-loop-procedure l = l.names.items ++ map name_of (drop l.procedure-index l.procedures) ≡ map name_of l.procedures
