use Rattle.std.proofs.Common.{◌≡◌, ◌++◌, ◌+◌, drop}
use Rattle.ssa_lowered.specs.Variables.{words_of}
use Rattle.ssa_tables.specs.Local.{parameters_from}
use Rattle.ssa_tables.proofs.procedure.parameters.Given as goal

abbrev pub invariant-loop-x : goal.invariant-loop-x
invariant-loop-x l = (l.word + words_of (drop l.x-index l.formals) ≡ words_of l.formals) × (l.list ++ parameters_from l.word (drop l.x-index l.formals) ≡ parameters_from 0 l.formals)
