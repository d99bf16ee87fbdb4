use Rattle.std.proofs.Common.{◌≡◌, ◌++◌, ◌+◌, map, drop}
use Rattle.ssa_lowered.specs.Variables.{value_parameters, words_of}
use Rattle.ssa_tables.specs.Local.{pair_of}
use Rattle.ssa_tables.proofs.locals.add_parameters.Given as goal

abbrev pub invariant-loop-x : goal.invariant-loop-x
invariant-loop-x l = (l.word + words_of (drop l.x-index l.formals) ≡ words_of l.formals) × (map pair_of l.list.items ++ value_parameters l.word (drop l.x-index l.formals) ≡ map pair_of l.initial.list.items ++ value_parameters 0 l.formals)
