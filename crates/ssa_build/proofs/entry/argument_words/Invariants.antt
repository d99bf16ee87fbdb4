use Rattle.std.proofs.Common.{◌≡◌, ◌+◌, drop}
use Rattle.ssa_lowered.specs.Variables.{words_of}
use Rattle.ssa_build.proofs.entry.argument_words.Given as goal

abbrev pub invariant-loop-x : goal.invariant-loop-x
invariant-loop-x l = l.count + words_of (drop l.x-index l.formals) ≡ words_of l.formals
