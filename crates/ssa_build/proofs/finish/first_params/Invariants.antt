use Rattle.std.proofs.Common.{◌≡◌}
use Rattle.ssa_lowered.specs.Pieces.{numbers}
use Rattle.ssa_build.proofs.finish.first_params.Given as goal

abbrev pub invariant-loop-i : goal.invariant-loop-i
invariant-loop-i l = l.list ≡ numbers 0 l.i
