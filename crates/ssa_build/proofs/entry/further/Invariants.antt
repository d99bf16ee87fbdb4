use Rattle.std.proofs.Common.{◌-◌}
use Rattle.ssa_lowered.specs.Variables.{further}
use Rattle.ssa_exprs.specs.Making.{View, Gives}
use Rattle.ssa_build.proofs.entry.further.Given as goal

abbrev pub invariant-loop-i : goal.invariant-loop-i
invariant-loop-i l = (new : View) → Gives l.b new (further l.i (l.words - l.i)) tt → Gives l.initial.b new (further 4 (l.words - 4)) tt
