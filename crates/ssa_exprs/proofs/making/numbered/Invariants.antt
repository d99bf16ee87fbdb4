use Rattle.std.proofs.Common.{◌≡◌}
use Rattle.ssa_lowered.specs.Pieces.{numbers}
use Rattle.ssa_exprs.proofs.making.numbered.Given as goal

abbrev pub invariant-loop-i : goal.invariant-loop-i
invariant-loop-i l = l.list ≡ numbers l.fn.values l.i
