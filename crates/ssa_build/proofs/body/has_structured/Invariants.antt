use Rattle.std.proofs.Common.{◌≡◌, drop}
use Rattle.ssa_lowered.specs.Variables.{some_structured}
use Rattle.ssa_build.proofs.body.has_structured.Given as goal

abbrev pub invariant-loop-k : goal.invariant-loop-k
invariant-loop-k l = some_structured l.types (drop l.k-index l.list) ≡ some_structured l.types l.list
