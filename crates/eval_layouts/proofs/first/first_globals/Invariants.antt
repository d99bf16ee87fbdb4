use Rattle.std.proofs.Common.{◌≡◌, [], ◌∷◌, map, take}
use Rattle.ob_types.specs.Store.{Bits}
use Rattle.ob_types.specs.Meaning.{zeros}
use Rattle.eval_layouts.proofs.first.first_globals.Given as goal

abbrev pub invariant-loop-module : goal.invariant-loop-module
invariant-loop-module l = l.all ≡ (Bits 0 ∷ []) ∷ map (λ m. zeros l.program m.variables) (take l.module-index l.module-items)
