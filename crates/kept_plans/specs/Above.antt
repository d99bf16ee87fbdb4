-- The traces above traces, flow by flow.
use Rattle.std.specs.Prelude.{ℕ, List, [], ◌∷◌, Option}
use Rattle.lir_core.specs.declared.flow.Flow.{Flow}
use Rattle.lir_core.specs.declared.flow.Trace.{Trace}
use Rattle.trace_build.specs.Parents.{AreParents}

-- for each flow the trace above each of its traces, where there is one
abbrev pub AreAllParents : List Flow → List (List Trace) → List (List (Option ℕ)) → Type 0
AreAllParents [] [] [] = Unit {0}
AreAllParents (f ∷ fs) (ts ∷ cuts) (ps ∷ parents) = AreParents f ts ps × AreAllParents fs cuts parents
AreAllParents fs cuts parents = ⊥
