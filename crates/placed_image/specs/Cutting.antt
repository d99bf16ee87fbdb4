-- Flows that a builder cuts into traces.
use Rattle.std.specs.Prelude.{◌≡◌, List, [], ◌∷◌}
use Rattle.lir_core.specs.declared.flow.Flow.{Flow}
use Rattle.lir_core.specs.declared.flow.Trace.{Trace}
use Rattle.trace_build.specs.declared.builder.Builder.{Builder}
use Rattle.trace_build.specs.Traces.{traces_of}
use Rattle.trace_build.specs.Cuts.{lists_of, IsPartition, AllTraces}

-- the traces of a flow: paths, which have each node once
pub record IsCutBy (builder : Builder) (f : Flow) (ts : List Trace) : Type 0 where
  pub traces : lists_of ts ≡ traces_of builder f.nodes
  pub partition : IsPartition f (lists_of ts)
  pub paths : AllTraces f (lists_of ts)

-- one list of traces for each flow
abbrev pub AreCutBy : Builder → List Flow → List (List Trace) → Type 0
AreCutBy builder [] [] = Unit {0}
AreCutBy builder [] (ts ∷ cuts) = ⊥
AreCutBy builder (f ∷ fs) [] = ⊥
AreCutBy builder (f ∷ fs) (ts ∷ cuts) = IsCutBy builder f ts × AreCutBy builder fs cuts
