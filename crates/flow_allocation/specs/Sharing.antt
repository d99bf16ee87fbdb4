-- What each flow has of all results.
use Rattle.std.specs.Prelude.{◌≡◌, ℕ, List, [], ◌∷◌, take, drop, length}
use Rattle.lir_core.specs.declared.places.TraceOut.{TraceOut}
use Rattle.boundary_resolve.specs.declared.code_line.CodeLine.{CodeLine}
use Rattle.boundary_resolve.specs.Placing.{placed_of}
use Rattle.boundary_resolve.specs.Edges.{AreSound}
use Rattle.trace_work.specs.declared.planning.TracePlan.{TracePlan}

-- results that stand one behind the other, for each flow those of its traces
abbrev pub shares : List TracePlan → List TraceOut → List (List TraceOut)
shares [] rest = []
shares (p ∷ ps) rest = take (length p.traces) rest ∷ shares ps (drop (length p.traces) rest)

-- a flow's lines, where its results are sound
abbrev pub AreLines : TracePlan → List TraceOut → List CodeLine → Type 0
AreLines p outs lines = (k : ℕ) → AreSound k p.flow.now p.traces outs → lines ≡ placed_of p.flow.now p.traces outs

abbrev pub HaveLines : List TracePlan → List (List TraceOut) → List (List CodeLine) → Type 0
HaveLines [] [] [] = Unit {0}
HaveLines (p ∷ ps) (o ∷ os) (l ∷ ls) = AreLines p o l × HaveLines ps os ls
HaveLines _ _ _ = ⊥

pub record AreShared (plans : List TracePlan) (rest : List TraceOut) (parts : List (List CodeLine)) (outs : List (List TraceOut)) : Type 0 where
  pub outs_are : outs ≡ shares plans rest
  pub parts_are : HaveLines plans outs parts
