-- What each flow has of all results.
use Rattle.std.specs.Prelude.{◌≡◌, ℕ, List, [], ◌∷◌, map, take, drop, length}
use Rattle.lir_core.specs.declared.flow.Flow.{Flow}
use Rattle.lir_core.specs.declared.flow.Trace.{Trace}
use Rattle.lir_core.specs.declared.places.TraceOut.{TraceOut}
use Rattle.boundary_resolve.specs.Placing.{placed_of}
use Rattle.boundary_resolve.specs.Edges.{AreSound}
use Rattle.linked_flows.specs.Allocations.{Cut}
use Rattle.flow_allocation.specs.Allocations.{items_of}
use Rattle.placed_image.specs.declared.sharing.Shares.{Shares}

-- each flow with its traces, and as many of the results that stand one behind the other
abbrev pub cuts_of : List Flow → List (List Trace) → List TraceOut → List Cut
cuts_of [] cuts outs = []
cuts_of (f ∷ fs) [] outs = []
cuts_of (f ∷ fs) (ts ∷ cuts) outs = record { flow = f; traces = ts; outs = take (length ts) outs } ∷ cuts_of fs cuts (drop (length ts) outs)

-- the results of each are sound
abbrev pub AllSound : ℕ → List Cut → Type 0
AllSound k cuts = (q : ℕ) (c : Cut) (rest : List Cut) → drop q cuts ≡ c ∷ rest → AreSound k c.flow c.traces c.outs

-- the results of each, and, where they are sound, its lines
pub record AreSharesOf (cuts : List Cut) (shares : Shares) : Type 0 where
  pub outs : items_of shares.outs ≡ map (λ c. c.outs) cuts
  pub parts : (k : ℕ) → AllSound k cuts → items_of shares.parts ≡ map (λ c. placed_of c.flow c.traces c.outs) cuts
