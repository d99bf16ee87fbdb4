-- What is at hand while a procedure's lines are placed.
use Rattle.std.specs.Prelude.{◌≡◌, ℕ, ◌≤◌, List, length}
use Rattle.lir_core.specs.declared.flow.Flow.{Flow}
use Rattle.lir_core.specs.declared.flow.Trace.{Trace}
use Rattle.lir_core.specs.declared.places.TraceOut.{TraceOut}
use Rattle.lir_core.specs.Spots.{IsRising}
use Rattle.lir_core.specs.Sound.{no_places}
use Rattle.lir_core.specs.Flows.{node_at}
use Rattle.boundary_resolve.specs.declared.code.Code.{Code}
use Rattle.boundary_resolve.specs.Moves.{FewRegs}
use Rattle.boundary_resolve.specs.Placing.{seats_from, start_at, end_at}
use Rattle.boundary_resolve.specs.Seats.{FindsSeats}

-- places have no more registers than there are, and homed values that rise
pub record AreRows (f : Flow) (traces : List Trace) (outs : List TraceOut) : Type 0 where
  pub entry : length (node_at f.nodes 0).params ≤ 16
  pub starts : (n : ℕ) → FewRegs (start_at traces outs n) × IsRising (start_at traces outs n).homed
  pub ends : (n : ℕ) → FewRegs (end_at traces outs n)

-- where seats are those in some traces, something holds of the flow, these traces and their results
abbrev pub OfCode : Code → (Flow → List Trace → List TraceOut → Type 0) → Type 0
OfCode c P = (traces : List Trace) → FindsSeats (seats_from 0 traces) c.seats.items → c.nowhere ≡ no_places → AreRows c.flow.now traces c.outs.now → P c.flow.now traces c.outs.now
