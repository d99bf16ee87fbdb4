-- Where blocks stand in traces.
use Rattle.std.specs.Prelude.{ℕ, suc, ◌==◌, List, [], ◌∷◌, map, slice_get, Option, Some, None, if◌then◌else◌}
use Rattle.run_laws.specs.Layers.{places_from}
use Rattle.lir_core.specs.declared.flow.Trace.{Trace}
use Rattle.flow_drawing.specs.declared.standings.Standing.{Standing}

-- where a block stands in a trace of this number, if it is in it: first
abbrev pub standing_in : ℕ → List ℕ → ℕ → Option Standing
standing_in trace [] b = None
standing_in trace (n ∷ ns) b = if n == b then Some (record { trace = trace; next = slice_get ns 0 }) else standing_in trace ns b

-- the first of two, if there is one, else the second
abbrev pub first_of : Option Standing → Option Standing → Option Standing
first_of None other = other
first_of (Some s) other = Some s

-- in traces, the first of which has this number
abbrev pub standing_from : ℕ → List Trace → ℕ → Option Standing
standing_from trace [] b = None
standing_from trace (t ∷ ts) b = first_of (standing_in trace t.nodes b) (standing_from (suc trace) ts b)

-- that of each block
abbrev pub standings_of : ℕ → List Trace → List (Option Standing)
standings_of count traces = map (standing_from 0 traces) (places_from 0 count)
