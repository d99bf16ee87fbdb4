-- Results by other numbers.
use Rattle.std.specs.Prelude.{ℕ, suc, ◌+◌, List, [], ◌∷◌, length}
use Rattle.lir_core.specs.declared.places.TraceOut.{TraceOut}
use Rattle.linked_flows.specs.Allocations.{Cut}

-- the result of a trace of this number
abbrev pub with_number : ℕ → TraceOut → TraceOut
with_number n o = record { trace = n; starts = o.starts; ends = o.ends; lines = o.lines; regs = o.regs }

-- the results of traces, the first of which has this number, and each other the number behind that of the one before it
abbrev pub numbered : ℕ → List TraceOut → List TraceOut
numbered n [] = []
numbered n (o ∷ os) = with_number n o ∷ numbered (suc n) os

-- a flow whose first trace has this number
abbrev pub renumbered : ℕ → Cut → Cut
renumbered n c = record { flow = c.flow; traces = c.traces; outs = numbered n c.outs }

-- flows, the first of which has this number, and each other the number behind the traces of the one before it
abbrev pub all_renumbered : ℕ → List Cut → List Cut
all_renumbered n [] = []
all_renumbered n (c ∷ cs) = renumbered n c ∷ all_renumbered (n + length c.traces) cs
