use Rattle.std.proofs.Common.{◌≡◌, ◌+◌, ◌++◌, List, drop}
use Rattle.lir_core.specs.Rows.{has_bit}
use Rattle.alloc_audit.specs.Nodes.{Grounds}
use Rattle.alloc_audit.specs.Verdicts.{verdict_from, grounds_of_flow}
use Rattle.alloc_audit.proofs.results.audit_traces.Given as goal

abbrev pub invariant-loop-trace : goal.invariant-loop-trace
invariant-loop-trace l =
    let k = l.audited.registers in
    let f = l.audited.flow.now in
    let live = has_bit l.audited.live.now in
    record {
      number : l.number ≡ l.first + l.trace-index;
      so : (rest : List Grounds) → verdict_from l.first (grounds_of_flow k f live l.traces ++ rest) (drop l.first l.outs) ≡ verdict_from l.number (grounds_of_flow k f live (drop l.trace-index l.traces) ++ rest) (drop l.number l.outs);
    }
