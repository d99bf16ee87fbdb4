use Rattle.std.proofs.Common.{◌≡◌, ◌+◌, ℕ, List, ◌++◌, drop}
use Rattle.std.specs.Prelude.{All}
use Rattle.lir_core.specs.Flows.{IsValidFlow}
use Rattle.trace_build.specs.Traces.{traces_in}
use Rattle.trace_report.specs.Reports.{IsReport}
use Rattle.trace_report.proofs.reporting.trace_report.Given as goal

abbrev pub invariant-loop-place : goal.invariant-loop-place
invariant-loop-place l = record {
  lines : All IsValidFlow l.flows → (rest : List ℕ) → IsReport l.choice l.place (drop l.place l.flows) rest → IsReport l.choice 0 l.flows (l.lines.items ++ rest);
  count : l.traces + traces_in l.choice.builder (drop l.place l.flows) ≡ traces_in l.choice.builder l.flows;
}
