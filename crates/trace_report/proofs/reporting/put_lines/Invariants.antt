use Rattle.std.proofs.Common.{◌≡◌, ◌++◌, drop}
use Rattle.trace_report.specs.Reports.{lines_from}
use Rattle.trace_report.proofs.reporting.put_lines.Given as goal

abbrev pub invariant-loop-place : goal.invariant-loop-place
invariant-loop-place l =
    l.text.items ++ lines_from l.choice.policy l.flow.nodes l.procedure l.place l.parents (drop l.place l.traces)
    ≡ l.initial.text.items ++ lines_from l.choice.policy l.flow.nodes l.procedure 0 l.parents l.traces
