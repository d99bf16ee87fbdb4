use Rattle.std.proofs.Common.{◌≡◌, ◌++◌, drop}
use Rattle.whole_page.specs.Tables.{policies_of}
use Rattle.whole_page.proofs.tables.policies_of.Given as goal

abbrev pub invariant-loop-trace : goal.invariant-loop-trace
invariant-loop-trace l = l.policies.items ++ policies_of l.choice.policy l.flow.nodes (drop l.trace-index l.traces) ≡ policies_of l.choice.policy l.flow.nodes l.traces
