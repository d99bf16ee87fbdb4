use Rattle.std.proofs.Common.{◌≡◌, drop}
use Rattle.lir_core.specs.Flows.{code_nodes}
use Rattle.global_live.specs.Search.{makers_from}
use Rattle.global_live.proofs.makers.makers.Given as goal

abbrev pub invariant-loop-number : goal.invariant-loop-number
invariant-loop-number l = makers_from l.number (code_nodes (drop l.number l.flow.nodes)) l.makers.items ≡ makers_from 0 (code_nodes l.flow.nodes) l.initial.makers.items
