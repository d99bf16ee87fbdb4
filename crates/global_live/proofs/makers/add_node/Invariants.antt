use Rattle.std.proofs.Common.{◌≡◌, drop}
use Rattle.global_live.specs.Search.{made_in}
use Rattle.global_live.proofs.makers.add_node.Given as goal

abbrev pub invariant-loop-value : goal.invariant-loop-value
invariant-loop-value l = made_in l.number (drop l.value-index l.node.params) l.makers.items ≡ made_in l.number l.node.params l.initial.makers.items
