use Rattle.std.proofs.Common.{◌≡◌, drop}
use Rattle.alloc_choice.specs.Choice.{is_often}
use Rattle.alloc_choice.proofs.choice.is_often.Given as goal

abbrev pub invariant-loop-number : goal.invariant-loop-number
invariant-loop-number l = is_often l.flow.nodes (drop l.number-index l.nodes) ≡ is_often l.flow.nodes l.nodes
