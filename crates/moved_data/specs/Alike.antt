-- Flows that differ in the numbers of Global alone.
use Rattle.std.specs.Prelude.{◌≡◌, map}
use Rattle.lir_core.specs.declared.flow.Lir.{Lir}
use Rattle.lir_core.specs.declared.flow.Node.{Node}
use Rattle.lir_core.specs.declared.flow.Flow.{Flow}
use Rattle.moved_code.specs.Code.{unplaced_code}

abbrev pub unplaced_lir : Lir → Lir
unplaced_lir x = record x { template = unplaced_code x.template }

abbrev pub unplaced_node : Node → Node
unplaced_node n = record n { lirs = map unplaced_lir n.lirs }

abbrev pub unplaced : Flow → Flow
unplaced f = record f { nodes = map unplaced_node f.nodes }

-- two flows are the same but for these numbers
pub record AreAlike (f g : Flow) : Type 0 where
  pub same : unplaced f ≡ unplaced g
