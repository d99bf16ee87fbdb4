-- The positions of a trace of a flow without the places of data.
use Rattle.std.proofs.Common.{◌≡◌, ℕ, List, [], ◌∷◌, ◌++◌, map, Option, Some, None, refl, ap, ap₂, ◌∙◌}
use Rattle.std.specs.Prelude.{slice_get}
use Rattle.std.specs.Option.{option_map}
use Rattle.lir_core.specs.declared.flow.Lir.{Lir}
use Rattle.lir_core.specs.declared.flow.Node.{Node}
use Rattle.lir_core.specs.declared.flow.Flow.{Flow}
use Rattle.trace_needs.specs.Needs.{at_start, at_operation, at_end, in_node, first_of, positions_of}
use Rattle.moved_data.specs.Alike.{unplaced_lir, unplaced_node, unplaced}
use Rattle.moved_data.proofs.Nodes.{get_same}

operations_same : (xs : List Lir) → map at_operation (map unplaced_lir xs) ≡ map at_operation xs
operations_same [] = refl
operations_same (x ∷ xs) = ap (λ ps. at_operation x ∷ ps) (operations_same xs)

in_node_same : (values : ℕ) (rows : List (List ℕ)) (next : Option ℕ) (node : Option Node) → in_node values rows next (option_map unplaced_node node) ≡ in_node values rows next node
in_node_same values rows next None = refl
in_node_same values rows next (Some node) = ap (λ ps. at_start node ∷ (ps ++ at_end values rows next node ∷ [])) (operations_same node.lirs)

pub positions_same : (f : Flow) (rows : List (List ℕ)) (ns : List ℕ) → positions_of (unplaced f) rows ns ≡ positions_of f rows ns
positions_same f rows [] = refl
positions_same f rows (n ∷ ns) =
    ap₂ (λ a b. a ++ b)
    (ap (in_node f.values rows (first_of ns)) (get_same f.nodes n) ∙ in_node_same f.values rows (first_of ns) (slice_get f.nodes n))
    (positions_same f rows ns)
