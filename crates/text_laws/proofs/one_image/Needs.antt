-- The positions of a trace by rows with the same bits.
use Rattle.std.proofs.Common.{◌≡◌, ℕ, List, [], ◌∷◌, ◌++◌, map, Option, Some, None, refl}
use Rattle.std.specs.Prelude.{cond, filter, slice_get}
use Rattle.run_laws.specs.Layers.{places_from}
use Rattle.block_runs.specs.Blocks.{end_uses, successors}
use Rattle.lir_core.specs.declared.flow.Node.{Node}
use Rattle.lir_core.specs.declared.flow.Flow.{Flow}
use Rattle.lir_core.specs.Rows.{has_bit, live_into}
use Rattle.trace_needs.specs.Needs.{live_off, is_next, at_start, at_operation, at_end, in_node, first_of, positions_of}

module _ (rows others : List (List ℕ)) (e : has_bit rows ≡ has_bit others) where
  pub live_into_same : (values n : ℕ) → live_into values rows n ≡ live_into values others n
  live_into_same values n = λ k. filter (e k n) (places_from 0 values)

  pub live_off_same : (values : ℕ) (next : Option ℕ) (ss : List ℕ) → live_off values rows next ss ≡ live_off values others next ss
  live_off_same values next [] = refl
  live_off_same values next (s ∷ ss) = λ k. cond (is_next next s) [] (live_into_same values s k) ++ live_off_same values next ss k

  at_end_same : (values : ℕ) (next : Option ℕ) (node : Node) → at_end values rows next node ≡ at_end values others next node
  at_end_same values next node = λ k. record { needs = end_uses node.end ++ live_off_same values next (successors node.end) k; mentions = end_uses node.end }

  in_node_same : (values : ℕ) (next : Option ℕ) (node : Option Node) → in_node values rows next node ≡ in_node values others next node
  in_node_same values next None = refl
  in_node_same values next (Some node) = λ k. at_start node ∷ (map at_operation node.lirs ++ at_end_same values next node k ∷ [])

  pub positions_same : (f : Flow) (ns : List ℕ) → positions_of f rows ns ≡ positions_of f others ns
  positions_same f [] = refl
  positions_same f (n ∷ ns) = λ k. in_node_same f.values (first_of ns) (slice_get f.nodes n) k ++ positions_same f ns k
