-- What is live in a flow without the places of data.
use Rattle.std.proofs.Common.{◌≡◌, ℕ, true, false, cond, List, [], ◌∷◌, ◌++◌, map, Option, Some, None, refl, sym, ap, ◌∙◌}
use Rattle.std.specs.Prelude.{slice_get, option_to_list}
use Rattle.std.specs.Option.{option_map}
use Rattle.block_runs.specs.declared.end.End.{End}
use Rattle.block_runs.specs.Blocks.{CodeBlock, successors}
use Rattle.block_runs.specs.Live.{has, defs_of, block_makes, reads, Live, Here, Later}
use Rattle.lir_core.specs.declared.flow.Lir.{Lir}
use Rattle.lir_core.specs.declared.flow.Node.{Node}
use Rattle.lir_core.specs.declared.flow.Flow.{Flow}
use Rattle.lir_core.specs.Flows.{operation_of, code_node, code_nodes}
use Rattle.global_live.specs.Reading.{HasLive}
use Rattle.moved_data.specs.Alike.{unplaced_lir, unplaced_node, unplaced}
use Rattle.moved_data.proofs.Nodes.{map_get}

reads_same : (xs : List Lir) (end : End) (v : ℕ) → reads (map operation_of (map unplaced_lir xs)) end v ≡ reads (map operation_of xs) end v
reads_same [] end v = refl
reads_same (x ∷ xs) end v = ap (λ b. cond (has x.uses v) true (cond (has (option_to_list x.def) v) false b)) (reads_same xs end v)

pub defs_same : (xs : List Lir) → defs_of (map operation_of (map unplaced_lir xs)) ≡ defs_of (map operation_of xs)
defs_same [] = refl
defs_same (x ∷ xs) = ap (λ vs. option_to_list x.def ++ vs) (defs_same xs)

-- a block of some nodes is that of one of them
record IsOf (nodes : List Node) (b : ℕ) (bl : CodeBlock) : Type 0 where
  pub node : Node
  pub there : slice_get nodes b ≡ Some node
  pub is : code_node node ≡ bl

some_is : {A : Type 0} (a b : A) → Some a ≡ Some b → a ≡ b
some_is a b e = cc

of_node : (o : Option Node) (bl : CodeBlock) → option_map code_node o ≡ Some bl → (node : Node) × (o ≡ Some node) × (code_node node ≡ bl)
of_node None bl e = absurd cc
of_node (Some node) bl e = (node, refl, some_is (code_node node) bl e)

is_of : (nodes : List Node) (b : ℕ) (bl : CodeBlock) → slice_get (code_nodes nodes) b ≡ Some bl → IsOf nodes b bl
is_of nodes b bl at = let h = of_node (slice_get nodes b) bl (sym (map_get code_node nodes b) ∙ at) in record { node = h.0; there = h.1; is = h.2 }

block_there : (nodes : List Node) (b : ℕ) (node : Node) → slice_get nodes b ≡ Some node → slice_get (code_nodes nodes) b ≡ Some (code_node node)
block_there nodes b node at = map_get code_node nodes b ∙ ap (option_map code_node) at

of_moved : (o : Option Node) (node : Node) → option_map unplaced_node o ≡ Some node → (before : Node) × (o ≡ Some before) × (unplaced_node before ≡ node)
of_moved None node e = absurd cc
of_moved (Some before) node e = (before, refl, some_is (unplaced_node before) node e)

module _ (nodes : List Node) (v : ℕ) where
  abbrev moved : List Node
  moved = map unplaced_node nodes

  -- of a node
  abbrev Reads : Node → Type 0
  Reads node = reads (map operation_of node.lirs) node.end v ≡ true

  pub live_on : (n : ℕ) → Live (code_nodes nodes) v n → Live (code_nodes moved) v n
  live_on n (Here b bl at none read) =
      let h = is_of nodes b bl at in
      let there : slice_get (code_nodes moved) b ≡ Some (code_node (unplaced_node h.node)) = block_there moved b (unplaced_node h.node) (map_get unplaced_node nodes b ∙ ap (option_map unplaced_node) h.there) in
      Here b (code_node (unplaced_node h.node)) there
      (ap (λ (x : CodeBlock). has x.params v) h.is ∙ none)
      (reads_same h.node.lirs h.node.end v ∙ (ap (λ (x : CodeBlock). reads x.ops x.end v) h.is ∙ read))
  live_on n (Later b to bl at unmade edge rest) =
      let h = is_of nodes b bl at in
      let there : slice_get (code_nodes moved) b ≡ Some (code_node (unplaced_node h.node)) = block_there moved b (unplaced_node h.node) (map_get unplaced_node nodes b ∙ ap (option_map unplaced_node) h.there) in
      Later b to (code_node (unplaced_node h.node)) there
      (ap (λ ds. has (h.node.params ++ ds) v) (defs_same h.node.lirs) ∙ (ap (λ (x : CodeBlock). has (block_makes x) v) h.is ∙ unmade))
      (ap (λ (x : CodeBlock). has (successors x.end) to) h.is ∙ edge)
      (live_on to rest)

  pub live_back : (n : ℕ) → Live (code_nodes moved) v n → Live (code_nodes nodes) v n
  live_back n (Here b bl at none read) =
      let h = is_of moved b bl at in
      let k = of_moved (slice_get nodes b) h.node (sym (map_get unplaced_node nodes b) ∙ h.there) in
      let is : code_node (unplaced_node k.0) ≡ bl = ap code_node k.2 ∙ h.is in
      Here b (code_node k.0) (block_there nodes b k.0 k.1)
      (ap (λ (x : CodeBlock). has x.params v) is ∙ none)
      (sym (reads_same k.0.lirs k.0.end v) ∙ (ap (λ (x : CodeBlock). reads x.ops x.end v) is ∙ read))
  live_back n (Later b to bl at unmade edge rest) =
      let h = is_of moved b bl at in
      let k = of_moved (slice_get nodes b) h.node (sym (map_get unplaced_node nodes b) ∙ h.there) in
      let is : code_node (unplaced_node k.0) ≡ bl = ap code_node k.2 ∙ h.is in
      Later b to (code_node k.0) (block_there nodes b k.0 k.1)
      (sym (ap (λ ds. has (k.0.params ++ ds) v) (defs_same k.0.lirs)) ∙ (ap (λ (x : CodeBlock). has (block_makes x) v) is ∙ unmade))
      (ap (λ (x : CodeBlock). has (successors x.end) to) is ∙ edge)
      (live_back to rest)

pub has_live_on : (f : Flow) (rows : List (List ℕ)) → HasLive f rows → HasLive (unplaced f) rows
has_live_on f rows h = record { exact = λ n v is. live_on f.nodes v n (h.exact n v is); whole = λ n v l. h.whole n v (live_back f.nodes v n l) }

pub has_live_back : (f : Flow) (rows : List (List ℕ)) → HasLive (unplaced f) rows → HasLive f rows
has_live_back f rows h = record { exact = λ n v is. live_back f.nodes v n (h.exact n v is); whole = λ n v l. h.whole n v (live_on f.nodes v n l) }
