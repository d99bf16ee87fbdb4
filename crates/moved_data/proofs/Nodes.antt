-- The nodes of a flow without the places of data.
use Rattle.std.proofs.Common.{◌≡◌, ℕ, zero, suc, List, [], ◌∷◌, map, length, refl, ap, ◌∙◌, sym}
use Rattle.std.specs.Prelude.{filter, slice_get, slice_index_or}
use Rattle.std.specs.Option.{option_map}
use Rattle.run_laws.specs.Layers.{places_from}
use Rattle.block_runs.specs.declared.code.Code.{Code}
use Rattle.block_runs.specs.declared.code.Code.TheVariants.{Global}
use Rattle.block_runs.specs.Blocks.{block_at, successors}
use Rattle.block_runs.specs.Live.{has}
use Rattle.lir_core.specs.declared.flow.Node.{Node}
use Rattle.lir_core.specs.Flows.{no_node, node_at, code_node, code_nodes, leads, preds_of}
use Rattle.lir_core.specs.Lines.{is_aimed}
use Rattle.moved_code.specs.Code.{unplaced_code}
use Rattle.moved_data.specs.Alike.{unplaced_node}

pub map_get : {A B : Type 0} (f : A → B) (xs : List A) (n : ℕ) → slice_get (map f xs) n ≡ option_map f (slice_get xs n)
map_get f [] n = refl
map_get f (x ∷ xs) zero = refl
map_get f (x ∷ xs) (suc n) = map_get f xs n

pub map_index : {A B : Type 0} (f : A → B) (xs : List A) (n : ℕ) (d : A) → slice_index_or (map f xs) n (f d) ≡ f (slice_index_or xs n d)
map_index f [] n d = refl
map_index f (x ∷ xs) zero d = refl
map_index f (x ∷ xs) (suc n) d = map_index f xs n d

pub map_length : {A B : Type 0} (f : A → B) (xs : List A) → length (map f xs) ≡ length xs
map_length f [] = refl
map_length f (x ∷ xs) = ap suc (map_length f xs)

pub same_aim : (c : Code) → is_aimed (unplaced_code c) ≡ is_aimed c
same_aim (Global n) = refl
same_aim c = refl

---- Nodes by their numbers

module _ (nodes : List Node) where
  abbrev pub moved : List Node
  moved = map unplaced_node nodes

  pub node_same : (n : ℕ) → node_at moved n ≡ unplaced_node (node_at nodes n)
  node_same n = map_index unplaced_node nodes n no_node

  pub end_same : (n : ℕ) → (node_at moved n).end ≡ (node_at nodes n).end
  end_same n = ap (λ node. node.end) (node_same n)

  pub get_same : (n : ℕ) → slice_get moved n ≡ option_map unplaced_node (slice_get nodes n)
  get_same n = map_get unplaced_node nodes n

  ---- Blocks

  block_is : (ns : List Node) (b : ℕ) → block_at (code_nodes ns) b ≡ code_node (node_at ns b)
  block_is ns b = map_index code_node ns b no_node

  block_end : (b : ℕ) → (block_at (code_nodes moved) b).end ≡ (block_at (code_nodes nodes) b).end
  block_end b = ap (λ bl. bl.end) (block_is moved b) ∙ (end_same b ∙ sym (ap (λ bl. bl.end) (block_is nodes b)))

  pub leads_same : leads (code_nodes moved) ≡ leads (code_nodes nodes)
  leads_same = λ k to b. has (successors (block_end b k)) to

  blocks_many : length (code_nodes moved) ≡ length (code_nodes nodes)
  blocks_many = map_length code_node moved ∙ (map_length unplaced_node nodes ∙ sym (map_length code_node nodes))

  pub preds_same : (to : ℕ) → preds_of (code_nodes moved) to ≡ preds_of (code_nodes nodes) to
  preds_same to = λ k. filter (leads_same k to) (places_from 0 (blocks_many k))
