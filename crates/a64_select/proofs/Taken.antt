-- A procedure's blocks, taken one by one.
use Rattle.std.proofs.Common.{◌≡◌, ℕ, suc, ◌+◌, ◌*◌, ◌<◌, ◌≤◌, Bool, true, false, cond, List, [], ◌∷◌, ◌++◌, map, length, drop, get_or, sym, ap, ◌∙◌, arith}
use Rattle.std.specs.Prelude.{filter}
use Rattle.std.proofs.lemmas.List.{append_assoc, length-append, drop_more}
use Rattle.ssa_core.specs.declared.procedure.Block.{Block}
use Rattle.lir_core.specs.declared.flow.Node.{Node}
use Rattle.a64_select.specs.Selected.{is_join, split_targets, behind, node_of, old_nodes, edge_node, new_nodes}
use Rattle.a64_select.proofs.Splitting.{split_targets_few}

-- the nodes of the blocks that were taken, where the others are left, and the next new node's number
pub record AreTaken (joins : List Bool) (all taken left : List Block) (next : ℕ) (nodes : List Node) : Type 0 where
  pub blocks : taken ++ left ≡ all
  pub nodes_are : nodes ++ old_nodes joins next left ≡ old_nodes joins (length all) all
  pub few : next ≤ length all + 2 * length taken

pub behind_two : (joins : List Bool) (next one other : ℕ) → behind joins (behind joins next one) other ≡ next + length (filter (is_join joins) (one ∷ other ∷ []))
behind_two joins next one other = at_test (is_join joins one) (is_join joins other)
  where
    at_test : (t u : Bool) → cond u (suc (cond t (suc next) next)) (cond t (suc next) next) ≡ next + length (cond t (one ∷ cond u (other ∷ []) []) (cond u (other ∷ []) []))
    at_test true true = omega arith
    at_test true false = omega arith
    at_test false true = omega arith
    at_test false false = omega arith

pub taken_more : (joins : List Bool) (all taken left left' : List Block) (next next' : ℕ) (nodes nodes' : List Node) (b : Block) → AreTaken joins all taken left next nodes → left ≡ b ∷ left' → next' ≡ next + length (split_targets joins b.end) → nodes' ≡ nodes ++ node_of joins next b ∷ [] → AreTaken joins all (taken ++ b ∷ []) left' next' nodes'
taken_more joins all taken left left' next next' nodes nodes' b h e n m = record {
  blocks = append_assoc taken (b ∷ []) left' ∙ ap (λ xs. taken ++ xs) (sym e) ∙ h.blocks;
  nodes_are =
      ap (λ xs. xs ++ old_nodes joins next' left') m
      ∙ append_assoc nodes (node_of joins next b ∷ []) (old_nodes joins next' left')
      ∙ ap (λ k. nodes ++ node_of joins next b ∷ old_nodes joins k left') n
      ∙ ap (λ bs. nodes ++ old_nodes joins next bs) (sym e) ∙ h.nodes_are;
  few = let f = h.few in let t = split_targets_few joins b.end in let s = length-append taken (b ∷ []) in omega (arith, f, t, s, n);
}

pub edge_nodes_more : (joins : List Bool) (all : List Block) (i : ℕ) (b : Block) (nodes nodes' : List Node) → i < length all → b ≡ get_or all i b → nodes ++ new_nodes joins all (drop i all) ≡ new_nodes joins all all → nodes' ≡ nodes ++ map (edge_node all b.freq) (split_targets joins b.end) → nodes' ++ new_nodes joins all (drop (i + 1) all) ≡ new_nodes joins all all
edge_nodes_more joins all i b nodes nodes' lt is h m =
    ap (λ xs. xs ++ new_nodes joins all (drop (i + 1) all)) m
    ∙ append_assoc nodes (map (edge_node all b.freq) (split_targets joins b.end)) (new_nodes joins all (drop (i + 1) all))
    ∙ ap (λ bs. nodes ++ new_nodes joins all bs) (sym (drop_more all i b lt ∙ ap (λ x. x ∷ drop (i + 1) all) (sym is))) ∙ h
