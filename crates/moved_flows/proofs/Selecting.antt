-- The flow of a procedure without the places of data.
use Rattle.std.proofs.Common.{◌≡◌, ℕ, zero, suc, ◌+◌, List, [], ◌∷◌, ◌++◌, map, length, Bool, refl, ap, ◌∙◌, sym}
use Rattle.std.specs.Prelude.{min}
use Rattle.block_runs.specs.declared.code.Code.{Code}
use Rattle.block_runs.specs.declared.code.Code.TheVariants.{Global}
use Rattle.block_runs.specs.Valid.{is_call}
use Rattle.ssa_core.specs.declared.procedure.Op.{Op}
use Rattle.ssa_core.specs.declared.procedure.Block.{Block}
use Rattle.ssa_core.specs.declared.procedure.Proc.{Proc}
use Rattle.ssa_core.specs.Procedures.{code_blocks}
use Rattle.lir_core.specs.declared.flow.Node.{Node}
use Rattle.lir_core.specs.Flows.{code_nodes, preds_of}
use Rattle.a64_select.specs.Selected.{joins_of, split_targets, lir_of, node_of, old_nodes, freq_at, edge_node, new_nodes, split_nodes, with_preds, selected}
use Rattle.moved_code.specs.Code.{unplaced_code}
use Rattle.moved_code.specs.Procedures.{unplaced_op, unplaced_block, unplaced_proc, AreAlikeProcs}
use Rattle.moved_data.specs.Alike.{unplaced_lir, unplaced_node, unplaced, AreAlike}
use Rattle.moved_data.proofs.Nodes.{map_length, preds_same}
use Rattle.moved_flows.proofs.Ends.{ends_of, joins_by_ends}

map_both : {A B : Type 0} (f : A → B) (xs ys : List A) → map f (xs ++ ys) ≡ map f xs ++ map f ys
map_both f [] ys = refl
map_both f (x ∷ xs) ys = ap (λ rest. f x ∷ rest) (map_both f xs ys)

---- Operations and old nodes

same_call : (c : Code) → is_call (unplaced_code c) ≡ is_call c
same_call (Global n) = refl
same_call c = refl

lirs_same : (ops : List Op) → map lir_of (map unplaced_op ops) ≡ map unplaced_lir (map lir_of ops)
lirs_same [] = refl
lirs_same (x ∷ xs) = λ k. (record { template = unplaced_code x.code; uses = x.uses; def = x.def; call = same_call x.code k }) ∷ lirs_same xs k

node_same : (joins : List Bool) (next : ℕ) (b : Block) → node_of joins next (unplaced_block b) ≡ unplaced_node (node_of joins next b)
node_same joins next b = ap (λ lirs. record (node_of joins next b) { lirs = lirs }) (lirs_same b.ops)

old_same : (joins : List Bool) (next : ℕ) (bs : List Block) → old_nodes joins next (map unplaced_block bs) ≡ map unplaced_node (old_nodes joins next bs)
old_same joins next [] = refl
old_same joins next (b ∷ bs) = λ k. node_same joins next b k ∷ old_same joins (next + length (split_targets joins b.end)) bs k

---- New nodes

freq_same : (bs : List Block) (n : ℕ) → freq_at (map unplaced_block bs) n ≡ freq_at bs n
freq_same [] n = refl
freq_same (b ∷ bs) zero = refl
freq_same (b ∷ bs) (suc n) = freq_same bs n

edges_same : (all : List Block) (freq : ℕ) (targets : List ℕ)
    → map (edge_node (map unplaced_block all) freq) targets ≡ map unplaced_node (map (edge_node all freq) targets)
edges_same all freq [] = refl
edges_same all freq (to ∷ targets) = λ k. record (edge_node all freq to) { freq = min freq (freq_same all to k) } ∷ edges_same all freq targets k

new_same : (joins : List Bool) (all bs : List Block)
    → new_nodes joins (map unplaced_block all) (map unplaced_block bs) ≡ map unplaced_node (new_nodes joins all bs)
new_same joins all [] = refl
new_same joins all (b ∷ bs) =
    (λ k. edges_same all b.freq (split_targets joins b.end) k ++ new_same joins all bs k)
    ∙ sym (map_both unplaced_node (map (edge_node all b.freq) (split_targets joins b.end)) (new_nodes joins all bs))

---- All nodes

ends_same : (bs : List Block) → ends_of (code_blocks (map unplaced_block bs)) ≡ ends_of (code_blocks bs)
ends_same [] = refl
ends_same (b ∷ bs) = ap (λ es. b.end ∷ es) (ends_same bs)

joins_same : (bs : List Block) → joins_of (code_blocks (map unplaced_block bs)) ≡ joins_of (code_blocks bs)
joins_same bs = joins_by_ends (code_blocks (map unplaced_block bs)) (code_blocks bs) (ends_same bs)

abbrev nodes_by : List Bool → ℕ → List Block → List Node
nodes_by joins next all = old_nodes joins next all ++ new_nodes joins all all

split_same : (all : List Block) → split_nodes (map unplaced_block all) ≡ map unplaced_node (split_nodes all)
split_same all =
    (λ k. nodes_by (joins_same all k) (map_length unplaced_block all k) (map unplaced_block all))
    ∙ (let joins = joins_of (code_blocks all) in
    (λ k. old_same joins (length all) all k ++ new_same joins all all k)
    ∙ sym (map_both unplaced_node (old_nodes joins (length all) all) (new_nodes joins all all)))

---- Predecessors

preds_set : (preds : ℕ → List ℕ) (n : ℕ) (nodes : List Node) → with_preds preds n (map unplaced_node nodes) ≡ map unplaced_node (with_preds preds n nodes)
preds_set preds n [] = refl
preds_set preds n (node ∷ nodes) = ap (λ rest. unplaced_node (record node { preds = preds n }) ∷ rest) (preds_set preds (suc n) nodes)

all_preds_same : (nodes : List Node) → preds_of (code_nodes (map unplaced_node nodes)) ≡ preds_of (code_nodes nodes)
all_preds_same nodes = λ k to. preds_same nodes to k

abbrev done : List Node → List Node
done nodes = with_preds (preds_of (code_nodes nodes)) 0 nodes

done_same : (all : List Block) → done (split_nodes (map unplaced_block all)) ≡ map unplaced_node (done (split_nodes all))
done_same all =
    ap done (split_same all)
    ∙ ((λ k. with_preds (all_preds_same (split_nodes all) k) 0 (map unplaced_node (split_nodes all)))
    ∙ preds_set (preds_of (code_nodes (split_nodes all))) 0 (split_nodes all))

---- Flows

selected_same : (p : Proc) → selected (unplaced_proc p) ≡ unplaced (selected p)
selected_same p = ap (λ nodes. record (selected p) { nodes = nodes }) (done_same p.blocks)

pub select_alike : (p q : Proc) → AreAlikeProcs p q → AreAlike (selected p) (selected q)
select_alike p q h = record { same = sym (selected_same p) ∙ (ap selected h.same ∙ selected_same q) }
