-- The flows of a program's procedures have few values, few local data, and traps whose kinds have 16 bits.
use Rattle.std.proofs.Common.{◌≡◌, ℕ, suc, ◌+◌, List, [], ◌∷◌, ◌++◌, map, length, Bool, true, All, refl, ◌∙◌, arith}
use Rattle.std.specs.List.{list_all}
use Rattle.std.proofs.lemmas.List.Elements.{All-cons, All-nil}
use Rattle.std.proofs.lemmas.List.Folds.{list_all-append}
use Rattle.block_runs.specs.declared.end.End.{End}
use Rattle.block_runs.specs.declared.end.End.TheVariants.{Jump, Branch, Nonzero, Return, Trap}
use Rattle.ob_types.specs.declared.program.Procedure.{Procedure}
use Rattle.ob_types.specs.declared.program.Program.{Program}
use Rattle.ssa_core.specs.declared.procedure.Op.{Op}
use Rattle.ssa_core.specs.declared.procedure.Block.{Block}
use Rattle.ssa_core.specs.declared.procedure.Proc.{Proc}
use Rattle.ssa_core.specs.Procedures.{code_blocks}
use Rattle.ssa_lowered.specs.Data.{Layout, layout}
use Rattle.ssa_lowered.specs.Pieces.{Start, Piece, Appends, Closes, blocks_of}
use Rattle.ssa_lowered.specs.Variables.{words_of}
use Rattle.ssa_lowered.specs.Lowered.{here_of, zeroed_bytes, made_of, proc_of, procs_from, entry, at_entry, lowered}
use Rattle.lowered_valid.specs.Modest.{HasFewValues, HasSmallData}
use Rattle.lir_core.specs.declared.flow.Node.{Node}
use Rattle.lir_core.specs.Flows.{code_nodes, preds_of}
use Rattle.a64_select.specs.Selected.{joins_of, split_targets, split_end, old_nodes, edge_node, new_nodes, split_nodes, with_preds, selected}
use Rattle.link_blocks.specs.Fits.{trap_fits}
use Rattle.source_image.proofs.link_plan.Low.{and_left, and_right}
use Rattle.modest_flows.specs.Modest.{IsModest}
use Rattle.native_laws.proofs.TrapKinds.{AllEndsFit, s_whole}
use Rattle.modest_flows.proofs.Fitting.{both}

abbrev blocks_fit : List Block → Bool
blocks_fit bs = list_all (λ (b : Block). trap_fits b.end) bs

abbrev nodes_fit : List Node → Bool
nodes_fit ns = list_all (λ (n : Node). trap_fits n.end) ns

---- Blocks

of_pieces : (s : Start) (ops : List Op) (last : End) (ps : List Piece) → trap_fits last ≡ true → AllEndsFit ps → blocks_fit (blocks_of s ops last ps) ≡ true
of_pieces s ops last [] e p = both (trap_fits last) true e refl
of_pieces s ops last (Appends b i op ∷ ps) e p = of_pieces s (ops ++ op ∷ []) last ps e p
of_pieces s ops last (Closes b i end next ∷ ps) e p = both (trap_fits end) (blocks_fit (blocks_of next [] last ps)) p.0 (of_pieces next [] last ps e p.1)

of_proc : (p : Program) (l : Layout) (f : ℕ) (q : Procedure) → blocks_fit (proc_of p l f q).blocks ≡ true
of_proc p l f q =
    let words = words_of q.formals in
    of_pieces (entry words) [] (Return (made_of p l f q).result) (made_of p l f q).pieces refl ((s_whole p l (here_of p l f q) words (zeroed_bytes p l q)).by (at_entry words)).by

---- Nodes

end_same : (joins : List Bool) (next : ℕ) (end : End) → trap_fits (split_end joins next end) ≡ trap_fits end
end_same joins next (Jump to args) = refl
end_same joins next (Branch k a b one other) = refl
end_same joins next (Nonzero a one other) = refl
end_same joins next (Return a) = refl
end_same joins next (Trap kind) = refl

of_old : (joins : List Bool) (next : ℕ) (bs : List Block) → blocks_fit bs ≡ true → nodes_fit (old_nodes joins next bs) ≡ true
of_old joins next [] e = refl
of_old joins next (b ∷ bs) e =
    let behind = next + length (split_targets joins b.end) in
    both (trap_fits (split_end joins next b.end)) (nodes_fit (old_nodes joins behind bs)) (end_same joins next b.end ∙ and_left (trap_fits b.end) (blocks_fit bs) e) (of_old joins behind bs (and_right (trap_fits b.end) (blocks_fit bs) e))

of_edges : (all : List Block) (freq : ℕ) (targets : List ℕ) → nodes_fit (map (edge_node all freq) targets) ≡ true
of_edges all freq [] = refl
of_edges all freq (to ∷ targets) = of_edges all freq targets

of_new : (joins : List Bool) (all bs : List Block) → nodes_fit (new_nodes joins all bs) ≡ true
of_new joins all [] = refl
of_new joins all (b ∷ bs) =
    let edges = map (edge_node all b.freq) (split_targets joins b.end) in
    list_all-append (λ (n : Node). trap_fits n.end) edges (new_nodes joins all bs) ∙ both (nodes_fit edges) (nodes_fit (new_nodes joins all bs)) (of_edges all b.freq (split_targets joins b.end)) (of_new joins all bs)

of_preds : (preds : ℕ → List ℕ) (k : ℕ) (ns : List Node) → nodes_fit ns ≡ true → nodes_fit (with_preds preds k ns) ≡ true
of_preds preds k [] e = refl
of_preds preds k (n ∷ ns) e = both (trap_fits n.end) (nodes_fit (with_preds preds (suc k) ns)) (and_left (trap_fits n.end) (nodes_fit ns) e) (of_preds preds (suc k) ns (and_right (trap_fits n.end) (nodes_fit ns) e))

of_split : (bs : List Block) → blocks_fit bs ≡ true → nodes_fit (split_nodes bs) ≡ true
of_split bs e =
    let joins = joins_of (code_blocks bs) in
    list_all-append (λ (n : Node). trap_fits n.end) (old_nodes joins (length bs) bs) (new_nodes joins bs bs)
    ∙ both (nodes_fit (old_nodes joins (length bs) bs)) (nodes_fit (new_nodes joins bs bs)) (of_old joins (length bs) bs e) (of_new joins bs bs)

of_selected : (p : Proc) → blocks_fit p.blocks ≡ true → nodes_fit (selected p).nodes ≡ true
of_selected p e = of_preds (preds_of (code_nodes (split_nodes p.blocks))) 0 (split_nodes p.blocks) (of_split p.blocks e)

---- All procedures

abbrev pub HasKinds : Proc → Type 0
HasKinds p = nodes_fit (selected p).nodes ≡ true

kinds_from : (p : Program) (l : Layout) (f : ℕ) (qs : List Procedure) → All HasKinds (procs_from p l f qs)
kinds_from p l f [] = All-nil HasKinds
kinds_from p l f (q ∷ qs) = All-cons HasKinds (proc_of p l f q) (procs_from p l (suc f) qs) (of_selected (proc_of p l f q) (of_proc p l f q)) (kinds_from p l (suc f) qs)

pub all_kinds : (p : Program) → All HasKinds (lowered p)
all_kinds p = kinds_from p (layout p.types) 0 p.procedures

pub is_modest : (p : Proc) → HasFewValues p → HasSmallData p → HasKinds p → IsModest (selected p)
is_modest p few small kinds = let bytes = small.bytes in record { values = few; local_bytes = omega (arith, bytes); kinds = kinds }
