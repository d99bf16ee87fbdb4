-- What a flow's nodes are as code.
use Rattle.std.proofs.Common.{◌≡◌, ℕ, suc, ◌+◌, ◌≤◌, Bool, true, false, cond, List, [], ◌∷◌, ◌++◌, map, length, refl, sym, ap, ◌∙◌, arith}
use Rattle.std.specs.Prelude.{filter}
use Rattle.std.proofs.lemmas.List.{length-map, map-append}
use Rattle.std.proofs.lemmas.Simd.{map-map}
use Rattle.block_runs.specs.declared.end.End.{End}
use Rattle.block_runs.specs.declared.end.End.TheVariants.{Jump, Branch, Nonzero, Return, Trap}
use Rattle.block_runs.specs.Blocks.{CodeBlock}
use Rattle.ssa_core.specs.declared.procedure.Op.{Op}
use Rattle.ssa_core.specs.declared.procedure.Block.{Block}
use Rattle.ssa_core.specs.Procedures.{code_block, code_blocks}
use Rattle.ssa_core.specs.Procedures.{operation_of as of_op}
use Rattle.lir_core.specs.declared.flow.Node.{Node}
use Rattle.lir_core.specs.Flows.{code_node, code_nodes, operation_of}
use Rattle.a64_select.specs.Selected.{joins_of, is_join, split_targets, split_end, lir_of, old_nodes, edge_node, new_nodes, with_preds}
use Rattle.a64_select.specs.Carrying.{new_targets}

-- a new node as code
abbrev pub edge_block : ℕ → CodeBlock
edge_block to = record { params = []; ops = []; end = Jump to [] }

abbrev pub old_blocks : List Bool → ℕ → List CodeBlock → List CodeBlock
old_blocks joins next [] = []
old_blocks joins next (bl ∷ bls) = record bl { end = split_end joins next bl.end } ∷ old_blocks joins (next + length (split_targets joins bl.end)) bls

abbrev pub split_by : List Bool → List CodeBlock → List CodeBlock
split_by joins bls = old_blocks joins (length bls) bls ++ map edge_block (new_targets joins bls)

abbrev pub split_blocks : List CodeBlock → List CodeBlock
split_blocks bls = split_by (joins_of bls) bls

lirs_code : (ops : List Op) → map operation_of (map lir_of ops) ≡ map of_op ops
lirs_code [] = refl
lirs_code (op ∷ ops) = ap (λ xs. of_op op ∷ xs) (lirs_code ops)

old_code : (joins : List Bool) (next : ℕ) (bs : List Block) → code_nodes (old_nodes joins next bs) ≡ old_blocks joins next (code_blocks bs)
old_code joins next [] = refl
old_code joins next (b ∷ bs) =
    let e = lirs_code b.ops in
    let f = old_code joins (next + length (split_targets joins b.end)) bs in
    ap (λ ops. (record { params = b.params; ops = ops; end = split_end joins next b.end }) ∷ code_nodes (old_nodes joins (next + length (split_targets joins b.end)) bs)) e
    ∙ ap (λ rest. (record { params = b.params; ops = map of_op b.ops; end = split_end joins next b.end }) ∷ rest) f

new_code : (joins : List Bool) (all bs : List Block) → code_nodes (new_nodes joins all bs) ≡ map edge_block (new_targets joins (code_blocks bs))
new_code joins all [] = refl
new_code joins all (b ∷ bs) =
    map-append code_node (map (edge_node all b.freq) (split_targets joins b.end)) (new_nodes joins all bs)
    ∙ (ap (λ xs. xs ++ code_nodes (new_nodes joins all bs)) (map-map code_node (edge_node all b.freq) (split_targets joins b.end))
    ∙ (ap (λ xs. map edge_block (split_targets joins b.end) ++ xs) (new_code joins all bs)
    ∙ sym (map-append edge_block (split_targets joins b.end) (new_targets joins (code_blocks bs)))))

pub split_code : (joins : List Bool) (bs : List Block) → code_nodes (old_nodes joins (length bs) bs ++ new_nodes joins bs bs) ≡ split_by joins (code_blocks bs)
split_code joins bs =
    let n : length bs ≡ length (code_blocks bs) = sym (length-map bs code_block) in
    map-append code_node (old_nodes joins (length bs) bs) (new_nodes joins bs bs)
    ∙ (ap (λ xs. xs ++ code_nodes (new_nodes joins bs bs)) (old_code joins (length bs) bs ∙ ap (λ m. old_blocks joins m (code_blocks bs)) n)
    ∙ ap (λ xs. old_blocks joins (length (code_blocks bs)) (code_blocks bs) ++ xs) (new_code joins bs bs))

pub with_preds_code : (f : ℕ → List ℕ) (n : ℕ) (ns : List Node) → code_nodes (with_preds f n ns) ≡ code_nodes ns
with_preds_code f n [] = refl
with_preds_code f n (x ∷ xs) = ap (λ ys. code_node x ∷ ys) (with_preds_code f (suc n) xs)

---- Steps of the code

length_filter_two : (test : ℕ → Bool) (a b : ℕ) → length (filter test (a ∷ b ∷ [])) ≤ 2
length_filter_two test a b = at_test (test a) (test b)
  where
    at_test : (t u : Bool) → length (cond t (a ∷ cond u (b ∷ []) []) (cond u (b ∷ []) [])) ≤ 2
    at_test true true = omega arith
    at_test true false = omega arith
    at_test false true = omega arith
    at_test false false = omega arith

pub split_targets_few : (joins : List Bool) (e : End) → length (split_targets joins e) ≤ 2
split_targets_few joins (Jump to args) = omega arith
split_targets_few joins (Branch k a b one other) = length_filter_two (is_join joins) one other
split_targets_few joins (Nonzero a one other) = length_filter_two (is_join joins) one other
split_targets_few joins (Return a) = omega arith
split_targets_few joins (Trap kind) = omega arith
