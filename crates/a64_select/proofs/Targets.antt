-- Where the edges of a flow lead.
use Rattle.std.proofs.Common.{◌≡◌, ℕ, zero, suc, ◌+◌, ◌*◌, ◌<◌, ◌≤◌, Bool, true, false, cond, List, [], ◌∷◌, ◌++◌, map, length, get_or, None, refl, sym, ap, ◌∙◌, arith}
use Rattle.std.specs.Prelude.{◌&&◌, nat_lt, filter}
use Rattle.std.specs.List.{list_all}
use Rattle.std.proofs.lemmas.List.{length-append, length-map}
use Rattle.std.proofs.lemmas.List.Folds.{list_all-append, list_all-map}
use Rattle.std.proofs.lemmas.Bool.Decides.{nat_tests}
use Rattle.run_laws.specs.Layers.{places_from}
use Rattle.run_laws.proofs.Layers.{length-places_from}
use Rattle.block_runs.specs.declared.end.End.{End}
use Rattle.block_runs.specs.declared.end.End.TheVariants.{Jump, Branch, Nonzero, Return, Trap}
use Rattle.block_runs.specs.Blocks.{CodeBlock, successors}
use Rattle.block_runs.specs.Valid.{all_below, size_of}
use Rattle.ssa_core.specs.declared.procedure.Block.{Block}
use Rattle.ssa_core.specs.Procedures.{code_block, code_blocks}
use Rattle.lir_core.specs.declared.flow.Lir.{Lir}
use Rattle.lir_core.specs.declared.flow.Node.{Node}
use Rattle.lir_core.specs.Lines.{AllBelow}
use Rattle.lir_core.specs.Flows.{code_node, code_nodes, preds_of, has_several, no_node}
use Rattle.a64_select.specs.Selected.{joins_of, is_join, split_targets, redirected, behind, split_end, old_nodes, freq_at, edge_node, new_nodes}
use Rattle.a64_select.proofs.Preds.{all_below_each}
use Rattle.a64_select.specs.Carrying.{new_targets}
use Rattle.a64_select.proofs.Splitting.{edge_block, old_blocks, split_by, split_code, split_targets_few}

pub each_all_below : (n : ℕ) (xs : List ℕ) → AllBelow n xs → all_below n xs ≡ true
each_all_below n [] h = refl
each_all_below n (x ∷ xs) h = let t : nat_lt x n ≡ true = grind (arith, nat_tests, h.0) in let r = each_all_below n xs h.1 in cc

all_below_up : (n m : ℕ) (xs : List ℕ) → n ≤ m → AllBelow n xs → AllBelow m xs
all_below_up n m [] l h = tt
all_below_up n m (x ∷ xs) l h = (omega (arith, l, h.0), all_below_up n m xs l h.1)

-- what passes a test is below too
filter_below : (n : ℕ) (test : ℕ → Bool) (xs : List ℕ) → AllBelow n xs → AllBelow n (filter test xs)
filter_below n test [] h = tt
filter_below n test (x ∷ xs) h = at_test (test x) (filter_below n test xs h.1)
  where
    at_test : (b : Bool) → AllBelow n (filter test xs) → AllBelow n (cond b (x ∷ filter test xs) (filter test xs))
    at_test true r = (h.0, r)
    at_test false r = r

pub split_targets_below : (n : ℕ) (joins : List Bool) (e : End) → AllBelow n (successors e) → AllBelow n (split_targets joins e)
split_targets_below n joins (Jump to args) h = tt
split_targets_below n joins (Branch k a b one other) h = filter_below n (is_join joins) (one ∷ other ∷ []) h
split_targets_below n joins (Nonzero a one other) h = filter_below n (is_join joins) (one ∷ other ∷ []) h
split_targets_below n joins (Return a) h = tt
split_targets_below n joins (Trap kind) h = tt

two_below : (m next one other : ℕ) (joins : List Bool) → AllBelow m (one ∷ other ∷ []) → next + length (filter (is_join joins) (one ∷ other ∷ [])) ≤ m → AllBelow m (redirected joins next one ∷ redirected joins (behind joins next one) other ∷ [])
two_below m next one other joins h l = at_test (is_join joins one) (is_join joins other) l
  where
    at_test : (t u : Bool) → next + length (cond t (one ∷ cond u (other ∷ []) []) (cond u (other ∷ []) [])) ≤ m → AllBelow m (cond t next one ∷ cond u (cond t (suc next) next) other ∷ [])
    at_test true true l = (omega (arith, l), (omega (arith, l), tt))
    at_test true false l = (omega (arith, l), (h.1.0, tt))
    at_test false true l = (h.0, (omega (arith, l), tt))
    at_test false false l = (h.0, (h.1.0, tt))

pub split_end_below : (n m next : ℕ) (joins : List Bool) (e : End) → n ≤ m → AllBelow n (successors e) → next + length (split_targets joins e) ≤ m → AllBelow m (successors (split_end joins next e))
split_end_below n m next joins (Jump to args) l h k = all_below_up n m (to ∷ []) l h
split_end_below n m next joins (Branch c a b one other) l h k = two_below m next one other joins (all_below_up n m (one ∷ other ∷ []) l h) k
split_end_below n m next joins (Nonzero a one other) l h k = two_below m next one other joins (all_below_up n m (one ∷ other ∷ []) l h) k
split_end_below n m next joins (Return a) l h k = tt
split_end_below n m next joins (Trap kind) l h k = tt

-- all ends of some blocks lead below n
abbrev pub leads_below : ℕ → List CodeBlock → Bool
leads_below n bls = list_all (λ bl. all_below n (successors bl.end)) bls

pub first_of_all : (x : Bool) (y : Bool) → (x && y) ≡ true → (x ≡ true) × (y ≡ true)
first_of_all true y e = (refl, e)
first_of_all false y e = cc

pub both : (x y : Bool) → x ≡ true → y ≡ true → (x && y) ≡ true
both x y e f = cc

pub old_below : (n m next : ℕ) (joins : List Bool) (bls : List CodeBlock) → n ≤ m → leads_below n bls ≡ true → next + length (new_targets joins bls) ≤ m → leads_below m (old_blocks joins next bls) ≡ true
old_below n m next joins [] l h k = refl
old_below n m next joins (bl ∷ bls) l h k =
    let p = first_of_all (all_below n (successors bl.end)) (leads_below n bls) h in
    let s = length-append (split_targets joins bl.end) (new_targets joins bls) in
    let a : next + length (split_targets joins bl.end) ≤ m = omega (arith, s, k) in
    let b : next + length (split_targets joins bl.end) + length (new_targets joins bls) ≤ m = omega (arith, s, k) in
    both _ _ (each_all_below m _ (split_end_below n m next joins bl.end l (all_below_each n (successors bl.end) p.0) a)) (old_below n m (next + length (split_targets joins bl.end)) joins bls l p.1 b)

pub new_targets_below : (n : ℕ) (joins : List Bool) (bls : List CodeBlock) → leads_below n bls ≡ true → AllBelow n (new_targets joins bls)
new_targets_below n joins [] h = tt
new_targets_below n joins (bl ∷ bls) h =
    let p = first_of_all (all_below n (successors bl.end)) (leads_below n bls) h in
    below_append (split_targets joins bl.end) (new_targets joins bls) (split_targets_below n joins bl.end (all_below_each n (successors bl.end) p.0)) (new_targets_below n joins bls p.1)
  where
    below_append : (xs ys : List ℕ) → AllBelow n xs → AllBelow n ys → AllBelow n (xs ++ ys)
    below_append [] ys a b = b
    below_append (x ∷ xs) ys a b = (a.0, below_append xs ys a.1 b)

edges_below : (n m : ℕ) (ts : List ℕ) → n ≤ m → AllBelow n ts → leads_below m (map edge_block ts) ≡ true
edges_below n m [] l h = refl
edges_below n m (t ∷ ts) l h = let x : nat_lt t m ≡ true = (let a = h.0 in grind (arith, nat_tests, a, l)) in let r = edges_below n m ts l h.1 in both _ _ (both _ _ x refl) r

pub length-old_blocks : (joins : List Bool) (next : ℕ) (bls : List CodeBlock) → length (old_blocks joins next bls) ≡ length bls
length-old_blocks joins next [] = refl
length-old_blocks joins next (bl ∷ bls) = ap suc (length-old_blocks joins (next + length (split_targets joins bl.end)) bls)

pub length-split_by : (joins : List Bool) (bls : List CodeBlock) → length (split_by joins bls) ≡ length bls + length (new_targets joins bls)
length-split_by joins bls =
    length-append (old_blocks joins (length bls) bls) (map edge_block (new_targets joins bls))
    ∙ (ap (λ n. n + length (map edge_block (new_targets joins bls))) (length-old_blocks joins (length bls) bls) ∙ ap (λ n. length bls + n) (length-map (new_targets joins bls) edge_block))

pub split_below : (joins : List Bool) (bls : List CodeBlock) → leads_below (length bls) bls ≡ true → leads_below (length (split_by joins bls)) (split_by joins bls) ≡ true
split_below joins bls h =
    let s = length-split_by joins bls in
    let l : length bls ≤ length (split_by joins bls) = omega (arith, s) in
    let k : length bls + length (new_targets joins bls) ≤ length (split_by joins bls) = omega (arith, s) in
    list_all-append (λ bl. all_below (length (split_by joins bls)) (successors bl.end)) (old_blocks joins (length bls) bls) (map edge_block (new_targets joins bls))
    ∙ both _ _ (old_below (length bls) (length (split_by joins bls)) (length bls) joins bls l h k) (edges_below (length bls) (length (split_by joins bls)) (new_targets joins bls) l (new_targets_below (length bls) joins bls h))

---- What the code asks

pub code_leads : (bs : List Block) → list_all (λ b. all_below (length bs) (successors b.end)) bs ≡ leads_below (length (code_blocks bs)) (code_blocks bs)
code_leads bs = ap (λ n. list_all (λ b. all_below n (successors b.end)) bs) (sym (length-map bs code_block)) ∙ sym (list_all-map (λ bl. all_below (length (code_blocks bs)) (successors bl.end)) code_block bs)

node_leads : (ns : List Node) → list_all (λ n. all_below (length ns) (successors n.end)) ns ≡ leads_below (length (code_nodes ns)) (code_nodes ns)
node_leads ns = ap (λ n. list_all (λ b. all_below n (successors b.end)) ns) (sym (length-map ns code_node)) ∙ sym (list_all-map (λ bl. all_below (length (code_nodes ns)) (successors bl.end)) code_node ns)

pub nodes_lead : (joins : List Bool) (bs : List Block) → list_all (λ b. all_below (length bs) (successors b.end)) bs ≡ true → let ns = old_nodes joins (length bs) bs ++ new_nodes joins bs bs in list_all (λ n. all_below (length ns) (successors n.end)) ns ≡ true
nodes_lead joins bs h =
    let ns = old_nodes joins (length bs) bs ++ new_nodes joins bs bs in
    node_leads ns ∙ (ap (λ bls. leads_below (length bls) bls) (split_code joins bs) ∙ split_below joins (code_blocks bs) (sym (code_leads bs) ∙ h))

no_preds_edges : (all : List Block) (freq : ℕ) (ts : List ℕ) (rest : List Node) → ((k : ℕ) → (get_or rest k no_node).preds ≡ []) → (k : ℕ) → (get_or (map (edge_node all freq) ts ++ rest) k no_node).preds ≡ []
no_preds_edges all freq [] rest h k = h k
no_preds_edges all freq (t ∷ ts) rest h zero = refl
no_preds_edges all freq (t ∷ ts) rest h (suc k) = no_preds_edges all freq ts rest h k

no_preds_new : (joins : List Bool) (all bs : List Block) (k : ℕ) → (get_or (new_nodes joins all bs) k no_node).preds ≡ []
no_preds_new joins all [] k = refl
no_preds_new joins all (b ∷ bs) k = no_preds_edges all b.freq (split_targets joins b.end) (new_nodes joins all bs) (no_preds_new joins all bs) k

pub no_preds_old : (joins : List Bool) (next : ℕ) (all bs : List Block) (k : ℕ) → (get_or (old_nodes joins next bs ++ new_nodes joins all all) k no_node).preds ≡ []
no_preds_old joins next all [] k = no_preds_new joins all all k
no_preds_old joins next all (b ∷ bs) zero = refl
no_preds_old joins next all (b ∷ bs) (suc k) = no_preds_old joins (next + length (split_targets joins b.end)) all bs k

few_new : (joins : List Bool) (all bs : List Block) → length (new_nodes joins all bs) ≤ 2 * length bs
few_new joins all [] = omega arith
few_new joins all (b ∷ bs) =
    let a = length-append (map (edge_node all b.freq) (split_targets joins b.end)) (new_nodes joins all bs) in
    let m = length-map (split_targets joins b.end) (edge_node all b.freq) in
    let k = split_targets_few joins b.end in
    let r = few_new joins all bs in
    omega (arith, a, m, k, r)

length-old_nodes : (joins : List Bool) (next : ℕ) (bs : List Block) → length (old_nodes joins next bs) ≡ length bs
length-old_nodes joins next [] = refl
length-old_nodes joins next (b ∷ bs) = ap suc (length-old_nodes joins (next + length (split_targets joins b.end)) bs)

pub few_nodes : (joins : List Bool) (bs : List Block) → length (old_nodes joins (length bs) bs ++ new_nodes joins bs bs) ≤ 3 * length bs
few_nodes joins bs =
    let a = length-append (old_nodes joins (length bs) bs) (new_nodes joins bs bs) in
    let o = length-old_nodes joins (length bs) bs in
    let n = few_new joins bs bs in
    omega (arith, a, o, n)

pub length-joins_of : (bs : List Block) → length (joins_of (code_blocks bs)) ≡ length bs
length-joins_of bs = length-map (places_from 0 (length (code_blocks bs))) (λ to. has_several (preds_of (code_blocks bs) to)) ∙ (length-places_from 0 (length (code_blocks bs)) ∙ length-map bs code_block)

pub few_blocks : (bls : List CodeBlock) → length bls ≤ size_of bls
few_blocks [] = omega arith
few_blocks (bl ∷ bls) = let r = few_blocks bls in omega (arith, r)

pub freq_at-read : (bs : List Block) (to : ℕ) (b : Block) → to < length bs → b ≡ get_or bs to b → freq_at bs to ≡ b.freq
freq_at-read [] to b l e = absurd (omega (arith, l))
freq_at-read (x ∷ bs) zero b l e = ap (λ y. y.freq) (sym e)
freq_at-read (x ∷ bs) (suc to) b l e = let h : to < length bs = omega (arith, l) in freq_at-read bs to b h e

pub made_edge : (ps : List ℕ) (ls : List Lir) (us : List ℕ) (f g to : ℕ) (qs : List ℕ) → ps ≡ [] → ls ≡ [] → us ≡ [] → f ≡ g → qs ≡ []
    → (let n : Node = record { params = ps; lirs = ls; end = Jump to us; freq = f; preds = qs; enter = None } in n) ≡ record { params = []; lirs = []; end = Jump to []; freq = g; preds = []; enter = None }
made_edge ps ls us f g to qs p l a e q =
    ap (λ (x : List ℕ). let n : Node = record { params = x; lirs = ls; end = Jump to us; freq = f; preds = qs; enter = None } in n) p
    ∙ (ap (λ (x : List Lir). let n : Node = record { params = []; lirs = x; end = Jump to us; freq = f; preds = qs; enter = None } in n) l
    ∙ (ap (λ (x : List ℕ). let n : Node = record { params = []; lirs = []; end = Jump to x; freq = f; preds = qs; enter = None } in n) a
    ∙ (ap (λ (x : ℕ). let n : Node = record { params = []; lirs = []; end = Jump to []; freq = x; preds = qs; enter = None } in n) e
    ∙ ap (λ (x : List ℕ). let n : Node = record { params = []; lirs = []; end = Jump to []; freq = g; preds = x; enter = None } in n) q)))
