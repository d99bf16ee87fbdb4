-- Predecessors, noted node by node.
use Rattle.std.proofs.Common.{◌≡◌, ◌≢◌, ℕ, zero, suc, ◌+◌, ◌<◌, Bool, true, false, cond, List, [], ◌∷◌, ◌++◌, length, get_or, set, inl, inr, refl, sym, ap, subst, ◌∙◌, arith}
use Rattle.std.specs.Prelude.{◌⊎◌, ◌==◌}
use Rattle.std.specs.List.{list_all}
use Rattle.std.proofs.lemmas.Bool.{cases_eq}
use Rattle.std.proofs.lemmas.List.{append-nil, get_or_default, get_or-set_same, get_or-set_other, length-set, same_lists, get_or-map, length-map}
use Rattle.std.proofs.lemmas.Bool.Decides.{nat_tests}
use Rattle.block_runs.specs.Blocks.{no_block, block_at, successors}
use Rattle.block_runs.specs.Live.{has}
use Rattle.block_runs.specs.Valid.{all_below}
use Rattle.lir_core.specs.declared.flow.Node.{Node}
use Rattle.lir_core.specs.Lines.{AllBelow}
use Rattle.lir_core.specs.Flows.{code_node, code_nodes, leads, preds_of, AreDifferent, no_node}
use Rattle.a64_select.specs.Selected.{with_preds}
use Rattle.a64_select.specs.Making.{different_targets, with_pred, preceded}
use Rattle.a64_select.proofs.Preds.{preds_below, preds_more, different_different, different_below, has_different, all_below_each, all_at}

pub length-preceded : (from : ℕ) (ts : List ℕ) (nodes : List Node) → length (preceded from ts nodes) ≡ length nodes
length-preceded from [] nodes = refl
length-preceded from (t ∷ ts) nodes = length-preceded from ts (set nodes t (with_pred from (get_or nodes t no_node))) ∙ length-set nodes t (with_pred from (get_or nodes t no_node))

set_one : (from : ℕ) (nodes : List Node) (t k : ℕ) → t < length nodes → get_or (set nodes t (with_pred from (get_or nodes t no_node))) k no_node ≡ cond (t == k) (with_pred from (get_or nodes k no_node)) (get_or nodes k no_node)
set_one from nodes t k l = at_test (cases_eq k t)
  where
    at_test : (k ≡ t) ⊎ (k ≢ t) → get_or (set nodes t (with_pred from (get_or nodes t no_node))) k no_node ≡ cond (t == k) (with_pred from (get_or nodes k no_node)) (get_or nodes k no_node)
    at_test (inl e) =
        let s : (t == k) ≡ true = grind (arith, nat_tests, e) in
        ap (λ j. get_or (set nodes t (with_pred from (get_or nodes t no_node))) j no_node) e
        ∙ (get_or-set_same nodes t (with_pred from (get_or nodes t no_node)) no_node l
        ∙ (ap (λ j. with_pred from (get_or nodes j no_node)) (sym e) ∙ ap (λ b. cond b (with_pred from (get_or nodes k no_node)) (get_or nodes k no_node)) (sym s)))
    at_test (inr d) =
        let s : (t == k) ≡ false = grind (arith, nat_tests, d) in
        get_or-set_other nodes t k (with_pred from (get_or nodes t no_node)) no_node d ∙ ap (λ b. cond b (with_pred from (get_or nodes k no_node)) (get_or nodes k no_node)) (sym s)

pub preceded_at : (from : ℕ) (ts : List ℕ) (nodes : List Node) (k : ℕ) → AllBelow (length nodes) ts → AreDifferent ts → get_or (preceded from ts nodes) k no_node ≡ cond (has ts k) (with_pred from (get_or nodes k no_node)) (get_or nodes k no_node)
preceded_at from [] nodes k h d = refl
preceded_at from (t ∷ ts) nodes k h d =
    at_test (t == k) (has ts k) refl refl (preceded_at from ts (set nodes t (with_pred from (get_or nodes t no_node))) k (subst (λ n. AllBelow n ts) (sym (length-set nodes t (with_pred from (get_or nodes t no_node)))) h.1) d.1) (set_one from nodes t k h.0)
  where
    at_test : (b c : Bool) → (t == k) ≡ b → has ts k ≡ c
        → get_or (preceded from ts (set nodes t (with_pred from (get_or nodes t no_node)))) k no_node ≡ cond c (with_pred from (get_or (set nodes t (with_pred from (get_or nodes t no_node))) k no_node)) (get_or (set nodes t (with_pred from (get_or nodes t no_node))) k no_node)
        → get_or (set nodes t (with_pred from (get_or nodes t no_node))) k no_node ≡ cond b (with_pred from (get_or nodes k no_node)) (get_or nodes k no_node)
        → get_or (preceded from ts (set nodes t (with_pred from (get_or nodes t no_node)))) k no_node ≡ cond (cond b true c) (with_pred from (get_or nodes k no_node)) (get_or nodes k no_node)
    at_test true true e f ih s = let same : t ≡ k = grind (arith, nat_tests, e) in let x : has ts k ≡ false = ap (has ts) (sym same) ∙ d.0 in cc
    at_test true false e f ih s = ih ∙ s
    at_test false true e f ih s = ih ∙ ap (with_pred from) s
    at_test false false e f ih s = ih ∙ s

-- the nodes, with the predecessors below i
pub record ArePreceded (start : List Node) (i : ℕ) (nodes : List Node) : Type 0 where
  pub size : length nodes ≡ length start
  pub each : (k : ℕ) → k < length start → get_or nodes k no_node ≡ record (get_or start k no_node) { preds = preds_below (code_nodes start) i k }

pub preceded_start : (start : List Node) → ((k : ℕ) → k < length start → (get_or start k no_node).preds ≡ []) → ArePreceded start 0 start
preceded_start start none = record { size = refl; each = λ k l. ap (λ ps. record (get_or start k no_node) { preds = ps }) (none k l) }

node_there : (start : List Node) (i : ℕ) → i < length start → block_at (code_nodes start) i ≡ code_node (get_or start i no_node)
node_there start i l = get_or-map code_node start i no_node no_block l

abbrev node_with : Node → List ℕ → Node
node_with n ps = record n { preds = ps }

noted : (n : Node) (ps : List ℕ) (i : ℕ) (c : Bool) → cond c (with_pred i (node_with n ps)) (node_with n ps) ≡ node_with n (ps ++ cond c (i ∷ []) [])
noted n ps i true = refl
noted n ps i false = ap (node_with n) (sym (append-nil ps))

targets_there : (start nodes : List Node) (i : ℕ) (ts : List ℕ) → i < length start → ts ≡ different_targets (get_or nodes i no_node).end → ArePreceded start i nodes → ts ≡ different_targets (get_or start i no_node).end
targets_there start nodes i ts l t h = t ∙ ap (λ m. different_targets m.end) (h.each i l)

pub targets_below : (start nodes : List Node) (i : ℕ) (ts : List ℕ) → list_all (λ n. all_below (length start) (successors n.end)) start ≡ true → i < length start → ts ≡ different_targets (get_or nodes i no_node).end
    → ArePreceded start i nodes → AllBelow (length nodes) ts
targets_below start nodes i ts a l t h = subst (λ m. AllBelow m ts) (sym h.size) (subst (AllBelow (length start)) (sym (targets_there start nodes i ts l t h))
    (different_below (length start) (get_or start i no_node).end (all_below_each (length start) (successors (get_or start i no_node).end) (all_at (λ m. all_below (length start) (successors m.end)) start i (get_or start i no_node) a l (get_or_default start i no_node (get_or start i no_node) l)))))

pub preceded_next : (start nodes new : List Node) (i : ℕ) (ts : List ℕ) → list_all (λ n. all_below (length start) (successors n.end)) start ≡ true → i < length start → ts ≡ different_targets (get_or nodes i no_node).end
    → ArePreceded start i nodes → new ≡ preceded i ts nodes → ArePreceded start (i + 1) new
preceded_next start nodes new i ts a l t h n = subst (ArePreceded start (i + 1)) (sym n) (subst (λ j. ArePreceded start j (preceded i ts nodes)) s (record { size = length-preceded i ts nodes ∙ h.size; each = at }))
  where
    s : suc i ≡ i + 1
    s = omega arith

    at : (k : ℕ) → k < length start → get_or (preceded i ts nodes) k no_node ≡ record (get_or start k no_node) { preds = preds_below (code_nodes start) (suc i) k }
    at k kl = preceded_at i ts nodes k (targets_below start nodes i ts a l t h) (subst AreDifferent (sym (targets_there start nodes i ts l t h)) (different_different (get_or start i no_node).end))
        ∙ (ap (λ m. cond (has ts k) (with_pred i m) m) (h.each k kl)
        ∙ (ap (λ b. cond b (with_pred i (node_with (get_or start k no_node) (preds_below (code_nodes start) i k))) (node_with (get_or start k no_node) (preds_below (code_nodes start) i k)))
        (ap (λ us. has us k) (targets_there start nodes i ts l t h) ∙ (has_different (get_or start i no_node).end k ∙ ap (λ b. has (successors b.end) k) (sym (node_there start i l))))
        ∙ (noted (get_or start k no_node) (preds_below (code_nodes start) i k) i (leads (code_nodes start) k i) ∙ ap (node_with (get_or start k no_node)) (sym (preds_more (code_nodes start) i k)))))

length-with_preds : (f : ℕ → List ℕ) (a : ℕ) (ns : List Node) → length (with_preds f a ns) ≡ length ns
length-with_preds f a [] = refl
length-with_preds f a (n ∷ ns) = ap suc (length-with_preds f (suc a) ns)

get_or-with_preds : (f : ℕ → List ℕ) (a : ℕ) (ns : List Node) (k : ℕ) → k < length ns → get_or (with_preds f a ns) k no_node ≡ node_with (get_or ns k no_node) (f (a + k))
get_or-with_preds f a [] k l = absurd (omega (arith, l))
get_or-with_preds f a (n ∷ ns) zero l = let z : a ≡ a + 0 = omega arith in ap (λ j. node_with n (f j)) z
get_or-with_preds f a (n ∷ ns) (suc k) l = let h : k < length ns = omega (arith, l) in let z : suc a + k ≡ a + suc k = omega arith in get_or-with_preds f (suc a) ns k h ∙ ap (λ j. node_with (get_or ns k no_node) (f j)) z

pub preceded_done : (start nodes : List Node) (i : ℕ) → i ≡ length start → ArePreceded start i nodes → nodes ≡ with_preds (preds_of (code_nodes start)) 0 start
preceded_done start nodes i e h = same_lists nodes (with_preds (preds_of (code_nodes start)) 0 start) (h.size ∙ sym (length-with_preds (preds_of (code_nodes start)) 0 start))
    (λ k d l. let b : k < length start = (let s = h.size in omega (arith, s, l)) in
    let z : 0 + k ≡ k = omega arith in
    let w : k < length (with_preds (preds_of (code_nodes start)) 0 start) = (let s = length-with_preds (preds_of (code_nodes start)) 0 start in omega (arith, s, b)) in
    let n : i ≡ length (code_nodes start) = e ∙ sym (length-map start code_node) in
    get_or_default nodes k d no_node l ∙ (h.each k b
    ∙ (ap (λ j. node_with (get_or start k no_node) (preds_below (code_nodes start) j k)) n
    ∙ (ap (λ j. node_with (get_or start k no_node) (preds_of (code_nodes start) j)) (sym z) ∙ (sym (get_or-with_preds (preds_of (code_nodes start)) 0 start k b) ∙ get_or_default (with_preds (preds_of (code_nodes start)) 0 start) k no_node d w)))))
