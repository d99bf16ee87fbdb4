-- The flow of a valid procedure is valid.
use Rattle.std.proofs.Common.{◌≡◌, ℕ, zero, suc, ◌+◌, ◌<◌, ◌≤◌, Bool, true, false, List, [], ◌∷◌, map, length, Option, Some, None, refl, sym, ap, subst, ◌∙◌, arith}
use Rattle.std.specs.Prelude.{◌&&◌, slice_get}
use mathlib.Core.Bool.{beq}
use Rattle.std.specs.List.{list_all}
use Rattle.std.proofs.lemmas.List.{length-append, length-map}
use Rattle.std.proofs.lemmas.List.Folds.{list_all-append}
use Rattle.std.proofs.lemmas.Bool.Decides.{nat_tests}
use Rattle.block_runs.specs.Blocks.{block_at}
use Rattle.block_runs.specs.Valid.{is_call, enter_below, IsValidCode}
use Rattle.ssa_core.specs.declared.procedure.Op.{Op}
use Rattle.ssa_core.specs.declared.procedure.Block.{Block}
use Rattle.ssa_core.specs.declared.procedure.Proc.{Proc}
use Rattle.ssa_core.specs.Procedures.{code_blocks}
use Rattle.ssa_core.specs.Validity.{IsValid}
use Rattle.lir_core.specs.declared.flow.Node.{Node}
use Rattle.lir_core.specs.Flows.{code_node, code_nodes, preds_of, IsSplit, calls_marked, IsValidFlow}
use Rattle.a64_select.specs.Selected.{joins_of, split_targets, lir_of, old_nodes, edge_node, new_nodes, split_nodes, with_preds, selected}
use Rattle.a64_select.proofs.Splitting.{split_code, with_preds_code, split_blocks}
use Rattle.a64_select.proofs.Targets.{both, first_of_all}
use Rattle.a64_select.proofs.Validity.{slice_below, split_valid}
use Rattle.a64_select.proofs.Split.{is_split}

-- a test of nodes that doesn't see predecessors
preds_unseen : (g : Node → Bool) (f : ℕ → List ℕ) (n : ℕ) (ns : List Node) → ((x : Node) (ps : List ℕ) → g (record x { preds = ps }) ≡ g x) → list_all g (with_preds f n ns) ≡ list_all g ns
preds_unseen g f n [] same = refl
preds_unseen g f n (x ∷ ns) same = ap (λ t. t && list_all g (with_preds f (suc n) ns)) (same x (f n)) ∙ ap (λ t. g x && t) (preds_unseen g f (suc n) ns same)

enter_up : (n m : ℕ) (o : Option ℕ) → n ≤ m → enter_below n o ≡ true → enter_below m o ≡ true
enter_up n m None l h = refl
enter_up n m (Some b) l h = let k : b < n = grind (arith, nat_tests, h) in let j : b < m = omega (arith, k, l) in grind (arith, nat_tests, j)

old_enters : (n m : ℕ) (joins : List Bool) (next : ℕ) (bs : List Block) → n ≤ m → list_all (λ b. enter_below n b.enter) bs ≡ true → list_all (λ x. enter_below m x.enter) (old_nodes joins next bs) ≡ true
old_enters n m joins next [] l h = refl
old_enters n m joins next (b ∷ bs) l h =
    let p = first_of_all (enter_below n b.enter) (list_all (λ c. enter_below n c.enter) bs) h in
    both _ _ (enter_up n m b.enter l p.0) (old_enters n m joins (next + length (split_targets joins b.end)) bs l p.1)

edges_all : (g : Node → Bool) (all : List Block) (freq : ℕ) (ts : List ℕ) → ((t : ℕ) → g (edge_node all freq t) ≡ true) → list_all g (map (edge_node all freq) ts) ≡ true
edges_all g all freq [] each = refl
edges_all g all freq (t ∷ ts) each = both _ _ (each t) (edges_all g all freq ts each)

new_all : (g : Node → Bool) (joins : List Bool) (all bs : List Block) → ((freq t : ℕ) → g (edge_node all freq t) ≡ true) → list_all g (new_nodes joins all bs) ≡ true
new_all g joins all [] each = refl
new_all g joins all (b ∷ bs) each =
    list_all-append g (map (edge_node all b.freq) (split_targets joins b.end)) (new_nodes joins all bs)
    ∙ both _ _ (edges_all g all b.freq (split_targets joins b.end) (each b.freq)) (new_all g joins all bs each)

beq_self : (b : Bool) → beq b b ≡ true
beq_self true = refl
beq_self false = refl

ops_marked : (ops : List Op) → list_all (λ x. beq x.call (is_call x.template)) (map lir_of ops) ≡ true
ops_marked [] = refl
ops_marked (op ∷ ops) = both _ _ (beq_self (is_call op.code)) (ops_marked ops)

old_marked : (joins : List Bool) (next : ℕ) (bs : List Block) → list_all calls_marked (old_nodes joins next bs) ≡ true
old_marked joins next [] = refl
old_marked joins next (b ∷ bs) = both _ _ (ops_marked b.ops) (old_marked joins (next + length (split_targets joins b.end)) bs)

preds_are : (f : ℕ → List ℕ) (a : ℕ) (ns : List Node) (n : ℕ) (node : Node) → slice_get (with_preds f a ns) n ≡ Some node → node.preds ≡ f (a + n)
preds_are f a [] n node e = cc
preds_are f a (x ∷ ns) zero node e = let s : record x { preds = f a } ≡ node = cc in let z : a ≡ a + 0 = omega arith in ap (λ y. y.preds) (sym s) ∙ ap f z
preds_are f a (x ∷ ns) (suc n) node e = let z : suc a + n ≡ a + suc n = omega arith in preds_are f (suc a) ns n node e ∙ ap f z

length-with_preds : (f : ℕ → List ℕ) (n : ℕ) (ns : List Node) → length (with_preds f n ns) ≡ length ns
length-with_preds f n [] = refl
length-with_preds f n (x ∷ ns) = ap suc (length-with_preds f (suc n) ns)

length-old : (joins : List Bool) (next : ℕ) (bs : List Block) → length (old_nodes joins next bs) ≡ length bs
length-old joins next [] = refl
length-old joins next (b ∷ bs) = ap suc (length-old joins (next + length (split_targets joins b.end)) bs)

module _ (p : Proc) (valid : IsValid p) where
  abbrev blocks : List Block
  blocks = p.blocks

  abbrev joins : List Bool
  joins = joins_of (code_blocks p.blocks)

  abbrev nodes : List Node
  nodes = with_preds (preds_of (code_nodes (split_nodes p.blocks))) 0 (split_nodes p.blocks)

  -- the flow as code
  code_is : code_nodes nodes ≡ split_blocks (code_blocks p.blocks)
  code_is = with_preds_code (preds_of (code_nodes (split_nodes p.blocks))) 0 (split_nodes p.blocks) ∙ split_code joins p.blocks

  more_nodes : length p.blocks ≤ length nodes
  more_nodes =
      let a = length-with_preds (preds_of (code_nodes (split_nodes p.blocks))) 0 (split_nodes p.blocks) in
      let b = length-append (old_nodes joins (length p.blocks) p.blocks) (new_nodes joins p.blocks p.blocks) in
      let c = length-old joins (length p.blocks) p.blocks in
      omega (arith, a, b, c)

  enters_are : list_all (λ x. enter_below (length nodes) x.enter) nodes ≡ true
  enters_are =
      preds_unseen (λ x. enter_below (length nodes) x.enter) (preds_of (code_nodes (split_nodes p.blocks))) 0 (split_nodes p.blocks) (λ x ps. refl)
      ∙ (list_all-append (λ x. enter_below (length nodes) x.enter) (old_nodes joins (length p.blocks) p.blocks) (new_nodes joins p.blocks p.blocks)
      ∙ both _ _ (old_enters (length p.blocks) (length nodes) joins (length p.blocks) p.blocks more_nodes valid.enters) (new_all (λ x. enter_below (length nodes) x.enter) joins p.blocks p.blocks (λ freq t. refl)))

  calls_are : list_all calls_marked nodes ≡ true
  calls_are =
      preds_unseen calls_marked (preds_of (code_nodes (split_nodes p.blocks))) 0 (split_nodes p.blocks) (λ x ps. refl)
      ∙ (list_all-append calls_marked (old_nodes joins (length p.blocks) p.blocks) (new_nodes joins p.blocks p.blocks)
      ∙ both _ _ (old_marked joins (length p.blocks) p.blocks) (new_all calls_marked joins p.blocks p.blocks (λ freq t. refl)))

  preds_right : (n : ℕ) (node : Node) → slice_get nodes n ≡ Some node → node.preds ≡ preds_of (code_nodes nodes) n
  preds_right n node e =
      let z : 0 + n ≡ n = omega arith in
      preds_are (preds_of (code_nodes (split_nodes p.blocks))) 0 (split_nodes p.blocks) n node e
      ∙ (ap (preds_of (code_nodes (split_nodes p.blocks))) z
      ∙ ap (λ bls. preds_of bls n) (sym (with_preds_code (preds_of (code_nodes (split_nodes p.blocks))) 0 (split_nodes p.blocks))))

  split_right : (n : ℕ) (node : Node) → slice_get nodes n ≡ Some node → IsSplit (code_nodes nodes) (code_node node)
  split_right n node e =
      let m : n < length nodes = slice_below nodes n node e in
      let l : n < length (code_nodes nodes) = (let k = length-map nodes code_node in omega (arith, k, m)) in
      let l' : n < length (split_blocks (code_blocks p.blocks)) = (let k = ap length code_is in omega (arith, k, l)) in
      let at : block_at (code_nodes nodes) n ≡ code_node node = code_there nodes n node e in
      let h = is_split (code_blocks p.blocks) valid.code.targets n l' in
      subst (IsSplit (code_nodes nodes)) at (subst (λ bls. IsSplit bls (block_at bls n)) (sym code_is) h)
    where
      code_there : (ns : List Node) (i : ℕ) (x : Node) → slice_get ns i ≡ Some x → block_at (code_nodes ns) i ≡ code_node x
      code_there [] i x e = cc
      code_there (y ∷ ns) zero x e = let s : y ≡ x = cc in ap code_node s
      code_there (y ∷ ns) (suc i) x e = code_there ns i x e

  pub selected_valid : IsValidFlow (selected p)
  selected_valid = record {
    code = subst (IsValidCode 1500000000 p.values p.args) (sym code_is) (split_valid 500000000 p.values p.args (code_blocks p.blocks) valid.code);
    enters = enters_are;
    calls = calls_are;
    preds = preds_right;
    split = split_right;
  }
