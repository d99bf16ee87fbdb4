-- The flow of a valid procedure is valid: its code.
use Rattle.std.proofs.Common.{◌≡◌, ℕ, zero, suc, ◌+◌, ◌-◌, ◌*◌, ◌<◌, ◌≤◌, Bool, true, false, cond, List, [], ◌∷◌, ◌++◌, map, length, take, get_or, Some, inl, inr, refl, sym, ap, subst, ◌∙◌, arith}
use Rattle.std.specs.Prelude.{◌⊎◌, ◌&&◌, ◌==◌, nat_lt, filter, slice_get, option_to_list}
use Rattle.std.specs.List.{list_all}
use Rattle.std.proofs.lemmas.List.{length-append, append_assoc, get_or-map, get_or-append_right, get_or_default}
use Rattle.std.proofs.lemmas.List.Folds.{list_all-append}
use Rattle.std.proofs.lemmas.Bool.{cases_lt}
use Rattle.std.proofs.lemmas.Bool.Decides.{nat_tests}
use Rattle.block_runs.specs.declared.end.End.{End}
use Rattle.block_runs.specs.declared.end.End.TheVariants.{Jump, Branch, Nonzero, Return, Trap}
use Rattle.block_runs.specs.Blocks.{Operation, CodeBlock, no_block, block_at, end_uses, successors}
use Rattle.block_runs.specs.Live.{has, block_makes, reads, Live}
use Rattle.block_runs.specs.Live.Live.{Here, Later}
use Rattle.block_runs.specs.Valid.{operation_fits, condition_fits, params_of, arguments_fit, all_below, uses_of, block_reads, made, times, size_of, IsPlaced, IsValidCode}
use Rattle.lir_core.specs.Lines.{AllBelow}
use Rattle.a64_select.specs.Selected.{joins_of, is_join, split_targets, redirected, behind, split_end}
use Rattle.a64_select.specs.Carrying.{new_targets, first_new}
use Rattle.a64_select.proofs.Preds.{all_below_each, all_at}
use Rattle.a64_select.proofs.Splitting.{edge_block, old_blocks, split_blocks, split_targets_few}
use Rattle.a64_select.proofs.Targets.{leads_below, both, first_of_all, new_targets_below, length-old_blocks, length-split_by, split_below, few_blocks}
use Rattle.a64_select.proofs.Carried.{split_at, new_at, IsEdge, two_edges}

---- Sizes

size_append : (xs ys : List CodeBlock) → size_of (xs ++ ys) ≡ size_of xs + size_of ys
size_append [] ys = omega arith
size_append (x ∷ xs) ys = let r = size_append xs ys in omega (arith, r)

size_old : (joins : List Bool) (next : ℕ) (bls : List CodeBlock) → size_of (old_blocks joins next bls) ≡ size_of bls
size_old joins next [] = refl
size_old joins next (bl ∷ bls) = let r = size_old joins (next + length (split_targets joins bl.end)) bls in omega (arith, r)

size_edges : (ts : List ℕ) → size_of (map edge_block ts) ≡ length ts
size_edges [] = refl
size_edges (t ∷ ts) = let r = size_edges ts in omega (arith, r)

few_targets : (joins : List Bool) (bls : List CodeBlock) → length (new_targets joins bls) ≤ 2 * length bls
few_targets joins [] = omega arith
few_targets joins (bl ∷ bls) =
    let a = length-append (split_targets joins bl.end) (new_targets joins bls) in
    let f = split_targets_few joins bl.end in
    let r = few_targets joins bls in
    omega (arith, a, f, r)

few_split : (bls : List CodeBlock) → size_of (split_blocks bls) ≤ 3 * size_of bls
few_split bls =
    let j = joins_of bls in
    let a = size_append (old_blocks j (length bls) bls) (map edge_block (new_targets j bls)) in
    let o = size_old j (length bls) bls in
    let e = size_edges (new_targets j bls) in
    let f = few_targets j bls in
    let b = few_blocks bls in
    omega (arith, a, o, e, f, b)

---- What ends keep

end_uses_same : (joins : List Bool) (next : ℕ) (e : End) → end_uses (split_end joins next e) ≡ end_uses e
end_uses_same joins next (Jump to args) = refl
end_uses_same joins next (Branch k a b one other) = refl
end_uses_same joins next (Nonzero a one other) = refl
end_uses_same joins next (Return a) = refl
end_uses_same joins next (Trap kind) = refl

condition_same : (joins : List Bool) (next : ℕ) (e : End) → condition_fits (split_end joins next e) ≡ condition_fits e
condition_same joins next (Jump to args) = refl
condition_same joins next (Branch k a b one other) = refl
condition_same joins next (Nonzero a one other) = refl
condition_same joins next (Return a) = refl
condition_same joins next (Trap kind) = refl

reads_same : (ops : List Operation) (joins : List Bool) (next : ℕ) (e : End) (v : ℕ) → reads ops (split_end joins next e) v ≡ reads ops e v
reads_same [] joins next e v = ap (λ us. has us v) (end_uses_same joins next e)
reads_same (op ∷ ops) joins next e v = ap (λ r. cond (has op.uses v) true (cond (has (option_to_list op.def) v) false r)) (reads_same ops joins next e v)

abbrev pub redirect : List Bool → ℕ → CodeBlock → CodeBlock
redirect joins next bl = record bl { end = split_end joins next bl.end }

-- a test of blocks that doesn't see where edges lead, and that new nodes pass
old_all : (f : CodeBlock → Bool) (joins : List Bool) (next : ℕ) (bls : List CodeBlock) → ((k : ℕ) (bl : CodeBlock) → f (redirect joins k bl) ≡ f bl) → list_all f (old_blocks joins next bls) ≡ list_all f bls
old_all f joins next [] same = refl
old_all f joins next (bl ∷ bls) same = ap (λ t. t && list_all f (old_blocks joins (next + length (split_targets joins bl.end)) bls)) (same next bl) ∙ ap (λ t. f bl && t) (old_all f joins (next + length (split_targets joins bl.end)) bls same)

edges_all : (f : CodeBlock → Bool) (ts : List ℕ) → ((t : ℕ) → f (edge_block t) ≡ true) → list_all f (map edge_block ts) ≡ true
edges_all f [] each = refl
edges_all f (t ∷ ts) each = both _ _ (each t) (edges_all f ts each)

split_all : (f : CodeBlock → Bool) (bls : List CodeBlock) → ((k : ℕ) (bl : CodeBlock) → f (redirect (joins_of bls) k bl) ≡ f bl) → ((t : ℕ) → f (edge_block t) ≡ true) → list_all f bls ≡ true → list_all f (split_blocks bls) ≡ true
split_all f bls same each h =
    let j = joins_of bls in
    list_all-append f (old_blocks j (length bls) bls) (map edge_block (new_targets j bls))
    ∙ both _ _ (old_all f j (length bls) bls same ∙ h) (edges_all f (new_targets j bls) each)

---- Values that are made

made_append : (xs ys : List CodeBlock) → made (xs ++ ys) ≡ made xs ++ made ys
made_append [] ys = refl
made_append (x ∷ xs) ys = ap (λ r. block_makes x ++ r) (made_append xs ys) ∙ sym (append_assoc (block_makes x) (made xs) (made ys))

made_old : (joins : List Bool) (next : ℕ) (bls : List CodeBlock) → made (old_blocks joins next bls) ≡ made bls
made_old joins next [] = refl
made_old joins next (bl ∷ bls) = ap (λ r. block_makes bl ++ r) (made_old joins (next + length (split_targets joins bl.end)) bls)

made_edges : (ts : List ℕ) → made (map edge_block ts) ≡ []
made_edges [] = refl
made_edges (t ∷ ts) = made_edges ts

append_none : (xs : List ℕ) → xs ++ [] ≡ xs
append_none [] = refl
append_none (x ∷ xs) = ap (λ r. x ∷ r) (append_none xs)

made_same : (bls : List CodeBlock) → made (split_blocks bls) ≡ made bls
made_same bls =
    let j = joins_of bls in
    made_append (old_blocks j (length bls) bls) (map edge_block (new_targets j bls))
    ∙ (ap (λ r. made (old_blocks j (length bls) bls) ++ r) (made_edges (new_targets j bls)) ∙ (append_none (made (old_blocks j (length bls) bls)) ∙ made_old j (length bls) bls))

---- Parameters and arguments

params_old : (bls : List CodeBlock) (b : ℕ) → b < length bls → params_of (split_blocks bls) b ≡ params_of bls b
params_old bls b l = ap (λ bl. length bl.params) (split_at bls b l)

edge_params : (ts : List ℕ) (k : ℕ) → length (get_or (map edge_block ts) k no_block).params ≡ 0
edge_params [] k = refl
edge_params (t ∷ ts) zero = refl
edge_params (t ∷ ts) (suc k) = edge_params ts k

params_new : (bls : List CodeBlock) (m : ℕ) → length bls ≤ m → params_of (split_blocks bls) m ≡ 0
params_new bls m l =
    let j = joins_of bls in
    ap (λ bl. length bl.params) (get_or-append_right (old_blocks j (length bls) bls) (map edge_block (new_targets j bls)) (length bls) m no_block (length-old_blocks j (length bls) bls) l)
    ∙ edge_params (new_targets j bls) (m - length bls)

redirect_params : (bls : List CodeBlock) (next to : ℕ) → to < length bls → length bls ≤ next → (params_of bls to == 0) ≡ true → (params_of (split_blocks bls) (redirected (joins_of bls) next to) == 0) ≡ true
redirect_params bls next to l n h = at_test (is_join (joins_of bls) to)
  where
    at_test : (t : Bool) → (params_of (split_blocks bls) (cond t next to) == 0) ≡ true
    at_test true = ap (λ k. k == 0) (params_new bls next n)
    at_test false = ap (λ k. k == 0) (params_old bls to l) ∙ h

behind_new : (joins : List Bool) (n next to : ℕ) → n ≤ next → n ≤ behind joins next to
behind_new joins n next to h = at_test (is_join joins to)
  where
    at_test : (t : Bool) → n ≤ cond t (suc next) next
    at_test true = omega (arith, h)
    at_test false = h

two_arguments : (bls : List CodeBlock) (next one other : ℕ) → AllBelow (length bls) (one ∷ other ∷ []) → length bls ≤ next → (params_of bls one == 0 && params_of bls other == 0) ≡ true
    → (params_of (split_blocks bls) (redirected (joins_of bls) next one) == 0 && params_of (split_blocks bls) (redirected (joins_of bls) (behind (joins_of bls) next one) other) == 0) ≡ true
two_arguments bls next one other b n h =
    let p = first_of_all (params_of bls one == 0) (params_of bls other == 0) h in
    both _ _ (redirect_params bls next one b.0 n p.0) (redirect_params bls (behind (joins_of bls) next one) other b.1.0 (behind_new (joins_of bls) (length bls) next one n) p.1)

end_arguments : (bls : List CodeBlock) (next : ℕ) (e : End) → AllBelow (length bls) (successors e) → length bls ≤ next → arguments_fit bls e ≡ true → arguments_fit (split_blocks bls) (split_end (joins_of bls) next e) ≡ true
end_arguments bls next (Jump to args) b n h = ap (λ k. length args == k) (params_old bls to b.0) ∙ h
end_arguments bls next (Branch k a c one other) b n h = two_arguments bls next one other b n h
end_arguments bls next (Nonzero a one other) b n h = two_arguments bls next one other b n h
end_arguments bls next (Return a) b n h = refl
end_arguments bls next (Trap kind) b n h = refl

old_arguments : (bls : List CodeBlock) (next : ℕ) (some : List CodeBlock) → length bls ≤ next → leads_below (length bls) some ≡ true → list_all (λ bl. arguments_fit bls bl.end) some ≡ true → list_all (λ bl. arguments_fit (split_blocks bls) bl.end) (old_blocks (joins_of bls) next some) ≡ true
old_arguments bls next [] n b h = refl
old_arguments bls next (bl ∷ some) n b h =
    let p = first_of_all (all_below (length bls) (successors bl.end)) (leads_below (length bls) some) b in
    let q = first_of_all (arguments_fit bls bl.end) (list_all (λ x. arguments_fit bls x.end) some) h in
    let m : length bls ≤ next + length (split_targets (joins_of bls) bl.end) = omega (arith, n) in
    both _ _ (end_arguments bls next bl.end (all_below_each (length bls) (successors bl.end) p.0) n q.0) (old_arguments bls (next + length (split_targets (joins_of bls) bl.end)) some m p.1 q.1)

-- targets without parameters
abbrev AreBare : List CodeBlock → List ℕ → Type 0
AreBare bls [] = Unit {0}
AreBare bls (t ∷ ts) = ((params_of bls t == 0) ≡ true) × AreBare bls ts

bare_append : (bls : List CodeBlock) (xs ys : List ℕ) → AreBare bls xs → AreBare bls ys → AreBare bls (xs ++ ys)
bare_append bls [] ys a b = b
bare_append bls (x ∷ xs) ys a b = (a.0, bare_append bls xs ys a.1 b)

bare_filter : (bls : List CodeBlock) (test : ℕ → Bool) (xs : List ℕ) → AreBare bls xs → AreBare bls (filter test xs)
bare_filter bls test [] h = tt
bare_filter bls test (x ∷ xs) h = at_test (test x) (bare_filter bls test xs h.1)
  where
    at_test : (b : Bool) → AreBare bls (filter test xs) → AreBare bls (cond b (x ∷ filter test xs) (filter test xs))
    at_test true r = (h.0, r)
    at_test false r = r

two_bare : (bls : List CodeBlock) (one other : ℕ) → (params_of bls one == 0 && params_of bls other == 0) ≡ true → AreBare bls (filter (is_join (joins_of bls)) (one ∷ other ∷ []))
two_bare bls one other h = let p = first_of_all (params_of bls one == 0) (params_of bls other == 0) h in bare_filter bls (is_join (joins_of bls)) (one ∷ other ∷ []) (p.0, (p.1, tt))

end_bare : (bls : List CodeBlock) (e : End) → arguments_fit bls e ≡ true → AreBare bls (split_targets (joins_of bls) e)
end_bare bls (Jump to args) h = tt
end_bare bls (Branch k a b one other) h = two_bare bls one other h
end_bare bls (Nonzero a one other) h = two_bare bls one other h
end_bare bls (Return a) h = tt
end_bare bls (Trap kind) h = tt

new_bare : (bls some : List CodeBlock) → list_all (λ bl. arguments_fit bls bl.end) some ≡ true → AreBare bls (new_targets (joins_of bls) some)
new_bare bls [] h = tt
new_bare bls (bl ∷ some) h =
    let q = first_of_all (arguments_fit bls bl.end) (list_all (λ x. arguments_fit bls x.end) some) h in
    bare_append bls (split_targets (joins_of bls) bl.end) (new_targets (joins_of bls) some) (end_bare bls bl.end q.0) (new_bare bls some q.1)

turned_test : (n : ℕ) → (n == 0) ≡ true → (0 == n) ≡ true
turned_test n h = grind (arith, nat_tests, h)

edges_arguments : (bls : List CodeBlock) (ts : List ℕ) → AllBelow (length bls) ts → AreBare bls ts → list_all (λ bl. arguments_fit (split_blocks bls) bl.end) (map edge_block ts) ≡ true
edges_arguments bls [] b h = refl
edges_arguments bls (t ∷ ts) b h = both _ _ (ap (λ k. 0 == k) (params_old bls t b.0) ∙ turned_test (params_of bls t) h.0) (edges_arguments bls ts b.1 h.1)

split_arguments : (bls : List CodeBlock) → leads_below (length bls) bls ≡ true → list_all (λ bl. arguments_fit bls bl.end) bls ≡ true → list_all (λ bl. arguments_fit (split_blocks bls) bl.end) (split_blocks bls) ≡ true
split_arguments bls l h =
    let j = joins_of bls in
    let n : length bls ≤ length bls = omega arith in
    list_all-append (λ bl. arguments_fit (split_blocks bls) bl.end) (old_blocks j (length bls) bls) (map edge_block (new_targets j bls))
    ∙ both _ _ (old_arguments bls (length bls) bls n l h) (edges_arguments bls (new_targets j bls) (new_targets_below (length bls) j bls l) (new_bare bls bls h))

---- Liveness

-- the block that a node stands for: a new node the target of its edge
abbrev pub origin : List CodeBlock → ℕ → ℕ
origin bls m = cond (nat_lt m (length bls)) m (get_or (new_targets (joins_of bls) bls) (m - length bls) 0)

pub origin_old : (bls : List CodeBlock) (m : ℕ) → m < length bls → origin bls m ≡ m
origin_old bls m l = let t : nat_lt m (length bls) ≡ true = grind (arith, nat_tests, l) in ap (λ b. cond b m (get_or (new_targets (joins_of bls) bls) (m - length bls) 0)) t

origin_from : (bls : List CodeBlock) (m : ℕ) → length bls ≤ m → origin bls m ≡ get_or (new_targets (joins_of bls) bls) (m - length bls) 0
origin_from bls m l = let t : nat_lt m (length bls) ≡ false = grind (arith, nat_tests, l) in ap (λ b. cond b m (get_or (new_targets (joins_of bls) bls) (m - length bls) 0)) t

origin_new : (bls : List CodeBlock) (b i : ℕ) → i < length (split_targets (joins_of bls) (block_at bls b).end) → origin bls (first_new bls b + i) ≡ get_or (split_targets (joins_of bls) (block_at bls b).end) i 0
origin_new bls b i l =
    let n : length bls ≤ first_new bls b + i = omega arith in
    let e : first_new bls b + i - length bls ≡ length (new_targets (joins_of bls) (take b bls)) + i = omega arith in
    origin_from bls (first_new bls b + i) n ∙ (ap (λ k. get_or (new_targets (joins_of bls) bls) k 0) e ∙ new_at (joins_of bls) bls b i l)

edge_origin : (bls : List CodeBlock) (b to to' : ℕ) → to < length bls → IsEdge (split_targets (joins_of bls) (block_at bls b).end) (first_new bls b) to to' → origin bls to' ≡ to
edge_origin bls b to to' l (inl e) = ap (origin bls) e ∙ origin_old bls to l
edge_origin bls b to to' l (inr (i, k, e, g)) = ap (origin bls) e ∙ (origin_new bls b i k ∙ g)

same_self : (a : ℕ) → (a == a) ≡ true
same_self a = grind (arith, nat_tests)

has_one : (a : ℕ) (xs : List ℕ) → has (a ∷ xs) a ≡ true
has_one a xs = ap (λ t. cond t true (has xs a)) (same_self a)

has_other : (a b : ℕ) → has (a ∷ b ∷ []) b ≡ true
has_other a b = at_test (a == b)
  where
    at_test : (t : Bool) → cond t true (has (b ∷ []) b) ≡ true
    at_test true = refl
    at_test false = has_one b []

pub has_two : (a b v : ℕ) → has (a ∷ b ∷ []) v ≡ true → (v ≡ a) ⊎ (v ≡ b)
has_two a b v h = at_test (a == v) (b == v) refl refl h
  where
    at_test : (t u : Bool) → (a == v) ≡ t → (b == v) ≡ u → cond t true (cond u true false) ≡ true → (v ≡ a) ⊎ (v ≡ b)
    at_test true u e f h = inl (grind (arith, nat_tests, e))
    at_test false true e f h = inr (grind (arith, nat_tests, f))
    at_test false false e f h = cc

two_origin : (bls : List CodeBlock) (b one other to : ℕ) → AllBelow (length bls) (one ∷ other ∷ []) → split_targets (joins_of bls) (block_at bls b).end ≡ filter (is_join (joins_of bls)) (one ∷ other ∷ [])
    → has (redirected (joins_of bls) (first_new bls b) one ∷ redirected (joins_of bls) (behind (joins_of bls) (first_new bls b) one) other ∷ []) to ≡ true → has (one ∷ other ∷ []) (origin bls to) ≡ true
two_origin bls b one other to l s h = at (has_two (redirected j next one) (redirected j (behind j next one) other) to h)
  where
    j : List Bool
    j = joins_of bls

    next : ℕ
    next = first_new bls b

    at : (to ≡ redirected (joins_of bls) (first_new bls b) one) ⊎ (to ≡ redirected (joins_of bls) (behind (joins_of bls) (first_new bls b) one) other) → has (one ∷ other ∷ []) (origin bls to) ≡ true
    at (inl e) =
        let two = two_edges (joins_of bls) (first_new bls b) one other in
        let o = edge_origin bls b one (redirected (joins_of bls) (first_new bls b) one) l.0 (subst (λ xs. IsEdge xs (first_new bls b) one (redirected (joins_of bls) (first_new bls b) one)) (sym s) two.0) in
        ap (has (one ∷ other ∷ [])) (ap (origin bls) e ∙ o) ∙ has_one one (other ∷ [])
    at (inr e) =
        let two = two_edges (joins_of bls) (first_new bls b) one other in
        let o = edge_origin bls b other (redirected (joins_of bls) (behind (joins_of bls) (first_new bls b) one) other) l.1.0 (subst (λ xs. IsEdge xs (first_new bls b) other (redirected (joins_of bls) (behind (joins_of bls) (first_new bls b) one) other)) (sym s) two.1) in
        ap (has (one ∷ other ∷ [])) (ap (origin bls) e ∙ o) ∙ has_other one other

pub end_origin : (bls : List CodeBlock) (b to : ℕ) (e : End) → (block_at bls b).end ≡ e → AllBelow (length bls) (successors e) → has (successors (split_end (joins_of bls) (first_new bls b) e)) to ≡ true → has (successors e) (origin bls to) ≡ true
end_origin bls b to (Jump t args) is l h = at_test (t == to) refl h
  where
    at_test : (c : Bool) → (t == to) ≡ c → cond c true false ≡ true → has (t ∷ []) (origin bls to) ≡ true
    at_test true e h = let s : to ≡ t = grind (arith, nat_tests, e) in ap (has (t ∷ [])) (ap (origin bls) s ∙ origin_old bls t l.0) ∙ has_one t []
    at_test false e h = cc
end_origin bls b to (Branch k a c one other) is l h = two_origin bls b one other to l (ap (split_targets (joins_of bls)) is) h
end_origin bls b to (Nonzero a one other) is l h = two_origin bls b one other to l (ap (split_targets (joins_of bls)) is) h
end_origin bls b to (Return a) is l h = cc
end_origin bls b to (Trap kind) is l h = cc

---- Blocks by number

pub slice_there : {A : Type 0} (xs : List A) (i : ℕ) (x d : A) → slice_get xs i ≡ Some x → get_or xs i d ≡ x
slice_there [] i x d e = cc
slice_there (y ∷ xs) zero x d e = cc
slice_there (y ∷ xs) (suc i) x d e = slice_there xs i x d e

pub slice_below : {A : Type 0} (xs : List A) (i : ℕ) (x : A) → slice_get xs i ≡ Some x → i < length xs
slice_below [] i x e = cc
slice_below (y ∷ xs) zero x e = omega arith
slice_below (y ∷ xs) (suc i) x e = let r = slice_below xs i x e in omega (arith, r)

slice_at : {A : Type 0} (xs : List A) (i : ℕ) (d : A) → i < length xs → slice_get xs i ≡ Some (get_or xs i d)
slice_at [] i d l = absurd (omega (arith, l))
slice_at (y ∷ xs) zero d l = refl
slice_at (y ∷ xs) (suc i) d l = let h : i < length xs = omega (arith, l) in slice_at xs i d h

pub new_block : (bls : List CodeBlock) (m : ℕ) → length bls ≤ m → m < length (split_blocks bls) → block_at (split_blocks bls) m ≡ edge_block (get_or (new_targets (joins_of bls) bls) (m - length bls) 0)
new_block bls m l k =
    let j = joins_of bls in
    let s = length-split_by j bls in
    let h : m - length bls < length (new_targets j bls) = omega (arith, s, l, k) in
    get_or-append_right (old_blocks j (length bls) bls) (map edge_block (new_targets j bls)) (length bls) m no_block (length-old_blocks j (length bls) bls) l
    ∙ get_or-map edge_block (new_targets j bls) (m - length bls) 0 no_block h

pub targets_at : (bls : List CodeBlock) (b : ℕ) → leads_below (length bls) bls ≡ true → b < length bls → AllBelow (length bls) (successors (block_at bls b).end)
targets_at bls b h l = all_below_each (length bls) (successors (block_at bls b).end) (all_at (λ bl. all_below (length bls) (successors bl.end)) bls b (block_at bls b) h l (get_or_default bls b no_block (block_at bls b) l))

pub below_at : (n : ℕ) (xs : List ℕ) (i : ℕ) → AllBelow n xs → i < length xs → get_or xs i 0 < n
below_at n [] i h l = absurd (omega (arith, l))
below_at n (x ∷ xs) zero h l = h.0
below_at n (x ∷ xs) (suc i) h l = let k : i < length xs = omega (arith, l) in below_at n xs i h.1 k

module _ (bls : List CodeBlock) (v : ℕ) (lead : leads_below (length bls) bls ≡ true) where
  abbrev sb : List CodeBlock
  sb = split_blocks bls

  -- what is read in a node is read in its block
  here_down : (b : ℕ) (bl : CodeBlock) → slice_get sb b ≡ Some bl → has bl.params v ≡ false → reads bl.ops bl.end v ≡ true → Live bls v (origin bls b)
  here_down b bl g p r = at (cases_lt b (length bls))
    where
      is : block_at (split_blocks bls) b ≡ bl
      is = slice_there (split_blocks bls) b bl no_block g

      at : (b < length bls) ⊎ (length bls ≤ b) → Live bls v (origin bls b)
      at (inl l) =
          let s : bl ≡ redirect (joins_of bls) (first_new bls b) (block_at bls b) = sym is ∙ split_at bls b l in
          subst (Live bls v) (sym (origin_old bls b l))
          (Here b (block_at bls b) (slice_at bls b no_block l) (ap (λ x. has x.params v) (sym s) ∙ p)
          (sym (reads_same (block_at bls b).ops (joins_of bls) (first_new bls b) (block_at bls b).end v) ∙ (ap (λ x. reads x.ops x.end v) (sym s) ∙ r)))
      at (inr l) =
          let s : bl ≡ edge_block (get_or (new_targets (joins_of bls) bls) (b - length bls) 0) = sym is ∙ new_block bls b l (slice_below (split_blocks bls) b bl g) in
          let f : reads bl.ops bl.end v ≡ false = ap (λ x. reads x.ops x.end v) s in
          cc

  later_down : (b to : ℕ) (bl : CodeBlock) → slice_get sb b ≡ Some bl → has (block_makes bl) v ≡ false → has (successors bl.end) to ≡ true → Live bls v (origin bls to) → Live bls v (origin bls b)
  later_down b to bl g m t on = at (cases_lt b (length bls))
    where
      is : block_at (split_blocks bls) b ≡ bl
      is = slice_there (split_blocks bls) b bl no_block g

      at : (b < length bls) ⊎ (length bls ≤ b) → Live bls v (origin bls b)
      at (inl l) =
          let s : bl ≡ redirect (joins_of bls) (first_new bls b) (block_at bls b) = sym is ∙ split_at bls b l in
          let h = end_origin bls b to (block_at bls b).end refl (targets_at bls b lead l) (ap (λ x. has (successors x.end) to) (sym s) ∙ t) in
          subst (Live bls v) (sym (origin_old bls b l))
          (Later b (origin bls to) (block_at bls b) (slice_at bls b no_block l) (ap (λ x. has (block_makes x) v) (sym s) ∙ m) h on)
      at (inr l) =
          let k = slice_below (split_blocks bls) b bl g in
          let x = get_or (new_targets (joins_of bls) bls) (b - length bls) 0 in
          let s : bl ≡ edge_block x = sym is ∙ new_block bls b l k in
          let z = length-split_by (joins_of bls) bls in
          let i : b - length bls < length (new_targets (joins_of bls) bls) = omega (arith, z, l, k) in
          let n = below_at (length bls) (new_targets (joins_of bls) bls) (b - length bls) (new_targets_below (length bls) (joins_of bls) bls lead) i in
          let o : has (x ∷ []) to ≡ true = ap (λ y. has (successors y.end) to) (sym s) ∙ t in
          let e : to ≡ x = single x to o in
          subst (Live bls v) ((ap (origin bls) e ∙ origin_old bls x n) ∙ sym (origin_from bls b l)) on
        where
          single : (a c : ℕ) → has (a ∷ []) c ≡ true → c ≡ a
          single a c h = at_test (a == c) refl h
            where
              at_test : (q : Bool) → (a == c) ≡ q → cond q true false ≡ true → c ≡ a
              at_test true e h = grind (arith, nat_tests, e)
              at_test false e h = cc

  pub live_down : (b : ℕ) → Live sb v b → Live bls v (origin bls b)
  live_down _ (Here b bl g p r) = here_down b bl g p r
  live_down _ (Later b to bl g m t l) = later_down b to bl g m t (live_down to l)

split_placed : (bls : List CodeBlock) → 0 < length bls → leads_below (length bls) bls ≡ true → IsPlaced bls → IsPlaced (split_blocks bls)
split_placed bls some lead h = record {
  first = λ v l. h.first v (subst (Live bls v) (origin_old bls 0 some) (live_down bls v lead 0 l));
  own = λ v b bl g m l. at v b bl g m l (cases_lt b (length bls));
}
  where
    at : (v b : ℕ) (bl : CodeBlock) → slice_get (split_blocks bls) b ≡ Some bl → has (block_makes bl) v ≡ true → Live (split_blocks bls) v b → (b < length bls) ⊎ (length bls ≤ b) → ⊥
    at v b bl g m l (inl n) =
        let s : block_at bls b ≡ block_at bls b = refl in
        let e : redirect (joins_of bls) (first_new bls b) (block_at bls b) ≡ bl = sym (split_at bls b n) ∙ slice_there (split_blocks bls) b bl no_block g in
        h.own v b (block_at bls b) (slice_at bls b no_block n) (ap (λ x. has (block_makes x) v) e ∙ m) (subst (Live bls v) (origin_old bls b n) (live_down bls v lead b l))
    at v b bl g m l (inr n) =
        let e : edge_block (get_or (new_targets (joins_of bls) bls) (b - length bls) 0) ≡ bl = sym (new_block bls b n (slice_below (split_blocks bls) b bl g)) ∙ slice_there (split_blocks bls) b bl no_block g in
        let f : has (block_makes bl) v ≡ false = ap (λ x. has (block_makes x) v) (sym e) in
        cc

---- The code of a flow

pub split_valid : (most values args : ℕ) (bls : List CodeBlock) → IsValidCode most values args bls → IsValidCode (3 * most) values args (split_blocks bls)
split_valid most values args bls h = record {
  few_args = h.few_args;
  few = let a = few_split bls in let b = h.few in omega (arith, a, b);
  begins = let s = length-split_by (joins_of bls) bls in let b = h.begins in omega (arith, s, b);
  targets = split_below (joins_of bls) bls h.targets;
  read_below = split_all (λ bl. all_below values (block_reads bl)) bls (λ k bl. ap (λ us. all_below values (uses_of bl.ops ++ us)) (end_uses_same (joins_of bls) k bl.end)) (λ t. refl) h.read_below;
  made_below = ap (all_below values) (made_same bls) ∙ h.made_below;
  made_once = λ v l. ap (λ xs. times xs v) (made_same bls) ∙ h.made_once v l;
  operations = split_all (λ bl. list_all (operation_fits args) bl.ops) bls (λ k bl. refl) (λ t. refl) h.operations;
  conditions = split_all (λ bl. condition_fits bl.end) bls (λ k bl. condition_same (joins_of bls) k bl.end) (λ t. refl) h.conditions;
  arguments = split_arguments bls h.targets h.arguments;
  first_params = params_old bls 0 h.begins ∙ h.first_params;
  placed = split_placed bls h.begins h.targets h.placed;
}
