-- No edge of a flow leads from a node with two successors to one with several predecessors.
use Rattle.std.proofs.Common.{◌≡◌, ◌≢◌, ℕ, zero, suc, ◌+◌, ◌-◌, ◌<◌, ◌≤◌, Bool, true, false, cond, List, [], ◌∷◌, ◌++◌, length, take, get_or, inl, inr, refl, sym, ap, subst, ◌∙◌, arith}
use Rattle.std.specs.Prelude.{◌⊎◌, ◌==◌, nat_le, filter}
use Rattle.std.proofs.lemmas.List.{length-append, get_or-map, get_or_past}
use Rattle.std.proofs.lemmas.Bool.{cases_lt, cases_eq}
use Rattle.std.proofs.lemmas.Bool.Decides.{nat_tests}
use Rattle.run_laws.specs.Layers.{places_from}
use Rattle.run_laws.proofs.Layers.{length-places_from}
use Rattle.block_runs.specs.declared.end.End.{End}
use Rattle.block_runs.specs.declared.end.End.TheVariants.{Jump, Branch, Nonzero, Return, Trap}
use Rattle.block_runs.specs.Blocks.{CodeBlock, no_block, block_at, successors}
use Rattle.block_runs.specs.Live.{has}
use Rattle.lir_core.specs.Lines.{AllBelow}
use Rattle.lir_core.specs.Flows.{leads, preds_of, has_several, IsSplit}
use Rattle.a64_select.specs.Selected.{joins_of, is_join, split_targets, redirected, behind, split_end}
use Rattle.a64_select.specs.Carrying.{new_targets, first_new}
use Rattle.a64_select.proofs.Preds.{get_or-places_from}
use Rattle.a64_select.proofs.Splitting.{split_blocks}
use Rattle.a64_select.proofs.Targets.{leads_below, new_targets_below, length-split_by}
use Rattle.a64_select.proofs.Carried.{split_at}
use Rattle.a64_select.proofs.Validity.{origin_old, end_origin, has_two, new_block, targets_at, below_at}

---- Counting

nothing : (test : ℕ → Bool) (a n : ℕ) → ((k : ℕ) → test k ≡ true → k < a) → length (filter test (places_from a n)) ≡ 0
nothing test a zero u = refl
nothing test a (suc n) u = at_test (test a) refl (nothing test (suc a) n (λ k e. let h = u k e in omega (arith, h)))
  where
    at_test : (b : Bool) → test a ≡ b → length (filter test (places_from (suc a) n)) ≡ 0 → length (cond b (a ∷ filter test (places_from (suc a) n)) (filter test (places_from (suc a) n))) ≡ 0
    at_test true e r = let h = u a e in absurd (omega (arith, h))
    at_test false e r = r

at_most_one : (test : ℕ → Bool) (a n : ℕ) → ((i k : ℕ) → test i ≡ true → test k ≡ true → i ≡ k) → length (filter test (places_from a n)) ≤ 1
at_most_one test a zero u = omega arith
at_most_one test a (suc n) u = at_test (test a) refl (at_most_one test (suc a) n u)
  where
    at_test : (b : Bool) → test a ≡ b → length (filter test (places_from (suc a) n)) ≤ 1 → length (cond b (a ∷ filter test (places_from (suc a) n)) (filter test (places_from (suc a) n))) ≤ 1
    at_test true e r = let z = nothing test (suc a) n (λ k f. let s = u a k e f in omega (arith, s)) in omega (arith, z)
    at_test false e r = r

one_kept : (test : ℕ → Bool) (a n k : ℕ) → a ≤ k → k < a + n → test k ≡ true → 1 ≤ length (filter test (places_from a n))
one_kept test a zero k l m e = absurd (omega (arith, l, m))
one_kept test a (suc n) k l m e = at_test (test a) refl (λ h. let o : k < suc a + n = omega (arith, m) in one_kept test (suc a) n k h o e)
  where
    at_test : (b : Bool) → test a ≡ b → (suc a ≤ k → 1 ≤ length (filter test (places_from (suc a) n))) → 1 ≤ length (cond b (a ∷ filter test (places_from (suc a) n)) (filter test (places_from (suc a) n)))
    at_test true f on = omega arith
    at_test false f on = at_place (cases_eq a k)
      where
        at_place : (a ≡ k) ⊎ (a ≢ k) → 1 ≤ length (filter test (places_from (suc a) n))
        at_place (inl s) = let g : test k ≡ false = ap test (sym s) ∙ f in cc
        at_place (inr d) = on (omega (arith, l, d))

two_kept : (test : ℕ → Bool) (a n i k : ℕ) → a ≤ i → i < k → k < a + n → test i ≡ true → test k ≡ true → 2 ≤ length (filter test (places_from a n))
two_kept test a zero i k l j m e f = absurd (omega (arith, l, j, m))
two_kept test a (suc n) i k l j m e f =
    at_test (test a) refl (λ h. let o : k < suc a + n = omega (arith, m) in two_kept test (suc a) n i k h j o e f) (let h : suc a ≤ k = omega (arith, l, j) in let o : k < suc a + n = omega (arith, m) in one_kept test (suc a) n k h o f)
  where
    at_test : (b : Bool) → test a ≡ b → (suc a ≤ i → 2 ≤ length (filter test (places_from (suc a) n))) → 1 ≤ length (filter test (places_from (suc a) n)) → 2 ≤ length (cond b (a ∷ filter test (places_from (suc a) n)) (filter test (places_from (suc a) n)))
    at_test true g on one = omega (arith, one)
    at_test false g on one = at_place (cases_eq a i)
      where
        at_place : (a ≡ i) ⊎ (a ≢ i) → 2 ≤ length (filter test (places_from (suc a) n))
        at_place (inl s) = let h : test i ≡ false = ap test (sym s) ∙ g in cc
        at_place (inr d) = on (omega (arith, l, d))

-- where at most one passes, two that pass are the same
the_same : (test : ℕ → Bool) (n i k : ℕ) → i < n → k < n → length (filter test (places_from 0 n)) ≤ 1 → test i ≡ true → test k ≡ true → i ≡ k
the_same test n i k a b few e f = at_place (cases_eq i k)
  where
    at_place : (i ≡ k) ⊎ (i ≢ k) → i ≡ k
    at_place (inl s) = s
    at_place (inr d) = at_order (cases_lt i k)
      where
        z : 0 ≤ i
        z = omega arith

        y : 0 ≤ k
        y = omega arith

        at_order : (i < k) ⊎ (k ≤ i) → i ≡ k
        at_order (inl l) = let m : k < 0 + n = omega (arith, b) in let t = two_kept test 0 n i k z l m e f in absurd (omega (arith, few, t))
        at_order (inr l) = let h : k < i = omega (arith, l, d) in let m : i < 0 + n = omega (arith, a) in let t = two_kept test 0 n k i y h m f e in absurd (omega (arith, few, t))

---- Joins

join_is : (bls : List CodeBlock) (to : ℕ) → to < length bls → is_join (joins_of bls) to ≡ has_several (preds_of bls to)
join_is bls to l =
    let p : to < length (places_from 0 (length bls)) = (let e = length-places_from 0 (length bls) in omega (arith, e, l)) in
    let z : 0 + to ≡ to = omega arith in
    get_or-map (λ t. has_several (preds_of bls t)) (places_from 0 (length bls)) to 0 false p ∙ ap (λ j. has_several (preds_of bls j)) (get_or-places_from 0 (length bls) to 0 l ∙ z)

no_join : (bls : List CodeBlock) (to : ℕ) → to < length bls → is_join (joins_of bls) to ≡ false → length (preds_of bls to) ≤ 1
no_join bls to l e = let f : nat_le 2 (length (preds_of bls to)) ≡ false = sym (join_is bls to l) ∙ e in grind (arith, nat_tests, f)

-- all that pass a test
abbrev AllPassIt : (ℕ → Bool) → List ℕ → Type 0
AllPassIt test [] = Unit {0}
AllPassIt test (x ∷ xs) = (test x ≡ true) × AllPassIt test xs

filter_passes : (test : ℕ → Bool) (xs : List ℕ) → AllPassIt test (filter test xs)
filter_passes test [] = tt
filter_passes test (x ∷ xs) = at_test (test x) refl (filter_passes test xs)
  where
    at_test : (b : Bool) → test x ≡ b → AllPassIt test (filter test xs) → AllPassIt test (cond b (x ∷ filter test xs) (filter test xs))
    at_test true e r = (e, r)
    at_test false e r = r

passes_append : (test : ℕ → Bool) (xs ys : List ℕ) → AllPassIt test xs → AllPassIt test ys → AllPassIt test (xs ++ ys)
passes_append test [] ys a b = b
passes_append test (x ∷ xs) ys a b = (a.0, passes_append test xs ys a.1 b)

split_joins : (joins : List Bool) (e : End) → AllPassIt (is_join joins) (split_targets joins e)
split_joins joins (Jump to args) = tt
split_joins joins (Branch k a b one other) = filter_passes (is_join joins) (one ∷ other ∷ [])
split_joins joins (Nonzero a one other) = filter_passes (is_join joins) (one ∷ other ∷ [])
split_joins joins (Return a) = tt
split_joins joins (Trap kind) = tt

new_joins : (joins : List Bool) (bls : List CodeBlock) → AllPassIt (is_join joins) (new_targets joins bls)
new_joins joins [] = tt
new_joins joins (bl ∷ bls) = passes_append (is_join joins) (split_targets joins bl.end) (new_targets joins bls) (split_joins joins bl.end) (new_joins joins bls)

passes_at : (test : ℕ → Bool) (xs : List ℕ) (i : ℕ) → AllPassIt test xs → i < length xs → test (get_or xs i 0) ≡ true
passes_at test [] i h l = absurd (omega (arith, l))
passes_at test (x ∷ xs) zero h l = h.0
passes_at test (x ∷ xs) (suc i) h l = let k : i < length xs = omega (arith, l) in passes_at test xs i h.1 k

---- Edges of a test, of two kinds

abbrev Kind : List Bool → List ℕ → ℕ → ℕ → ℕ → Type 0
Kind joins split next to to' = ((to' ≡ to) × (is_join joins to ≡ false)) ⊎ ((i : ℕ) × (i < length split) × (to' ≡ next + i))

two_kinds : (joins : List Bool) (next one other : ℕ) → let split = filter (is_join joins) (one ∷ other ∷ []) in Kind joins split next one (redirected joins next one) × Kind joins split next other (redirected joins (behind joins next one) other)
two_kinds joins next one other = at_test (is_join joins one) (is_join joins other) refl refl
  where
    at_test : (t u : Bool) → is_join joins one ≡ t → is_join joins other ≡ u
        → Kind joins (cond t (one ∷ cond u (other ∷ []) []) (cond u (other ∷ []) [])) next one (cond t next one) × Kind joins (cond t (one ∷ cond u (other ∷ []) []) (cond u (other ∷ []) [])) next other (cond u (cond t (suc next) next) other)
    at_test true true e f = (inr (0, omega arith, omega arith), inr (1, omega arith, omega arith))
    at_test true false e f = (inr (0, omega arith, omega arith), inl (refl, f))
    at_test false true e f = (inl (refl, e), inr (0, omega arith, omega arith))
    at_test false false e f = (inl (refl, e), inl (refl, f))

-- where an end with two successors leads
abbrev Leads : List CodeBlock → ℕ → ℕ → Type 0
Leads bls b to = ((to < length bls) × (is_join (joins_of bls) to ≡ false)) ⊎ ((i : ℕ) × (i < length (split_targets (joins_of bls) (block_at bls b).end)) × (to ≡ first_new bls b + i))

two_lead : (bls : List CodeBlock) (b one other to : ℕ) → AllBelow (length bls) (one ∷ other ∷ []) → split_targets (joins_of bls) (block_at bls b).end ≡ filter (is_join (joins_of bls)) (one ∷ other ∷ [])
    → has (redirected (joins_of bls) (first_new bls b) one ∷ redirected (joins_of bls) (behind (joins_of bls) (first_new bls b) one) other ∷ []) to ≡ true → Leads bls b to
two_lead bls b one other to l s h = at (has_two (redirected (joins_of bls) (first_new bls b) one) (redirected (joins_of bls) (behind (joins_of bls) (first_new bls b) one) other) to h)
  where
    of_kind : (x x' : ℕ) → x < length bls → Kind (joins_of bls) (filter (is_join (joins_of bls)) (one ∷ other ∷ [])) (first_new bls b) x x' → to ≡ x' → Leads bls b to
    of_kind x x' m (inl k) e = let q : to ≡ x = e ∙ k.0 in inl (omega (arith, q, m), ap (is_join (joins_of bls)) q ∙ k.1)
    of_kind x x' m (inr (i, k, g)) e = inr (i, subst (λ xs. i < length xs) (sym s) k, e ∙ g)

    at : (to ≡ redirected (joins_of bls) (first_new bls b) one) ⊎ (to ≡ redirected (joins_of bls) (behind (joins_of bls) (first_new bls b) one) other) → Leads bls b to
    at (inl e) = let two = two_kinds (joins_of bls) (first_new bls b) one other in of_kind one (redirected (joins_of bls) (first_new bls b) one) l.0 two.0 e
    at (inr e) = let two = two_kinds (joins_of bls) (first_new bls b) one other in of_kind other (redirected (joins_of bls) (behind (joins_of bls) (first_new bls b) one) other) l.1.0 two.1 e

-- where an end leads at all: a jump where it led, below the number of blocks
end_lead : (bls : List CodeBlock) (b to : ℕ) (e : End) → (block_at bls b).end ≡ e → AllBelow (length bls) (successors e) → has (successors (split_end (joins_of bls) (first_new bls b) e)) to ≡ true → (to < length bls) ⊎ ((i : ℕ) × (i < length (split_targets (joins_of bls) (block_at bls b).end)) × (to ≡ first_new bls b + i))
end_lead bls b to (Jump t args) is l h = at_test (t == to) refl h
  where
    at_test : (c : Bool) → (t == to) ≡ c → cond c true false ≡ true → (to < length bls) ⊎ ((i : ℕ) × (i < length (split_targets (joins_of bls) (block_at bls b).end)) × (to ≡ first_new bls b + i))
    at_test true e h = let s : to ≡ t = grind (arith, nat_tests, e) in let m = l.0 in inl (omega (arith, s, m))
    at_test false e h = cc
end_lead bls b to (Branch k a c one other) is l h = below_or (two_lead bls b one other to l (ap (split_targets (joins_of bls)) is) h)
  where
    below_or : Leads bls b to → (to < length bls) ⊎ ((i : ℕ) × (i < length (split_targets (joins_of bls) (block_at bls b).end)) × (to ≡ first_new bls b + i))
    below_or (inl x) = inl x.0
    below_or (inr x) = inr x
end_lead bls b to (Nonzero a one other) is l h = below_or (two_lead bls b one other to l (ap (split_targets (joins_of bls)) is) h)
  where
    below_or : Leads bls b to → (to < length bls) ⊎ ((i : ℕ) × (i < length (split_targets (joins_of bls) (block_at bls b).end)) × (to ≡ first_new bls b + i))
    below_or (inl x) = inl x.0
    below_or (inr x) = inr x
end_lead bls b to (Return a) is l h = cc
end_lead bls b to (Trap kind) is l h = cc

test_lead : (bls : List CodeBlock) (b to : ℕ) (e : End) → (block_at bls b).end ≡ e → AllBelow (length bls) (successors e) → length (successors (split_end (joins_of bls) (first_new bls b) e)) ≡ 2 → has (successors (split_end (joins_of bls) (first_new bls b) e)) to ≡ true → Leads bls b to
test_lead bls b to (Jump t args) is l n h = absurd (omega (arith, n))
test_lead bls b to (Branch k a c one other) is l n h = two_lead bls b one other to l (ap (split_targets (joins_of bls)) is) h
test_lead bls b to (Nonzero a one other) is l n h = two_lead bls b one other to l (ap (split_targets (joins_of bls)) is) h
test_lead bls b to (Return a) is l n h = absurd (omega (arith, n))
test_lead bls b to (Trap kind) is l n h = absurd (omega (arith, n))

---- New nodes have one source

targets_more : (joins : List Bool) (bls : List CodeBlock) (b k : ℕ) → b < k → length (new_targets joins (take b bls)) + length (split_targets joins (block_at bls b).end) ≤ length (new_targets joins (take k bls))
targets_more joins [] zero (suc k) l = omega arith
targets_more joins [] (suc b) (suc k) l = omega arith
targets_more joins (bl ∷ bls) zero (suc k) l = let a = length-append (split_targets joins bl.end) (new_targets joins (take k bls)) in omega (arith, a)
targets_more joins (bl ∷ bls) (suc b) (suc k) l =
    let h : b < k = omega (arith, l) in
    let r = targets_more joins bls b k h in
    let a = length-append (split_targets joins bl.end) (new_targets joins (take b bls)) in
    let c = length-append (split_targets joins bl.end) (new_targets joins (take k bls)) in
    omega (arith, r, a, c)
targets_more joins bls b zero l = absurd (omega (arith, l))

one_source : (bls : List CodeBlock) (b i k m : ℕ) → i < length (split_targets (joins_of bls) (block_at bls b).end) → m < length (split_targets (joins_of bls) (block_at bls k).end) → first_new bls b + i ≡ first_new bls k + m → b ≡ k
one_source bls b i k m l n e = at_place (cases_eq b k)
  where
    at_place : (b ≡ k) ⊎ (b ≢ k) → b ≡ k
    at_place (inl s) = s
    at_place (inr d) = at_order (cases_lt b k)
      where
        at_order : (b < k) ⊎ (k ≤ b) → b ≡ k
        at_order (inl h) = let r = targets_more (joins_of bls) bls b k h in absurd (omega (arith, e, l, r))
        at_order (inr h) = let g : k < b = omega (arith, h, d) in let r = targets_more (joins_of bls) bls k b g in absurd (omega (arith, e, n, r))

---- The flow

has_single : (a v : ℕ) → has (a ∷ []) v ≡ true → v ≡ a
has_single a v h = at_test (a == v) refl h
  where
    at_test : (q : Bool) → (a == v) ≡ q → cond q true false ≡ true → v ≡ a
    at_test true e h = grind (arith, nat_tests, e)
    at_test false e h = cc

module _ (bls : List CodeBlock) (lead : leads_below (length bls) bls ≡ true) where
  -- an edge of the flow begins in a block, or in a new node and leads to a join
  from_new : (k to : ℕ) → length bls ≤ k → leads (split_blocks bls) to k ≡ true → (to < length bls) × (is_join (joins_of bls) to ≡ true)
  from_new k to l h = at (cases_lt k (length (split_blocks bls)))
    where
      at : (k < length (split_blocks bls)) ⊎ (length (split_blocks bls) ≤ k) → (to < length bls) × (is_join (joins_of bls) to ≡ true)
      at (inl m) =
          let z = length-split_by (joins_of bls) bls in
          let i : k - length bls < length (new_targets (joins_of bls) bls) = omega (arith, z, l, m) in
          let x = get_or (new_targets (joins_of bls) bls) (k - length bls) 0 in
          let o : has (x ∷ []) to ≡ true = ap (λ y. has (successors y.end) to) (sym (new_block bls k l m)) ∙ h in
          let e = has_single x to o in
          let n = below_at (length bls) (new_targets (joins_of bls) bls) (k - length bls) (new_targets_below (length bls) (joins_of bls) bls lead) i in
          (omega (arith, e, n), ap (is_join (joins_of bls)) e ∙ passes_at (is_join (joins_of bls)) (new_targets (joins_of bls) bls) (k - length bls) (new_joins (joins_of bls) bls) i)
      at (inr m) = let f : leads (split_blocks bls) to k ≡ false = ap (λ y. has (successors y.end) to) (get_or_past (split_blocks bls) k no_block m) in cc

  from_old : (k to : ℕ) → k < length bls → leads (split_blocks bls) to k ≡ true → has (successors (split_end (joins_of bls) (first_new bls k) (block_at bls k).end)) to ≡ true
  from_old k to l h = ap (λ y. has (successors y.end) to) (sym (split_at bls k l)) ∙ h

  -- all edges to a block to which one block led come from that one
  old_source : (to : ℕ) → to < length bls → is_join (joins_of bls) to ≡ false → (k : ℕ) → leads (split_blocks bls) to k ≡ true → (k < length bls) × (leads bls to k ≡ true)
  old_source to l j k h = at (cases_lt k (length bls))
    where
      at : (k < length bls) ⊎ (length bls ≤ k) → (k < length bls) × (leads bls to k ≡ true)
      at (inl m) = (m, ap (has (successors (block_at bls k).end)) (sym (origin_old bls to l)) ∙ end_origin bls k to (block_at bls k).end refl (targets_at bls k lead m) (from_old k to m h))
      at (inr m) = let r = from_new k to m h in let t = r.1 in cc

  new_source : (b i to : ℕ) → i < length (split_targets (joins_of bls) (block_at bls b).end) → to ≡ first_new bls b + i → (k : ℕ) → leads (split_blocks bls) to k ≡ true → k ≡ b
  new_source b i to l e k h = at (cases_lt k (length bls))
    where
      at : (k < length bls) ⊎ (length bls ≤ k) → k ≡ b
      at (inl m) = at_end (end_lead bls k to (block_at bls k).end refl (targets_at bls k lead m) (from_old k to m h))
        where
          at_end : (to < length bls) ⊎ ((n : ℕ) × (n < length (split_targets (joins_of bls) (block_at bls k).end)) × (to ≡ first_new bls k + n)) → k ≡ b
          at_end (inl n) = absurd (omega (arith, e, n))
          at_end (inr (n, o, g)) = sym (one_source bls b i k n l o (sym e ∙ g))
      at (inr m) = let r = from_new k to m h in let t = r.0 in absurd (omega (arith, e, t))

  one_pred : (b to : ℕ) → Leads bls b to → length (preds_of (split_blocks bls) to) ≤ 1
  one_pred b to (inl (l, j)) = at_most_one (leads (split_blocks bls) to) 0 (length (split_blocks bls)) (λ i k e f.
      let a = old_source to l j i e in let c = old_source to l j k f in
      the_same (leads bls to) (length bls) i k a.0 c.0 (no_join bls to l j) a.1 c.1)
  one_pred b to (inr (i, l, e)) = at_most_one (leads (split_blocks bls) to) 0 (length (split_blocks bls)) (λ m k f g. new_source b i to l e m f ∙ sym (new_source b i to l e k g))

  pub is_split : (b : ℕ) → b < length (split_blocks bls) → IsSplit (split_blocks bls) (block_at (split_blocks bls) b)
  is_split b l n to h = at (cases_lt b (length bls))
    where
      at : (b < length bls) ⊎ (length bls ≤ b) → length (preds_of (split_blocks bls) to) ≤ 1
      at (inl m) =
          let s = split_at bls b m in
          one_pred b to (test_lead bls b to (block_at bls b).end refl (targets_at bls b lead m) (ap (λ y. length (successors y.end)) (sym s) ∙ n) (ap (λ y. has (successors y.end) to) (sym s) ∙ h))
      at (inr m) = let e : 1 ≡ 2 = ap (λ y. length (successors y.end)) (sym (new_block bls b m l)) ∙ n in absurd (omega (arith, e))
