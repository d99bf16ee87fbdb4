-- Predecessors, counted block by block.
use Rattle.std.proofs.Common.{◌≡◌, ◌≢◌, ℕ, zero, suc, ◌+◌, ◌<◌, ◌≤◌, Bool, true, false, cond, List, [], ◌∷◌, ◌++◌, map, length, get_or, set, replicate, Option, Some, None, inl, inr, refl, sym, ap, subst, ◌∙◌, arith}
use Rattle.std.specs.Prelude.{◌⊎◌, option_to_list, ◌==◌, ◌&&◌, nat_lt, nat_le, filter}
use Rattle.std.specs.List.{list_all}
use Rattle.std.proofs.lemmas.Bool.{cases_eq, cases_lt}
use Rattle.std.proofs.lemmas.List.{get_or_past, get_or_default, length-replicate, get_or-replicate, length-append, get_or-set_same, get_or-set_other, length-set, same_lists, get_or-map, length-map}
use Rattle.std.proofs.lemmas.Simd.{map-map}
use Rattle.a64_select.specs.Selected.{joins_of}
use Rattle.std.proofs.lemmas.List.Elements.{filter-append}
use Rattle.std.proofs.lemmas.Bool.Decides.{nat_tests}
use Rattle.run_laws.specs.Layers.{places_from}
use Rattle.run_laws.proofs.Layers.{places_from-append, length-places_from}
use Rattle.block_runs.specs.declared.end.End.{End}
use Rattle.block_runs.specs.declared.end.End.TheVariants.{Jump, Branch, Nonzero, Return, Trap}
use Rattle.block_runs.specs.Blocks.{CodeBlock, no_block, block_at, successors}
use Rattle.ssa_core.specs.declared.procedure.Block.{Block}
use Rattle.ssa_core.specs.Procedures.{code_block, code_blocks}
use Rattle.std.proofs.lemmas.List.Sums.{AllPass-from_list_all}
use Rattle.block_runs.specs.Live.{has}
use Rattle.block_runs.specs.Valid.{all_below}
use Rattle.lir_core.specs.Lines.{AllBelow}
use Rattle.lir_core.specs.Flows.{leads, preds_of, AreDifferent}
use Rattle.a64_select.specs.Making.{two_targets, different_targets, targets_in, counted, counts_of}

-- the blocks below i that lead to a block
abbrev pub preds_below : List CodeBlock → ℕ → ℕ → List ℕ
preds_below bls i to = filter (leads bls to) (places_from 0 i)

abbrev pub one_if_leads : List CodeBlock → ℕ → ℕ → List ℕ
one_if_leads bls i to = cond (leads bls to i) (i ∷ []) []

filter_one : (test : ℕ → Bool) (x : ℕ) → filter test (x ∷ []) ≡ cond (test x) (x ∷ []) []
filter_one test x = refl

pub preds_more : (bls : List CodeBlock) (i to : ℕ) → preds_below bls (suc i) to ≡ preds_below bls i to ++ one_if_leads bls i to
preds_more bls i to =
    let z : 0 + i ≡ i = omega arith in
    let e : places_from 0 (i + 1) ≡ places_from 0 i ++ i ∷ [] = sym (places_from-append 0 i 1) ∙ ap (λ j. places_from 0 i ++ j ∷ []) z in
    let n : suc i ≡ i + 1 = omega arith in
    ap (λ k. filter (leads bls to) (places_from 0 k)) n ∙ (ap (filter (leads bls to)) e ∙ filter-append (leads bls to) (places_from 0 i) (i ∷ []))

pub get_or-places_from : (a n k d : ℕ) → k < n → get_or (places_from a n) k d ≡ a + k
get_or-places_from a zero k d l = absurd (omega (arith, l))
get_or-places_from a (suc n) zero d l = omega arith
get_or-places_from a (suc n) (suc k) d l = let h : k < n = omega (arith, l) in get_or-places_from (suc a) n k d h ∙ omega arith

pub all_below_each : (n : ℕ) (xs : List ℕ) → all_below n xs ≡ true → AllBelow n xs
all_below_each n [] e = tt
all_below_each n (x ∷ xs) e = at_test (nat_lt x n) refl e (all_below_each n xs)
  where
    at_test : (b : Bool) → nat_lt x n ≡ b → (b && list_all (λ y. nat_lt y n) xs) ≡ true → (list_all (λ y. nat_lt y n) xs ≡ true → AllBelow n xs) → AllBelow n (x ∷ xs)
    at_test true t e on = (grind (arith, nat_tests, t), on e)
    at_test false t e on = cc

---- Counting

below_parts : (n : ℕ) (a b : Option ℕ) → AllBelow n (targets_in a b) → AllBelow n (option_to_list a) × AllBelow n (option_to_list b)
below_parts n None b h = (tt, h)
below_parts n (Some x) b h = ((h.0, tt), h.1)

pub below_first : (n : ℕ) (a b : Option ℕ) → AllBelow n (targets_in a b) → AllBelow n (option_to_list a)
below_first n a b h = (below_parts n a b h).0

pub below_second : (n : ℕ) (a b : Option ℕ) → AllBelow n (targets_in a b) → AllBelow n (option_to_list b)
below_second n a b h = (below_parts n a b h).1

pub counted_parts : (a b : Option ℕ) (xs : List ℕ) → counted (targets_in a b) xs ≡ counted (option_to_list b) (counted (option_to_list a) xs)
counted_parts None b xs = refl
counted_parts (Some x) b xs = refl

pub length-counted : (ts xs : List ℕ) → length (counted ts xs) ≡ length xs
length-counted [] xs = refl
length-counted (t ∷ ts) xs = length-counted ts (set xs t (suc (get_or xs t 0))) ∙ length-set xs t (suc (get_or xs t 0))

set_one : (xs : List ℕ) (t k : ℕ) → t < length xs → get_or (set xs t (suc (get_or xs t 0))) k 0 ≡ get_or xs k 0 + cond (t == k) 1 0
set_one xs t k l = at_test (cases_eq k t)
  where
    at_test : (k ≡ t) ⊎ (k ≢ t) → get_or (set xs t (suc (get_or xs t 0))) k 0 ≡ get_or xs k 0 + cond (t == k) 1 0
    at_test (inl e) =
        let s : (t == k) ≡ true = grind (arith, nat_tests, e) in
        let a : get_or (set xs t (suc (get_or xs t 0))) t 0 ≡ suc (get_or xs t 0) = get_or-set_same xs t (suc (get_or xs t 0)) 0 l in
        ap (λ j. get_or (set xs t (suc (get_or xs t 0))) j 0) e ∙ (a ∙ (omega arith ∙ (ap (λ j. get_or xs j 0 + 1) (sym e) ∙ ap (λ b. get_or xs k 0 + cond b 1 0) (sym s))))
    at_test (inr d) =
        let s : (t == k) ≡ false = grind (arith, nat_tests, d) in
        get_or-set_other xs t k (suc (get_or xs t 0)) 0 d ∙ (omega arith ∙ ap (λ b. get_or xs k 0 + cond b 1 0) (sym s))

pub counted_most : (a : Option ℕ) (xs : List ℕ) (k : ℕ) → AllBelow (length xs) (option_to_list a) → get_or (counted (option_to_list a) xs) k 0 ≤ get_or xs k 0 + 1
counted_most None xs k h = omega arith
counted_most (Some t) xs k h = at_test (t == k) (set_one xs t k h.0)
  where
    at_test : (b : Bool) → get_or (set xs t (suc (get_or xs t 0))) k 0 ≡ get_or xs k 0 + cond b 1 0 → get_or (set xs t (suc (get_or xs t 0))) k 0 ≤ get_or xs k 0 + 1
    at_test true e = omega (arith, e)
    at_test false e = omega (arith, e)

pub counted_at : (ts xs : List ℕ) (k : ℕ) → AllBelow (length xs) ts → AreDifferent ts → get_or (counted ts xs) k 0 ≡ get_or xs k 0 + cond (has ts k) 1 0
counted_at [] xs k h d = omega arith
counted_at (t ∷ ts) xs k h d =
    at_test (t == k) (has ts k) refl refl (counted_at ts (set xs t (suc (get_or xs t 0))) k (subst (λ n. AllBelow n ts) (sym (length-set xs t (suc (get_or xs t 0)))) h.1) d.1) (set_one xs t k h.0)
  where
    at_test : (b c : Bool) → (t == k) ≡ b → has ts k ≡ c → get_or (counted ts (set xs t (suc (get_or xs t 0)))) k 0 ≡ get_or (set xs t (suc (get_or xs t 0))) k 0 + cond c 1 0 → get_or (set xs t (suc (get_or xs t 0))) k 0 ≡ get_or xs k 0 + cond b 1 0 → get_or (counted ts (set xs t (suc (get_or xs t 0)))) k 0 ≡ get_or xs k 0 + cond (cond b true c) 1 0
    at_test true true e f ih s = let same : t ≡ k = grind (arith, nat_tests, e) in let x : has ts k ≡ false = ap (has ts) (sym same) ∙ d.0 in cc
    at_test true false e f ih s = omega (arith, ih, s)
    at_test false true e f ih s = omega (arith, ih, s)
    at_test false false e f ih s = omega (arith, ih, s)

---- Targets

pub different_two : (a b : ℕ) → AreDifferent (two_targets a b)
different_two a b = at_test (a == b) refl
  where
    at_test : (t : Bool) → (a == b) ≡ t → AreDifferent (cond t (a ∷ []) (a ∷ b ∷ []))
    at_test true e = (refl, tt)
    at_test false e = (let r : (b == a) ≡ false = grind (arith, nat_tests, e) in ap (λ t. cond t true false) r, (refl, tt))

pub different_different : (e : End) → AreDifferent (different_targets e)
different_different (Jump to args) = (refl, tt)
different_different (Branch k a b one other) = different_two one other
different_different (Nonzero a one other) = different_two one other
different_different (Return a) = tt
different_different (Trap kind) = tt

has_two : (a b v : ℕ) → has (two_targets a b) v ≡ has (a ∷ b ∷ []) v
has_two a b v = at_test (a == b) (a == v) (b == v) refl refl refl
  where
    at_test : (t u w : Bool) → (a == b) ≡ t → (a == v) ≡ u → (b == v) ≡ w → has (cond t (a ∷ []) (a ∷ b ∷ [])) v ≡ cond u true (cond w true false)
    at_test false u w e f g = ap (λ x. cond x true (cond (b == v) true false)) f ∙ ap (λ x. cond u true (cond x true false)) g
    at_test true true w e f g = ap (λ x. cond x true false) f
    at_test true false true e f g = let x : ⊥ = grind (arith, nat_tests, e, f, g) in absurd x
    at_test true false false e f g = ap (λ x. cond x true false) f

pub has_different : (e : End) (v : ℕ) → has (different_targets e) v ≡ has (successors e) v
has_different (Jump to args) v = refl
has_different (Branch k a b one other) v = has_two one other v
has_different (Nonzero a one other) v = has_two one other v
has_different (Return a) v = refl
has_different (Trap kind) v = refl

two_below : (n a b : ℕ) → AllBelow n (a ∷ b ∷ []) → AllBelow n (two_targets a b)
two_below n a b h = at_test (a == b)
  where
    at_test : (t : Bool) → AllBelow n (cond t (a ∷ []) (a ∷ b ∷ []))
    at_test true = (h.0, tt)
    at_test false = h

pub different_below : (n : ℕ) (e : End) → AllBelow n (successors e) → AllBelow n (different_targets e)
different_below n (Jump to args) h = h
different_below n (Branch k a b one other) h = two_below n one other h
different_below n (Nonzero a one other) h = two_below n one other h
different_below n (Return a) h = h
different_below n (Trap kind) h = h

---- Counts so far

length_filter_le : (test : ℕ → Bool) (xs : List ℕ) → length (filter test xs) ≤ length xs
length_filter_le test [] = omega arith
length_filter_le test (x ∷ xs) = at_test (test x) (length_filter_le test xs)
  where
    at_test : (b : Bool) → length (filter test xs) ≤ length xs → length (cond b (x ∷ filter test xs) (filter test xs)) ≤ suc (length xs)
    at_test true h = omega (arith, h)
    at_test false h = omega (arith, h)

pub length-preds_below : (bls : List CodeBlock) (i to : ℕ) → length (preds_below bls i to) ≤ i
length-preds_below bls i to = let h = length_filter_le (leads bls to) (places_from 0 i) in let e = length-places_from 0 i in omega (arith, h, e)

pub record AreCounts (bls : List CodeBlock) (i : ℕ) (counts : List ℕ) : Type 0 where
  pub size : length counts ≡ length bls
  pub each : (k : ℕ) → k < length bls → get_or counts k 0 ≡ length (preds_below bls i k)

no_preds : (bls : List CodeBlock) (k : ℕ) → length (preds_below bls 0 k) ≡ 0
no_preds bls k = refl

pub counts_start : (bls : List CodeBlock) (n : ℕ) → n ≡ length bls → AreCounts bls 0 (replicate n 0)
counts_start bls n e = record { size = length-replicate n 0 ∙ e; each = λ k l. let h : k < n = omega (arith, e, l) in get_or-replicate n k 0 0 h }

-- no count is above the number of blocks seen
pub counts_most : (bls : List CodeBlock) (i : ℕ) (counts : List ℕ) → AreCounts bls i counts → (k : ℕ) → get_or counts k 0 ≤ i
counts_most bls i counts h k = at_test (cases_lt k (length bls))
  where
    at_test : (k < length bls) ⊎ (length bls ≤ k) → get_or counts k 0 ≤ i
    at_test (inl l) = let e = h.each k l in let b = length-preds_below bls i k in omega (arith, e, b)
    at_test (inr g) = let s = h.size in let p : length counts ≤ k = omega (arith, s, g) in let z = get_or_past counts k 0 p in omega (arith, z)

length-one_if : (c : Bool) (i : ℕ) → length (cond c (i ∷ []) []) ≡ cond c 1 0
length-one_if true i = refl
length-one_if false i = refl

pub count_step : (bls : List CodeBlock) (i k : ℕ) → length (preds_below bls (suc i) k) ≡ length (preds_below bls i k) + cond (leads bls k i) 1 0
count_step bls i k = ap length (preds_more bls i k) ∙ (length-append (preds_below bls i k) (one_if_leads bls i k) ∙ ap (λ n. length (preds_below bls i k) + n) (length-one_if (leads bls k i) i))

pub counts_more : (bls : List CodeBlock) (i : ℕ) (counts ts : List ℕ) → AreCounts bls i counts → AllBelow (length bls) ts → AreDifferent ts → ((v : ℕ) → has ts v ≡ has (successors (block_at bls i).end) v) → AreCounts bls (suc i) (counted ts counts)
counts_more bls i counts ts h b d same = record {
  size = length-counted ts counts ∙ h.size;
  each = λ k l. counted_at ts counts k (subst (λ n. AllBelow n ts) (sym h.size) b) d ∙ (ap (λ c. get_or counts k 0 + cond c 1 0) (same k) ∙ (ap (λ n. n + cond (leads bls k i) 1 0) (h.each k l) ∙ sym (count_step bls i k)));
}

pub counts_done : (bls : List CodeBlock) (counts : List ℕ) → AreCounts bls (length bls) counts → counts ≡ counts_of bls
counts_done bls counts h =
    let n : length (counts_of bls) ≡ length bls = length-map (places_from 0 (length bls)) (λ to. length (preds_of bls to)) ∙ length-places_from 0 (length bls) in
    same_lists counts (counts_of bls) (h.size ∙ sym n)
    (λ k d l. let b : k < length bls = (let s = h.size in omega (arith, s, l)) in
    get_or_default counts k d 0 l ∙ (h.each k b ∙ sym (at_place k d b)))
  where
    at_place : (k d : ℕ) → k < length bls → get_or (counts_of bls) k d ≡ length (preds_of bls k)
    at_place k d b =
        let p : k < length (places_from 0 (length bls)) = (let e = length-places_from 0 (length bls) in omega (arith, e, b)) in
        let z : 0 + k ≡ k = omega arith in
        get_or-map (λ to. length (preds_of bls to)) (places_from 0 (length bls)) k 0 d p ∙ ap (λ j. length (preds_of bls j)) (get_or-places_from 0 (length bls) k 0 b ∙ z)

---- Over a procedure's blocks

pub block_there : (blocks : List Block) (i : ℕ) (b : Block) → i < length blocks → b ≡ get_or blocks i b → block_at (code_blocks blocks) i ≡ code_block b
block_there blocks i b l e = get_or-map code_block blocks i b no_block l ∙ ap code_block (sym e)

pub length-code_blocks : (blocks : List Block) → length (code_blocks blocks) ≡ length blocks
length-code_blocks blocks = length-map blocks code_block

-- a test that all blocks pass, at one of them
pub all_at : {X : Type 0} (test : X → Bool) (xs : List X) (i : ℕ) (x : X) → list_all test xs ≡ true → i < length xs → x ≡ get_or xs i x → test x ≡ true
all_at test xs i x a l e = ap test e ∙ AllPass-from_list_all test xs a i x l

pub targets_below : (blocks : List Block) (i : ℕ) (b : Block) (ts : List ℕ) → list_all (λ k. all_below (length blocks) (successors k.end)) blocks ≡ true → i < length blocks → b ≡ get_or blocks i b → ts ≡ different_targets b.end → AllBelow (length blocks) ts
targets_below blocks i b ts a l e t =
    subst (AllBelow (length blocks)) (sym t)
    (different_below (length blocks) b.end (all_below_each (length blocks) (successors b.end) (all_at (λ k. all_below (length blocks) (successors k.end)) blocks i b a l e)))

pub counts_next : (blocks : List Block) (i : ℕ) (b : Block) (counts ts new : List ℕ) → list_all (λ k. all_below (length blocks) (successors k.end)) blocks ≡ true → i < length blocks → b ≡ get_or blocks i b → ts ≡ different_targets b.end
    → AreCounts (code_blocks blocks) i counts → new ≡ counted ts counts → AreCounts (code_blocks blocks) (i + 1) new
counts_next blocks i b counts ts new a l e t h n =
    let more = counts_more (code_blocks blocks) i counts ts h
    (subst (λ m. AllBelow m ts) (sym (length-code_blocks blocks)) (targets_below blocks i b ts a l e t))
    (subst AreDifferent (sym t) (different_different b.end))
    (λ v. ap (λ us. has us v) t ∙ (has_different b.end v ∙ ap (λ k. has (successors k.end) v) (sym (block_there blocks i b l e)))) in
    let s : suc i ≡ i + 1 = omega arith in
    subst (AreCounts (code_blocks blocks) (i + 1)) (sym n) (subst (λ j. AreCounts (code_blocks blocks) j (counted ts counts)) s more)

pub joins-counts : (bls : List CodeBlock) → map (λ n. nat_le 2 n) (counts_of bls) ≡ joins_of bls
joins-counts bls = map-map (λ n. nat_le 2 n) (λ to. length (preds_of bls to)) (places_from 0 (length bls))
