-- What the tables have.
use Rattle.std.proofs.Common.{◌≡◌, ◌≢◌, ℕ, zero, suc, ◌+◌, ◌<◌, ◌==◌, Bool, true, false, ◌&&◌, ◌||◌, cond, List, [], ◌∷◌, ◌++◌, length, get_or, replicate, map, drop, refl, sym, ap, ◌∙◌, subst, arith, ◌↔◌}
use Rattle.std.specs.Prelude.{if◌then◌else◌}
use Rattle.std.specs.Prelude.{slice_index, IsTrue, EachIndex}
use Rattle.std.proofs.Math.ListN.{set}
use Rattle.std.proofs.lemmas.List.{get_or-set_same, get_or-set_other, length-set, length-replicate, get_or-replicate, get_or-map, map-set, drop_more}
use Rattle.std.proofs.lemmas.Bool.{eqb-true, eq-eqb, ne_eqb}
use Rattle.block_runs.specs.Blocks.{CodeBlock, block_at, no_block}
use Rattle.block_runs.specs.Live.{has, block_makes}
use Rattle.block_runs.specs.Valid.{made, times, uses_of}
use Rattle.ssa_core.specs.declared.procedure.Op.{Op}
use Rattle.ssa_core.specs.declared.procedure.Block.{Block}
use Rattle.ssa_core.specs.Procedures.{operation_of, code_block, code_blocks}
use Rattle.global_live.proofs.Lists.{has-append}
use Rattle.ssa_valid.specs.Tables.{row_at, noted, noted_from, makers_from, one_more, tallied}
use Rattle.ssa_valid.specs.Search.{makes}
use Rattle.global_live.proofs.Tables.{length-makers_from}
use Rattle.global_live.proofs.Tables.{makers_from-at}
use Rattle.global_live.proofs.Tables.{made_somewhere}

---- Makers

-- the table says of each block whether it makes a value that is made once
pub makers_are : (bls : List CodeBlock) (values n v : ℕ) → v < values → times (made bls) v ≡ 1 → (slice_index (makers_from 0 bls (replicate values 0)) v == n) ≡ makes bls n v
makers_are bls values n v below once = at_test (makes bls n v) refl
  where
    start : List ℕ
    start = replicate values 0

    is_maker : (k : ℕ) → makes bls k v ≡ true → slice_index (makers_from 0 bls start) v ≡ k
    is_maker k m =
        let there : v < length start = subst (λ i. v < i) (sym (length-replicate values 0)) below in
        let a = makers_from-at 0 bls start k v there m (omega arith) in
        omega (arith, a)

    at_test : (b : Bool) → makes bls n v ≡ b → (slice_index (makers_from 0 bls start) v == n) ≡ makes bls n v
    at_test true e = eq-eqb _ _ (is_maker n e) ∙ sym e
    at_test false e =
        let k = made_somewhere bls v (omega arith) in
        let a = is_maker k.0 k.1 in
        let d : slice_index (makers_from 0 bls start) v ≡ n → ⊥ = λ (q : slice_index (makers_from 0 bls start) v ≡ n). let r : makes bls n v ≡ true = subst (λ i. makes bls i v ≡ true) (sym a ∙ q) k.1 in let z : true ≡ false = sym r ∙ e in cc in
        ne_eqb _ _ d ∙ sym e

pub length-makers : (bls : List CodeBlock) (values : ℕ) → length (makers_from 0 bls (replicate values 0)) ≡ values
length-makers bls values = length-makers_from 0 bls (replicate values 0) ∙ length-replicate values 0

---- How often

pub tallied-append : (xs ys counts : List ℕ) → tallied (xs ++ ys) counts ≡ tallied ys (tallied xs counts)
tallied-append [] ys counts = refl
tallied-append (x ∷ xs) ys counts = tallied-append xs ys (set counts x (one_more (slice_index counts x)))

pub length-tallied : (vs counts : List ℕ) → length (tallied vs counts) ≡ length counts
length-tallied [] counts = refl
length-tallied (v ∷ vs) counts = length-tallied vs (set counts v (one_more (slice_index counts v))) ∙ length-set counts v (one_more (slice_index counts v))

-- a count of 1 is exact
more_ones : (c t r : ℕ) → (r ≡ 1 ↔ one_more c + t ≡ 1) → (r ≡ 1 ↔ c + suc t ≡ 1)
more_ones zero t r h = (λ e. let a = h.0 e in omega arith, λ e. h.1 (omega arith))
more_ones (suc c) t r h =
    let two : one_more (suc c) ≡ 2 = ap (λ b. if b then 1 else 2) (ne_eqb (suc c) 0 (λ (e : suc c ≡ 0). omega (arith, e))) in
    (λ e. let a = h.0 e in absurd (omega (arith, two, a)), λ e. absurd (omega arith))

pub tallied_one : (vs counts : List ℕ) (w : ℕ) → w < length counts → (slice_index (tallied vs counts) w ≡ 1 ↔ slice_index counts w + times vs w ≡ 1)
tallied_one [] counts w there = (λ e. omega arith, λ e. omega arith)
tallied_one (v ∷ vs) counts w there = at_test (v == w) refl (tallied_one vs next w (subst (λ k. w < k) (sym (length-set counts v (one_more (slice_index counts v)))) there))
  where
    next : List ℕ
    next = set counts v (one_more (slice_index counts v))

    r : ℕ
    r = slice_index (tallied vs next) w

    at_test : (b : Bool) → (v == w) ≡ b → (r ≡ 1 ↔ slice_index next w + times vs w ≡ 1) → (r ≡ 1 ↔ slice_index counts w + cond b (suc (times vs w)) (times vs w) ≡ 1)
    at_test true e ih =
        let q : v ≡ w = eqb-true v w e in
        let lt : v < length counts = omega (arith, q) in
        let s : slice_index next w ≡ one_more (slice_index counts w) = ap (slice_index next) (sym q) ∙ get_or-set_same counts v (one_more (slice_index counts v)) 0 lt ∙ ap (λ i. one_more (slice_index counts i)) q in
        more_ones (slice_index counts w) (times vs w) r (subst (λ x. r ≡ 1 ↔ x + times vs w ≡ 1) s ih)
    at_test false e ih =
        let d : w ≢ v = λ (q : w ≡ v). let t = eq-eqb v w (sym q) in let f : true ≡ false = sym t ∙ e in cc in
        subst (λ x. r ≡ 1 ↔ x + times vs w ≡ 1) (get_or-set_other counts v w (one_more (slice_index counts v)) 0 d) ih

---- Lists of blocks

pub noted-append : (n : ℕ) (xs ys : List ℕ) (rows : List (List ℕ)) → noted n (xs ++ ys) rows ≡ noted n ys (noted n xs rows)
noted-append n [] ys rows = refl
noted-append n (x ∷ xs) ys rows = noted-append n xs ys (set rows x (row_at rows x ++ n ∷ []))

length-noted : (n : ℕ) (ks : List ℕ) (rows : List (List ℕ)) → length (noted n ks rows) ≡ length rows
length-noted n [] rows = refl
length-noted n (k ∷ ks) rows = length-noted n ks (set rows k (row_at rows k ++ n ∷ [])) ∙ length-set rows k (row_at rows k ++ n ∷ [])

or_false : (a : Bool) → a ≡ (a || false)
or_false true = refl
or_false false = refl

noted-has : (n : ℕ) (ks : List ℕ) (rows : List (List ℕ)) (k m : ℕ) → k < length rows → has (row_at (noted n ks rows) k) m ≡ (has (row_at rows k) m || (has ks k && (n == m)))
noted-has n [] rows k m there = or_false (has (row_at rows k) m)
noted-has n (x ∷ ks) rows k m there = noted-has n ks next k m (subst (λ i. k < i) (sym (length-set rows x row)) there) ∙ at_test (x == k) refl
  where
    row : List ℕ
    row = row_at rows x ++ n ∷ []

    next : List (List ℕ)
    next = set rows x row

    bools : (a b c : Bool) → ((a || cond b true false) || (c && b)) ≡ (a || (true && b))
    bools true b c = refl
    bools false true c = refl
    bools false false true = refl
    bools false false false = refl

    at_test : (b : Bool) → (x == k) ≡ b → (has (row_at next k) m || (has ks k && (n == m))) ≡ (has (row_at rows k) m || (cond b true (has ks k) && (n == m)))
    at_test true e =
        let q : x ≡ k = eqb-true x k e in
        let lt : x < length rows = omega (arith, q) in
        let s : row_at next k ≡ row_at rows k ++ n ∷ [] = ap (row_at next) (sym q) ∙ get_or-set_same rows x row [] lt ∙ ap (λ i. row_at rows i ++ n ∷ []) q in
        ap (λ r. has r m || (has ks k && (n == m))) s ∙ ap (λ h. h || (has ks k && (n == m))) (has-append (row_at rows k) (n ∷ []) m) ∙ bools (has (row_at rows k) m) (n == m) (has ks k)
    at_test false e =
        let d : k ≢ x = λ (q : k ≡ x). let t = eq-eqb x k (sym q) in let f : true ≡ false = sym t ∙ e in cc in
        ap (λ r. has r m || (has ks k && (n == m))) (get_or-set_other rows x k row [] d)

module _ (of : CodeBlock → List ℕ) (none : of no_block ≡ []) where
  and_false : (a : Bool) → (a && false) ≡ false
  and_false true = refl
  and_false false = refl

  and_true : (a : Bool) → (a && true) ≡ a
  and_true true = refl
  and_true false = refl

  other : (n m : ℕ) (ks : List ℕ) (rows : List (List ℕ)) (k : ℕ) → k < length rows → (n ≡ m → ⊥) → has (row_at (noted n ks rows) k) m ≡ has (row_at rows k) m
  other n m ks rows k there d = noted-has n ks rows k m there ∙ ap (λ b. has (row_at rows k) m || b) (ap (λ b. has ks k && b) (ne_eqb n m d) ∙ and_false (has ks k)) ∙ sym (or_false (has (row_at rows k) m))

  below : (n : ℕ) (bls : List CodeBlock) (rows : List (List ℕ)) (k m : ℕ) → k < length rows → m < n → has (row_at (noted_from of n bls rows) k) m ≡ has (row_at rows k) m
  below n [] rows k m there lt = refl
  below n (bl ∷ bls) rows k m there lt =
      let l = length-noted n (of bl) rows in
      below (suc n) bls (noted n (of bl) rows) k m (omega (arith, l)) (omega arith) ∙ other n m (of bl) rows k there (λ q. omega (arith, q))

  from : (n : ℕ) (bls : List CodeBlock) (rows : List (List ℕ)) (k j m : ℕ) → k < length rows → m ≡ n + j → has (row_at (noted_from of n bls rows) k) m ≡ (has (row_at rows k) m || has (of (block_at bls j)) k)
  from n [] rows k j m there e = or_false (has (row_at rows k) m) ∙ ap (λ xs. has (row_at rows k) m || has xs k) (sym none)
  from n (bl ∷ bls) rows k zero m there e =
      let l = length-noted n (of bl) rows in
      below (suc n) bls (noted n (of bl) rows) k m (omega (arith, l)) (omega (arith, e)) ∙ noted-has n (of bl) rows k m there ∙ ap (λ b. has (row_at rows k) m || b) (ap (λ b. has (of bl) k && b) (eq-eqb n m (omega (arith, e))) ∙ and_true (has (of bl) k))
  from n (bl ∷ bls) rows k (suc j) m there e =
      let l = length-noted n (of bl) rows in
      from (suc n) bls (noted n (of bl) rows) k j m (omega (arith, l)) (omega (arith, e)) ∙ ap (λ b. b || has (of (block_at bls j)) k) (other n m (of bl) rows k there (λ q. omega (arith, q, e)))

  -- the table has a block in a number's list exactly where the block has the number
  pub noted_is : (bls : List CodeBlock) (count k m : ℕ) → k < count → has (row_at (noted_from of 0 bls (replicate count [])) k) m ≡ has (of (block_at bls m)) k
  noted_is bls count k m lt =
      let l : length {A = List ℕ} (replicate count []) ≡ count = length-replicate count [] in
      from 0 bls (replicate count []) k m m (omega (arith, l)) (omega arith) ∙ ap (λ r. has r m || has (of (block_at bls m)) k) (get_or-replicate count k [] [] lt)

---- Steps of the code

pub noted_one : {X : Type 0} (xs : List X) (view : X → List ℕ) (k n : ℕ) (x d : X) → k < length xs → view x ≡ view (get_or xs k d) ++ n ∷ [] → map view (set xs k x) ≡ noted n (k ∷ []) (map view xs)
noted_one xs view k n x d there is = map-set view xs k x ∙ ap (set (map view xs) k) (is ∙ ap (λ r. r ++ n ∷ []) (sym (get_or-map view xs k d [] there)))

pub noted_next : (n : ℕ) (ops : List Op) (i : ℕ) (op : Op) (us : List ℕ) (rows next first : List (List ℕ)) → i < length ops → op ≡ get_or ops i op → us ≡ op.uses → next ≡ noted n us rows → noted n (uses_of (map operation_of (drop i ops))) rows ≡ noted n (uses_of (map operation_of ops)) first → noted n (uses_of (map operation_of (drop (i + 1) ops))) next ≡ noted n (uses_of (map operation_of ops)) first
noted_next n ops i op us rows next first lt is uses step inv =
    let rest : List ℕ = uses_of (map operation_of (drop (i + 1) ops)) in
    let e : us ++ rest ≡ uses_of (map operation_of (drop i ops)) = ap (λ xs. xs ++ rest) (uses ∙ ap (λ (o : Op). o.uses) is) ∙ sym (ap (λ xs. uses_of (map operation_of xs)) (drop_more ops i op lt)) in
    ap (noted n rest) step ∙ sym (noted-append n us rest rows) ∙ ap (λ xs. noted n xs rows) e ∙ inv

pub tallied_next : (blocks : List Block) (i : ℕ) (b : Block) (counts next first : List ℕ) → i < length blocks → b ≡ get_or blocks i b → next ≡ tallied (block_makes (code_block b)) counts → tallied (made (code_blocks (drop i blocks))) counts ≡ tallied (made (code_blocks blocks)) first → tallied (made (code_blocks (drop (i + 1) blocks))) next ≡ tallied (made (code_blocks blocks)) first
tallied_next blocks i b counts next first lt is step inv =
    let rest : List ℕ = made (code_blocks (drop (i + 1) blocks)) in
    let e : block_makes (code_block b) ++ rest ≡ made (code_blocks (drop i blocks)) = ap (λ x. block_makes (code_block x) ++ rest) is ∙ sym (ap (λ xs. made (code_blocks xs)) (drop_more blocks i b lt)) in
    ap (tallied rest) step ∙ sym (tallied-append (block_makes (code_block b)) rest counts) ∙ ap (λ xs. tallied xs counts) e ∙ inv

pub once_is : (vs : List ℕ) (values : ℕ) (counts : List ℕ) (ones : Bool) → counts ≡ tallied vs (replicate values 0) → (IsTrue ones ↔ EachIndex counts (λ k. slice_index counts k ≡ 1)) → (IsTrue ones ↔ ((v : ℕ) → v < values → times vs v ≡ 1))
once_is vs values counts ones is all = (λ h v lt. let a = (one v lt).0 (all.0 h v (inside v lt)) in let z = none v lt in omega (arith, a, z), λ h. all.1 (λ k lt. let b = below k lt in (one k b).1 (let a = h k b in let z = none k b in omega (arith, a, z))))
  where
    size : length counts ≡ values
    size = ap length is ∙ length-tallied vs (replicate values 0) ∙ length-replicate values 0

    inside : (v : ℕ) → v < values → v < length counts
    inside v lt = omega (arith, size)

    below : (v : ℕ) → v < length counts → v < values
    below v lt = omega (arith, size)

    none : (v : ℕ) → v < values → slice_index (replicate values 0) v ≡ 0
    none v lt = get_or-replicate values v 0 0 lt

    one : (v : ℕ) → v < values → (slice_index counts v ≡ 1 ↔ slice_index (replicate values 0) v + times vs v ≡ 1)
    one v lt = subst (λ xs. slice_index xs v ≡ 1 ↔ slice_index (replicate values 0) v + times vs v ≡ 1) (sym is) (tallied_one vs (replicate values 0) v (subst (λ n. v < n) (sym (length-replicate values 0)) lt))
