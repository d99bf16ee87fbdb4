-- The table of the nodes that make values.
use Rattle.std.proofs.Common.{◌≡◌, ◌≢◌, ℕ, zero, suc, ◌+◌, ◌<◌, ◌≤◌, ◌==◌, Bool, true, false, ◌&&◌, cond, List, [], ◌∷◌, ◌++◌, length, get_or, replicate, refl, sym, ap, ◌∙◌, subst, arith, inl, inr, ◌⊎◌}
use Rattle.std.specs.Prelude.{slice_index}
use Rattle.std.specs.List.{list_all}
use Rattle.std.proofs.Math.ListN.{set}
use Rattle.std.proofs.lemmas.List.{get_or-set_same, get_or-set_other, length-set, length-replicate, get_or_past}
use Rattle.std.proofs.lemmas.List.Folds.{list_all_at}
use Rattle.std.proofs.lemmas.Option.{slice_get-get_or}
use Rattle.std.proofs.lemmas.Bool.{eqb-true, eq-eqb, ne_eqb, cases_eq, cases_lt}
use Rattle.run_laws.specs.Layers.{places_from}
use Rattle.block_runs.specs.Blocks.{CodeBlock, block_at, no_block, successors}
use Rattle.block_runs.specs.Live.{has, block_makes}
use Rattle.block_runs.specs.Valid.{made, times, block_reads, all_below}
use Rattle.lir_core.specs.declared.flow.Flow.{Flow}
use Rattle.lir_core.specs.Flows.{code_nodes, leads, preds_of, IsValidFlow, no_node}
use Rattle.global_live.specs.Search.{made_in, makers_from, makes, IsKnown}
use Rattle.global_live.proofs.Lists.{times-append, times_of_in, times_of_out, has-filter, all_below_in}

pub made_in-append : (n : ℕ) (xs ys makers : List ℕ) → made_in n (xs ++ ys) makers ≡ made_in n ys (made_in n xs makers)
made_in-append n [] ys makers = refl
made_in-append n (x ∷ xs) ys makers = made_in-append n xs ys (set makers x n)

pub length-made_in : (n : ℕ) (vs makers : List ℕ) → length (made_in n vs makers) ≡ length makers
length-made_in n [] makers = refl
length-made_in n (v ∷ vs) makers = length-made_in n vs (set makers v n) ∙ length-set makers v n

pub length-makers_from : (n : ℕ) (bls : List CodeBlock) (makers : List ℕ) → length (makers_from n bls makers) ≡ length makers
length-makers_from n [] makers = refl
length-makers_from n (bl ∷ bls) makers = length-makers_from (suc n) bls (made_in n (block_makes bl) makers) ∙ length-made_in n (block_makes bl) makers

-- what isn't made here keeps its node
pub made_elsewhere : (n : ℕ) (vs makers : List ℕ) (w : ℕ) → has vs w ≡ false → slice_index (made_in n vs makers) w ≡ slice_index makers w
made_elsewhere n [] makers w h = refl
made_elsewhere n (v ∷ vs) makers w h = at_test (v == w) refl (made_elsewhere n vs (set makers v n) w) h
  where
    at_test : (b : Bool) → (v == w) ≡ b → (has vs w ≡ false → slice_index (made_in n vs (set makers v n)) w ≡ slice_index (set makers v n) w) → cond b true (has vs w) ≡ false → slice_index (made_in n vs (set makers v n)) w ≡ slice_index makers w
    at_test true e on h = cc
    at_test false e on h =
        let d : w ≢ v = λ (q : w ≡ v). let t = eq-eqb v w (sym q) in let f : true ≡ false = sym t ∙ e in cc in
        on h ∙ get_or-set_other makers v w n 0 d

-- what is made here has this node
pub made_here : (n : ℕ) (vs makers : List ℕ) (w : ℕ) → w < length makers → has vs w ≡ true → slice_index (made_in n vs makers) w ≡ n
made_here n [] makers w lt h = cc
made_here n (v ∷ vs) makers w lt h = at_test (has vs w) refl (made_here n vs (set makers v n) w (subst (λ k. w < k) (sym (length-set makers v n)) lt))
  where
    first : has vs w ≡ false → v ≡ w
    first e = eqb-true v w (by (v == w) refl h)
      where
        by : (b : Bool) → (v == w) ≡ b → cond b true (has vs w) ≡ true → (v == w) ≡ true
        by true q h = q
        by false q h = cc

    at_test : (b : Bool) → has vs w ≡ b → (has vs w ≡ true → slice_index (made_in n vs (set makers v n)) w ≡ n) → slice_index (made_in n vs (set makers v n)) w ≡ n
    at_test true e on = on e
    at_test false e on =
        let a = first e in
        let lt' : v < length makers = omega (arith, a) in
        made_elsewhere n vs (set makers v n) w e ∙ ap (λ i. get_or (set makers v n) i 0) (sym a) ∙ get_or-set_same makers v n 0 lt'

pub not_in : (xs : List ℕ) (v : ℕ) → times xs v ≡ 0 → has xs v ≡ false
not_in xs v h = at_test (has xs v) refl
  where
    at_test : (b : Bool) → has xs v ≡ b → has xs v ≡ false
    at_test true e = let a = times_of_in xs v e in absurd (omega arith)
    at_test false e = e

pub unmade : (n : ℕ) (bls : List CodeBlock) (makers : List ℕ) (w : ℕ) → times (made bls) w ≡ 0 → slice_index (makers_from n bls makers) w ≡ slice_index makers w
unmade n [] makers w h = refl
unmade n (bl ∷ bls) makers w h =
    let t = times-append (block_makes bl) (made bls) w in
    unmade (suc n) bls (made_in n (block_makes bl) makers) w (omega arith) ∙ made_elsewhere n (block_makes bl) makers w (not_in (block_makes bl) w (omega arith))

-- the table has the node that makes a value
pub makers_from-at : (n : ℕ) (bls : List CodeBlock) (makers : List ℕ) (k w : ℕ) → w < length makers → has (block_makes (block_at bls k)) w ≡ true → times (made bls) w ≤ 1 → slice_index (makers_from n bls makers) w ≡ n + k
makers_from-at n [] makers k w lt h once = cc
makers_from-at n (bl ∷ bls) makers zero w lt h once =
    let t = times-append (block_makes bl) (made bls) w in
    let i = times_of_in (block_makes bl) w h in
    let a : slice_index (makers_from (suc n) bls (made_in n (block_makes bl) makers)) w ≡ n = unmade (suc n) bls (made_in n (block_makes bl) makers) w (omega arith) ∙ made_here n (block_makes bl) makers w lt h in
    omega arith
makers_from-at n (bl ∷ bls) makers (suc k) w lt h once =
    let t = times-append (block_makes bl) (made bls) w in
    let e = length-made_in n (block_makes bl) makers in
    let a = makers_from-at (suc n) bls (made_in n (block_makes bl) makers) k w (omega arith) h (omega arith) in
    omega (arith, a)

-- a value that is made is made in a block
pub made_somewhere : (bls : List CodeBlock) (w : ℕ) → 0 < times (made bls) w → (k : ℕ) × (has (block_makes (block_at bls k)) w ≡ true)
made_somewhere [] w h = absurd (omega arith)
made_somewhere (bl ∷ bls) w h = at_test (has (block_makes bl) w) refl (made_somewhere bls w)
  where
    at_test : (b : Bool) → has (block_makes bl) w ≡ b → (0 < times (made bls) w → (k : ℕ) × (has (block_makes (block_at bls k)) w ≡ true)) → (k : ℕ) × (has (block_makes (block_at (bl ∷ bls) k)) w ≡ true)
    at_test true e on = (0, e)
    at_test false e on =
        let t = times-append (block_makes bl) (made bls) w in
        let z = times_of_out (block_makes bl) w e in
        let r = on (omega arith) in
        (suc r.0, r.1)

---- Edges

pub has_places : (a n v : ℕ) → a ≤ v → v < a + n → has (places_from a n) v ≡ true
has_places a zero v le lt = absurd (omega arith)
has_places a (suc n) v le lt = by (cases_eq a v) (has_places (suc a) n v)
  where
    by : ◌⊎◌ (a ≡ v) (a ≡ v → ⊥) → (suc a ≤ v → v < suc a + n → has (places_from (suc a) n) v ≡ true) → has (places_from a (suc n)) v ≡ true
    by (inl e) on = ap (λ b. cond b true (has (places_from (suc a) n) v)) (eq-eqb a v e)
    by (inr d) on = ap (λ b. cond b true (has (places_from (suc a) n) v)) (ne_eqb a v d) ∙ on (omega arith) (omega arith)

-- an edge leads only from a block that is there
pub leads_there : (bls : List CodeBlock) (to n : ℕ) → leads bls to n ≡ true → n < length bls
leads_there bls to n h = by (cases_lt n (length bls))
  where
    by : ◌⊎◌ (n < length bls) (length bls ≤ n) → n < length bls
    by (inl lt) = lt
    by (inr le) = let a : leads bls to n ≡ false = ap (λ bl. has (successors bl.end) to) (get_or_past bls n no_block le) in cc

pub has-preds_of : (bls : List CodeBlock) (to n : ℕ) → has (preds_of bls to) n ≡ leads bls to n
has-preds_of bls to n = has-filter (leads bls to) (places_from 0 (length bls)) n ∙ at_test (leads bls to n) refl
  where
    and_false : (a : Bool) → (a && false) ≡ false
    and_false true = refl
    and_false false = refl

    at_test : (b : Bool) → leads bls to n ≡ b → (has (places_from 0 (length bls)) n && b) ≡ b
    at_test true e = let lt = leads_there bls to n e in ap (λ a. a && true) (has_places 0 (length bls) n (omega arith) (omega arith))
    at_test false e = and_false (has (places_from 0 (length bls)) n)

---- A valid flow

-- what holds of each block of a list holds of the block of any number, if it holds of one that isn't there
pub at_block : (p : CodeBlock → Bool) (bls : List CodeBlock) (n : ℕ) → list_all p bls ≡ true → p no_block ≡ true → p (block_at bls n) ≡ true
at_block p bls n h none = by (cases_lt n (length bls)) (p (block_at bls n)) refl
  where
    by : ◌⊎◌ (n < length bls) (length bls ≤ n) → (b : Bool) → p (block_at bls n) ≡ b → p (block_at bls n) ≡ true
    by (inl lt) true e = e
    by (inl lt) false e = let a = list_all_at p bls n no_block lt e in cc
    by (inr le) b e = ap p (get_or_past bls n no_block le) ∙ none

module _ (f : Flow) (valid : IsValidFlow f) where
  pub table_is_known : IsKnown f (makers_from 0 (code_nodes f.nodes) (replicate f.values 0))
  table_is_known = record {
    values = size;
    maker = λ n v there below. at_test n v below (makes f n v) refl;
    below = λ n v r. all_below_in f.values (block_reads (block_at (code_nodes f.nodes) n)) v (at_block (λ bl. all_below f.values (block_reads bl)) (code_nodes f.nodes) n valid.code.read_below refl) r;
    preds = λ n m there. ap (λ ps. has ps n) (valid.preds m (get_or f.nodes m no_node) (slice_get-get_or f.nodes m no_node there)) ∙ has-preds_of (code_nodes f.nodes) m n;
  }
    where
      start : List ℕ
      start = replicate f.values 0

      size : length (makers_from 0 (code_nodes f.nodes) start) ≡ f.values
      size = length-makers_from 0 (code_nodes f.nodes) start ∙ length-replicate f.values 0

      is_maker : (n v : ℕ) → v < f.values → makes f n v ≡ true → slice_index (makers_from 0 (code_nodes f.nodes) start) v ≡ n
      is_maker n v below m =
          let there : v < length start = subst (λ k. v < k) (sym (length-replicate f.values 0)) below in
          let once = valid.code.made_once v below in
          let a = makers_from-at 0 (code_nodes f.nodes) start n v there m (omega arith) in
          omega (arith, a)

      at_test : (n v : ℕ) → v < f.values → (b : Bool) → makes f n v ≡ b → (slice_index (makers_from 0 (code_nodes f.nodes) start) v == n) ≡ makes f n v
      at_test n v below true e = eq-eqb _ _ (is_maker n v below e) ∙ sym e
      at_test n v below false e =
          let once = valid.code.made_once v below in
          let k = made_somewhere (code_nodes f.nodes) v (omega arith) in
          let a = is_maker k.0 v below k.1 in
          let d : slice_index (makers_from 0 (code_nodes f.nodes) start) v ≡ n → ⊥ = λ (q : slice_index (makers_from 0 (code_nodes f.nodes) start) v ≡ n). let r : makes f n v ≡ true = subst (λ i. makes f i v ≡ true) (sym a ∙ q) k.1 in let z : true ≡ false = sym r ∙ e in cc in
          ne_eqb _ _ d ∙ sym e
