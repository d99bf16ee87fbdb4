-- A flow's points: those of its procedure, and one of each new node.
use Rattle.std.proofs.Common.{◌≡◌, ℕ, zero, suc, ◌+◌, Bool, List, [], ◌∷◌, ◌++◌, map, length, take, drop, get_or, refl, sym, ap, subst, ◌∙◌, arith}
use Rattle.std.specs.Prelude.{flat_map}
use Rattle.std.proofs.lemmas.List.{length-append}
use Rattle.run_laws.specs.Runs.{weigh, Within}
use Rattle.run_laws.specs.Layers.{places_from, points_of_all}
use Rattle.run_laws.proofs.Weights.{weigh-append, weigh-map, weigh-flat_map}
use Rattle.run_laws.proofs.Layers.{places_from-append}
use Rattle.block_runs.specs.Blocks.{Operation, CodeBlock, Procedure, no_block, block_at, no_procedure, procedure_of, bodies}
use Rattle.block_runs.specs.States.{Point, Begin, Entry, In}
use Rattle.block_runs.specs.Points.{block_points, procedure_points, routine_points, all_points}
use Rattle.a64_select.specs.Selected.{joins_of, split_targets}
use Rattle.a64_select.specs.Carrying.{new_targets, first_new, new_points, at_end, flow_points}
use Rattle.a64_select.proofs.Splitting.{edge_block, old_blocks}
use Rattle.a64_select.proofs.Targets.{length-old_blocks}
use Rattle.a64_select.proofs.Carried.{split_procedure, split_procedures, bodies_same}

-- weights of parts in a row
points-append : {A P : Type 0} (h : P → ℕ) (points : ℕ → A → List P) (j : ℕ) (xs ys : List A) → weigh h (points_of_all points j (xs ++ ys)) ≡ weigh h (points_of_all points j xs) + weigh h (points_of_all points (j + length xs) ys)
points-append h points j [] ys = let e : j ≡ j + 0 = omega arith in let z = ap (λ k. weigh h (points_of_all points k ys)) e in omega (arith, z)
points-append h points j (x ∷ xs) ys =
    let a = weigh-append h (points j x) (points_of_all points (suc j) (xs ++ ys)) in
    let b = weigh-append h (points j x) (points_of_all points (suc j) xs) in
    let r = points-append h points (suc j) xs ys in
    let e : suc j + length xs ≡ j + suc (length xs) = omega arith in
    let z = ap (λ k. weigh h (points_of_all points k ys)) e in
    omega (arith, a, b, r, z)

-- the points of blocks go by how many operations they have
old_points : (h : Point → ℕ) (p j next : ℕ) (joins : List Bool) (bls : List CodeBlock) → weigh h (points_of_all (block_points p) j (old_blocks joins next bls)) ≡ weigh h (points_of_all (block_points p) j bls)
old_points h p j next joins [] = refl
old_points h p j next joins (bl ∷ bls) =
    let a = weigh-append h (block_points p j bl) (points_of_all (block_points p) (suc j) (old_blocks joins (next + length (split_targets joins bl.end)) bls)) in
    let b = weigh-append h (block_points p j bl) (points_of_all (block_points p) (suc j) bls) in
    let r = old_points h p (suc j) (next + length (split_targets joins bl.end)) joins bls in
    omega (arith, a, b, r)

edge_points : (h : Point → ℕ) (p j : ℕ) (ts : List ℕ) → weigh h (points_of_all (block_points p) j (map edge_block ts)) ≡ weigh h (map (λ n. In p n 0) (places_from j (length ts)))
edge_points h p j [] = refl
edge_points h p j (t ∷ ts) = let r = edge_points h p (suc j) ts in omega (arith, r)

-- the points for a block of a procedure: its own, and behind its end those of its new nodes
ops_points : (h : Point → ℕ) (p b i : ℕ) (rest : List Operation) (more : List Point) (words : Point → List Point) → ((k : ℕ) → weigh h (words (In p b (i + k))) ≡ h (In p b (i + k)) + weigh h (at_end (drop k rest) more))
    → weigh h (flat_map words (map (In p b) (places_from i (suc (length rest))))) ≡ weigh h (map (In p b) (places_from i (suc (length rest)))) + weigh h more
ops_points h p b i [] more words each =
    let e : i + 0 ≡ i = omega arith in
    let w = each 0 in
    let x = ap (λ k. weigh h (words (In p b k))) e in
    let y = ap (λ k. h (In p b k)) e in
    let a = weigh-append h (words (In p b i)) [] in
    omega (arith, w, x, y, a)
ops_points h p b i (op ∷ ops) more words each =
    let e : i + 0 ≡ i = omega arith in
    let w = each 0 in
    let x = ap (λ k. weigh h (words (In p b k))) e in
    let y = ap (λ k. h (In p b k)) e in
    let a = weigh-append h (words (In p b i)) (flat_map words (map (In p b) (places_from (suc i) (suc (length ops))))) in
    let r = ops_points h p b (suc i) ops more words (λ k. let f : i + suc k ≡ suc i + k = omega arith in subst (λ n. weigh h (words (In p b n)) ≡ h (In p b n) + weigh h (at_end (drop k ops) more)) f (each (suc k))) in
    omega (arith, w, x, y, a, r)

-- points in a row of numbers
row_points : (h : Point → ℕ) (p a m n : ℕ) → weigh h (map (λ k. In p k 0) (places_from a (m + n))) ≡ weigh h (map (λ k. In p k 0) (places_from a m)) + weigh h (map (λ k. In p k 0) (places_from (a + m) n))
row_points h p a m n =
    let e = ap (λ xs. weigh h (map (λ k. In p k 0) xs)) (sym (places_from-append a m n)) in
    let x = weigh-map h (λ k. In p k 0) (places_from a m ++ places_from (a + m) n) in
    let y = weigh-append (λ k. h (In p k 0)) (places_from a m) (places_from (a + m) n) in
    let u = weigh-map h (λ k. In p k 0) (places_from a m) in
    let v = weigh-map h (λ k. In p k 0) (places_from (a + m) n) in
    omega (arith, e, x, y, u, v)

drop_first : {A : Type 0} (xs : List A) (i : ℕ) (x d : A) (ys : List A) → drop i xs ≡ x ∷ ys → get_or xs i d ≡ x
drop_first [] zero x d ys e = cc
drop_first [] (suc i) x d ys e = cc
drop_first (z ∷ xs) zero x d ys e = cc
drop_first (z ∷ xs) (suc i) x d ys e = drop_first xs i x d ys e

drop_next : {A : Type 0} (xs : List A) (i : ℕ) (x : A) (ys : List A) → drop i xs ≡ x ∷ ys → drop (suc i) xs ≡ ys
drop_next [] zero x ys e = cc
drop_next [] (suc i) x ys e = cc
drop_next (z ∷ xs) zero x ys e = cc
drop_next (z ∷ xs) (suc i) x ys e = drop_next xs i x ys e

take_next : (joins : List Bool) (all : List CodeBlock) (b : ℕ) (bl : CodeBlock) (bls : List CodeBlock) → drop b all ≡ bl ∷ bls → length (new_targets joins (take (suc b) all)) ≡ length (new_targets joins (take b all)) + length (split_targets joins bl.end)
take_next joins [] zero bl bls e = cc
take_next joins [] (suc b) bl bls e = cc
take_next joins (x ∷ all) zero bl bls e =
    let s : x ≡ bl = cc in
    let a = length-append (split_targets joins x.end) [] in
    let z = ap (λ y. length (split_targets joins y.end)) s in
    omega (arith, a, z)
take_next joins (x ∷ all) (suc b) bl bls e =
    let r = take_next joins all b bl bls e in
    let a = length-append (split_targets joins x.end) (new_targets joins (take (suc b) all)) in
    let c = length-append (split_targets joins x.end) (new_targets joins (take b all)) in
    omega (arith, r, a, c)

module _ (h : Point → ℕ) (ps : List Procedure) where
  abbrev words : Point → List Point
  words = flow_points ps

  weigh_words : (xs ys : List Point) → weigh h (flat_map words (xs ++ ys)) ≡ weigh h (flat_map words xs) + weigh h (flat_map words ys)
  weigh_words xs ys =
      let a = weigh-flat_map h words (xs ++ ys) in
      let b = weigh-append (λ p. weigh h (words p)) xs ys in
      let c = weigh-flat_map h words xs in
      let d = weigh-flat_map h words ys in
      omega (arith, a, b, c, d)

  -- a block's points
  block_words : (p b : ℕ) (all : List CodeBlock) (bl : CodeBlock) → block_at all b ≡ bl → (procedure_of ps p).blocks ≡ all → weigh h (flat_map words (block_points p b bl)) ≡ weigh h (block_points p b bl) + weigh h (map (λ n. In p n 0) (places_from (first_new all b) (length (split_targets (joins_of all) bl.end))))
  block_words p b all bl t e =
      ops_points h p b 0 bl.ops (new_points p all b) words (λ k.
      let z : 0 + k ≡ k = omega arith in
      let x = ap (λ bls. weigh h (at_end (drop (0 + k) (block_at bls b).ops) (new_points p bls b))) e in
      let y = ap (λ c. weigh h (at_end (drop (0 + k) c.ops) (new_points p all b))) t in
      let u = ap (λ n. weigh h (at_end (drop n bl.ops) (new_points p all b))) z in
      omega (arith, x, y, u))
      ∙ ap (λ c. weigh h (block_points p b bl) + weigh h (map (λ n. In p n 0) (places_from (first_new all b) (length (split_targets (joins_of all) c.end))))) t

  -- the new points of the blocks from b on, in a row
  news_from : (p : ℕ) (all : List CodeBlock) (b : ℕ) (bls : List CodeBlock) → drop b all ≡ bls → (procedure_of ps p).blocks ≡ all → weigh h (flat_map words (points_of_all (block_points p) b bls)) ≡ weigh h (points_of_all (block_points p) b bls) + weigh h (map (λ n. In p n 0) (places_from (first_new all b) (length (new_targets (joins_of all) bls))))
  news_from p all b [] d e = refl
  news_from p all b (bl ∷ bls) d e =
      let j = joins_of all in
      let m = length (split_targets j bl.end) in
      let n = length (new_targets j bls) in
      let one = block_words p b all bl (drop_first all b bl no_block bls d) e in
      let more = news_from p all (suc b) bls (drop_next all b bl bls d) e in
      let a = weigh_words (block_points p b bl) (points_of_all (block_points p) (suc b) bls) in
      let c = weigh-append h (block_points p b bl) (points_of_all (block_points p) (suc b) bls) in
      let s = ap (λ k. weigh h (map (λ q. In p q 0) (places_from (first_new all b) k))) (length-append (split_targets j bl.end) (new_targets j bls)) in
      let r = row_points h p (first_new all b) m n in
      let f : first_new all (suc b) ≡ first_new all b + m = (let t = take_next j all b bl bls d in omega (arith, t)) in
      let g = ap (λ k. weigh h (map (λ q. In p q 0) (places_from k n))) f in
      omega (arith, one, more, a, c, s, r, g)

  procedure_words : (p : ℕ) (pr : Procedure) → procedure_of ps p ≡ pr → weigh h (flat_map words (procedure_points p pr)) ≡ weigh h (procedure_points p (split_procedure pr))
  procedure_words p pr e =
      let bls = pr.blocks in
      let j = joins_of bls in
      let ts = new_targets j bls in
      let all = news_from p bls 0 bls refl (ap (λ q. q.blocks) e) in
      let a = points-append h (block_points p) 0 (old_blocks j (length bls) bls) (map edge_block ts) in
      let o = old_points h p 0 (length bls) j bls in
      let k : 0 + length (old_blocks j (length bls) bls) ≡ first_new bls 0 = (let n = length-old_blocks j (length bls) bls in omega (arith, n)) in
      let x = ap (λ n. weigh h (points_of_all (block_points p) n (map edge_block ts))) k in
      let y = edge_points h p (first_new bls 0) ts in
      let w = weigh_words (Entry p ∷ []) (points_of_all (block_points p) 0 bls) in
      omega (arith, all, a, o, x, y, w)

  procedures_words : (p : ℕ) (rest : List Procedure) → drop p ps ≡ rest → weigh h (flat_map words (points_of_all procedure_points p rest)) ≡ weigh h (points_of_all procedure_points p (split_procedures rest))
  procedures_words p [] d = refl
  procedures_words p (pr ∷ rest) d =
      let one = procedure_words p pr (drop_first ps p pr no_procedure rest d) in
      let more = procedures_words (suc p) rest (drop_next ps p pr rest d) in
      let a = weigh_words (procedure_points p pr) (points_of_all procedure_points (suc p) rest) in
      let b = weigh-append h (procedure_points p (split_procedure pr)) (points_of_all procedure_points (suc p) (split_procedures rest)) in
      omega (arith, one, more, a, b)

  begin_words : (js : List ℕ) → weigh h (flat_map words (map Begin js)) ≡ weigh h (map Begin js)
  begin_words [] = refl
  begin_words (j ∷ js) = let r = begin_words js in omega (arith, r)

  all_words : weigh h (flat_map words (all_points ps)) ≡ weigh h (all_points (split_procedures ps))
  all_words =
      let js = places_from 0 (suc (length (bodies ps))) in
      let ks = places_from 0 (suc (length (bodies (split_procedures ps)))) in
      let e = ap (λ bs. weigh h (map Begin (places_from 0 (suc (length bs))))) (bodies_same 0 ps) in
      let a = weigh_words (map Begin js) (routine_points ++ points_of_all procedure_points 0 ps) in
      let b = weigh_words routine_points (points_of_all procedure_points 0 ps) in
      let c = begin_words js in
      let d = procedures_words 0 ps refl in
      let r : weigh h (flat_map words routine_points) ≡ weigh h routine_points = refl in
      let u = weigh-append h (map Begin ks) (routine_points ++ points_of_all procedure_points 0 (split_procedures ps)) in
      let v = weigh-append h routine_points (points_of_all procedure_points 0 (split_procedures ps)) in
      omega (arith, e, a, b, c, d, r, u, v)

-- the flow's points are enough for the words of all points
pub points_fit : (ps : List Procedure) → Within (all_points (split_procedures ps)) (flat_map (flow_points ps) (all_points ps))
points_fit ps h = let e = all_words h ps in omega (arith, e)
