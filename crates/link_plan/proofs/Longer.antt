-- An image of more procedures has more words.
use Rattle.std.proofs.Common.{◌≡◌, ℕ, zero, suc, ◌+◌, ◌<◌, ◌≤◌, ◌^◌, List, [], ◌∷◌, ◌++◌, map, length, drop, Bool, true, false, refl, arith, sym, ap, ◌∙◌, subst}
use Rattle.std.specs.Prelude.{if◌then◌else◌}
use Rattle.run_laws.specs.Layers.{whole_width}
use Rattle.block_runs.specs.Blocks.{bodies_from}
use Rattle.placed_code.specs.Placed.{Placed, procedures}
use Rattle.placed_code.specs.Layout.{proc_width, all_words}
use Rattle.placed_code.specs.Results.{placed, all_placed}
use Rattle.placed_code.proofs.Linking.{all_size}
use Rattle.linked_flows.specs.Allocations.{Cut, steps_of, allocated, all_allocated}
use Rattle.link_blocks.specs.Plans.{plain}
use Rattle.procedure_code.proofs.Rows.{drop_map}
use Rattle.procedure_code.proofs.Plain.{width_plain}

-- how many are bodies doesn't depend on their numbers
abbrev bodies_among : ℕ → List Placed → ℕ
bodies_among n ps = length (bodies_from n (procedures ps))

bodies_of_one : (b : Bool) (n : ℕ) (xs : List ℕ) → length (if b then xs else (n ∷ xs)) ≡ (if b then 0 else 1) + length xs
bodies_of_one true n xs = omega arith
bodies_of_one false n xs = omega arith

bodies_same : (n m : ℕ) (ps : List Placed) → bodies_among n ps ≡ bodies_among m ps
bodies_same n m [] = refl
bodies_same n m (p ∷ ps) =
    let a = bodies_of_one p.counted n (bodies_from (suc n) (procedures ps)) in
    let b = bodies_of_one p.counted m (bodies_from (suc m) (procedures ps)) in
    let r = bodies_same (suc n) (suc m) ps in
    omega (arith, a, b, r)

bodies_sum : (n m : ℕ) (xs ys : List Placed) → bodies_among n (xs ++ ys) ≡ bodies_among m xs + bodies_among 0 ys
bodies_sum n m [] ys = let r = bodies_same n 0 ys in omega (arith, r)
bodies_sum n m (x ∷ xs) ys =
    let a = bodies_of_one x.counted n (bodies_from (suc n) (procedures (xs ++ ys))) in
    let b = bodies_of_one x.counted m (bodies_from (suc m) (procedures xs)) in
    let r = bodies_sum (suc n) (suc m) xs ys in
    omega (arith, a, b, r)

widths_same : (j i : ℕ) (ps : List Placed) → whole_width proc_width j ps ≡ whole_width proc_width i ps
widths_same j i [] = refl
widths_same j i (p ∷ ps) = ap (λ n. proc_width 0 p + n) (widths_same (suc j) (suc i) ps)

widths_sum : (j i : ℕ) (xs ys : List Placed) → whole_width proc_width j (xs ++ ys) ≡ whole_width proc_width i xs + whole_width proc_width 0 ys
widths_sum j i [] ys = let r = widths_same j 0 ys in omega (arith, r)
widths_sum j i (x ∷ xs) ys = let r = widths_sum (suc j) (suc i) xs ys in omega (arith, r)

pub first_fewer : (xs ys : List Placed) → length (all_words xs) ≤ length (all_words (xs ++ ys))
first_fewer xs ys =
    let a = all_size xs in let b = all_size (xs ++ ys) in
    let c = bodies_sum 0 0 xs ys in let d = widths_sum 0 0 xs ys in
    omega (arith, a, b, c, d)

pub last_fewer : (xs ys : List Placed) → length (all_words ys) ≤ length (all_words (xs ++ ys))
last_fewer xs ys =
    let a = all_size ys in let b = all_size (xs ++ ys) in
    let c = bodies_sum 0 0 xs ys in let d = widths_sum 0 0 xs ys in
    omega (arith, a, b, c, d)

-- a procedure that is too long alone
pub over_one : (ps : List Placed) (i : ℕ) (p : Placed) (rest : List Placed) → drop i ps ≡ p ∷ rest → 2 ^ 18 < length (all_words (p ∷ [])) → 2 ^ 18 < length (all_words ps)
over_one [] zero p rest e l = cc
over_one [] (suc i) p rest e l = cc
over_one (q ∷ ps) zero p rest e l =
    let same : q ≡ p = cc in
    let l' : 2 ^ 18 < length (all_words (q ∷ [])) = subst (λ (x : Placed). 2 ^ 18 < length (all_words (x ∷ []))) (sym same) l in
    let m = first_fewer (q ∷ []) ps in
    omega (arith, l', m)
over_one (q ∷ ps) (suc i) p rest e l =
    let r = over_one ps i p rest e l in
    let m = last_fewer (q ∷ []) ps in
    omega (arith, r, m)

pub over_cut : (cuts : List Cut) (i : ℕ) (c : Cut) (rest : List Cut) → drop i cuts ≡ c ∷ rest → 2 ^ 18 < length (all_words (placed steps_of (allocated c) ∷ [])) → 2 ^ 18 < length (all_words (all_placed steps_of (all_allocated cuts)))
over_cut cuts i c rest e l =
    over_one (all_placed steps_of (all_allocated cuts)) i (placed steps_of (allocated c)) (all_placed steps_of (all_allocated rest))
    (drop_map (placed steps_of) (all_allocated cuts) i ∙ ap (map (placed steps_of)) (drop_map allocated cuts i ∙ ap (map allocated) e)) l

---- Without what has no words

widths_plain : (j : ℕ) (ps : List Placed) → whole_width proc_width j (map plain ps) ≡ whole_width proc_width j ps
widths_plain j [] = refl
widths_plain j (p ∷ ps) = let w = width_plain p j in let r = widths_plain (suc j) ps in omega (arith, w, r)

bodies_plain : (n : ℕ) (ps : List Placed) → bodies_from n (procedures (map plain ps)) ≡ bodies_from n (procedures ps)
bodies_plain n [] = refl
bodies_plain n (p ∷ ps) = ap (λ (xs : List ℕ). if p.counted then xs else (n ∷ xs)) (bodies_plain (suc n) ps)

pub long_plain : (ps : List Placed) → length (all_words (map plain ps)) ≡ length (all_words ps)
long_plain ps =
    let a = all_size ps in let b = all_size (map plain ps) in
    let c = ap (λ (xs : List ℕ). length xs) (bodies_plain 0 ps) in let d = widths_plain 0 ps in
    omega (arith, a, b, c, d)
