-- Values behind edges and at the entry: parameters are arguments.
use Rattle.std.proofs.Common.{◌≡◌, ℕ, zero, suc, ◌+◌, ◌<◌, ◌≤◌, ◌==◌, ◌&&◌, ⊎_elim, List, [], ◌∷◌, ◌++◌, map, length, get_or, Bool, true, false, cond, Some, refl, arith, sym, ap, ◌∙◌, eq-eqb}
use Rattle.std.specs.Prelude.{if◌then◌else◌, nat_lt}
use Rattle.std.proofs.lemmas.Bool.{ltb-true}
use Rattle.std.proofs.lemmas.Bool.Decides.{eqb_tells}
use Rattle.block_runs.specs.Blocks.{CodeBlock}
use Rattle.block_runs.specs.Live.{block_makes, defs_of}
use Rattle.block_runs.specs.Valid.{times, made, all_below}
use Rattle.block_runs.specs.Steps.{set_all}
use Rattle.lir_core.specs.Spots.{get, argument_of}

same_numbers : (m n : ℕ) → (m == n) ≡ true → m ≡ n
same_numbers m n e = ⊎_elim (λ t. t.1) (λ f. let wrong = f.0 in cc) (eqb_tells m n)

-- with a jump's arguments in parameters
pub set_argument : (params args : List ℕ) (V : ℕ → ℕ) (v : ℕ) → set_all params (map V args) V v ≡ V (argument_of params args v)
set_argument [] args V v = refl
set_argument (p ∷ params) [] V v = refl
set_argument (p ∷ params) (a ∷ args) V v = by_test (v == p) (set_argument params args V v)
  where
    by_test : (b : Bool) → set_all params (map V args) V v ≡ V (argument_of params args v) → (if b then V a else set_all params (map V args) V v) ≡ V (cond b a (argument_of params args v))
    by_test true r = refl
    by_test false r = r

---- Each value is made once

times-append : (xs ys : List ℕ) (v : ℕ) → times (xs ++ ys) v ≡ times xs v + times ys v
times-append [] ys v = omega arith
times-append (x ∷ xs) ys v = by_test (x == v) (times-append xs ys v)
  where
    by_test : (b : Bool) → times (xs ++ ys) v ≡ times xs v + times ys v → cond b (suc (times (xs ++ ys) v)) (times (xs ++ ys) v) ≡ cond b (suc (times xs v)) (times xs v) + times ys v
    by_test true r = omega (arith, r)
    by_test false r = r

once_in : (xs : List ℕ) (i v : ℕ) → get (map Some xs) i ≡ Some v → 0 < times xs v
once_in [] i v e = cc
once_in (x ∷ xs) zero v e = let same : x ≡ v = cc in let h = eq-eqb x v same in let c = ap (λ b. cond b (suc (times xs v)) (times xs v)) h in omega (arith, c)
once_in (x ∷ xs) (suc i) v e = by_test (x == v) (once_in xs i v e)
  where
    by_test : (b : Bool) → 0 < times xs v → 0 < cond b (suc (times xs v)) (times xs v)
    by_test true r = omega arith
    by_test false r = r

and_left : (a b : Bool) → (a && b) ≡ true → a ≡ true
and_left true b e = refl
and_left false b e = cc

and_right : (a b : Bool) → (a && b) ≡ true → b ≡ true
and_right true b e = e
and_right false b e = cc

-- what is in numbers below n is below n
below_of : (n : ℕ) (xs : List ℕ) (v : ℕ) → all_below n xs ≡ true → 0 < times xs v → v < n
below_of n [] v h l = absurd (omega (arith, l))
below_of n (x ∷ xs) v h l = by_test (x == v) refl l (below_of n xs v (and_right (nat_lt x n) (all_below n xs) h))
  where
    by_test : (b : Bool) → (x == v) ≡ b → 0 < cond b (suc (times xs v)) (times xs v) → (0 < times xs v → v < n) → v < n
    by_test true e l on = let same = same_numbers x v e in let t = ltb-true x n (and_left (nat_lt x n) (all_below n xs) h) in omega (arith, same, t)
    by_test false e l on = on l

differ : (m n : ℕ) → (m ≡ n → ⊥) → (m == n) ≡ false
differ m n d = ⊎_elim (λ t. absurd (d t.1)) (λ f. f.0) (eqb_tells m n)

-- the i-th parameter has the i-th argument, where no value is twice among them
first_argument : (params args : List ℕ) (V : ℕ → ℕ) (i v : ℕ) → times params v ≤ 1 → get (map Some params) i ≡ Some v → i < length args → set_all params args V v ≡ get_or args i 0
first_argument [] args V i v once e l = cc
first_argument (p ∷ params) [] V i v once e l = absurd (omega (arith, l))
first_argument (p ∷ params) (a ∷ args) V zero v once e l = let same : p ≡ v = cc in let h : (v == p) ≡ true = eq-eqb v p (sym same) in ap (λ b. if b then a else set_all params args V v) h
first_argument (p ∷ params) (a ∷ args) V (suc i) v once e l = by_test (p == v) refl once (first_argument params args V i v) (once_in params i v e)
  where
    by_test : (b : Bool) → (p == v) ≡ b → cond b (suc (times params v)) (times params v) ≤ 1 → (times params v ≤ 1 → get (map Some params) i ≡ Some v → i < length args → set_all params args V v ≡ get_or args i 0) → 0 < times params v
        → (if v == p then a else set_all params args V v) ≡ get_or args i 0
    by_test true g once on some = absurd (omega (arith, once, some))
    by_test false g once on some =
        let other : (v == p) ≡ false = differ v p (λ s. let t = eq-eqb p v (sym s) in cc) in
        ap (λ b. if b then a else set_all params args V v) other ∙ on once e (omega (arith, l))

-- so it is with the first block's parameters, where each value of the blocks is made once
pub parameter_is : (values : ℕ) (bl : CodeBlock) (bls : List CodeBlock) → all_below values (made (bl ∷ bls)) ≡ true → ((v : ℕ) → v < values → times (made (bl ∷ bls)) v ≡ 1)
    → (args : List ℕ) (V : ℕ → ℕ) (i v : ℕ) → get (map Some bl.params) i ≡ Some v → i < length args → set_all bl.params args V v ≡ get_or args i 0
parameter_is values bl bls below once args V i v e l =
    let some = once_in bl.params i v e in
    let one = times-append bl.params (defs_of bl.ops) v in
    let two = times-append (block_makes bl) (made bls) v in
    let small = below_of values (made (bl ∷ bls)) v below (omega (arith, some, one, two)) in
    let all = once v small in
    first_argument bl.params args V i v (omega (arith, one, two, all)) e l
