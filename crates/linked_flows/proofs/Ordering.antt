-- Nodes by traces stand each once in the order of the code.
use Rattle.std.proofs.Common.{◌≡◌, ℕ, zero, suc, ◌<◌, ◌≤◌, ◌==◌, ◌||◌, List, [], ◌∷◌, length, Bool, true, false, cond, refl, arith, sym, ap, ◌∙◌, eq-eqb}
use Rattle.std.specs.Prelude.{if◌then◌else◌, drop, get_or}
use Rattle.std.proofs.lemmas.Bool.{eqb-true}
use Rattle.block_runs.specs.Live.{has}
use Rattle.block_runs.specs.Valid.{times}
use Rattle.lir_core.specs.declared.flow.Flow.{Flow}
use Rattle.lir_core.specs.Flows.{code_nodes}
use Rattle.global_live.proofs.Lists.{has-append, times_of_out, all_below_in}
use Rattle.trace_build.specs.Cuts.{all_nodes, AllTraces}
use Rattle.placed_code.specs.Layout.{position}

pub position_lt : (xs : List ℕ) (v : ℕ) → has xs v ≡ true → position xs v < length xs
position_lt [] v h = cc
position_lt (x ∷ xs) v h = by_test (x == v) h (position_lt xs v)
  where
    by_test : (b : Bool) → cond b true (has xs v) ≡ true → (has xs v ≡ true → position xs v < length xs) → (if b then 0 else suc (position xs v)) < suc (length xs)
    by_test true h on = omega arith
    by_test false h on = let l = on h in omega (arith, l)

pub at_position : (xs : List ℕ) (v : ℕ) → has xs v ≡ true → get_or xs (position xs v) 0 ≡ v
at_position [] v h = cc
at_position (x ∷ xs) v h = by_test (x == v) refl h (at_position xs v)
  where
    by_test : (b : Bool) → (x == v) ≡ b → cond b true (has xs v) ≡ true → (has xs v ≡ true → get_or xs (position xs v) 0 ≡ v) → get_or (x ∷ xs) (if b then 0 else suc (position xs v)) 0 ≡ v
    by_test true e h on = eqb-true x v e
    by_test false e h on = on h

pub position_none : (xs : List ℕ) (v : ℕ) → has xs v ≡ false → length xs ≤ position xs v
position_none [] v h = omega arith
position_none (x ∷ xs) v h = by_test (x == v) h (position_none xs v)
  where
    by_test : (b : Bool) → cond b true (has xs v) ≡ false → (has xs v ≡ false → length xs ≤ position xs v) → suc (length xs) ≤ (if b then 0 else suc (position xs v))
    by_test true h on = cc
    by_test false h on = let l = on h in omega (arith, l)

pub dropped_in : (xs : List ℕ) (n b : ℕ) (rest : List ℕ) → drop n xs ≡ b ∷ rest → 0 < times xs b
dropped_in [] zero b rest e = cc
dropped_in [] (suc n) b rest e = cc
dropped_in (x ∷ xs) zero b rest e = let same : x ≡ b = cc in let c = ap (λ t. cond t (suc (times xs b)) (times xs b)) (eq-eqb x b same) in omega (arith, c)
dropped_in (x ∷ xs) (suc n) b rest e = by_test (x == b) (dropped_in xs n b rest e)
  where
    by_test : (t : Bool) → 0 < times xs b → 0 < cond t (suc (times xs b)) (times xs b)
    by_test true h = omega arith
    by_test false h = h

pub position_once : (xs : List ℕ) (n b : ℕ) (rest : List ℕ) → drop n xs ≡ b ∷ rest → times xs b ≤ 1 → position xs b ≡ n
position_once [] zero b rest e one = cc
position_once [] (suc n) b rest e one = cc
position_once (x ∷ xs) zero b rest e one = let same : x ≡ b = cc in ap (λ t. if t then 0 else suc (position xs b)) (eq-eqb x b same)
position_once (x ∷ xs) (suc n) b rest e one = by_test (x == b) one (dropped_in xs n b rest e) (position_once xs n b rest e)
  where
    by_test : (t : Bool) → cond t (suc (times xs b)) (times xs b) ≤ 1 → 0 < times xs b → (times xs b ≤ 1 → position xs b ≡ n) → (if t then 0 else suc (position xs b)) ≡ suc n
    by_test true one some on = absurd (omega (arith, one, some))
    by_test false one some on = ap suc (on one)

pub has_of_times : (xs : List ℕ) (v : ℕ) → 0 < times xs v → has xs v ≡ true
has_of_times xs v l = by_test (has xs v) refl
  where
    by_test : (b : Bool) → has xs v ≡ b → b ≡ true
    by_test true e = refl
    by_test false e = let z = times_of_out xs v e in absurd (omega (arith, l, z))

-- the nodes of traces are nodes of the flow
pub traced_below : (f : Flow) (ts : List (List ℕ)) (v : ℕ) → AllTraces f ts → has (all_nodes ts) v ≡ true → v < length (code_nodes f.nodes)
traced_below f [] v all h = cc
traced_below f (t ∷ ts) v all h = by_test (has t v) refl (sym (has-append t (all_nodes ts) v) ∙ h) (traced_below f ts v all.1)
  where
    by_test : (b : Bool) → has t v ≡ b → (b || has (all_nodes ts) v) ≡ true → (has (all_nodes ts) v ≡ true → v < length (code_nodes f.nodes)) → v < length (code_nodes f.nodes)
    by_test true e h on = all_below_in (length (code_nodes f.nodes)) t v all.0.nodes e
    by_test false e h on = on h
