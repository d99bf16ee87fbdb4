-- What a view says of contents.
use Rattle.std.proofs.Common.{◌≡◌, ℕ, Bool, true, false, cond, List, [], ◌∷◌, map, Option, Some, None, refl, sym, ap, ◌∙◌, arith}
use Rattle.std.specs.Prelude.{◌==◌}
use Rattle.std.proofs.lemmas.Bool.Decides.{nat_tests}
use Rattle.block_runs.specs.Steps.{define}
use Rattle.lir_core.specs.Spots.{Spot, same, Holds}
use Rattle.lir_core.specs.Walks.{kept, left, without, defined}
use Rattle.lir_core.specs.Sound.{Keeps, gets}

-- where values stand, their numbers are read
pub reads : {A : Type 0} (g : A → Spot) (V : ℕ → ℕ) (w : Spot → Option ℕ) (c : Spot → ℕ) → Holds V w c → (rs : List A) (us : List ℕ) → map (λ r. w (g r)) rs ≡ map Some us → map (λ r. c (g r)) rs ≡ map V us
reads g V w c h [] [] e = refl
reads g V w c h [] (u ∷ us) e = cc
reads g V w c h (r ∷ rs) [] e = cc
reads g V w c h (r ∷ rs) (u ∷ us) e =
    let a : w (g r) ≡ Some u = cc in
    let b : map (λ x. w (g x)) rs ≡ map Some us = cc in
    let d = h (g r) u a in
    let f = reads g V w c h rs us b in
    cc

-- what an operation keeps holds behind it
pub left_holds : (call : Bool) (V : ℕ → ℕ) (w : Spot → Option ℕ) (c c' : Spot → ℕ) → Keeps call c c' → Holds V w c → Holds V (left call w) c'
left_holds call V w c c' keeps h p v e = at_test (kept call p) refl e
  where
    at_test : (b : Bool) → kept call p ≡ b → cond b (w p) None ≡ Some v → c' p ≡ V v
    at_test true t e = keeps p t ∙ h p v e
    at_test false t e = cc

pub is_without : (v u : ℕ) (o : Option ℕ) → without v o ≡ Some u → (o ≡ Some u) × ((u == v) ≡ false)
is_without v u None e = cc
is_without v u (Some x) e = at_test (x == v) refl e
  where
    at_test : (b : Bool) → (x == v) ≡ b → cond b None (Some x) ≡ Some u → (Some x ≡ Some u) × ((u == v) ≡ false)
    at_test true t e = cc
    at_test false t e = let a : x ≡ u = cc in (e, ap (λ z. z == v) (sym a) ∙ t)

same_number : (v : ℕ) → (v == v) ≡ true
same_number v = grind (arith, nat_tests)

-- a definition holds behind it, and so does all else but an earlier number of it
pub defined_holds : (o : Option ℕ) (d : Spot) (x : ℕ) (V : ℕ → ℕ) (w : Spot → Option ℕ) (c : Spot → ℕ) → Holds V w c → Holds (define o x V) (defined o d w) (gets o d x c)
defined_holds None d x V w c h p u e = h p u e
defined_holds (Some v) d x V w c h p u e = at_test (same p d) e
  where
    at_test : (b : Bool) → cond b (Some v) (without v (w p)) ≡ Some u → cond b x (c p) ≡ cond (u == v) x (V u)
    at_test true e =
        let a : v ≡ u = cc in
        let t : (u == v) ≡ true = ap (λ z. z == v) (sym a) ∙ same_number v in
        ap (λ b. cond b x (V u)) (sym t)
    at_test false e =
        let a = is_without v u (w p) e in
        h p u a.0 ∙ ap (λ b. cond b x (V u)) (sym a.1)
