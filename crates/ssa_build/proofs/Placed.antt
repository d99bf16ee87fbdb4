-- Labels that get a block once each have it in the list of all labels.
use Rattle.std.proofs.Common.{◌≡◌, ◌≢◌, ℕ, zero, suc, ◌<◌, ◌≤◌, List, [], ◌∷◌, set, replicate, length, get_or, refl, ap, ◌∙◌, arith}
use Rattle.std.proofs.lemmas.List.{get_or-set_same, get_or-set_other, length-set}
use Rattle.ssa_exprs.specs.declared.making.Bound.{Bound}
use Rattle.ssa_exprs.specs.Making.{Fits, same, given, times}
use Rattle.ssa_build.specs.Blocks.{placed_at}

same_self : (t : ℕ) → same t t ≡ 1
same_self zero = refl
same_self (suc t) = same_self t

differs : (u t : ℕ) → same u t ≡ 0 → t ≢ u
differs u t is e =
    let one : same u t ≡ 1 = ap (λ n. same u n) e ∙ same_self u in
    absurd (omega (arith, is, one))

given_once : (n t : ℕ) → given n t ≤ 1
given_once zero t = omega arith
given_once (suc n) zero = omega arith
given_once (suc n) (suc t) = given_once n t

given_there : (n t : ℕ) → 1 ≤ given n t → t < n
given_there zero t le = absurd (omega (arith, le))
given_there (suc n) zero le = omega arith
given_there (suc n) (suc t) le = let h = given_there n t le in omega (arith, h)

untouched : (xs : List Bound) (places : List ℕ) (t : ℕ) → times xs t ≡ 0 → get_or (placed_at xs places) t 0 ≡ get_or places t 0
untouched [] places t none = refl
untouched (x ∷ xs) places t none =
    untouched xs (set places x.label x.block) t (omega (arith, none))
    ∙ get_or-set_other places x.label t x.block 0 (differs x.label t (omega (arith, none)))

pub bounds_fit : (xs : List Bound) (places : List ℕ) → ((t : ℕ) → times xs t ≤ given (length places) t) → Fits (λ t. get_or (placed_at xs places) t 0) xs
bounds_fit [] places once = tt
bounds_fit (x ∷ xs) places once =
    let there = set places x.label x.block in
    let l : length there ≡ length places = length-set places x.label x.block in
    let one = once x.label in
    let a = same_self x.label in
    let b = given_once (length places) x.label in (
      untouched xs there x.label (omega (arith, one, a, b)) ∙ get_or-set_same places x.label x.block 0 (given_there (length places) x.label (omega (arith, one, a))),
      bounds_fit xs there (λ t. let h = once t in let e = ap (λ n. given n t) l in omega (arith, h, e)),
    )

pub length_places : (n : ℕ) → length {A = ℕ} (replicate n 0) ≡ n
length_places zero = refl
length_places (suc n) = ap suc (length_places n)
