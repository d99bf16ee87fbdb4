-- Tables of what holds of each byte.
use Rattle.std.proofs.Common.{◌≡◌, ℕ, zero, suc, ◌+◌, ◌<◌, List, [], ◌∷◌, length, get_or, Bool, true, false, ◌&&◌, refl, sym, ap, arith, ◌∙◌}

unfoldable pub alike : Bool → Bool → Bool
alike true b = b
alike false true = false
alike false false = true

same : (a b : Bool) → alike a b ≡ true → a ≡ b
unfolding alike
same true true h = refl
same true false h = sym h
same false true h = h
same false false h = refl

both : (a b : Bool) → a && b ≡ true → (a ≡ true) × (b ≡ true)
both true b h = (refl, h)
both false b h = cc

-- the entries of a table tell what holds of the numbers from n on
unfoldable pub tells : (ℕ → Bool) → ℕ → List Bool → Bool
tells p n [] = true
tells p n (x ∷ t) = alike x (p n) && tells p (suc n) t

told : (p : ℕ → Bool) (n : ℕ) (t : List Bool) (i : ℕ) → tells p n t ≡ true → i < length t → get_or t i false ≡ p (n + i)
unfolding alike tells
told p n [] i h l = absurd (omega arith)
told p n (x ∷ t) zero h l =
    let e : n ≡ n + zero = omega arith in
    same x (p n) (both (alike x (p n)) (tells p (suc n) t) h).0 ∙ ap p e
told p n (x ∷ t) (suc i) h l =
    let e : suc n + i ≡ n + suc i = omega arith in
    told p (suc n) t i (both (alike x (p n)) (tells p (suc n) t) h).1 (omega arith) ∙ ap p e

pub told_of : (p : ℕ → Bool) (t : List Bool) (i b : ℕ) → tells p 0 t ≡ true → i ≡ b → i < length t → get_or t i false ≡ p b
told_of p t i b h e l =
    let k : 0 + i ≡ b = omega arith in
    told p 0 t i h l ∙ ap p k
