-- Items in a row: where the words of the n-th stand.
use Rattle.std.proofs.Common.{◌≡◌, ℕ, zero, suc, ◌+◌, ◌<◌, ◌≤◌, List, [], ◌∷◌, ◌++◌, length, arith, ap, ap₂, subst, append_assoc}
use Rattle.std.specs.Prelude.{drop}
use Rattle.run_laws.specs.Layers.{width_before, whole_width, spread}
use Rattle.a64_instr.specs.declared.instr.Instr.{Instr}
use Rattle.a64_machine.proofs.Steps.{StandAll, stand_append}

-- the n-th item's words stand at its place, and the others' behind them
pub nth_stands : {A : Type 0} (code : List ℕ) (f : ℕ → ℕ → A → List Instr) (w : ℕ → A → ℕ) → ((j k : ℕ) (x : A) → length (f j k x) ≡ w j x) → (j k : ℕ) (xs : List A) (tail : List Instr) (n : ℕ) (x : A) (rest : List A) → drop n xs ≡ x ∷ rest → StandAll code k (spread f w j k xs ++ tail)
    → StandAll code (k + width_before w j xs n) (f (j + n) (k + width_before w j xs n) x ++ (spread f w (suc (j + n)) (k + width_before w j xs n + w (j + n) x) rest ++ tail))
nth_stands code f w sizes j k [] tail zero x rest e s = cc
nth_stands code f w sizes j k [] tail (suc n) x rest e s = cc
nth_stands code f w sizes j k (y ∷ xs) tail zero x rest e s =
    let same : y ≡ x = cc in let others : xs ≡ rest = cc in
    let i : j ≡ j + 0 = omega arith in
    let z : k ≡ k + 0 = omega arith in
    subst (λ m. StandAll code m (f (j + 0) m x ++ (spread f w (suc (j + 0)) (m + w (j + 0) x) rest ++ tail))) z
    (subst (λ m. StandAll code k (f m k x ++ (spread f w (suc m) (k + w m x) rest ++ tail))) i
    (subst (λ ys. StandAll code k (f j k x ++ (spread f w (suc j) (k + w j x) ys ++ tail))) others
    (subst (λ a. StandAll code k (f j k a ++ (spread f w (suc j) (k + w j a) xs ++ tail))) same
    (subst (λ l. StandAll code k l) (append_assoc (f j k y) (spread f w (suc j) (k + w j y) xs) tail) s))))
nth_stands code f w sizes j k (y ∷ xs) tail (suc n) x rest e s =
    let split = stand_append code (f j k y) (spread f w (suc j) (k + w j y) xs ++ tail) k (subst (λ l. StandAll code k l) (append_assoc (f j k y) (spread f w (suc j) (k + w j y) xs) tail) s) in
    let r = nth_stands code f w sizes (suc j) (k + w j y) xs tail n x rest e (subst (λ m. StandAll code (k + m) (spread f w (suc j) (k + w j y) xs ++ tail)) (sizes j k y) split.1) in
    let i : suc j + n ≡ j + suc n = omega arith in
    let p : k + w j y + width_before w (suc j) xs n ≡ k + (w j y + width_before w (suc j) xs n) = omega arith in
    subst (λ m. StandAll code m (f (j + suc n) m x ++ (spread f w (suc (j + suc n)) (m + w (j + suc n) x) rest ++ tail))) p
    (subst (λ m. StandAll code (k + w j y + width_before w (suc j) xs n) (f m (k + w j y + width_before w (suc j) xs n) x ++ (spread f w (suc m) (k + w j y + width_before w (suc j) xs n + w m x) rest ++ tail))) i r)

-- the n-th item ends before all do
pub width_before-le : {A : Type 0} (w : ℕ → A → ℕ) (j : ℕ) (xs : List A) (n : ℕ) (x : A) (rest : List A) → drop n xs ≡ x ∷ rest → width_before w j xs n + w (j + n) x ≤ whole_width w j xs
width_before-le w j [] zero x rest e = cc
width_before-le w j [] (suc n) x rest e = cc
width_before-le w j (y ∷ xs) zero x rest e = let same : y ≡ x = cc in let i : j ≡ j + 0 = omega arith in let f = ap₂ (λ m a. w m a) i same in omega (arith, f)
width_before-le w j (y ∷ xs) (suc n) x rest e =
    let r = width_before-le w (suc j) xs n x rest e in
    let i : suc j + n ≡ j + suc n = omega arith in let f = ap (λ m. w m x) i in
    omega (arith, r, f)

-- what stands before any place is no wider than all
pub width_before-whole : {A : Type 0} (w : ℕ → A → ℕ) (j : ℕ) (xs : List A) (n : ℕ) → width_before w j xs n ≤ whole_width w j xs
width_before-whole w j [] n = omega arith
width_before-whole w j (x ∷ xs) zero = omega arith
width_before-whole w j (x ∷ xs) (suc n) = let r = width_before-whole w (suc j) xs n in omega (arith, r)

-- where the last item has a width, there is something at and behind each
abbrev pub LastIsWide : {A : Type 0} → (ℕ → A → ℕ) → ℕ → List A → Type 0
LastIsWide w j [] = Unit {0}
LastIsWide w j (x ∷ []) = 0 < w j x
LastIsWide w j (x ∷ (y ∷ ys)) = LastIsWide w (suc j) (y ∷ ys)

pub width_before-lt : {A : Type 0} (w : ℕ → A → ℕ) (j : ℕ) (xs : List A) (n : ℕ) → LastIsWide w j xs → n < length xs → width_before w j xs n < whole_width w j xs
width_before-lt w j [] n last l = absurd (omega (arith, l))
width_before-lt w j (x ∷ []) zero last l = omega (arith, last)
width_before-lt w j (x ∷ []) (suc n) last l = absurd (omega (arith, l))
width_before-lt w j (x ∷ (y ∷ ys)) zero last l = let r = width_before-lt w (suc j) (y ∷ ys) 0 last (omega arith) in omega (arith, r)
width_before-lt w j (x ∷ (y ∷ ys)) (suc n) last l = let r = width_before-lt w (suc j) (y ∷ ys) n last (omega (arith, l)) in omega (arith, r)
