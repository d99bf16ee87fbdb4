-- Values among others, and how many there are.
use Rattle.std.proofs.Common.{◌≡◌, ◌⊎◌, inr, ℕ, zero, suc, List, [], ◌∷◌, ◌++◌, Bool, true, false, cond, refl, ap, length, slice_set, arith}
use Rattle.ssa_lowered.specs.Pieces.{Mask, rest, params, merged, picked}

abbrev pub In : ℕ → List ℕ → Type 0
In v [] = ⊥
In v (x ∷ xs) = (v ≡ x) ⊎ In v xs

abbrev pub Sub : List ℕ → List ℕ → Type 0
Sub xs ys = (v : ℕ) → In v xs → In v ys

abbrev pub AllIn : List ℕ → List ℕ → Type 0
AllIn [] w = Unit {0}
AllIn (x ∷ xs) w = In x w × AllIn xs w

pub up_all : (xs v w : List ℕ) → Sub v w → AllIn xs v → AllIn xs w
up_all [] v w s a = tt
up_all (x ∷ xs) v w s a = (s x a.0, up_all xs v w s a.1)

pub all_on : (xs ys w : List ℕ) → AllIn xs w → AllIn ys w → AllIn (xs ++ ys) w
all_on [] ys w a b = b
all_on (x ∷ xs) ys w a b = (a.0, all_on xs ys w a.1 b)

pub behind_all : (xs w : List ℕ) → Sub w (xs ++ w)
behind_all [] w v i = i
behind_all (x ∷ xs) w v i = inr (behind_all xs w v i)

---- How many

pub set_long : (xs : List ℕ) (i x : ℕ) → length (slice_set xs i x) ≡ length xs
set_long [] i x = refl
set_long (y ∷ ys) zero x = refl
set_long (y ∷ ys) (suc i) x = ap suc (set_long ys i x)

merged_by : (b : Bool) (v u n : ℕ) (ms ns : List ℕ) → length ms ≡ n → length ns ≡ n → length (cond b (v ∷ ms) (u ∷ ns)) ≡ suc n
merged_by true v u n ms ns p q = ap suc p
merged_by false v u n ms ns p q = ap suc q

pub merged_long : (mask : Mask) (v : ℕ) (env : List ℕ) → length (merged mask v env) ≡ length env
merged_long mask v [] = refl
merged_long mask v (u ∷ env) = merged_by (mask 0) v u (length env) (merged (rest mask) (suc v) env) (merged (rest mask) v env) (merged_long (rest mask) (suc v) env) (merged_long (rest mask) v env)

params_by : (b : Bool) (v u : ℕ) (ps qs ms : List ℕ) → length ps ≡ length ms → length qs ≡ length ms → length (cond b (v ∷ ps) qs) ≡ length (cond b (u ∷ ms) ms)
params_by true v u ps qs ms p q = ap suc p
params_by false v u ps qs ms p q = q

-- a join has a parameter for each value that a jump hands over, where both have as many variables
pub params_long : (mask : Mask) (v : ℕ) (env other : List ℕ) → length env ≡ length other → length (params mask v env) ≡ length (picked mask other)
params_long mask v [] [] e = refl
params_long mask v [] (x ∷ other) e = absurd (omega (arith, e))
params_long mask v (u ∷ env) [] e = absurd (omega (arith, e))
params_long mask v (u ∷ env) (x ∷ other) e =
    let same : length env ≡ length other = omega (arith, e) in
    params_by (mask 0) v x (params (rest mask) (suc v) env) (params (rest mask) v env) (picked (rest mask) other) (params_long (rest mask) (suc v) env other same) (params_long (rest mask) v env other same)
