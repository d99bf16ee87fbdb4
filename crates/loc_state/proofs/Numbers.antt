-- Rows of registers, and registers named.
use Rattle.std.proofs.Common.{◌≡◌, ◌≢◌, ℕ, zero, suc, ◌<◌, Bool, true, false, ◌||◌, cond, List, [], ◌∷◌, ◌++◌, map, length, take, set, get_or, Option, Some, None, refl, ap, ◌∙◌, arith, ⊎_elim, ◌⊎◌, inl, inr}
use Rattle.std.specs.Prelude.{◌==◌}
use Rattle.std.proofs.lemmas.Bool.{cases_lt}
use Rattle.std.proofs.lemmas.Bool.Decides.{nat_tests}
use Rattle.std.proofs.lemmas.List.{get_or-set_same, get_or-set_other, get_or_past}
use Rattle.block_runs.specs.Live.{has}
use Rattle.lir_core.specs.declared.places.Places.{Places}
use Rattle.lir_core.specs.Spots.{get, in_register, placed}
use Rattle.lir_core.specs.Lines.{AllBelow}
use Rattle.lir_core.specs.Walks.{without}
use Rattle.loc_state.specs.Registers.{register_of}
use Rattle.loc_state.specs.Walked.{Apart}

pub numbers_same : (x y : ℕ) → (x == y) ≡ true → x ≡ y
numbers_same x y = grind (arith, nat_tests)

pub numbers_apart : (x y : ℕ) → (x == y) ≡ false → x ≢ y
numbers_apart x y = grind (arith, nat_tests)

pub numbers_turned : (x y : ℕ) → (x == y) ≡ (y == x)
numbers_turned x y = grind (arith, nat_tests)

pub test_same : (x : ℕ) → (x == x) ≡ true
test_same x = grind (arith, nat_tests)

pub test_apart : (x y : ℕ) → x ≢ y → (x == y) ≡ false
test_apart x y = grind (arith, nat_tests)

pub or_rest : (b c : Bool) → c ≡ true → cond b true c ≡ true
or_rest true c e = refl
or_rest false c e = e

pub get_set : {A : Type 0} (xs : List (Option A)) (r x : ℕ) (v : Option A) → r < length xs → get_or (set xs r v) x None ≡ cond (x == r) v (get_or xs x None)
get_set xs r x v h = at_test (x == r) refl
  where
    at_test : (b : Bool) → (x == r) ≡ b → get_or (set xs r v) x None ≡ cond b v (get_or xs x None)
    at_test true e = ap (λ i. get_or (set xs r v) i None) (numbers_same x r e) ∙ get_or-set_same xs r v None h
    at_test false e = get_or-set_other xs r x v None (numbers_apart x r e)

pub below_push : (k : ℕ) (xs : List ℕ) (r : ℕ) → AllBelow k xs → r < k → AllBelow k (xs ++ r ∷ [])
below_push k [] r h l = (l, tt)
below_push k (x ∷ xs) r h l = (h.0, below_push k xs r h.1 l)

pub below_take : (k : ℕ) (xs : List ℕ) (n : ℕ) → AllBelow k xs → AllBelow k (take n xs)
below_take k xs zero h = tt
below_take k [] (suc n) h = tt
below_take k (x ∷ xs) (suc n) h = (h.0, below_take k xs n h.1)

pub map_map : {A B C : Type 0} (f : B → C) (g : A → B) (xs : List A) → map f (map g xs) ≡ map (λ x. f (g x)) xs
map_map f g [] = refl
map_map f g (x ∷ xs) = ap (λ t. f (g x) ∷ t) (map_map f g xs)

pub map_same : {B : Type 0} (f g : ℕ → B) (r : ℕ) → ((x : ℕ) → (x == r) ≡ false → f x ≡ g x) → (xs : List ℕ) → Apart r xs → map f xs ≡ map g xs
map_same f g r h [] a = refl
map_same f g r h (x ∷ xs) a = let e = h x a.0 in let m = map_same f g r h xs a.1 in cc

pub nothing : {A B : Type 0} (f : A → B) (xs : List A) → map f xs ≡ [] → xs ≡ []
nothing f [] e = refl
nothing f (x ∷ xs) e = cc

pub append_nil : {A : Type 0} (xs : List A) → xs ++ [] ≡ xs
append_nil [] = refl
append_nil (x ∷ xs) = ap (λ t. x ∷ t) (append_nil xs)

pub get_without : (xs : List (Option ℕ)) (v x u : ℕ) → get (map (without v) xs) x ≡ Some u → get xs x ≡ Some u
get_without [] v x u e = e
get_without (None ∷ xs) v zero u e = e
get_without (Some y ∷ xs) v zero u e = at_test (y == v) e
  where
    at_test : (b : Bool) → cond b None (Some y) ≡ Some u → Some y ≡ Some u
    at_test true e = cc
    at_test false e = e
get_without (y ∷ xs) v (suc x) u e = get_without xs v x u e

pub get_emptied : (xs : List (Option ℕ)) (x u : ℕ) → get (map (λ y. None) xs) x ≡ Some u → ⊥
get_emptied [] x u e = cc
get_emptied (y ∷ xs) zero u e = cc
get_emptied (y ∷ xs) (suc x) u e = get_emptied xs x u e

-- where a register has a value, it is one of the row's
pub in_row : (xs : List (Option ℕ)) (r v : ℕ) → get xs r ≡ Some v → r < length xs
in_row xs r v e = ⊎_elim (λ h. h) (λ h. let n = get_or_past xs r None h in cc) (cases_lt r (length xs))

---- Values in registers

pub register_at : (xs : List (Option ℕ)) (v : ℕ) → in_register xs v ≡ true → get xs (register_of v xs) ≡ Some v
register_at [] v h = cc
register_at (None ∷ xs) v h = register_at xs v h
register_at (Some u ∷ xs) v h = at_test (register_at xs v) (u == v) refl h
  where
    at_test : (in_register xs v ≡ true → get xs (register_of v xs) ≡ Some v) → (b : Bool) → (u == v) ≡ b → cond b true (in_register xs v) ≡ true → get (Some u ∷ xs) (cond b 0 (suc (register_of v xs))) ≡ Some v
    at_test on true e h = ap Some (numbers_same u v e)
    at_test on false e h = on h

pub in_register_at : (xs : List (Option ℕ)) (r v : ℕ) → get xs r ≡ Some v → in_register xs v ≡ true
in_register_at [] r v e = cc
in_register_at (None ∷ xs) zero v e = cc
in_register_at (Some u ∷ xs) zero v e = let q : u ≡ v = cc in ap (λ b. cond b true (in_register xs v)) (ap (λ y. y == v) q ∙ test_same v)
in_register_at (None ∷ xs) (suc r) v e = in_register_at xs r v e
in_register_at (Some u ∷ xs) (suc r) v e = or_rest (u == v) (in_register xs v) (in_register_at xs r v e)

-- a placed value is in a register or homed
pub either : (q : Places) (v : ℕ) → placed q v ≡ true → (in_register q.regs v ≡ true) ⊎ (has q.homed v ≡ true)
either q v h = at_test (in_register q.regs v) h
  where
    at_test : (b : Bool) → (b || has q.homed v) ≡ true → (b ≡ true) ⊎ (has q.homed v ≡ true)
    at_test true h = inl refl
    at_test false h = inr h

pub in_reg : (q : Places) (v : ℕ) → in_register q.regs v ≡ true → placed q v ≡ true
in_reg q v e = ap (λ b. b || has q.homed v) e

pub in_home : (q : Places) (v : ℕ) → has q.homed v ≡ true → placed q v ≡ true
in_home q v e = by (in_register q.regs v) (has q.homed v) e
  where
    by : (b c : Bool) → c ≡ true → (b || c) ≡ true
    by true c e = refl
    by false c e = e
