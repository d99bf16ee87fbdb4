-- Values without a need: looking at what an operation mentions is enough where all other values with places have a need.
use Rattle.std.proofs.Common.{◌≡◌, ℕ, Bool, true, false, not, cond, List, [], ◌∷◌, ◌++◌, map, filter, Option, Some, None, refl, sym, ap, ap₂, ◌∙◌}
use Rattle.std.specs.Prelude.{◌==◌}
use Rattle.block_runs.specs.Blocks.{Operation}
use Rattle.block_runs.specs.Live.{has}
use Rattle.lir_core.specs.Spots.{in_register, placed}
use Rattle.lir_core.specs.Lines.{Room}
use Rattle.lir_core.specs.Walks.{without}
use Rattle.loc_state.specs.declared.part.Part.{Part}
use Rattle.loc_state.specs.Homed.{others}
use Rattle.loc_state.specs.Steps.{places, dropped}
use Rattle.loc_state.specs.Walked.{Walked}
use Rattle.loc_state.proofs.Numbers.{numbers_same, test_same, or_rest, in_reg, in_home}
use Rattle.loc_state.proofs.Stepping.{drops}
use Rattle.linear_scan.specs.Policy.{is_needed, living, drop_dead, drop_one, drop_all}
use Rattle.linear_scan.proofs.Safe.{Safe, safe_dropped, safe_less}

module _ (need : ℕ → ℕ → Option ℕ) (p : ℕ) where
  pub drop_join : (xs ys : List ℕ) (t : Part) → drop_all need p (xs ++ ys) t ≡ drop_all need p ys (drop_all need p xs t)
  drop_join [] ys t = refl
  drop_join (x ∷ xs) ys t = drop_join xs ys (drop_one need p x t)

  ---- Both ways to drop

  -- without a value that has no need the rest is the same
  living_rest : (v : ℕ) → is_needed need p v ≡ false → (xs : List (Option ℕ)) → map (living need p) (map (without v) xs) ≡ map (living need p) xs
  living_rest v dead [] = refl
  living_rest v dead (None ∷ xs) = ap (λ t. None ∷ t) (living_rest v dead xs)
  living_rest v dead (Some u ∷ xs) = ap₂ (λ (a : Option ℕ) (b : List (Option ℕ)). a ∷ b) (at_test (u == v) refl) (living_rest v dead xs)
    where
      at_test : (b : Bool) → (u == v) ≡ b → living need p (cond b None (Some u)) ≡ cond (is_needed need p u) (Some u) None
      at_test true e = sym (ap (λ b. cond b (Some u) None) (ap (is_needed need p) (numbers_same u v e) ∙ dead))
      at_test false e = refl

  needed_rest : (v : ℕ) → is_needed need p v ≡ false → (xs : List ℕ) → filter (is_needed need p) (others v xs) ≡ filter (is_needed need p) xs
  needed_rest v dead [] = refl
  needed_rest v dead (u ∷ xs) = at_test (u == v) refl (needed_rest v dead xs)
    where
      at_test : (b : Bool) → (u == v) ≡ b → filter (is_needed need p) (others v xs) ≡ filter (is_needed need p) xs → filter (is_needed need p) (cond (not b) (u ∷ others v xs) (others v xs)) ≡ cond (is_needed need p u) (u ∷ filter (is_needed need p) xs) (filter (is_needed need p) xs)
      at_test true e on = on ∙ sym (ap (λ b. cond b (u ∷ filter (is_needed need p) xs) (filter (is_needed need p) xs)) (ap (is_needed need p) (numbers_same u v e) ∙ dead))
      at_test false e on = ap (λ t. cond (is_needed need p u) (u ∷ t) t) on

  drop_rest : (v : ℕ) (t : Part) → drop_dead need p (drop_one need p v t) ≡ drop_dead need p t
  drop_rest v t = at_test (is_needed need p v) refl
    where
      at_test : (b : Bool) → is_needed need p v ≡ b → drop_dead need p (cond b t (dropped v t)) ≡ drop_dead need p t
      at_test true e = refl
      at_test false e = ap₂ (λ (a : List (Option ℕ)) (b : List ℕ). let s : Part = record t { regs = a; homed = b } in s) (living_rest v e t.regs) (needed_rest v e t.homed)

  all_living : (xs : List (Option ℕ)) → ((v : ℕ) → in_register xs v ≡ true → is_needed need p v ≡ true) → map (living need p) xs ≡ xs
  all_living [] h = refl
  all_living (None ∷ xs) h = ap (λ t. None ∷ t) (all_living xs h)
  all_living (Some u ∷ xs) h = ap₂ (λ (a : Option ℕ) (b : List (Option ℕ)). a ∷ b) (ap (λ b. cond b (Some u) None) (h u (ap (λ b. cond b true (in_register xs u)) (test_same u)))) (all_living xs (λ v e. h v (or_rest (u == v) (in_register xs v) e)))

  all_needed : (xs : List ℕ) → ((v : ℕ) → has xs v ≡ true → is_needed need p v ≡ true) → filter (is_needed need p) xs ≡ xs
  all_needed [] h = refl
  all_needed (u ∷ xs) h = ap (λ b. cond b (u ∷ filter (is_needed need p) xs) (filter (is_needed need p) xs)) (h u (ap (λ b. cond b true (has xs u)) (test_same u))) ∙ ap (λ t. u ∷ t) (all_needed xs (λ v e. h v (or_rest (u == v) (has xs v) e)))

  none_dead : (t : Part) → ((v : ℕ) → placed (places t) v ≡ true → is_needed need p v ≡ true) → t ≡ drop_dead need p t
  none_dead t h = sym (ap₂ (λ (a : List (Option ℕ)) (b : List ℕ). let s : Part = record t { regs = a; homed = b } in s) (all_living t.regs (λ v e. h v (in_reg (places t) v e))) (all_needed t.homed (λ v e. h v (in_home (places t) v e))))

  ---- What stays safe

  module _ (live : ℕ → Bool) (on : (v : ℕ) → live v ≡ true → is_needed need p v ≡ true) where
    dead_out : (v : ℕ) → is_needed need p v ≡ false → live v ≡ false
    dead_out v e = at_test (live v) refl
      where
        at_test : (b : Bool) → live v ≡ b → b ≡ false
        at_test false a = refl
        at_test true a = sym (on v a) ∙ e

    module _ (room : Room) (ops : List Operation) (n : ℕ) (noted : List ℕ) where
      pub one_dropped : (Known : ℕ → Type 0) (v : ℕ) (t : Part) → Walked room ops n noted t → Safe live Known (places t) → Walked room ops n noted (drop_one need p v t) × Safe live (λ w. Known w × ((w ≡ v) → is_needed need p w ≡ true)) (places (drop_one need p v t))
      one_dropped Known v t w s = at_test (is_needed need p v) refl
        where
          at_test : (b : Bool) → is_needed need p v ≡ b → Walked room ops n noted (cond b t (dropped v t)) × Safe live (λ w. Known w × ((w ≡ v) → is_needed need p w ≡ true)) (places (cond b t (dropped v t)))
          at_test true e = (w, safe_less live Known (places t) s live _ (λ x a. a) (λ x k. (k, λ q. ap (is_needed need p) q ∙ e)))
          at_test false e = (drops room ops n noted t w v, safe_less live _ _ (safe_dropped live Known (places t) s v (dead_out v e)) live _ (λ x a. a) (λ x k. (k.0, λ q. absurd (k.1 q))))

      -- behind a drop, what was looked at and has a place has a need; and it is the same as dropping all
      pub all_dropped : (vs : List ℕ) (Known : ℕ → Type 0) (t : Part) → Walked room ops n noted t → Safe live Known (places t) → Walked room ops n noted (drop_all need p vs t) × Safe live (λ w. Known w × (has vs w ≡ true → is_needed need p w ≡ true)) (places (drop_all need p vs t))
      all_dropped [] Known t w s = (w, safe_less live Known (places t) s live _ (λ x a. a) (λ x k. (k, λ h. cc)))
      all_dropped (v ∷ vs) Known t w s =
          let one = one_dropped Known v t w s in
          let rest = all_dropped vs (λ x. Known x × ((x ≡ v) → is_needed need p x ≡ true)) (drop_one need p v t) one.0 one.1 in
          (rest.0, safe_less live _ _ rest.1 live _ (λ x a. a) (λ x k. (k.0.0, by x k.0.1 k.1)))
        where
          by : (x : ℕ) → ((x ≡ v) → is_needed need p x ≡ true) → (has vs x ≡ true → is_needed need p x ≡ true) → cond (v == x) true (has vs x) ≡ true → is_needed need p x ≡ true
          by x a b h = at_test (v == x) refl h
            where
              at_test : (c : Bool) → (v == x) ≡ c → cond c true (has vs x) ≡ true → is_needed need p x ≡ true
              at_test true e h = a (sym (numbers_same v x e))
              at_test false e h = b h

  pub drop_same : (vs : List ℕ) (t : Part) → ((v : ℕ) → placed (places (drop_all need p vs t)) v ≡ true → is_needed need p v ≡ true) → drop_all need p vs t ≡ drop_dead need p t
  drop_same [] t h = none_dead t h
  drop_same (v ∷ vs) t h = drop_same vs (drop_one need p v t) h ∙ drop_rest v t
