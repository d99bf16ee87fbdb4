-- Some register can be given up.
use Rattle.std.proofs.Common.{◌≡◌, ◌≢◌, ℕ, zero, suc, ◌+◌, ◌<◌, ◌≤◌, Bool, true, false, not, cond, List, [], ◌∷◌, ◌++◌, map, length, set, Option, Some, None, refl, sym, ap, ◌∙◌, subst, arith, ◌⊎◌, inl, inr, ⊎_elim}
use Rattle.std.specs.Prelude.{◌==◌}
use Rattle.block_runs.specs.Live.{has}
use Rattle.lir_core.specs.Spots.{get, in_register, IsSingle}
use Rattle.loc_state.specs.Registers.{register_of, lowest_empty}
use Rattle.loc_state.specs.Homed.{others}
use Rattle.loc_state.specs.Walked.{Apart}
use Rattle.loc_state.proofs.Numbers.{numbers_same, test_same, test_apart, or_rest, get_set, register_at, in_register_at}
use Rattle.linear_scan.specs.declared.choosing.Found.{Found}
use Rattle.linear_scan.specs.Policy.{is_later, later, farther, farthest, reg_of, victim}

---- Registers that are written

-- a value stays in its register where another register is written
pub in_register_set : (xs : List (Option ℕ)) (r v : ℕ) (o : Option ℕ) → r < length xs → get xs r ≢ Some v → in_register xs v ≡ true → in_register (set xs r o) v ≡ true
in_register_set xs r v o l ne h =
    let q = register_of v xs in
    let e = register_at xs v h in
    let apart : (q == r) ≡ false = test_apart q r (λ s. ne (ap (get xs) (sym s) ∙ e)) in
    in_register_at (set xs r o) q v (get_set xs r q o l ∙ ap (λ b. cond b o (get xs q)) apart ∙ e)

-- what a written row has was written or was there
pub was_there : (xs : List (Option ℕ)) (r v u : ℕ) → r < length xs → in_register (set xs r (Some v)) u ≡ true → u ≢ v → in_register xs u ≡ true
was_there xs r v u l h ne =
    let q = register_of u (set xs r (Some v)) in
    let e = sym (get_set xs r q (Some v) l) ∙ register_at (set xs r (Some v)) u h in
    at_test (q == r) e
  where
    at_test : (b : Bool) → cond b (Some v) (get xs (register_of u (set xs r (Some v)))) ≡ Some u → in_register xs u ≡ true
    at_test true e = absurd (ne (let f : v ≡ u = cc in sym f))
    at_test false e = in_register_at xs (register_of u (set xs r (Some v))) u e

-- a register that is emptied leaves the others
pub was_back : (xs : List (Option ℕ)) (r p w : ℕ) → r < length xs → get (set xs r None) p ≡ Some w → get xs p ≡ Some w
was_back xs r p w l e = back (p == r) (sym (get_set xs r p None l) ∙ e)
  where
    back : (b : Bool) → cond b None (get xs p) ≡ Some w → get xs p ≡ Some w
    back true e = cc
    back false e = e

pub lowest_empty_is : (xs : List (Option ℕ)) (i r : ℕ) → lowest_empty i xs ≡ Some r → (q : ℕ) × (r ≡ i + q) × (q < length xs) × (get xs q ≡ None)
lowest_empty_is [] i r e = cc
lowest_empty_is (None ∷ xs) i r e = let f : i ≡ r = cc in (0, omega (arith, f), omega arith, refl)
lowest_empty_is (Some v ∷ xs) i r e = let m = lowest_empty_is xs (suc i) r e in let a = m.1 in let b = m.2 in (suc m.0, omega (arith, a), omega (arith, b), m.3)

pub lowest_is : (xs : List (Option ℕ)) (r : ℕ) → lowest_empty 0 xs ≡ Some r → (r < length xs) × (get xs r ≡ None)
lowest_is xs r e =
    let m = lowest_empty_is xs 0 r e in
    let q : m.0 ≡ r = (let x = m.1 in omega (arith, x)) in
    (subst (λ y. y < length xs) q m.2, ap (get xs) (sym q) ∙ m.3)

-- all registers are full where none is empty
pub full : (xs : List (Option ℕ)) (i r : ℕ) → lowest_empty i xs ≡ None → r < length xs → (v : ℕ) × (get xs r ≡ Some v)
full [] i r e l = absurd (omega (arith, l))
full (None ∷ xs) i r e l = cc
full (Some v ∷ xs) i zero e l = (v, refl)
full (Some v ∷ xs) i (suc r) e l = full xs (suc i) r e (omega (arith, l))

---- Values that aren't kept

abbrev pub Candidate : List ℕ → List (Option ℕ) → ℕ → Type 0
Candidate keep xs r = (v : ℕ) × (get xs r ≡ Some v) × (has keep v ≡ false)

search_one : (keep : List ℕ) (xs : List (Option ℕ)) → ((r : ℕ) × Candidate keep xs r) ⊎ ((r v : ℕ) → get xs r ≡ Some v → has keep v ≡ true)
search_one keep [] = inr (λ r v e. cc)
search_one keep (x ∷ xs) = with_rest (search_one keep xs) x
  where
    with_rest : ((r : ℕ) × Candidate keep xs r) ⊎ ((r v : ℕ) → get xs r ≡ Some v → has keep v ≡ true) → (x : Option ℕ) → ((r : ℕ) × Candidate keep (x ∷ xs) r) ⊎ ((r v : ℕ) → get (x ∷ xs) r ≡ Some v → has keep v ≡ true)
    with_rest (inl m) x = inl (suc m.0, m.1)
    with_rest (inr all) None = inr every
      where
        every : (r v : ℕ) → get (None ∷ xs) r ≡ Some v → has keep v ≡ true
        every zero v e = cc
        every (suc r) v e = all r v e
    with_rest (inr all) (Some w) = at_test (has keep w) refl
      where
        at_test : (b : Bool) → has keep w ≡ b → ((r : ℕ) × Candidate keep (Some w ∷ xs) r) ⊎ ((r v : ℕ) → get (Some w ∷ xs) r ≡ Some v → has keep v ≡ true)
        at_test false t = inl (0, (w, refl, t))
        at_test true t = inr every
          where
            every : (r v : ℕ) → get (Some w ∷ xs) r ≡ Some v → has keep v ≡ true
            every zero v e = let f : w ≡ v = cc in ap (has keep) (sym f) ∙ t
            every (suc r) v e = all r v e

pub others_has : (ys : List ℕ) (v w : ℕ) → has ys w ≡ true → w ≢ v → has (others v ys) w ≡ true
others_has [] v w h ne = h
others_has (y ∷ ys) v w h ne = at_test (λ g. others_has ys v w g ne) (y == v) refl (y == w) refl h
  where
    at_test : (has ys w ≡ true → has (others v ys) w ≡ true) → (b : Bool) → (y == v) ≡ b → (c : Bool) → (y == w) ≡ c → cond c true (has ys w) ≡ true → has (cond (not b) (y ∷ others v ys) (others v ys)) w ≡ true
    at_test on true e true f h = absurd (ne (sym (numbers_same y w f) ∙ numbers_same y v e))
    at_test on true e false f h = on h
    at_test on false e true f h = ap (λ b. cond b true (has (others v ys) w)) f
    at_test on false e false f h = or_rest (y == w) (has (others v ys) w) (on h)

others_shorter : (ys : List ℕ) (v : ℕ) → length (others v ys) ≤ length ys
others_shorter [] v = omega arith
others_shorter (y ∷ ys) v = at_test (others_shorter ys v) (y == v)
  where
    at_test : length (others v ys) ≤ length ys → (b : Bool) → length (cond (not b) (y ∷ others v ys) (others v ys)) ≤ suc (length ys)
    at_test l true = omega (arith, l)
    at_test l false = omega (arith, l)

others_length : (ys : List ℕ) (v : ℕ) → has ys v ≡ true → length (others v ys) < length ys
others_length [] v h = cc
others_length (y ∷ ys) v h = at_test (others_shorter ys v) (others_length ys v) (y == v) h
  where
    at_test : length (others v ys) ≤ length ys → (has ys v ≡ true → length (others v ys) < length ys) → (b : Bool) → cond b true (has ys v) ≡ true → length (cond (not b) (y ∷ others v ys) (others v ys)) < suc (length ys)
    at_test l on true h = omega (arith, l)
    at_test l on false h = let m = on h in omega (arith, m)

-- full registers with different values that are all kept are no more than what is kept
pigeons : (xs : List (Option ℕ)) (keep : List ℕ) → IsSingle xs → ((r : ℕ) → r < length xs → (v : ℕ) × (get xs r ≡ Some v) × (has keep v ≡ true)) → length xs ≤ length keep
pigeons [] keep d all = omega arith
pigeons (x ∷ xs) keep d all =
    let here = all 0 (omega arith) in
    let v = here.0 in
    let less = others_length keep v here.2 in
    let rest = pigeons xs (others v keep) (λ r s w e f. let q = d (suc r) (suc s) w e f in omega (arith, q)) (λ r l. let there = all (suc r) (omega (arith, l)) in (there.0, there.1, others_has keep v there.0 there.2 (λ q. let z = d 0 (suc r) v here.1 (there.1 ∙ ap Some q) in absurd (omega (arith, z))))) in
    omega (arith, less, rest)

pub candidate : (xs : List (Option ℕ)) (keep : List ℕ) (u : ℕ) → IsSingle xs → lowest_empty 0 xs ≡ None → has keep u ≡ true → in_register xs u ≡ false → length keep ≤ length xs → (r : ℕ) × Candidate keep xs r
candidate xs keep u d e h f l = ⊎_elim (λ m. m) none (search_one keep xs)
  where
    none : ((r v : ℕ) → get xs r ≡ Some v → has keep v ≡ true) → (r : ℕ) × Candidate keep xs r
    none all =
        let less = others_length keep u h in
        let most = pigeons xs (others u keep) d (λ r l. let m = full xs 0 r e l in (m.0, m.1, others_has keep u m.0 (all r m.0 m.1) (λ q. let g : in_register xs u ≡ true = in_register_at xs r u (m.1 ∙ ap Some q) in absurd (let z : true ≡ false = sym g ∙ f in cc)))) in
        absurd (omega (arith, less, most, l))

---- The register of the latest need

module _ (keep : List ℕ) (need : ℕ → Option ℕ) (all : List (Option ℕ)) where
  IsGood : Option Found → Type 0
  IsGood None = Unit {0}
  IsGood (Some f) = Candidate keep all f.reg

  good_farther : (i : ℕ) (o : Option ℕ) (best : Option Found) → get all i ≡ o → IsGood best → IsGood (farther keep need i o best)
  unfolding IsGood
  good_farther i None best e g = g
  good_farther i (Some v) best e g = at_test (has keep v) refl best g
    where
      at_later : has keep v ≡ false → (c : Bool) (f : Found) → IsGood (Some f) → IsGood (cond c (Some (record { reg = i; need = need v })) (Some f))
      at_later t true f g = (v, e, t)
      at_later t false f g = g

      at_best : has keep v ≡ false → (best : Option Found) → IsGood best → IsGood (later i (need v) best)
      at_best t None g = (v, e, t)
      at_best t (Some f) g = at_later t (is_later f.need (need v)) f g

      at_test : (b : Bool) → has keep v ≡ b → (best : Option Found) → IsGood best → IsGood (cond b best (later i (need v) best))
      at_test true t best g = g
      at_test false t best g = at_best t best g

  good_farthest : (os : List (Option ℕ)) (i : ℕ) (best : Option Found) → ((q : ℕ) → get all (i + q) ≡ get os q) → IsGood best → IsGood (farthest keep need i os best)
  good_farthest [] i best at g = g
  good_farthest (o ∷ os) i best at g =
      good_farthest os (suc i) (farther keep need i o best) (λ q. let e : suc i + q ≡ i + suc q = omega arith in ap (get all) e ∙ at (suc q))
      (good_farther i o best (let e : i + 0 ≡ i = omega arith in ap (get all) (sym e) ∙ at 0) g)

  -- one was found
  Is : Option Found → Type 0
  Is None = ⊥
  Is (Some f) = Unit {0}

  later_is : (i : ℕ) (n : Option ℕ) (best : Option Found) → Is (later i n best)
  unfolding Is
  later_is i n None = tt
  later_is i n (Some f) = by (is_later f.need n)
    where
      by : (b : Bool) → Is (cond b (Some (record { reg = i; need = n })) (Some f))
      by true = tt
      by false = tt

  stays_found : (i : ℕ) (o : Option ℕ) (best : Option Found) → Is best → Is (farther keep need i o best)
  stays_found i None best h = h
  stays_found i (Some v) best h = by (has keep v)
    where
      by : (b : Bool) → Is (cond b best (later i (need v) best))
      by true = h
      by false = later_is i (need v) best

  keeps_found : (os : List (Option ℕ)) (i : ℕ) (best : Option Found) → Is best → Is (farthest keep need i os best)
  keeps_found [] i best h = h
  keeps_found (o ∷ os) i best h = keeps_found os (suc i) (farther keep need i o best) (stays_found i o best h)

  finds : (os : List (Option ℕ)) (i : ℕ) (best : Option Found) (r : ℕ) → Candidate keep os r → Is (farthest keep need i os best)
  finds [] i best r c = let e = c.1 in cc
  finds (o ∷ os) i best (suc r) c = finds os (suc i) (farther keep need i o best) r c
  finds (o ∷ os) i best zero c = keeps_found os (suc i) (farther keep need i o best) (subst (λ x. Is (farther keep need i x best)) (sym c.1) (by (has keep c.0) c.2))
    where
      by : (b : Bool) → b ≡ false → Is (cond b best (later i (need c.0) best))
      by true e = cc
      by false e = later_is i (need c.0) best

pub victim_is : (keep : List ℕ) (need : ℕ → Option ℕ) (xs : List (Option ℕ)) → ((r : ℕ) × Candidate keep xs r) → Candidate keep xs (victim keep need xs)
unfolding IsGood Is
victim_is keep need xs m = by (farthest keep need 0 xs None) (good_farthest keep need xs xs 0 None (λ q. let e : 0 + q ≡ q = omega arith in ap (get xs) e) tt) (finds keep need xs xs 0 None m.0 m.1)
  where
    by : (o : Option Found) → IsGood keep need xs o → Is keep need xs o → Candidate keep xs (reg_of o)
    by None g h = absurd h
    by (Some f) g h = g

---- Registers that are noted

abbrev pub AllIn : List ℕ → List ℕ → Type 0
AllIn ys [] = Unit {0}
AllIn ys (x ∷ xs) = (has ys x ≡ true) × AllIn ys xs

-- a register is none of those whose values are kept
pub apart_from : (regs : List (Option ℕ)) (keep : List ℕ) (r : ℕ) → ((u : ℕ) → get regs r ≡ Some u → has keep u ≡ true → ⊥) → (rs us : List ℕ) → map (get regs) rs ≡ map Some us → AllIn keep us → Apart r rs
apart_from regs keep r free [] us e k = tt
apart_from regs keep r free (x ∷ rs) [] e k = cc
apart_from regs keep r free (x ∷ rs) (u ∷ us) e k =
    let here : get regs x ≡ Some u = cc in
    let there : map (get regs) rs ≡ map Some us = cc in
    (test_apart x r (λ q. free u (ap (get regs) (sym q) ∙ here) k.0), apart_from regs keep r free rs us there k.1)

pub all_in_push : (keep us : List ℕ) (u : ℕ) → AllIn keep us → has keep u ≡ true → AllIn keep (us ++ u ∷ [])
all_in_push keep [] u k h = (h, tt)
all_in_push keep (x ∷ us) u k h = (k.0, all_in_push keep us u k.1 h)

pub all_in : (xs ys : List ℕ) → ((u : ℕ) → has xs u ≡ true → has ys u ≡ true) → AllIn ys xs
all_in [] ys h = tt
all_in (x ∷ xs) ys h = (h x (ap (λ b. cond b true (has xs x)) (test_same x)), all_in xs ys (λ u e. h u (or_rest (x == u) (has xs u) e)))
