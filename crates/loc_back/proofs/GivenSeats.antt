-- A call's uses in their registers and homes.
use Rattle.std.proofs.Common.{◌≡◌, ◌≢◌, ℕ, zero, suc, ◌<◌, ◌≤◌, Bool, true, false, cond, List, [], ◌∷◌, map, length, set, Option, Some, None, refl, sym, ap, ◌∙◌, subst, arith, ◌⊎◌, inl, inr, ⊎_elim, length-set}
use Rattle.std.specs.Prelude.{◌==◌}
use Rattle.std.proofs.lemmas.List.{get_or-set_same, get_or_past}
use Rattle.std.proofs.lemmas.Bool.{cases_lt}
use Rattle.block_runs.specs.Live.{has}
use Rattle.lir_core.specs.Spots.{get}
use Rattle.lir_core.specs.Walks.{without}
use Rattle.loc_state.specs.Homed.{inserted}
use Rattle.loc_state.specs.Steps.{saved}
use Rattle.loc_state.proofs.Numbers.{numbers_same, numbers_apart, test_same, test_apart, or_rest, in_row}
use Rattle.loc_back.specs.Steps.{other, all_saved, seated, unseated}
use Rattle.loc_back.proofs.Standing.{has_saved, saves_it, was_saved, was_written, stays_in}

module _ (place : ℕ → Option ℕ) where
  -- a register that is given to no other value keeps its value
  seated_stays : (us : List ℕ) (regs : List (Option ℕ)) (r u : ℕ) → ((w : ℕ) → has us w ≡ true → place w ≡ Some r → w ≡ u) → get regs r ≡ Some u → get (seated us (map place us) regs) r ≡ Some u
  seated_stays [] regs r u only e = e
  seated_stays (w ∷ us) regs r u only e = at_place (place w) refl (λ q. seated_stays us regs r u rest q) (λ s q. seated_stays us (set regs s (Some w)) r u rest q)
    where
      rest : (v : ℕ) → has us v ≡ true → place v ≡ Some r → v ≡ u
      rest v h = only v (or_rest (w == v) (has us v) h)

      written : (s : ℕ) → place w ≡ Some s → (b : Bool) → (r == s) ≡ b → get (set regs s (Some w)) r ≡ Some u
      written s q true t =
          let same = numbers_same r s t in
          let it : w ≡ u = only w (ap (λ c. cond c true (has us w)) (test_same w)) (q ∙ ap Some (sym same)) in
          let l = in_row regs r u e in
          ap (get (set regs s (Some w))) same ∙ get_or-set_same regs s (Some w) None (subst (λ y. y < length regs) same l) ∙ ap Some it
      written s q false t = at_length (cases_lt s (length regs))
        where
          at_length : ◌⊎◌ (s < length regs) (length regs ≤ s) → get (set regs s (Some w)) r ≡ Some u
          at_length (inl l) = stays_in regs s r u (Some w) l (numbers_apart r s t) e
          at_length (inr l) = Rattle.std.proofs.lemmas.List.get_or-set_other regs s r (Some w) None (numbers_apart r s t) ∙ e

      at_place : (o : Option ℕ) → place w ≡ o → (get regs r ≡ Some u → get (seated us (map place us) regs) r ≡ Some u) → ((s : ℕ) → get (set regs s (Some w)) r ≡ Some u → get (seated us (map place us) (set regs s (Some w))) r ≡ Some u) → get (seated (w ∷ us) (o ∷ map place us) regs) r ≡ Some u
      at_place None q on off = on e
      at_place (Some s) q on off = off s (written s q (r == s) refl)

  -- what a register has was given it, or was there
  pub seated_was : (us : List ℕ) (regs : List (Option ℕ)) (r v : ℕ) → get (seated us (map place us) regs) r ≡ Some v → ((has us v ≡ true) × (place v ≡ Some r)) ⊎ (get regs r ≡ Some v)
  seated_was [] regs r v e = inr e
  seated_was (w ∷ us) regs r v e = at_place (place w) refl (seated_was us regs r v) (λ s. seated_was us (set regs s (Some w)) r v) e
    where
      more : ◌⊎◌ ((has us v ≡ true) × (place v ≡ Some r)) (get regs r ≡ Some v) → ((has (w ∷ us) v ≡ true) × (place v ≡ Some r)) ⊎ (get regs r ≡ Some v)
      more (inl m) = inl (or_rest (w == v) (has us v) m.0, m.1)
      more (inr q) = inr q

      back : (s : ℕ) → place w ≡ Some s → get (set regs s (Some w)) r ≡ Some v → ((has (w ∷ us) v ≡ true) × (place v ≡ Some r)) ⊎ (get regs r ≡ Some v)
      back s q g = at_length (cases_lt s (length regs))
        where
          here : ◌⊎◌ ((r ≡ s) × (w ≡ v)) ((r ≢ s) × (get regs r ≡ Some v)) → ((has (w ∷ us) v ≡ true) × (place v ≡ Some r)) ⊎ (get regs r ≡ Some v)
          here (inl m) = inl (ap (λ c. cond c true (has us v)) (ap (λ y. y == v) m.1 ∙ test_same v), ap place (sym m.1) ∙ q ∙ ap Some (sym m.0))
          here (inr m) = inr m.1

          at_test : length regs ≤ s → (b : Bool) → (r == s) ≡ b → ((has (w ∷ us) v ≡ true) × (place v ≡ Some r)) ⊎ (get regs r ≡ Some v)
          at_test l true t = let k = length-set regs s (Some w) in let n = in_row (set regs s (Some w)) r v g in let z = numbers_same r s t in absurd (omega (arith, k, n, l, z))
          at_test l false t = inr (sym (Rattle.std.proofs.lemmas.List.get_or-set_other regs s r (Some w) None (numbers_apart r s t)) ∙ g)

          at_length : ◌⊎◌ (s < length regs) (length regs ≤ s) → ((has (w ∷ us) v ≡ true) × (place v ≡ Some r)) ⊎ (get regs r ≡ Some v)
          at_length (inl l) = here (was_written regs s w r v l g)
          at_length (inr l) = at_test l (r == s) refl

      at_place : (o : Option ℕ) → place w ≡ o → (get (seated us (map place us) regs) r ≡ Some v → ((has us v ≡ true) × (place v ≡ Some r)) ⊎ (get regs r ≡ Some v)) → ((s : ℕ) → get (seated us (map place us) (set regs s (Some w))) r ≡ Some v → ((has us v ≡ true) × (place v ≡ Some r)) ⊎ (get (set regs s (Some w)) r ≡ Some v)) → get (seated (w ∷ us) (o ∷ map place us) regs) r ≡ Some v → ((has (w ∷ us) v ≡ true) × (place v ≡ Some r)) ⊎ (get regs r ≡ Some v)
      at_place None q on off g = more (on g)
      at_place (Some s) q on off g = ⊎_elim (λ m. more (inl m)) (back s q) (off s g)

  -- each use is in its register
  pub seated_there : (us : List ℕ) (regs : List (Option ℕ)) → ((u w r : ℕ) → place u ≡ Some r → place w ≡ Some r → u ≡ w) → (u r : ℕ) → has us u ≡ true → place u ≡ Some r → r < length regs → get (seated us (map place us) regs) r ≡ Some u
  seated_there [] regs apart u r h e l = cc
  seated_there (w ∷ us) regs apart u r h e l = at_place (place w) refl (w == u) refl h (λ k. seated_there us regs apart u r k e l) (λ s k. seated_there us (set regs s (Some w)) apart u r k e (let z = length-set regs s (Some w) in omega (arith, z, l)))
    where
      at_head : (s : ℕ) → place w ≡ Some s → w ≡ u → get (seated us (map place us) (set regs s (Some w))) r ≡ Some u
      at_head s q same =
          let z : s ≡ r = (let y : Some s ≡ Some r = sym q ∙ ap place same ∙ e in cc) in
          seated_stays us (set regs s (Some w)) r u (λ v k f. apart v u r f e) (ap (get (set regs s (Some w))) (sym z) ∙ get_or-set_same regs s (Some w) None (subst (λ y. y < length regs) (sym z) l) ∙ ap Some same)

      at_place : (o : Option ℕ) → place w ≡ o → (b : Bool) → (w == u) ≡ b → cond b true (has us u) ≡ true → (has us u ≡ true → get (seated us (map place us) regs) r ≡ Some u) → ((s : ℕ) → has us u ≡ true → get (seated us (map place us) (set regs s (Some w))) r ≡ Some u) → get (seated (w ∷ us) (o ∷ map place us) regs) r ≡ Some u
      at_place None q true t h on off = let z : None ≡ Some r = sym q ∙ ap place (numbers_same w u t) ∙ e in cc
      at_place None q false t h on off = on h
      at_place (Some s) q true t h on off = at_head s q (numbers_same w u t)
      at_place (Some s) q false t h on off = off s h

  ---- Homes

  pub unseated_grows : (us : List ℕ) (homed : List ℕ) (v : ℕ) → has homed v ≡ true → has (unseated us (map place us) homed) v ≡ true
  unseated_grows [] homed v h = h
  unseated_grows (w ∷ us) homed v h = at_place (place w) (unseated_grows us homed v h) (unseated_grows us (inserted w homed) v (has_saved (Some w) homed v h))
    where
      at_place : (o : Option ℕ) → has (unseated us (map place us) homed) v ≡ true → has (unseated us (map place us) (inserted w homed)) v ≡ true → has (unseated (w ∷ us) (o ∷ map place us) homed) v ≡ true
      at_place None on off = off
      at_place (Some s) on off = on

  pub unseated_there : (us : List ℕ) (homed : List ℕ) (u : ℕ) → has us u ≡ true → place u ≡ None → has (unseated us (map place us) homed) u ≡ true
  unseated_there [] homed u h e = cc
  unseated_there (w ∷ us) homed u h e = at_place (place w) refl (w == u) refl h (λ k. unseated_there us homed u k e) (λ k. unseated_there us (inserted w homed) u k e) (λ q. unseated_grows us (inserted w homed) u (ap (has (inserted w homed)) (sym q) ∙ saves_it w homed))
    where
      at_place : (o : Option ℕ) → place w ≡ o → (b : Bool) → (w == u) ≡ b → cond b true (has us u) ≡ true → (has us u ≡ true → has (unseated us (map place us) homed) u ≡ true) → (has us u ≡ true → has (unseated us (map place us) (inserted w homed)) u ≡ true) → (w ≡ u → has (unseated us (map place us) (inserted w homed)) u ≡ true) → has (unseated (w ∷ us) (o ∷ map place us) homed) u ≡ true
      at_place None q true t h on off same = same (numbers_same w u t)
      at_place None q false t h on off same = off h
      at_place (Some s) q true t h on off same = let z : Some s ≡ None = sym q ∙ ap place (numbers_same w u t) ∙ e in cc
      at_place (Some s) q false t h on off same = on h

  pub unseated_was : (us : List ℕ) (homed : List ℕ) (v : ℕ) → has (unseated us (map place us) homed) v ≡ true → (has homed v ≡ true) ⊎ (has us v ≡ true)
  unseated_was [] homed v h = inl h
  unseated_was (w ∷ us) homed v h = at_place (place w) (unseated_was us homed v) (unseated_was us (inserted w homed) v) h
    where
      it : Some w ≡ Some v → has (w ∷ us) v ≡ true
      it q = let z : w ≡ v = cc in ap (λ c. cond c true (has us v)) (ap (λ y. y == v) z ∙ test_same v)

      at_place : (o : Option ℕ) → (has (unseated us (map place us) homed) v ≡ true → (has homed v ≡ true) ⊎ (has us v ≡ true)) → (has (unseated us (map place us) (inserted w homed)) v ≡ true → (has (inserted w homed) v ≡ true) ⊎ (has us v ≡ true)) → has (unseated (w ∷ us) (o ∷ map place us) homed) v ≡ true → (has homed v ≡ true) ⊎ (has (w ∷ us) v ≡ true)
      at_place None on off g = ⊎_elim (λ k. ⊎_elim (λ q. inr (it q)) inl (was_saved (Some w) homed v k)) (λ k. inr (or_rest (w == v) (has us v) k)) (off g)
      at_place (Some s) on off g = ⊎_elim inl (λ k. inr (or_rest (w == v) (has us v) k)) (on g)

---- All registers are saved

pub all_saved_grows : (def : Option ℕ) (os : List (Option ℕ)) (homed : List ℕ) (v : ℕ) → has homed v ≡ true → has (all_saved def os homed) v ≡ true
all_saved_grows def [] homed v h = h
all_saved_grows def (o ∷ os) homed v h = all_saved_grows def os (saved (other def o) homed) v (has_saved (other def o) homed v h)

pub all_saved_there : (def : Option ℕ) (os : List (Option ℕ)) (homed : List ℕ) (r v : ℕ) → other def (get os r) ≡ Some v → has (all_saved def os homed) v ≡ true
all_saved_there None [] homed r v e = cc
all_saved_there (Some d) [] homed r v e = cc
all_saved_there def (o ∷ os) homed zero v e = all_saved_grows def os (saved (other def o) homed) v (subst (λ c. has (saved c homed) v ≡ true) (sym e) (saves_it v homed))
all_saved_there def (o ∷ os) homed (suc r) v e = all_saved_there def os (saved (other def o) homed) r v e

pub all_saved_was : (def : Option ℕ) (os : List (Option ℕ)) (homed : List ℕ) (v : ℕ) → has (all_saved def os homed) v ≡ true → (has homed v ≡ true) ⊎ ((r : ℕ) × (other def (get os r) ≡ Some v))
all_saved_was def [] homed v h = inl h
all_saved_was def (o ∷ os) homed v h = ⊎_elim (λ k. ⊎_elim (λ q. inr (0, q)) inl (was_saved (other def o) homed v k)) (λ m. inr (suc m.0, m.1)) (all_saved_was def os (saved (other def o) homed) v h)

-- a value other than the definition is a register's
pub other_is : (def o : Option ℕ) (v : ℕ) → other def o ≡ Some v → (o ≡ Some v) × (def ≢ Some v)
other_is None o v e = (e, λ q. cc)
other_is (Some d) None v e = cc
other_is (Some d) (Some w) v e = by (w == d) refl e
  where
    by : (b : Bool) → (w == d) ≡ b → cond b None (Some w) ≡ Some v → (Some w ≡ Some v) × (Some d ≢ Some v)
    by true q e = cc
    by false q e = (e, λ y. numbers_apart w d q (let a : w ≡ v = cc in let z : d ≡ v = cc in a ∙ sym z))

pub is_other : (def o : Option ℕ) (v : ℕ) → o ≡ Some v → def ≢ Some v → other def o ≡ Some v
is_other None o v e ne = e
is_other (Some d) o v e ne = ap (without d) e ∙ ap (λ b. cond b None (Some v)) (test_apart v d (λ q. ne (ap Some (sym q))))
