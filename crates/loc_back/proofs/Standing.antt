-- Rows of registers that stand, registers noted, and values that join the homed ones.
use Rattle.std.proofs.Common.{◌≡◌, ◌≢◌, ℕ, ◌<◌, Bool, true, false, cond, List, [], ◌∷◌, ◌++◌, map, length, set, Option, Some, None, refl, sym, ap, ap₂, ◌∙◌, subst, ◌⊎◌, inl, inr, ⊎_elim, length-set}
use Rattle.std.specs.Prelude.{◌==◌}
use Rattle.std.proofs.lemmas.List.{map-append}
use Rattle.block_runs.specs.Live.{has}
use Rattle.lir_core.specs.Spots.{get, in_register, IsSingle}
use Rattle.loc_state.specs.Steps.{saved}
use Rattle.loc_state.specs.Walked.{Apart}
use Rattle.loc_state.proofs.Homing.{has_inserted}
use Rattle.loc_state.proofs.Numbers.{numbers_same, numbers_apart, test_same, test_apart, or_rest, get_set, map_same, in_register_at}
use Rattle.loc_back.specs.Served.{Route, MayBeHomed, IsStanding, Extends}

---- Homes

pub has_saved : (o : Option ℕ) (homed : List ℕ) (v : ℕ) → has homed v ≡ true → has (saved o homed) v ≡ true
has_saved None homed v h = h
has_saved (Some w) homed v h = has_inserted w homed v ∙ or_rest (w == v) (has homed v) h

pub saves_it : (w : ℕ) (homed : List ℕ) → has (saved (Some w) homed) w ≡ true
saves_it w homed = has_inserted w homed w ∙ ap (λ b. cond b true (has homed w)) (test_same w)

pub was_saved : (o : Option ℕ) (homed : List ℕ) (v : ℕ) → has (saved o homed) v ≡ true → (o ≡ Some v) ⊎ (has homed v ≡ true)
was_saved None homed v h = inr h
was_saved (Some w) homed v h = by (w == v) refl (sym (has_inserted w homed v) ∙ h)
  where
    by : (b : Bool) → (w == v) ≡ b → cond b true (has homed v) ≡ true → (Some w ≡ Some v) ⊎ (has homed v ≡ true)
    by true e h = inl (ap Some (numbers_same w v e))
    by false e h = inr h

-- another value is homed as it was
pub saved_other : (o : Option ℕ) (homed : List ℕ) (d : ℕ) → o ≢ Some d → has (saved o homed) d ≡ has homed d
saved_other None homed d ne = refl
saved_other (Some w) homed d ne = has_inserted w homed d ∙ ap (λ b. cond b true (has homed d)) (test_apart w d (λ q. ne (ap Some q)))

pub free_saved : (made homed : List ℕ) (o : Option ℕ) (v : ℕ) → MayBeHomed made homed v → MayBeHomed made (saved o homed) v
free_saved made homed o v f h = has_saved o homed v (f h)

-- what extends more homes extends fewer, where those that joined may be homed
pub extends_less : (made homed more : List ℕ) (marks : ℕ → Bool) → ((v : ℕ) → has homed v ≡ true → has more v ≡ true) → ((v : ℕ) → has more v ≡ true → MayBeHomed made homed v) → Extends made more marks → Extends made homed marks
extends_less made homed more marks up free e = record { grown = λ v h. e.grown v (up v h); frozen = λ v m k. free v (e.frozen v m k) m }

pub extends_saved : (made homed : List ℕ) (o : Option ℕ) (marks : ℕ → Bool) → ((w : ℕ) → o ≡ Some w → MayBeHomed made homed w) → Extends made (saved o homed) marks → Extends made homed marks
extends_saved made homed o marks free e = extends_less made homed (saved o homed) marks (has_saved o homed) (λ v h. ⊎_elim (λ q. free v q) (λ q m. q) (was_saved o homed v h)) e

pub extends_made : (made more homed : List ℕ) (marks : ℕ → Bool) → ((v : ℕ) → has made v ≡ true → has more v ≡ true) → Extends more homed marks → Extends made homed marks
extends_made made more homed marks up e = record { grown = e.grown; frozen = λ v m k. e.frozen v (up v m) k }

-- a value that is made already is marked where it is homed
pub same_mark : (made homed : List ℕ) (marks : ℕ → Bool) → Extends made homed marks → (d : ℕ) → has made d ≡ true → has homed d ≡ marks d
same_mark made homed marks e d m = by (has homed d) refl (marks d) refl
  where
    by : (b : Bool) → has homed d ≡ b → (c : Bool) → marks d ≡ c → b ≡ c
    by true h true k = refl
    by true h false k = sym (e.grown d h) ∙ k
    by false h true k = sym h ∙ e.frozen d m k
    by false h false k = refl

---- Rows

-- a register that is emptied leaves the others
pub was_back : (xs : List (Option ℕ)) (r p w : ℕ) → r < length xs → get (set xs r None) p ≡ Some w → (p ≢ r) × (get xs p ≡ Some w)
was_back xs r p w l e = by (p == r) refl (sym (get_set xs r p None l) ∙ e)
  where
    by : (b : Bool) → (p == r) ≡ b → cond b None (get xs p) ≡ Some w → (p ≢ r) × (get xs p ≡ Some w)
    by true q e = cc
    by false q e = (numbers_apart p r q, e)

pub stays_in : (xs : List (Option ℕ)) (r p w : ℕ) (o : Option ℕ) → r < length xs → p ≢ r → get xs p ≡ Some w → get (set xs r o) p ≡ Some w
stays_in xs r p w o l ne e = get_set xs r p o l ∙ ap (λ b. cond b o (get xs p)) (test_apart p r ne) ∙ e

pub standing_emptied : (x : Route) (homed : List ℕ) (regs : List (Option ℕ)) (r : ℕ) (o : Option ℕ) → r < length regs → IsStanding x homed regs → IsStanding x (saved o homed) (set regs r None)
standing_emptied x homed regs r o l s = record {
  size = length-set regs r None ∙ s.size;
  single = λ p q v a b. s.single p q v (was_back regs r p v l a).1 (was_back regs r q v l b).1;
  values = λ p v a. s.values p v (was_back regs r p v l a).1;
  free = λ p v a. free_saved x.made homed o v (s.free p v (was_back regs r p v l a).1);
}

-- what a written register has was written, or was there
pub was_written : (xs : List (Option ℕ)) (r u p w : ℕ) → r < length xs → get (set xs r (Some u)) p ≡ Some w → ((p ≡ r) × (u ≡ w)) ⊎ ((p ≢ r) × (get xs p ≡ Some w))
was_written xs r u p w l e = by (p == r) refl (sym (get_set xs r p (Some u) l) ∙ e)
  where
    by : (b : Bool) → (p == r) ≡ b → cond b (Some u) (get xs p) ≡ Some w → ((p ≡ r) × (u ≡ w)) ⊎ ((p ≢ r) × (get xs p ≡ Some w))
    by true q e = inl (numbers_same p r q, cc)
    by false q e = inr (numbers_apart p r q, e)

pub single_written : (regs : List (Option ℕ)) (r u : ℕ) → r < length regs → in_register regs u ≡ false → IsSingle regs → IsSingle (set regs r (Some u))
single_written regs r u l absent single p q v a b = by (was_written regs r u p v l a) (was_written regs r u q v l b)
  where
    gone : (s w : ℕ) → get regs s ≡ Some w → u ≡ w → ⊥
    gone s w e same = let z : true ≡ false = sym (in_register_at regs s u (e ∙ ap Some (sym same))) ∙ absent in cc

    by : ◌⊎◌ ((p ≡ r) × (u ≡ v)) ((p ≢ r) × (get regs p ≡ Some v)) → ◌⊎◌ ((q ≡ r) × (u ≡ v)) ((q ≢ r) × (get regs q ≡ Some v)) → p ≡ q
    by (inl m) (inl n) = m.0 ∙ sym n.0
    by (inl m) (inr n) = absurd (gone q v n.1 m.1)
    by (inr m) (inl n) = absurd (gone p v m.1 n.1)
    by (inr m) (inr n) = single p q v m.1 n.1

pub standing_filled : (x : Route) (homed : List ℕ) (regs : List (Option ℕ)) (r u : ℕ) → r < length regs → in_register regs u ≡ false → u < x.room.values → MayBeHomed x.made homed u → IsStanding x homed regs → IsStanding x homed (set regs r (Some u))
standing_filled x homed regs r u l absent value free s = record {
  size = length-set regs r (Some u) ∙ s.size;
  single = single_written regs r u l absent s.single;
  values = λ p v a. ⊎_elim (λ m. subst (λ y. y < x.room.values) m.1 value) (λ m. s.values p v m.1) (was_written regs r u p v l a);
  free = λ p v a. ⊎_elim (λ m. subst (MayBeHomed x.made homed) m.1 free) (λ m. s.free p v m.1) (was_written regs r u p v l a);
}

---- Registers noted

-- a register without one of the values noted isn't noted
pub not_noted : (regs : List (Option ℕ)) (r : ℕ) → get regs r ≡ None → (rs us : List ℕ) → map (get regs) rs ≡ map Some us → Apart r rs
not_noted regs r free [] us e = tt
not_noted regs r free (p ∷ rs) [] e = cc
not_noted regs r free (p ∷ rs) (u ∷ us) e =
    let here : get regs p ≡ Some u = cc in
    let there : map (get regs) rs ≡ map Some us = cc in
    (test_apart p r (λ q. let z : None ≡ Some u = sym free ∙ ap (get regs) (sym q) ∙ here in cc), not_noted regs r free rs us there)

pub apart_has : (r : ℕ) (rs : List ℕ) → Apart r rs → has rs r ≡ true → ⊥
apart_has r [] a h = cc
apart_has r (p ∷ rs) a h = by (p == r) a.0 h (apart_has r rs a.1)
  where
    by : (b : Bool) → b ≡ false → cond b true (has rs r) ≡ true → (has rs r ≡ true → ⊥) → ⊥
    by true e h on = cc
    by false e h on = on h

-- the value of a register noted is noted
pub noted_value : (regs : List (Option ℕ)) (rs us : List ℕ) (r v : ℕ) → map (get regs) rs ≡ map Some us → has rs r ≡ true → get regs r ≡ Some v → has us v ≡ true
noted_value regs [] us r v e h g = cc
noted_value regs (p ∷ rs) [] r v e h g = cc
noted_value regs (p ∷ rs) (u ∷ us) r v e h g = by (p == r) refl h (λ k. noted_value regs rs us r v there k g)
  where
    here : get regs p ≡ Some u
    here = cc

    there : map (get regs) rs ≡ map Some us
    there = cc

    by : (b : Bool) → (p == r) ≡ b → cond b true (has rs r) ≡ true → (has rs r ≡ true → has us v ≡ true) → cond (u == v) true (has us v) ≡ true
    by true q h on = let same : u ≡ v = (let z : Some u ≡ Some v = sym here ∙ ap (get regs) (numbers_same p r q) ∙ g in cc) in ap (λ c. cond c true (has us v)) (ap (λ y. y == v) same ∙ test_same v)
    by false q h on = or_rest (u == v) (has us v) (on h)

pub has_push : (rs : List ℕ) (r p : ℕ) → has rs p ≡ true → has (rs ++ r ∷ []) p ≡ true
has_push [] r p h = cc
has_push (q ∷ rs) r p h = by (q == p) h (has_push rs r p)
  where
    by : (b : Bool) → cond b true (has rs p) ≡ true → (has rs p ≡ true → has (rs ++ r ∷ []) p ≡ true) → cond b true (has (rs ++ r ∷ []) p) ≡ true
    by true h on = refl
    by false h on = on h

pub has_pushed : (rs : List ℕ) (r : ℕ) → has (rs ++ r ∷ []) r ≡ true
has_pushed [] r = ap (λ b. cond b true false) (test_same r)
has_pushed (q ∷ rs) r = or_rest (q == r) (has (rs ++ r ∷ []) r) (has_pushed rs r)

pub used_push : (regs : List (Option ℕ)) (rs us : List ℕ) (r u : ℕ) → map (get regs) rs ≡ map Some us → get regs r ≡ Some u → map (get regs) (rs ++ r ∷ []) ≡ map Some (us ++ u ∷ [])
used_push regs rs us r u h e = map-append (get regs) rs (r ∷ []) ∙ ap₂ (λ x y. x ++ y ∷ []) h e ∙ sym (map-append Some us (u ∷ []))

-- registers noted keep their values where another register is written
pub used_written : (regs : List (Option ℕ)) (rs us : List ℕ) (r : ℕ) (o : Option ℕ) → r < length regs → Apart r rs → map (get regs) rs ≡ map Some us → map (get (set regs r o)) rs ≡ map Some us
used_written regs rs us r o l a h = map_same (get (set regs r o)) (get regs) r (λ p q. get_set regs r p o l ∙ ap (λ b. cond b o (get regs p)) q) rs a ∙ h
