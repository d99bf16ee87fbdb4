-- What each step leaves safe: what is live has a place, no value two registers, homes rise, and only what is known has a place.
use Rattle.std.proofs.Common.{◌≡◌, ◌≢◌, ℕ, zero, suc, ◌<◌, Bool, true, false, not, cond, List, [], ◌∷◌, map, length, set, Option, Some, None, refl, sym, ap, ◌∙◌, ◌⊎◌, inl, inr, ⊎_elim}
use Rattle.std.specs.Prelude.{◌==◌}
use Rattle.block_runs.specs.Live.{has}
use Rattle.lir_core.specs.declared.places.Places.{Places}
use Rattle.lir_core.specs.Spots.{get, in_register, placed, IsSingle, IsRising}
use Rattle.lir_core.specs.Walks.{without}
use Rattle.loc_state.specs.Registers.{register_of}
use Rattle.loc_state.specs.Homed.{inserted, others}
use Rattle.loc_state.specs.Steps.{saved}
use Rattle.loc_state.proofs.Homing.{has_inserted, has_others, inserted_rises, filter_rises}
use Rattle.loc_state.proofs.Numbers.{numbers_same, numbers_apart, test_same, test_apart, or_rest, get_set, get_without, register_at, in_register_at, either, in_reg, in_home}
use Rattle.linear_scan.proofs.Candidates.{in_register_set, was_there, was_back, others_has}

pub same_or_not : (u v : ℕ) → (u ≡ v) ⊎ (u ≢ v)
same_or_not u v = at_test (u == v) refl
  where
    at_test : (b : Bool) → (u == v) ≡ b → (u ≡ v) ⊎ (u ≢ v)
    at_test true e = inl (numbers_same u v e)
    at_test false e = inr (numbers_apart u v e)

pub in_or_not : (v : ℕ) (o : Option ℕ) → (o ≡ Some v) ⊎ (o ≢ Some v)
in_or_not v None = inr (λ e. cc)
in_or_not v (Some u) = ⊎_elim (λ e. inl (ap Some e)) (λ ne. inr (λ e. ne (let f : u ≡ v = cc in f))) (same_or_not u v)

has_saved : (o : Option ℕ) (homed : List ℕ) (w : ℕ) → has homed w ≡ true → has (saved o homed) w ≡ true
has_saved None homed w h = h
has_saved (Some v) homed w h = has_inserted v homed w ∙ or_rest (v == w) (has homed w) h

saves_it : (o : Option ℕ) (homed : List ℕ) (w : ℕ) → o ≡ Some w → has (saved o homed) w ≡ true
saves_it None homed w e = cc
saves_it (Some v) homed w e = let q : v ≡ w = cc in has_inserted v homed w ∙ ap (λ b. cond b true (has homed w)) (ap (λ x. x == w) q ∙ test_same w)

was_saved : (o : Option ℕ) (homed : List ℕ) (w : ℕ) → has (saved o homed) w ≡ true → (has homed w ≡ true) ⊎ (o ≡ Some w)
was_saved None homed w h = inl h
was_saved (Some v) homed w h = by (v == w) refl (sym (has_inserted v homed w) ∙ h)
  where
    by : (b : Bool) → (v == w) ≡ b → cond b true (has homed w) ≡ true → (has homed w ≡ true) ⊎ (Some v ≡ Some w)
    by true e g = inr (ap Some (numbers_same v w e))
    by false e g = inl g

saved_rises : (o : Option ℕ) (homed : List ℕ) → IsRising homed → IsRising (saved o homed)
saved_rises None homed h = h
saved_rises (Some v) homed h = inserted_rises v homed h

pub get_map_without : (xs : List (Option ℕ)) (v q : ℕ) → get (map (without v) xs) q ≡ without v (get xs q)
get_map_without [] v q = refl
get_map_without (x ∷ xs) v zero = refl
get_map_without (x ∷ xs) v (suc q) = get_map_without xs v q

without_other : (v w : ℕ) (o : Option ℕ) → o ≡ Some w → w ≢ v → without v o ≡ Some w
without_other v w o e ne = ap (without v) e ∙ ap (λ b. cond b None (Some w)) (test_apart w v ne)

pub record Safe (live : ℕ → Bool) (Known : ℕ → Type 0) (q : Places) : Type 0 where
  pub covers : (v : ℕ) → live v ≡ true → placed q v ≡ true
  pub single : IsSingle q.regs
  pub rising : IsRising q.homed
  pub known : (v : ℕ) → placed q v ≡ true → Known v

module _ (live : ℕ → Bool) (Known : ℕ → Type 0) (q : Places) (s : Safe live Known q) where
  pub single_written : (r v : ℕ) → r < length q.regs → in_register q.regs v ≡ false → IsSingle (set q.regs r (Some v))
  single_written r v l f p t w e g = at_tests (p == r) refl (t == r) refl (sym (get_set q.regs r p (Some v) l) ∙ e) (sym (get_set q.regs r t (Some v) l) ∙ g)
    where
      twice : (x : ℕ) → v ≡ w → get q.regs x ≡ Some w → p ≡ t
      twice x a b = let m = in_register_at q.regs x v (b ∙ ap Some (sym a)) in let z : true ≡ false = sym m ∙ f in cc

      at_tests : (b : Bool) → (p == r) ≡ b → (c : Bool) → (t == r) ≡ c → cond b (Some v) (get q.regs p) ≡ Some w → cond c (Some v) (get q.regs t) ≡ Some w → p ≡ t
      at_tests true x true y e g = numbers_same p r x ∙ sym (numbers_same t r y)
      at_tests true x false y e g = twice t (let a : v ≡ w = cc in a) g
      at_tests false x true y e g = twice p (let a : v ≡ w = cc in a) e
      at_tests false x false y e g = s.single p t w e g

  pub safe_loaded : (r v : ℕ) → r < length q.regs → get q.regs r ≡ None → has q.homed v ≡ true → in_register q.regs v ≡ false → Safe live Known (record { regs = set q.regs r (Some v); homed = q.homed })
  safe_loaded r v l e h f = record {
    covers = λ w a. ⊎_elim (λ t. in_reg now w (in_register_set q.regs r w (Some v) l (λ m. cc) t)) (λ t. in_home now w t) (either q w (s.covers w a));
    single = single_written r v l f;
    rising = s.rising;
    known = λ w a. ⊎_elim (λ m. s.known w (in_home q w (ap (has q.homed) m ∙ h))) (λ ne. ⊎_elim (λ t. s.known w (in_reg q w (was_there q.regs r v w l t ne))) (λ t. s.known w (in_home q w t)) (either now w a)) (same_or_not w v);
  }
    where
      now : Places
      now = record { regs = set q.regs r (Some v); homed = q.homed }

  pub absent : (v : ℕ) → placed q v ≡ false → in_register q.regs v ≡ false
  absent v e = by (in_register q.regs v) refl
    where
      by : (b : Bool) → in_register q.regs v ≡ b → b ≡ false
      by false t = refl
      by true t = sym (in_reg q v t) ∙ e

  -- a value that has no place takes a register
  pub safe_defined : (next : ℕ → Bool) (Next : ℕ → Type 0) (r v : ℕ) → r < length q.regs → get q.regs r ≡ None → placed q v ≡ false → ((w : ℕ) → next w ≡ true → (w ≡ v) ⊎ (live w ≡ true)) → ((w : ℕ) → (w ≡ v) ⊎ Known w → Next w) → Safe next Next (record { regs = set q.regs r (Some v); homed = q.homed })
  safe_defined next Next r v l e new on knows = record {
    covers = λ w a. ⊎_elim (λ m. in_reg now w (in_register_at now.regs r w (get_set q.regs r r (Some v) l ∙ ap (λ b. cond b (Some v) (get q.regs r)) (test_same r) ∙ ap Some (sym m)))) (λ t. ⊎_elim (λ t. in_reg now w (in_register_set q.regs r w (Some v) l (λ m. cc) t)) (λ t. in_home now w t) (either q w (s.covers w t))) (on w a);
    single = single_written r v l (absent v new);
    rising = s.rising;
    known = λ w a. ⊎_elim (λ m. knows w (inl m)) (λ ne. knows w (inr (⊎_elim (λ t. s.known w (in_reg q w (was_there q.regs r v w l t ne))) (λ t. s.known w (in_home q w t)) (either now w a)))) (same_or_not w v);
  }
    where
      now : Places
      now = record { regs = set q.regs r (Some v); homed = q.homed }

  -- or is homed
  pub safe_homed : (next : ℕ → Bool) (Next : ℕ → Type 0) (v : ℕ) → ((w : ℕ) → next w ≡ true → (w ≡ v) ⊎ (live w ≡ true)) → ((w : ℕ) → (w ≡ v) ⊎ Known w → Next w) → Safe next Next (record { regs = q.regs; homed = inserted v q.homed })
  safe_homed next Next v on knows = record {
    covers = λ w a. ⊎_elim (λ m. in_home now w (saves_it (Some v) q.homed w (ap Some (sym m)))) (λ t. ⊎_elim (λ t. in_reg now w t) (λ t. in_home now w (has_saved (Some v) q.homed w t)) (either q w (s.covers w t))) (on w a);
    single = s.single;
    rising = inserted_rises v q.homed s.rising;
    known = λ w a. ⊎_elim (λ t. knows w (inr (s.known w (in_reg q w t)))) (λ t. ⊎_elim (λ h. knows w (inr (s.known w (in_home q w h)))) (λ m. knows w (inl (let f : v ≡ w = cc in sym f))) (was_saved (Some v) q.homed w t)) (either now w a);
  }
    where
      now : Places
      now = record { regs = q.regs; homed = inserted v q.homed }

  pub safe_evicted : (r : ℕ) → r < length q.regs → Safe live Known (record { regs = set q.regs r None; homed = saved (get q.regs r) q.homed })
  safe_evicted r l = record {
    covers = λ w a. ⊎_elim (λ t. ⊎_elim (λ m. in_home now w (saves_it (get q.regs r) q.homed w m)) (λ ne. in_reg now w (in_register_set q.regs r w None l ne t)) (in_or_not w (get q.regs r))) (λ t. in_home now w (has_saved (get q.regs r) q.homed w t)) (either q w (s.covers w a));
    single = λ p t w e g. s.single p t w (was_back q.regs r p w l e) (was_back q.regs r t w l g);
    rising = saved_rises (get q.regs r) q.homed s.rising;
    known = λ w a. ⊎_elim (λ t. s.known w (in_reg q w (in_register_at q.regs (register_of w now.regs) w (was_back q.regs r (register_of w now.regs) w l (register_at now.regs w t))))) (λ t. ⊎_elim (λ h. s.known w (in_home q w h)) (λ m. s.known w (in_reg q w (in_register_at q.regs r w m))) (was_saved (get q.regs r) q.homed w t)) (either now w a);
  }
    where
      now : Places
      now = record { regs = set q.regs r None; homed = saved (get q.regs r) q.homed }

  pub safe_dropped : (v : ℕ) → live v ≡ false → Safe live (λ w. Known w × (w ≢ v)) (record { regs = map (without v) q.regs; homed = others v q.homed })
  safe_dropped v dead = record {
    covers = λ w a. let ne : w ≢ v = λ m. (let z : true ≡ false = sym a ∙ ap live m ∙ dead in cc) in ⊎_elim (λ t. in_reg now w (in_register_at now.regs (register_of w q.regs) w (get_map_without q.regs v (register_of w q.regs) ∙ without_other v w _ (register_at q.regs w t) ne))) (λ t. in_home now w (others_has q.homed v w t ne)) (either q w (s.covers w a));
    single = λ p t w e g. s.single p t w (get_without q.regs v p w e) (get_without q.regs v t w g);
    rising = filter_rises (λ x. not (x == v)) q.homed s.rising;
    known = λ w a. (⊎_elim (λ t. s.known w (in_reg q w (in_register_at q.regs (register_of w now.regs) w (get_without q.regs v (register_of w now.regs) w (register_at now.regs w t))))) (λ t. s.known w (in_home q w (has_others q.homed v w t))) (either now w a), not_it w a);
  }
    where
      now : Places
      now = record { regs = map (without v) q.regs; homed = others v q.homed }

      gone_reg : (o : Option ℕ) → without v o ≡ Some v → ⊥
      gone_reg None e = cc
      gone_reg (Some u) e = at_test (u == v) refl e
        where
          at_test : (b : Bool) → (u == v) ≡ b → cond b None (Some u) ≡ Some v → ⊥
          at_test true t e = cc
          at_test false t e = numbers_apart u v t (let f : u ≡ v = cc in f)

      gone_home : (xs : List ℕ) → has (others v xs) v ≡ true → ⊥
      gone_home [] e = cc
      gone_home (x ∷ xs) e = at_test (x == v) refl (gone_home xs) e
        where
          at_test : (b : Bool) → (x == v) ≡ b → (has (others v xs) v ≡ true → ⊥) → has (cond (not b) (x ∷ others v xs) (others v xs)) v ≡ true → ⊥
          at_test true t on e = on e
          at_test false t on e = on (sym (ap (λ b. cond b true (has (others v xs) v)) t) ∙ e)

      not_it : (w : ℕ) → placed now w ≡ true → w ≢ v
      not_it w a m = ⊎_elim (λ t. gone_reg (get q.regs (register_of v now.regs)) (sym (get_map_without q.regs v (register_of v now.regs)) ∙ register_at now.regs v t)) (λ t. gone_home q.homed t) (either now v (ap (placed now) (sym m) ∙ a))

  pub safe_less : (next : ℕ → Bool) (Next : ℕ → Type 0) → ((w : ℕ) → next w ≡ true → live w ≡ true) → ((w : ℕ) → Known w → Next w) → Safe next Next q
  safe_less next Next on knows = record { covers = λ w a. s.covers w (on w a); single = s.single; rising = s.rising; known = λ w a. knows w (s.known w a) }
