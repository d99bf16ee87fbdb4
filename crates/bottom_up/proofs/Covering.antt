-- Uses that are taken: what is walked, and what has a place.
use Rattle.std.proofs.Common.{◌≡◌, ℕ, ◌<◌, ◌≤◌, Bool, true, false, cond, List, [], ◌∷◌, ◌++◌, length, set, Option, Some, None, refl, sym, ap, ◌∙◌, subst, arith, ◌⊎◌, inl, inr, ⊎_elim, length-set, append_assoc}
use Rattle.std.specs.Prelude.{◌==◌}
use Rattle.std.proofs.lemmas.List.{get_or-set_same}
use Rattle.block_runs.specs.Live.{has}
use Rattle.lir_core.specs.declared.places.Places.{Places}
use Rattle.lir_core.specs.Spots.{get, in_register, placed}
use Rattle.loc_state.specs.Registers.{register_of, lowest_empty}
use Rattle.loc_state.specs.Steps.{saved}
use Rattle.loc_state.proofs.Numbers.{numbers_same, test_same, or_rest, in_row, register_at, in_register_at, either, in_reg, in_home, append_nil}
use Rattle.loc_back.specs.declared.part.Stage.{Stage}
use Rattle.loc_back.specs.declared.part.Stage.TheVariants.{Behind, End as AtEnd, Operation as Within, Done}
use Rattle.loc_back.specs.declared.part.BackPart.{BackPart}
use Rattle.loc_back.specs.declared.backward.Backward.{Backward}
use Rattle.loc_back.specs.Steps.{taken, evicted, in_part}
use Rattle.loc_back.specs.Served.{Route, IsStanding, AreNoted, IsAt, IsTaking, Simulates}
use Rattle.loc_back.proofs.Standing.{has_saved, saves_it}
use Rattle.loc_back.proofs.Walks.{takes_to, evicts_to}
use Rattle.linear_scan.proofs.Candidates.{in_register_set, was_back, lowest_is, Candidate, candidate, AllIn, apart_from, all_in_push}
use Rattle.bottom_up.specs.Policy.{victim, before, take_at, take_one, take_all}
use Rattle.bottom_up.proofs.Chosen.{victim_is}

-- registers and homes as places
abbrev pub places_of : BackPart → Places
places_of t = record { regs = t.regs; homed = t.homed }

abbrev pub now_at : Backward → Places
now_at f = places_of f.part

---- Places of values

pub placed_emptied : (regs : List (Option ℕ)) (homed : List ℕ) (r v : ℕ) → r < length regs → placed (record { regs = regs; homed = homed }) v ≡ true → placed (record { regs = set regs r None; homed = saved (get regs r) homed }) v ≡ true
placed_emptied regs homed r v l h = ⊎_elim (λ e. by (get regs r) refl e) (λ g. in_home (record { regs = set regs r None; homed = saved (get regs r) homed }) v (has_saved (get regs r) homed v g)) (either (record { regs = regs; homed = homed }) v h)
  where
    at_test : (w : ℕ) → get regs r ≡ Some w → in_register regs v ≡ true → (b : Bool) → (w == v) ≡ b → placed (record { regs = set regs r None; homed = saved (Some w) homed }) v ≡ true
    at_test w e h true q = in_home (record { regs = set regs r None; homed = saved (Some w) homed }) v (ap (has (saved (Some w) homed)) (sym (numbers_same w v q)) ∙ saves_it w homed)
    at_test w e h false q = in_reg (record { regs = set regs r None; homed = saved (Some w) homed }) v (in_register_set regs r v None l (λ y. let z : Some w ≡ Some v = sym e ∙ y in let k : w ≡ v = cc in let t : true ≡ false = sym (ap (λ n. n == v) k ∙ test_same v) ∙ q in cc) h)

    by : (o : Option ℕ) → get regs r ≡ o → in_register regs v ≡ true → placed (record { regs = set regs r None; homed = saved o homed }) v ≡ true
    by None e h = in_reg (record { regs = set regs r None; homed = homed }) v (in_register_set regs r v None l (λ y. let z : None ≡ Some v = sym e ∙ y in cc) h)
    by (Some w) e h = at_test w e h (w == v) refl

pub placed_filled : (regs : List (Option ℕ)) (homed : List ℕ) (r u v : ℕ) → r < length regs → get regs r ≡ None → placed (record { regs = regs; homed = homed }) v ≡ true → placed (record { regs = set regs r (Some u); homed = homed }) v ≡ true
placed_filled regs homed r u v l e h = ⊎_elim (λ g. in_reg (record { regs = set regs r (Some u); homed = homed }) v (in_register_set regs r v (Some u) l (λ y. let z : None ≡ Some v = sym e ∙ y in cc) g)) (λ g. in_home (record { regs = set regs r (Some u); homed = homed }) v g) (either (record { regs = regs; homed = homed }) v h)

pub placed_there : (regs : List (Option ℕ)) (homed : List ℕ) (r u : ℕ) → r < length regs → placed (record { regs = set regs r (Some u); homed = homed }) u ≡ true
placed_there regs homed r u l = in_reg (record { regs = set regs r (Some u); homed = homed }) u (in_register_at (set regs r (Some u)) r u (get_or-set_same regs r (Some u) None l))

---- What is so while uses are taken

pub record Taking (x : Route) (n : ℕ) (first keep noted : List ℕ) (Covered : ℕ → Type 0) (f : Backward) : Type 0 where
  pub sim : Simulates x n noted f
  pub taking : IsTaking f.part.stage
  pub kept : AllIn keep noted
  pub covers : (v : ℕ) → Covered v → placed (now_at f) v ≡ true
  pub firsts : (v : ℕ) → has first v ≡ true → has f.part.homed v ≡ true
  pub read : (v : ℕ) → has noted v ≡ true → placed (now_at f) v ≡ true

-- what is known of a use
pub record IsUse (x : Route) (first keep : List ℕ) (st : Stage) (u : ℕ) : Type 0 where
  pub below : u < x.room.values
  pub early : has x.made u ≡ true → has first u ≡ true
  pub lives : st ≡ AtEnd → has x.here.after u ≡ true
  pub within : has keep u ≡ true

row_at : (x : Route) (n : ℕ) (noted : List ℕ) (st : Stage) (t : BackPart) → IsTaking st → IsAt x n noted st t → IsStanding x t.homed t.regs × AreNoted x noted t
row_at x n noted Behind t k a = absurd k
row_at x n noted Done t k a = absurd k
row_at x n noted AtEnd t k a = (a.1.row, a.1.are_noted)
row_at x n noted (Within b) t k a = (a.1.row, a.1.are_noted)

has_last : (us : List ℕ) (u v : ℕ) → has (us ++ u ∷ []) v ≡ true → (has us v ≡ true) ⊎ (u ≡ v)
has_last [] u v h = by (u == v) refl h
  where
    by : (b : Bool) → (u == v) ≡ b → cond b true false ≡ true → (has [] v ≡ true) ⊎ (u ≡ v)
    by true e h = inr (numbers_same u v e)
    by false e h = cc
has_last (w ∷ us) u v h = by (w == v) h (has_last us u v)
  where
    by : (b : Bool) → cond b true (has (us ++ u ∷ []) v) ≡ true → (has (us ++ u ∷ []) v ≡ true → (has us v ≡ true) ⊎ (u ≡ v)) → (cond b true (has us v) ≡ true) ⊎ (u ≡ v)
    by true h on = inl refl
    by false h on = on h

module _ (mention : ℕ → ℕ → Option ℕ) (x : Route) (n p : ℕ) (first keep : List ℕ) (Covered : ℕ → Type 0) (few : length keep ≤ x.room.regs) where
  step_read : (f g : Backward) (noted : List ℕ) (u : ℕ) → ((v : ℕ) → placed (now_at f) v ≡ true → placed (now_at g) v ≡ true) → placed (now_at g) u ≡ true → ((v : ℕ) → has noted v ≡ true → placed (now_at f) v ≡ true) → (v : ℕ) → has (noted ++ u ∷ []) v ≡ true → placed (now_at g) v ≡ true
  step_read f g noted u on here read v h = ⊎_elim (λ k. on v (read v k)) (λ q. subst (λ y. placed (now_at g) y ≡ true) q here) (has_last noted u v h)

  take_in : (noted : List ℕ) (u : ℕ) (f : Backward) → IsUse x first keep f.part.stage u → in_register f.part.regs u ≡ true → Taking x n first keep noted Covered f → Taking x n first keep (noted ++ u ∷ []) Covered (in_part (taken u None) f)
  take_in noted u f i e t = record {
    sim = takes_to x n noted u None f (record { taking = t.taking; can = register_at f.part.regs u e; below = i.below; free = λ m. t.firsts u (i.early m); lives = i.lives }) t.sim;
    taking = t.taking;
    kept = all_in_push keep noted u t.kept i.within;
    covers = t.covers;
    firsts = t.firsts;
    read = step_read f (in_part (taken u None) f) noted u (λ v h. h) (in_reg (now_at f) u e) t.read;
  }

  take_empty : (noted : List ℕ) (u r : ℕ) (f : Backward) → IsUse x first keep f.part.stage u → in_register f.part.regs u ≡ false → r < length f.part.regs → get f.part.regs r ≡ None → Taking x n first keep noted Covered f → Taking x n first keep (noted ++ u ∷ []) Covered (in_part (taken u (Some r)) f)
  take_empty noted u r f i absent l e t = record {
    sim = takes_to x n noted u (Some r) f (record { taking = t.taking; can = (l, e, absent); below = i.below; free = λ m. t.firsts u (i.early m); lives = i.lives }) t.sim;
    taking = t.taking;
    kept = all_in_push keep noted u t.kept i.within;
    covers = λ v c. placed_filled f.part.regs f.part.homed r u v l e (t.covers v c);
    firsts = t.firsts;
    read = step_read f (in_part (taken u (Some r)) f) noted u (λ v h. placed_filled f.part.regs f.part.homed r u v l e h) (placed_there f.part.regs f.part.homed r u l) t.read;
  }

  give_up : (noted : List ℕ) (r : ℕ) (f : Backward) → Candidate keep f.part.regs r → Taking x n first keep noted Covered f → Taking x n first keep noted Covered (in_part (evicted r) f)
  give_up noted r f c t =
      let a = row_at x n noted f.part.stage f.part t.taking t.sim.here in
      let l = in_row f.part.regs r c.0 c.1 in
      record {
        sim = evicts_to x n noted r f (record { taking = t.taking; in_row = l; apart = apart_from f.part.regs keep r (λ u q h. let z : Some c.0 ≡ Some u = sym c.1 ∙ q in let y : c.0 ≡ u = cc in let k : true ≡ false = sym h ∙ ap (has keep) (sym y) ∙ c.2 in cc) f.part.noted noted a.1.used t.kept }) t.sim;
        taking = t.taking;
        kept = t.kept;
        covers = λ v h. placed_emptied f.part.regs f.part.homed r v l (t.covers v h);
        firsts = λ v h. has_saved (get f.part.regs r) f.part.homed v (t.firsts v h);
        read = λ v h. placed_emptied f.part.regs f.part.homed r v l (t.read v h);
      }

  take_one_kept : (noted : List ℕ) (u : ℕ) (f : Backward) → IsUse x first keep f.part.stage u → Taking x n first keep noted Covered f → Taking x n first keep (noted ++ u ∷ []) Covered (in_part (take_one mention p keep u) f)
  take_one_kept noted u f i t = by (in_register f.part.regs u) refl
    where
      a : IsStanding x f.part.homed f.part.regs × AreNoted x noted f.part
      a = row_at x n noted f.part.stage f.part t.taking t.sim.here

      none_left : (r : ℕ) → r < length f.part.regs → in_register f.part.regs u ≡ false → in_register (set f.part.regs r None) u ≡ false
      none_left r l e = by_reg (in_register (set f.part.regs r None) u) refl
        where
          by_reg : (b : Bool) → in_register (set f.part.regs r None) u ≡ b → b ≡ false
          by_reg false q = refl
          by_reg true q =
              let s = register_of u (set f.part.regs r None) in
              sym (in_register_at f.part.regs s u (was_back f.part.regs r s u l (register_at (set f.part.regs r None) u q))) ∙ e

      at_empty : in_register f.part.regs u ≡ false → (o : Option ℕ) → lowest_empty 0 f.part.regs ≡ o → Taking x n first keep (noted ++ u ∷ []) Covered (in_part (take_at mention p keep u o) f)
      at_empty e (Some r) q = let m = lowest_is f.part.regs r q in take_empty noted u r f i e m.0 m.1 t
      at_empty e None q =
          let size = a.0.size in
          let r = victim keep (before mention p) f.part.regs in
          let c = victim_is keep (before mention p) f.part.regs (candidate f.part.regs keep u a.0.single q i.within e (omega (arith, few, size))) in
          let l = in_row f.part.regs r c.0 c.1 in
          take_empty noted u r (in_part (evicted r) f) i (none_left r l e) (let z = length-set f.part.regs r None in omega (arith, l, z)) (get_or-set_same f.part.regs r None None l) (give_up noted r f c t)

      by : (b : Bool) → in_register f.part.regs u ≡ b → Taking x n first keep (noted ++ u ∷ []) Covered (in_part (λ y. cond b (taken u None y) (take_at mention p keep u (lowest_empty 0 y.regs) y)) f)
      by true e = take_in noted u f i e t
      by false e = at_empty e (lowest_empty 0 f.part.regs) refl

  stage_stays : (u : ℕ) (t : BackPart) → (take_one mention p keep u t).stage ≡ t.stage
  stage_stays u t = by (in_register t.regs u) (lowest_empty 0 t.regs)
    where
      by : (b : Bool) (o : Option ℕ) → (cond b (taken u None t) (take_at mention p keep u o t)).stage ≡ t.stage
      by true o = refl
      by false None = refl
      by false (Some r) = refl

  pub take_all_kept : (us noted : List ℕ) (f : Backward) → ((u : ℕ) → has us u ≡ true → IsUse x first keep f.part.stage u) → Taking x n first keep noted Covered f → Taking x n first keep (noted ++ us) Covered (in_part (take_all mention p keep us) f)
  take_all_kept [] noted f uses t = subst (λ k. Taking x n first keep k Covered f) (sym (append_nil noted)) t
  take_all_kept (u ∷ us) noted f uses t =
      let g = in_part (take_one mention p keep u) f in
      let on = take_one_kept noted u f (uses u (ap (λ b. cond b true (has us u)) (test_same u))) t in
      subst (λ k. Taking x n first keep k Covered (in_part (take_all mention p keep (u ∷ us)) f)) (append_assoc noted (u ∷ []) us)
      (take_all_kept us (noted ++ u ∷ []) g (λ v h. subst (λ st. IsUse x first keep st v) (sym (stage_stays u f.part)) (uses v (or_rest (u == v) (has us v) h))) on)
