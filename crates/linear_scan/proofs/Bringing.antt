-- While uses are brought: what is noted stands in the registers named, and what is safe stays safe.
use Rattle.std.proofs.Common.{◌≡◌, ℕ, ◌<◌, ◌≤◌, Bool, true, false, cond, List, [], ◌∷◌, ◌++◌, map, length, drop, set, Option, Some, None, refl, sym, ap, ap₂, ◌∙◌, subst, arith, length-set, append_assoc, ⊎_elim}
use Rattle.std.specs.Prelude.{◌==◌}
use Rattle.std.proofs.lemmas.List.{drop-append-le, map-append, get_or-set_same}
use Rattle.block_runs.specs.Blocks.{Operation}
use Rattle.block_runs.specs.Live.{has}
use Rattle.lir_core.specs.Spots.{get, in_register}
use Rattle.lir_core.specs.Lines.{Room}
use Rattle.loc_state.specs.declared.part.Part.{Part}
use Rattle.loc_state.specs.Registers.{register_of, lowest_empty}
use Rattle.loc_state.specs.Steps.{places, brought, evicted, saved}
use Rattle.loc_state.specs.Walked.{Walked}
use Rattle.loc_state.proofs.Numbers.{get_set, map_same, nothing, append_nil, in_row, register_at, in_register_at, either}
use Rattle.loc_state.proofs.Stepping.{brings, evicts}
use Rattle.linear_scan.specs.Policy.{from, victim, bring_at, bring_one, bring_all}
use Rattle.linear_scan.proofs.Candidates.{lowest_is, Candidate, candidate, victim_is, AllIn, all_in, all_in_push, apart_from, was_back}
use Rattle.linear_scan.proofs.Safe.{Safe, safe_loaded, safe_evicted}

module _ (room : Room) (ops : List Operation) (live : ℕ → Bool) (Known : ℕ → Type 0) (n : ℕ) where
  pub record Bringing (keep noted : List ℕ) (t : Part) : Type 0 where
    pub walked : Walked room ops n noted t
    pub held : map (get t.regs) (drop t.since t.named) ≡ map Some noted
    pub kept : AllIn keep noted
    pub safe : Safe live Known (places t)

  module _ (keep noted : List ℕ) (t : Part) (b : Bringing keep noted t) where
    note_held : (regs : List (Option ℕ)) (r u : ℕ) → map (get regs) (drop t.since t.named) ≡ map Some noted → get regs r ≡ Some u → map (get regs) (drop t.since (t.named ++ r ∷ [])) ≡ map Some (noted ++ u ∷ [])
    note_held regs r u h e = ap (map (get regs)) (drop-append-le t.since t.named (r ∷ []) b.walked.within) ∙ map-append (get regs) (drop t.since t.named) (r ∷ []) ∙ ap₂ (λ x y. x ++ y ∷ []) h e ∙ sym (map-append Some noted (u ∷ []))

    -- a use that stands in a register
    in_place : (u : ℕ) → has keep u ≡ true → in_register t.regs u ≡ true → Bringing keep (noted ++ u ∷ []) (brought u None t)
    in_place u h e = record {
      walked = brings room ops n noted t b.walked u None (register_at t.regs u e);
      held = note_held t.regs (register_of u t.regs) u b.held (register_at t.regs u e);
      kept = all_in_push keep noted u b.kept h;
      safe = b.safe;
    }

    -- a use that is loaded into an empty register
    loaded : (u r : ℕ) → has keep u ≡ true → in_register t.regs u ≡ false → has t.homed u ≡ true → r < length t.regs → get t.regs r ≡ None → Bringing keep (noted ++ u ∷ []) (brought u (Some r) t)
    loaded u r h f m l e =
        let apart = apart_from t.regs keep r (λ w a z. let q : None ≡ Some w = sym e ∙ a in cc) (drop t.since t.named) noted b.held b.kept in
        let regs = set t.regs r (Some u) in
        record {
          walked = brings room ops n noted t b.walked u (Some r) (m, l, e, apart);
          held = note_held regs r u (map_same (get regs) (get t.regs) r (λ x q. get_set t.regs r x (Some u) l ∙ ap (λ c. cond c (Some u) (get t.regs x)) q) (drop t.since t.named) apart ∙ b.held) (get_or-set_same t.regs r (Some u) None l);
          kept = all_in_push keep noted u b.kept h;
          safe = safe_loaded live Known (places t) b.safe r u l e m f;
        }

    -- a register is emptied whose value isn't kept
    made_room : (r : ℕ) → r < length t.regs → Candidate keep t.regs r → Bringing keep noted (evicted r t)
    made_room r l c =
        let apart = apart_from t.regs keep r (λ w a z. let q : c.0 ≡ w = (let s : Some c.0 ≡ Some w = sym c.1 ∙ a in cc) in let y : true ≡ false = sym z ∙ ap (has keep) (sym q) ∙ c.2 in cc) (drop t.since t.named) noted b.held b.kept in
        let regs = set t.regs r None in
        record {
          walked = evicts room ops n noted t b.walked r l;
          held = map_same (get regs) (get t.regs) r (λ x q. get_set t.regs r x None l ∙ ap (λ c. cond c None (get t.regs x)) q) (drop t.since t.named) apart ∙ b.held;
          kept = b.kept;
          safe = safe_evicted live Known (places t) b.safe r l;
        }

  still_out : (regs : List (Option ℕ)) (r : ℕ) (u : ℕ) → r < length regs → in_register regs u ≡ false → in_register (set regs r None) u ≡ false
  still_out regs r u l f = at_test (in_register (set regs r None) u) refl
    where
      at_test : (b : Bool) → in_register (set regs r None) u ≡ b → b ≡ false
      at_test false e = refl
      at_test true e = sym (in_register_at regs (register_of u (set regs r None)) u (was_back regs r (register_of u (set regs r None)) u l (register_at (set regs r None) u e))) ∙ f

  still_homed : (o : Option ℕ) (homed : List ℕ) (w : ℕ) → has homed w ≡ true → has (saved o homed) w ≡ true
  still_homed None homed w h = h
  still_homed (Some v) homed w h = Rattle.loc_state.proofs.Homing.has_inserted v homed w ∙ Rattle.loc_state.proofs.Numbers.or_rest (v == w) (has homed w) h

  module _ (need : ℕ → ℕ → Option ℕ) (p : ℕ) (keep : List ℕ) where
    bring_one_kept : (noted : List ℕ) (u : ℕ) (t : Part) → length keep ≤ length t.regs → has keep u ≡ true → live u ≡ true → Bringing keep noted t → Bringing keep (noted ++ u ∷ []) (bring_one need p keep u t)
    bring_one_kept noted u t few h a b = at_test (in_register t.regs u) refl
      where
        homed : in_register t.regs u ≡ false → has t.homed u ≡ true
        homed f = ⊎_elim (λ e. let z : true ≡ false = sym e ∙ f in cc) (λ e. e) (either (places t) u (b.safe.covers u a))

        at_empty : in_register t.regs u ≡ false → (o : Option ℕ) → lowest_empty 0 t.regs ≡ o → Bringing keep (noted ++ u ∷ []) (bring_at need p keep u o t)
        at_empty f (Some r) e = let m = lowest_is t.regs r e in loaded keep noted t b u r h f (homed f) m.0 m.1
        at_empty f None e =
            let c = candidate t.regs keep u b.safe.single e h f few in
            let r = victim keep (from need p) t.regs in
            let v : Candidate keep t.regs r = victim_is keep (from need p) t.regs c in
            let l = in_row t.regs r v.0 v.1 in
            let free = made_room keep noted t b r l v in
            loaded keep noted (evicted r t) free u r h (still_out t.regs r u l f) (still_homed (get t.regs r) t.homed u (homed f)) (let z = length-set t.regs r None in omega (arith, l, z)) (get_or-set_same t.regs r None None l)

        at_test : (c : Bool) → in_register t.regs u ≡ c → Bringing keep (noted ++ u ∷ []) (cond c (brought u None t) (bring_at need p keep u (lowest_empty 0 t.regs) t))
        at_test true e = in_place keep noted t b u h e
        at_test false e = at_empty e (lowest_empty 0 t.regs) refl

    pub bring_all_kept : length keep ≤ room.regs → ((u : ℕ) → has keep u ≡ true → live u ≡ true) → (us noted : List ℕ) (t : Part) → AllIn keep us → Bringing keep noted t → Bringing keep (noted ++ us) (bring_all need p keep us t)
    bring_all_kept few on [] noted t i b = subst (λ x. Bringing keep x t) (sym (append_nil noted)) b
    bring_all_kept few on (u ∷ us) noted t i b =
        let one = bring_one_kept noted u t (let m = b.walked.stands.registers in omega (arith, few, m)) i.0 (on u i.0) b in
        subst (λ x. Bringing keep x (bring_all need p keep us (bring_one need p keep u t))) (append_assoc noted (u ∷ []) us) (bring_all_kept few on us (noted ++ u ∷ []) (bring_one need p keep u t) i.1 one)

    -- from where no use is noted
    pub all_brought : length keep ≤ room.regs → ((u : ℕ) → has keep u ≡ true → live u ≡ true) → (t : Part) → Walked room ops n [] t → Safe live Known (places t) → Walked room ops n keep (bring_all need p keep keep t) × Safe live Known (places (bring_all need p keep keep t))
    all_brought few on t w s =
        let start : Bringing keep [] t = record { walked = w; held = ap (map (get t.regs)) (sym w.fresh ∙ nothing _ _ w.stands.uses); kept = tt; safe = s } in
        let b = bring_all_kept few on keep [] t (all_in keep keep (λ u h. h)) start in
        (b.walked, b.safe)
