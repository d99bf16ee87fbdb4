-- One operation, and the operations of a node: what is walked, and what is safe.
use Rattle.std.proofs.Common.{◌≡◌, ◌≢◌, ℕ, suc, ◌+◌, ◌<◌, ◌≤◌, Bool, true, false, cond, List, [], ◌∷◌, ◌++◌, map, length, set, Option, Some, None, refl, sym, ap, ◌∙◌, subst, arith, length-set, ◌⊎◌, inl, inr, ⊎_elim}
use Rattle.std.specs.Prelude.{◌==◌, option_to_list, slice_get}
use Rattle.std.proofs.lemmas.List.{get_or-set_same, length-map}
use Rattle.block_runs.specs.Blocks.{Operation}
use Rattle.block_runs.specs.Live.{has, defs_of}
use Rattle.block_runs.specs.Valid.{is_call, times}
use Rattle.lir_core.specs.declared.flow.Lir.{Lir}
use Rattle.lir_core.specs.declared.places.Places.{Places}
use Rattle.lir_core.specs.Flows.{operation_of}
use Rattle.lir_core.specs.Spots.{get, in_register, placed, IsRising}
use Rattle.lir_core.specs.Lines.{is_aimed, slots_used, Room}
use Rattle.global_live.proofs.Lists.{not_in_back, has_front, has_back, has_one, times_of_in, times-append}
use Rattle.trace_needs.specs.Needs.{Position, at_operation}
use Rattle.loc_state.specs.declared.part.Part.{Part}
use Rattle.loc_state.specs.Registers.{register_of, lowest_empty}
use Rattle.loc_state.specs.Steps.{places, evicted, defines, dropped, keeps_one, keeps_all, with_result, called}
use Rattle.loc_state.specs.Steps as steps
use Rattle.loc_state.specs.Walked.{Walked, CanDefine, CanCall, IsAbsent}
use Rattle.loc_state.proofs.Numbers.{numbers_same, test_same, or_rest, get_set, get_emptied, in_row, in_register_at, register_at, either, in_reg, in_home}
use Rattle.loc_state.proofs.Stepping.{evicts, defines_kept}
use Rattle.loc_state.proofs.Calling.{keeps_regs, keeps_homed, homed_stays, called_kept}
use Rattle.loc_state.proofs.Homing.{has_inserted, inserted_rises}
use Rattle.linear_scan.specs.Policy.{from, is_needed, victim, bring_all, drop_dead, drop_all, define_at, define_one, needed_in, call_one, operate, operate_all}
use Rattle.linear_scan.proofs.Candidates.{lowest_is, full, Candidate, victim_is}
use Rattle.linear_scan.proofs.Safe.{Safe, safe_defined, safe_evicted, safe_less}
use Rattle.linear_scan.proofs.Bringing.{all_brought}
use Rattle.linear_scan.proofs.Dropping.{all_dropped, one_dropped, drop_same}
use Rattle.linear_scan.proofs.Needs.{Follows, follows_tail, passes, alive, alive_needed}

-- an operation of a valid flow: few uses where it isn't a call, room where it is, and the call's mark
pub record IsFitting (room : Room) (x : Lir) : Type 0 where
  pub marked : x.call ≡ is_call x.template
  pub few : is_call x.template ≡ false → length x.uses ≤ room.regs
  pub aimed : is_aimed x.template ≡ true → 1 ≤ length x.uses
  pub slots : slots_used (operation_of x) ≤ room.slots
  pub def : (v : ℕ) → x.def ≡ Some v → v < room.values

abbrev pub AreFitting : Room → List Lir → Type 0
AreFitting room [] = Unit {0}
AreFitting room (x ∷ xs) = IsFitting room x × AreFitting room xs

-- each value is made once
abbrev pub AreOnce : List Lir → Type 0
AreOnce xs = (v : ℕ) → times (defs_of (map operation_of xs)) v ≤ 1

abbrev pub dead : (ℕ → ℕ → Option ℕ) → ℕ → List ℕ → Part → Part
dead need q us t = drop_dead need q t

module _ (need : ℕ → ℕ → Option ℕ) where
  -- known at a position: needed from there on, and not made later in the node
  abbrev pub At : ℕ → List Lir → ℕ → Type 0
  At p xs v = (is_needed need p v ≡ true) × (has (defs_of (map operation_of xs)) v ≡ false)

  module _ (room : Room) (ops : List Operation) (n : ℕ) (four : 4 ≤ room.regs) where
    -- the definition of an operation, without its last step
    module _ (x : Lir) (v : ℕ) (def : x.def ≡ Some v) (plain : is_call x.template ≡ false) (below : v < room.values) (here : slice_get ops n ≡ Some (operation_of x)) (live next : ℕ → Bool) (on : (w : ℕ) → next w ≡ true → (w ≡ v) ⊎ (live w ≡ true)) (Known Next : ℕ → Type 0) (knows : (w : ℕ) → (w ≡ v) ⊎ Known w → Next w) (new : (w : ℕ) → Known w → w ≢ v) where
      not_placed : (q : Places) → Safe live Known q → placed q v ≡ false
      not_placed q s = by (placed q v) refl
        where
          by : (b : Bool) → placed q v ≡ b → b ≡ false
          by false e = refl
          by true e = absurd (new v (s.known v e) refl)

      defined_in : (t : Part) → Walked room ops n x.uses t → Safe live Known (places t) → (r : ℕ) → r < length t.regs → get t.regs r ≡ None → Walked room ops (n + 1) [] (defines n (Some v) (Some r) t) × Safe next Next (places (defines n (Some v) (Some r) t))
      defined_in t w s r l e =
          let absent = not_placed (places t) s in (
            subst (λ o. Walked room ops (n + 1) [] (defines n o (Some r) t)) def (defines_kept room ops n (operation_of x) (Some r) t here (record { plain = plain; given = subst (λ o. Rattle.loc_state.specs.Walked.Matches o (Some r) t) (sym def) l; empty = e; absent = subst (λ o. IsAbsent room.values o t) (sym def) (below, absent) }) w),
            safe_defined live Known (places t) s next Next r v l e absent on knows,
          )

      define_at_kept : (p : ℕ) (t : Part) → Walked room ops n x.uses t → Safe live Known (places t) → Walked room ops (n + 1) [] (define_at need p n v (lowest_empty 0 t.regs) t) × Safe next Next (places (define_at need p n v (lowest_empty 0 t.regs) t))
      define_at_kept p t w s = at_empty (lowest_empty 0 t.regs) refl
        where
          at_empty : (o : Option ℕ) → lowest_empty 0 t.regs ≡ o → Walked room ops (n + 1) [] (define_at need p n v o t) × Safe next Next (places (define_at need p n v o t))
          at_empty (Some r) e = let m = lowest_is t.regs r e in defined_in t w s r m.0 m.1
          at_empty None e =
              let size = w.stands.registers in
              let first = full t.regs 0 0 e (omega (arith, size, four)) in
              let r = victim [] (from need p) t.regs in
              let c : Candidate [] t.regs r = victim_is [] (from need p) t.regs (0, (first.0, first.1, refl)) in
              let l = in_row t.regs r c.0 c.1 in
              defined_in (evicted r t) (evicts room ops n x.uses t w r l) (safe_evicted live Known (places t) s r l) r (let z = length-set t.regs r None in omega (arith, l, z)) (get_or-set_same t.regs r None None l)

    ---- A call

    module _ (x : Lir) (p : ℕ) (t : Part) (w : Walked room ops n [] t) where
      abbrev keep : List ℕ
      keep = needed_in need p t.regs

      abbrev behind_call : Part
      behind_call = called n (operation_of x) keep t

      in_kept : (os : List (Option ℕ)) (v : ℕ) → in_register os v ≡ true → is_needed need p v ≡ true → has (needed_in need p os) v ≡ true
      in_kept [] v h k = h
      in_kept (None ∷ os) v h k = in_kept os v h k
      in_kept (Some u ∷ os) v h k = at_test (u == v) refl h (in_kept os v)
        where
          at_same : (b : Bool) → is_needed need p u ≡ b → u ≡ v → has (cond b (u ∷ needed_in need p os) (needed_in need p os)) v ≡ true
          at_same true e q = ap (λ c. cond c true (has (needed_in need p os) v)) (ap (λ y. y == v) q ∙ test_same v)
          at_same false e q = let z : true ≡ false = sym k ∙ ap (is_needed need p) (sym q) ∙ e in cc

          more : (b : Bool) → has (needed_in need p os) v ≡ true → has (cond b (u ∷ needed_in need p os) (needed_in need p os)) v ≡ true
          more true g = or_rest (u == v) (has (needed_in need p os) v) g
          more false g = g

          at_test : (b : Bool) → (u == v) ≡ b → cond b true (in_register os v) ≡ true → (in_register os v ≡ true → is_needed need p v ≡ true → has (needed_in need p os) v ≡ true) → has (cond (is_needed need p u) (u ∷ needed_in need p os) (needed_in need p os)) v ≡ true
          at_test true e h go = at_same (is_needed need p u) refl (numbers_same u v e)
          at_test false e h go = more (is_needed need p u) (go h k)

      -- what is kept of registers is homed
      kept_homed : (ks : List ℕ) (os : List (Option ℕ)) (r : ℕ) (s : Part) (v : ℕ) → in_register os v ≡ true → has ks v ≡ true → has (keeps_all ks r os s).homed v ≡ true
      kept_homed ks [] r s v h k = cc
      kept_homed ks (None ∷ os) r s v h k = kept_homed ks os (suc r) (keeps_one ks r None s) v h k
      kept_homed ks (Some u ∷ os) r s v h k = at_test (λ g. kept_homed ks os (suc r) (keeps_one ks r (Some u) s) v g k) (u == v) refl h
        where
          now_homed : u ≡ v → has (keeps_one ks r (Some u) s).homed v ≡ true
          now_homed q = subst (λ b. has (steps.saved (cond b (Some u) None) s.homed) v ≡ true) (sym (ap (has ks) q ∙ k)) (has_inserted u s.homed v ∙ ap (λ b. cond b true (has s.homed v)) (ap (λ y. y == v) q ∙ test_same v))

          at_test : (in_register os v ≡ true → has (keeps_all ks (suc r) os (keeps_one ks r (Some u) s)).homed v ≡ true) → (b : Bool) → (u == v) ≡ b → cond b true (in_register os v) ≡ true → has (keeps_all ks (suc r) os (keeps_one ks r (Some u) s)).homed v ≡ true
          at_test on true e h = homed_stays ks os (suc r) (keeps_one ks r (Some u) s) v (now_homed (numbers_same u v e))
          at_test on false e h = on h

      keeps_rise : (ks : List ℕ) (os : List (Option ℕ)) (r : ℕ) (s : Part) → IsRising s.homed → IsRising (keeps_all ks r os s).homed
      keeps_rise ks [] r s h = h
      keeps_rise ks (None ∷ os) r s h = keeps_rise ks os (suc r) (keeps_one ks r None s) h
      keeps_rise ks (Some u ∷ os) r s h = keeps_rise ks os (suc r) (keeps_one ks r (Some u) s) (by (has ks u))
        where
          by : (b : Bool) → IsRising (steps.saved (cond b (Some u) None) s.homed)
          by true = inserted_rises u s.homed h
          by false = h

      -- registers behind a call: none but the result's
      only_result : (o : Option ℕ) (regs : List (Option ℕ)) (r v : ℕ) → 0 < length regs → get (with_result o (map (λ y. None) regs)) r ≡ Some v → (o ≡ Some v) × (r ≡ 0)
      only_result None regs r v l e = absurd (get_emptied regs r v e)
      only_result (Some d) regs r v l e = at_test (r == 0) refl (sym (get_set (map (λ y. None) regs) 0 r (Some d) (let k = length-map {B = Option ℕ} regs (λ y. None) in omega (arith, l, k))) ∙ e)
        where
          at_test : (b : Bool) → (r == 0) ≡ b → cond b (Some d) (get (map (λ y. None) regs) r) ≡ Some v → (Some d ≡ Some v) × (r ≡ 0)
          at_test true t e = (e, numbers_same r 0 t)
          at_test false t e = absurd (get_emptied regs r v e)

      result_there : (o : Option ℕ) (regs : List (Option ℕ)) (v : ℕ) → 0 < length regs → o ≡ Some v → in_register (with_result o (map (λ y. None) regs)) v ≡ true
      result_there None regs v l e = cc
      result_there (Some d) regs v l e = in_register_at (set (map (λ y. None) regs) 0 (Some d)) 0 v (get_or-set_same (map (λ y. None) regs) 0 (Some d) None (let k = length-map {B = Option ℕ} regs (λ y. None) in omega (arith, l, k)) ∙ e)

      module _ (live next : ℕ → Bool) (Known : ℕ → Type 0) (s : Safe live Known (places t)) (on : (v : ℕ) → next v ≡ true → (x.def ≡ Some v) ⊎ ((live v ≡ true) × (is_needed need p v ≡ true))) where
        regs_there : 0 < length t.regs
        regs_there = let m = w.stands.registers in omega (arith, m, four)

        same_regs : (keeps_all keep 0 t.regs t).regs ≡ t.regs
        same_regs = keeps_regs keep 0 t.regs t

        called_safe : Safe next (λ v. (x.def ≡ Some v) ⊎ Known v) (places behind_call)
        called_safe = record {
          covers = λ v a. ⊎_elim (λ d. in_reg (places behind_call) v (result_there x.def (keeps_all keep 0 t.regs t).regs v (subst (λ rs. 0 < length rs) (sym same_regs) regs_there) d)) (λ k. in_home (places behind_call) v (stays v k.0 k.1)) (on v a);
          single = λ r q v e f. let a = only_result x.def (keeps_all keep 0 t.regs t).regs r v (subst (λ rs. 0 < length rs) (sym same_regs) regs_there) e in let b = only_result x.def (keeps_all keep 0 t.regs t).regs q v (subst (λ rs. 0 < length rs) (sym same_regs) regs_there) f in a.1 ∙ sym b.1;
          rising = keeps_rise keep t.regs 0 t s.rising;
          known = λ v a. ⊎_elim (λ h. inl (in_result v h)) (λ h. inr (was v (keeps_homed keep t.regs 0 t v h))) (either (places behind_call) v a);
        }
          where
            stays : (v : ℕ) → live v ≡ true → is_needed need p v ≡ true → has (keeps_all keep 0 t.regs t).homed v ≡ true
            stays v l k = ⊎_elim (λ e. kept_homed keep t.regs 0 t v e (in_kept t.regs v e k)) (λ e. homed_stays keep t.regs 0 t v e) (either (places t) v (s.covers v l))

            in_result : (v : ℕ) → in_register (with_result x.def (map (λ y. None) (keeps_all keep 0 t.regs t).regs)) v ≡ true → x.def ≡ Some v
            in_result v h = let rs = with_result x.def (map (λ y. None) (keeps_all keep 0 t.regs t).regs) in (only_result x.def (keeps_all keep 0 t.regs t).regs (register_of v rs) v (subst (λ zs. 0 < length zs) (sym same_regs) regs_there) (register_at rs v h)).0

            was : (v : ℕ) → (has t.homed v ≡ true) ⊎ (in_register t.regs v ≡ true) → Known v
            was v (inl e) = s.known v (in_home (places t) v e)
            was v (inr e) = s.known v (in_reg (places t) v e)

    ---- One operation

    one_of : (o : Option ℕ) (v : ℕ) → has (option_to_list o) v ≡ true → o ≡ Some v
    one_of None v h = cc
    one_of (Some d) v h = ap Some (has_one d v h)

    is_one : (o : Option ℕ) (v : ℕ) → o ≡ Some v → has (option_to_list o) v ≡ true
    is_one None v e = cc
    is_one (Some d) v e = let q : d ≡ v = cc in ap (λ b. cond b true false) (ap (λ y. y == v) q ∙ test_same v)

    module _ (x : Lir) (xs : List Lir) (p : ℕ) (rest : List Position) (f : Follows need p (map at_operation (x ∷ xs) ++ rest)) (fit : IsFitting room x) (once : AreOnce (x ∷ xs)) (here : slice_get ops n ≡ Some (operation_of x)) (last : ℕ → Bool) (on : (v : ℕ) → alive need xs last v ≡ true → is_needed need (p + 1) v ≡ true) where
      made_here : (v : ℕ) → x.def ≡ Some v → has (defs_of (map operation_of (x ∷ xs))) v ≡ true
      made_here v d = has_front (option_to_list x.def) (defs_of (map operation_of xs)) v (is_one x.def v d)

      not_later : (v : ℕ) → x.def ≡ Some v → has (defs_of (map operation_of xs)) v ≡ false
      not_later v d = by (has (defs_of (map operation_of xs)) v) refl
        where
          by : (b : Bool) → has (defs_of (map operation_of xs)) v ≡ b → b ≡ false
          by false e = refl
          by true e = let a = times_of_in (option_to_list x.def) v (is_one x.def v d) in let b = times_of_in (defs_of (map operation_of xs)) v e in let c = times-append (option_to_list x.def) (defs_of (map operation_of xs)) v in let o = once v in absurd (omega (arith, a, b, c, o))

      not_known : (v : ℕ) → x.def ≡ Some v → At p (x ∷ xs) v → ⊥
      not_known v d k = let a = made_here v d in let z : true ≡ false = sym a ∙ k.1 in cc

      -- what is known before, and was looked at, is known behind
      behind_known : (v : ℕ) → At p (x ∷ xs) v → (has x.uses v ≡ true → is_needed need (p + 1) v ≡ true) → is_needed need (p + 1) v ≡ true
      behind_known v k seen = by (has x.uses v) refl
        where
          by : (b : Bool) → has x.uses v ≡ b → is_needed need (p + 1) v ≡ true
          by true e = seen e
          by false e = sym (passes need p (at_operation x) (map at_operation xs ++ rest) f v e) ∙ k.0

      module _ (t : Part) (w : Walked room ops n [] t) (s : Safe (alive need (x ∷ xs) last) (At p (x ∷ xs)) (places t)) where
        uses_live : (u : ℕ) → has x.uses u ≡ true → alive need (x ∷ xs) last u ≡ true
        uses_live u h = ap (λ b. cond b true (cond (has (option_to_list x.def) u) false (alive need xs last u))) h

        rest_live : (v : ℕ) → cond (has (option_to_list x.def) v) false (alive need xs last v) ≡ true → alive need (x ∷ xs) last v ≡ true
        rest_live v h = or_rest (has x.uses v) (cond (has (option_to_list x.def) v) false (alive need xs last v)) h

        middle : ℕ → Bool
        middle v = cond (has (option_to_list x.def) v) false (alive need xs last v)

        middle_live : (v : ℕ) → middle v ≡ true → alive need xs last v ≡ true
        unfolding middle
        middle_live v h = by (has (option_to_list x.def) v) h
          where
            by : (b : Bool) → cond b false (alive need xs last v) ≡ true → alive need xs last v ≡ true
            by true h = cc
            by false h = h

        ---- It isn't a call

        module _ (plain : is_call x.template ≡ false) where
          t1 : Part
          t1 = bring_all need p x.uses x.uses t

          t2 : Part
          t2 = drop_all need (p + 1) x.uses t1

          brought_kept : Walked room ops n x.uses t1 × Safe (alive need (x ∷ xs) last) (At p (x ∷ xs)) (places t1)
          unfolding t1
          brought_kept = all_brought room ops (alive need (x ∷ xs) last) (At p (x ∷ xs)) n need p x.uses (fit.few plain) uses_live t w s

          dropped_kept : Walked room ops n x.uses t2 × Safe middle (λ v. At p (x ∷ xs) v × (has x.uses v ≡ true → is_needed need (p + 1) v ≡ true)) (places t2)
          unfolding t2 middle
          dropped_kept = all_dropped need (p + 1) middle (λ v h. on v (middle_live v h)) room ops n x.uses x.uses (At p (x ∷ xs)) t1 brought_kept.0 (safe_less (alive need (x ∷ xs) last) (At p (x ∷ xs)) (places t1) brought_kept.1 middle (At p (x ∷ xs)) (λ v h. rest_live v h) (λ v k. k))

          known_behind : (v : ℕ) → placed (places t2) v ≡ true → is_needed need (p + 1) v ≡ true
          known_behind v h = let k = dropped_kept.1.known v h in behind_known v k.0 k.1

          same_drop : t2 ≡ drop_dead need (p + 1) t1
          unfolding t2
          same_drop = drop_same need (p + 1) x.uses t1 known_behind

          Mid : ℕ → Type 0
          Mid v = (is_needed need (p + 1) v ≡ true) × (has (defs_of (map operation_of (x ∷ xs))) v ≡ false)

          safe_mid : Safe middle Mid (places t2)
          unfolding Mid
          safe_mid = safe_less middle _ (places t2) dropped_kept.1 middle Mid (λ v h. h) (λ v k. (behind_known v k.0 k.1, k.0.1))

          defined_kept : (o : Option ℕ) → x.def ≡ o → Walked room ops (n + 1) [] (define_one need (p + 1) n o t2) × Safe (alive need xs last) (At (p + 1) xs) (places (define_one need (p + 1) n o t2))
          unfolding Mid middle
          defined_kept None d = (
            subst (λ o. Walked room ops (n + 1) [] (defines n o None t2)) d (defines_kept room ops n (operation_of x) None t2 here (record { plain = plain; given = subst (λ o. Rattle.loc_state.specs.Walked.Matches o None t2) (sym d) tt; empty = tt; absent = subst (λ o. IsAbsent room.values o t2) (sym d) tt }) dropped_kept.0),
            safe_less middle Mid (places t2) safe_mid (alive need xs last) (At (p + 1) xs) (λ v h. ap (λ o. cond (has (option_to_list o) v) false (alive need xs last v)) d ∙ h) (λ v k. (k.0, not_in_back (option_to_list x.def) (defs_of (map operation_of xs)) v k.1)),
          )
          defined_kept (Some v) d =
              let at = define_at_kept x v d plain (fit.def v d) here middle (alive need xs last) next_on Mid (λ w. (w ≡ v) ⊎ At (p + 1) xs w) knows new (p + 1) t2 dropped_kept.0 safe_mid in
              let one = one_dropped need (p + 1) (alive need xs last) on room ops (n + 1) [] (λ w. (w ≡ v) ⊎ At (p + 1) xs w) v (define_at need (p + 1) n v (lowest_empty 0 t2.regs) t2) at.0 at.1 in
              (one.0, safe_less (alive need xs last) _ _ one.1 (alive need xs last) (At (p + 1) xs) (λ w h. h) (λ w k. finally w k.0 k.1))
            where
              by : (w : ℕ) (b : Bool) → has (option_to_list x.def) w ≡ b → alive need xs last w ≡ true → (w ≡ v) ⊎ (cond b false (alive need xs last w) ≡ true)
              by w true e h = inl (let q : Some v ≡ Some w = sym d ∙ one_of x.def w e in let f : v ≡ w = cc in sym f)
              by w false e h = inr h

              next_on : (w : ℕ) → alive need xs last w ≡ true → (w ≡ v) ⊎ (middle w ≡ true)
              next_on w h = by w (has (option_to_list x.def) w) refl h

              knows : (w : ℕ) → (w ≡ v) ⊎ Mid w → (w ≡ v) ⊎ At (p + 1) xs w
              knows w (inl e) = inl e
              knows w (inr k) = inr (k.0, not_in_back (option_to_list x.def) (defs_of (map operation_of xs)) w k.1)

              new : (w : ℕ) → Mid w → (w ≡ v) → ⊥
              new w k e = let a = made_here v d in let z : true ≡ false = sym a ∙ ap (has (defs_of (map operation_of (x ∷ xs)))) (sym e) ∙ k.1 in cc

              finally : (w : ℕ) → (w ≡ v) ⊎ At (p + 1) xs w → ((w ≡ v) → is_needed need (p + 1) w ≡ true) → At (p + 1) xs w
              finally w (inl e) k = (k e, ap (has (defs_of (map operation_of xs))) e ∙ not_later v d)
              finally w (inr a) k = a

          plain_kept : Walked room ops (n + 1) [] (define_one need (p + 1) n x.def t2) × Safe (alive need xs last) (At (p + 1) xs) (places (define_one need (p + 1) n x.def t2)) × (define_one need (p + 1) n x.def t2 ≡ define_one need (p + 1) n x.def (drop_dead need (p + 1) t1))
          plain_kept = let d = defined_kept x.def refl in (d.0, d.1, ap (define_one need (p + 1) n x.def) same_drop)

        ---- It is a call

        module _ (call : is_call x.template ≡ true) where
          t3 : Part
          t3 = called n (operation_of x) (needed_in need (p + 1) t.regs) t

          can : CanCall room (operation_of x) t
          can = record { call = call; aimed = fit.aimed; enough = four; slots = fit.slots; uses = λ u h. s.covers u (uses_live u h); absent = by x.def refl }
            where
              no_place : (v : ℕ) → x.def ≡ Some v → (b : Bool) → placed (places t) v ≡ b → b ≡ false
              no_place v d false e = refl
              no_place v d true e = absurd (not_known v d (s.known v e))

              by : (o : Option ℕ) → x.def ≡ o → IsAbsent room.values o t
              by None d = tt
              by (Some v) d = (fit.def v d, no_place v d (placed (places t) v) refl)

          call_live : (v : ℕ) → alive need xs last v ≡ true → (x.def ≡ Some v) ⊎ ((alive need (x ∷ xs) last v ≡ true) × (is_needed need (p + 1) v ≡ true))
          call_live v h = by (has (option_to_list x.def) v) refl
            where
              by : (b : Bool) → has (option_to_list x.def) v ≡ b → (x.def ≡ Some v) ⊎ ((alive need (x ∷ xs) last v ≡ true) × (is_needed need (p + 1) v ≡ true))
              by true e = inl (one_of x.def v e)
              by false e = inr (rest_live v (ap (λ b. cond b false (alive need xs last v)) e ∙ h), on v h)

          t4 : Part
          t4 = drop_all need (p + 1) (x.uses ++ option_to_list x.def) t3

          left_kept : Walked room ops (n + 1) [] t4 × Safe (alive need xs last) (λ v. ((x.def ≡ Some v) ⊎ At p (x ∷ xs) v) × (has (x.uses ++ option_to_list x.def) v ≡ true → is_needed need (p + 1) v ≡ true)) (places t4)
          unfolding t4 t3
          left_kept = all_dropped need (p + 1) (alive need xs last) on room ops (n + 1) [] (x.uses ++ option_to_list x.def) (λ v. (x.def ≡ Some v) ⊎ At p (x ∷ xs) v) (called n (operation_of x) (needed_in need (p + 1) t.regs) t) (called_kept room ops n (operation_of x) (needed_in need (p + 1) t.regs) t here can w) (called_safe x (p + 1) t w (alive need (x ∷ xs) last) (alive need xs last) (At p (x ∷ xs)) s call_live)

          call_known : (v : ℕ) → ((x.def ≡ Some v) ⊎ At p (x ∷ xs) v) → (has (x.uses ++ option_to_list x.def) v ≡ true → is_needed need (p + 1) v ≡ true) → At (p + 1) xs v
          call_known v (inl d) seen = (seen (has_back x.uses (option_to_list x.def) v (is_one x.def v d)), not_later v d)
          call_known v (inr k) seen = (behind_known v k (λ h. seen (has_front x.uses (option_to_list x.def) v h)), not_in_back (option_to_list x.def) (defs_of (map operation_of xs)) v k.1)

          call_kept : Walked room ops (n + 1) [] t4 × Safe (alive need xs last) (At (p + 1) xs) (places t4) × (t4 ≡ drop_dead need (p + 1) t3)
          unfolding t4
          call_kept = (left_kept.0, safe_less (alive need xs last) _ (places t4) left_kept.1 (alive need xs last) (At (p + 1) xs) (λ v h. h) (λ v k. call_known v k.0 k.1), drop_same need (p + 1) (x.uses ++ option_to_list x.def) t3 (λ v h. (let k = left_kept.1.known v h in call_known v k.0 k.1).0))

        pub operate_kept : Walked room ops (n + 1) [] (operate need (drop_all need) p n x t) × Safe (alive need xs last) (At (p + 1) xs) (places (operate need (drop_all need) p n x t)) × (operate need (drop_all need) p n x t ≡ operate need (dead need) p n x t)
        unfolding t1 t2 t3 t4
        operate_kept = by x.call refl
          where
            by : (b : Bool) → x.call ≡ b → Walked room ops (n + 1) [] (cond b (call_one need (drop_all need) (p + 1) n x t) (define_one need (p + 1) n x.def (drop_all need (p + 1) x.uses (bring_all need p x.uses x.uses t)))) × Safe (alive need xs last) (At (p + 1) xs) (places (cond b (call_one need (drop_all need) (p + 1) n x t) (define_one need (p + 1) n x.def (drop_all need (p + 1) x.uses (bring_all need p x.uses x.uses t))))) × (cond b (call_one need (drop_all need) (p + 1) n x t) (define_one need (p + 1) n x.def (drop_all need (p + 1) x.uses (bring_all need p x.uses x.uses t))) ≡ cond b (call_one need (dead need) (p + 1) n x t) (define_one need (p + 1) n x.def (drop_dead need (p + 1) (bring_all need p x.uses x.uses t))))
            by true e = call_kept (sym fit.marked ∙ e)
            by false e = plain_kept (sym fit.marked ∙ e)

---- The operations of a node, up to position e

module _ (need : ℕ → ℕ → Option ℕ) (room : Room) (ops : List Operation) (four : 4 ≤ room.regs) (last : ℕ → Bool) (rest : List Position) (e : ℕ) (on : (v : ℕ) → last v ≡ true → is_needed need e v ≡ true) where
  pub operate_all_kept : (xs : List Lir) (p n : ℕ) (t : Part) → p + length xs ≡ e → Follows need p (map at_operation xs ++ rest) → AreFitting room xs → AreOnce xs → ((j : ℕ) → slice_get ops (n + j) ≡ slice_get (map operation_of xs) j) → n + length xs ≡ length ops → Walked room ops n [] t → Safe (alive need xs last) (At need p xs) (places t)
      → Walked room ops (length ops) [] (operate_all need (drop_all need) p n xs t) × Safe last (λ v. is_needed need e v ≡ true) (places (operate_all need (drop_all need) p n xs t)) × (operate_all need (drop_all need) p n xs t ≡ operate_all need (dead need) p n xs t)
  operate_all_kept [] p n t at f fit once there size w s =
      let q : p ≡ e = omega (arith, at) in
      (subst (λ m. Walked room ops m [] t) (omega (arith, size)) w, safe_less last (At need p []) (places t) s last _ (λ v h. h) (λ v k. ap (λ i. is_needed need i v) (sym q) ∙ k.0), refl)
  operate_all_kept (x ∷ xs) p n t at f fit once there size w s =
      let here : slice_get ops n ≡ Some (operation_of x) = (let z : n + 0 ≡ n = omega arith in ap (slice_get ops) (sym z) ∙ there 0) in
      let one = operate_kept need room ops n four x xs p rest f fit.0 once here last (alive_needed need xs last (p + 1) rest (follows_tail need p (at_operation x) (map at_operation xs ++ rest) f) (λ v h. let z : p + 1 + length xs ≡ e = omega (arith, at) in ap (λ i. is_needed need i v) z ∙ on v h)) t w s in
      let more = operate_all_kept xs (p + 1) (n + 1) (operate need (drop_all need) p n x t) (omega (arith, at)) (follows_tail need p (at_operation x) (map at_operation xs ++ rest) f) fit.1 (λ v. let o = once v in let c = times-append (option_to_list x.def) (defs_of (map operation_of xs)) v in omega (arith, o, c)) (λ j. let z : n + 1 + j ≡ n + suc j = omega arith in ap (slice_get ops) z ∙ there (suc j)) (omega (arith, size)) one.0 one.1 in
      (more.0, more.1, more.2 ∙ ap (operate_all need (dead need) (p + 1) (n + 1) xs) one.2)
