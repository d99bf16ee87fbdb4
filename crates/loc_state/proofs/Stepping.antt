-- Each step keeps that the lines so far simulate the node so far.
use Rattle.std.proofs.Common.{◌≡◌, ℕ, suc, ◌+◌, ◌<◌, Bool, true, false, cond, List, [], ◌∷◌, ◌++◌, length, drop, set, Option, Some, None, refl, sym, ap, ◌∙◌, subst, arith, length-append}
use Rattle.std.specs.Prelude.{◌==◌, slice_get}
use Rattle.std.proofs.lemmas.List.{drop-append-le, drop_all, get_or-set_same}
use Rattle.block_runs.specs.Blocks.{Operation}
use Rattle.block_runs.specs.Live.{has}
use Rattle.block_runs.specs.Valid.{is_call}
use Rattle.lir_core.specs.declared.places.Places.{Places}
use Rattle.lir_core.specs.declared.places.Line.TheVariants.{Store, Load}
use Rattle.lir_core.specs.declared.places.Line.TheVariants.{Lir as Does}
use Rattle.lir_core.specs.Spots.{Spot, reg, home, out, target, saved, get, view_of, placed}
use Rattle.lir_core.specs.Lines.{Room}
use Rattle.lir_core.specs.Walks.{Can, perform, after, begin, Below, Walks, Finishes}
use Rattle.loc_state.specs.declared.part.Part.{Part}
use Rattle.loc_state.specs.Registers.{register_of}
use Rattle.loc_state.specs.Homed.{inserted, all_inserted}
use Rattle.loc_state.specs.Steps.{places, begun, brought, saving, evicted, dropped, defines, only, keeps_one, keeps_all}
use Rattle.loc_state.specs.Steps as steps
use Rattle.loc_state.specs.Walked.{AreValues, Stands, Walked, Apart, CanBring, Matches, IsAbsent, CanDefine}
use Rattle.loc_state.proofs.Frame.{extra, reaches_named, reaches_line}
use Rattle.loc_state.proofs.Homing.{has_inserted, has_all_inserted}
use Rattle.loc_state.proofs.Keeping.{is_marked, marked, noted_stands, loaded_stands, stored_stands, emptied_stands, dropped_stands, CanIf, perform_if, can_define, can_do, done_stands, defined_stands}
use Rattle.loc_state.proofs.Numbers.{nothing, in_row}

module _ (room : Room) (ops : List Operation) (n : ℕ) (noted : List ℕ) (t : Part) (w : Walked room ops n noted t) where
  note : (r v : ℕ) → get t.regs r ≡ Some v → Walked room ops n (noted ++ v ∷ []) (record t { named = t.named ++ r ∷ [] })
  note r v e = record {
    at = extra w.at (r ∷ []);
    reaches = reaches_named room ops t.start t.lines t.named w.at (r ∷ []) w.reaches;
    stands = noted_stands room n noted (places t) w.at w.stands r v (let m = w.stands.registers in let l = in_row t.regs r v e in omega (arith, m, l)) e;
    within = let m = w.within in omega (arith, m, length-append t.named (r ∷ []));
    fresh = ap (λ x. x ++ r ∷ []) w.fresh ∙ sym (drop-append-le t.since t.named (r ∷ []) w.within);
  }

  loads : (r v : ℕ) → has t.homed v ≡ true → r < length t.regs → Apart r (drop t.since t.named) → Walked room ops n noted (record t { regs = set t.regs r (Some v); lines = t.lines ++ Load r v ∷ [] })
  loads r v h l a =
      let in_k : r < room.regs = let m = w.stands.registers in omega (arith, m, l) in
      let here = marked (places t) v h in
      record {
        at = after ops (Load r v) w.at;
        reaches = reaches_line room ops t.start t.lines t.named w.at (Load r v) w.reaches (in_k, w.stands.values (home v) v here, w.stands.places (home v) v here);
        stands = loaded_stands room n noted (places t) w.at w.stands ops r v in_k h (subst (Apart r) (sym w.fresh) a);
        within = w.within;
        fresh = w.fresh;
      }

  stores : (r v : ℕ) → get t.regs r ≡ Some v → Walked room ops n noted (record t { homed = inserted v t.homed; lines = t.lines ++ Store r v ∷ [] })
  stores r v e =
      let in_k : r < room.regs = let m = w.stands.registers in let l = in_row t.regs r v e in omega (arith, m, l) in
      record {
        at = after ops (Store r v) w.at;
        reaches = reaches_line room ops t.start t.lines t.named w.at (Store r v) w.reaches (in_k, w.stands.values (reg r) v e, w.stands.places (reg r) v e);
        stands = stored_stands room n noted (places t) w.at w.stands ops r v e;
        within = w.within;
        fresh = w.fresh;
      }

  -- homing what is homed changes nothing that is said of places
  homes_again : (v : ℕ) → has t.homed v ≡ true → Walked room ops n noted (record t { homed = inserted v t.homed })
  homes_again v h = record {
    at = w.at;
    reaches = w.reaches;
    within = w.within;
    fresh = w.fresh;
    stands = record { registers = w.stands.registers; next = w.stands.next; in_range = w.stands.in_range; uses = w.stands.uses; values = λ p u e. w.stands.values p u (same_view p u e); places = λ p u e. w.stands.places p u (same_view p u e) };
  }
    where
      by : (b c : Bool) → c ≡ true → cond b true c ≡ true → c ≡ true
      by b c e h = e

      again : (x : ℕ) (b : Bool) → (v == x) ≡ b → cond b true (has t.homed x) ≡ true → has t.homed x ≡ true
      again x true e g = ap (has t.homed) (sym (Rattle.loc_state.proofs.Numbers.numbers_same v x e)) ∙ h
      again x false e g = g

      same_view : (p : Spot) (u : ℕ) → view_of (record { regs = t.regs; homed = inserted v t.homed }) p ≡ Some u → view_of (places t) p ≡ Some u
      same_view (reg r) u e = e
      same_view (home x) u e = let m = is_marked (has (inserted v t.homed) x) x u e in marked (places t) x (again x (v == x) refl (sym (has_inserted v t.homed x) ∙ m.0)) ∙ ap Some m.1
      same_view (out s) u e = e
      same_view target u e = e
      same_view saved u e = e

  -- a register's value is stored where it isn't homed
  saves : (r v : ℕ) → get t.regs r ≡ Some v → Walked room ops n noted (record t { homed = inserted v t.homed; lines = saving r (Some v) t.homed t.lines })
  saves r v e = at_mark (has t.homed v) refl
    where
      at_mark : (b : Bool) → has t.homed v ≡ b → Walked room ops n noted (record t { homed = inserted v t.homed; lines = cond b t.lines (t.lines ++ Store r v ∷ []) })
      at_mark true h = homes_again v h
      at_mark false h = stores r v e

  pub empties : (r : ℕ) → r < length t.regs → Walked room ops n noted (record t { regs = set t.regs r None })
  empties r l = record {
    at = w.at;
    reaches = w.reaches;
    within = w.within;
    fresh = w.fresh;
    stands = emptied_stands room n noted (places t) w.at w.stands r (let m = w.stands.registers in omega (arith, m, l));
  }

  pub drops : (v : ℕ) → Walked room ops n noted (dropped v t)
  drops v = record { at = w.at; reaches = w.reaches; within = w.within; fresh = w.fresh; stands = dropped_stands room n noted (places t) w.at w.stands v }

pub evicts : (room : Room) (ops : List Operation) (n : ℕ) (noted : List ℕ) (t : Part) → Walked room ops n noted t → (r : ℕ) → r < length t.regs → Walked room ops n noted (evicted r t)
evicts room ops n noted t w r l = at_value (get t.regs r) refl
  where
    at_value : (o : Option ℕ) → get t.regs r ≡ o → Walked room ops n noted (record t { regs = set t.regs r None; homed = steps.saved o t.homed; lines = saving r o t.homed t.lines })
    at_value None e = empties room ops n noted t w r l
    at_value (Some v) e = empties room ops n noted (record t { homed = inserted v t.homed; lines = saving r (Some v) t.homed t.lines }) (saves room ops n noted t w r v e) r l

pub brings : (room : Room) (ops : List Operation) (n : ℕ) (noted : List ℕ) (t : Part) → Walked room ops n noted t → (v : ℕ) (o : Option ℕ) → CanBring v o t → Walked room ops n (noted ++ v ∷ []) (brought v o t)
brings room ops n noted t w v None can = note room ops n noted t w (register_of v t.regs) v can
brings room ops n noted t w v (Some r) can =
    let t' : Part = record t { regs = set t.regs r (Some v); lines = t.lines ++ Load r v ∷ [] } in
    note room ops n noted t' (loads room ops n noted t w r v can.0 can.1 can.3) r v (get_or-set_same t.regs r (Some v) None can.1)

---- Operations that aren't calls

module _ (room : Room) (ops : List Operation) (n : ℕ) (op : Operation) (t : Part) (w : Walked room ops n op.uses t) (here : slice_get ops n ≡ Some op) (plain : is_call op.code ≡ false) where
  does_nothing : op.def ≡ None → Walked room ops (n + 1) [] (record t { lines = t.lines ++ Does n ∷ []; since = length t.named })
  does_nothing d =
      let z = w.at in
      let s = w.stands in
      let can : Can room.regs (Some op) n z = subst (λ b. CanIf b room.regs op n z) (sym plain) (can_do room n op (places t) z s d) in
      let behind : Stands room (n + 1) [] (places t) (perform (Some op) z) = subst (λ b. Stands room (n + 1) [] (places t) (perform_if b op z)) (sym plain) (done_stands room n op (places t) z s d) in
      let after_it : Stands room (n + 1) [] (places t) (after ops (Does n) z) = subst (λ o. Stands room (n + 1) [] (places t) (perform o z)) (sym here) behind in
      record {
        at = after ops (Does n) z;
        reaches = reaches_line room ops t.start t.lines t.named z (Does n) w.reaches (subst (λ o. Can room.regs o n z) (sym here) can);
        stands = after_it;
        within = omega arith;
        fresh = nothing _ _ after_it.uses ∙ sym (drop_all (length t.named) t.named (omega arith));
      }

  defines_one : (v r : ℕ) → op.def ≡ Some v → r < length t.regs → v < room.values → placed (places t) v ≡ false → Walked room ops (n + 1) [] (record t { regs = set t.regs r (Some v); lines = t.lines ++ Does n ∷ []; named = t.named ++ r ∷ []; since = length t.named + 1 })
  defines_one v r d l below absent =
      let in_k : r < room.regs = let m = w.stands.registers in omega (arith, m, l) in
      let s = w.stands in
      let q : Places = record { regs = set t.regs r (Some v); homed = t.homed } in
      let z = extra w.at (r ∷ []) in
      let can : Can room.regs (Some op) n z = subst (λ b. CanIf b room.regs op n z) (sym plain) (can_define room n op (places t) w.at s v r d in_k) in
      let behind : Stands room (n + 1) [] q (perform (Some op) z) = subst (λ b. Stands room (n + 1) [] q (perform_if b op z)) (sym plain) (defined_stands room n op (places t) w.at s v r d in_k below absent) in
      let after_it : Stands room (n + 1) [] q (after ops (Does n) z) = subst (λ o. Stands room (n + 1) [] q (perform o z)) (sym here) behind in
      let size = length-append t.named (r ∷ []) in
      record {
        at = after ops (Does n) z;
        reaches = reaches_line room ops t.start t.lines (t.named ++ r ∷ []) z (Does n) (reaches_named room ops t.start t.lines t.named w.at (r ∷ []) w.reaches) (subst (λ o. Can room.regs o n z) (sym here) can);
        stands = after_it;
        within = omega (arith, size);
        fresh = nothing _ _ after_it.uses ∙ sym (drop_all (length t.named + 1) (t.named ++ r ∷ []) (omega (arith, size)));
      }

pub defines_kept : (room : Room) (ops : List Operation) (n : ℕ) (op : Operation) (place : Option ℕ) (t : Part) → slice_get ops n ≡ Some op → CanDefine room.values op place t → Walked room ops n op.uses t → Walked room ops (n + 1) [] (defines n op.def place t)
defines_kept room ops n op place t here can w = by op.def refl place can.given can.absent
  where
    by : (o : Option ℕ) → op.def ≡ o → (place : Option ℕ) → Matches o place t → IsAbsent room.values o t → Walked room ops (n + 1) [] (defines n o place t)
    by None d None m a = does_nothing room ops n op t w here can.plain d
    by None d (Some r) m a = absurd m
    by (Some v) d None m a = absurd m
    by (Some v) d (Some r) m a = defines_one room ops n op t w here can.plain v r d m a.0 a.1

---- A node's beginning and end

pub begins : (room : Room) (ops : List Operation) (q : Places) → length q.regs ≡ room.regs → AreValues room.values q → Walked room ops 0 [] (begun q)
begins room ops q l v = record {
  at = begin q [];
  reaches = record { passes = tt; is = refl };
  stands = record { registers = l; next = refl; in_range = tt; uses = refl; values = λ p u e. v p u (same_view p u e); places = same_view };
  within = omega arith;
  fresh = refl;
}
  where
    plain : (a : Bool) → cond a true false ≡ a
    plain true = refl
    plain false = refl

    same_view : Below (view_of (places (begun q))) (view_of q)
    same_view (reg r) u e = e
    same_view (home x) u e = let m = is_marked (has (all_inserted q.homed []) x) x u e in marked q x (sym (plain (has q.homed x)) ∙ sym (has_all_inserted q.homed [] x) ∙ m.0) ∙ ap Some m.1
    same_view (out s) u e = e
    same_view target u e = e
    same_view saved u e = e

pub ends : (room : Room) (ops : List Operation) (last : List ℕ) (t : Part) → Walked room ops (length ops) last t → Walks room ops last t.start t.lines t.named (places t)
ends room ops last t w = record {
  passes = w.reaches.passes;
  finishes = subst (Finishes room.regs ops last (places t)) (sym w.reaches.is) (record { done = w.stands.next; in_range = w.stands.in_range; uses = w.stands.uses; places = w.stands.places });
}

---- What is kept for a call

pub keeps_one_kept : (room : Room) (ops : List Operation) (n : ℕ) (noted : List ℕ) (keep : List ℕ) (r : ℕ) (t : Part) → Walked room ops n noted t → Walked room ops n noted (keeps_one keep r (get t.regs r) t)
keeps_one_kept room ops n noted keep r t w = at_value (get t.regs r) refl
  where
    at_value : (o : Option ℕ) → get t.regs r ≡ o → Walked room ops n noted (keeps_one keep r o t)
    at_value None e = w
    at_value (Some v) e = at_test (has keep v)
      where
        at_test : (b : Bool) → Walked room ops n noted (record t { homed = steps.saved (cond b (Some v) None) t.homed; lines = saving r (cond b (Some v) None) t.homed t.lines })
        at_test true = saves room ops n noted t w r v e
        at_test false = w

pub keeps_all_kept : (room : Room) (ops : List Operation) (n : ℕ) (noted : List ℕ) (keep : List ℕ) (os : List (Option ℕ)) (r : ℕ) (t : Part) → ((j : ℕ) → get t.regs (r + j) ≡ get os j) → Walked room ops n noted t → Walked room ops n noted (keeps_all keep r os t)
keeps_all_kept room ops n noted keep [] r t at w = w
keeps_all_kept room ops n noted keep (o ∷ os) r t at w =
    let here : get t.regs r ≡ o = (let e : r + 0 ≡ r = omega arith in ap (get t.regs) (sym e) ∙ at 0) in
    keeps_all_kept room ops n noted keep os (suc r) (keeps_one keep r o t) (λ j. let e : suc r + j ≡ r + suc j = omega arith in ap (get t.regs) e ∙ at (suc j)) (subst (λ x. Walked room ops n noted (keeps_one keep r x t)) here (keeps_one_kept room ops n noted keep r t w))
