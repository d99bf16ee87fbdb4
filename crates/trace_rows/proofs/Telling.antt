-- Behind each line that the walk accepts, registers have what is told of them.
use Rattle.std.proofs.Common.{◌≡◌, ◌≢◌, ◌⊎◌, inl, inr, ℕ, zero, suc, ◌+◌, Bool, true, false, cond, List, [], ◌∷◌, map, length, drop, get_or, set, Option, Some, None, refl, sym, ap, ◌∙◌, subst}
use Rattle.std.specs.Prelude.{◌==◌, slice_get}
use Rattle.std.specs.Option.{option_map}
use Rattle.std.proofs.lemmas.Bool.Decides.{eqb_tells}
use Rattle.std.proofs.lemmas.Option.{slice_get-map}
use Rattle.std.proofs.lemmas.List.{drop-drop}
use Rattle.block_runs.specs.Blocks.{Operation}
use Rattle.block_runs.specs.Valid.{is_call}
use Rattle.block_runs.specs.Live.{has}
use Rattle.lir_core.specs.declared.flow.Lir.{Lir}
use Rattle.lir_core.specs.declared.places.Place.{Place}
use Rattle.lir_core.specs.declared.places.Place.TheVariants.{Reg, Home, Out}
use Rattle.lir_core.specs.declared.places.Move.{Move}
use Rattle.lir_core.specs.declared.places.Places.{Places}
use Rattle.lir_core.specs.declared.places.Line.{Line}
use Rattle.lir_core.specs.declared.places.Line.TheVariants.{Store, Load, Moves, Result, Target}
use Rattle.lir_core.specs.declared.places.Line.TheVariants.{Lir as Does}
use Rattle.lir_core.specs.Flows.{operation_of}
use Rattle.lir_core.specs.Spots.{Spot, reg, home, out, target, saved, spot, same, source, get, view_of}
use Rattle.lir_core.specs.Lines.{Room, def_spot}
use Rattle.lir_core.specs.Walks.{Walker, left, without, defined, perform, after, Can, Taken, AllTaken, Fits, Passes, begin, Walks}
use Rattle.trace_rows.specs.Registers.{left_by, made, def_register, performed, held_at, given, moved, behind, names_of}
use Rattle.trace_rows.specs.Told.{AreTold, line_names, EachTold}

---- Lists of registers

at_set : (regs : List (Option ℕ)) (d : ℕ) (x : Option ℕ) (v : ℕ) → get (set regs d x) d ≡ Some v → x ≡ Some v
at_set [] d x v h = cc
at_set (y ∷ ys) zero x v h = h
at_set (y ∷ ys) (suc d) x v h = at_set ys d x v h

beside_set : (regs : List (Option ℕ)) (d r : ℕ) (x : Option ℕ) (v : ℕ) → (r ≡ d → ⊥) → get (set regs d x) r ≡ Some v → get regs r ≡ Some v
beside_set [] d r x v n h = h
beside_set (y ∷ ys) zero zero x v n h = absurd (n refl)
beside_set (y ∷ ys) zero (suc r) x v n h = h
beside_set (y ∷ ys) (suc d) zero x v n h = h
beside_set (y ∷ ys) (suc d) (suc r) x v n h = beside_set ys d r x v (λ e. n (ap suc e)) h

-- what a register has that was written, or another
set_told : (regs : List (Option ℕ)) (d r : ℕ) (x : Option ℕ) (v : ℕ) → get (set regs d x) r ≡ Some v → cond (r == d) x (get regs r) ≡ Some v
set_told regs d r x v h = by (eqb_tells r d)
  where
    by : (((r == d) ≡ true) × (r ≡ d)) ⊎ (((r == d) ≡ false) × (r ≢ d)) → cond (r == d) x (get regs r) ≡ Some v
    by (inl (t, e)) = rw t (at_set regs d x v (subst (λ n. get (set regs d x) n ≡ Some v) e h))
    by (inr (t, n)) = rw t (beside_set regs d r x v n h)

none_left : (regs : List (Option ℕ)) (r v : ℕ) → get (map (λ x. None) regs) r ≡ Some v → ⊥
none_left [] r v h = cc
none_left (y ∷ ys) zero v h = cc
none_left (y ∷ ys) (suc r) v h = none_left ys r v h

get_without : (u : ℕ) (regs : List (Option ℕ)) (r : ℕ) → get (map (without u) regs) r ≡ without u (get regs r)
get_without u [] r = refl
get_without u (y ∷ ys) zero = refl
get_without u (y ∷ ys) (suc r) = get_without u ys r

-- what is left without a value was there
was_there : (u : ℕ) (o : Option ℕ) (v : ℕ) → without u o ≡ Some v → o ≡ Some v
was_there u None v h = cc
was_there u (Some x) v h = by (x == u) h
  where
    by : (b : Bool) → cond b None (Some x) ≡ Some v → Some x ≡ Some v
    by true h = cc
    by false h = h

---- Homes have the values whose they are

abbrev AreOwn : (Spot → Option ℕ) → Type 0
AreOwn view = (u v : ℕ) → view (home u) ≡ Some v → u ≡ v

---- Moves

-- what is told of a place is there, if anything is
held_is : (view : Spot → Option ℕ) (regs : List (Option ℕ)) (from : Place) (x v : ℕ) → AreTold regs view → AreOwn view → view (spot from) ≡ Some x → held_at regs from ≡ Some v → view (spot from) ≡ Some v
held_is view regs (Reg q) x v told own e h = told q v h
held_is view regs (Home u) x v told own e h =
    let same_value : u ≡ x = own u x e in
    e ∙ ap Some (sym same_value) ∙ h
held_is view regs (Out s) x v told own e h = cc

-- a spot takes something
some_taken : (room : Room) (to : Spot) (o : Option ℕ) → Taken room to o → (x : ℕ) × (o ≡ Some x)
some_taken room (reg r) None t = absurd t
some_taken room (home u) None t = absurd t
some_taken room (out s) None t = absurd t
some_taken room target None t = absurd t
some_taken room saved None t = absurd t
some_taken room to (Some x) t = (x, refl)

module _ (room : Room) (view : Spot → Option ℕ) (old : List (Option ℕ)) (told : AreTold old view) (own : AreOwn view) where
  given_told : (to from : Place) (new : List (Option ℕ)) (rest : Spot → Spot) → Taken room (spot to) (view (spot from)) → ((r v : ℕ) → get new r ≡ Some v → view (rest (reg r)) ≡ Some v)
      → (r v : ℕ) → get (given to (held_at old from) new) r ≡ Some v → view (cond (same (reg r) (spot to)) (spot from) (rest (reg r))) ≡ Some v
  given_told (Reg d) from new rest t more r v h = by (r == d) (set_told new d r (held_at old from) v h)
    where
      by : (b : Bool) → cond b (held_at old from) (get new r) ≡ Some v → view (cond b (spot from) (rest (reg r))) ≡ Some v
      by true h = let some = some_taken room (reg d) (view (spot from)) t in held_is view old from some.0 v told own some.1 h
      by false h = more r v h
  given_told (Home u) from new rest t more r v h = more r v h
  given_told (Out s) from new rest t more r v h = more r v h

  moves_told : (ms : List Move) → AllTaken room view ms → (r v : ℕ) → get (moved old ms) r ≡ Some v → view (source ms (reg r)) ≡ Some v
  moves_told [] all r v h = told r v h
  moves_told (m ∷ ms) all r v h = given_told m.to m.from (moved old ms) (source ms) all.1 (moves_told ms all.2) r v h

  given_own : (to from : Place) (rest : Spot → Spot) → Taken room (spot to) (view (spot from)) → ((u v : ℕ) → view (rest (home u)) ≡ Some v → u ≡ v)
      → (u v : ℕ) → view (cond (same (home u) (spot to)) (spot from) (rest (home u))) ≡ Some v → u ≡ v
  given_own (Reg d) from rest t more u v h = more u v h
  given_own (Home d) from rest t more u v h = by (eqb_tells u d)
    where
      by : (((u == d) ≡ true) × (u ≡ d)) ⊎ (((u == d) ≡ false) × (u ≢ d)) → u ≡ v
      by (inl (q, e)) =
          let at : view (spot from) ≡ Some v = sym (ap (λ b. view (cond b (spot from) (rest (home u)))) q) ∙ h in
          e ∙ (subst (Taken room (home d)) at t).0
      by (inr (q, n)) = more u v (sym (ap (λ b. view (cond b (spot from) (rest (home u)))) q) ∙ h)
  given_own (Out s) from rest t more u v h = more u v h

  moves_own : (ms : List Move) → AllTaken room view ms → (u v : ℕ) → view (source ms (home u)) ≡ Some v → u ≡ v
  moves_own [] all u v h = own u v h
  moves_own (m ∷ ms) all u v h = given_own m.to m.from (source ms) all.1 (moves_own ms all.2) u v h

---- Operations

left_told : (call : Bool) (view : Spot → Option ℕ) (regs : List (Option ℕ)) → AreTold regs view → AreTold (left_by call regs) (left call view)
left_told true view regs told r v h = absurd (none_left regs r v h)
left_told false view regs told r v h = told r v h

made_told : (view : Spot → Option ℕ) (regs : List (Option ℕ)) (d : ℕ) (def : Option ℕ) → AreTold regs view → AreTold (made d def regs) (defined def (reg d) view)
made_told view regs d None told r v h = told r v h
made_told view regs d (Some u) told r v h = by (r == d) (set_told (map (without u) regs) d r (Some u) v h)
  where
    by : (b : Bool) → cond b (Some u) (get (map (without u) regs) r) ≡ Some v → cond b (Some u) (without u (view (reg r))) ≡ Some v
    by true h = h
    by false h =
        let before : without u (get regs r) ≡ Some v = sym (get_without u regs r) ∙ h in
        let at : get regs r ≡ Some v = was_there u (get regs r) v before in
        ap (without u) (told r v at ∙ sym at) ∙ before

spot_is : (op : Lir) (named : List ℕ) → def_spot (operation_of op) named ≡ reg (def_register op named)
spot_is op named = by (is_call op.template)
  where
    by : (b : Bool) → cond b (reg 0) (reg (get_or named (length op.uses) 0)) ≡ reg (cond b 0 (get_or named (length op.uses) 0))
    by true = refl
    by false = refl

left_own : (call : Bool) (view : Spot → Option ℕ) → AreOwn view → AreOwn (left call view)
left_own true view own u v h = own u v h
left_own false view own u v h = own u v h

made_own : (view : Spot → Option ℕ) (d : ℕ) (def : Option ℕ) → AreOwn view → AreOwn (defined def (reg d) view)
made_own view d None own u v h = own u v h
made_own view d (Some x) own u v h = own u v (was_there x (view (home u)) v h)

performed_told : (op : Lir) (w : Walker) (regs : List (Option ℕ)) → AreTold regs w.view → AreTold (performed w.named (Some op) regs) (perform (Some (operation_of op)) w).view
performed_told op w regs told =
    subst (λ d. AreTold (performed w.named (Some op) regs) (defined op.def d (left (is_call op.template) w.view))) (sym (spot_is op w.named))
    (made_told (left (is_call op.template) w.view) (left_by (is_call op.template) regs) (def_register op w.named) op.def (left_told (is_call op.template) w.view regs told))

performed_own : (op : Lir) (w : Walker) → AreOwn w.view → AreOwn (perform (Some (operation_of op)) w).view
performed_own op w own =
    subst (λ d. AreOwn (defined op.def d (left (is_call op.template) w.view))) (sym (spot_is op w.named))
    (made_own (left (is_call op.template) w.view) (def_register op w.named) op.def (left_own (is_call op.template) w.view own))

---- Lines

-- what is told behind a line, that homes are their own, and which registers are still named
record Behind (ops : List Lir) (l : Line) (w : Walker) (regs : List (Option ℕ)) : Type 0 where
  told : AreTold (behind ops w.named l regs) (after (map operation_of ops) l w).view
  own : AreOwn (after (map operation_of ops) l w).view
  named : (after (map operation_of ops) l w).named ≡ drop (line_names ops l) w.named

module _ (room : Room) (ops : List Lir) (w : Walker) (regs : List (Option ℕ)) (told : AreTold regs w.view) (own : AreOwn w.view) where
  done_behind : (i : ℕ) (o : Option Lir) → slice_get ops i ≡ o → Can room.regs (option_map operation_of o) i w → Behind ops (Does i) w regs
  done_behind i None e can = absurd can
  done_behind i (Some op) e can =
      let there : slice_get (map operation_of ops) i ≡ Some (operation_of op) = slice_get-map operation_of ops i ∙ ap (option_map operation_of) e in
      record {
        told = subst (λ (o : Option Lir). AreTold (performed w.named o regs) (perform (slice_get (map operation_of ops) i) w).view) (sym e)
            (subst (λ (o : Option Operation). AreTold (performed w.named (Some op) regs) (perform o w).view) (sym there) (performed_told op w regs told));
        own = subst (λ (o : Option Operation). AreOwn (perform o w).view) (sym there) (performed_own op w own);
        named = ap (λ (o : Option Operation). (perform o w).named) there ∙ sym (ap (λ (o : Option Lir). drop (names_of o) w.named) e);
      }

  stored_own : (r v : ℕ) → w.view (reg r) ≡ Some v → (u x : ℕ) → w.view (cond (u == v) (reg r) (home u)) ≡ Some x → u ≡ x
  stored_own r v has_it u x h = by (eqb_tells u v)
    where
      by : (((u == v) ≡ true) × (u ≡ v)) ⊎ (((u == v) ≡ false) × (u ≢ v)) → u ≡ x
      by (inl (q, e)) =
          let at : w.view (reg r) ≡ Some x = sym (ap (λ b. w.view (cond b (reg r) (home u))) q) ∙ h in
          let both : Some v ≡ Some x = sym has_it ∙ at in
          let last : v ≡ x = cc in
          e ∙ last
      by (inr (q, n)) = own u x (sym (ap (λ b. w.view (cond b (reg r) (home u))) q) ∙ h)

  loaded_told : (r v : ℕ) → w.view (home v) ≡ Some v → (q x : ℕ) → get (set regs r (Some v)) q ≡ Some x → w.view (cond (q == r) (home v) (reg q)) ≡ Some x
  loaded_told r v has_it q x h = by (q == r) (set_told regs r q (Some v) x h)
    where
      by : (b : Bool) → cond b (Some v) (get regs q) ≡ Some x → w.view (cond b (home v) (reg q)) ≡ Some x
      by true e = has_it ∙ e
      by false e = told q x e

  result_told : (r q x : ℕ) → get (set (set regs r (get regs 0)) 0 None) q ≡ Some x → cond (q == 0) None (w.view (cond (q == r) (reg 0) (reg q))) ≡ Some x
  result_told r q x h = by (q == 0) (set_told (set regs r (get regs 0)) 0 q None x h)
    where
      inner : (b : Bool) → cond b (get regs 0) (get regs q) ≡ Some x → w.view (cond b (reg 0) (reg q)) ≡ Some x
      inner true e = told 0 x e
      inner false e = told q x e

      by : (b : Bool) → cond b None (get (set regs r (get regs 0)) q) ≡ Some x → cond b None (w.view (cond (q == r) (reg 0) (reg q))) ≡ Some x
      by true e = cc
      by false e = inner (q == r) (set_told regs r q (get regs 0) x e)

  line_behind : (l : Line) → Fits room (map operation_of ops) l w → Behind ops l w regs
  line_behind (Does i) fits = done_behind i (slice_get ops i) refl (subst (λ (o : Option Operation). Can room.regs o i w) (slice_get-map operation_of ops i) fits)
  line_behind (Store r v) fits = record { told = told; own = stored_own r v fits.2; named = refl }
  line_behind (Load r v) fits = record { told = loaded_told r v fits.2; own = own; named = refl }
  line_behind (Moves ms) fits = record { told = moves_told room w.view regs told own ms fits.1; own = moves_own room w.view regs told own ms fits.1; named = refl }
  line_behind (Result r) fits = record { told = result_told r; own = own; named = refl }
  line_behind (Target from) fits = record { told = told; own = own; named = refl }

each_told : (room : Room) (ops : List Lir) (named : List ℕ) (ls : List Line) (used : ℕ) (w : Walker) (regs : List (Option ℕ)) → Passes room (map operation_of ops) ls w → w.named ≡ drop used named
    → AreTold regs w.view → AreOwn w.view → EachTold ops named ls used w regs
each_told room ops named [] used w regs passes is told own = told
each_told room ops named (l ∷ ls) used w regs passes is told own =
    let b = line_behind room ops w regs told own l passes.0 in
    let next = after (map operation_of ops) l w in (
      told,
      each_told room ops named ls (used + line_names ops l) next (behind ops (drop used named) l regs) passes.1
          (b.named ∙ ap (drop (line_names ops l)) is ∙ drop-drop (line_names ops l) used named)
          (subst (λ ns. AreTold (behind ops ns l regs) next.view) is b.told) b.own,
    )

starts_own : (start : Places) → AreOwn (view_of start)
starts_own start u v h = by (has start.homed u) h
  where
    by : (b : Bool) → cond b (Some u) None ≡ Some v → u ≡ v
    by true e = cc
    by false e = cc

pub told_is_walked : (room : Room) (ops : List Lir) (last : List ℕ) (start : Places) (lines : List Line) (named : List ℕ) (end : Places)
    → Walks room (map operation_of ops) last start lines named end → EachTold ops named lines 0 (begin start named) start.regs
told_is_walked room ops last start lines named end walks =
    each_told room ops named lines 0 (begin start named) start.regs walks.passes refl (λ r v h. h) (starts_own start)
