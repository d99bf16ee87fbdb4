-- What tests tell: a line that passes its test fits, and an end that passes its test finishes.
use Rattle.std.proofs.Common.{◌≡◌, ℕ, zero, suc, ◌+◌, Bool, true, false, not, cond, List, [], ◌∷◌, map, length, take, Option, Some, None, refl, sym, ap, ◌∙◌, arith}
use Rattle.std.specs.Prelude.{slice_get, ◌==◌, nat_lt, nat_le}
use Rattle.std.specs.List.{list_all}
use Rattle.std.proofs.lemmas.Bool.{and_parts, ltb-true, leb-true, eqb-true, eqb-false, not-true}
use Rattle.block_runs.specs.Blocks.{Operation}
use Rattle.block_runs.specs.Live.{has}
use Rattle.lir_core.specs.declared.places.Move.{Move}
use Rattle.lir_core.specs.declared.places.Places.{Places}
use Rattle.lir_core.specs.declared.places.Line.{Line}
use Rattle.lir_core.specs.declared.places.Line.TheVariants.{Store, Load, Moves, Result, Target}
use Rattle.lir_core.specs.declared.places.Line.TheVariants.{Lir as Does}
use Rattle.lir_core.specs.Spots.{Spot, reg, home, out, target, saved, same, spot, view_of, get, in_register, IsSingle, IsRising}
use Rattle.lir_core.specs.Lines.{use_spots, names, Room, InRange, IsFree, AreDistinct, AllBelow}
use Rattle.lir_core.specs.Walks.{Walker, after, Can, Taken, AllTaken, Fits, Passes, Below}
use Rattle.alloc_audit.specs.Tests.{is_value, stand, is_in_range, are_below, is_ready, can_do, can_take, can_move, is_free, are_distinct, fits, first_unfit}
use Rattle.alloc_audit.specs.Nodes.{is_single, is_rising, are_true}

pub value_is : (o : Option ℕ) (v : ℕ) → is_value o v ≡ true → o ≡ Some v
value_is None v e = cc
value_is (Some u) v e = ap Some (eqb-true u v e)

pub stand_is : {A : Type 0} (at : A → Option ℕ) (ps : List A) (vs : List ℕ) → stand at ps vs ≡ true → map at ps ≡ map Some vs
stand_is at [] [] e = refl
stand_is at [] (v ∷ vs) e = cc
stand_is at (p ∷ ps) [] e = cc
stand_is at (p ∷ ps) (v ∷ vs) e =
    let a = and_parts (is_value (at p) v) (stand at ps vs) e in
    let b = value_is (at p) v a.0 in
    let d = stand_is at ps vs a.1 in
    cc

pub in_range : (room : Room) (p : Spot) → is_in_range room p ≡ true → InRange room p
in_range room (reg r) e = ltb-true _ _ e
in_range room (home v) e = ltb-true _ _ e
in_range room (out s) e = ltb-true _ _ e
in_range room target e = tt
in_range room saved e = tt

pub all_below : (k : ℕ) (xs : List ℕ) → are_below k xs ≡ true → AllBelow k xs
all_below k [] e = tt
all_below k (x ∷ xs) e = let a = and_parts (nat_lt x k) (are_below k xs) e in (ltb-true _ _ a.0, all_below k xs a.1)

pub can : (k : ℕ) (o : Option Operation) (i : ℕ) (w : Walker) → can_do k o i w ≡ true → Can k o i w
can k None i w e = cc
can k (Some op) i w e =
    let d = and_parts (i == w.next) (is_ready k op w) e in
    let a = and_parts _ (stand w.view (use_spots op w.named) op.uses) d.1 in
    let b = and_parts (nat_le (names op) (length w.named)) (are_below k (take (names op) w.named)) a.0 in
    (eqb-true _ _ d.0, leb-true _ _ b.0, all_below k (take (names op) w.named) b.1, stand_is w.view (use_spots op w.named) op.uses a.1)

pub taken : (room : Room) (to : Spot) (o : Option ℕ) → can_take room to o ≡ true → Taken room to o
taken room (reg r) None e = cc
taken room (home u) None e = cc
taken room (out s) None e = cc
taken room target None e = cc
taken room saved None e = cc
taken room (reg r) (Some v) e = ltb-true _ _ e
taken room (home u) (Some v) e = let a = and_parts (u == v) (nat_lt u room.values) e in (eqb-true _ _ a.0, ltb-true _ _ a.1)
taken room (out s) (Some v) e = ltb-true _ _ e
taken room target (Some v) e = tt
taken room saved (Some v) e = tt

pub all_taken : (room : Room) (view : Spot → Option ℕ) (ms : List Move) → list_all (can_move room view) ms ≡ true → AllTaken room view ms
all_taken room view [] e = tt
all_taken room view (m ∷ ms) e =
    let a = and_parts (can_move room view m) (list_all (can_move room view) ms) e in
    let b = and_parts (is_in_range room (spot m.from)) (can_take room (spot m.to) (view (spot m.from))) a.0 in
    (in_range room (spot m.from) b.0, taken room (spot m.to) (view (spot m.from)) b.1, all_taken room view ms a.1)

pub free : (p : Spot) (ms : List Move) → is_free p ms ≡ true → IsFree p ms
free p [] e = tt
free p (m ∷ ms) e = let a = and_parts (not (same p (spot m.to))) (is_free p ms) e in (not-true _ a.0, free p ms a.1)

pub distinct : (ms : List Move) → are_distinct ms ≡ true → AreDistinct ms
distinct [] e = tt
distinct (m ∷ ms) e = let a = and_parts (is_free (spot m.to) ms) (are_distinct ms) e in (free (spot m.to) ms a.0, distinct ms a.1)

module _ (room : Room) (ops : List Operation) where
  pub line_fits : (l : Line) (w : Walker) → fits room ops l w ≡ true → Fits room ops l w
  line_fits (Does i) w e = can room.regs (slice_get ops i) i w e
  line_fits (Store r v) w e =
      let a = and_parts _ (is_value (w.view (reg r)) v) e in
      let b = and_parts (nat_lt r room.regs) (nat_lt v room.values) a.0 in
      (ltb-true _ _ b.0, ltb-true _ _ b.1, value_is (w.view (reg r)) v a.1)
  line_fits (Load r v) w e =
      let a = and_parts _ (is_value (w.view (home v)) v) e in
      let b = and_parts (nat_lt r room.regs) (nat_lt v room.values) a.0 in
      (ltb-true _ _ b.0, ltb-true _ _ b.1, value_is (w.view (home v)) v a.1)
  line_fits (Moves ms) w e = let a = and_parts (are_distinct ms) (list_all (can_move room w.view) ms) e in (distinct ms a.0, all_taken room w.view ms a.1)
  line_fits (Result r) w e = ltb-true _ _ e
  line_fits (Target from) w e = let a = and_parts (is_in_range room (spot from)) (can_take room target (w.view (spot from))) e in (in_range room (spot from) a.0, taken room target (w.view (spot from)) a.1)

  pub passes : (n : ℕ) (ls : List Line) (w : Walker) → first_unfit room ops n ls w ≡ None → Passes room ops ls w
  passes n [] w e = tt
  passes n (l ∷ ls) w e = by (λ e. passes (suc n) ls (after ops l w) e) (fits room ops l w) refl e
    where
      by : (first_unfit room ops (suc n) ls (after ops l w) ≡ None → Passes room ops ls (after ops l w)) → (b : Bool) → fits room ops l w ≡ b → cond b (first_unfit room ops (suc n) ls (after ops l w)) (Some n) ≡ None → Passes room ops (l ∷ ls) w
      by on true t e = (line_fits l w t, on e)
      by on false t e = cc

---- Ends

regs_true : (view : Spot → Option ℕ) (i : ℕ) (regs : List (Option ℕ)) → are_true view i regs ≡ true → (r v : ℕ) → get regs r ≡ Some v → view (reg (r + i)) ≡ Some v
regs_true view i [] e r v h = cc
regs_true view i (None ∷ regs) e zero v h = cc
regs_true view i (None ∷ regs) e (suc r) v h = let a : suc r + i ≡ r + suc i = omega arith in ap (λ x. view (reg x)) a ∙ regs_true view (suc i) regs e r v h
regs_true view i (Some u ∷ regs) e zero v h =
    let a = and_parts (is_value (view (reg i)) u) (are_true view (suc i) regs) e in
    let z : 0 + i ≡ i = omega arith in
    ap (λ x. view (reg x)) z ∙ value_is (view (reg i)) u a.0 ∙ h
regs_true view i (Some u ∷ regs) e (suc r) v h =
    let a = and_parts (is_value (view (reg i)) u) (are_true view (suc i) regs) e in
    let b : suc r + i ≡ r + suc i = omega arith in
    ap (λ x. view (reg x)) b ∙ regs_true view (suc i) regs a.1 r v h

homes_true : (view : Spot → Option ℕ) (vs : List ℕ) → list_all (λ v. is_value (view (home v)) v) vs ≡ true → (v : ℕ) → has vs v ≡ true → view (home v) ≡ Some v
homes_true view [] e v h = cc
homes_true view (x ∷ vs) e v h = by (λ e h. homes_true view vs e v h) (x == v) refl h
  where
    a : (is_value (view (home x)) x ≡ true) × (list_all (λ v. is_value (view (home v)) v) vs ≡ true)
    a = and_parts (is_value (view (home x)) x) (list_all (λ v. is_value (view (home v)) v) vs) e

    by : (list_all (λ v. is_value (view (home v)) v) vs ≡ true → has vs v ≡ true → view (home v) ≡ Some v) → (b : Bool) → (x == v) ≡ b → cond b true (has vs v) ≡ true → view (home v) ≡ Some v
    by on true q h = ap (λ y. view (home y)) (sym (eqb-true x v q)) ∙ value_is (view (home x)) x a.0 ∙ ap Some (eqb-true x v q)
    by on false q h = on a.1 h

pub below : (end : Places) (view : Spot → Option ℕ) → are_true view 0 end.regs ≡ true → list_all (λ v. is_value (view (home v)) v) end.homed ≡ true → Below (view_of end) view
below end view e f (reg r) v h = let z : r ≡ r + 0 = omega arith in ap (λ x. view (reg x)) z ∙ regs_true view 0 end.regs e r v h
below end view e f (home u) v h = by (has end.homed u) refl h
  where
    by : (b : Bool) → has end.homed u ≡ b → cond b (Some u) None ≡ Some v → view (home u) ≡ Some v
    by true q h = homes_true view end.homed f u q ∙ h
    by false q h = cc
below end view e f (out s) v h = cc
below end view e f target v h = cc
below end view e f saved v h = cc

---- Rows

in_regs : (regs : List (Option ℕ)) (r v : ℕ) → get regs r ≡ Some v → in_register regs v ≡ true
in_regs [] r v e = cc
in_regs (None ∷ regs) zero v e = cc
in_regs (None ∷ regs) (suc r) v e = in_regs regs r v e
in_regs (Some u ∷ regs) zero v e = by (u == v) refl
  where
    by : (b : Bool) → (u == v) ≡ b → cond b true (in_register regs v) ≡ true
    by true q = refl
    by false q = absurd (eqb-false u v q (let p : u ≡ v = cc in p))
in_regs (Some u ∷ regs) (suc r) v e = by (u == v) (in_regs regs r v e)
  where
    by : (b : Bool) → in_register regs v ≡ true → cond b true (in_register regs v) ≡ true
    by true q = refl
    by false q = q

pub single : (regs : List (Option ℕ)) → is_single regs ≡ true → IsSingle regs
single [] e r s v a b = cc
single (None ∷ regs) e zero s v a b = cc
single (None ∷ regs) e (suc r) zero v a b = cc
single (None ∷ regs) e (suc r) (suc s) v a b = ap suc (single regs e r s v a b)
single (Some u ∷ regs) e zero zero v a b = refl
single (Some u ∷ regs) e zero (suc s) v a b =
    let p = not-true _ (and_parts (not (in_register regs u)) (is_single regs) e).0 in
    let q : u ≡ v = cc in
    let i = in_regs regs s v b in
    let j = ap (in_register regs) q in
    cc
single (Some u ∷ regs) e (suc r) zero v a b =
    let p = not-true _ (and_parts (not (in_register regs u)) (is_single regs) e).0 in
    let q : u ≡ v = cc in
    let i = in_regs regs r v a in
    let j = ap (in_register regs) q in
    cc
single (Some u ∷ regs) e (suc r) (suc s) v a b = ap suc (single regs (and_parts (not (in_register regs u)) (is_single regs) e).1 r s v a b)

pub rising : (xs : List ℕ) → is_rising xs ≡ true → IsRising xs
rising [] e = tt
rising (x ∷ []) e = tt
rising (x ∷ (y ∷ ys)) e = let a = and_parts (nat_lt x y) (is_rising (y ∷ ys)) e in (ltb-true _ _ a.0, rising (y ∷ ys) a.1)
