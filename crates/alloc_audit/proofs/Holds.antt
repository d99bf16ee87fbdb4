-- Tests are true where what they test holds: lines that a walk takes, ends, rows.
use Rattle.std.proofs.Common.{◌≡◌, ℕ, suc, ◌+◌, Bool, true, false, not, cond, List, [], ◌∷◌, map, length, take, Option, Some, None, refl, ap, ◌∙◌, arith}
use Rattle.std.specs.Prelude.{slice_get, ◌==◌, nat_lt, nat_le}
use Rattle.std.specs.List.{list_all}
use Rattle.std.proofs.lemmas.Bool.{and_from, lt-ltb, le-leb, eq-eqb, eqb-true, not_from_false}
use Rattle.block_runs.specs.Blocks.{Operation}
use Rattle.block_runs.specs.Live.{has}
use Rattle.lir_core.specs.declared.places.Move.{Move}
use Rattle.lir_core.specs.declared.places.Places.{Places}
use Rattle.lir_core.specs.declared.places.Line.{Line}
use Rattle.lir_core.specs.declared.places.Line.TheVariants.{Store, Load, Moves, Result, Target}
use Rattle.lir_core.specs.declared.places.Line.TheVariants.{Lir as Does}
use Rattle.lir_core.specs.Spots.{Spot, reg, home, out, target, saved, same, spot, view_of, get, in_register, IsSingle, IsRising}
use Rattle.lir_core.specs.Lines.{use_spots, names, Room, InRange, IsFree, AreDistinct, AllBelow}
use Rattle.lir_core.specs.Walks.{Walker, after, Can, Taken, AllTaken, Fits, Passes, Below}
use Rattle.global_live.proofs.Lists.{has_back, has_head}
use Rattle.alloc_audit.specs.Tests.{is_value, stand, is_in_range, are_below, is_ready, can_do, can_take, can_move, is_free, are_distinct, fits, first_unfit}
use Rattle.alloc_audit.specs.Nodes.{is_single, is_rising, are_true}

pub value_is : (o : Option ℕ) (v : ℕ) → o ≡ Some v → is_value o v ≡ true
value_is None v e = cc
value_is (Some u) v e = let q : u ≡ v = cc in eq-eqb u v q

pub stand_is : {A : Type 0} (at : A → Option ℕ) (ps : List A) (vs : List ℕ) → map at ps ≡ map Some vs → stand at ps vs ≡ true
stand_is at [] [] e = refl
stand_is at [] (v ∷ vs) e = cc
stand_is at (p ∷ ps) [] e = cc
stand_is at (p ∷ ps) (v ∷ vs) e =
    let a : at p ≡ Some v = cc in
    let b : map at ps ≡ map Some vs = cc in
    and_from (is_value (at p) v) (stand at ps vs) (value_is (at p) v a) (stand_is at ps vs b)

in_range : (room : Room) (p : Spot) → InRange room p → is_in_range room p ≡ true
in_range room (reg r) l = lt-ltb _ _ l
in_range room (home v) l = lt-ltb _ _ l
in_range room (out s) l = lt-ltb _ _ l
in_range room target l = refl
in_range room saved l = refl

pub all_below : (k : ℕ) (xs : List ℕ) → AllBelow k xs → are_below k xs ≡ true
all_below k [] b = refl
all_below k (x ∷ xs) b = and_from (nat_lt x k) (are_below k xs) (lt-ltb _ _ b.0) (all_below k xs b.1)

can : (k : ℕ) (o : Option Operation) (i : ℕ) (w : Walker) → Can k o i w → can_do k o i w ≡ true
can k None i w c = absurd c
can k (Some op) i w c =
    and_from (i == w.next) (is_ready k op w) (eq-eqb _ _ c.0)
    (and_from _ (stand w.view (use_spots op w.named) op.uses)
    (and_from (nat_le (names op) (length w.named)) (are_below k (take (names op) w.named)) (le-leb _ _ c.1) (all_below k (take (names op) w.named) c.2))
    (stand_is w.view (use_spots op w.named) op.uses c.3))

taken : (room : Room) (to : Spot) (o : Option ℕ) → Taken room to o → can_take room to o ≡ true
taken room (reg r) None t = absurd t
taken room (home u) None t = absurd t
taken room (out s) None t = absurd t
taken room target None t = absurd t
taken room saved None t = absurd t
taken room (reg r) (Some v) t = lt-ltb _ _ t
taken room (home u) (Some v) t = and_from (u == v) (nat_lt u room.values) (eq-eqb _ _ t.0) (lt-ltb _ _ t.1)
taken room (out s) (Some v) t = lt-ltb _ _ t
taken room target (Some v) t = refl
taken room saved (Some v) t = refl

all_taken : (room : Room) (view : Spot → Option ℕ) (ms : List Move) → AllTaken room view ms → list_all (can_move room view) ms ≡ true
all_taken room view [] t = refl
all_taken room view (m ∷ ms) t =
    and_from (can_move room view m) (list_all (can_move room view) ms)
    (and_from (is_in_range room (spot m.from)) (can_take room (spot m.to) (view (spot m.from))) (in_range room (spot m.from) t.0) (taken room (spot m.to) (view (spot m.from)) t.1))
    (all_taken room view ms t.2)

free : (p : Spot) (ms : List Move) → IsFree p ms → is_free p ms ≡ true
free p [] f = refl
free p (m ∷ ms) f = and_from (not (same p (spot m.to))) (is_free p ms) (not_from_false _ f.0) (free p ms f.1)

distinct : (ms : List Move) → AreDistinct ms → are_distinct ms ≡ true
distinct [] d = refl
distinct (m ∷ ms) d = and_from (is_free (spot m.to) ms) (are_distinct ms) (free (spot m.to) ms d.0) (distinct ms d.1)

module _ (room : Room) (ops : List Operation) where
  line_fits : (l : Line) (w : Walker) → Fits room ops l w → fits room ops l w ≡ true
  line_fits (Does i) w f = can room.regs (slice_get ops i) i w f
  line_fits (Store r v) w f = and_from _ (is_value (w.view (reg r)) v) (and_from (nat_lt r room.regs) (nat_lt v room.values) (lt-ltb _ _ f.0) (lt-ltb _ _ f.1)) (value_is (w.view (reg r)) v f.2)
  line_fits (Load r v) w f = and_from _ (is_value (w.view (home v)) v) (and_from (nat_lt r room.regs) (nat_lt v room.values) (lt-ltb _ _ f.0) (lt-ltb _ _ f.1)) (value_is (w.view (home v)) v f.2)
  line_fits (Moves ms) w f = and_from (are_distinct ms) (list_all (can_move room w.view) ms) (distinct ms f.0) (all_taken room w.view ms f.1)
  line_fits (Result r) w f = lt-ltb _ _ f
  line_fits (Target from) w f = and_from (is_in_range room (spot from)) (can_take room target (w.view (spot from))) (in_range room (spot from) f.0) (taken room target (w.view (spot from)) f.1)

  -- lines that a walk takes pass, whatever their numbers
  pub none_unfit : (n : ℕ) (ls : List Line) (w : Walker) → Passes room ops ls w → first_unfit room ops n ls w ≡ None
  none_unfit n [] w p = refl
  none_unfit n (l ∷ ls) w p = ap (λ b. cond b (first_unfit room ops (suc n) ls (after ops l w)) (Some n)) (line_fits l w p.0) ∙ none_unfit (suc n) ls (after ops l w) p.1

---- Lists

pub all_from : (p : ℕ → Bool) (xs : List ℕ) → ((v : ℕ) → has xs v ≡ true → p v ≡ true) → list_all p xs ≡ true
all_from p [] h = refl
all_from p (x ∷ xs) h = and_from (p x) (list_all p xs) (h x (has_head x xs)) (all_from p xs (λ v e. h v (has_back (x ∷ []) xs v e)))

---- Ends

regs_true : (view : Spot → Option ℕ) (i : ℕ) (regs : List (Option ℕ)) → ((r v : ℕ) → get regs r ≡ Some v → view (reg (r + i)) ≡ Some v) → are_true view i regs ≡ true
regs_true view i [] h = refl
regs_true view i (None ∷ regs) h = regs_true view (suc i) regs (λ r v e. let a : r + suc i ≡ suc r + i = omega arith in ap (λ x. view (reg x)) a ∙ h (suc r) v e)
regs_true view i (Some u ∷ regs) h =
    let z : i ≡ 0 + i = omega arith in
    and_from (is_value (view (reg i)) u) (are_true view (suc i) regs) (value_is (view (reg i)) u (ap (λ x. view (reg x)) z ∙ h 0 u refl))
    (regs_true view (suc i) regs (λ r v e. let a : r + suc i ≡ suc r + i = omega arith in ap (λ x. view (reg x)) a ∙ h (suc r) v e))

pub registers_true : (end : Places) (view : Spot → Option ℕ) → Below (view_of end) view → are_true view 0 end.regs ≡ true
registers_true end view b = regs_true view 0 end.regs (λ r v e. let z : r + 0 ≡ r = omega arith in ap (λ x. view (reg x)) z ∙ b (reg r) v e)

pub homes_true : (end : Places) (view : Spot → Option ℕ) → Below (view_of end) view → list_all (λ v. is_value (view (home v)) v) end.homed ≡ true
homes_true end view b = all_from (λ v. is_value (view (home v)) v) end.homed (λ v h. value_is (view (home v)) v (b (home v) v (ap (λ c. cond c (Some v) None) h)))

---- Rows

found : (regs : List (Option ℕ)) (v : ℕ) → in_register regs v ≡ true → (r : ℕ) × (get regs r ≡ Some v)
found [] v e = cc
found (None ∷ regs) v e = let f = found regs v e in (suc f.0, f.1)
found (Some u ∷ regs) v e = by (λ e. found regs v e) (u == v) refl e
  where
    by : (in_register regs v ≡ true → (r : ℕ) × (get regs r ≡ Some v)) → (b : Bool) → (u == v) ≡ b → cond b true (in_register regs v) ≡ true → (r : ℕ) × (get (Some u ∷ regs) r ≡ Some v)
    by on true q e = (0, ap Some (eqb-true u v q))
    by on false q e = let f = on e in (suc f.0, f.1)

pub single : (regs : List (Option ℕ)) → IsSingle regs → is_single regs ≡ true
single [] h = refl
single (None ∷ regs) h = single regs (λ r s v a b. let q = h (suc r) (suc s) v a b in omega (arith, q))
single (Some u ∷ regs) h = and_from (not (in_register regs u)) (is_single regs) (not_from_false _ (apart (in_register regs u) refl)) (single regs (λ r s v a b. let q = h (suc r) (suc s) v a b in omega (arith, q)))
  where
    apart : (b : Bool) → in_register regs u ≡ b → b ≡ false
    apart false e = refl
    apart true e = let f = found regs u e in let q = h 0 (suc f.0) u refl f.1 in absurd (omega (arith, q))

pub rising : (xs : List ℕ) → IsRising xs → is_rising xs ≡ true
rising [] r = refl
rising (x ∷ []) r = refl
rising (x ∷ (y ∷ ys)) r = and_from (nat_lt x y) (is_rising (y ∷ ys)) (lt-ltb _ _ r.0) (rising (y ∷ ys) r.1)
