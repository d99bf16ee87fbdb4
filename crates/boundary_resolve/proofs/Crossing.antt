-- The moves of an edge take places over.
use Rattle.std.proofs.Common.{◌≡◌, ◌≢◌, ℕ, zero, suc, ◌+◌, ◌<◌, ◌≤◌, Bool, true, false, ◌&&◌, ◌||◌, cond, List, [], ◌∷◌, ◌++◌, Option, Some, None, refl, sym, ap, ◌∙◌, arith, ◌⊎◌, inl, inr, ⊎_elim}
use Rattle.std.specs.Prelude.{◌==◌}
use Rattle.std.proofs.lemmas.Bool.{eqb-true, eq-eqb}
use Rattle.block_runs.specs.Live.{has}
use Rattle.lir_core.specs.declared.places.Place.{Place}
use Rattle.lir_core.specs.declared.places.Place.TheVariants.{Home}
use Rattle.lir_core.specs.declared.places.Move.{Move}
use Rattle.lir_core.specs.declared.places.Places.{Places}
use Rattle.lir_core.specs.Spots.{Spot, reg, home, out, target, saved, same, spot, source, get, view_of, in_register, placed, IsRising, Holds, TakesOver}
use Rattle.lir_core.specs.Lines.{IsFree, AreDistinct}
use Rattle.parallel_move.specs.Steps.{steps_source}
use Rattle.parallel_move.specs.Order.{order_of}
use Rattle.parallel_move.proofs.Linking.{carries, stays}
use Rattle.boundary_resolve.specs.Moves.{register_of, register_or_home, place_of, reg_moves, home_moves, stays_home, edge_moves, Covers}

unequal : (q i : ℕ) → (q == i) ≡ false → q ≢ i
unequal q i e h = let t : (q == i) ≡ true = eq-eqb q i h in cc

apart : (q i : ℕ) → q ≢ i → (q == i) ≡ false
apart q i ne = at_test (q == i) refl
  where
    at_test : (b : Bool) → (q == i) ≡ b → b ≡ false
    at_test true e = absurd (ne (eqb-true q i e))
    at_test false e = refl

equal : (q : ℕ) → (q == q) ≡ true
equal q = eq-eqb q q refl

---- A value's place

found : (regs : List (Option ℕ)) (i v : ℕ) → in_register regs v ≡ true → (r : ℕ) × (register_of regs i v ≡ Some (i + r)) × (get regs r ≡ Some v)
found [] i v h = cc
found (None ∷ regs) i v h = let on = found regs (suc i) v h in (suc on.0, on.1 ∙ ap Some (let e : suc i + on.0 ≡ i + suc on.0 = omega arith in e), on.2)
found (Some u ∷ regs) i v h = at_test (u == v) refl h (λ k. found regs (suc i) v k)
  where
    at_test : (b : Bool) → (u == v) ≡ b → cond b true (in_register regs v) ≡ true → (in_register regs v ≡ true → (r : ℕ) × (register_of regs (suc i) v ≡ Some (suc i + r)) × (get regs r ≡ Some v)) → (r : ℕ) × (cond b (Some i) (register_of regs (suc i) v) ≡ Some (i + r)) × (get (Some u ∷ regs) r ≡ Some v)
    at_test true e h on = (0, ap Some (let z : i ≡ i + 0 = omega arith in z), ap Some (eqb-true u v e))
    at_test false e h on = let s = on h in (suc s.0, s.1 ∙ ap Some (let z : suc i + s.0 ≡ i + suc s.0 = omega arith in z), s.2)

not_found : (regs : List (Option ℕ)) (i v : ℕ) → in_register regs v ≡ false → register_of regs i v ≡ None
not_found [] i v h = refl
not_found (None ∷ regs) i v h = not_found regs (suc i) v h
not_found (Some u ∷ regs) i v h = at_test (u == v) h (not_found regs (suc i) v)
  where
    at_test : (b : Bool) → cond b true (in_register regs v) ≡ false → (in_register regs v ≡ false → register_of regs (suc i) v ≡ None) → cond b (Some i) (register_of regs (suc i) v) ≡ None
    at_test true h on = cc
    at_test false h on = on h

-- a placed value stands in its place
pub in_place : (q : Places) (v : ℕ) → placed q v ≡ true → view_of q (spot (place_of q v)) ≡ Some v
in_place q v h = at_test (in_register q.regs v) refl h
  where
    at_test : (b : Bool) → in_register q.regs v ≡ b → (b || has q.homed v) ≡ true → view_of q (spot (register_or_home (register_of q.regs 0 v) v)) ≡ Some v
    at_test true e h = let f = found q.regs 0 v e in let z : 0 + f.0 ≡ f.0 = omega arith in ap (λ o. view_of q (spot (register_or_home o v))) (f.1 ∙ ap Some z) ∙ f.2
    at_test false e h = ap (λ o. view_of q (spot (register_or_home o v))) (not_found q.regs 0 v e) ∙ ap (λ b. cond b (Some v) None) h

-- what a spot has is placed
got : (regs : List (Option ℕ)) (r v : ℕ) → get regs r ≡ Some v → in_register regs v ≡ true
got [] r v e = cc
got (None ∷ regs) zero v e = cc
got (None ∷ regs) (suc r) v e = got regs r v e
got (Some u ∷ regs) zero v e = let z : u ≡ v = cc in ap (λ b. cond b true (in_register regs v)) (eq-eqb u v z)
got (Some u ∷ regs) (suc r) v e = at_test (u == v) (got regs r v e)
  where
    at_test : (b : Bool) → in_register regs v ≡ true → cond b true (in_register regs v) ≡ true
    at_test true h = refl
    at_test false h = h

pub in_reg : (q : Places) (r v : ℕ) → get q.regs r ≡ Some v → placed q v ≡ true
in_reg q r v e = ap (λ b. b || has q.homed v) (got q.regs r v e)

pub in_home : (q : Places) (v : ℕ) → has q.homed v ≡ true → placed q v ≡ true
in_home q v e = at_test (in_register q.regs v) e
  where
    at_test : (b : Bool) → has q.homed v ≡ true → (b || has q.homed v) ≡ true
    at_test true h = refl
    at_test false h = h

---- Rising values are different

below_head : (x : ℕ) (xs : List ℕ) (v : ℕ) → IsRising (x ∷ xs) → v ≤ x → has xs v ≡ false
below_head x [] v h l = refl
below_head x (y ∷ ys) v h l =
    let less = h.0 in
    ap (λ b. cond b true (has ys v)) (apart y v (omega (arith, less, l))) ∙ below_head y ys v h.1 (omega (arith, less, l))

rising_tail : (x : ℕ) (xs : List ℕ) → IsRising (x ∷ xs) → IsRising xs
rising_tail x [] h = tt
rising_tail x (y ∷ ys) h = h.1

---- Where moves come from

free_append : (p : Spot) (xs ys : List Move) → IsFree p xs → IsFree p ys → IsFree p (xs ++ ys)
free_append p [] ys a b = b
free_append p (m ∷ xs) ys a b = (a.0, free_append p xs ys a.1 b)

module _ (from : ℕ → Place) where
  reg_free : (regs : List (Option ℕ)) (i r : ℕ) → r < i → IsFree (reg r) (reg_moves from i regs)
  reg_free [] i r l = tt
  reg_free (None ∷ regs) i r l = reg_free regs (suc i) r (omega (arith, l))
  reg_free (Some v ∷ regs) i r l = (apart r i (omega (arith, l)), reg_free regs (suc i) r (omega (arith, l)))

  reg_source : (regs : List (Option ℕ)) (i r v : ℕ) → get regs r ≡ Some v → (ys : List Move) → source (reg_moves from i regs ++ ys) (reg (i + r)) ≡ spot (from v)
  reg_source [] i r v e ys = cc
  reg_source (None ∷ regs) i zero v e ys = cc
  reg_source (None ∷ regs) i (suc r) v e ys = let q : i + suc r ≡ suc i + r = omega arith in ap (λ n. source (reg_moves from (suc i) regs ++ ys) (reg n)) q ∙ reg_source regs (suc i) r v e ys
  reg_source (Some w ∷ regs) i zero v e ys =
      let q : i + 0 ≡ i = omega arith in
      let z : w ≡ v = cc in
      ap (λ b. cond b (spot (from w)) (source (reg_moves from (suc i) regs ++ ys) (reg (i + 0)))) (ap (λ n. n == i) q ∙ equal i) ∙ ap (λ x. spot (from x)) z
  reg_source (Some w ∷ regs) i (suc r) v e ys =
      let q : i + suc r ≡ suc i + r = omega arith in
      ap (λ b. cond b (spot (from w)) (source (reg_moves from (suc i) regs ++ ys) (reg (i + suc r)))) (apart (i + suc r) i (λ z. absurd (omega (arith, z)))) ∙ ap (λ n. source (reg_moves from (suc i) regs ++ ys) (reg n)) q ∙ reg_source regs (suc i) r v e ys

  -- moves to registers leave homes alone
  reg_skip : (regs : List (Option ℕ)) (i v : ℕ) (ys : List Move) → source (reg_moves from i regs ++ ys) (home v) ≡ source ys (home v)
  reg_skip [] i v ys = refl
  reg_skip (None ∷ regs) i v ys = reg_skip regs (suc i) v ys
  reg_skip (Some w ∷ regs) i v ys = reg_skip regs (suc i) v ys

  reg_distinct : (regs : List (Option ℕ)) (i : ℕ) (ys : List Move) → ((r : ℕ) → IsFree (reg r) ys) → AreDistinct ys → AreDistinct (reg_moves from i regs ++ ys)
  reg_distinct [] i ys off d = d
  reg_distinct (None ∷ regs) i ys off d = reg_distinct regs (suc i) ys off d
  reg_distinct (Some v ∷ regs) i ys off d = (free_append (reg i) (reg_moves from (suc i) regs) ys (reg_free regs (suc i) i (omega arith)) (off i), reg_distinct regs (suc i) ys off d)

  module _ (stays_at : ℕ → Bool) where
    home_free : (vs : List ℕ) (v : ℕ) → has vs v ≡ false → IsFree (home v) (home_moves stays_at from vs)
    home_free [] v h = tt
    home_free (w ∷ vs) v h = at_head (w == v) refl h (λ k. home_free vs v k)
      where
        at_head : (c : Bool) → (w == v) ≡ c → cond c true (has vs v) ≡ false → (has vs v ≡ false → IsFree (home v) (home_moves stays_at from vs)) → IsFree (home v) (cond (stays_at w) (home_moves stays_at from vs) (record { to = Home w; from = from w } ∷ home_moves stays_at from vs))
        at_head true e h on = cc
        at_head false e h on = at_test (stays_at w) (on h)
          where
            at_test : (b : Bool) → IsFree (home v) (home_moves stays_at from vs) → IsFree (home v) (cond b (home_moves stays_at from vs) (record { to = Home w; from = from w } ∷ home_moves stays_at from vs))
            at_test true rest = rest
            at_test false rest = (apart v w (λ q. unequal w v e (sym q)), rest)

    home_only : (vs : List ℕ) (r : ℕ) → IsFree (reg r) (home_moves stays_at from vs)
    home_only [] r = tt
    home_only (w ∷ vs) r = at_test (stays_at w) (home_only vs r)
      where
        at_test : (b : Bool) → IsFree (reg r) (home_moves stays_at from vs) → IsFree (reg r) (cond b (home_moves stays_at from vs) (record { to = Home w; from = from w } ∷ home_moves stays_at from vs))
        at_test true rest = rest
        at_test false rest = (refl, rest)

    home_distinct : (vs : List ℕ) → IsRising vs → AreDistinct (home_moves stays_at from vs)
    home_distinct [] h = tt
    home_distinct (w ∷ vs) h = at_test (stays_at w) (home_distinct vs (rising_tail w vs h))
      where
        at_test : (b : Bool) → AreDistinct (home_moves stays_at from vs) → AreDistinct (cond b (home_moves stays_at from vs) (record { to = Home w; from = from w } ∷ home_moves stays_at from vs))
        at_test true rest = rest
        at_test false rest = (home_free vs w (below_head w vs w h (omega arith)), rest)

    -- a homed value's home is moved to, or stays
    home_source : (vs : List ℕ) (v : ℕ) → has vs v ≡ true → (source (home_moves stays_at from vs) (home v) ≡ spot (from v)) ⊎ ((source (home_moves stays_at from vs) (home v) ≡ home v) × (stays_at v ≡ true))
    home_source [] v h = cc
    home_source (w ∷ vs) v h = at_test (stays_at w) refl (w == v) refl h (home_source vs v)
      where
        at_test : (b : Bool) → stays_at w ≡ b → (c : Bool) → (w == v) ≡ c → cond c true (has vs v) ≡ true → (has vs v ≡ true → (source (home_moves stays_at from vs) (home v) ≡ spot (from v)) ⊎ ((source (home_moves stays_at from vs) (home v) ≡ home v) × (stays_at v ≡ true))) → (source (cond b (home_moves stays_at from vs) (record { to = Home w; from = from w } ∷ home_moves stays_at from vs)) (home v) ≡ spot (from v)) ⊎ ((source (cond b (home_moves stays_at from vs) (record { to = Home w; from = from w } ∷ home_moves stays_at from vs)) (home v) ≡ home v) × (stays_at v ≡ true))
        at_test false s true q h on = inl (ap (λ b. cond b (spot (from w)) (source (home_moves stays_at from vs) (home v))) (ap (λ x. x == w) (sym (eqb-true w v q)) ∙ equal w) ∙ ap (λ x. spot (from x)) (eqb-true w v q))
        at_test false s false q h on =
            let a : (v == w) ≡ false = apart v w (λ z. unequal w v q (sym z)) in
            let skip : cond (v == w) (spot (from w)) (source (home_moves stays_at from vs) (home v)) ≡ source (home_moves stays_at from vs) (home v) = ap (λ b. cond b (spot (from w)) (source (home_moves stays_at from vs) (home v))) a in
            ⊎_elim (λ e. inl (skip ∙ e)) (λ e. inr (skip ∙ e.0, e.1)) (on h)
        at_test true s true q h on = at_rest (has vs v) refl on
          where
            at_rest : (d : Bool) → has vs v ≡ d → (has vs v ≡ true → (source (home_moves stays_at from vs) (home v) ≡ spot (from v)) ⊎ ((source (home_moves stays_at from vs) (home v) ≡ home v) × (stays_at v ≡ true))) → (source (home_moves stays_at from vs) (home v) ≡ spot (from v)) ⊎ ((source (home_moves stays_at from vs) (home v) ≡ home v) × (stays_at v ≡ true))
            at_rest true e on = on e
            at_rest false e on = inr (stays (home v) (home_moves stays_at from vs) (home_free vs v e), ap stays_at (sym (eqb-true w v q)) ∙ s)
        at_test true s false q h on = on h

both : (x y : Bool) → (x && y) ≡ true → (x ≡ true) × (y ≡ true)
both true y h = (refl, h)
both false y h = cc

is_marked : (b : Bool) (x u : ℕ) → cond b (Some x) None ≡ Some u → (b ≡ true) × (x ≡ u)
is_marked true x u e = (refl, cc)
is_marked false x u e = cc

pub moves_distinct : (before after : Places) (argument : ℕ → ℕ) → IsRising after.homed → AreDistinct (edge_moves before after argument)
moves_distinct before after argument r =
    reg_distinct (λ v. place_of before (argument v)) after.regs 0 (home_moves (stays_home before argument) (λ v. place_of before (argument v)) after.homed)
    (home_only (λ v. place_of before (argument v)) (stays_home before argument) after.homed)
    (home_distinct (λ v. place_of before (argument v)) (stays_home before argument) after.homed r)

pub takes_over : (before after : Places) (argument : ℕ → ℕ) → Covers before after argument → TakesOver before after argument (steps_source (order_of (edge_moves before after argument)))
takes_over before after argument covers V c holds = at_spot
  where
    from : ℕ → Place
    from v = place_of before (argument v)

    ms : List Move
    ms = edge_moves before after argument

    at_source : (s : Spot) → same s saved ≡ false → steps_source (order_of ms) s ≡ source ms s
    at_source s no_x16 = carries ms (moves_distinct before after argument covers.rising) s no_x16

    at_place : (v : ℕ) → placed after v ≡ true → c (spot (place_of before (argument v))) ≡ V (argument v)
    at_place v h = holds (spot (place_of before (argument v))) (argument v) (in_place before (argument v) (covers.placed_before v h))

    at_spot : Holds (λ v. V (argument v)) (view_of after) (λ s. c (steps_source (order_of ms) s))
    at_spot (reg r) v e =
        let z : 0 + r ≡ r = omega arith in
        ap c (at_source (reg r) refl ∙ ap (λ n. source ms (reg n)) (sym z) ∙ reg_source (λ v. place_of before (argument v)) after.regs 0 r v e (home_moves (stays_home before argument) (λ v. place_of before (argument v)) after.homed)) ∙ at_place v (in_reg after r v e)
    at_spot (home u) v e =
        let m = is_marked (has after.homed u) u v e in
        ap c (at_source (home u) refl ∙ reg_skip (λ v. place_of before (argument v)) after.regs 0 u (home_moves (stays_home before argument) (λ v. place_of before (argument v)) after.homed))
        ∙ ⊎_elim (λ h. ap c h ∙ at_place u (in_home after u m.0)) (λ h. let b = both (has before.homed u) (argument u == u) h.1 in ap c h.0 ∙ holds (home u) u (ap (λ x. cond x (Some u) None) b.0) ∙ ap V (sym (eqb-true (argument u) u b.1))) (home_source (λ v. place_of before (argument v)) (stays_home before argument) after.homed u m.0)
        ∙ ap (λ x. V (argument x)) m.1
    at_spot (out x) v e = cc
    at_spot target v e = cc
    at_spot saved v e = cc
