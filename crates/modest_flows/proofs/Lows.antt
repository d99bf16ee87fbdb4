-- Homes below a number in copies and moves: what is so of moves is so of the steps that they become.
use Rattle.std.proofs.Common.{◌≡◌, ℕ, zero, suc, ◌+◌, ◌<◌, ◌≤◌, List, [], ◌∷◌, ◌++◌, map, length, Bool, true, false, cond, ◌==◌, ◌||◌, Option, Some, None, refl, arith, ap, ◌∙◌}
use Rattle.std.specs.Prelude.{filter}
use Rattle.std.proofs.lemmas.Bool.{eq-eqb}
use Rattle.block_runs.specs.Live.{has}
use Rattle.lir_core.specs.declared.places.Move.{Move}
use Rattle.lir_core.specs.declared.places.Place.{Place}
use Rattle.lir_core.specs.declared.places.Place.TheVariants.{Home}
use Rattle.lir_core.specs.declared.places.Places.{Places}
use Rattle.lir_core.specs.Spots.{Spot, home, same, spot, in_register, placed}
use Rattle.parallel_move.specs.declared.step.Step.{Step}
use Rattle.parallel_move.specs.Order.{Pending, from_spot, step_from, is_moving, pending, moving, is_source, Picked, pick, behind, instead, make, round, ordered, order_of}
use Rattle.boundary_resolve.specs.Moves.{register_of, register_or_home, place_of, reg_moves, home_moves, stays_home, edge_moves}
use Rattle.placed_code.specs.Placed.{Copy}
use Rattle.linked_flows.specs.Allocations.{copy_of, copies_of, steps_of}

abbrev pub SpotLow : ℕ → Spot → Type 0
SpotLow n (home v) = v < n
SpotLow n _ = Unit {0}

abbrev pub CopiesLow : ℕ → List Copy → Type 0
CopiesLow n [] = Unit {0}
CopiesLow n (m ∷ ms) = SpotLow n m.to × SpotLow n m.from × CopiesLow n ms

abbrev pub MovesLow : ℕ → List Move → Type 0
MovesLow n [] = Unit {0}
MovesLow n (m ∷ ms) = SpotLow n (spot m.to) × SpotLow n (spot m.from) × MovesLow n ms

pub low_append : (n : ℕ) (ms ns : List Copy) → CopiesLow n ms → CopiesLow n ns → CopiesLow n (ms ++ ns)
low_append n [] ns a b = b
low_append n (m ∷ ms) ns a b = (a.0, a.1, low_append n ms ns a.2 b)

or_true : (a : Bool) → (a || true) ≡ true
or_true true = refl
or_true false = refl

module _ (n : ℕ) where
  abbrev PendingFit : List Pending → Type 0
  PendingFit [] = Unit {0}
  PendingFit (m ∷ ms) = SpotLow n (spot m.to) × SpotLow n (from_spot m.from) × PendingFit ms

  record PickedFits (x : Picked) : Type 0 where
    pub to : SpotLow n (spot x.move.to)
    pub from : SpotLow n (from_spot x.move.from)
    pub rest : PendingFit x.rest

  abbrev MaybeFits : Option Picked → Type 0
  MaybeFits None = Unit {0}
  MaybeFits (Some x) = PickedFits x

  behind_fits : (m : Pending) (o : Option Picked) → SpotLow n (spot m.to) → SpotLow n (from_spot m.from) → MaybeFits o → MaybeFits (behind m o)
  behind_fits m None a b h = tt
  behind_fits m (Some x) a b h = record { to = h.to; from = h.from; rest = (a, b, h.rest) }

  pick_fits : (all ms : List Pending) → PendingFit ms → MaybeFits (pick all ms)
  pick_fits all [] f = tt
  pick_fits all (m ∷ ms) f = by_test (is_source all (spot m.to)) (pick_fits all ms f.2)
    where
      by_test : (b : Bool) → MaybeFits (pick all ms) → MaybeFits (cond b (behind m (pick all ms)) (Some (record { move = m; rest = ms })))
      by_test true h = behind_fits m (pick all ms) f.0 f.1 h
      by_test false h = record { to = f.0; from = f.1; rest = f.2 }

  instead_fits : (p : Place) (m : Pending) → SpotLow n (from_spot m.from) → SpotLow n (from_spot (instead p m).from)
  instead_fits p m f = by_test (same (from_spot m.from) (spot p))
    where
      by_test : (b : Bool) → SpotLow n (from_spot (cond b None m.from))
      by_test true = tt
      by_test false = f

  all_instead : (p : Place) (ms : List Pending) → PendingFit ms → PendingFit (map (instead p) ms)
  all_instead p [] f = tt
  all_instead p (m ∷ ms) f = (f.0, instead_fits p m f.1, all_instead p ms f.2)

  step_fits : (to : Place) (from : Option Place) (rest : List Copy) → SpotLow n (spot to) → SpotLow n (from_spot from) → CopiesLow n rest → CopiesLow n (copy_of (step_from to from) ∷ rest)
  step_fits to None rest a b h = (a, tt, h)
  step_fits to (Some from) rest a b h = (a, b, h)

  make_fits : (o : Option Picked) (on : List Pending → List Step) → MaybeFits o → ((ms : List Pending) → PendingFit ms → CopiesLow n (copies_of (on ms))) → CopiesLow n (copies_of (make o on))
  make_fits None on f h = tt
  make_fits (Some x) on f h = step_fits x.move.to x.move.from (copies_of (on x.rest)) f.to f.from (h x.rest f.rest)

  ordered_fits : (m : ℕ) (ms : List Pending) → PendingFit ms → CopiesLow n (copies_of (ordered m ms))
  ordered_fits zero ms f = tt
  ordered_fits (suc o) [] f = tt
  ordered_fits (suc o) (m ∷ ms) f = by_pick (pick (m ∷ ms) (m ∷ ms)) (pick_fits (m ∷ ms) (m ∷ ms) f) (λ xs g. ordered_fits o xs g)
    where
      by_pick : (q : Option Picked) → MaybeFits q → ((xs : List Pending) → PendingFit xs → CopiesLow n (copies_of (ordered o xs))) → CopiesLow n (copies_of (round q m ms (ordered o)))
      by_pick (Some x) g on = make_fits (Some x) (ordered o) g on
      by_pick None g on =
          let again = map (instead m.to) (m ∷ ms) in
          (tt, f.0, make_fits (pick again again) (ordered o) (pick_fits again again (all_instead m.to (m ∷ ms) f)) on)

  filtered_fits : (ms : List Move) → MovesLow n ms → PendingFit (map pending (filter is_moving ms))
  filtered_fits [] f = tt
  filtered_fits (m ∷ ms) f = by_test (is_moving m) (filtered_fits ms f.2)
    where
      by_test : (b : Bool) → PendingFit (map pending (filter is_moving ms)) → PendingFit (map pending (cond b (m ∷ filter is_moving ms) (filter is_moving ms)))
      by_test true h = (f.0, f.1, h)
      by_test false h = h

  pub order_low : (ms : List Move) → MovesLow n ms → CopiesLow n (steps_of ms)
  order_low ms f = ordered_fits (length (moving ms)) (moving ms) (filtered_fits ms f)

  ---- The moves of edges

  home_low : (o : Option ℕ) (v : ℕ) → v < n → SpotLow n (spot (register_or_home o v))
  home_low None v l = l
  home_low (Some r) v l = tt

  register_moves_low : (from : ℕ → Place) (i : ℕ) (regs : List (Option ℕ)) (rest : List Move) → ((v : ℕ) → in_register regs v ≡ true → SpotLow n (spot (from v))) → MovesLow n rest → MovesLow n (reg_moves from i regs ++ rest)
  register_moves_low from i [] rest each h = h
  register_moves_low from i (None ∷ regs) rest each h = register_moves_low from (suc i) regs rest each h
  register_moves_low from i (Some v ∷ regs) rest each h =
      (tt, each v (ap (λ b. cond b true (in_register regs v)) (eq-eqb v v refl)), register_moves_low from (suc i) regs rest (λ u e. each u (later u (v == u) e)) h)
    where
      later : (u : ℕ) (b : Bool) → in_register regs u ≡ true → cond b true (in_register regs u) ≡ true
      later u true e = refl
      later u false e = e

  home_moves_low : (stays : ℕ → Bool) (from : ℕ → Place) (vs : List ℕ) → ((v : ℕ) → has vs v ≡ true → (v < n) × SpotLow n (spot (from v))) → MovesLow n (home_moves stays from vs)
  home_moves_low stays from [] each = tt
  home_moves_low stays from (v ∷ vs) each = by_test (stays v) (home_moves_low stays from vs (λ u e. each u (later u (v == u) e)))
    where
      later : (u : ℕ) (b : Bool) → has vs u ≡ true → cond b true (has vs u) ≡ true
      later u true e = refl
      later u false e = e

      by_test : (b : Bool) → MovesLow n (home_moves stays from vs) → MovesLow n (cond b (home_moves stays from vs) (record { to = Home v; from = from v } ∷ home_moves stays from vs))
      by_test true h = h
      by_test false h = let one = each v (ap (λ b. cond b true (has vs v)) (eq-eqb v v refl)) in (one.0, one.1, h)

  -- the steps of an edge to places whose values are below n, and were below n before it
  pub edge_low : (before after : Places) (argument : ℕ → ℕ) → ((v : ℕ) → placed after v ≡ true → (v < n) × (argument v < n)) → CopiesLow n (copies_of (order_of (edge_moves before after argument)))
  edge_low before after argument each =
      order_low (edge_moves before after argument)
      (register_moves_low (λ v. place_of before (argument v)) 0 after.regs (home_moves (stays_home before argument) (λ v. place_of before (argument v)) after.homed)
      (λ v e. home_low (register_of before.regs 0 (argument v)) (argument v) (each v (ap (λ b. b || has after.homed v) e)).1)
      (home_moves_low (stays_home before argument) (λ v. place_of before (argument v)) after.homed
      (λ v e. let one = each v (ap (λ b. in_register after.regs v || b) e ∙ or_true (in_register after.regs v)) in (one.0, home_low (register_of before.regs 0 (argument v)) (argument v) one.1))))
