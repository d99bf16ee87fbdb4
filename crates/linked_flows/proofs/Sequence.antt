-- Steps in order do what the moves do all at once, and name what these name.
use Rattle.std.proofs.Common.{◌≡◌, ℕ, zero, suc, ◌+◌, ◌≤◌, List, [], ◌∷◌, ◌++◌, map, length, Bool, true, false, cond, ◌==◌, Option, Some, None, refl, arith, ap, ◌∙◌}
use Rattle.std.specs.Prelude.{filter}
use Rattle.lir_core.specs.declared.places.Move.{Move}
use Rattle.lir_core.specs.declared.places.Place.{Place}
use Rattle.lir_core.specs.declared.places.Place.TheVariants.{Home}
use Rattle.lir_core.specs.declared.places.Places.{Places}
use Rattle.lir_core.specs.Spots.{Spot, saved, same, spot, TakesOver}
use Rattle.lir_core.specs.Lines.{Room}
use Rattle.parallel_move.specs.declared.step.Step.{Step}
use Rattle.parallel_move.specs.declared.step.Step.TheVariants as step
use Rattle.parallel_move.specs.Steps.{step_source, steps_source}
use Rattle.parallel_move.specs.Order.{Pending, from_spot, step_from, is_moving, pending, moving, is_source, Picked, pick, behind, instead, make, round, ordered, order_of}
use Rattle.parallel_move.proofs.Linking.{carries}
use Rattle.boundary_resolve.specs.Moves.{register_of, register_or_home, place_of, reg_moves, home_moves, stays_home, edge_moves}
use Rattle.placed_code.specs.Placed.{Copy, copied, all_copied}
use Rattle.placed_code.specs.Results.{SpotFits, CopiesFit, MovesFit, IsSequence, TakeOver}
use Rattle.linked_flows.specs.Allocations.{copy_of, copies_of, steps_of}

---- What steps leave

one_copied : (s : Step) (c : Spot → ℕ) (p : Spot) → copied (copy_of s) c p ≡ c (step_source s p)
one_copied (step.Copy to from) c p = by_test (same p (spot to))
  where
    by_test : (b : Bool) → cond b (c (spot from)) (c p) ≡ c (cond b (spot from) p)
    by_test true = refl
    by_test false = refl
one_copied (step.Save from) c p = by_test (same p saved)
  where
    by_test : (b : Bool) → cond b (c (spot from)) (c p) ≡ c (cond b (spot from) p)
    by_test true = refl
    by_test false = refl
one_copied (step.Restore to) c p = by_test (same p (spot to))
  where
    by_test : (b : Bool) → cond b (c saved) (c p) ≡ c (cond b saved p)
    by_test true = refl
    by_test false = refl

pub steps_copied : (ss : List Step) (c : Spot → ℕ) (p : Spot) → all_copied (copies_of ss) c p ≡ c (steps_source ss p)
steps_copied [] c p = refl
steps_copied (s ∷ ss) c p = steps_copied ss (copied (copy_of s) c) p ∙ one_copied s c (steps_source ss p)

-- so steps that take places over do so as copies
pub take_over : (before after : Places) (argument : ℕ → ℕ) (ss : List Step) → TakesOver before after argument (steps_source ss) → TakeOver before after argument (copies_of ss)
take_over before after argument ss h V c holds p v e = steps_copied ss c p ∙ h V c holds p v e

---- What they name

module _ (room : Room) where
  abbrev PendingFit : List Pending → Type 0
  PendingFit [] = Unit {0}
  PendingFit (m ∷ ms) = SpotFits room (spot m.to) × SpotFits room (from_spot m.from) × PendingFit ms

  record PickedFits (x : Picked) : Type 0 where
    pub to : SpotFits room (spot x.move.to)
    pub from : SpotFits room (from_spot x.move.from)
    pub rest : PendingFit x.rest

  abbrev MaybeFits : Option Picked → Type 0
  MaybeFits None = Unit {0}
  MaybeFits (Some x) = PickedFits x

  behind_fits : (m : Pending) (o : Option Picked) → SpotFits room (spot m.to) → SpotFits room (from_spot m.from) → MaybeFits o → MaybeFits (behind m o)
  behind_fits m None a b h = tt
  behind_fits m (Some x) a b h = record { to = h.to; from = h.from; rest = (a, b, h.rest) }

  pick_fits : (all ms : List Pending) → PendingFit ms → MaybeFits (pick all ms)
  pick_fits all [] f = tt
  pick_fits all (m ∷ ms) f = by_test (is_source all (spot m.to)) (pick_fits all ms f.2)
    where
      by_test : (b : Bool) → MaybeFits (pick all ms) → MaybeFits (cond b (behind m (pick all ms)) (Some (record { move = m; rest = ms })))
      by_test true h = behind_fits m (pick all ms) f.0 f.1 h
      by_test false h = record { to = f.0; from = f.1; rest = f.2 }

  instead_fits : (p : Place) (m : Pending) → SpotFits room (from_spot m.from) → SpotFits room (from_spot (instead p m).from)
  instead_fits p m f = by_test (same (from_spot m.from) (spot p))
    where
      by_test : (b : Bool) → SpotFits room (from_spot (cond b None m.from))
      by_test true = tt
      by_test false = f

  all_instead : (p : Place) (ms : List Pending) → PendingFit ms → PendingFit (map (instead p) ms)
  all_instead p [] f = tt
  all_instead p (m ∷ ms) f = (f.0, instead_fits p m f.1, all_instead p ms f.2)

  step_fits : (to : Place) (from : Option Place) (rest : List Copy) → SpotFits room (spot to) → SpotFits room (from_spot from) → CopiesFit room rest → CopiesFit room (copy_of (step_from to from) ∷ rest)
  step_fits to None rest a b h = (a, tt, h)
  step_fits to (Some from) rest a b h = (a, b, h)

  make_fits : (o : Option Picked) (on : List Pending → List Step) → MaybeFits o → ((ms : List Pending) → PendingFit ms → CopiesFit room (copies_of (on ms))) → CopiesFit room (copies_of (make o on))
  make_fits None on f h = tt
  make_fits (Some x) on f h = step_fits x.move.to x.move.from (copies_of (on x.rest)) f.to f.from (h x.rest f.rest)

  ordered_fits : (n : ℕ) (ms : List Pending) → PendingFit ms → CopiesFit room (copies_of (ordered n ms))
  ordered_fits zero ms f = tt
  ordered_fits (suc n) [] f = tt
  ordered_fits (suc n) (m ∷ ms) f = by_pick (pick (m ∷ ms) (m ∷ ms)) (pick_fits (m ∷ ms) (m ∷ ms) f) (λ xs g. ordered_fits n xs g)
    where
      by_pick : (o : Option Picked) → MaybeFits o → ((xs : List Pending) → PendingFit xs → CopiesFit room (copies_of (ordered n xs))) → CopiesFit room (copies_of (round o m ms (ordered n)))
      by_pick (Some x) g on = make_fits (Some x) (ordered n) g on
      by_pick None g on =
          let again = map (instead m.to) (m ∷ ms) in
          (tt, f.0, make_fits (pick again again) (ordered n) (pick_fits again again (all_instead m.to (m ∷ ms) f)) on)

  filtered_fits : (ms : List Move) → MovesFit room ms → PendingFit (map pending (filter is_moving ms))
  filtered_fits [] f = tt
  filtered_fits (m ∷ ms) f = by_test (is_moving m) (filtered_fits ms f.2)
    where
      by_test : (b : Bool) → PendingFit (map pending (filter is_moving ms)) → PendingFit (map pending (cond b (m ∷ filter is_moving ms) (filter is_moving ms)))
      by_test true h = (f.0, f.1, h)
      by_test false h = h

  pub order_fits : (ms : List Move) → MovesFit room ms → CopiesFit room (steps_of ms)
  order_fits ms f = ordered_fits (length (moving ms)) (moving ms) (filtered_fits ms f)

  ---- The moves of edges

  register_fits : (regs : List (Option ℕ)) (i v : ℕ) → i + length regs ≤ room.regs → SpotFits room (spot (register_or_home (register_of regs i v) v))
  register_fits [] i v l = tt
  register_fits (None ∷ regs) i v l = register_fits regs (suc i) v (omega (arith, l))
  register_fits (Some u ∷ regs) i v l = by_test (u == v) (register_fits regs (suc i) v (omega (arith, l)))
    where
      by_test : (b : Bool) → SpotFits room (spot (register_or_home (register_of regs (suc i) v) v)) → SpotFits room (spot (register_or_home (cond b (Some i) (register_of regs (suc i) v)) v))
      by_test true h = omega (arith, l)
      by_test false h = h

  module _ (from : ℕ → Place) (fits : (v : ℕ) → SpotFits room (spot (from v))) where
    reg_moves_fit : (i : ℕ) (regs : List (Option ℕ)) (rest : List Move) → i + length regs ≤ room.regs → MovesFit room rest → MovesFit room (reg_moves from i regs ++ rest)
    reg_moves_fit i [] rest l h = h
    reg_moves_fit i (None ∷ regs) rest l h = reg_moves_fit (suc i) regs rest (omega (arith, l)) h
    reg_moves_fit i (Some v ∷ regs) rest l h = (omega (arith, l), fits v, reg_moves_fit (suc i) regs rest (omega (arith, l)) h)

    home_moves_fit : (stays : ℕ → Bool) (vs : List ℕ) → MovesFit room (home_moves stays from vs)
    home_moves_fit stays [] = tt
    home_moves_fit stays (v ∷ vs) = by_test (stays v) (home_moves_fit stays vs)
      where
        by_test : (b : Bool) → MovesFit room (home_moves stays from vs) → MovesFit room (cond b (home_moves stays from vs) (record { to = Home v; from = from v } ∷ home_moves stays from vs))
        by_test true h = h
        by_test false h = (tt, fits v, h)

  pub edge_fits : (before after : Places) (argument : ℕ → ℕ) → length before.regs ≤ room.regs → length after.regs ≤ room.regs → MovesFit room (edge_moves before after argument)
  edge_fits before after argument b a =
      let from : ℕ → Place = λ v. place_of before (argument v) in
      let fits : (v : ℕ) → SpotFits room (spot (from v)) = λ v. register_fits before.regs 0 (argument v) (omega (arith, b)) in
      reg_moves_fit from fits 0 after.regs (home_moves (stays_home before argument) from after.homed) (omega (arith, a)) (home_moves_fit from fits (stays_home before argument) after.homed)

pub sequence : IsSequence steps_of
sequence = record { moves = λ ms d c p n. steps_copied (order_of ms) c p ∙ ap c (carries ms d p n); fit = λ room ms f. order_fits room ms f }
