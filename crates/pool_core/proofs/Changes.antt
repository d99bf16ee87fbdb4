-- What an event changes, and what it leaves.
use Rattle.std.proofs.Common.{◌≡◌, ℕ, zero, suc, ◌≢◌, ◌⊎◌, List, [], ◌∷◌, ◌++◌, set, sym, refl, ap, ◌∙◌, inl, inr}
use Rattle.std.specs.Prelude.{Option}
use mathlib.Core.Option as m
use mathlib.Core.Option.{none, some, some-injective, some-ne-none}
use lib.ListN.{get_elem?}
use Rattle.pool_core.specs.Events.{at_stage, saw}
use Rattle.pool_core.specs.Runs.{Can, after, next, next_of}
use Rattle.pool_core.specs.declared.model.Stage.{Stage}
use Rattle.pool_core.specs.declared.model.Stage.TheVariants.{Ticket, Trace, Placed, Stopped}
use Rattle.pool_core.specs.declared.model.Event.{Event}
use Rattle.pool_core.specs.declared.model.Event.TheVariants.{Draw, Look, Reserve, Show, Finish, Stop, See}
use Rattle.pool_core.specs.declared.model.State.{State}
use Rattle.pool_core.specs.declared.model.Worker.{Worker}

module _ {A : Type 0} where
  elsewhere : (l : List A) (i j : ℕ) (a : A) → j ≢ i → get_elem? (set l i a) j ≡ get_elem? l j
  elsewhere [] i j a ne = refl
  elsewhere (x ∷ xs) zero zero a ne = absurd (ne refl)
  elsewhere (x ∷ xs) zero (suc j) a ne = refl
  elsewhere (x ∷ xs) (suc i) zero a ne = refl
  elsewhere (x ∷ xs) (suc i) (suc j) a ne = elsewhere xs i j a (λ e. ne (ap suc e))

  there : (l : List A) (i : ℕ) (a b : A) → get_elem? l i ≡ some b → get_elem? (set l i a) i ≡ some a
  there [] i a b at = absurd (some-ne-none b (sym at))
  there (x ∷ xs) zero a b at = refl
  there (x ∷ xs) (suc i) a b at = there xs i a b at

module _ (P : List (Option ℕ)) (s : State) (i : ℕ) where
  stays_by : (j : ℕ) → j ≢ i → (e : Event) (st : Stage) (w : Worker) → get_elem? (after P e st s i w).workers j ≡ get_elem? s.workers j
  stays_by j ne Draw st w = elsewhere s.workers i j _ ne
  stays_by j ne Look (Ticket c) w = elsewhere s.workers i j _ ne
  stays_by j ne Reserve (Trace t k) w = elsewhere s.workers i j _ ne
  stays_by j ne Show (Placed t k d) w = elsewhere s.workers i j _ ne
  stays_by j ne Finish (Trace t k) w = elsewhere s.workers i j _ ne
  stays_by j ne Stop st w = elsewhere s.workers i j _ ne
  stays_by j ne See (Ticket c) w = by_mark s.mark
    where
      by_mark : (m : ℕ) → get_elem? (saw m s i w).workers j ≡ get_elem? s.workers j
      by_mark zero = refl
      by_mark (suc m) = elsewhere s.workers i j (at_stage w Stopped) ne
  stays_by j ne e st w = refl

  pub others_stay : (j : ℕ) (e : Event) → j ≢ i → get_elem? (next P s i e).workers j ≡ get_elem? s.workers j
  others_stay j e ne = by_worker (get_elem? s.workers i)
    where
      by_worker : (o : m.Option Worker) → get_elem? (next_of P i e s o).workers j ≡ get_elem? s.workers j
      by_worker none = refl
      by_worker (some w) = stays_by j ne e w.stage w

  abbrev pub Owns : Stage → Worker → Worker → Type 0
  Owns st w v = (v.finished ≡ w.finished) ⊎ ((t : ℕ) × (k : ℕ) × (st ≡ Trace t k) × (v.finished ≡ w.finished ++ t ∷ []))

  set_to : (w u v : Worker) → get_elem? s.workers i ≡ some w → get_elem? (set s.workers i u) i ≡ some v → u ≡ v
  set_to w u v at after_it = some-injective u v (sym (there s.workers i u w at) ∙ after_it)

  owns_by : (e : Event) (st : Stage) (w v : Worker) → get_elem? s.workers i ≡ some w → get_elem? (after P e st s i w).workers i ≡ some v → Owns st w v
  owns_by Draw st w v at after_it = inl (ap (λ (x : Worker). x.finished) (sym (set_to w _ v at after_it)))
  owns_by Look (Ticket c) w v at after_it = inl (ap (λ (x : Worker). x.finished) (sym (set_to w _ v at after_it)))
  owns_by Reserve (Trace t k) w v at after_it = inl (ap (λ (x : Worker). x.finished) (sym (set_to w _ v at after_it)))
  owns_by Show (Placed t k d) w v at after_it = inl (ap (λ (x : Worker). x.finished) (sym (set_to w _ v at after_it)))
  owns_by Finish (Trace t k) w v at after_it = inr (t, k, refl, ap (λ (x : Worker). x.finished) (sym (set_to w _ v at after_it)))
  owns_by Stop st w v at after_it = inl (ap (λ (x : Worker). x.finished) (sym (set_to w _ v at after_it)))
  owns_by See (Ticket c) w v at after_it = by_mark s.mark after_it
    where
      by_mark : (m : ℕ) → get_elem? (saw m s i w).workers i ≡ some v → Owns (Ticket c) w v
      by_mark zero e = inl (ap (λ (x : Worker). x.finished) (some-injective v w (sym e ∙ at)))
      by_mark (suc m) e = inl (ap (λ (x : Worker). x.finished) (sym (set_to w (at_stage w Stopped) v at e)))
  owns_by e st w v at after_it = inl (ap (λ (x : Worker). x.finished) (some-injective v w (sym after_it ∙ at)))

  pub finishes_own : (e : Event) (w v : Worker) → get_elem? s.workers i ≡ some w → Can P s i e → get_elem? (next P s i e).workers i ≡ some v → Owns w.stage w v
  finishes_own e w v at can after_it = owns_by e w.stage w v at (sym (ap (λ o. get_elem? (next_of P i e s o).workers i) at) ∙ after_it)
