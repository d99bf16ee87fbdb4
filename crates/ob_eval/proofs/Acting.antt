-- Acts on the last values: what stops them, and what is left behind them.
use Rattle.std.proofs.Common.{◌≡◌, ℕ, List, [], ◌∷◌, Option, Some, None, Err, refl, sym, ap, subst, ◌∙◌}
use Rattle.run_laws.specs.Turns.{State, Ending, Gives, Fails, after, ◌>>=◌}
use Rattle.ob_types.specs.Store.{Cell, Bits, Pointer, Code, Store, Trap, Senseless, senseless, given, Handed, bits_in}
use Rattle.ob_types.specs.Statements.{Deed}
use Rattle.eval_store.specs.Did.{Stopped}
use Rattle.eval_store.specs.declared.stop.Stop.{Stop}
use Rattle.eval_at_once.proofs.Going.{stops_first}
use Rattle.eval_tasks.specs.Tasks.{popped, taken}
use Rattle.eval_store.specs.Handing.{cell_in}
use Rattle.ob_eval.specs.Steps.{TookCell, TookNumber, Took}
use Rattle.ob_eval.specs.declared.machine.Machine.{Machine}
use Rattle.ob_eval.proofs.Steps.{number_stops}

-- nothing was there
pub took_stops : (m m1 : Machine) (go : Handed → List Handed → Deed) (stop : Stop) → Took m (Err stop) m1 → Stopped (taken m.values go m.world) stop m1.world.out
took_stops m m1 go stop h = let P : Stop → Type 0 = λ s. Stopped (taken m.values go m.world) s m1.world.out in subst P (sym h.0) (h.1 go)

pub cell_stops : (m m1 : Machine) (go : Cell → List Handed → Deed) (stop : Stop) → TookCell m (Err stop) m1 → Stopped (popped m.values go m.world) stop m1.world.out
cell_stops m m1 go stop h = let P : Stop → Type 0 = λ s. Stopped (popped m.values go m.world) s m1.world.out in subst P (sym h.0) (h.1 go)

-- what is done with what was taken stopped, or gave a value
module _ {B : Type 0} (E : Machine → Ending Store Trap (Unit {0})) (m m1 : Machine) (e : Ending Store Trap B) (f : B → Deed) (took : m ≡ m1) (is : E m1 ≡ after e f) where
  pub act_stops : (stop : Stop) (out : List ℕ) → Stopped e stop out → Stopped (E m) stop out
  act_stops stop out h = stops_first e f (E m) stop out (ap E took ∙ is) h

  pub act_gives : (a : B) (t : State Store) → e ≡ Gives a t → f a t ≡ E m
  act_gives a t h = sym (ap E took ∙ is ∙ ap (λ e. after e f) h)

-- a range of elements, whose first one isn't there

behind : (more : List Handed) (t : State Store) → popped more (λ c rest. bits_in c >>= λ b. senseless {A = Unit {0}}) t ≡ Fails Senseless t.out
behind [] t = refl
behind (v ∷ vs) t = by (cell_in v)
  where
    by : (o : Option Cell) → after (given o t) (λ c. bits_in c >>= λ b. senseless {A = Unit {0}}) ≡ Fails Senseless t.out
    by None = refl
    by (Some (Bits n)) = refl
    by (Some (Pointer o)) = refl
    by (Some (Code f)) = refl

pub low_stops : (m m1 : Machine) (G : ℕ → ℕ → List Handed → Deed) (stop : Stop) → TookNumber m (Err stop) m1 → Stopped (popped m.values (λ d more. popped more (λ c rest. bits_in c >>= λ b. bits_in d >>= λ from. G b from rest)) m.world) stop m1.world.out
low_stops m m1 G stop h = number_stops m m1 _ (λ n more. popped more (λ c rest. bits_in c >>= λ b. G b n rest)) stop h by
  where
    by : (d : Cell) (more : List Handed) (t : State Store) → popped more (λ c rest. bits_in c >>= λ b. bits_in d >>= λ from. G b from rest) t ≡ (bits_in d >>= λ n. popped more (λ c rest. bits_in c >>= λ b. G b n rest)) t
    by (Bits n) more t = refl
    by (Pointer o) more t = behind more t
    by (Code f) more t = behind more t
