-- Parts of the judgement, one after the other, and the states that stand for what they leave.
use Rattle.std.proofs.Common.{◌≡◌, ℕ, ◌+◌, ◌<◌, List, [], ◌∷◌, length, drop, get_or, Ok, Err, refl, sym, ◌∙◌, subst}
use Rattle.ob_judge.specs.Judged.{Judged, Keeps, Breaks, ◌>>=◌}
use Rattle.ob_judge.specs.Making.{Making}
use Rattle.check_types.specs.steps.Answers.{Answers, Refuses}
use Rattle.check_types.specs.declared.steps.fault.CheckFault.{CheckFault}
use Rattle.check_types.specs.declared.steps.fault.CheckFault.TheVariants.{Memory}
use Rattle.check_types.proofs.steps.Answering.{Judging, round_on, round_stops}
use Rattle.check_making.specs.declared.making.Declaring.{Declaring}
use Rattle.check_making.specs.declared.making.Surroundings.{Surroundings}
use Rattle.check_making.specs.Making.{Makes}
use Rattle.check_making.specs.Parts.{Made}
use Rattle.check_making.proofs.parameters.Answering.{refused}
use Rattle.check_making.proofs.parameters.InLists.{as_state}

memory_refuses : {A : Type 0} (m : Judged A) → Refuses m Memory
memory_refuses (Keeps a) = tt
memory_refuses (Breaks n at) = tt

-- want of memory answers all
pub no_memory : {A B : Type 0} {S : B → A → Type 0} (m : Judged A) → Answers S m (Err Memory)
no_memory {S} m = record { by = memory_refuses m }

-- ---- rounds over a list, each of which changes the state

abbrev pub StateMakes : Surroundings → Declaring → Unit {0} × Making → Type 0
StateMakes r s left = Makes r s left.1

from_state : {r : Surroundings} {s : Declaring} (m : Judged (Unit {0} × Making)) → Answers (StateMakes r) m (Ok s) → Answers (Made r s) m (Ok tt)
from_state (Keeps a) h = record { by = record { makes = h.by } }
from_state (Breaks n at) h = absurd h.by

module _ {X : Type 0} (r : Surroundings) (each : Unit {0} × Making → List X → Judged (Unit {0} × Making)) (item : Unit {0} × Making → X → Judged (Unit {0} × Making))
    (law : (a : Unit {0} × Making) (x : X) (xs : List X) → each a (x ∷ xs) ≡ (item a x >>= λ z. each z xs)) (done : (a : Unit {0} × Making) → each a [] ≡ Keeps a) where
  -- what is left to be judged from here on
  pub Left : Judged (Unit {0} × Making) → Declaring → List X → Type 0
  Left whole s rest = Judging (StateMakes r) each whole s rest

  pub left_first : (s : Declaring) (m : Making) → Makes r s m → (xs : List X) → Judging (StateMakes r) each (each (tt, m) xs) s xs
  left_first s m makes xs = record { so_far = (tt, m); stands = makes; same = refl }

  pub left_next : (whole : Judged (Unit {0} × Making)) (s t : Declaring) (xs : List X) (i : ℕ) (d : X) → i < length xs → Judging (StateMakes r) each whole s (drop i xs)
      → ((m : Making) → Makes r s m → Answers (Made r t) (item (tt, m) (get_or xs i d)) (Ok tt)) → Judging (StateMakes r) each whole t (drop (i + 1) xs)
  left_next whole s t xs i d l j h = round_on each item law xs i d l j (λ a k. as_state (item a (get_or xs i d)) (h a.1 k))

  pub left_stops : (whole : Judged (Unit {0} × Making)) (s t : Declaring) (xs : List X) (i : ℕ) (d : X) (e : CheckFault) → i < length xs → Judging (StateMakes r) each whole s (drop i xs)
      → ((m : Making) → Makes r s m → Answers (Made r t) (item (tt, m) (get_or xs i d)) (Err e)) → Answers (Made r t) whole (Err e)
  left_stops whole s t xs i d e l j h = refused (round_stops each item law xs i d l j (λ a k. refused (h a.1 k)))

  pub left_none : (whole : Judged (Unit {0} × Making)) (s : Declaring) → Judging (StateMakes r) each whole s [] → Answers (Made r s) whole (Ok tt)
  left_none whole s j = from_state whole (subst (λ m. Answers (StateMakes r) m (Ok s)) (sym (j.same ∙ done j.so_far)) (record { by = j.stands }))
