-- Names in lists that stand, one after the other.
use Rattle.std.proofs.Common.{◌≡◌, ℕ, List, [], ◌∷◌, Bool, true, false, not, Result, Ok, Err, refl}
use Rattle.ob_syntax.specs.declared.names.NextIdent.{NextIdent}
use Rattle.ob_judge.specs.Judged.{Judged, Keeps, Breaks, ◌>>=◌, rule}
use Rattle.ob_judge.specs.Scopes.{Source, place, spelled}
use Rattle.ob_judge.specs.Making.{Making, is_among}
use Rattle.ob_judge.specs.Parameters.{stand, next_names}
use Rattle.check_types.specs.steps.Answers.{Answers}
use Rattle.check_types.specs.declared.steps.fault.CheckFault.{CheckFault}
use Rattle.check_types.proofs.steps.Answering.{goes_on, stop, as_judged}
use Rattle.check_making.specs.declared.making.Declaring.{Declaring}
use Rattle.check_making.specs.declared.making.Surroundings.{Surroundings}
use Rattle.check_making.specs.Making.{Makes}
use Rattle.check_making.specs.Parts.{Made}

-- a state that stands for what is left
abbrev pub StateMakes : Surroundings → Declaring → Unit {0} × Making → Type 0
StateMakes r s a = Makes r s a.1

pub as_state : {r : Surroundings} {s : Declaring} (m : Judged (Unit {0} × Making)) → Answers (Made r s) m (Ok tt) → Answers (StateMakes r) m (Ok s)
as_state (Keeps a) h = record { by = (h.by).makes }
as_state (Breaks n at) h = absurd h.by

pub state_left : {r : Surroundings} {s : Declaring} (a : Unit {0} × Making) → Makes r s a.1 → Answers (Made r s) (Keeps a) (Ok tt)
state_left a h = record { by = record { makes = h } }

module _ (p : Source) (i : ℕ) (is : List ℕ) (m : Making) where
  abbrev one : Bool → Judged (Unit {0} × Making)
  one b = (rule 36 (place p i) (not b) >>= λ (a : Unit {0}). Keeps (a, m)) >>= λ (r : Unit {0} × Making). Keeps (tt, record r.1 { standing = spelled p i ∷ (r.1).standing })

  abbrev all : Bool → Judged (Unit {0} × Making)
  all b = (rule 36 (place p i) (not b) >>= λ (a : Unit {0}). Keeps (a, m)) >>= λ (r : Unit {0} × Making). stand p is (record r.1 { standing = spelled p i ∷ (r.1).standing })

  split : (b : Bool) → all b ≡ (one b >>= λ r. stand p is r.1)
  split true = refl
  split false = refl

  -- the first, and then the others
  pub stand_split : stand p (i ∷ is) m ≡ (stand p (i ∷ []) m >>= λ r. stand p is r.1)
  stand_split = split (is_among (spelled p i) m.standing)

module _ (r : Surroundings) where
  abbrev pub names_from : Unit {0} × Making → List NextIdent → Judged (Unit {0} × Making)
  names_from a xs = stand r.source.now (next_names xs) a.1

  abbrev pub name_item : Unit {0} × Making → NextIdent → Judged (Unit {0} × Making)
  name_item a x = stand r.source.now (x.name ∷ []) a.1

  pub names_law : (a : Unit {0} × Making) (x : NextIdent) (xs : List NextIdent) → names_from a (x ∷ xs) ≡ (name_item a x >>= λ z. names_from z xs)
  names_law a x xs = stand_split r.source.now x.name (next_names xs) a.1

  -- the first of all, and then those behind it
  pub stand_both : (i : ℕ) (is : List ℕ) (m : Making) {s t : Declaring} (result : Result (Unit {0}) CheckFault) → Answers (Made r s) (stand r.source.now (i ∷ []) m) (Ok tt)
      → ((n : Making) → Makes r s n → Answers (Made r t) (stand r.source.now is n) result) → Answers (Made r t) (stand r.source.now (i ∷ is) m) result
  stand_both i is m result h k = as_judged (stand_split r.source.now i is m) (goes_on (stand r.source.now (i ∷ []) m) _ h (λ a made. k a.1 made.makes))

  pub stand_broken : (i : ℕ) (is : List ℕ) (m : Making) {s t : Declaring} {e : CheckFault} → Answers (Made r s) (stand r.source.now (i ∷ []) m) (Err e) → Answers (Made r t) (stand r.source.now (i ∷ is) m) (Err e)
  stand_broken i is m h = as_judged (stand_split r.source.now i is m) (stop (stand r.source.now (i ∷ []) m) _ h)
