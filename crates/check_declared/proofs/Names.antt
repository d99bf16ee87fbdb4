-- Names in lists: that they stand, and that they are variables.
use Rattle.std.proofs.Common.{◌≡◌, ℕ, ◌+◌, ◌<◌, List, [], ◌∷◌, length, drop, get_or, Bool, true, false, not, Result, Ok, Err, refl}
use Rattle.ob_syntax.specs.declared.names.NextIdentdef.{NextIdentdef}
use Rattle.ob_judge.specs.Judged.{Judged, Keeps, ◌>>=◌, rule}
use Rattle.ob_judge.specs.Shapes.{Shape}
use Rattle.ob_judge.specs.Scopes.{Source, place, spelled}
use Rattle.ob_judge.specs.Making.{Making, is_among}
use Rattle.ob_judge.specs.Parameters.{stand, symbols_of, next_list}
use Rattle.ob_judge.specs.Declarations.{variable_part, each}
use Rattle.check_types.specs.steps.Answers.{Answers}
use Rattle.check_types.specs.declared.steps.fault.CheckFault.{CheckFault}
use Rattle.check_types.proofs.steps.Answering.{goes_on, stop, as_judged, Judging}
use Rattle.check_making.specs.declared.making.Declaring.{Declaring}
use Rattle.check_making.specs.declared.making.Surroundings.{Surroundings}
use Rattle.check_making.specs.Making.{Makes}
use Rattle.check_making.specs.Parts.{Made}
use Rattle.check_declared.proofs.Parts.{StateMakes, left_first, left_next, left_stops, left_none}

-- ---- names that stand

abbrev left : Unit {0} → Making → Judged (Unit {0} × Making)
left a s = Keeps (a, s)

module _ (p : Source) (i : ℕ) (is : List ℕ) (m : Making) where
  abbrev one : Bool → Judged (Unit {0} × Making)
  one b = (rule 36 (place p i) (not b) >>= λ a. left a m) >>= λ (r : Unit {0} × Making). left tt (record r.1 { standing = spelled p i ∷ (r.1).standing })

  abbrev all : Bool → Judged (Unit {0} × Making)
  all b = (rule 36 (place p i) (not b) >>= λ a. left a m) >>= λ (r : Unit {0} × Making). stand p is (record r.1 { standing = spelled p i ∷ (r.1).standing })

  split : (b : Bool) → all b ≡ (one b >>= λ r. stand p is r.1)
  split true = refl
  split false = refl

  -- the first, and then the others
  pub stand_split : stand p (i ∷ is) m ≡ (stand p (i ∷ []) m >>= λ r. stand p is r.1)
  stand_split = split (is_among (spelled p i) m.standing)

module _ (r : Surroundings) where
  abbrev pub stand_from : Unit {0} × Making → List NextIdentdef → Judged (Unit {0} × Making)
  stand_from a xs = stand r.source.now (symbols_of (next_list xs)) a.1

  abbrev pub stand_item : Unit {0} × Making → NextIdentdef → Judged (Unit {0} × Making)
  stand_item a x = stand r.source.now (x.name.name ∷ []) a.1

  stand_law : (a : Unit {0} × Making) (x : NextIdentdef) (xs : List NextIdentdef) → stand_from a (x ∷ xs) ≡ (stand_item a x >>= λ z. stand_from z xs)
  stand_law a x xs = stand_split r.source.now x.name.name (symbols_of (next_list xs)) a.1

  stand_end : (a : Unit {0} × Making) → stand_from a [] ≡ Keeps a
  stand_end a = refl

  pub stand_next : (whole : Judged (Unit {0} × Making)) (s t : Declaring) (xs : List NextIdentdef) (i : ℕ) (d : NextIdentdef) → i < length xs → Judging (StateMakes r) stand_from whole s (drop i xs)
      → ((m : Making) → Makes r s m → Answers (Made r t) (stand_item (tt, m) (get_or xs i d)) (Ok tt)) → Judging (StateMakes r) stand_from whole t (drop (i + 1) xs)
  stand_next = left_next r stand_from stand_item stand_law stand_end

  pub stand_stop : (whole : Judged (Unit {0} × Making)) (s t : Declaring) (xs : List NextIdentdef) (i : ℕ) (d : NextIdentdef) (e : CheckFault) → i < length xs → Judging (StateMakes r) stand_from whole s (drop i xs)
      → ((m : Making) → Makes r s m → Answers (Made r t) (stand_item (tt, m) (get_or xs i d)) (Err e)) → Answers (Made r t) whole (Err e)
  stand_stop = left_stops r stand_from stand_item stand_law stand_end

  pub stand_done : (whole : Judged (Unit {0} × Making)) (s : Declaring) → Judging (StateMakes r) stand_from whole s [] → Answers (Made r s) whole (Ok tt)
  stand_done = left_none r stand_from stand_item stand_law stand_end

  pub stand_first : (s : Declaring) (m : Making) → Makes r s m → (xs : List NextIdentdef) → Judging (StateMakes r) stand_from (stand_from (tt, m) xs) s xs
  stand_first = left_first r stand_from stand_item stand_law stand_end

  -- the first of all, and then those behind it
  pub stand_both : (i : ℕ) (is : List ℕ) (m : Making) {s t : Declaring} (result : Result (Unit {0}) CheckFault) → Answers (Made r s) (stand r.source.now (i ∷ []) m) (Ok tt)
      → ((n : Making) → Makes r s n → Answers (Made r t) (stand r.source.now is n) result) → Answers (Made r t) (stand r.source.now (i ∷ is) m) result
  stand_both i is m result h k = as_judged (stand_split r.source.now i is m) (goes_on (stand r.source.now (i ∷ []) m) _ h (λ a made. k a.1 made.makes))

  pub stand_broken : (i : ℕ) (is : List ℕ) (m : Making) {s t : Declaring} {e : CheckFault} → Answers (Made r s) (stand r.source.now (i ∷ []) m) (Err e) → Answers (Made r t) (stand r.source.now (i ∷ is) m) (Err e)
  stand_broken i is m h = as_judged (stand_split r.source.now i is m) (stop (stand r.source.now (i ∷ []) m) _ h)

-- ---- variables

module _ (r : Surroundings) (shape : Shape) where
  abbrev pub variables_from : Unit {0} × Making → List NextIdentdef → Judged (Unit {0} × Making)
  variables_from a xs = each (variable_part r.source.now shape) (next_list xs) a.1

  abbrev pub variable_item : Unit {0} × Making → NextIdentdef → Judged (Unit {0} × Making)
  variable_item a x = variable_part r.source.now shape x.name a.1

  variables_law : (a : Unit {0} × Making) (x : NextIdentdef) (xs : List NextIdentdef) → variables_from a (x ∷ xs) ≡ (variable_item a x >>= λ z. variables_from z xs)
  variables_law a x xs = refl

  variables_end : (a : Unit {0} × Making) → variables_from a [] ≡ Keeps a
  variables_end a = refl

  pub variables_next : (whole : Judged (Unit {0} × Making)) (s t : Declaring) (xs : List NextIdentdef) (i : ℕ) (d : NextIdentdef) → i < length xs → Judging (StateMakes r) variables_from whole s (drop i xs)
      → ((m : Making) → Makes r s m → Answers (Made r t) (variable_item (tt, m) (get_or xs i d)) (Ok tt)) → Judging (StateMakes r) variables_from whole t (drop (i + 1) xs)
  variables_next = left_next r variables_from variable_item variables_law variables_end

  pub variables_stop : (whole : Judged (Unit {0} × Making)) (s t : Declaring) (xs : List NextIdentdef) (i : ℕ) (d : NextIdentdef) (e : CheckFault) → i < length xs → Judging (StateMakes r) variables_from whole s (drop i xs)
      → ((m : Making) → Makes r s m → Answers (Made r t) (variable_item (tt, m) (get_or xs i d)) (Err e)) → Answers (Made r t) whole (Err e)
  variables_stop = left_stops r variables_from variable_item variables_law variables_end

  pub variables_done : (whole : Judged (Unit {0} × Making)) (s : Declaring) → Judging (StateMakes r) variables_from whole s [] → Answers (Made r s) whole (Ok tt)
  variables_done = left_none r variables_from variable_item variables_law variables_end

  pub variables_first : (s : Declaring) (m : Making) → Makes r s m → (xs : List NextIdentdef) → Judging (StateMakes r) variables_from (variables_from (tt, m) xs) s xs
  variables_first = left_first r variables_from variable_item variables_law variables_end
