-- Imports, one after the other.
use Rattle.std.proofs.Common.{◌≡◌, ℕ, ◌+◌, ◌<◌, List, [], ◌∷◌, length, map, drop, get_or, Option, Some, None, Result, Ok, Err, refl, sym, ap, ◌∙◌, subst}
use Rattle.ob_syntax.specs.declared.modules.Import.{Import}
use Rattle.ob_syntax.specs.declared.modules.NextImport.{NextImport}
use Rattle.ob_judge.specs.Judged.{Judged, Keeps, Breaks, ◌>>=◌, some}
use Rattle.ob_judge.specs.Scopes.{Imported, World, place, spelled}
use Rattle.ob_judge.specs.Making.{Making, Part, ◌>>>◌, here}
use Rattle.ob_judge.specs.Modules.{imported, import_part, origin}
use Rattle.check_types.specs.steps.Answers.{Answers}
use Rattle.check_types.specs.declared.steps.fault.CheckFault.{CheckFault}
use Rattle.check_types.specs.declared.steps.fault.CheckFault.TheVariants.{Fault}
use Rattle.check_types.proofs.steps.Answering.{Judging, round_on, round_stops}
use Rattle.check_types.specs.names.Meaning.{module_of}
use Rattle.check_making.specs.declared.making.Declaring.{Declaring}
use Rattle.check_making.specs.declared.making.Surroundings.{Surroundings}
use Rattle.check_making.specs.Making.{table_of, strings_of, Makes}
use Rattle.check_making.specs.Parts.{Made}
use Rattle.check_modules.specs.importing.Importing.{known_as, more_imports}
use Rattle.check_making.proofs.parameters.Answering.{refused}
use Rattle.check_making.proofs.parameters.InLists.{as_state}

module _ (r : Surroundings) (x : Import) where
  -- an import whose name stands
  abbrev pub found_here : Part (Unit {0})
  found_here = here (λ w. some 38 (place r.source.now (origin x)) (imported w.modules (spelled r.source.now (origin x)))) >>> λ m. known_as r.source.now x.name m

  module _ (s t : Declaring) (a : Making) (makes : Makes r s a) (o : Option Imported) (is : imported (map (module_of (table_of s) (strings_of s)) r.modules.now) (spelled r.source.now (origin x)) ≡ o) where
    there : imported a.world.modules (spelled r.source.now (origin x)) ≡ o
    there = ap (λ (w : World). imported w.modules (spelled r.source.now (origin x))) makes.world ∙ is

    abbrev beside : Imported → Judged (Imported × Making)
    beside m = Keeps (m, a)

    -- from what was found on
    abbrev from_found : Option Imported → Judged (Unit {0} × Making)
    from_found z = (some 38 (place r.source.now (origin x)) z >>= beside) >>= λ (q : Imported × Making). known_as r.source.now x.name q.0 q.1

    pub none_here : o ≡ None → (e : CheckFault) → e ≡ Fault 38 (place r.source.now (origin x)) → Answers (Made r t) (found_here a) (Err e)
    none_here n e f = subst (λ z. Answers (Made r t) (from_found z) (Err e)) (sym (there ∙ n))
        (subst (λ z. Answers (Made r t) (Breaks 38 (place r.source.now (origin x))) (Err z)) (sym f) (record { by = (refl, refl) }))

    pub some_here : (m : Imported) → o ≡ Some m → (result : Result (Unit {0}) CheckFault) → Answers (Made r t) (known_as r.source.now x.name m a) result → Answers (Made r t) (found_here a) result
    some_here m n result h = subst (λ z. Answers (Made r t) (from_found z) result) (sym (there ∙ n)) h

-- ---- rounds over further imports

abbrev pub StateMakes : Surroundings → Declaring → Unit {0} × Making → Type 0
StateMakes r s left = Makes r s left.1

from_state : {r : Surroundings} {s : Declaring} (m : Judged (Unit {0} × Making)) → Answers (StateMakes r) m (Ok s) → Answers (Made r s) m (Ok tt)
from_state (Keeps a) h = record { by = record { makes = h.by } }
from_state (Breaks n at) h = absurd h.by

module _ (r : Surroundings) where
  abbrev pub imports_from : Unit {0} × Making → List NextImport → Judged (Unit {0} × Making)
  imports_from a xs = more_imports r.source.now xs a.1

  abbrev pub import_item : Unit {0} × Making → NextImport → Judged (Unit {0} × Making)
  import_item a x = import_part r.source.now x.import a.1

  law : (a : Unit {0} × Making) (x : NextImport) (xs : List NextImport) → imports_from a (x ∷ xs) ≡ (import_item a x >>= λ z. imports_from z xs)
  law a x xs = refl

  done : (a : Unit {0} × Making) → imports_from a [] ≡ Keeps a
  done a = refl

  pub imports_first : (s : Declaring) (m : Making) → Makes r s m → (xs : List NextImport) → Judging (StateMakes r) imports_from (imports_from (tt, m) xs) s xs
  imports_first s m makes xs = record { so_far = (tt, m); stands = makes; same = refl }

  pub imports_next : (whole : Judged (Unit {0} × Making)) (s t : Declaring) (xs : List NextImport) (i : ℕ) (d : NextImport) → i < length xs → Judging (StateMakes r) imports_from whole s (drop i xs)
      → ((m : Making) → Makes r s m → Answers (Made r t) (import_item (tt, m) (get_or xs i d)) (Ok tt)) → Judging (StateMakes r) imports_from whole t (drop (i + 1) xs)
  imports_next whole s t xs i d l j h = round_on imports_from import_item law xs i d l j (λ a k. as_state (import_item a (get_or xs i d)) (h a.1 k))

  pub imports_stop : (whole : Judged (Unit {0} × Making)) (s t : Declaring) (xs : List NextImport) (i : ℕ) (d : NextImport) (e : CheckFault) → i < length xs → Judging (StateMakes r) imports_from whole s (drop i xs)
      → ((m : Making) → Makes r s m → Answers (Made r t) (import_item (tt, m) (get_or xs i d)) (Err e)) → Answers (Made r t) whole (Err e)
  imports_stop whole s t xs i d e l j h = refused (round_stops imports_from import_item law xs i d l j (λ a k. refused (h a.1 k)))

  pub imports_done : (whole : Judged (Unit {0} × Making)) (s : Declaring) → Judging (StateMakes r) imports_from whole s [] → Answers (Made r s) whole (Ok tt)
  imports_done whole s j = from_state whole (subst (λ m. Answers (StateMakes r) m (Ok s)) (sym (j.same ∙ done j.so_far)) (record { by = j.stands }))
