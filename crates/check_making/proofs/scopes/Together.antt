-- Parts of the judgement put together, on a program that is being built.
use Rattle.std.proofs.Common.{◌≡◌, ℕ, ◌+◌, ◌<◌, List, [], ◌∷◌, length, map, drop, get_or, Result, Ok, Err, refl, sym, ap, ◌∙◌, subst}
use Rattle.ob_judge.specs.Judged.{Judged, Keeps, Breaks, ◌>>=◌}
use Rattle.ob_judge.specs.Scopes.{World}
use Rattle.std.specs.Prelude.{is_some}
use Rattle.ob_judge.specs.Making.{Making, is_among}
use Rattle.check_types.specs.steps.Maps.{at_bytes}
use Rattle.judged_well.specs.Gives.{Gives}
use Rattle.check_types.specs.steps.Answers.{Answers}
use Rattle.check_types.specs.declared.steps.fault.CheckFault.{CheckFault}
use Rattle.check_types.proofs.steps.Answering.{Judging, round_on, round_stops}
use Rattle.check_types.specs.TypeMeaning.{type_shape}
use Rattle.table_builder.specs.Growing.{Grows}
use Rattle.check_making.specs.declared.making.Declaring.{Declaring}
use Rattle.check_making.specs.declared.making.Forward.{Forward}
use Rattle.check_making.specs.declared.making.Surroundings.{Surroundings}
use Rattle.check_making.specs.Making.{table_of, strings_of, forward_of, Makes, IsSettled}
use Rattle.check_making.specs.Parts.{Made, Gave}
use Rattle.check_making.proofs.Growing.{variables_same}
use Rattle.check_making.proofs.Typed.{answers_with}
use Rattle.judged_modules.specs.steps.Frames.{Begins, Held, Steady, entered, left}
use Rattle.check_making.specs.declared.scopes.building.Building.{Building}
use Rattle.check_making.specs.declared.scopes.entering.Outer.{Outer}
use Rattle.check_making.specs.scopes.Building.{IsLater, TheyStandFor, Represents}
use Rattle.check_making.specs.scopes.Built.{Built, BuiltAs}
use Rattle.check_making.specs.scopes.Scopes.{deeper, IsPutAside, IsOuter}
use Rattle.check_making.proofs.scopes.Procedures.{they_stand_still}

module _ (r : Surroundings) (s : Building) (m : Making) (h : Represents r s m) where
  bases_are : m.world.known.bases ≡ s.declaring.types.table.bases.items
  bases_are = ap (λ (w : World). w.known.bases) h.makes.world

  abbrev pub with_declaring : Declaring → Building
  with_declaring t = record s { declaring = t }

  -- declarations went on, and left all procedures as they were
  pub goes_on_to : (t : Declaring) (n : Making) → Makes r t n → n.procedures ≡ m.procedures → IsLater s.declaring.types.table t.types.table → Begins m.world.known.bases n.world.known.bases → Represents r (with_declaring t) n
  goes_on_to t n makes same later begins = record {
    makes = makes;
    procedures = subst (TheyStandFor t.types.table s.procedures.items) (sym same)
        (they_stand_still s.declaring.types.table t.types.table later
        (subst (λ bs. Begins bs t.types.table.bases.items) bases_are (subst (Begins m.world.known.bases) (ap (λ (w : World). w.known.bases) makes.world) begins))
        s.procedures.items m.procedures h.procedures);
  }

  -- and so they did where the table of types is what it was
  pub stays_at : (t : Declaring) (n : Making) → Makes r t n → n.procedures ≡ m.procedures → t.types ≡ s.declaring.types → Represents r (with_declaring t) n
  stays_at t n makes same types = record {
    makes = makes;
    procedures = subst (λ z. TheyStandFor z.table s.procedures.items n.procedures) (sym types) (subst (TheyStandFor s.declaring.types.table s.procedures.items) (sym same) h.procedures);
  }

  -- a part of the judgement that leaves procedures as they were
  pub built_on : {A B : Type 0} {R : B → A → Type 0} (t : Declaring) (part : Judged (A × Making)) → Gives (λ left. Steady m left.1) part → IsLater s.declaring.types.table t.types.table → (result : Result B CheckFault)
      → Answers (Gave R r t) part result → Answers (BuiltAs R r (with_declaring t)) part result
  built_on t part law later result answers =
      answers_with part result answers law (λ b left gave steady. record { value = gave.value; represents = goes_on_to t left.1 gave.makes steady.procedures later steady.begins })

  -- or leaves them and the table of types
  pub built_at : (t : Declaring) (part : Judged (Unit {0} × Making)) → Gives (λ left. Held m left.1) part → t.types ≡ s.declaring.types → (result : Result (Unit {0}) CheckFault)
      → Answers (Made r t) part result → Answers (Built r (with_declaring t)) part result
  built_at t part law types result answers =
      answers_with part result answers law (λ b left made held. record { represents = stays_at t left.1 made.makes held.procedures types })

-- ---- a procedure's scope

module _ (r : Surroundings) (s : Building) (m : Making) (h : Represents r s m) (f : ℕ) where
  -- opened
  pub opened_to : (t : Declaring) (depth : ℕ) → Makes (deeper r depth) t (entered f m) → t.types ≡ s.declaring.types → Represents (deeper r depth) (record s { declaring = t }) (entered f m)
  opened_to t depth makes types = record { makes = makes; procedures = subst (λ z. TheyStandFor z.table s.procedures.items m.procedures) (sym types) h.procedures }

  -- and closed, once inner was made in it
  module _ (ok : IsSettled r s.declaring) (o : Outer) (aside : IsPutAside s.declaring o) (t : Building) (inner : Making) (made : Represents (deeper r o.depth) t inner) (later : List Forward)
      (forward : m.forward ≡ map forward_of later) (modules : inner.world.modules ≡ m.world.modules) (grows : Grows s.declaring.types.table t.declaring.types.table) where
    is_outer : IsOuter r t.declaring o later m inner
    is_outer =
        let makes = h.makes in
        record {
          imports_in = makes.imports_in ∙ sym aside.imports_in;
          is_type_part = makes.is_type_part ∙ sym aside.is_type_part;
          forward = forward;
          standing = subst (λ x. (q : List ℕ) → is_among q m.standing ≡ is_some (at_bytes x q)) (sym aside.standing) makes.standing;
          values = makes.values ∙ sym aside.values;
          variables = makes.variables ∙ sym (variables_same s.declaring.types.table t.declaring.types.table (strings_of s.declaring) grows s.declaring.variables.items ok.variables) ∙ ap (λ v. map (type_shape (table_of t.declaring)) v.items) (sym aside.variables);
          modules = sym modules;
          module_number = ap (λ (w : World). w.module_number) makes.world;
          procedure = ap (λ (w : World). w.procedure) makes.world ∙ sym aside.procedure;
          constant = ap (λ (w : World). w.constant) makes.world;
          narrowed = ap (λ (w : World). w.narrowed) makes.world;
        }

    pub closed_to : (u : Declaring) → u.types ≡ t.declaring.types → ((a b : Making) → Makes (deeper r o.depth) t.declaring b → IsOuter r t.declaring o later a b → Makes r u (left a b)) → Represents r (record t { declaring = u }) (left m inner)
    closed_to u types makes = record {
      makes = makes m inner made.makes is_outer;
      procedures = subst (λ z. TheyStandFor z.table t.procedures.items inner.procedures) (sym types) made.procedures;
    }

-- ---- rounds over a list, each of which changes the program

abbrev pub BuildingMakes : Surroundings → Building → Unit {0} × Making → Type 0
BuildingMakes r s left = Represents r s left.1

as_state : {r : Surroundings} {s : Building} (m : Judged (Unit {0} × Making)) → Answers (Built r s) m (Ok tt) → Answers (BuildingMakes r) m (Ok s)
as_state (Keeps a) h = record { by = (h.by).represents }
as_state (Breaks n at) h = absurd h.by

from_state : {r : Surroundings} {s : Building} (m : Judged (Unit {0} × Making)) → Answers (BuildingMakes r) m (Ok s) → Answers (Built r s) m (Ok tt)
from_state (Keeps a) h = record { by = record { represents = h.by } }
from_state (Breaks n at) h = absurd h.by

pub refused : {A B D : Type 0} {R : B → A → Type 0} {S : D → A → Type 0} {e : CheckFault} {m : Judged A} → Answers R m (Err e) → Answers S m (Err e)
refused h = record { by = h.by }

module _ {X : Type 0} (r : Surroundings) (each : Unit {0} × Making → List X → Judged (Unit {0} × Making)) (item : Unit {0} × Making → X → Judged (Unit {0} × Making))
    (law : (a : Unit {0} × Making) (x : X) (xs : List X) → each a (x ∷ xs) ≡ (item a x >>= λ z. each z xs)) (done : (a : Unit {0} × Making) → each a [] ≡ Keeps a) where
  pub left_first : (s : Building) (m : Making) → Represents r s m → (xs : List X) → Judging (BuildingMakes r) each (each (tt, m) xs) s xs
  left_first s m makes xs = record { so_far = (tt, m); stands = makes; same = refl }

  pub left_next : (whole : Judged (Unit {0} × Making)) (s t : Building) (xs : List X) (i : ℕ) (d : X) → i < length xs → Judging (BuildingMakes r) each whole s (drop i xs)
      → ((m : Making) → Represents r s m → Answers (Built r t) (item (tt, m) (get_or xs i d)) (Ok tt)) → Judging (BuildingMakes r) each whole t (drop (i + 1) xs)
  left_next whole s t xs i d l j h = round_on each item law xs i d l j (λ a k. as_state (item a (get_or xs i d)) (h a.1 k))

  pub left_stops : (whole : Judged (Unit {0} × Making)) (s t : Building) (xs : List X) (i : ℕ) (d : X) (e : CheckFault) → i < length xs → Judging (BuildingMakes r) each whole s (drop i xs)
      → ((m : Making) → Represents r s m → Answers (Built r t) (item (tt, m) (get_or xs i d)) (Err e)) → Answers (Built r t) whole (Err e)
  left_stops whole s t xs i d e l j h = refused (round_stops each item law xs i d l j (λ a k. refused (h a.1 k)))

  pub left_none : (whole : Judged (Unit {0} × Making)) (s : Building) → Judging (BuildingMakes r) each whole s [] → Answers (Built r s) whole (Ok tt)
  left_none whole s j = from_state whole (subst (λ m. Answers (BuildingMakes r) m (Ok s)) (sym (j.same ∙ done j.so_far)) (record { by = j.stands }))
