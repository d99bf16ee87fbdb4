-- What was put aside where a procedure's scope was entered.
use Rattle.std.proofs.Common.{◌≡◌, ℕ, List, [], map, length, refl, sym, ap, ◌∙◌, subst}
use Rattle.std.specs.Prelude.{is_some, Vec}
use Rattle.std.specs.Global.{Global}
use Rattle.ob_judge.specs.Scopes.{World}
use Rattle.ob_judge.specs.Making.{Making, is_among}
use Rattle.check_types.specs.steps.Maps.{at_bytes}
use Rattle.check_types.specs.TypeMeaning.{type_shape}
use Rattle.table_builder.specs.Growing.{Grows}
use Rattle.judged_modules.specs.steps.Frames.{entered}
use Rattle.check_making.specs.declared.making.Declaring.{Declaring}
use Rattle.check_making.specs.declared.making.Forward.{Forward}
use Rattle.check_making.specs.declared.making.Surroundings.{Surroundings}
use Rattle.check_making.specs.Making.{table_of, strings_of, forward_of, AreNumbered, Makes, IsSettled}
use Rattle.check_making.proofs.Growing.{variables_same}
use Rattle.check_making.specs.declared.scopes.entering.Outer.{Outer}
use Rattle.check_making.specs.declared.scopes.building.Building.{Building}
use Rattle.check_making.specs.scopes.Building.{TheyStandFor, Represents}
use Rattle.check_making.specs.scopes.Scopes.{deeper, IsPutAside, IsOuter}
use Rattle.check_procedures.specs.declared.opening.PutAside.{PutAside}
use Rattle.check_procedures.specs.Open.{IsEntered}
use Rattle.check_procedures.specs.Parts.{waiting}

-- it stands for what belongs to the scope round it
pub outer_of : (r : Surroundings) (s t : Declaring) (v : Vec Forward Global) (o : Outer) → IsPutAside (record s { forward = v }) o → t.types ≡ s.types → (forward : List Forward) → forward ≡ s.forward.items → (f : ℕ) (m : Making) → Makes r s m
    → IsOuter r t o forward m (waiting [] (entered f m))
outer_of r s t v o aside types forward same f m makes = record {
  imports_in = makes.imports_in ∙ sym aside.imports_in;
  is_type_part = makes.is_type_part ∙ sym aside.is_type_part;
  forward = makes.forward ∙ ap (map forward_of) (sym same);
  standing = subst (λ x. (q : List ℕ) → is_among q m.standing ≡ is_some (at_bytes x q)) (sym aside.standing) makes.standing;
  values = makes.values ∙ sym aside.values;
  variables = makes.variables ∙ ap (λ v. map (type_shape (table_of s)) v.items) (sym aside.variables) ∙ ap (λ z. map (type_shape z.table.types) o.variables.items) (sym types);
  modules = refl;
  module_number = ap (λ (w : World). w.module_number) makes.world;
  procedure = ap (λ (w : World). w.procedure) makes.world ∙ sym aside.procedure;
  constant = ap (λ (w : World). w.constant) makes.world;
  narrowed = ap (λ (w : World). w.narrowed) makes.world;
}

-- and so it does where the table of types grew
pub outer_still : (r : Surroundings) (s t : Declaring) (o : Outer) (forward : List Forward) (m a b : Making) → AreNumbered s.types.table.entries.items o.variables.items
    → Grows s.types.table t.types.table → b.world.modules ≡ a.world.modules → IsOuter r s o forward m a → IsOuter r t o forward m b
outer_still r s t o forward m a b numbered grows modules h = record {
  imports_in = h.imports_in;
  is_type_part = h.is_type_part;
  forward = h.forward;
  standing = h.standing;
  values = h.values;
  variables = h.variables ∙ sym (variables_same s.types.table t.types.table (strings_of s) grows o.variables.items numbered);
  modules = h.modules ∙ sym modules;
  module_number = h.module_number;
  procedure = h.procedure;
  constant = h.constant;
  narrowed = h.narrowed;
}

-- ---- the state without pointer types whose base comes later

module _ (r : Surroundings) (s : Declaring) (v : Vec Forward Global) where
  pub settled_waiting : IsSettled r s → IsSettled r (record s { forward = v })
  settled_waiting ok = record {
    built = ok.built;
    levels = ok.levels;
    modules = ok.modules;
    types = ok.types;
    members = ok.members;
    variables = ok.variables;
    objects = ok.objects;
    open_scope = ok.open_scope;
    places = ok.places;
    own_text = ok.own_text;
  }

  pub makes_waiting : v.items ≡ [] → (m : Making) → Makes r s m → Makes r (record s { forward = v }) (waiting [] m)
  makes_waiting none m makes = record {
    imports_in = makes.imports_in;
    world = makes.world;
    is_type_part = makes.is_type_part;
    forward = sym (ap (map forward_of) none);
    standing = makes.standing;
    values = makes.values;
    variables = makes.variables;
    objects = makes.objects;
  }

module _ (r : Surroundings) (s : Building) (v : Vec Forward Global) (none : v.items ≡ []) (t : Declaring) (f : ℕ) (a : PutAside) (aside : IsPutAside (record s.declaring { forward = v }) a.outer) (types : t.types ≡ s.declaring.types)
    (forward : a.forward.items ≡ s.declaring.forward.items) (enters : (m : Making) → Makes r (record s.declaring { forward = v }) m → Makes (deeper r (length s.declaring.levels.items)) t (entered f m)) where
  pub is_entered : (m : Making) → Represents r s m → IsEntered r (record s { declaring = t }) f a m
  is_entered m h = record {
    outer = outer_of r s.declaring t v a.outer aside types a.forward.items forward f m h.makes;
    represents = record {
      makes = subst (λ d. Makes (deeper r d) t (waiting [] (entered f m))) (sym aside.depth) (enters (waiting [] m) (makes_waiting r s.declaring v none m h.makes));
      procedures = subst (λ z. TheyStandFor z.table s.procedures.items m.procedures) (sym types) h.procedures;
    };
  }
