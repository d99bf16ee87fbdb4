-- A state whose table of types grew.
use Rattle.std.proofs.Common.{◌≡◌, ℕ, zero, suc, List, [], ◌∷◌, ◌++◌, length, map, Option, Vec, Global, append_assoc, refl, sym, ap, ap₂, ◌∙◌, subst, arith}
use Rattle.std.specs.Prelude.{slice_index_or}
use Rattle.std.proofs.lemmas.Option.{slice_get_within}
use Rattle.ob_types.specs.Table.{Table}
use Rattle.ob_judge.specs.Image.{Declared as DeclaredOf}
use Rattle.ob_judge.specs.Shapes.{Shape, Known}
use Rattle.ob_judge.specs.Scopes.{Object, AType, Entry, World}
use Rattle.ob_judge.specs.Scopes.{KnownModule as KnownModuleOf}
use Rattle.ob_judge.specs.Standards.{predeclared}
use Rattle.ob_judge.specs.Making.{Making, with_known, declared_as, entity_of}
use Rattle.check_types.specs.declared.types.TypeRef.{TypeRef}
use Rattle.check_types.specs.declared.table.TypeTable.{TypeTable}
use Rattle.check_types.specs.TypeMeaning.{type_shape}
use Rattle.check_types.specs.Known.{known_of}
use Rattle.check_types.specs.declared.names.levels.Level.{Level}
use Rattle.check_types.specs.declared.names.scope.Named.{Named}
use Rattle.check_types.specs.declared.names.scope.KnownModule.{KnownModule}
use Rattle.check_types.specs.names.Meaning.{object_of, names_of, module_of}
use Rattle.table_builder.specs.declared.builder.TableBuilder.{TableBuilder}
use Rattle.table_builder.specs.Entries.{HasShape}
use Rattle.table_builder.specs.Growing.{Grows}
use Rattle.table_builder.specs.Builder.{IsBuilt}
use Rattle.table_builder.proofs.Meaning.{meant, long, entry_there}
use Rattle.table_builder.proofs.Growing.{numbered_still, element_still}
use Rattle.check_making.specs.declared.making.Declaring.{Declaring}
use Rattle.check_making.specs.declared.making.Offered.{Offered}
use Rattle.check_making.specs.declared.making.Surroundings.{Surroundings}
use Rattle.check_making.specs.declared.making.TextPlace.{TextPlace}
use Rattle.check_making.specs.Staying.{LevelStays, LevelsStay, ModuleStays, ModulesStay, HasType, AllHaveTypes, NamedStays}
use Rattle.check_making.specs.Making.{table_of, strings_of, levels_of, world_in, offered_of, OfferedStay, AreNumbered, AreTextPlaces, Makes, IsSettled}

pub grows_on : (t u v : TypeTable) → Grows t u → Grows u v → Grows t v
grows_on t u v g h = record {
  entry = λ n e at. h.entry n e (g.entry n e at);
  shape = λ e n. h.shape e (numbered_still t u g e n) ∙ g.shape e n;
}

append_nil : {A : Type 0} (xs : List A) → xs ++ [] ≡ xs
append_nil [] = refl
append_nil (x ∷ xs) = ap (λ ys. x ∷ ys) (append_nil xs)

module _ (t u : TypeTable) (strings : List (List ℕ)) (g : Grows t u) where
  -- ---- what names mean

  level_same : (l : Level) → LevelStays t strings l → names_of u.types strings l ≡ names_of t.types strings l
  level_same l h = ap (λ ss. names_of u.types ss l) (sym (append_nil strings)) ∙ h.names u [] g

  levels_same : (ls : List Level) → LevelsStay t strings ls → map (names_of u.types strings) ls ≡ map (names_of t.types strings) ls
  levels_same [] h = refl
  levels_same (l ∷ ls) h = ap₂ (λ (a : List ℕ → Option Entry) (as' : List (List ℕ → Option Entry)). a ∷ as') (level_same l h.0) (levels_same ls h.1)

  levels_still : (ls : List Level) → LevelsStay t strings ls → LevelsStay u strings ls
  levels_still [] h = tt
  levels_still (l ∷ ls) h = (record { names = λ v more k. (h.0).names v more (grows_on t u v g k) ∙ sym (level_same l h.0) }, levels_still ls h.1)

  module_same : (k : KnownModule) → ModuleStays t strings k → module_of u.types strings k ≡ module_of t.types strings k
  module_same k h = ap (λ ss. module_of u.types ss k) (sym (append_nil strings)) ∙ h.names u [] g

  modules_same : (ks : List KnownModule) → ModulesStay t strings ks → map (module_of u.types strings) ks ≡ map (module_of t.types strings) ks
  modules_same [] h = refl
  modules_same (k ∷ ks) h = ap₂ (λ (a : KnownModuleOf) (as' : List KnownModuleOf). a ∷ as') (module_same k h.0) (modules_same ks h.1)

  modules_still : (ks : List KnownModule) → ModulesStay t strings ks → ModulesStay u strings ks
  modules_still [] h = tt
  modules_still (k ∷ ks) h = (record { names = λ v more d. (h.0).names v more (grows_on t u v g d) ∙ sym (module_same k h.0) }, modules_still ks h.1)

  offered_same : (xs : List Offered) → OfferedStay t strings xs → offered_of u.types strings xs ≡ offered_of t.types strings xs
  offered_same [] h = refl
  offered_same (x ∷ xs) h =
      ap₂ (λ (o : Object) (ds : List DeclaredOf). declared_as x.name x.declared.exported (entity_of o) ++ ds)
      (ap (λ ss. object_of u.types ss x.declared.named) (sym (append_nil strings)) ∙ (h.0).object u [] g) (offered_same xs h.2)

  object_same : (n : Named) → NamedStays t strings n → object_of u.types strings n ≡ object_of t.types strings n
  object_same n h = ap (λ ss. object_of u.types ss n) (sym (append_nil strings)) ∙ h.object u [] g

  named_still : (n : Named) → NamedStays t strings n → NamedStays u strings n
  named_still n h = record { object = λ v more k. h.object v more (grows_on t u v g k) ∙ sym (object_same n h) }

  pub variables_same : (ks : List TypeRef) → AreNumbered t.entries.items ks → map (type_shape u.types) ks ≡ map (type_shape t.types) ks
  variables_same [] h = refl
  variables_same (k ∷ ks) h = ap₂ (λ (a : Shape) (as' : List Shape). a ∷ as') (g.shape k (h.0).numbered) (variables_same ks h.1)

  pub variables_still : (ks : List TypeRef) → AreNumbered t.entries.items ks → AreNumbered u.entries.items ks
  variables_still [] h = tt
  variables_still (k ∷ ks) h = (element_still t u g k h.0, variables_still ks h.1)

-- ---- more strings

module _ (t : TypeTable) (strings more : List (List ℕ)) where
  pub same_table : Grows t t
  same_table = record { entry = λ n e h. h; shape = λ e h. refl }

  more_levels_same : (ls : List Level) → LevelsStay t strings ls → map (names_of t.types (strings ++ more)) ls ≡ map (names_of t.types strings) ls
  more_levels_same [] h = refl
  more_levels_same (l ∷ ls) h = ap₂ (λ (a : List ℕ → Option Entry) (as' : List (List ℕ → Option Entry)). a ∷ as') ((h.0).names t more same_table) (more_levels_same ls h.1)

  more_levels_still : (ls : List Level) → LevelsStay t strings ls → LevelsStay t (strings ++ more) ls
  more_levels_still [] h = tt
  more_levels_still (l ∷ ls) h =
      (record { names = λ v rest k. ap (λ ss. names_of v.types ss l) (append_assoc strings more rest) ∙ (h.0).names v (more ++ rest) k ∙ sym ((h.0).names t more same_table) }, more_levels_still ls h.1)

  more_modules_same : (ks : List KnownModule) → ModulesStay t strings ks → map (module_of t.types (strings ++ more)) ks ≡ map (module_of t.types strings) ks
  more_modules_same [] h = refl
  more_modules_same (k ∷ ks) h = ap₂ (λ (a : KnownModuleOf) (as' : List KnownModuleOf). a ∷ as') ((h.0).names t more same_table) (more_modules_same ks h.1)

  more_modules_still : (ks : List KnownModule) → ModulesStay t strings ks → ModulesStay t (strings ++ more) ks
  more_modules_still [] h = tt
  more_modules_still (k ∷ ks) h =
      (record { names = λ v rest d. ap (λ ss. module_of v.types ss k) (append_assoc strings more rest) ∙ (h.0).names v (more ++ rest) d ∙ sym ((h.0).names t more same_table) }, more_modules_still ks h.1)

  more_offered_same : (xs : List Offered) → OfferedStay t strings xs → offered_of t.types (strings ++ more) xs ≡ offered_of t.types strings xs
  more_offered_same [] h = refl
  more_offered_same (x ∷ xs) h =
      ap₂ (λ (o : Object) (ds : List DeclaredOf). declared_as x.name x.declared.exported (entity_of o) ++ ds) ((h.0).object t more same_table) (more_offered_same xs h.2)

  more_offered_still : (xs : List Offered) → OfferedStay t strings xs → OfferedStay t (strings ++ more) xs
  more_offered_still [] h = tt
  more_offered_still (x ∷ xs) h = (
    record { object = λ v rest k. ap (λ ss. object_of v.types ss x.declared.named) (append_assoc strings more rest) ∙ (h.0).object v (more ++ rest) k ∙ sym ((h.0).object t more same_table) },
    subst (HasType t.types) (sym ((h.0).object t more same_table)) h.1,
    more_offered_still xs h.2,
  )

-- ---- of which types names are

module _ (a b : TableBuilder) (old : IsBuilt a) (new : IsBuilt b) (g : Grows a.table b.table) where
  shape_still : (s : Shape) → HasShape a.table.types s → HasShape b.table.types s
  shape_still s h =
      let e = entry_there a.table.types a.table.entries.items a.table.bases.items old.sound h.number h.there in
      let at = g.entry h.number e.0 e.1 in
      record {
        number = h.number;
        there = (let l = slice_get_within b.table.entries.items h.number e.0 at in let m = long b.table.types b.table.entries.items b.table.bases.items new.sound in omega (arith, l, m));
        same = meant b.table.types b.table.entries.items b.table.bases.items new.sound h.number e.0 at ∙ g.shape e.0 (h.number, e.1)
            ∙ sym (meant a.table.types a.table.entries.items a.table.bases.items old.sound h.number e.0 e.1) ∙ h.same;
      }

  has_still : (o : Object) → HasType a.table.types o → HasType b.table.types o
  has_still (AType s) h = (shape_still s h.0, h.1)
  has_still _ h = tt

  all_still : (ls : List (List ℕ → Option Entry)) → AllHaveTypes a.table.types ls → AllHaveTypes b.table.types ls
  all_still [] h = tt
  all_still (l ∷ ls) h = (record { each = λ q x is. has_still x.object ((h.0).each q x is) }, all_still ls h.1)

  offered_still : (strings : List (List ℕ)) (xs : List Offered) → OfferedStay a.table strings xs → OfferedStay b.table strings xs
  offered_still strings [] h = tt
  offered_still strings (x ∷ xs) h =
      let n = x.declared.named in
      (named_still a.table b.table strings g n h.0, subst (HasType b.table.types) (sym (object_same a.table b.table strings g n h.0)) (has_still (object_of a.table.types strings n) h.1), offered_still strings xs h.2)

-- ---- the whole state

members_of : List KnownModuleOf → List (List ℕ → Option Entry)
members_of ks = map (λ (k : KnownModuleOf). k.names) ks

members_as : (t : Table) (strings : List (List ℕ)) (ks : List KnownModule) → map (λ k. (module_of t strings k).names) ks ≡ map (λ (k : KnownModuleOf). k.names) (map (module_of t strings) ks)
members_as t strings [] = refl
members_as t strings (k ∷ ks) = ap (λ ls. (module_of t strings k).names ∷ ls) (members_as t strings ks)

module _ (r : Surroundings) (s : Declaring) (ok : IsSettled r s) (types : TableBuilder) (built : IsBuilt types) (g : Grows s.types.table types.table) where
  abbrev pub with_types : Declaring
  with_types = record s { types = types }

  abbrev ss : List (List ℕ)
  ss = strings_of s

  pub settled_grown : IsSettled r with_types
  settled_grown = record {
    built = built;
    levels = levels_still s.types.table types.table ss g s.levels.items ok.levels;
    modules = modules_still s.types.table types.table ss g r.modules.now ok.modules;
    types = subst (AllHaveTypes types.table.types) (sym (ap (λ ls. predeclared ∷ ls) (levels_same s.types.table types.table ss g s.levels.items ok.levels))) (all_still s.types types ok.built built g (levels_of s) ok.types);
    members = subst (AllHaveTypes types.table.types)
        (members_as s.types.table.types ss r.modules.now ∙ ap (λ ks. map (λ (k : KnownModuleOf). k.names) ks) (sym (modules_same s.types.table types.table ss g r.modules.now ok.modules)) ∙ sym (members_as types.table.types ss r.modules.now))
        (all_still s.types types ok.built built g (map (λ k. (module_of (table_of s) ss k).names) r.modules.now) ok.members);
    variables = variables_still s.types.table types.table ss g s.variables.items ok.variables;
    objects = offered_still s.types types ok.built built g ss s.objects.items ok.objects;
    open_scope = ok.open_scope;
    places = ok.places;
    own_text = ok.own_text;
  }

  world_grown : world_in r with_types ≡ record (world_in r s) { known = known_of types.table }
  world_grown =
      ap₂ (λ (ks : List KnownModuleOf) (ls : List (List ℕ → Option Entry)). record (world_in r s) { modules = ks; known = known_of types.table; levels = predeclared ∷ ls })
      (modules_same s.types.table types.table ss g r.modules.now ok.modules) (levels_same s.types.table types.table ss g s.levels.items ok.levels)

  -- what is known of types changed so
  pub makes_grown : (m : Making) → Makes r s m → (f : Known → Known) → known_of types.table ≡ f (known_of s.types.table) → Makes r with_types (with_known f m)
  makes_grown m makes f e = record {
    imports_in = makes.imports_in;
    world = ap (λ (w : World). record w { known = f w.known }) makes.world ∙ ap (λ k. record (world_in r s) { known = k }) (sym e) ∙ sym world_grown;
    is_type_part = makes.is_type_part;
    forward = makes.forward;
    standing = makes.standing;
    values = makes.values;
    variables = makes.variables ∙ sym (variables_same s.types.table types.table ss g s.variables.items ok.variables);
    objects = makes.objects ∙ sym (offered_same s.types.table types.table ss g s.objects.items ok.objects);
  }

  -- or didn't
  pub makes_still : (m : Making) → Makes r s m → known_of types.table ≡ known_of s.types.table → Makes r with_types m
  makes_still m makes e = record {
    imports_in = makes.imports_in;
    world = makes.world ∙ ap (λ k. record (world_in r s) { known = k }) (sym e) ∙ sym world_grown;
    is_type_part = makes.is_type_part;
    forward = makes.forward;
    standing = makes.standing;
    values = makes.values;
    variables = makes.variables ∙ sym (variables_same s.types.table types.table ss g s.variables.items ok.variables);
    objects = makes.objects ∙ sym (offered_same s.types.table types.table ss g s.objects.items ok.objects);
  }

-- ---- the state with more strings

places_with : (texts : List (List ℕ)) (xs more : List TextPlace) (strings rest : List (List ℕ)) → AreTextPlaces texts xs strings → AreTextPlaces texts more rest → AreTextPlaces texts (xs ++ more) (strings ++ rest)
places_with texts [] more [] rest h k = k
places_with texts (x ∷ xs) more (cs ∷ strings) rest h k = (h.0, places_with texts xs more strings rest h.1 k)
places_with texts [] more (cs ∷ strings) rest h k = absurd h
places_with texts (x ∷ xs) more [] rest h k = absurd h

module _ (r : Surroundings) (s : Declaring) (ok : IsSettled r s) (strings : Vec (List ℕ) Global) (more : List (List ℕ)) (is : strings.items ≡ strings_of s ++ more)
    (places : Vec TextPlace Global) (there : List TextPlace) (are : places.items ≡ s.places.items ++ there) where
  abbrev pub with_strings : Declaring
  with_strings = record s { strings = strings; places = places }

  levels_with : map (names_of (table_of s) strings.items) s.levels.items ≡ map (names_of (table_of s) (strings_of s)) s.levels.items
  levels_with = ap (λ ss. map (names_of (table_of s) ss) s.levels.items) is ∙ more_levels_same s.types.table (strings_of s) more s.levels.items ok.levels

  modules_with : map (module_of (table_of s) strings.items) r.modules.now ≡ map (module_of (table_of s) (strings_of s)) r.modules.now
  modules_with = ap (λ ss. map (module_of (table_of s) ss) r.modules.now) is ∙ more_modules_same s.types.table (strings_of s) more r.modules.now ok.modules

  pub settled_with : AreTextPlaces r.texts.now there more → IsSettled r with_strings
  settled_with at = record {
    built = ok.built;
    levels = subst (λ ss. LevelsStay s.types.table ss s.levels.items) (sym is) (more_levels_still s.types.table (strings_of s) more s.levels.items ok.levels);
    modules = subst (λ ss. ModulesStay s.types.table ss r.modules.now) (sym is) (more_modules_still s.types.table (strings_of s) more r.modules.now ok.modules);
    types = subst (AllHaveTypes (table_of s)) (sym (ap (λ ls. predeclared ∷ ls) levels_with)) ok.types;
    members = subst (AllHaveTypes (table_of s))
        (members_as (table_of s) (strings_of s) r.modules.now ∙ ap (λ ks. map (λ (k : KnownModuleOf). k.names) ks) (sym modules_with) ∙ sym (members_as (table_of s) strings.items r.modules.now)) ok.members;
    variables = ok.variables;
    objects = subst (λ ss. OfferedStay s.types.table ss s.objects.items) (sym is) (more_offered_still s.types.table (strings_of s) more s.objects.items ok.objects);
    open_scope = ok.open_scope;
    places = subst (λ xs. AreTextPlaces r.texts.now xs strings.items) (sym are) (subst (AreTextPlaces r.texts.now (s.places.items ++ there)) (sym is) (places_with r.texts.now s.places.items there (strings_of s) more ok.places at));
    own_text = ok.own_text;
  }

  pub makes_with : (m : Making) → Makes r s m → Makes r with_strings m
  makes_with m makes = record {
    imports_in = makes.imports_in;
    world = makes.world ∙ sym (ap₂ (λ (ks : List KnownModuleOf) (ls : List (List ℕ → Option Entry)). record (world_in r s) { modules = ks; levels = predeclared ∷ ls }) modules_with levels_with);
    is_type_part = makes.is_type_part;
    forward = makes.forward;
    standing = makes.standing;
    values = makes.values;
    variables = makes.variables;
    objects = makes.objects ∙ sym (ap (λ ss. offered_of (table_of s) ss s.objects.items) is ∙ more_offered_same s.types.table (strings_of s) more s.objects.items ok.objects);
  }

-- a string that is one of these is one of more
pub string_there : (xs more : List (List ℕ)) (x : List ℕ) (k : ℕ) → k ≡ length xs → slice_index_or (xs ++ x ∷ more) k [] ≡ x
string_there [] more x zero e = refl
string_there [] more x (suc k) e = absurd (omega (arith, e))
string_there (y ∷ xs) more x zero e = absurd (omega (arith, e))
string_there (y ∷ xs) more x (suc k) e = string_there xs more x k (omega (arith, e))
