-- What the state between declarations stands for: what the judgement has made so far.
use Rattle.std.specs.Prelude.{◌≡◌, ◌<◌, ℕ, List, [], ◌∷◌, ◌++◌, length, map, Bool, true, false, Option, Some, is_some, slice_get, slice_index_or}
use Rattle.ob_types.specs.Table.{Table}
use Rattle.ob_judge.specs.Image.{Declared}
use Rattle.ob_judge.specs.Shapes.{Shape}
use Rattle.ob_judge.specs.Scopes.{World, Entry, Object, part}
use Rattle.ob_judge.specs.Standards.{predeclared}
use Rattle.ob_judge.specs.Making.{Making, is_among, entity_of, declared_as}
use Rattle.check_types.specs.steps.Maps.{at_bytes}
use Rattle.check_types.specs.declared.table.TypeTable.{TypeTable}
use Rattle.check_types.specs.declared.types.TypeRef.{TypeRef}
use Rattle.check_types.specs.TypeMeaning.{type_shape}
use Rattle.check_types.specs.Known.{known_of}
use Rattle.check_types.specs.declared.names.scope.Declared.{Declared as TheDeclared}
use Rattle.check_types.specs.declared.names.scope.Named.{Named}
use Rattle.check_types.specs.names.Meaning.{object_of, names_of, module_of}
use Rattle.table_builder.specs.Entries.{IsElement}
use Rattle.table_builder.specs.Builder.{IsBuilt}
use Rattle.check_making.specs.declared.making.Declaring.{Declaring}
use Rattle.check_making.specs.declared.making.Forward.{Forward}
use Rattle.check_making.specs.declared.making.Offered.{Offered}
use Rattle.check_making.specs.declared.making.Surroundings.{Surroundings}
use Rattle.check_making.specs.declared.making.TextPlace.{TextPlace}
use Rattle.check_making.specs.Staying.{LevelsStay, ModulesStay, NamedStays, HasType, AllHaveTypes}

abbrev pub table_of : Declaring → Table
table_of s = s.types.table.types

abbrev pub strings_of : Declaring → List (List ℕ)
strings_of s = s.strings.items

-- what a name stands for there
abbrev pub object_in : Declaring → Named → Object
object_in s n = object_of (table_of s) (strings_of s) n

-- what a type is there
abbrev pub shape_in : Declaring → TypeRef → Shape
shape_in s k = type_shape (table_of s) k

abbrev pub levels_of : Declaring → List (List ℕ → Option Entry)
levels_of s = predeclared ∷ map (names_of (table_of s) (strings_of s)) s.levels.items

abbrev pub world_in : Surroundings → Declaring → World
world_in r s = record {
  modules = map (module_of (table_of s) (strings_of s)) r.modules.now;
  known = known_of s.types.table;
  levels = levels_of s;
  module_number = r.module_number;
  procedure = s.procedure;
  constant = false;
  narrowed = [];
}

abbrev pub forward_of : Forward → ℕ × ℕ
forward_of f = (f.pointer, f.name)

-- the names that the module declares
abbrev pub offered_of : Table → List (List ℕ) → List Offered → List Declared
offered_of t strings [] = []
offered_of t strings (x ∷ xs) = declared_as x.name x.declared.exported (entity_of (object_of t strings x.declared.named)) ++ offered_of t strings xs

-- one more, if it is one of the module
abbrev pub offered_if : Bool → List ℕ → TheDeclared → List Offered → List Offered
offered_if true name d xs = xs ++ record { name = name; declared = d } ∷ []
offered_if false name d xs = xs

abbrev pub AreNumbered : List TypeRef → List TypeRef → Type 0
AreNumbered entries [] = Unit {0}
AreNumbered entries (k ∷ ks) = IsElement entries k × AreNumbered entries ks

-- names of the module mean the same whatever types are made later, and types that they stand for have numbers
abbrev pub OfferedStay : TypeTable → List (List ℕ) → List Offered → Type 0
OfferedStay t strings [] = Unit {0}
OfferedStay t strings (x ∷ xs) = NamedStays t strings x.declared.named × HasType t.types (object_of t.types strings x.declared.named) × OfferedStay t strings xs

-- the characters at a place, among modules with these texts
abbrev pub characters_at : (texts : List (List ℕ)) → TextPlace → List ℕ
characters_at texts x = part (slice_index_or texts x.«module» []) x.from x.to

-- these places are those of these strings, one after the other
abbrev pub AreTextPlaces : (texts : List (List ℕ)) → List TextPlace → (strings : List (List ℕ)) → Type 0
AreTextPlaces texts [] [] = Unit {0}
AreTextPlaces texts (x ∷ xs) (cs ∷ strings) = (characters_at texts x ≡ cs) × AreTextPlaces texts xs strings
AreTextPlaces texts xs strings = ⊥

-- the state stands for what the judgement has made
pub record Makes (r : Surroundings) (s : Declaring) (m : Making) : Type 0 where
  pub imports_in : m.imports_in ≡ s.imports_in
  pub world : m.world ≡ world_in r s
  pub is_type_part : m.is_type_part ≡ s.is_type_part
  pub forward : m.forward ≡ map forward_of s.forward.items
  pub standing : (q : List ℕ) → is_among q m.standing ≡ is_some (at_bytes s.standing q)
  pub values : m.values ≡ s.values
  pub variables : m.variables ≡ map (type_shape (table_of s)) s.variables.items
  pub objects : m.objects ≡ offered_of (table_of s) (strings_of s) s.objects.items

-- what holds of the state: its types are built, what names mean stays, each string stands at its place, and there is an open
-- scope behind those round it; the module's text is one of all texts
pub record IsSettled (r : Surroundings) (s : Declaring) : Type 0 where
  pub built : IsBuilt s.types
  pub levels : LevelsStay s.types.table (strings_of s) s.levels.items
  pub modules : ModulesStay s.types.table (strings_of s) r.modules.now
  pub types : AllHaveTypes (table_of s) (levels_of s)
  pub members : AllHaveTypes (table_of s) (map (λ k. (module_of (table_of s) (strings_of s) k).names) r.modules.now)
  pub variables : AreNumbered s.types.table.entries.items s.variables.items
  pub objects : OfferedStay s.types.table (strings_of s) s.objects.items
  pub open_scope : r.depth < length s.levels.items
  pub places : AreTextPlaces r.texts.now s.places.items (strings_of s)
  pub own_text : slice_get r.texts.now r.module_number ≡ Some r.source.now.bytes

-- this is what the type is, and it has a number
pub record IsTypeOf (s : Declaring) (k : TypeRef) (shape : Shape) : Type 0 where
  pub shape_is : type_shape (table_of s) k ≡ shape
  pub element : IsElement s.types.table.entries.items k
