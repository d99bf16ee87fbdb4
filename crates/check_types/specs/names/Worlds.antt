-- What a scope stands for: a text with its symbols, and a world.
use Rattle.std.specs.Prelude.{◌≡◌, ℕ, List, [], ◌∷◌, map}
use Rattle.ob_types.specs.Table.{Table}
use Rattle.ob_judge.specs.Scopes.{Object, World}
use Rattle.ob_judge.specs.Standards.{predeclared}
use Rattle.ob_judge.specs.Shapes.{Shape}
use Rattle.check_types.specs.declared.types.TypeRef.{TypeRef}
use Rattle.check_types.specs.TypeMeaning.{type_shape}
use Rattle.check_types.specs.Known.{known_of}
use Rattle.check_types.specs.declared.names.scope.Named.{Named}
use Rattle.check_types.specs.declared.names.scope.Scope.{Scope}
use Rattle.check_types.specs.names.Meaning.{object_of, names_inside, module_of, narrowings_before}

abbrev pub table_of : Scope → Table
table_of s = s.types.now.types

abbrev pub strings_of : Scope → List (List ℕ)
strings_of s = s.strings.now

abbrev pub world_of : Scope → World
world_of s = record {
  modules = map (module_of (table_of s) (strings_of s)) s.modules.now;
  known = known_of s.types.now;
  levels = predeclared ∷ names_inside (table_of s) (strings_of s) s.levels.now s.closed;
  module_number = s.module_number;
  procedure = s.procedure;
  constant = s.constant;
  narrowed = narrowings_before (table_of s) (strings_of s) [] s.narrowed.now;
}

-- this is what the name stands for
abbrev pub IsNamed : Scope → Named → Object → Type 0
IsNamed s n o = object_of (table_of s) (strings_of s) n ≡ o

-- this is what the type is
abbrev pub IsOfType : Scope → TypeRef → Shape → Type 0
IsOfType s k shape = type_shape (table_of s) k ≡ shape
