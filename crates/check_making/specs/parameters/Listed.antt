-- Parameters so far, as code holds them.
use Rattle.std.specs.Prelude.{◌≡◌, length, map, Bool, true, false, is_none}
use Rattle.ob_judge.specs.Shapes.{Shape}
use Rattle.ob_judge.specs.Parameters.{Listed}
use Rattle.judged_tree.specs.TypeShapes.{shapes_of, formals_shape}
use Rattle.judged_tree.specs.Tables.{are_before}
use Rattle.judged_tree.specs.Plain.{plain_formal}
use Rattle.check_types.specs.declared.types.TypeRef.{TypeRef}
use Rattle.check_types.specs.declared.table.TypeTable.{TypeTable}
use Rattle.check_types.specs.TypeMeaning.{type_shape}
use Rattle.table_builder.specs.Entries.{IsNumbered}
use Rattle.check_making.specs.declared.making.Declaring.{Declaring}
use Rattle.check_making.specs.Making.{table_of}
use Rattle.check_making.specs.declared.parameters.parameters.Listed.{Listed as ListedHere}

-- this is what the type is, and it has a number
pub record IsNumberedAs (s : Declaring) (k : TypeRef) (shape : Shape) : Type 0 where
  pub shape_is : type_shape (table_of s) k ≡ shape
  pub numbered : IsNumbered s.types.table.entries.items k

-- these are the parameters so far
pub record IsListed (t : TypeTable) (l : ListedHere) (x : Listed) : Type 0 where
  pub formals : x.formals ≡ formals_shape (shapes_of t.types) l.formals
  pub parameters : x.parameters ≡ map (plain_formal t.types) l.formals
  pub words : x.words ≡ l.words
  pub before : are_before (length t.entries.items) l.formals

abbrev pub IsListedIn : Declaring → ListedHere → Listed → Type 0
IsListedIn s l x = IsListed s.types.table l x

-- where names of parameters are made known, a procedure is open
abbrev pub IsInside : Bool → Declaring → Type 0
IsInside known_here s = known_here ≡ true → is_none s.procedure ≡ false
