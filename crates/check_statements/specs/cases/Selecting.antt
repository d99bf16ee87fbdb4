-- What a CASE is on, and what labels of types name.
use Rattle.std.specs.Prelude.{◌≡◌, ℕ, Bool, Option, Some, None, option_map}
use Rattle.ob_types.specs.Table.{Table}
use Rattle.ob_syntax.specs.declared.statements.High.{High}
use Rattle.ob_syntax.specs.declared.statements.Label.{Label}
use Rattle.ob_judge.specs.Judged.{Judged, Keeps, ◌>>=◌, ◌>>◌, rule, some}
use Rattle.ob_judge.specs.Shapes.{Shape, extends}
use Rattle.ob_judge.specs.Scopes.{Object, World, Source}
use Rattle.ob_judge.specs.Cases as J
use Rattle.check_types.specs.TypeMeaning.{type_shape}
use Rattle.check_types.specs.declared.names.scope.Scope.{Scope}
use Rattle.check_types.specs.declared.names.scope.Named.{Named}
use Rattle.check_types.specs.names.Meaning.{object_of, place_of}
use Rattle.check_types.specs.names.Worlds.{table_of, strings_of}
use Rattle.check_statements.specs.declared.cases.selectors.Selecting.{Selecting}
use Rattle.check_statements.specs.declared.cases.selectors.Selecting.TheVariants as TheSelecting

-- a name without a member
abbrev pub name_in : Option (ℕ × Option ℕ) → Option ℕ
name_in (Some (name, None)) = Some name
name_in q = None

abbrev pub selecting_meant : Table → Selecting → J.SelectorOf
selecting_meant t TheSelecting.Numbers = J.OnInteger
selecting_meant t TheSelecting.Characters = J.OnChar
selecting_meant t (TheSelecting.Types v of) = J.OnType (place_of v) (type_shape t of)

-- this is what the label names
abbrev pub IsMaybeNamed : Scope → Option Named → Option Object → Type 0
IsMaybeNamed s n o = option_map (object_of (table_of s) (strings_of s)) n ≡ o

-- nothing is claimed of a rule that is kept
abbrev pub IsNothing : Unit {0} → Unit {0} → Type 0
IsNothing x a = Unit {0}

module _ (p : Source) (w : World) where
  -- the type that a label names
  abbrev pub type_in_label : (at : ℕ) → Label → Judged Shape
  type_in_label at l = do
    o ← J.label_object p w l
    some 39 at (J.label_type o)

  -- a label that names this type
  abbrev pub label_end : (at : ℕ) → Shape → (is_first : Bool) → Option High → Shape → Judged Shape
  label_end at s is_first high t = do
    rule 39 at (extends w.known t s)
    J.no_high p w at high
    rule 39 at is_first
    Keeps t
