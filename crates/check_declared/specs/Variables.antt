-- The next variable of a module or a procedure.
use Rattle.std.specs.Prelude.{ℕ, List, Option, Some, None}
use Rattle.ob_syntax.specs.declared.names.Identdef.{Identdef}
use Rattle.ob_judge.specs.Shapes.{Shape}
use Rattle.ob_judge.specs.Scopes.{Source}
use Rattle.ob_judge.specs.Making.{Part}
use Rattle.ob_judge.specs.Declarations.{each, variable_part}
use Rattle.check_types.specs.declared.types.TypeRef.{TypeRef}
use Rattle.check_types.specs.declared.names.scope.Home.{Home}
use Rattle.check_types.specs.declared.names.scope.Home.TheVariants as TheHome
use Rattle.check_types.specs.declared.names.scope.Variable.{Variable}
use Rattle.check_types.specs.declared.names.scope.VariablePlace.{VariablePlace}
use Rattle.check_types.specs.declared.names.scope.VariablePlace.TheVariants as ThePlace

abbrev pub place_of_next : Option ℕ → (unit number : ℕ) → VariablePlace
place_of_next None unit number = ThePlace.Global unit number
place_of_next (Some f) unit number = ThePlace.Local number

abbrev pub home_of_next : Option ℕ → Home
home_of_next None = TheHome.OfModule
home_of_next (Some f) = TheHome.Free

abbrev pub variable_here : (unit : ℕ) → Option ℕ → TypeRef → (number : ℕ) → Variable
variable_here unit procedure of number = record {
  of = of;
  place = place_of_next procedure unit number;
  home = home_of_next procedure;
  owner = unit;
  procedure = procedure;
}

-- these are variables of this type, one after the other
abbrev pub variables_part : Source → Shape → List Identdef → Part (Unit {0})
variables_part p shape = each (variable_part p shape)
