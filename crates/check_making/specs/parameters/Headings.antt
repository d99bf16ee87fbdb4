-- What a procedure takes and gives, as code holds it.
use Rattle.std.specs.Prelude.{◌≡◌, Option, false}
use Rattle.ob_syntax.specs.Syntax as S
use Rattle.ob_judge.specs.Shapes.{Shape, Procedure}
use Rattle.ob_judge.specs.Scopes.{Source}
use Rattle.ob_judge.specs.Making.{Part, ◌>>>◌, give, aside}
use Rattle.ob_judge.specs.Parameters.{Listed, formal_part}
use Rattle.check_types.specs.TypeMeaning.{type_shape}
use Rattle.table_builder.specs.Entries.{IsNumbered}
use Rattle.check_making.specs.declared.making.Declaring.{Declaring}
use Rattle.check_making.specs.Making.{table_of}
use Rattle.check_making.specs.declared.parameters.sections.Heading.{Heading}
use Rattle.check_making.specs.parameters.Listed.{IsListed}

-- these are the parameters and the result
pub record IsHeading (s : Declaring) (h : Heading) (x : Listed × Shape) : Type 0 where
  pub listed : IsListed s.types.table h.listed x.0
  pub result_is : type_shape (table_of s) h.outcome ≡ x.1
  pub numbered : IsNumbered s.types.table.entries.items h.outcome

-- a procedure type
abbrev pub procedure_type_part : Source → Option S.Formals → Part Shape
procedure_type_part p formals = aside (formal_part p false formals) >>> λ r. give (Procedure r.0.formals r.1)
