-- Parts of the judgement of operators, by what they make.
use Rattle.ob_types.specs.declared.tree.Unary.{Unary}
use Rattle.ob_judge.specs.Judged.{Judged, Keeps}
use Rattle.ob_judge.specs.Shapes.{Shape}
use Rattle.std.specs.Prelude.{◌≡◌}
use Rattle.ob_types.specs.declared.tree.Binary.TheVariants as TheBinary
use Rattle.ob_types.specs.declared.tree.Relation.{Relation}
use Rattle.ob_types.specs.declared.tree.Relation.TheVariants as TheRelation
use Rattle.ob_types.specs.declared.tree.Expr.{Expr as Tree}
use Rattle.ob_judge.specs.Image.{Expr, Link, Linked, Apply, Operate}
use Rattle.judged_tree.specs.Plain.{plain_expr}
use Rattle.judged_tree.specs.Outline.{outlined_expr}
use Rattle.check_types.specs.declared.names.scope.Scope.{Scope}
use Rattle.check_types.specs.names.Worlds.{table_of}
use Rattle.check_operands.specs.Operands.{texts_of, bases_of}
use Rattle.ob_judge.specs.Operands.{Operand, value, form}
use Rattle.check_operands.specs.declared.operators.rows.Row.{Row}
use Rattle.check_operands.specs.operators.Rows.{row_shape, row_link}

-- a row of the table, of two operands
abbrev pub rowed : Row → Operand → Operand → Judged Operand
rowed row x y = Keeps (value (row_shape row) (Linked (form x) (row_link row (form y))))

-- an operator of one operand, with a result of this type
abbrev pub applied : Shape → Unary → Operand → Judged Operand
applied s operator x = Keeps (value s (Apply operator (form x)))

-- inclusion of sets, either way
abbrev pub inclusion_link_of : Relation → Expr → Link
inclusion_link_of TheRelation.GreaterEqual y = Operate TheBinary.Superset y
inclusion_link_of r y = Operate TheBinary.Subset y

-- this is the tree
abbrev pub IsTree : Scope → Tree → Expr → Type 0
IsTree s e x = plain_expr (table_of s) (texts_of s) e ≡ outlined_expr (bases_of s) x
