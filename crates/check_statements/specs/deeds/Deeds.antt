-- Statements that go down no further statement, and which of the judgement's they are.
use Rattle.std.specs.Prelude.{◌≡◌, ℕ, ℤ, pos, List, Bool, true, false, not, Option, Some, None, option_map}
use Rattle.ob_types.specs.declared.statements.Checked.{Checked}
use Rattle.ob_types.specs.declared.statements.Stmt.{Stmt}
use Rattle.ob_syntax.specs.Syntax as S
use Rattle.ob_syntax.specs.Plain.{plain_expression}
use Rattle.ob_syntax.specs.declared.declarations.Returned.{Returned}
use Rattle.ob_judge.specs.Judged.{Judged, Keeps, ◌>>=◌, ◌>>◌, rule, some}
use Rattle.ob_judge.specs.Shapes.{Shape}
use Rattle.ob_judge.specs.Image as I
use Rattle.ob_judge.specs.Scopes.{Object, AStandard, AModule, Standard as JudgedStandard, Variable, World, Source, place}
use Rattle.ob_judge.specs.Operands.{Operand, What, Valued, Proper, whole_variable}
use Rattle.std.specs.Ordering.{int_eq}
use Rattle.ob_judge.specs.Calls.{stored, may_assign}
use Rattle.ob_judge.specs.Symbols.{expression_first}
use Rattle.ob_judge.specs.Names.{member}
use Rattle.ob_judge.specs.Parts.{is_nothing}
use Rattle.ob_judge.specs.Expressions.{expression, constant}
use Rattle.ob_judge.specs.Assignments.{int_only}
use Rattle.judged_tree.specs.Plain.{plain_statement, plain_checked}
use Rattle.judged_tree.specs.Outline.{outlined_statement, outlined_checked}
use Rattle.check_types.specs.declared.names.scope.Scope.{Scope}
use Rattle.check_types.specs.declared.names.scope.Standard.{Standard}
use Rattle.check_types.specs.names.Meaning.{standard_of}
use Rattle.check_types.specs.names.Worlds.{table_of}
use Rattle.check_operands.specs.Operands.{texts_of, bases_of}

-- the standard procedure that stands alone
abbrev pub standard_alone : Option Object → Option JudgedStandard
standard_alone (Some (AStandard s)) = Some s
standard_alone o = None

abbrev pub IsAlone : Option Standard → Option Object → Type 0
IsAlone only o = standard_alone o ≡ option_map standard_of only

-- a name that alone stands behind another
abbrev pub field_alone : S.Selectors → Option ℕ
field_alone (S.selected (S.Field period i) S.no_selector) = Some i
field_alone selectors = None

-- a call with a result
abbrev pub call_by : I.Expr → Option I.Call
call_by (I.Result c) = Some c
call_by x = None

abbrev pub is_result : I.Expr → Bool
is_result (I.Result c) = true
is_result x = false

-- a call as a statement
abbrev pub deed_by : What → Option I.Statement
deed_by (Proper d) = Some d
deed_by (Valued x) = option_map I.Invoke (call_by x)
deed_by w = None

module _ (p : Source) (w : World) where
  -- a name behind a module's
  abbrev pub member_alone : Object → ℕ → Judged (Option Object)
  member_alone (AModule m) i = do
    o ← member p w m i
    Keeps (Some o)
  member_alone o i = Keeps None
