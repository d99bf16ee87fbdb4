-- Statements that go down no further statement, and which of the judgement's they are.
use Rattle.std.specs.Prelude.{◌≡◌, ℕ, ℤ, pos, List, Bool, true, false, not, Option, Some, None, option_map}
use Rattle.ob_types.specs.declared.statements.Checked.{Checked}
use Rattle.ob_types.specs.declared.statements.Stmt.{Stmt}
use Rattle.ob_syntax.specs.Syntax as S
use Rattle.ob_syntax.specs.Plain.{plain_expression}
use Rattle.ob_syntax.specs.declared.declarations.Returned.{Returned}
use Rattle.ob_judge.specs.Judged.{Judged, Keeps, ◌>>=◌, ◌>>◌, rule, some}
use Rattle.ob_judge.specs.Shapes.{Shape}
use Rattle.ob_judge.specs.Image as I
use Rattle.ob_judge.specs.Scopes.{Object, AStandard, AModule, Standard as JudgedStandard, Variable, World, Source, place}
use Rattle.ob_judge.specs.Operands.{Operand, What, Valued, Proper, whole_variable}
use Rattle.std.specs.Ordering.{int_eq}
use Rattle.ob_judge.specs.Calls.{stored, may_assign}
use Rattle.ob_judge.specs.Symbols.{expression_first}
use Rattle.ob_judge.specs.Names.{member}
use Rattle.ob_judge.specs.Parts.{is_nothing}
use Rattle.ob_judge.specs.Expressions.{expression, constant}
use Rattle.ob_judge.specs.Assignments.{int_only}
use Rattle.judged_tree.specs.Plain.{plain_statement, plain_checked}
use Rattle.judged_tree.specs.Outline.{outlined_statement, outlined_checked}
use Rattle.check_types.specs.declared.names.scope.Scope.{Scope}
use Rattle.check_types.specs.declared.names.scope.Standard.{Standard}
use Rattle.check_types.specs.names.Meaning.{standard_of}
use Rattle.check_types.specs.names.Worlds.{table_of}
use Rattle.check_operands.specs.Operands.{texts_of, bases_of}

-- a variable that is the whole destination, or what the designator comes to
abbrev pub destined : World → Option Variable → Judged Operand → Judged Operand
destined w (Some v) other = Keeps (whole_variable w v)
destined w None other = other

-- this is the statement
abbrev pub IsStatement : Scope → Stmt → I.Statement → Type 0
IsStatement s x d = plain_statement (table_of s) (texts_of s) x ≡ outlined_statement (bases_of s) d

-- this is the number
abbrev pub IsNumber : ℤ → ℤ → Type 0
IsNumber n z = n ≡ z

-- this is the result, if there is one
abbrev pub IsAnswer : Scope → Option Checked → Option I.Checked → Type 0
IsAnswer s x c = option_map (plain_checked (table_of s) (texts_of s)) x ≡ option_map (outlined_checked (bases_of s)) c

module _ (p : Source) (w : World) where
  -- the step that an expression is
  abbrev pub step_in : S.Expression → Judged ℤ
  step_in e = do
    c ← constant p w e
    z ← some 31 (place p (expression_first e)) (int_only c)
    rule 35 (place p (expression_first e)) (not (int_eq z (pos 0)))
    Keeps z

  -- what is given back
  abbrev pub returned : Shape → Returned → Judged I.Checked
  returned t r = do
    x ← expression p w (plain_expression r.value)
    rule 41 (place p r.return_word) (not (is_nothing t))
    rule 31 (place p (expression_first (plain_expression r.value))) (may_assign w.known t x)
    Keeps (stored t x)
