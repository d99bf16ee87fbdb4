-- Steps of the judgement of expressions, of one part of the tree each, and what stands for what they come to.
use Rattle.std.specs.Prelude.{◌≡◌, ℕ, List, [], ◌∷◌, ◌++◌, Vec, Option, Some, None}
use Rattle.std.specs.Global.{Global}
use Rattle.ob_syntax.specs.Syntax as S
use Rattle.ob_syntax.specs.Plain.{plain_expression, plain_term, plain_factor, plain_compared, plain_simple}
use Rattle.ob_syntax.specs.declared.expressions.Relation.{Relation}
use Rattle.ob_syntax.specs.declared.expressions.Relation.TheVariants as TheRelation
use Rattle.ob_syntax.specs.declared.expressions.Compared.{Compared, out-Compared}
use Rattle.ob_syntax.specs.declared.expressions.Simple.{Simple}
use Rattle.ob_syntax.specs.declared.expressions.Added.{Added, out-Added}
use Rattle.ob_syntax.specs.declared.expressions.Multiplied.{Multiplied}
use Rattle.ob_syntax.specs.declared.expressions.NextExpression.{NextExpression, out-NextExpression}
use Rattle.ob_syntax.specs.declared.expressions.NextElement.{NextElement, out-NextElement}
use Rattle.ob_judge.specs.Judged.{Judged, Keeps, Breaks, ◌>>=◌}
use Rattle.ob_judge.specs.Image as I
use Rattle.ob_judge.specs.Scopes.{World, Source, place}
use Rattle.ob_judge.specs.Operands.{Operand}
use Rattle.ob_judge.specs.Calls as J
use Rattle.ob_judge.specs.Symbols.{add_operator, add_symbol, mul_operator, mul_symbol, expression_first, bare_simple}
use Rattle.ob_judge.specs.Parts.{element, joined, related, set_element, is_test}
use Rattle.ob_judge.specs.Expressions.{expression, simple, term, factor, next_arguments}
use Rattle.judged_tree.specs.Plain.{plain_expr}
use Rattle.judged_tree.specs.Outline.{outlined_expr}
use Rattle.check_operands.specs.declared.trees.values.Value.{Value}
use Rattle.check_types.specs.declared.names.scope.Scope.{Scope}
use Rattle.check_types.specs.names.Worlds.{table_of}
use Rattle.check_operands.specs.Operands.{texts_of, bases_of}
use Rattle.check_operands.specs.declared.calls.arguments.Given.{Given}
use Rattle.check_operands.specs.calls.Given.{AreGiven}

-- this is the tree
abbrev pub IsValue : Scope → Value → I.Expr → Type 0
IsValue s v x = plain_expr (table_of s) (texts_of s) v.tree ≡ outlined_expr (bases_of s) x

-- these are the arguments
abbrev pub AreGivenIn : Scope → Vec Given Global → List J.Given → Type 0
AreGivenIn s v xs = AreGiven s v.items xs

module _ (p : Source) (w : World) where
  -- IS, whose right side is a qualident or not
  abbrev pub is_with : ℕ → Operand → Simple → Option (ℕ × Option ℕ) → Judged Operand
  is_with i x right None = simple p w (plain_simple right) >>= λ y. Breaks 31 (place p i)
  is_with i x right (Some q) = is_test p w (Some q) (place p i) x

  -- a relation, whose left side has been walked
  abbrev pub related_with : Operand → Relation → Simple → Judged Operand
  related_with x (TheRelation.Is i) right = is_with i x right (bare_simple (plain_simple right))
  related_with x relation right = simple p w (plain_simple right) >>= λ y. related p w relation x y

  abbrev pub compared_with : Operand → Compared → Judged Operand
  compared_with x c = related_with x (out-Compared c).relation (out-Compared c).right

  -- one more term
  abbrev pub added_one : Operand → Added → Judged Operand
  added_one x a = do
    y ← term p w (plain_term (out-Added a).term)
    joined (add_operator (out-Added a).operator) (place p (add_symbol (out-Added a).operator)) x y

  -- one more factor
  abbrev pub multiplied_one : Operand → Multiplied → Judged Operand
  multiplied_one x m = do
    y ← factor p w (plain_factor m.factor)
    joined (mul_operator m.operator) (place p (mul_symbol m.operator)) x y

  -- a number in a set
  abbrev pub number_in : S.Expression → Judged I.Expr
  number_in e = do
    x ← expression p w e
    set_element (place p (expression_first e)) x

  -- one more index
  abbrev pub indexed_one : (at : ℕ) → Operand → S.Expression → Judged Operand
  indexed_one at x e = do
    i ← expression p w e
    element at (place p (expression_first e)) x i

  -- one argument
  abbrev pub given_by : S.Expression → Judged J.Given
  given_by e = do
    x ← expression p w e
    Keeps (record { at = place p (expression_first e); operand = x })

  -- the arguments behind the first
  abbrev pub arguments_from : J.Given → S.NextExpressions → Judged (List J.Given)
  arguments_from x more = do
    xs ← next_arguments p w more
    Keeps (x ∷ xs)
