-- Expressions judged: each part in the order of the text, a construct after its parts.
use Rattle.std.specs.Prelude.{ℕ, true, List, [], ◌∷◌, Some, None}
use Rattle.ob_syntax.specs.Syntax as S
use Rattle.ob_syntax.specs.declared.expressions.Relation.TheVariants as TheRelation
use Rattle.ob_judge.specs.Judged.{Judged, Keeps, Breaks, ◌>>=◌, some}
use Rattle.ob_judge.specs.Shapes.{Integer, Boolean, Char, Set, Nil}
use Rattle.ob_judge.specs.Image.{Expr, Literal, Linked, Element, Elements, Constant}
use Rattle.ob_judge.specs.Scopes.{AStandard, AModule, World, Source, symbol_at, place, characters}
use Rattle.ob_judge.specs.Operands.{Operand, value, as_value, constant_in}
use Rattle.ob_judge.specs.Calls.{Given, standard}
use Rattle.ob_judge.specs.Symbols.{add_operator, add_symbol, mul_operator, mul_symbol, expression_first, bare_simple, bare_list}
use Rattle.ob_judge.specs.Names.{Stage, Whole, Partly, Ended, named, member, type_named, begun, finished}
use Rattle.ob_judge.specs.Parts.{field, element, target, guarded, joined, signed, inverted, set_element, related, is_test, int_of, char_of, literal, text_literal, as_factor, applied, guard_name}

module _ (p : Source) (w : World) where
  abbrev mutual
    pub expression : S.Expression → Judged Operand
    expression (S.only left) = simple left
    -- IS wants the name of a type, every other relation an expression
    expression (S.compared left (TheRelation.Is i) right) = do
      x ← simple left
      elim (bare_simple right) as (λ _. Judged Operand) [
        | None ↦ simple right >>= λ y. Breaks 31 (place p i)
        | Some q ↦ is_test p w (Some q) (place p i) x
      ]
    expression (S.compared left relation right) = do
      x ← simple left
      y ← simple right
      related p w relation x y

    pub simple : S.Simple → Judged Operand
    simple (S.simple sign first more) = do
      x ← term first
      y ← signed p w sign x
      added y more

    pub added : Operand → S.Addeds → Judged Operand
    added x S.no_term = Keeps x
    added x (S.added operator t rest) = do
      y ← term t
      z ← joined (add_operator operator) (place p (add_symbol operator)) x y
      added z rest

    pub term : S.Term → Judged Operand
    term (S.term first more) = do
      x ← factor first
      multiplied x more

    pub multiplied : Operand → S.Multiplieds → Judged Operand
    multiplied x S.no_factor = Keeps x
    multiplied x (S.multiplied operator f rest) = do
      y ← factor f
      z ← joined (mul_operator operator) (place p (mul_symbol operator)) x y
      multiplied z rest

    pub factor : S.Factor → Judged Operand
    factor (S.Int i) = literal Integer (int_of (symbol_at p i).kind)
    factor (S.Text i) = text_literal (characters p i)
    factor (S.Char i) = literal Char (char_of (symbol_at p i).kind)
    factor (S.Nil i) = literal Nil 0
    factor (S.True i) = literal Boolean 1
    factor (S.False i) = literal Boolean 0
    factor (S.EmptySet i j) = literal Set 0
    factor (S.Set i first more j) = do
      s ← with_element (Literal 0) first
      t ← with_elements s more
      Keeps (value Set t)
    factor (S.Designated name selectors) = do
      o ← named p w name
      x ← selected (place p name) (Whole o) selectors
      as_factor p w (place p name) x
    factor (S.Paren i x j) = do
      y ← expression x
      Keeps (as_value y)
    factor (S.Not i x) = do
      y ← factor x
      inverted (place p i) y

    pub with_elements : Expr → S.NextElements → Judged Expr
    with_elements s S.no_element = Keeps s
    with_elements s (S.next_element comma e rest) = do
      t ← with_element s e
      with_elements t rest

    pub with_element : Expr → S.Element → Judged Expr
    with_element s (S.one low) = do
      x ← expression low
      a ← set_element (place p (expression_first low)) x
      Keeps (Linked s (Element a))
    with_element s (S.range low dots high) = do
      x ← expression low
      a ← set_element (place p (expression_first low)) x
      y ← expression high
      b ← set_element (place p (expression_first high)) y
      Keeps (Linked s (Elements a b))

    -- the parts of what a name stands for
    pub selected : (at : ℕ) → Stage → S.Selectors → Judged Operand
    selected at stage S.no_selector = finished p w at stage
    selected at stage (S.selected s rest) = do
      next ← select at stage s
      selected at next rest

    pub select : (at : ℕ) → Stage → S.Selector → Judged Stage
    select at (Whole (AModule m)) (S.Field period i) = do
      o ← member p w m i
      Keeps (Whole o)
    select at stage (S.Field period i) = do
      x ← begun p w at stage
      y ← field p w at i x
      Keeps (Partly y)
    select at stage (S.Index left_bracket list right_bracket) = do
      x ← begun p w at stage
      y ← indexed at x list
      Keeps (Partly y)
    select at stage (S.Arrow i) = do
      x ← begun p w at stage
      y ← target p w at x
      Keeps (Partly y)
    select at (Whole (AStandard s)) (S.EmptyParens left_paren right_paren) = do
      y ← standard w at s []
      Keeps (Ended y)
    select at (Whole (AStandard s)) (S.Parens left_paren list right_paren) = do
      xs ← arguments list
      y ← standard w at s xs
      Keeps (Ended y)
    select at stage (S.EmptyParens left_paren right_paren) = do
      x ← begun p w at stage
      y ← applied p w at x x.shape []
      Keeps (Ended y)
    select at stage (S.Parens left_paren list right_paren) = do
      x ← begun p w at stage
      elim (guard_name x (bare_list list)) as (λ _. Judged Stage) [
        | Some q ↦ type_named p w 31 q.0 q.1 >>= λ t. guarded p w at x t >>= λ y. Keeps (Partly y)
        | None ↦ arguments list >>= λ xs. applied p w at x x.shape xs >>= λ y. Keeps (Ended y)
      ]

    pub indexed : (at : ℕ) → Operand → S.Expressions → Judged Operand
    indexed at x (S.expressions first more) = do
      i ← expression first
      y ← element at (place p (expression_first first)) x i
      indexed_more at y more

    pub indexed_more : (at : ℕ) → Operand → S.NextExpressions → Judged Operand
    indexed_more at x S.no_expression = Keeps x
    indexed_more at x (S.next_expression comma e rest) = do
      i ← expression e
      y ← element at (place p (expression_first e)) x i
      indexed_more at y rest

    -- all arguments are walked before the first is judged
    pub arguments : S.Expressions → Judged (List Given)
    arguments (S.expressions first more) = do
      x ← expression first
      xs ← next_arguments more
      Keeps (record { at = place p (expression_first first); operand = x } ∷ xs)

    pub next_arguments : S.NextExpressions → Judged (List Given)
    next_arguments S.no_expression = Keeps []
    next_arguments (S.next_expression comma e rest) = do
      x ← expression e
      xs ← next_arguments rest
      Keeps (record { at = place p (expression_first e); operand = x } ∷ xs)

  -- a designator by itself
  abbrev pub designator : S.Designator → Judged Operand
  designator d = do
    o ← named p w d.name
    selected (place p d.name) (Whole o) d.selectors

-- an expression where a constant is asked for: its value, or 35 where it would trap
abbrev pub constant : Source → World → S.Expression → Judged Constant
constant p w e = do
  x ← expression p (record w { constant = true }) e
  some 35 (place p (expression_first e)) (constant_in x.shape x.what)
