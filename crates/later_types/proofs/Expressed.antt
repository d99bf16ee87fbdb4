-- Expressions are judged alike where more types are known: by recursion on their syntax.
use Rattle.std.proofs.Common.{ℕ, List, [], ◌∷◌, length, true, Option, Some, None}
use Rattle.ob_syntax.specs.Syntax as S
use Rattle.ob_syntax.specs.declared.expressions.Relation.TheVariants as TheRelation
use Rattle.ob_judge.specs.Judged.{Judged, Keeps, Breaks, ◌>>=◌, some}
use Rattle.ob_judge.specs.Shapes.{Shape, Integer, Boolean, Char, Set, Nil, Known}
use Rattle.ob_judge.specs.Shapes.{Text as TextShape}
use Rattle.ob_judge.specs.Image.{Expr, Literal, Linked, Element, Elements, Constant}
use Rattle.ob_judge.specs.Scopes.{World, Source, AStandard, AModule, symbol_at, place, characters}
use Rattle.ob_judge.specs.Operands.{Chars, AsValue, Operand, operand, value, as_value, constant_in}
use Rattle.ob_judge.specs.Calls.{Given, standard}
use Rattle.ob_judge.specs.Symbols.{add_operator, add_symbol, mul_operator, mul_symbol, expression_first, bare_simple, bare_list}
use Rattle.ob_judge.specs.Names.{Stage, Whole, Partly, Ended, type_named, begun}
use Rattle.ob_judge.specs.Parts.{is_test, int_of, char_of, literal, guard_name, field, target, guarded, applied, set_element}
use Rattle.ob_judge.specs.Expressions.{expression, simple, added, term, multiplied, factor, with_elements, with_element, selected, select, indexed, indexed_more, arguments, next_arguments, designator, constant}
use Rattle.later_types.proofs.Alike.{Alike, alike_keeps, alike_breaks, whatever, behind}
use Rattle.later_types.proofs.Within.{Within, OperandWithin, Ready, more}
use Rattle.later_types.proofs.Named.{a_named, a_member, a_type_named, StageWithin, a_begun, a_finished}
use Rattle.later_types.proofs.Parted.{a_field, a_element, a_target, a_guarded, a_is_test, a_joined, a_signed, a_inverted, a_related, a_as_factor}
use Rattle.later_types.proofs.Called.{GivenWithin, a_applied, a_standard}

module _ (P : ℕ → Type 0) (n : ℕ) (p : Source) (w : World) (later : Known) (ready : Ready P n w later) where
  abbrev Fits : Operand → Type 0
  Fits = OperandWithin P n

  abbrev Staged : Stage → Type 0
  Staged = StageWithin P n p w later ready

  abbrev All : List Given → Type 0
  All = GivenWithin P n

  abbrev AnyExpr : Expr → Type 0
  AnyExpr x = Unit {0}

  abbrev v : World
  v = more w later

  a_literal : (s : Shape) (bits : ℕ) → Within P n s → Alike (OperandWithin P n) (literal s bits) (literal s bits)
  a_literal s bits h = alike_keeps Fits (value s (Literal bits)) h

  partly : (m k : Judged Operand) → Alike (OperandWithin P n) m k → Alike Staged (m >>= λ y. Keeps (Partly y)) (k >>= λ y. Keeps (Partly y))
  partly m k g = behind g (λ y h. alike_keeps Staged (Partly y) h)

  ended : (m k : Judged Operand) → Alike (OperandWithin P n) m k → Alike Staged (m >>= λ y. Keeps (Ended y)) (k >>= λ y. Keeps (Ended y))
  ended m k g = behind g (λ y h. alike_keeps Staged (Ended y) h)

  -- a guard, or the arguments of a call
  parens : (at : ℕ) (stage : Stage) → Staged stage → (list : S.Expressions) → Alike All (arguments p w list) (arguments p v list)
      → Alike Staged (begun p w at stage >>= λ x. elim (guard_name x (bare_list list)) as (λ _. Judged Stage) [
        | Some q ↦ type_named p w 31 q.0 q.1 >>= λ t. guarded p w at x t >>= λ y. Keeps (Partly y)
        | None ↦ arguments p w list >>= λ xs. applied p w at x x.shape xs >>= λ y. Keeps (Ended y)
      ]) (begun p v at stage >>= λ x. elim (guard_name x (bare_list list)) as (λ _. Judged Stage) [
        | Some q ↦ type_named p v 31 q.0 q.1 >>= λ t. guarded p v at x t >>= λ y. Keeps (Partly y)
        | None ↦ arguments p v list >>= λ xs. applied p v at x x.shape xs >>= λ y. Keeps (Ended y)
      ])
  parens at stage h list walked = behind (a_begun P n p w later ready at stage h) (λ x k. by x k (guard_name x (bare_list list)))
    where
      by : (x : Operand) → Fits x → (q : Option (ℕ × Option ℕ)) → Alike Staged (elim q as (λ _. Judged Stage) [
        | Some q ↦ type_named p w 31 q.0 q.1 >>= λ t. guarded p w at x t >>= λ y. Keeps (Partly y)
        | None ↦ arguments p w list >>= λ xs. applied p w at x x.shape xs >>= λ y. Keeps (Ended y)
      ]) (elim q as (λ _. Judged Stage) [
        | Some q ↦ type_named p v 31 q.0 q.1 >>= λ t. guarded p v at x t >>= λ y. Keeps (Partly y)
        | None ↦ arguments p v list >>= λ xs. applied p v at x x.shape xs >>= λ y. Keeps (Ended y)
      ])
      by x k (Some q) = behind (a_type_named P n p w later ready 31 q.0 q.1) (λ t i. partly (guarded p w at x t) (guarded p v at x t) (a_guarded P n p w later ready at x t k i))
      by x k None = behind walked (λ xs l. ended (applied p w at x x.shape xs) (applied p v at x x.shape xs) (a_applied P n p w later ready at x x.shape k xs l))

  mutual
    pub a_expression : (x : S.Expression) → Alike (OperandWithin P n) (expression p w x) (expression p (more w later) x)
    a_expression (S.only left) = a_simple left
    a_expression (S.compared left (TheRelation.Is i) right_) = behind (a_simple left) (λ x h. by (bare_simple right_) x h (a_simple right_))
      where
        by : (q : Option (ℕ × Option ℕ)) (x : Operand) → Fits x → Alike (OperandWithin P n) (simple p w right_) (simple p v right_)
            → Alike (OperandWithin P n) (elim q as (λ _. Judged Operand) [ None ↦ simple p w right_ >>= λ y. Breaks 31 (place p i) | Some r ↦ is_test p w (Some r) (place p i) x ])
            (elim q as (λ _. Judged Operand) [ None ↦ simple p v right_ >>= λ y. Breaks 31 (place p i) | Some r ↦ is_test p v (Some r) (place p i) x ])
        by None x h rest = behind rest (λ y k. alike_breaks Fits 31 (place p i))
        by (Some r) x h rest = a_is_test P n p w later ready (Some r) (place p i) x h
    a_expression (S.compared left relation right_) = behind (a_simple left) (λ x h. behind (a_simple right_) (λ y k. a_related P n p w later ready relation x y h k))

    a_simple : (x : S.Simple) → Alike (OperandWithin P n) (simple p w x) (simple p (more w later) x)
    a_simple (S.simple sign first more_) = behind (a_term first) (λ x h. behind (a_signed P n p w later ready sign x h) (λ y k. a_added y k more_))

    a_added : (x : Operand) → OperandWithin P n x → (xs : S.Addeds) → Alike (OperandWithin P n) (added p w x xs) (added p (more w later) x xs)
    a_added x h S.no_term = alike_keeps Fits x h
    a_added x h (S.added operator t rest) = behind (a_term t) (λ y k. behind (a_joined P n (add_operator operator) (place p (add_symbol operator)) x y) (λ z l. a_added z l rest))

    a_term : (x : S.Term) → Alike (OperandWithin P n) (term p w x) (term p (more w later) x)
    a_term (S.term first more_) = behind (a_factor first) (λ x h. a_multiplied x h more_)

    a_multiplied : (x : Operand) → OperandWithin P n x → (xs : S.Multiplieds) → Alike (OperandWithin P n) (multiplied p w x xs) (multiplied p (more w later) x xs)
    a_multiplied x h S.no_factor = alike_keeps Fits x h
    a_multiplied x h (S.multiplied operator f rest) = behind (a_factor f) (λ y k. behind (a_joined P n (mul_operator operator) (place p (mul_symbol operator)) x y) (λ z l. a_multiplied z l rest))

    a_factor : (x : S.Factor) → Alike (OperandWithin P n) (factor p w x) (factor p (more w later) x)
    a_factor (S.Int i) = a_literal Integer (int_of (symbol_at p i).kind) (tt, tt)
    a_factor (S.Text i) = alike_keeps Fits (operand (TextShape (length (characters p i))) (Chars (characters p i)) AsValue) (tt, tt)
    a_factor (S.Char i) = a_literal Char (char_of (symbol_at p i).kind) (tt, tt)
    a_factor (S.Nil i) = a_literal Nil 0 (tt, tt)
    a_factor (S.True i) = a_literal Boolean 1 (tt, tt)
    a_factor (S.False i) = a_literal Boolean 0 (tt, tt)
    a_factor (S.EmptySet i j) = a_literal Set 0 (tt, tt)
    a_factor (S.Set i first more_ j) = behind (a_with_element (Literal 0) first) (λ s h. behind (a_with_elements s more_) (λ t k. alike_keeps Fits (value Set t) (tt, tt)))
    a_factor (S.Designated name selectors) = behind (a_named P n p w later ready name) (λ o h. behind (a_selected (place p name) (Whole o) h selectors) (λ x k. a_as_factor P n p w later ready (place p name) x k))
    a_factor (S.Paren i x j) = behind (a_expression x) (λ y h. alike_keeps Fits (as_value y) h)
    a_factor (S.Not i x) = behind (a_factor x) (λ y h. a_inverted P n (place p i) y)

    a_with_elements : (s : Expr) (xs : S.NextElements) → Alike (λ (a : Expr). Unit {0}) (with_elements p w s xs) (with_elements p (more w later) s xs)
    a_with_elements s S.no_element = alike_keeps AnyExpr s tt
    a_with_elements s (S.next_element comma x rest) = behind (a_with_element s x) (λ t k. a_with_elements t rest)

    a_with_element : (s : Expr) (x : S.Element) → Alike (λ (a : Expr). Unit {0}) (with_element p w s x) (with_element p (more w later) s x)
    a_with_element s (S.one low) = behind (a_expression low) (λ x k. whatever (set_element (place p (expression_first low)) x >>= λ a. Keeps (Linked s (Element a))))
    a_with_element s (S.range low dots high) = behind (a_expression low) (λ x k. behind (whatever (set_element (place p (expression_first low)) x)) (λ a l.
        behind (a_expression high) (λ y m. whatever (set_element (place p (expression_first high)) y >>= λ b. Keeps (Linked s (Elements a b))))))

    pub a_selected : (at : ℕ) (stage : Stage) → StageWithin P n p w later ready stage → (xs : S.Selectors) → Alike (OperandWithin P n) (selected p w at stage xs) (selected p (more w later) at stage xs)
    a_selected at stage h S.no_selector = a_finished P n p w later ready at stage h
    a_selected at stage h (S.selected s rest) = behind (a_select at stage h s) (λ next k. a_selected at next k rest)

    a_select : (at : ℕ) (stage : Stage) → StageWithin P n p w later ready stage → (s : S.Selector) → Alike (StageWithin P n p w later ready) (select p w at stage s) (select p (more w later) at stage s)
    a_select at (Whole (AModule m)) h (S.Field period i) = behind (a_member P n p w later ready m i) (λ o k. alike_keeps Staged (Whole o) k)
    a_select at stage h (S.Field period i) = behind (a_begun P n p w later ready at stage h) (λ x k. partly (field p w at i x) (field p v at i x) (a_field P n p w later ready at i x k))
    a_select at stage h (S.Index left_bracket list right_bracket) = behind (a_begun P n p w later ready at stage h) (λ x k. partly (indexed p w at x list) (indexed p v at x list) (a_indexed at x k list))
    a_select at stage h (S.Arrow i) = behind (a_begun P n p w later ready at stage h) (λ x k. partly (target p w at x) (target p v at x) (a_target P n p w later ready at x k))
    a_select at (Whole (AStandard s)) h (S.EmptyParens left_paren right_paren) = ended (standard w at s []) (standard v at s []) (a_standard P n p w later ready at s [] tt)
    a_select at (Whole (AStandard s)) h (S.Parens left_paren list right_paren) = behind (a_arguments list) (λ xs k. ended (standard w at s xs) (standard v at s xs) (a_standard P n p w later ready at s xs k))
    a_select at stage h (S.EmptyParens left_paren right_paren) = behind (a_begun P n p w later ready at stage h) (λ x k. ended (applied p w at x x.shape []) (applied p v at x x.shape []) (a_applied P n p w later ready at x x.shape k [] tt))
    a_select at stage h (S.Parens left_paren list right_paren) = parens at stage h list (a_arguments list)

    a_indexed : (at : ℕ) (x : Operand) → OperandWithin P n x → (xs : S.Expressions) → Alike (OperandWithin P n) (indexed p w at x xs) (indexed p (more w later) at x xs)
    a_indexed at x h (S.expressions first more_) = behind (a_expression first) (λ i k. behind (a_element P n at (place p (expression_first first)) x i h) (λ y l. a_indexed_more at y l more_))

    a_indexed_more : (at : ℕ) (x : Operand) → OperandWithin P n x → (xs : S.NextExpressions) → Alike (OperandWithin P n) (indexed_more p w at x xs) (indexed_more p (more w later) at x xs)
    a_indexed_more at x h S.no_expression = alike_keeps Fits x h
    a_indexed_more at x h (S.next_expression comma y rest) = behind (a_expression y) (λ i k. behind (a_element P n at (place p (expression_first y)) x i h) (λ z l. a_indexed_more at z l rest))

    a_arguments : (xs : S.Expressions) → Alike (GivenWithin P n) (arguments p w xs) (arguments p (more w later) xs)
    a_arguments (S.expressions first more_) = behind (a_expression first) (λ x h. behind (a_next_arguments more_) (λ xs k. alike_keeps All (record { at = place p (expression_first first); operand = x } ∷ xs) (h, k)))

    a_next_arguments : (xs : S.NextExpressions) → Alike (GivenWithin P n) (next_arguments p w xs) (next_arguments p (more w later) xs)
    a_next_arguments S.no_expression = alike_keeps All [] tt
    a_next_arguments (S.next_expression comma x rest) = behind (a_expression x) (λ y h. behind (a_next_arguments rest) (λ xs k. alike_keeps All (record { at = place p (expression_first x); operand = y } ∷ xs) (h, k)))

  pub a_designator : (d : S.Designator) → Alike (OperandWithin P n) (designator p w d) (designator p (more w later) d)
  a_designator d = behind (a_named P n p w later ready d.name) (λ o h. a_selected (place p d.name) (Whole o) h d.selectors)

-- ---- constants

module _ (P : ℕ → Type 0) (n : ℕ) (w : World) (later : Known) (ready : Ready P n w later) where
  pub constant_ready : Ready P n (record w { constant = true }) later
  constant_ready =
      let a = ready.among in
      let s = ready.scope in
      record {
        among = record { names = a.names; members = a.members; fields = a.fields; narrowed = a.narrowed };
        scope = record { names = s.names; members = s.members; fields = s.fields; narrowed = s.narrowed };
        targets = ready.targets;
        records = ready.records;
        bases = ready.bases;
      }

  pub a_constant : (p : Source) (x : S.Expression) → Alike (λ (c : Constant). Unit {0}) (constant p w x) (constant p (more w later) x)
  a_constant p x = behind (a_expression P n p (record w { constant = true }) later constant_ready x) (λ y h. whatever (some 35 (place p (expression_first x)) (constant_in y.shape y.what)))
