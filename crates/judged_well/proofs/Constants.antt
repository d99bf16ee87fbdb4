-- Constants: what is declared of one, and what it stands for.
use Rattle.std.proofs.Common.{◌≡◌, ℕ, zero, suc, length, Bool, true, false, not, ◌&&◌, ◌||◌, Option, Some, None, refl, sym, ap, ◌∙◌, subst}
use Rattle.std.specs.Prelude.{option_map, nat_lt, ◌^◌}
use Rattle.ob_types.proofs.Tests.{no, none_some, some_same}
use Rattle.ob_types.specs.declared.tree.Relation.TheVariants as TheComparison
use Rattle.ob_syntax.specs.Syntax as S
use Rattle.ob_syntax.specs.declared.expressions.Relation.{Relation}
use Rattle.ob_syntax.specs.declared.expressions.Relation.TheVariants as TheRelation
use Rattle.ob_syntax.specs.declared.expressions.Sign.{Sign}
use Rattle.ob_syntax.specs.declared.expressions.Sign.TheVariants as TheSign
use Rattle.ob_judge.specs.Judged.{Judged, Breaks, ◌>>=◌}
use Rattle.ob_judge.specs.Shapes.{Shape, Integer, Boolean, Char, Byte, Set, Nil, Nothing, is_number, is_truth, is_set}
use Rattle.ob_judge.specs.Shapes.{Text as TextShape}
use Rattle.ob_judge.specs.Operators.{Operator, Plus, Minus, Times, Slash, Div, Mod, And, Or, Row, on_numbers, on_sets, on_truths, row_of, negated_row, may_compare, are_texts}
use Rattle.ob_judge.specs.Image.{Expr, Literal, Result, Call, Constant, Bits}
use Rattle.ob_judge.specs.Image.{Chars as TheChars}
use Rattle.ob_judge.specs.Image as I
use Rattle.ob_judge.specs.Operands.{form as form_of}
use Rattle.ob_types.specs.declared.tree.Unary.TheVariants as TheUnary
use Rattle.ob_judge.specs.Scopes.{World, Source, symbol_at, place, characters}
use Rattle.ob_judge.specs.Operands.{What, Named as ThePlace, Valued, Chars, Code, Proper, Use, AsValue, Operand, operand, value, as_value, is_constant, constant_in, fold}
use Rattle.ob_judge.specs.Symbols.{add_operator, add_symbol, mul_operator, mul_symbol, expression_first, bare_simple}
use Rattle.ob_judge.specs.Names.{Whole, named, type_named}
use Rattle.ob_judge.specs.Parts.{comparison, joined, signed, compared, related, tested_tag, test_of, is_test, is_nothing, int_of, char_of}
use Rattle.ob_judge.specs.Expressions.{expression, simple, added, term, multiplied, factor, with_elements, with_element, selected, constant}
use Rattle.judged_well.specs.Gives.{Gives}
use Rattle.judged_well.specs.Forms.{Form, Zero, Truth, Small, Number, ToRecord, Routines, Exactly, literal_by}
use Rattle.judged_well.specs.Forms.{literal as literal_form}
use Rattle.judged_well.specs.Setting.{Setting, IsOrder}
use Rattle.judged_well.specs.Typing.{outline, form}
use Rattle.judged_well.specs.Standing.{IsRead, IsValue, StandsAs, ConstantStands, near, near_for, value_form, good, Right}
use Rattle.judged_well.proofs.Judging.{keeps, breaks, and_then, by_rule, by_some, at_last, anything, gives_both}
use Rattle.judged_well.proofs.Tree.{t_expression}
use Rattle.judged_well.proofs.Worlds.{right_constant}
use Rattle.judged_well.proofs.Folded.{Folds, folded}

-- ---- no expression is without a type

abbrev is_typed : Shape → Bool
is_typed Nothing = false
is_typed s = true

module _ (p : Source) (w : World) where
  abbrev IsTyped : Operand → Type 0
  IsTyped x = is_typed x.shape ≡ true

  row_typed : (op : Operator) (a b : Shape) (row : Row) → row_of op a b ≡ Some row → is_typed row.0 ≡ true
  row_typed op a b row h = by a b h
    where
      same : (r : Row) → is_typed r.0 ≡ true → Some r ≡ Some row → is_typed row.0 ≡ true
      same r k i = subst (λ z. is_typed z.0 ≡ true) (some_same r row i) k

      numbers : (op : Operator) → on_numbers op ≡ Some row → is_typed row.0 ≡ true
      numbers Plus i = same _ refl i
      numbers Minus i = same _ refl i
      numbers Times i = same _ refl i
      numbers Div i = same _ refl i
      numbers Mod i = same _ refl i
      numbers _ i = none_some row i

      sets : (op : Operator) → on_sets op ≡ Some row → is_typed row.0 ≡ true
      sets Plus i = same _ refl i
      sets Minus i = same _ refl i
      sets Times i = same _ refl i
      sets Slash i = same _ refl i
      sets _ i = none_some row i

      truths : (op : Operator) → on_truths op ≡ Some row → is_typed row.0 ≡ true
      truths And i = same _ refl i
      truths Or i = same _ refl i
      truths _ i = none_some row i

      by : (a b : Shape) → row_of op a b ≡ Some row → is_typed row.0 ≡ true
      by Set Set h = sets op h
      by Boolean Boolean h = truths op h
      by Integer Integer h = numbers op h
      by Integer Byte h = numbers op h
      by Byte Integer h = numbers op h
      by Byte Byte h = numbers op h
      by _ _ h = none_some row h

  joined_typed : (op : Operator) (at : ℕ) (x y : Operand) → Gives IsTyped (joined op at x y)
  joined_typed op at x y = by_some 31 at (row_of op x.shape y.shape) (λ row is. keeps IsTyped (value row.0 (row.1 (form_of x) (form_of y))) (row_typed op x.shape y.shape row is))

  negated_typed : (s : Shape) (row : Shape × (Expr → Expr)) → negated_row s ≡ Some row → is_typed row.0 ≡ true
  negated_typed Set row h = subst (λ z. is_typed z.0 ≡ true) (some_same _ row h) refl
  negated_typed Integer row h = subst (λ z. is_typed z.0 ≡ true) (some_same _ row h) refl
  negated_typed Byte row h = subst (λ z. is_typed z.0 ≡ true) (some_same _ row h) refl
  negated_typed _ row h = none_some row h

  signed_typed : (s : Option Sign) (x : Operand) → IsTyped x → Gives IsTyped (signed p w s x)
  signed_typed None x h = keeps IsTyped x h
  signed_typed (Some (TheSign.Plus i)) x h = by_rule 31 (place p i) (is_number x.shape) (λ n. keeps IsTyped (value Integer (form_of x)) refl)
  signed_typed (Some (TheSign.Minus i)) x h = by_some 31 (place p i) (negated_row x.shape) (λ row is. keeps IsTyped (value row.0 (row.1 (form_of x))) (negated_typed x.shape row is))

  compared_typed : (r : _) (at : ℕ) (x y : Operand) → Gives IsTyped (compared p w r at x y)
  compared_typed r at x y = by_rule 31 at (may_compare w.known r x.shape y.shape) (λ m. by_rule 32 at (not (w.constant && are_texts x.shape y.shape)) (λ c. keeps IsTyped (value Boolean (comparison r x y)) refl))

  related_typed : (r : Relation) (x y : Operand) → Gives IsTyped (related p w r x y)
  related_typed (TheRelation.Equal i) x y = compared_typed TheComparison.Equal (place p i) x y
  related_typed (TheRelation.NotEqual i) x y = compared_typed TheComparison.Unequal (place p i) x y
  related_typed (TheRelation.Less i) x y = compared_typed TheComparison.Less (place p i) x y
  related_typed (TheRelation.LessEqual i) x y = compared_typed TheComparison.LessEqual (place p i) x y
  related_typed (TheRelation.Greater i) x y = compared_typed TheComparison.Greater (place p i) x y
  related_typed (TheRelation.GreaterEqual i) x y = compared_typed TheComparison.GreaterEqual (place p i) x y
  related_typed (TheRelation.In i) x y = by_rule 31 (place p i) (is_number x.shape && is_set y.shape) (λ m. keeps IsTyped (value Boolean (I.In (form_of x) (form_of y))) refl)
  related_typed (TheRelation.Is i) x y = breaks IsTyped 31 (place p i)

  tested_typed : (q : Option (ℕ × Option ℕ)) (at : ℕ) (x : Operand) → Gives IsTyped (is_test p w q at x)
  tested_typed None at x = breaks IsTyped 31 at
  tested_typed (Some q) at x = and_then (anything (type_named p w 31 q.0 q.1)) (λ t z. by_some 31 at (tested_tag p w x t) (λ r is. keeps IsTyped (value Boolean (test_of x t r)) refl))

  not_nothing : (s : Shape) → not (is_nothing s) ≡ true → is_typed s ≡ true
  not_nothing Nothing h = no h
  not_nothing Integer h = refl
  not_nothing _ h = refl

  mutual
    pub typed_expression : (x : S.Expression) → Gives IsTyped (expression p w x)
    typed_expression (S.only left) = typed_simple left
    typed_expression (S.compared left (TheRelation.Is i) right) = and_then (typed_simple left) (λ x h. by (bare_simple right) x)
      where
        by : (q : Option (ℕ × Option ℕ)) (x : Operand) → Gives IsTyped (elim q as (λ _. Judged Operand) [ None ↦ simple p w right >>= λ y. Breaks 31 (place p i) | Some r ↦ is_test p w (Some r) (place p i) x ])
        by None x = and_then (anything (simple p w right)) (λ y z. breaks IsTyped 31 (place p i))
        by (Some r) x = tested_typed (Some r) (place p i) x
    typed_expression (S.compared left (TheRelation.Equal i) right) = and_then (typed_simple left) (λ x h. and_then (anything (simple p w right)) (λ y z. related_typed (TheRelation.Equal i) x y))
    typed_expression (S.compared left relation right) = and_then (typed_simple left) (λ x h. and_then (anything (simple p w right)) (λ y z. related_typed relation x y))

    typed_simple : (x : S.Simple) → Gives IsTyped (simple p w x)
    typed_simple (S.simple sign first more) = and_then (typed_term first) (λ x h. and_then (signed_typed sign x h) (λ y k. typed_added y k more))

    typed_added : (x : Operand) → IsTyped x → (more : S.Addeds) → Gives IsTyped (added p w x more)
    typed_added x h S.no_term = keeps IsTyped x h
    typed_added x h (S.added operator t rest) = and_then (anything (term p w t)) (λ y z. and_then (joined_typed (add_operator operator) (place p (add_symbol operator)) x y) (λ u k. typed_added u k rest))

    typed_term : (x : S.Term) → Gives IsTyped (term p w x)
    typed_term (S.term first more) = and_then (typed_factor first) (λ x h. typed_multiplied x h more)

    typed_multiplied : (x : Operand) → IsTyped x → (more : S.Multiplieds) → Gives IsTyped (multiplied p w x more)
    typed_multiplied x h S.no_factor = keeps IsTyped x h
    typed_multiplied x h (S.multiplied operator f rest) = and_then (anything (factor p w f)) (λ y z. and_then (joined_typed (mul_operator operator) (place p (mul_symbol operator)) x y) (λ u k. typed_multiplied u k rest))

    typed_factor : (x : S.Factor) → Gives IsTyped (factor p w x)
    typed_factor (S.Int i) = keeps IsTyped (value Integer (Literal (int_of (symbol_at p i).kind))) refl
    typed_factor (S.Text i) = keeps IsTyped (operand (TextShape (length (characters p i))) (Chars (characters p i)) AsValue) refl
    typed_factor (S.Char i) = keeps IsTyped (value Char (Literal (char_of (symbol_at p i).kind))) refl
    typed_factor (S.Nil i) = keeps IsTyped (value Nil (Literal 0)) refl
    typed_factor (S.True i) = keeps IsTyped (value Boolean (Literal 1)) refl
    typed_factor (S.False i) = keeps IsTyped (value Boolean (Literal 0)) refl
    typed_factor (S.EmptySet i j) = keeps IsTyped (value Set (Literal 0)) refl
    typed_factor (S.Set i first more j) = and_then (anything (with_element p w (Literal 0) first)) (λ s z. and_then (anything (with_elements p w s more)) (λ t y. keeps IsTyped (value Set t) refl))
    typed_factor (S.Designated name selectors) = and_then (anything (named p w name)) (λ o z. and_then (anything (selected p w (place p name) (Whole o) selectors)) (λ x y.
        by_rule 31 (place p name) (not (is_nothing x.shape)) (λ n. by_rule 32 (place p name) (not w.constant || is_constant x) (λ c. keeps IsTyped x (not_nothing x.shape n)))))
    typed_factor (S.Paren i x j) = and_then (typed_expression x) (λ y h. keeps IsTyped (as_value y) h)
    typed_factor (S.Not i x) = and_then (anything (factor p w x)) (λ y z. by_rule 31 (place p i) (is_truth y.shape) (λ t. keeps IsTyped (value Boolean (I.Apply TheUnary.Not (form_of y))) refl))

-- ---- what a constant stands for

module _ (e : Setting) (order : IsOrder e) where
  abbrev formed : Expr → Option Form
  formed x = form e (outline e) x

  zero_only : (o : Option Form) → near_for e o (Some Zero) ≡ true → o ≡ Some Zero
  zero_only None h = no h
  zero_only (Some Zero) h = refl
  zero_only (Some _) h = no h

  abbrev is_literal : Option Form → Bool
  is_literal None = true
  is_literal (Some (ToRecord r)) = false
  is_literal (Some (Routines ps s)) = false
  is_literal (Some (Exactly c)) = false
  is_literal (Some f) = true

  literal_kind : (n : ℕ) → is_literal (literal_form n) ≡ true
  literal_kind zero = refl
  literal_kind (suc zero) = refl
  literal_kind (suc (suc n)) = by (nat_lt (suc (suc n)) 256) (nat_lt (suc (suc n)) (2 ^ 64))
    where
      by : (a b : Bool) → is_literal (literal_by a b) ≡ true
      by true b = refl
      by false true = refl
      by false false = refl

  through : (o : Option Form) → is_literal o ≡ true → (f g : Form) → near_for e o (Some f) ≡ true → near e f g ≡ true → near_for e o (Some g) ≡ true
  through None l f g h k = no h
  through (Some (ToRecord r)) l f g h k = no l
  through (Some (Routines ps s)) l f g h k = no l
  through (Some (Exactly c)) l f g h k = no l
  through (Some x) l Zero Zero h k = h
  through (Some Zero) l f Truth h k = refl
  through (Some Zero) l f Small h k = refl
  through (Some Zero) l f Number h k = refl
  through (Some Zero) l f Zero h k = refl
  through (Some Zero) l Zero (ToRecord r) h k = k
  through (Some Zero) l Zero (Routines ps s) h k = k
  through (Some Truth) l Truth Truth h k = refl
  through (Some Truth) l f Small h k = refl
  through (Some Truth) l f Number h k = refl
  through (Some Small) l f Small h k = refl
  through (Some Small) l f Number h k = refl
  through (Some Number) l f Number h k = refl
  through (Some Zero) l (ToRecord b) g h k = no h
  through (Some Zero) l (Routines ps s) g h k = no h
  through (Some Zero) l (Exactly c) g h k = no h
  through (Some Zero) l _ g h k = no k
  through (Some Truth) l Zero g h k = no h
  through (Some Truth) l (ToRecord b) g h k = no h
  through (Some Truth) l (Routines ps s) g h k = no h
  through (Some Truth) l (Exactly c) g h k = no h
  through (Some Truth) l _ g h k = no k
  through (Some Small) l Zero g h k = no h
  through (Some Small) l Truth g h k = no h
  through (Some Small) l (ToRecord b) g h k = no h
  through (Some Small) l (Routines ps s) g h k = no h
  through (Some Small) l (Exactly c) g h k = no h
  through (Some Small) l _ g h k = no k
  through (Some Number) l Zero g h k = no h
  through (Some Number) l Truth g h k = no h
  through (Some Number) l Small g h k = no h
  through (Some Number) l (ToRecord b) g h k = no h
  through (Some Number) l (Routines ps s) g h k = no h
  through (Some Number) l (Exactly c) g h k = no h
  through (Some Number) l _ g h k = no k

  near_literal : (n : ℕ) (o q : Option Form) → Folds e o (Some n) → near_for e o q ≡ true → near_for e (literal_form n) q ≡ true
  near_literal n None q h k = no k
  near_literal n (Some f) None h k = no k
  near_literal n (Some f) (Some g) h k = through (literal_form n) (literal_kind n) f g h k

  value_literal : (s : Shape) → is_typed s ≡ true → (x : Expr) (n : ℕ) → fold x ≡ Some n → IsValue e s x → IsValue e s (Literal n)
  value_literal Nothing t x n i v = no t
  value_literal (TextShape m) t x n i v = v
  value_literal Integer t x n i v = near_literal n (formed x) (value_form e Integer) (subst (Folds e (formed x)) i (folded e x)) v
  value_literal s t x n i v = near_literal n (formed x) (value_form e s) (subst (Folds e (formed x)) i (folded e x)) v

  bits : (s : Shape) (o : Option ℕ) (c : Constant) → option_map (Bits s) o ≡ Some c → (n : ℕ) × (o ≡ Some n) × (c ≡ Bits s n)
  bits s None c h = none_some c h
  bits s (Some n) c h = (n, refl, sym (some_same (Bits s n) c h))

  constant_stands : (s : Shape) (u : Use) (what : What) → StandsAs e s u what → good e s ≡ true → is_typed s ≡ true → (c : Constant) → constant_in s what ≡ Some c → ConstantStands e c
  constant_stands s u (Chars cs) h g t c i = subst (ConstantStands e) (some_same (TheChars cs) c i) h.1
  constant_stands s u (Valued x) h g t c i = let b = bits s (fold x) c i in subst (ConstantStands e) (sym b.2) (value_literal s t x b.0 b.1 h.0, g)
  constant_stands s u (ThePlace d) h g t c i = none_some c i
  constant_stands s u (Code f l) h g t c i = none_some c i
  constant_stands s u (Proper d) h g t c i = no (sym (ap is_typed h.0) ∙ t)

  pub t_constant : (p : Source) → IsRead p → (w : World) → Right e p w → (x : S.Expression) → Gives (ConstantStands e) (constant p w x)
  t_constant p read w right x = and_then (gives_both (t_expression e order p read (record w { constant = true }) (right_constant p e w right) x) (typed_expression p (record w { constant = true }) x)) (λ y h.
      at_last 35 (place p (expression_first x)) (constant_in y.shape y.what) (λ c is. constant_stands y.shape y.use_ y.what (h.0).does (h.0).good h.1 c is))
