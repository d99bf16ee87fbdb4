-- Operators, relations, literals and factors.
use Rattle.std.proofs.Common.{◌≡◌, ℕ, Bool, true, false, not, ◌&&◌, ◌||◌, Option, Some, None, refl, sym, ap, ap₂, ◌∙◌, subst}
use Rattle.std.specs.Prelude.{if◌then◌else◌, is_some, option_map}
use Rattle.ob_types.specs.declared.tree.Unary.TheVariants as TheUnary
use Rattle.ob_types.specs.declared.tree.Binary.{Binary}
use Rattle.ob_types.specs.declared.tree.Binary.TheVariants as TheBinary
use Rattle.ob_types.specs.declared.tree.Relation.{Relation as Comparison}
use Rattle.ob_types.specs.declared.tree.Relation.TheVariants as TheComparison
use Rattle.ob_types.specs.WellFormed.{provided, holds_of, with_some, is_equality}
use Rattle.ob_types.proofs.Tests.{no, none_some, some_same, and_of, and_from}
use Rattle.ob_syntax.specs.declared.expressions.Relation.{Relation}
use Rattle.ob_syntax.specs.declared.expressions.Relation.TheVariants as TheRelation
use Rattle.ob_syntax.specs.declared.expressions.Sign.{Sign}
use Rattle.ob_syntax.specs.declared.expressions.Sign.TheVariants as TheSign
use Rattle.ob_judge.specs.Shapes.{Shape, Integer, Boolean, Char, Byte, Set, Nil, Nothing, Array, Open, Record, Pointer, Procedure, Formals, is_number, is_set, is_truth}
use Rattle.ob_judge.specs.Shapes.{Text as TextShape}
use Rattle.ob_judge.specs.Operators.{Operator, Plus, Minus, Times, Slash, Div, Mod, And, Or, Row, operated, on_numbers, on_sets, on_truths, row_of, negated_row, is_char, are_ordered, are_texts, are_included, may_equal, may_compare}
use Rattle.ob_judge.specs.Operators.{is_text as is_text_shape, is_equality as is_equality_of, is_inclusion}
use Rattle.ob_judge.specs.Image.{Expr, Literal, Apply, Linked, Compare, CompareTexts, In, Operate}
use Rattle.ob_judge.specs.Image as Tree
use Rattle.ob_judge.specs.Scopes.{World, Source, place}
use Rattle.ob_judge.specs.Operands.{Operand, value, designator_of, is_constant}
use Rattle.ob_judge.specs.Operands.{form as form_of}
use Rattle.ob_judge.specs.Parts.{joined, signed, inverted, inclusion, comparison, compared, is_in, set_element, related, is_nothing, as_factor}
use Rattle.judged_well.specs.Forms.{Form, Zero, Truth, Small, Number, ToRecord, Routines, gives_number, gives_truth, gives_pointer, comparable, is_pointer, is_code}
use Rattle.judged_well.specs.Forms.{is_number as is_number_form}
use Rattle.judged_well.specs.Setting.{Setting, IsOrder}
use Rattle.judged_well.specs.Typing.{outline, form}
use Rattle.judged_well.specs.Standing.{Stands, near_for, value_form, IsValue, good, Right}
use Rattle.judged_well.specs.Gives.{Gives}
use Rattle.judged_well.proofs.Judging.{keeps, breaks, by_rule, by_some}
use Rattle.judged_well.proofs.Values.{value_as, near_number, near_truth, near_pointer, near_code, near_zero}
use Rattle.judged_well.proofs.Places.{number_of, texts}

pub or_second : (a b : Bool) → (a || b) ≡ true → b ≡ false → a ≡ true
or_second true b h i = refl
or_second false b h i = no (sym i ∙ h)

pub or_cases : (a b : Bool) {X : Type 0} → (a || b) ≡ true → (a ≡ true → X) → (b ≡ true → X) → X
or_cases true b h f g = f refl
or_cases false b h f g = g h

pub truth_shape : (s : Shape) → is_truth s ≡ true → s ≡ Boolean
truth_shape Boolean h = refl
truth_shape _ h = no h

pub set_shape : (s : Shape) → is_set s ≡ true → s ≡ Set
set_shape Set h = refl
set_shape _ h = no h

pub truth_number : (o : Option Form) → gives_truth o ≡ true → gives_number o ≡ true
truth_number None h = h
truth_number (Some Zero) h = refl
truth_number (Some Truth) h = refl
truth_number (Some _) h = no h

module _ (e : Setting) (order : IsOrder e) where
  abbrev formed : Expr → Option Form
  formed x = form e (outline e) x

  pub number_near : (o : Option Form) → gives_number o ≡ true → near_for e o (Some Number) ≡ true
  number_near None h = h
  number_near (Some Zero) h = refl
  number_near (Some Truth) h = refl
  number_near (Some Small) h = refl
  number_near (Some Number) h = refl
  number_near (Some _) h = no h

  -- what an operator makes of two operands
  pub record IsRow (x y : Expr) (row : Row) : Type 0 where
    pub value : IsValue e row.0 (row.1 x y)
    pub good : good e row.0 ≡ true

  module _ (x y : Expr) where
    pub on_two : (op : Binary) → gives_number (formed x) ≡ true → gives_number (formed y) ≡ true → gives_number (formed (operated op x y)) ≡ true
    on_two TheBinary.Subset h i = ap₂ (λ a b. gives_number (provided a (provided b (Some Truth)))) h i
    on_two TheBinary.Superset h i = ap₂ (λ a b. gives_number (provided a (provided b (Some Truth)))) h i
    on_two _ h i = ap₂ (λ a b. gives_number (provided a (provided b (Some Number)))) h i

    number_row : (op : Binary) → gives_number (formed x) ≡ true → gives_number (formed y) ≡ true → IsRow x y (Integer, operated op)
    number_row op h i = record { value = number_near (formed (operated op x y)) (on_two op h i); good = refl }

    set_row : (op : Binary) → gives_number (formed x) ≡ true → gives_number (formed y) ≡ true → IsRow x y (Set, operated op)
    set_row op h i = record { value = number_near (formed (operated op x y)) (on_two op h i); good = refl }

    the_row : (a b : Row) → Some a ≡ Some b → IsRow x y a → IsRow x y b
    the_row a b h r = subst (IsRow x y) (some_same a b h) r

    number_rows : (op : Operator) (row : Row) → on_numbers op ≡ Some row → gives_number (formed x) ≡ true → gives_number (formed y) ≡ true → IsRow x y row
    number_rows Plus row h i j = the_row (Integer, operated TheBinary.Add) row h (number_row TheBinary.Add i j)
    number_rows Minus row h i j = the_row (Integer, operated TheBinary.Subtract) row h (number_row TheBinary.Subtract i j)
    number_rows Times row h i j = the_row (Integer, operated TheBinary.Multiply) row h (number_row TheBinary.Multiply i j)
    number_rows Div row h i j = the_row (Integer, operated TheBinary.Div) row h (number_row TheBinary.Div i j)
    number_rows Mod row h i j = the_row (Integer, operated TheBinary.Mod) row h (number_row TheBinary.Mod i j)
    number_rows _ row h i j = none_some row h

    set_rows : (op : Operator) (row : Row) → on_sets op ≡ Some row → gives_number (formed x) ≡ true → gives_number (formed y) ≡ true → IsRow x y row
    set_rows Plus row h i j = the_row (Set, operated TheBinary.Union) row h (set_row TheBinary.Union i j)
    set_rows Minus row h i j = the_row (Set, operated TheBinary.Difference) row h (set_row TheBinary.Difference i j)
    set_rows Times row h i j = the_row (Set, operated TheBinary.Intersection) row h (set_row TheBinary.Intersection i j)
    set_rows Slash row h i j = the_row (Set, operated TheBinary.SymmetricDifference) row h (set_row TheBinary.SymmetricDifference i j)
    set_rows _ row h i j = none_some row h

    truth_rows : (op : Operator) (row : Row) → on_truths op ≡ Some row → gives_truth (formed x) ≡ true → gives_truth (formed y) ≡ true → IsRow x y row
    truth_rows And row h i j = the_row (Boolean, λ x y. Linked x (Tree.And y)) row h (record { value = ap₂ (λ a b. near_for e (provided a (provided b (Some Truth))) (Some Truth)) i j; good = refl })
    truth_rows Or row h i j = the_row (Boolean, λ x y. Linked x (Tree.Or y)) row h (record { value = ap₂ (λ a b. near_for e (provided a (provided b (Some Truth))) (Some Truth)) i j; good = refl })
    truth_rows _ row h i j = none_some row h

  -- the value of an operand of a type that has this form
  pub value_of : (x : Operand) → Stands e x → (g : Form) → value_form e x.shape ≡ Some g → near_for e (formed (form_of x)) (Some g) ≡ true
  value_of x h g i = value_as e order x.shape x.use_ x.what h.does g i

  pub numbers : (x : Operand) → Stands e x → is_number x.shape ≡ true → gives_number (formed (form_of x)) ≡ true
  numbers x h i = number_of e order x.shape x.use_ x.what h.does i

  pub sets : (x : Operand) → Stands e x → x.shape ≡ Set → gives_number (formed (form_of x)) ≡ true
  sets x h i = near_number e (formed (form_of x)) Number refl (value_of x h Number (ap (value_form e) i))

  pub truths : (x : Operand) → Stands e x → x.shape ≡ Boolean → gives_truth (formed (form_of x)) ≡ true
  truths x h i = near_truth e (formed (form_of x)) (value_of x h Truth (ap (value_form e) i))

  t_row : (op : Operator) (x y : Operand) → Stands e x → Stands e y → (row : Row) → row_of op x.shape y.shape ≡ Some row → IsRow (form_of x) (form_of y) row
  t_row op x y h k row is = by x.shape y.shape refl refl is
    where
      number : (z : Operand) → Stands e z → (s : Shape) → z.shape ≡ s → is_number s ≡ true → gives_number (formed (form_of z)) ≡ true
      number z h s i j = numbers z h (ap is_number i ∙ j)

      by : (a b : Shape) → x.shape ≡ a → y.shape ≡ b → row_of op a b ≡ Some row → IsRow (form_of x) (form_of y) row
      by Set Set i j r = set_rows (form_of x) (form_of y) op row r (sets x h i) (sets y k j)
      by Boolean Boolean i j r = truth_rows (form_of x) (form_of y) op row r (truths x h i) (truths y k j)
      by Integer Integer i j r = number_rows (form_of x) (form_of y) op row r (number x h Integer i refl) (number y k Integer j refl)
      by Integer Byte i j r = number_rows (form_of x) (form_of y) op row r (number x h Integer i refl) (number y k Byte j refl)
      by Byte Integer i j r = number_rows (form_of x) (form_of y) op row r (number x h Byte i refl) (number y k Integer j refl)
      by Byte Byte i j r = number_rows (form_of x) (form_of y) op row r (number x h Byte i refl) (number y k Byte j refl)
      by _ _ i j r = none_some row r

  -- a value with its type
  pub valued : (s : Shape) (x : Expr) → IsValue e s x → good e s ≡ true → Stands e (value s x)
  valued s x v g = record { does = (v, tt); good = g }

  module _ (p : Source) (w : World) (right : Right e p w) where
    pub t_joined : (op : Operator) (at : ℕ) (x y : Operand) → Stands e x → Stands e y → Gives (Stands e) (joined op at x y)
    t_joined op at x y h k = by_some 31 at (row_of op x.shape y.shape) (λ row is.
        let r = t_row op x y h k row is in
        keeps (Stands e) (value row.0 (row.1 (form_of x) (form_of y))) (valued row.0 (row.1 (form_of x) (form_of y)) r.value r.good))

    -- ---- signs

    minus : (x : Operand) → Stands e x → (row : Shape × (Expr → Expr)) → negated_row x.shape ≡ Some row → Stands e (value row.0 (row.1 (form_of x)))
    minus x h row is = by x.shape refl is
      where
        integer : gives_number (formed (form_of x)) ≡ true → Some (Integer, Apply TheUnary.Negate) ≡ Some row → Stands e (value row.0 (row.1 (form_of x)))
        integer n r = subst (λ k. Stands e (value k.0 (k.1 (form_of x)))) (some_same (Integer, Apply TheUnary.Negate) row r) (valued Integer (Apply TheUnary.Negate (form_of x)) (ap (λ c. near_for e (provided c (Some Number)) (Some Number)) n) refl)

        by : (s : Shape) → x.shape ≡ s → negated_row s ≡ Some row → Stands e (value row.0 (row.1 (form_of x)))
        by Set i r = subst (λ k. Stands e (value k.0 (k.1 (form_of x)))) (some_same (Set, Apply TheUnary.Complement) row r) (valued Set (Apply TheUnary.Complement (form_of x)) (ap (λ c. near_for e (provided c (Some Number)) (Some Number)) (sets x h i)) refl)
        by Integer i r = integer (numbers x h (ap is_number i)) r
        by Byte i r = integer (numbers x h (ap is_number i)) r
        by _ i r = none_some row r

    pub t_signed : (sign : Option Sign) (x : Operand) → Stands e x → Gives (Stands e) (signed p w sign x)
    t_signed None x h = keeps (Stands e) x h
    t_signed (Some (TheSign.Plus i)) x h = by_rule 31 (place p i) (is_number x.shape) (λ n.
        keeps (Stands e) (value Integer (form_of x)) (valued Integer (form_of x) (number_near (formed (form_of x)) (numbers x h n)) refl))
    t_signed (Some (TheSign.Minus i)) x h = by_some 31 (place p i) (negated_row x.shape) (λ row is. keeps (Stands e) (value row.0 (row.1 (form_of x))) (minus x h row is))

    pub t_inverted : (at : ℕ) (x : Operand) → Stands e x → Gives (Stands e) (inverted at x)
    t_inverted at x h = by_rule 31 at (is_truth x.shape) (λ t.
        keeps (Stands e) (value Boolean (Apply TheUnary.Not (form_of x))) (valued Boolean (Apply TheUnary.Not (form_of x))
        (ap (λ c. near_for e (provided c (Some Truth)) (Some Truth)) (truth_number (formed (form_of x)) (truths x h (truth_shape x.shape t)))) refl))

    -- ---- relations

    compare_by : (r : Comparison) (x y : Expr) (a b : Form) → formed x ≡ Some a → formed y ≡ Some b → comparable r a b ≡ true → formed (Compare r x y) ≡ Some Truth
    compare_by r x y a b i j c = ap₂ (λ o q. with_some o (λ k. with_some q (λ l. provided (comparable r k l) (Some Truth)))) i j ∙ ap (λ t. provided t (Some Truth)) c

    -- both have a form that passes the test
    both : (r : Comparison) (x y : Expr) (test : Form → Bool) → ((a b : Form) → test a ≡ true → test b ≡ true → comparable r a b ≡ true) → holds_of test (formed x) ≡ true → holds_of test (formed y) ≡ true → formed (Compare r x y) ≡ Some Truth
    both r x y test ok h k = by (formed x) (formed y) refl refl h k
      where
        by : (o q : Option Form) → formed x ≡ o → formed y ≡ q → holds_of test o ≡ true → holds_of test q ≡ true → formed (Compare r x y) ≡ Some Truth
        by None q i j h k = no h
        by (Some a) None i j h k = no k
        by (Some a) (Some b) i j h k = compare_by r x y a b i j (ok a b h k)

    number_pair : (r : Comparison) (a b : Form) → is_number_form a ≡ true → is_number_form b ≡ true → comparable r a b ≡ true
    number_pair r a b h k = ap₂ (λ m n. m && n || is_equality r && (is_pointer a && is_pointer b || is_code a && is_code b)) h k

    or_true : (a b : Bool) → b ≡ true → (a || b) ≡ true
    or_true true b h = refl
    or_true false b h = h

    pointer_pair : (r : Comparison) → is_equality r ≡ true → (a b : Form) → is_pointer a ≡ true → is_pointer b ≡ true → comparable r a b ≡ true
    pointer_pair r eq a b h k = or_true (is_number_form a && is_number_form b) (is_equality r && (is_pointer a && is_pointer b || is_code a && is_code b))
        (and_from (is_equality r) (is_pointer a && is_pointer b || is_code a && is_code b) eq (ap₂ (λ m n. m && n || is_code a && is_code b) h k))

    code_pair : (r : Comparison) → is_equality r ≡ true → (a b : Form) → is_code a ≡ true → is_code b ≡ true → comparable r a b ≡ true
    code_pair r eq a b h k = or_true (is_number_form a && is_number_form b) (is_equality r && (is_pointer a && is_pointer b || is_code a && is_code b))
        (and_from (is_equality r) (is_pointer a && is_pointer b || is_code a && is_code b) eq (or_true (is_pointer a && is_pointer b) (is_code a && is_code b) (and_from (is_code a) (is_code b) h k)))

    pub char_value : (x : Operand) → Stands e x → is_char x.shape ≡ true → gives_number (formed (form_of x)) ≡ true
    char_value x h c = by x.shape refl c
      where
        by : (s : Shape) → x.shape ≡ s → is_char s ≡ true → gives_number (formed (form_of x)) ≡ true
        by Char i c = near_number e (formed (form_of x)) Small refl (value_of x h Small (ap (value_form e) i))
        by (TextShape n) i c = near_number e (formed (form_of x)) Small refl (value_of x h Small (ap (value_form e) i))
        by _ i c = no c

    ordered : (r : Comparison) (x y : Operand) → Stands e x → Stands e y → are_ordered x.shape y.shape ≡ true → formed (Compare r (form_of x) (form_of y)) ≡ Some Truth
    ordered r x y h k o = or_cases (is_number x.shape && is_number y.shape) (is_char x.shape && is_char y.shape) o
        (λ n. let g = and_of (is_number x.shape) (is_number y.shape) n in both r (form_of x) (form_of y) is_number_form (number_pair r) (numbers x h g.0) (numbers y k g.1))
        (λ c. let g = and_of (is_char x.shape) (is_char y.shape) c in both r (form_of x) (form_of y) is_number_form (number_pair r) (char_value x h g.0) (char_value y k g.1))

    there : (o : Option ℕ) → is_some o ≡ true → (r : ℕ) × (o ≡ Some r)
    there None g = no g
    there (Some r) g = (r, refl)

    pub pointers : (x : Operand) → Stands e x → (n : ℕ) → x.shape ≡ Pointer n → gives_pointer (formed (form_of x)) ≡ true
    pointers x h n i =
        let t = there (e.target n) (ap (good e) (sym i) ∙ h.good) in
        ap gives_pointer (near_pointer e (formed (form_of x)) t.0 (value_of x h (ToRecord t.0) (ap (value_form e) i ∙ ap (λ o. option_map (λ r. ToRecord r) o) t.1))).1

    codes : (x : Operand) → Stands e x → (ps : Formals) (s : Shape) → x.shape ≡ Procedure ps s → holds_of is_code (formed (form_of x)) ≡ true
    codes x h ps s i = near_code e (formed (form_of x)) ps s (value_of x h (Routines ps s) (ap (value_form e) i))

    nil : (x : Operand) → Stands e x → x.shape ≡ Nil → formed (form_of x) ≡ Some Zero
    nil x h i = near_zero e (formed (form_of x)) (value_of x h Zero (ap (value_form e) i))

    equal : (r : Comparison) → is_equality r ≡ true → (x y : Operand) → Stands e x → Stands e y → may_equal w.known x.shape y.shape ≡ true → formed (Compare r (form_of x) (form_of y)) ≡ Some Truth
    equal r eq x y h k m = by x.shape y.shape refl refl m
      where
        numbers_are : gives_number (formed (form_of x)) ≡ true → gives_number (formed (form_of y)) ≡ true → formed (Compare r (form_of x) (form_of y)) ≡ Some Truth
        numbers_are = both r (form_of x) (form_of y) is_number_form (number_pair r)

        pointers_are : gives_pointer (formed (form_of x)) ≡ true → gives_pointer (formed (form_of y)) ≡ true → formed (Compare r (form_of x) (form_of y)) ≡ Some Truth
        pointers_are = both r (form_of x) (form_of y) is_pointer (pointer_pair r eq)

        codes_are : holds_of is_code (formed (form_of x)) ≡ true → holds_of is_code (formed (form_of y)) ≡ true → formed (Compare r (form_of x) (form_of y)) ≡ Some Truth
        codes_are = both r (form_of x) (form_of y) is_code (code_pair r eq)

        by : (a b : Shape) → x.shape ≡ a → y.shape ≡ b → may_equal w.known a b ≡ true → formed (Compare r (form_of x) (form_of y)) ≡ Some Truth
        by Boolean Boolean i j m = numbers_are (truth_number (formed (form_of x)) (truths x h i)) (truth_number (formed (form_of y)) (truths y k j))
        by Set Set i j m = numbers_are (sets x h i) (sets y k j)
        by (Pointer a) (Pointer b) i j m = pointers_are (pointers x h a i) (pointers y k b j)
        by (Procedure ps s) (Procedure qs u) i j m = codes_are (codes x h ps s i) (codes y k qs u j)
        by Nil (Pointer b) i j m = pointers_are (ap gives_pointer (nil x h i)) (pointers y k b j)
        by Nil (Procedure qs u) i j m = codes_are (ap (holds_of is_code) (nil x h i)) (codes y k qs u j)
        by (Pointer a) Nil i j m = pointers_are (pointers x h a i) (ap gives_pointer (nil y k j))
        by (Procedure ps s) Nil i j m = codes_are (codes x h ps s i) (ap (holds_of is_code) (nil y k j))
        by Integer Nil i j m = no m
        by Char Nil i j m = no m
        by Byte Nil i j m = no m
        by Boolean Nil i j m = no m
        by Set Nil i j m = no m
        by Nothing Nil i j m = no m
        by (TextShape n) Nil i j m = no m
        by (Array n a) Nil i j m = no m
        by (Open a) Nil i j m = no m
        by (Record n) Nil i j m = no m
        by _ _ i j m = no m

    equality_is : (r : Comparison) → is_equality_of r ≡ true → is_equality r ≡ true
    equality_is TheComparison.Equal h = refl
    equality_is TheComparison.Unequal h = refl
    equality_is _ h = no h

    included : (r : Comparison) (x y : Expr) → gives_number (formed x) ≡ true → gives_number (formed y) ≡ true → formed (inclusion r x y) ≡ Some Truth
    included TheComparison.GreaterEqual x y h k = ap₂ (λ a b. provided a (provided b (Some Truth))) h k
    included _ x y h k = ap₂ (λ a b. provided a (provided b (Some Truth))) h k

    related_form : (r : Comparison) (x y : Operand) → Stands e x → Stands e y → may_compare w.known r x.shape y.shape ≡ true → formed (comparison r x y) ≡ Some Truth
    related_form r x y h k m = by (are_texts x.shape y.shape) (are_included r x.shape y.shape) refl refl
      where
        by : (t i : Bool) → are_texts x.shape y.shape ≡ t → are_included r x.shape y.shape ≡ i
            → formed (if t then CompareTexts r (designator_of x) (designator_of y) else if i then inclusion r (form_of x) (form_of y) else Compare r (form_of x) (form_of y)) ≡ Some Truth
        by true i is_t is_i =
            let g = and_of (not (are_ordered x.shape y.shape) && is_text_shape x.shape) (is_text_shape y.shape) is_t in
            let f = and_of (not (are_ordered x.shape y.shape)) (is_text_shape x.shape) g.0 in
            ap₂ (λ a b. provided a (provided b (Some Truth))) (texts e order x.shape x.use_ x.what h.does h.good f.1) (texts e order y.shape y.use_ y.what k.does k.good g.1)
        by false true is_t is_i =
            let g = and_of (is_inclusion r && is_set x.shape) (is_set y.shape) is_i in
            let f = and_of (is_inclusion r) (is_set x.shape) g.0 in
            included r (form_of x) (form_of y) (sets x h (set_shape x.shape f.1)) (sets y k (set_shape y.shape g.1))
        by false false is_t is_i =
            let a = are_ordered x.shape y.shape in
            let t = are_texts x.shape y.shape in
            let i = are_included r x.shape y.shape in
            or_cases ((a || t) || i) (is_equality_of r && may_equal w.known x.shape y.shape) m
            (λ q. ordered r x y h k (or_second a t (or_second (a || t) i q is_i) is_t))
            (λ q. let g = and_of (is_equality_of r) (may_equal w.known x.shape y.shape) q in equal r (equality_is r g.0) x y h k g.1)

    pub t_compared : (r : Comparison) (at : ℕ) (x y : Operand) → Stands e x → Stands e y → Gives (Stands e) (compared p w r at x y)
    t_compared r at x y h k = by_rule 31 at (may_compare w.known r x.shape y.shape) (λ m.
        by_rule 32 at (not (w.constant && are_texts x.shape y.shape)) (λ c.
        keeps (Stands e) (value Boolean (comparison r x y)) (valued Boolean (comparison r x y) (ap (λ o. near_for e o (Some Truth)) (related_form r x y h k m)) refl)))

    pub t_is_in : (at : ℕ) (x s : Operand) → Stands e x → Stands e s → Gives (Stands e) (is_in at x s)
    t_is_in at x s h k = by_rule 31 at (is_number x.shape && is_set s.shape) (λ m.
        let g = and_of (is_number x.shape) (is_set s.shape) m in
        keeps (Stands e) (value Boolean (In (form_of x) (form_of s))) (valued Boolean (In (form_of x) (form_of s))
        (ap₂ (λ a b. near_for e (provided a (provided b (Some Truth))) (Some Truth)) (numbers x h g.0) (sets s k (set_shape s.shape g.1))) refl))

    pub t_set_element : (at : ℕ) (x : Operand) → Stands e x → Gives (λ y. gives_number (formed y) ≡ true) (set_element at x)
    t_set_element at x h = by_rule 31 at (is_number x.shape) (λ n. keeps (λ y. gives_number (formed y) ≡ true) (form_of x) (numbers x h n))

    pub t_related : (relation : Relation) (x y : Operand) → Stands e x → Stands e y → Gives (Stands e) (related p w relation x y)
    t_related (TheRelation.Equal i) x y h k = t_compared TheComparison.Equal (place p i) x y h k
    t_related (TheRelation.NotEqual i) x y h k = t_compared TheComparison.Unequal (place p i) x y h k
    t_related (TheRelation.Less i) x y h k = t_compared TheComparison.Less (place p i) x y h k
    t_related (TheRelation.LessEqual i) x y h k = t_compared TheComparison.LessEqual (place p i) x y h k
    t_related (TheRelation.Greater i) x y h k = t_compared TheComparison.Greater (place p i) x y h k
    t_related (TheRelation.GreaterEqual i) x y h k = t_compared TheComparison.GreaterEqual (place p i) x y h k
    t_related (TheRelation.In i) x y h k = t_is_in (place p i) x y h k
    t_related (TheRelation.Is i) x y h k = breaks (Stands e) 31 (place p i)

    pub t_as_factor : (at : ℕ) (x : Operand) → Stands e x → Gives (Stands e) (as_factor p w at x)
    t_as_factor at x h = by_rule 31 at (not (is_nothing x.shape)) (λ a. by_rule 32 at (not w.constant || is_constant x) (λ b. keeps (Stands e) x h))
