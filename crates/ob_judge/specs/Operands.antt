-- Operands: a checked expression with its type and what may be done with it; the values of constant ones.
use Rattle.std.specs.Prelude.{ℕ, suc, Bool, true, false, not, nat_eq, Option, Some, None, option_map, List, [], ◌∷◌, length, if◌then◌else◌, bit_or}
use Rattle.wrapping_numbers.specs.Sets.{has}
use Rattle.ob_types.specs.Store.{Bits}
use Rattle.ob_types.specs.Operators.{truth, holds, inside, elements, unary_of, binary_of, relation_of}
use Rattle.ob_judge.specs.Shapes.{Shape, Char, Text as TextShape, length_in}
use Rattle.ob_judge.specs.Image.{Expr, Literal, Routine, Load, Apply, Linked, Compare, In, AsByte, Link, Operate, And, Or, Element, Elements, Designator, of_type, Place, Done, Text, Statement, Checked, Constant}
use Rattle.ob_judge.specs.Image.{Bits as TheBits, Chars as TheChars}
use Rattle.ob_judge.specs.Scopes.{Home, ReadOnly, Tagged, OfModule, Variable, World}

-- what an operand is: a variable or a part of one; a value; a string; a declared procedure; a call of a proper standard
-- procedure, which has no type
pub data What : Type 0 where
  Named : Place → What
  Valued : Expr → What
  Chars : List ℕ → What
  Code : (procedure : ℕ) → (is_local : Bool) → What
  Proper : Statement → What

-- how it may be used: as a variable, that may be read-only, a VAR record parameter, or narrowed in a CASE on types;
-- as a factor of a constant expression; as a value alone
pub data Use : Type 0 where
  AsVariable : (read_only tagged narrowed : Bool) → Use
  AsConstant AsValue : Use

pub record Operand : Type 0 where
  pub shape : Shape
  pub what : What
  pub use_ : Use

abbrev pub operand : Shape → What → Use → Operand
operand shape what u = record { shape = shape; what = what; use_ = u }

abbrev pub value : Shape → Expr → Operand
value shape x = operand shape (Valued x) AsValue

abbrev pub as_value : Operand → Operand
as_value x = record x { use_ = AsValue }

abbrev pub is_variable : Operand → Bool
is_variable x = elim (x.use_) as (λ _. Bool) [ AsVariable r t n ↦ true | AsConstant ↦ false | AsValue ↦ false ]

abbrev pub is_read_only : Operand → Bool
is_read_only x = elim (x.use_) as (λ _. Bool) [ AsVariable r t n ↦ r | AsConstant ↦ false | AsValue ↦ false ]

abbrev pub is_tagged : Operand → Bool
is_tagged x = elim (x.use_) as (λ _. Bool) [ AsVariable r t n ↦ t | AsConstant ↦ false | AsValue ↦ false ]

abbrev pub is_narrowed : Operand → Bool
is_narrowed x = elim (x.use_) as (λ _. Bool) [ AsVariable r t n ↦ n | AsConstant ↦ false | AsValue ↦ false ]

abbrev pub is_constant : Operand → Bool
is_constant x = elim (x.use_) as (λ _. Bool) [ AsVariable r t n ↦ false | AsConstant ↦ true | AsValue ↦ false ]

-- a procedure that is local to another
abbrev pub is_local_code : What → Bool
is_local_code (Code f l) = l
is_local_code w = false

-- its value: a string of one character is that character
abbrev pub form_in : Shape → What → Expr
form_in s (Named d) = Load (of_type d s)
form_in s (Valued x) = x
form_in s (Chars []) = Literal 0
form_in s (Chars (c ∷ cs)) = Literal c
form_in s (Code f l) = Routine f
form_in s (Proper d) = Literal 0

abbrev pub form : Operand → Expr
form x = form_in x.shape x.what

-- the type of a value: a string's is CHAR
abbrev pub value_shape : Shape → Shape
value_shape (TextShape n) = Char
value_shape s = s

-- a whole expression
abbrev pub checked : Operand → Checked
checked x = record { form = form x; shape = value_shape x.shape }

-- where it stands: a string is an array of its characters and a 0X
abbrev pub place_in : What → Place
place_in (Named d) = d
place_in (Chars cs) = Text cs
place_in w = Done

abbrev pub place_of : Operand → Place
place_of x = place_in x.what

-- as a designator: with its type
abbrev pub designator_of : Operand → Designator
designator_of x = of_type (place_of x) x.shape

abbrev pub length_by : What → Shape → Option ℕ
length_by (Chars cs) s = Some (suc (length cs))
length_by w s = length_in s

-- the length of an array or string that has one by its type
abbrev pub length_of : Operand → Option ℕ
length_of x = length_by x.what x.shape

abbrev pub read_only_by : World → Variable → Home → Bool
read_only_by w v ReadOnly = true
read_only_by w v OfModule = not (nat_eq v.owner w.module_number)
read_only_by w v h = false

abbrev pub is_tagged_home : Home → Bool
is_tagged_home Tagged = true
is_tagged_home h = false

-- a variable as it is declared
abbrev pub whole_variable : World → Variable → Operand
whole_variable w v = operand v.shape (Named v.place) (AsVariable (read_only_by w v v.home) (is_tagged_home v.home) false)

abbrev pub of_constant : Constant → Operand
of_constant (TheBits s n) = operand s (Valued (Literal n)) AsConstant
of_constant (TheChars cs) = operand (TextShape (length cs)) (Chars cs) AsConstant

-- ---- the value of a constant expression by the meaning's operators: None where it traps, or isn't constant

abbrev pub of_one : (ℕ → Option ℕ) → Option ℕ → Option ℕ
of_one f None = None
of_one f (Some a) = f a

abbrev pub of_two : (ℕ → ℕ → Option ℕ) → Option ℕ → Option ℕ → Option ℕ
of_two f (Some a) (Some b) = f a b
of_two f x y = None

-- an element of a set
abbrev pub element_only : ℕ → (ℕ → Option ℕ) → Option ℕ
element_only a f = if inside a 64 then f a else None

abbrev pub both_of : Option ℕ → Option ℕ → Option ℕ
both_of None y = None
both_of (Some a) y = if holds a then y else Some 0

abbrev pub either_of : Option ℕ → Option ℕ → Option ℕ
either_of None y = None
either_of (Some a) y = if holds a then Some 1 else y

abbrev mutual
  pub fold : Expr → Option ℕ
  fold (Literal n) = Some n
  fold (Apply operator x) = of_one (λ a. Some (unary_of operator a)) (fold x)
  fold (Linked x l) = fold_link l (fold x)
  fold (Compare r x y) = of_two (λ a b. option_map truth (relation_of r (Bits a) (Bits b))) (fold x) (fold y)
  fold (In x s) = of_two (λ a b. element_only a (λ e. Some (truth (has b e)))) (fold x) (fold s)
  fold (AsByte x) = of_one (λ a. if inside a 256 then Some a else None) (fold x)
  fold x = None

  -- behind a value
  pub fold_link : Link → Option ℕ → Option ℕ
  fold_link (Operate operator y) o = of_two (binary_of operator) o (fold y)
  fold_link (And y) o = both_of o (fold y)
  fold_link (Or y) o = either_of o (fold y)
  fold_link (Element y) o = of_two (λ b a. element_only a (λ e. Some (bit_or b (elements e e)))) o (fold y)
  fold_link (Elements y z) o = of_two (λ b c. of_one (λ a. element_only a (λ e. element_only c (λ g. Some (bit_or b (elements e g))))) (fold y)) o (fold z)

-- a constant operand's value
abbrev pub constant_in : Shape → What → Option Constant
constant_in s (Chars cs) = Some (TheChars cs)
constant_in s w = option_map (TheBits s) (fold (form_in s w))
