-- What the constructs of an expression do, over what their parts do (Oberon-07 report, section 8). f is the number of the procedure that runs.
use Rattle.std.specs.Prelude.{ℕ, zero, suc, ◌*◌, List, [], ◌∷◌, Bool, false, Option, Some, None, if◌then◌else◌, bit_or, length}
use Rattle.run_laws.specs.Turns.{◌>>=◌, give}
use Rattle.wrapping_numbers.specs.Sets.{has}
use Rattle.ob_types.specs.Store.{Cell, Bits, Heap, Address, Act, given, Handed, At, Sized, Tagged, Value, Span, past, fetch, tag_in, unless, trap, spend_all, bits, object_in, tag_of, dynamic_in, code_in, place, span}
use Rattle.ob_types.specs.Operators.{truth, holds, inside, elements, unary_of, binary_of, relation_of, related, text_of, text_order, text_common}
use Rattle.ob_types.specs.declared.tree.Unary.{Unary}
use Rattle.ob_types.specs.declared.tree.Binary.{Binary}
use Rattle.ob_types.specs.declared.tree.Relation.{Relation}

-- whether a record type is another or an extension of it
abbrev pub Extension : Type 0
Extension = ℕ → ℕ → Bool

-- designators

-- the place of an element: the array, the index, the test
abbrev pub element_place : ℕ → Act Handed → Option ℕ → ℕ → Act Cell → Act Handed
element_place f d length cells x = do
  array ← span d length
  i ← bits x
  _ ← unless f 1 (inside i array.length)
  give (At (past array.at (i * cells)))

-- the place of a field: so many cells into the record
abbrev pub field_of : Act Handed → ℕ → Act Handed
field_of d cells = do
  a ← place d
  give (At (past a cells))

-- the object of a pointer, with its dynamic type; NIL traps
abbrev pub object_of : ℕ → Act Cell → Act Handed
object_of f x = do
  c ← x
  o ← object_in f c
  t ← tag_of o
  give (Tagged (record { area = Heap; object = o; cell = 0 }) t)

-- a guard of a VAR record parameter
abbrev pub narrowed : ℕ → Extension → Act Handed → ℕ → Act Handed
narrowed f extends d r = do
  h ← d
  t ← given (tag_in h)
  _ ← unless f 3 (extends t r)
  give h

-- expressions

-- the value of a scalar variable
abbrev pub load : Act Handed → Act Cell
load d = do
  a ← place d
  fetch a

-- the value of a pointer whose object's type is record type r or an extension of it
abbrev pub guarded : ℕ → Extension → Act Cell → ℕ → Act Cell
guarded f extends x r = do
  c ← x
  o ← object_in f c
  t ← tag_of o
  _ ← unless f 3 (extends t r)
  give c

-- guarded by all of these, one after the other
abbrev pub all_guarded : ℕ → Extension → Act Cell → List ℕ → Act Cell
all_guarded f extends x [] = x
all_guarded f extends x (r ∷ rs) = all_guarded f extends (guarded f extends x r) rs

-- operators
abbrev pub one_operand : Unary → Act Cell → Act Cell
one_operand op x = do
  a ← bits x
  give (Bits (unary_of op a))

abbrev pub quotient : ℕ → Option ℕ → Act Cell
quotient f None = trap f 4
quotient f (Some n) = give (Bits n)

abbrev pub two_operands : ℕ → Binary → Act Cell → Act Cell → Act Cell
two_operands f op x y = do
  a ← bits x
  b ← bits y
  quotient f (binary_of op a b)

-- `&` and OR: the right operand is evaluated only where it decides
abbrev pub both : Act Cell → Act Cell → Act Cell
both x y = do
  a ← bits x
  if holds a then y else give (Bits 0)

abbrev pub either : Act Cell → Act Cell → Act Cell
either x y = do
  a ← bits x
  if holds a then give (Bits 1) else y

-- a relation of scalars
abbrev pub compared : Relation → Act Cell → Act Cell → Act Cell
compared r x y = do
  c ← x
  d ← y
  answer ← given (relation_of r c d)
  give (Bits (truth answer))

-- the numbers in so many cells from an address on
abbrev pub bits_from : ℕ → Address → Act (List ℕ)
bits_from zero a = give []
bits_from (suc n) a = do
  x ← bits (fetch a)
  xs ← bits_from n (past a 1)
  give (x ∷ xs)

-- the text in an array or string
abbrev pub text_in : Span → Act (List ℕ)
text_in a = do
  xs ← bits_from a.length a.at
  give (text_of xs)

-- a relation of texts: a turn for each position compared
abbrev pub texts_compared : Relation → Act Handed → Option ℕ → Act Handed → Option ℕ → Act Cell
texts_compared r d n e m = do
  a ← span d n
  b ← span e m
  xs ← text_in a
  ys ← text_in b
  _ ← spend_all (suc (text_common xs ys))
  give (Bits (truth (text_order (related r) xs ys)))

-- x IN s: the element is tested before the set is evaluated
abbrev pub contained : ℕ → Act Cell → Act Cell → Act Cell
contained f x s = do
  a ← bits x
  _ ← unless f 7 (inside a 64)
  b ← bits s
  give (Bits (truth (has b a)))

-- a set with one more element, and with those from one to another: each is tested as soon as it is known
abbrev pub with_element : ℕ → Act Cell → Act Cell → Act Cell
with_element f s x = do
  b ← bits s
  a ← bits x
  _ ← unless f 7 (inside a 64)
  give (Bits (bit_or b (elements a a)))

abbrev pub with_range : ℕ → Act Cell → Act Cell → Act Cell → Act Cell
with_range f s x y = do
  b ← bits s
  a ← bits x
  _ ← unless f 7 (inside a 64)
  c ← bits y
  _ ← unless f 7 (inside c 64)
  give (Bits (bit_or b (elements a c)))

-- the dynamic type of a pointer's object, or of a VAR record parameter
abbrev pub pointer_type : Act Cell → Act (Option ℕ)
pointer_type x = do
  c ← x
  dynamic_in c

abbrev pub parameter_type : Act Handed → Act (Option ℕ)
parameter_type d = do
  h ← d
  t ← given (tag_in h)
  give (Some t)

-- NIL is of no type
abbrev pub is_of : Extension → Option ℕ → ℕ → Bool
is_of extends None r = false
is_of extends (Some t) r = extends t r

-- IS
abbrev pub type_test : Extension → Act (Option ℕ) → ℕ → Act Cell
type_test extends x r = do
  t ← x
  give (Bits (truth (is_of extends t r)))

-- a number that becomes a BYTE
abbrev pub as_byte : ℕ → Act Cell → Act Cell
as_byte f x = do
  n ← bits x
  _ ← unless f 11 (inside n 256)
  give (Bits n)

-- LEN: the designator is evaluated, with its traps
abbrev pub length_of : Act Handed → Option ℕ → Act Cell
length_of d n = do
  a ← span d n
  give (Bits a.length)

-- arguments

abbrev pub by_value : Act Cell → Act Handed
by_value x = do
  c ← x
  give (Value c)

abbrev pub by_place : Act Handed → Act Handed
by_place d = do
  a ← place d
  give (At a)

-- with the dynamic type where the designator has one, else its own type
abbrev pub with_tag : Handed → ℕ → Option Handed
with_tag (At a) r = Some (Tagged a r)
with_tag (Tagged a t) r = Some (Tagged a t)
with_tag _ r = None

abbrev pub by_record : Act Handed → ℕ → Act Handed
by_record d r = do
  h ← d
  given (with_tag h r)

abbrev pub by_open : Act Handed → Option ℕ → Act Handed
by_open d n = do
  a ← span d n
  give (Sized a.at a.length)

-- one argument after the other
abbrev pub cons : Act Handed → Act (List Handed) → Act (List Handed)
cons x rest = do
  h ← x
  hs ← rest
  give (h ∷ hs)

-- what a call does: the procedure's number and its arguments; a result where it has one
abbrev pub Calls : Type 0
Calls = ℕ → List Handed → Act (Option Cell)

-- a declared procedure: its arguments, and then the call
abbrev pub called_by_number : Calls → ℕ → Act (List Handed) → Act (Option Cell)
called_by_number calls g args = do
  hs ← args
  calls g hs

-- a procedure variable: it is read before the arguments, and tested after them
abbrev pub called_by_value : ℕ → Calls → Act Cell → Act (List Handed) → Act (Option Cell)
called_by_value f calls x args = do
  c ← x
  hs ← args
  g ← code_in f c
  calls g hs

-- the result of a function
abbrev pub result_of : Act (Option Cell) → Act Cell
result_of call = do
  c ← call
  given c
