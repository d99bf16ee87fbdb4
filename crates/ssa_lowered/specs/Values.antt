-- The code of values and addresses, over the code of their parts.
use Rattle.std.specs.Prelude.{ℕ, zero, suc, ◌+◌, ◌*◌, List, [], ◌∷◌, ◌++◌, Bool, Option, Some, None, if◌then◌else◌}
use Rattle.ob_types.specs.declared.tree.Unary.{Unary}
use Rattle.ob_types.specs.declared.tree.Unary.TheVariants.{Negate, Complement, Not, Abs, Odd}
use Rattle.ob_types.specs.declared.tree.Binary.{Binary}
use Rattle.ob_types.specs.declared.tree.Binary.TheVariants.{Add, Subtract, Multiply, Div, Mod, Union, Difference, Intersection, SymmetricDifference, Subset, Superset, Lsl, Asr, Ror}
use Rattle.ob_types.specs.declared.tree.Relation.{Relation}
use Rattle.ob_types.specs.declared.tree.Relation.TheVariants.{Equal, Unequal, Less, LessEqual, Greater, GreaterEqual}
use Rattle.block_runs.specs.declared.code.Code.{Code}
use Rattle.block_runs.specs.declared.code.Code.TheVariants.{Const, Global, Local, Plus, Load, Store, LoadByte, StoreByte, And, Or, Eor, Bic, Mul, MulAdd, Neg, Set, Flip, Bit, Span, Has, Below, Byte, Elem, NotNil, IsPtr, IsTag, GuardPtr, GuardTag, Call, CallAt, Compare}
use Rattle.block_runs.specs.declared.code.Code.TheVariants.{Code as CodeOf, Add as AddOp, Sub as SubOp, Lsl as LslOp, Asr as AsrOp, Ror as RorOp, Not as NotOp, Abs as AbsOp, Odd as OddOp, Div as DivOp, Mod as ModOp}
use Rattle.ssa_lowered.specs.Pieces.{Low, give, ◌>>=◌, emits, does, variable, becomes}

abbrev pub const : ℕ → Low ℕ
const n = emits (Const n) []

abbrev pub condition : Relation → ℕ
condition Equal = 0
condition Unequal = 1
condition Less = 11
condition LessEqual = 13
condition Greater = 12
condition GreaterEqual = 10

-- what a designator names: an address; a parameter's address and the length or tag in the word behind it; the object of a pointer, whose address
-- isn't made yet; a variable that is in a register
pub data Named : Type 0 where
  At : (address : ℕ) → Named
  Beside : (address second : ℕ) → Named
  Object : (pointer : ℕ) → Named
  Held : (variable : ℕ) → Named

-- the address so many bytes further
abbrev pub past : ℕ → ℕ → Low ℕ
past a zero = give a
past a (suc n) = emits (Plus (suc n)) (a ∷ [])

-- the address so many bytes into what is named: an object's record stands behind its tag; a variable in a register has none
abbrev pub address_in : Named → ℕ → Low ℕ
address_in (At a) n = past a n
address_in (Beside a b) n = past a n
address_in (Object p) n = emits (Plus (8 + n)) (p ∷ [])
address_in (Held x) n = const 0

abbrev pub address : Low Named → Low ℕ
address d = do
  h ← d
  address_in h 0

-- the length of an array, the tag of a record: a parameter's second word, or in an object; an address alone has none
abbrev pub second : Named → Low ℕ
second (At a) = const 0
second (Beside a b) = give b
second (Object p) = emits Load (p ∷ [])
second (Held x) = const 0

abbrev pub length_in : Option ℕ → Named → Low ℕ
length_in (Some n) h = const n
length_in None h = second h

-- the bytes of so many elements
abbrev pub bytes_in : ℕ → Option ℕ → Named → Low ℕ
bytes_in size (Some n) h = const (n * size)
bytes_in size None h = do
  n ← second h
  s ← const size
  emits Mul (n ∷ s ∷ [])

-- designators

abbrev pub data_at : ℕ → Low Named
data_at n = do
  a ← emits (Global n) []
  give (At a)

abbrev pub local_at : ℕ → Low Named
local_at n = do
  a ← emits (Local n) []
  give (At a)

abbrev pub element : Low Named → Option ℕ → ℕ → Low ℕ → Low Named
element d length size x = do
  h ← d
  a ← address_in h 0
  i ← x
  n ← length_in length h
  _ ← does Below (i ∷ n ∷ [])
  s ← const size
  e ← emits MulAdd (i ∷ s ∷ a ∷ [])
  give (At e)

abbrev pub field : Low Named → ℕ → Low Named
field d offset = do
  h ← d
  a ← address_in h offset
  give (At a)

abbrev pub dereferenced : Low ℕ → Low Named
dereferenced x = do
  p ← x
  _ ← does NotNil (p ∷ [])
  give (Object p)

-- a guard of a VAR record parameter
abbrev pub narrowed : Low Named → ℕ → ℕ → Low Named
narrowed d descriptor level = do
  h ← d
  t ← second h
  g ← emits (Global descriptor) []
  _ ← does (GuardTag level) (t ∷ g ∷ [])
  give h

-- values

abbrev pub one_operand : Unary → ℕ → Low ℕ
one_operand Negate x = emits Neg (x ∷ [])
one_operand Complement x = emits NotOp (x ∷ [])
one_operand Not x = emits Flip (x ∷ [])
one_operand Abs x = emits AbsOp (x ∷ [])
one_operand Odd x = emits OddOp (x ∷ [])

abbrev pub included : ℕ → ℕ → Low ℕ
included x y = do
  d ← emits Bic (x ∷ y ∷ [])
  z ← const 0
  emits (Set 0) (d ∷ z ∷ [])

abbrev pub two_operands : Binary → ℕ → ℕ → Low ℕ
two_operands Add x y = emits AddOp (x ∷ y ∷ [])
two_operands Subtract x y = emits SubOp (x ∷ y ∷ [])
two_operands Multiply x y = emits Mul (x ∷ y ∷ [])
two_operands Div x y = emits DivOp (x ∷ y ∷ [])
two_operands Mod x y = emits ModOp (x ∷ y ∷ [])
two_operands Union x y = emits Or (x ∷ y ∷ [])
two_operands Difference x y = emits Bic (x ∷ y ∷ [])
two_operands Intersection x y = emits And (x ∷ y ∷ [])
two_operands SymmetricDifference x y = emits Eor (x ∷ y ∷ [])
two_operands Subset x y = included x y
two_operands Superset x y = included y x
two_operands Lsl x y = emits LslOp (x ∷ y ∷ [])
two_operands Asr x y = emits AsrOp (x ∷ y ∷ [])
two_operands Ror x y = emits RorOp (x ∷ y ∷ [])

abbrev pub unary : Unary → Low ℕ → Low ℕ
unary op x = do
  a ← x
  one_operand op a

abbrev pub binary : Binary → Low ℕ → Low ℕ → Low ℕ
binary op x y = do
  a ← x
  b ← y
  two_operands op a b

abbrev pub compared : Relation → Low ℕ → Low ℕ → Low ℕ
compared r x y = do
  a ← x
  b ← y
  emits (Set (condition r)) (a ∷ b ∷ [])

abbrev pub texts_compared : ℕ → Relation → Low Named → Option ℕ → Low Named → Option ℕ → Low ℕ
texts_compared size r d n e m = do
  x ← d
  a ← address_in x 0
  i ← bytes_in size n x
  y ← e
  b ← address_in y 0
  j ← bytes_in size m y
  c ← emits Compare (a ∷ i ∷ b ∷ j ∷ [])
  z ← const 0
  emits (Set (condition r)) (c ∷ z ∷ [])

abbrev pub routine : ℕ → Low ℕ
routine g = emits (CodeOf g) []

abbrev pub guarded : Low ℕ → ℕ → ℕ → Low ℕ
guarded x descriptor level = do
  p ← x
  g ← emits (Global descriptor) []
  _ ← does (GuardPtr level) (p ∷ g ∷ [])
  give p

-- an element of a set, tested
abbrev pub member : Low ℕ → Low ℕ
member x = do
  a ← x
  _ ← does Elem (a ∷ [])
  give a

abbrev pub contained : Low ℕ → Low ℕ → Low ℕ
contained x s = do
  a ← member x
  b ← s
  emits Has (a ∷ b ∷ [])

abbrev pub with_element : Low ℕ → Low ℕ → Low ℕ
with_element s x = do
  b ← s
  a ← member x
  e ← emits Bit (a ∷ [])
  emits Or (b ∷ e ∷ [])

abbrev pub with_range : Low ℕ → Low ℕ → Low ℕ → Low ℕ
with_range s x y = do
  b ← s
  a ← member x
  c ← member y
  e ← emits Span (a ∷ c ∷ [])
  emits Or (b ∷ e ∷ [])

abbrev pub is_pointer : ℕ → ℕ → ℕ → Low ℕ
is_pointer descriptor level p = do
  g ← emits (Global descriptor) []
  emits (IsPtr level) (p ∷ g ∷ [])

abbrev pub is_tag : ℕ → ℕ → ℕ → Low ℕ
is_tag descriptor level t = do
  g ← emits (Global descriptor) []
  emits (IsTag level) (t ∷ g ∷ [])

-- the tag of a VAR record parameter
abbrev pub tag_of : Low Named → Low ℕ
tag_of d = do
  h ← d
  second h

abbrev pub as_byte : Low ℕ → Low ℕ
as_byte x = do
  a ← x
  _ ← does Byte (a ∷ [])
  give a

abbrev pub length_of : Low Named → Option ℕ → Low ℕ
length_of d n = do
  h ← d
  _ ← address_in h 0
  length_in n h

-- arguments: each is one word or two

abbrev pub by_word : Low ℕ → Low (List ℕ)
by_word x = do
  a ← x
  give (a ∷ [])

-- the tag that goes with a record: its parameter's, its object's, or that of its own type
abbrev pub tag_in : ℕ → Named → Low ℕ
tag_in descriptor (At a) = emits (Global descriptor) []
tag_in descriptor h = second h

abbrev pub by_record : Low Named → ℕ → Low (List ℕ)
by_record d descriptor = do
  h ← d
  a ← address_in h 0
  t ← tag_in descriptor h
  give (a ∷ t ∷ [])

abbrev pub by_open : Low Named → Option ℕ → Low (List ℕ)
by_open d n = do
  h ← d
  a ← address_in h 0
  l ← length_in n h
  give (a ∷ l ∷ [])

abbrev pub also : Low (List ℕ) → Low (List ℕ) → Low (List ℕ)
also x more = do
  a ← x
  b ← more
  give (a ++ b)

-- a call that is ready to be made, with or without a result
pub record Request : Type 0 where
  pub code : Code
  pub words : List ℕ

abbrev pub call : ℕ → Low (List ℕ) → Low Request
call g args = do
  words ← args
  give (record { code = Call g; words = words })

-- of a procedure variable: it is read before the arguments, and tested after them
abbrev pub call_at : Low ℕ → Low (List ℕ) → Low Request
call_at x args = do
  t ← x
  words ← args
  _ ← does NotNil (t ∷ [])
  give (record { code = CallAt; words = t ∷ words })

abbrev pub with_result : Low Request → Low ℕ
with_result m = do
  r ← m
  emits r.code r.words

abbrev pub without_result : Low Request → Low (Unit {0})
without_result m = do
  r ← m
  does r.code r.words

-- scalar variables: one in a register, or the address of one, with whether it has one byte
pub data Home : Type 0 where
  Register : ℕ → Home
  Memory : (address : ℕ) (is_small : Bool) → Home

abbrev pub current : Home → Low ℕ
current (Register x) = variable x
current (Memory a small) = emits (if small then LoadByte else Load) (a ∷ [])

abbrev pub store : Bool → ℕ → ℕ → Low (Unit {0})
store small a v = does (if small then StoreByte else Store) (a ∷ v ∷ [])

abbrev pub change : Home → ℕ → Low (Unit {0})
change (Register x) v = becomes x v
change (Memory a small) v = store small a v

-- where a scalar variable is, given what its designator names and whether it has one byte
abbrev pub home_in : Bool → Named → Low Home
home_in small (Held x) = give (Register x)
home_in small h = do
  a ← address_in h 0
  give (Memory a small)

abbrev pub home_of : Low Named → Bool → Low Home
home_of d small = do
  h ← d
  home_in small h

-- the value of a scalar variable
abbrev pub load : Low Home → Low ℕ
load d = do
  h ← d
  current h
