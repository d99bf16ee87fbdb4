-- What a program works on, and the small acts of which its meaning is made.
use Rattle.std.specs.Prelude.{ℕ, zero, ◌+◌, List, [], ◌++◌, Bool, true, false, Option, Some, None, slice_get, slice_set, slice_index_or, if◌then◌else◌}
use Rattle.run_laws.specs.Turns.{State, Ending, Gives, ◌>>=◌, give, fail, look, change, each_so}

-- what a cell holds: 64 bits (of an INTEGER, BOOLEAN, CHAR, BYTE or SET; 0 is NIL too), the number of an object that NEW made, or a procedure's number
pub data Cell : Type 0 where
  Bits : (n : ℕ) → Cell
  Pointer : (o : ℕ) → Cell
  Code : (f : ℕ) → Cell

-- where an object stands: In.Done (0) and module m (m + 1); the active calls, the first is 0; what NEW made, the first is 0; the strings
pub data Area : Type 0 where
  Globals : Area
  Frames : Area
  Heap : Area
  Strings : Area

-- a cell of an object
pub record Address : Type 0 where
  pub area : Area
  pub object : ℕ
  pub cell : ℕ

-- all objects, and the input that is left
pub record Store : Type 0 where
  pub globals : List (List Cell)
  pub frames : List (List Cell)
  pub heap : List (List Cell)
  -- the record types of the objects of the heap
  pub tags : List ℕ
  pub strings : List (List Cell)
  pub input : List ℕ

-- a trap's kind and procedure, or that the program makes no sense, as no checked program does
pub data Trap : Type 0 where
  Kind : (kind procedure : ℕ) → Trap
  Senseless : Trap

-- a part of a program's meaning
abbrev pub Act : Type 0 → Type 0
Act A = State Store → Ending Store Trap A

-- what no program that the checker made does
abbrev pub senseless : {A : Type 0} → Act A
senseless = fail Senseless

-- what is there, or no sense
abbrev pub given : {A : Type 0} → Option A → Act A
given None = senseless
given (Some a) = give a

-- what a designator names, or an argument: an address; one with its array's length; one with its record's dynamic type; a value
pub data Handed : Type 0 where
  At : Address → Handed
  Sized : Address → (length : ℕ) → Handed
  Tagged : Address → (tag : ℕ) → Handed
  Value : Cell → Handed

-- an array's or a string's address and length
pub record Span : Type 0 where
  pub at : Address
  pub length : ℕ

-- the procedure that runs: its number, the number of its object, its arguments
pub record Here : Type 0 where
  pub procedure : ℕ
  pub frame : ℕ
  pub arguments : List Handed

-- the objects of an area
abbrev pub objects : Area → Store → List (List Cell)
objects Globals s = s.globals
objects Frames s = s.frames
objects Heap s = s.heap
objects Strings s = s.strings

-- other objects there; strings stay
abbrev pub with_objects : Area → List (List Cell) → Store → Store
with_objects Globals all s = record s { globals = all }
with_objects Frames all s = record s { frames = all }
with_objects Heap all s = record s { heap = all }
with_objects Strings all s = s

-- a cell of an object, where both are there
abbrev pub cell_of : List (List Cell) → ℕ → ℕ → Option Cell
cell_of all object cell = slice_get (slice_index_or all object []) cell

-- another value in a cell
abbrev pub cell_put : List (List Cell) → ℕ → ℕ → Cell → List (List Cell)
cell_put all object cell c = slice_set all object (slice_set (slice_index_or all object []) cell c)

-- strings are never written
abbrev pub can_write : Area → Bool
can_write Strings = false
can_write _ = true

-- so many cells further
abbrev pub past : Address → ℕ → Address
past a n = record a { cell = a.cell + n }

-- the value of a cell
abbrev pub fetch : Address → Act Cell
fetch a = do
  all ← look (objects a.area)
  given (cell_of all a.object a.cell)

-- a cell gets a value
abbrev pub put : Address → Cell → Act (Unit {0})
put a c = do
  _ ← fetch a
  all ← look (objects a.area)
  if can_write a.area then change (with_objects a.area (cell_put all a.object a.cell c)) else senseless

-- the address, the address and length, the dynamic type in what was handed over
abbrev pub address_in : Handed → Option Address
address_in (At a) = Some a
address_in (Sized a n) = Some a
address_in (Tagged a t) = Some a
address_in (Value c) = None

abbrev pub span_in : Handed → Option Span
span_in (Sized a n) = Some (record { at = a; length = n })
span_in _ = None

abbrev pub tag_in : Handed → Option ℕ
tag_in (Tagged a t) = Some t
tag_in _ = None

-- one more text is printed
abbrev pub write : List ℕ → Act (Unit {0})
write xs s = Gives tt (record s { out = s.out ++ xs })

-- procedure f traps with this kind
abbrev pub trap : {A : Type 0} → ℕ → ℕ → Act A
trap f kind = fail (Kind kind f)

-- procedure f traps with this kind unless a test holds
abbrev pub unless : ℕ → ℕ → Bool → Act (Unit {0})
unless f kind ok = if ok then give tt else trap f kind

-- so many turns, one after the other
abbrev pub spend_all : ℕ → Act (Unit {0})
spend_all n = each_so n 0 (λ _. give true)

-- the bits of a value that has bits
abbrev pub bits_in : Cell → Act ℕ
bits_in (Bits n) = give n
bits_in _ = senseless

abbrev pub bits : Act Cell → Act ℕ
bits x = do
  c ← x
  bits_in c

-- the object of a pointer: NIL traps
abbrev pub object_in : ℕ → Cell → Act ℕ
object_in f (Pointer o) = give o
object_in f (Bits zero) = trap f 2
object_in f _ = senseless

-- the dynamic type of an object that NEW made
abbrev pub tag_of : ℕ → Act ℕ
tag_of o = do
  tags ← look (λ s. s.tags)
  given (slice_get tags o)

-- the dynamic type of a pointer's object: NIL has none
abbrev pub dynamic_in : Cell → Act (Option ℕ)
dynamic_in (Bits zero) = give None
dynamic_in (Pointer o) = do
  t ← tag_of o
  give (Some t)
dynamic_in _ = senseless

-- the procedure of a procedure value: NIL traps
abbrev pub code_in : ℕ → Cell → Act ℕ
code_in f (Code g) = give g
code_in f (Bits zero) = trap f 2
code_in f _ = senseless

-- the address of what a designator names
abbrev pub place : Act Handed → Act Address
place d = do
  h ← d
  given (address_in h)

-- the address and length of an array, whose type has the length where there is one
abbrev pub span : Act Handed → Option ℕ → Act Span
span d (Some n) = do
  a ← place d
  give (record { at = a; length = n })
span d None = do
  h ← d
  given (span_in h)
