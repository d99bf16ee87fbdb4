-- What the constructs of a statement do, over what their parts do (Oberon-07 report, section 9). f is the number of the procedure that runs.
use Rattle.std.specs.Prelude.{ℕ, suc, ◌+◌, ◌*◌, List, [], ◌∷◌, ◌++◌, Bool, true, Option, Some, None, if◌then◌else◌, nat_lt, nat_le, int_lt, int_le, ℤ, pos, length, replicate, sum_by}
use Rattle.run_laws.specs.Turns.{◌>>=◌, give, look, change, spend, while_so, each_so}
use Rattle.wrapping_numbers.specs.Numbers.{signed, unsigned, add64}
use Rattle.out_text.specs.Text.{int_text}
use Rattle.ob_types.specs.Store.{Cell, Bits, Pointer, Globals, Address, Act, given, senseless, Handed, past, fetch, put, write, unless, bits, place, span}
use Rattle.ob_types.specs.Operators.{holds, inside, elements, binary_of}
use Rattle.ob_types.specs.Expressions.{text_in}
use Rattle.ob_types.specs.declared.tree.Binary.{Binary}

-- what a statement does
abbrev pub Deed : Type 0
Deed = Act (Unit {0})

-- nothing is done
abbrev pub skip : Deed
skip = give tt

-- assignments

-- of a scalar
abbrev pub assign : Act Handed → Act Cell → Deed
assign d x = do
  a ← place d
  c ← x
  put a c

-- so many cells from one address to another, a turn for each
abbrev pub copy_cells : ℕ → Address → Address → Deed
copy_cells n to from = each_so n 0 (λ i. do
  c ← fetch (past from i)
  _ ← put (past to i) c
  give true)

-- the copy of an array, a record or a string: a turn at its beginning, even where there is no cell
abbrev pub copy : ℕ → Address → Address → Deed
copy n to from = do
  _ ← spend
  copy_cells n to from

-- the source's elements are copied, and the rest of the destination stays
abbrev pub copy_array : ℕ → Act Handed → Option ℕ → Act Handed → Option ℕ → ℕ → Deed
copy_array f d n e m cells = do
  to ← span d n
  from ← span e m
  _ ← unless f 12 (nat_le from.length to.length)
  copy (from.length * cells) to.at from.at

-- the cells of the destination's type are copied
abbrev pub copy_record : Act Handed → Act Handed → ℕ → Deed
copy_record d e cells = do
  to ← place d
  from ← place e
  copy cells to from

-- INC and DEC: the variable is read behind the number
abbrev pub change_number : ℕ → Binary → Act Handed → Act Cell → Bool → Deed
change_number f op d x is_byte = do
  a ← place d
  n ← bits x
  v ← bits (fetch a)
  w ← given (binary_of op v n)
  _ ← unless f 11 (if is_byte then inside w 256 else true)
  put a (Bits w)

-- INCL and EXCL: the element is tested before the variable is read
abbrev pub change_set : ℕ → Binary → Act Handed → Act Cell → Deed
change_set f op d x = do
  a ← place d
  n ← bits x
  _ ← unless f 7 (inside n 64)
  v ← bits (fetch a)
  w ← given (binary_of op v (elements n n))
  put a (Bits w)

-- the cells that NEW has taken: each object's, and one more
abbrev pub heap_cells : List (List Cell) → ℕ
heap_cells heap = sum_by (λ cs. suc (length cs)) heap

-- one more object of the heap
abbrev pub made : List Cell → ℕ → Deed
made cells tag = change (λ s. record s { heap = s.heap ++ cells ∷ []; tags = s.tags ++ tag ∷ [] })

-- NEW
abbrev pub new : ℕ → Act Handed → ℕ → ℕ → Deed
new f d tag cells = do
  a ← place d
  heap ← look (λ s. s.heap)
  _ ← unless f 10 (nat_le (heap_cells heap + suc cells) 8388608)
  _ ← made (replicate cells (Bits 0)) tag
  put a (Pointer (length heap))

-- ASSERT
abbrev pub assert : ℕ → Act Cell → Deed
assert f x = do
  n ← bits x
  unless f 5 (holds n)

-- Out and In

-- Out.Char, Out.Int, Out.String
abbrev pub out_char : Act Cell → Deed
out_char x = do
  n ← bits x
  if nat_lt n 256 then write (n ∷ []) else senseless

abbrev pub out_int : Act Cell → Act Cell → Deed
out_int x n = do
  v ← bits x
  width ← bits n
  write (int_text v width)

abbrev pub out_string : Act Handed → Option ℕ → Deed
out_string d n = do
  a ← span d n
  xs ← text_in a
  write xs

-- In.Done
abbrev pub done : Address
done = record { area = Globals; object = 0; cell = 0 }

-- the next byte of the input, which loses it
abbrev pub next_byte_of : List ℕ → Act (Option ℕ)
next_byte_of [] = give None
next_byte_of (x ∷ xs) = change (λ s. record s { input = xs }) >>= λ _. give (Some x)

abbrev pub next_byte : Act (Option ℕ)
next_byte s = next_byte_of s.store.input s

-- Done first, then the character
abbrev pub receive : Address → Option ℕ → Deed
receive a None = do
  _ ← put done (Bits 0)
  put a (Bits 0)
receive a (Some x) = do
  _ ← put done (Bits 1)
  put a (Bits x)

-- In.Char
abbrev pub in_char : Act Handed → Deed
in_char d = do
  a ← place d
  x ← next_byte
  receive a x

-- control

-- branches, or else something else
abbrev pub otherwise : Act Bool → Deed → Deed
otherwise branches deed = do
  done ← branches
  if done then skip else deed

-- a condition
abbrev pub test : Act Cell → Act Bool
test x = do
  n ← bits x
  give (holds n)

-- a part of a statement where its condition holds, else those after it; whether one was done
abbrev pub try : Act Bool → Deed → Act Bool → Act Bool
try condition body rest = do
  ok ← condition
  if ok then (body >>= λ _. give true) else rest

-- the test of FOR
abbrev pub at_limit : ℤ → ℕ → ℕ → Bool
at_limit step v limit = if int_lt (pos 0) step then int_le (signed v) (signed limit) else int_le (signed limit) (signed v)

-- FOR: the variable's address is taken once; the limit is evaluated behind the first assignment
abbrev pub for : ℕ → Act Handed → Act Cell → Act Cell → ℤ → Deed → Deed
for fuel d x y step body = do
  a ← place d
  c ← x
  _ ← put a c
  limit ← bits y
  while_so fuel (do
    v ← bits (fetch a)
    give (at_limit step v limit)) (do
      _ ← body
      v ← bits (fetch a)
      put a (Bits (add64 v (unsigned step))))

-- CASE on INTEGER or CHAR: some part has the value
abbrev pub case : ℕ → Act Cell → (ℕ → Act Bool) → Deed
case f x parts = do
  v ← bits x
  ok ← parts v
  unless f 6 ok

-- CASE on types: where no part fits nothing is done
abbrev pub type_case : Act (Option ℕ) → (Option ℕ → Act Bool) → Deed
type_case x parts = do
  t ← x
  _ ← parts t
  skip
