-- The code of statements without blocks of their own, over the code of their parts.
use Rattle.std.specs.Prelude.{ℕ, ◌+◌, [], ◌∷◌, Bool, Option, Some, if◌then◌else◌}
use Rattle.ob_types.specs.declared.tree.Binary.{Binary}
use Rattle.block_runs.specs.declared.code.Code.TheVariants.{Global, Set, Max0, Bit, Byte, Fits, True, New, Copy, Svc}
use Rattle.ssa_lowered.specs.Pieces.{Low, ◌>>=◌, skip, emits, does}
use Rattle.ssa_lowered.specs.Values.{const, Named, address_in, length_in, bytes_in, member, two_operands, Home, current, change, store}

abbrev pub Deed : Type 0
Deed = Low (Unit {0})

abbrev pub assign : Low Home → Low ℕ → Deed
assign d x = do
  h ← d
  v ← x
  change h v

-- INC and DEC
abbrev pub change_number : Binary → Low Home → Low ℕ → Bool → Deed
change_number op d x is_byte = do
  h ← d
  n ← x
  v ← current h
  w ← two_operands op v n
  _ ← if is_byte then does Byte (w ∷ []) else skip
  change h w

-- INCL and EXCL
abbrev pub change_set : Binary → Low Home → Low ℕ → Deed
change_set op d x = do
  h ← d
  a ← member x
  e ← emits Bit (a ∷ [])
  v ← current h
  w ← two_operands op v e
  change h w

abbrev pub new : Low Home → ℕ → ℕ → ℕ → Deed
new d cells bytes descriptor = do
  h ← d
  n ← const (cells + 1)
  b ← const (bytes + 8)
  g ← emits (Global descriptor) []
  p ← emits New (n ∷ b ∷ g ∷ [])
  change h p

-- where one length isn't known
abbrev pub fits : Option ℕ → Named → Option ℕ → Named → Deed
fits (Some n) to (Some m) from = skip
fits n to m from = do
  a ← length_in n to
  b ← length_in m from
  does Fits (b ∷ a ∷ [])

abbrev pub copy_array : Low Named → Option ℕ → Low Named → Option ℕ → ℕ → Deed
copy_array d n e m size = do
  to ← d
  a ← address_in to 0
  from ← e
  b ← address_in from 0
  _ ← fits n to m from
  bytes ← bytes_in size m from
  does Copy (a ∷ b ∷ bytes ∷ [])

abbrev pub copy_record : Low Named → Low Named → ℕ → Deed
copy_record d e size = do
  to ← d
  a ← address_in to 0
  from ← e
  b ← address_in from 0
  bytes ← const size
  does Copy (a ∷ b ∷ bytes ∷ [])

abbrev pub assert : Low ℕ → Deed
assert x = do
  a ← x
  does True (a ∷ [])

abbrev pub out_char : Low ℕ → Deed
out_char x = do
  a ← x
  does (Svc 1) (a ∷ [])

abbrev pub out_int : Low ℕ → Low ℕ → Deed
out_int x n = do
  a ← x
  b ← n
  does (Svc 2) (a ∷ b ∷ [])

abbrev pub out_string : ℕ → Low Named → Option ℕ → Deed
out_string character d n = do
  h ← d
  a ← address_in h 0
  l ← length_in n h
  s ← const character
  does (Svc 3) (a ∷ l ∷ s ∷ [])

-- In.Done stands at 0
abbrev pub in_char : Low Named → Bool → Bool → Deed
in_char d small_flag small = do
  h ← d
  a ← address_in h 0
  c ← emits (Svc 4) []
  z ← const 0
  ok ← emits (Set 10) (c ∷ z ∷ [])
  g ← emits (Global 0) []
  _ ← store small_flag g ok
  v ← emits Max0 (c ∷ [])
  store small a v
