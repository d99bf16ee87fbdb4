-- Memory: areas of bytes at addresses. A load or store is of the first area in which all its bytes lie.
use Rattle.std.specs.Prelude.{ℕ, ◌+◌, ◌-◌, ◌%◌, ◌^◌, ◌<◌, ◌≤◌, List, [], ◌∷◌, length, get_or, Bool, false, ◌&&◌, ◌||◌, cond, nat_le, Option, Some, None}
use Rattle.std.specs.Int.{from_le_bytes, to_le_bytes, w64}
use Rattle.a64_memory.specs.Bytes.{splice, slab}

-- bytes at the addresses from base on
pub record Area : Type 0 where
  pub base : ℕ
  pub bytes : List ℕ

-- the n bytes at an address lie in the area
abbrev pub lies : Area → ℕ → ℕ → Bool
lies a address n = nat_le a.base address && nat_le (address + n) (a.base + length a.bytes)

-- they lie in one of the areas
abbrev pub covers : List Area → ℕ → ℕ → Bool
covers [] address n = false
covers (a ∷ m) address n = lies a address n || covers m address n

-- which area is the first in which they lie, where the first of the list is number i
abbrev pub place : List Area → ℕ → ℕ → ℕ → Option ℕ
place [] i address n = None
place (a ∷ m) i address n = cond (lies a address n) (Some i) (place m (i + 1) address n)

-- the n bytes at an address, in the first area in which they lie; nothing where there is none
abbrev pub bytes_at : List Area → ℕ → ℕ → List ℕ
bytes_at [] address n = []
bytes_at (a ∷ m) address n = cond (lies a address n) (slab a.bytes (address - a.base) n) (bytes_at m address n)

-- the area with these bytes at an address
abbrev pub written : Area → ℕ → List ℕ → Area
written a address bs = record a { bytes = splice a.bytes (address - a.base) bs }

-- the memory with these bytes at an address, in the first area in which they lie; the same where there is none
abbrev pub with_bytes : List Area → ℕ → List ℕ → List Area
with_bytes [] address bs = []
with_bytes (a ∷ m) address bs =
    cond (lies a address (length bs)) (written a address bs ∷ m) (a ∷ with_bytes m address bs)

-- the number of eight bytes, lowest first
abbrev pub loaded8 : List Area → ℕ → ℕ
loaded8 m address = from_le_bytes w64 (bytes_at m address 8)

abbrev pub loaded1 : List Area → ℕ → ℕ
loaded1 m address = get_or (bytes_at m address 1) 0 0

-- the memory after a store of eight bytes, and of a value's low byte; the same where they don't all lie in one area
abbrev pub stored8 : List Area → ℕ → ℕ → List Area
stored8 m address value = with_bytes m address (to_le_bytes w64 value)

abbrev pub stored1 : List Area → ℕ → ℕ → List Area
stored1 m address value = with_bytes m address (value % 2 ^ 8 ∷ [])

-- loads and stores that say whether all the bytes lie in one area
abbrev pub load8 : List Area → ℕ → Option ℕ
load8 m address = cond (covers m address 8) (Some (loaded8 m address)) None

abbrev pub load1 : List Area → ℕ → Option ℕ
load1 m address = cond (covers m address 1) (Some (loaded1 m address)) None

abbrev pub store8 : List Area → ℕ → ℕ → Option (List Area)
store8 m address value = cond (covers m address 8) (Some (stored8 m address value)) None

abbrev pub store1 : List Area → ℕ → ℕ → Option (List Area)
store1 m address value = cond (covers m address 1) (Some (stored1 m address value)) None

-- the areas lie one above the other from low on, none meets another, and no address in one reaches 2 ^ 64
abbrev pub IsRising : ℕ → List Area → Type 0
IsRising low [] = low ≤ 2 ^ 64
IsRising low (a ∷ m) = (low ≤ a.base) × IsRising (a.base + length a.bytes) m

-- each byte of the list is one
abbrev pub AreBytes : List ℕ → Type 0
AreBytes bs = (i : ℕ) → get_or bs i 0 < 2 ^ 8

-- and of the memory
abbrev pub IsOfBytes : List Area → Type 0
IsOfBytes [] = Unit {0}
IsOfBytes (a ∷ m) = AreBytes a.bytes × IsOfBytes m

-- each area's base and length
pub record Shape : Type 0 where
  pub base : ℕ
  pub bytes : ℕ

abbrev pub shapes : List Area → List Shape
shapes [] = []
shapes (a ∷ m) = record { base = a.base; bytes = length a.bytes } ∷ shapes m

-- the same of the shapes alone
abbrev pub covered : List Shape → ℕ → ℕ → Bool
covered [] address n = false
covered (s ∷ ss) address n = nat_le s.base address && nat_le (address + n) (s.base + s.bytes) || covered ss address n
