-- Things that stand one behind the other, in 24 bits.
use Rattle.std.specs.Prelude.{ℕ, suc, ◌+◌, List, [], ◌∷◌, length, true, Option, Some, None, slice_index_or}
use Rattle.ob_types.specs.Trees.{round_up}
use Rattle.ob_types.specs.declared.program.Module.{Module}
use Rattle.ob_types.specs.declared.types.Extent.{Extent}
use Rattle.ssa_lowered.specs.Data.{within, rounded}

-- where each begins, and where the last one ends
abbrev pub starts : {A : Type 0} → (A → ℕ) → ℕ → List A → List ℕ
starts size at [] = at ∷ []
starts size at (x ∷ xs) = at ∷ starts size (within (at + size x)) xs

abbrev pub finish : {A : Type 0} → (A → ℕ) → ℕ → List A → ℕ
finish size at [] = at
finish size at (x ∷ xs) = finish size (within (at + size x)) xs

-- a type's bytes by a table of all types' bytes, and those up to where the next variable begins, at a multiple of 8
abbrev pub size_by : List ℕ → ℕ → ℕ
size_by sizes k = slice_index_or sizes k 8

abbrev pub room_by : List ℕ → ℕ → ℕ
room_by sizes k = rounded (size_by sizes k)

-- a type's cells by a table of all types' cells
abbrev pub type_cells_by : List ℕ → ℕ → ℕ
type_cells_by counts k = slice_index_or counts k 1

-- what a type takes by a table of what all types take
abbrev pub extent_by : List Extent → ℕ → Extent
extent_by extents k = slice_index_or extents k (record { bytes = 8; wide = true })

-- the variables of modules, and where the last one's end
abbrev pub module_starts : (ℕ → ℕ) → ℕ → List Module → List (List ℕ)
module_starts size at [] = []
module_starts size at (m ∷ ms) = starts size at m.variables ∷ module_starts size (finish size at m.variables) ms

abbrev pub module_finish : (ℕ → ℕ) → ℕ → List Module → ℕ
module_finish size at [] = at
module_finish size at (m ∷ ms) = module_finish size (finish size at m.variables) ms

-- a record's bytes by a table of all record types' bytes, where there is one
abbrev pub base_by : List ℕ → Option ℕ → ℕ
base_by records None = 0
base_by records (Some b) = slice_index_or records b 0

-- where a part begins behind what ends at a place: at the next multiple of 8 where it has a part of eight bytes, else right there
abbrev pub begins : Extent → ℕ → ℕ
begins x at = within (round_up x.wide at)

-- where fields begin, by their types, each behind those before; and where one more of the first type would
abbrev pub field_starts : (ℕ → Extent) → ℕ → List ℕ → List ℕ
field_starts extent at [] = begins (extent 0) at ∷ []
field_starts extent at (k ∷ ks) = begins (extent k) at ∷ field_starts extent (within (begins (extent k) at + (extent k).bytes)) ks

-- a string with its 0X, a byte a character, up to where the next one begins
abbrev pub string_size : List ℕ → ℕ
string_size xs = rounded (suc (length xs))

-- and in cells
abbrev pub string_cells : List ℕ → ℕ
string_cells xs = suc (length xs)
