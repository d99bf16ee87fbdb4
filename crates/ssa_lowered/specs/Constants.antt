-- The bytes of a program's constants: the record types' descriptors, then the strings.
use Rattle.std.specs.Prelude.{ℕ, zero, suc, ◌+◌, ◌-◌, ◌*◌, ◌==◌, List, [], ◌∷◌, ◌++◌, length, flat_map, replicate, Option, Some, None, if◌then◌else◌}
use Rattle.std.specs.Int.{to_le_bytes, w64}
use Rattle.ob_types.specs.Layout.{record_of}
use Rattle.ob_types.specs.Meaning.{texts_of}
use Rattle.ob_types.specs.Table.{Table}
use Rattle.ob_types.specs.declared.program.Program.{Program}
use Rattle.ssa_lowered.specs.Data.{Layout, descriptor_at, text_room}
use Rattle.ssa_lowered.specs.Pieces.{numbers}

abbrev pub base_by : Option ℕ → (ℕ → Option ℕ) → Option ℕ
base_by None at = None
base_by (Some b) at = at b

-- the record type of level j among r and those that it extends, at most so many
abbrev pub ancestor_within : Table → ℕ → ℕ → ℕ → Option ℕ
ancestor_within t zero j r = None
ancestor_within t (suc depth) j r = if (record_of t r).level == j then Some r else base_by (record_of t r).base (ancestor_within t depth j)

abbrev pub ancestor : Table → ℕ → ℕ → Option ℕ
ancestor t j r = ancestor_within t (suc (length t.records)) j r

-- the address of a descriptor, where the globals start at an address; 0 where there is none
abbrev pub address_of : Program → Layout → ℕ → Option ℕ → ℕ
address_of p l globals None = 0
address_of p l globals (Some r) = globals + descriptor_at p l r

-- cell j of a descriptor is the address of the descriptor of the type's base at level j: of the type itself at its own level, and 0 above
abbrev pub descriptor_bytes : Program → Layout → ℕ → ℕ → List ℕ
descriptor_bytes p l globals r = flat_map (λ j. to_le_bytes w64 (address_of p l globals (ancestor p.types j r))) (numbers 0 16)

-- a byte of a text, and zeros up to the next
abbrev pub character_bytes : Layout → ℕ → List ℕ
character_bytes l c = c ∷ replicate (l.character - 1) 0

-- a string with its 0X, and zeros up to a multiple of eight bytes
abbrev pub text_bytes : Layout → List ℕ → List ℕ
text_bytes l xs = flat_map (character_bytes l) (xs ++ 0 ∷ []) ++ replicate (text_room l xs - l.character * suc (length xs)) 0

-- descriptors in the order of the record types, and strings in the order in which they are used, procedure by procedure
abbrev pub constants : Program → Layout → (globals : ℕ) → List ℕ
constants p l globals = flat_map (descriptor_bytes p l globals) (numbers 0 (length p.types.records)) ++ flat_map (text_bytes l) (texts_of p.procedures)
