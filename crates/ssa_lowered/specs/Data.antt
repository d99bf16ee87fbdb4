-- Where data stands: a layout of types, and with it the addresses of variables, descriptors and strings, in bytes behind the start of the globals.
use Rattle.std.specs.Prelude.{◌≡◌, ℕ, suc, ◌+◌, ◌*◌, ◌/◌, min, List, map, take, length, sum, sum_by, slice_index, Bool, true, false, ◌&&◌}
use Rattle.ob_types.specs.Forms.{scalar_form, form_or_zero}
use Rattle.ob_types.specs.Layout.{record_of, types_of, cells, record_cells, field_place}
use Rattle.ob_types.specs.Trees.{Record, fits_byte, scalar_bytes, round_up, wide, tree_bytes, row_end, data_tree, record_row, fields_before, record_extent, field_offset, bytes}
use Rattle.ob_types.specs.Meaning.{globals_of, texts_of}
use Rattle.ob_types.specs.Table.{Table}
use Rattle.ob_types.specs.declared.types.TypeKind.{TypeKind}
use Rattle.ob_types.specs.declared.program.Program.{Program}

-- a layout: the bytes of a type and of a record type, where a field stands in its record, which scalars take one byte and not eight, and the
-- bytes from one character of a text to the next
pub record Layout : Type 0 where
  pub bytes : ℕ → ℕ
  pub record_bytes : ℕ → ℕ
  pub offset : ℕ → ℕ → ℕ
  pub is_small : TypeKind → Bool
  pub character : ℕ

-- each cell takes eight bytes
abbrev pub in_cells : Table → Layout
in_cells t = record {
  bytes = λ k. 8 * cells t k;
  record_bytes = λ r. 8 * record_cells t r;
  offset = λ r field. 8 * field_place t r field;
  is_small = λ k. false;
  character = 8;
}

-- a CHAR, a BYTE, a BOOLEAN
abbrev pub takes_a_byte : TypeKind → Bool
takes_a_byte kind = fits_byte (form_or_zero (scalar_form kind))

-- each of these takes one byte, every other scalar eight
abbrev pub packed : Table → Layout
packed t = record {
  bytes = λ k. bytes t k;
  record_bytes = λ r. (record_extent t r).bytes;
  offset = λ r field. field_offset t r field;
  is_small = takes_a_byte;
  character = 1;
}

-- what lowering, its code and its proofs ask of a layout: it is by the trees of types, packed or not. A scalar takes a byte or eight, and is loaded
-- and stored by that width; an array takes its element's bytes as often as it is long; a field stands behind the base's bytes and the fields before it,
-- whatever extends its record; a record is rounded up, so that another one may stand right behind it
pub record IsLayout (packed : Bool) (t : Table) (l : Layout) : Type 0 where
  pub bytes : (k : ℕ) → l.bytes k ≡ tree_bytes packed (data_tree t k)
  pub record_bytes : (r : ℕ) → l.record_bytes r ≡ tree_bytes packed (Record (record_row t r))
  pub offset : (r field : ℕ) → l.offset r field ≡ round_up (wide packed (data_tree t (slice_index (types_of (record_of t r).fields) field))) (row_end packed (fields_before t r field))
  pub is_small : (kind : TypeKind) → l.is_small kind ≡ (packed && takes_a_byte kind)
  pub character : l.character ≡ scalar_bytes packed

-- the layout in use, and whether it is packed
abbrev pub is_packed : Bool
is_packed = true

abbrev pub layout : Table → Layout
layout t = packed t

---- Addresses

-- the next multiple of 8
abbrev pub rounded : ℕ → ℕ
rounded n = (n + 7) / 8 * 8

-- the bytes of a variable, so that the next one begins at a multiple of 8
abbrev pub room : Layout → ℕ → ℕ
room l k = rounded (l.bytes k)

abbrev pub room_of_all : Layout → List ℕ → ℕ
room_of_all l ks = sum (map (room l) ks)

-- the variables of the first m modules
abbrev pub modules_room : Program → Layout → ℕ → ℕ
modules_room p l m = sum_by (λ x. room_of_all l x.variables) (take m p.modules)

-- In.Done stands first, then each module's variables
abbrev pub global_at : Program → Layout → ℕ → ℕ → ℕ
global_at p l m v = 8 + (modules_room p l m + room_of_all l (take v (globals_of p m)))

abbrev pub globals_room : Program → Layout → ℕ
globals_room p l = 8 + modules_room p l (length p.modules)

-- behind the globals stand the record types' descriptors, of 16 cells each
abbrev pub descriptor_at : Program → Layout → ℕ → ℕ
descriptor_at p l r = globals_room p l + 128 * r

-- the bytes of a string with its 0X
abbrev pub text_room : Layout → List ℕ → ℕ
text_room l xs = rounded (l.character * suc (length xs))

-- behind the descriptors stand the strings, procedure by procedure; k counts them through
abbrev pub text_at : Program → Layout → ℕ → ℕ
text_at p l k = descriptor_at p l (length p.types.records) + sum_by (text_room l) (take k (texts_of p.procedures))

-- the number of an operation has 24 bits: what lies past them is clamped, and passes the limit of constants
abbrev pub within : ℕ → ℕ
within n = min n 16777215
