-- What a table of types is in a legal program (Oberon-07 report, section 6): what its entries say is in it, arrays and records are of the sizes
-- that are allowed, and parameters are handed over as their types are.
use Rattle.std.specs.Prelude.{ℕ, length, Bool, true, false, ◌&&◌, ◌||◌, nat_lt, nat_le, Option, Some, None, is_some}
use Rattle.ob_types.specs.Table.{Table}
use Rattle.ob_types.specs.Layout.{kind_of, record_of, types_of, cells}
use Rattle.ob_types.specs.Forms.{scalar_form, all, all_below, if_base}
use Rattle.ob_types.specs.declared.types.TypeKind.{TypeKind}
use Rattle.ob_types.specs.declared.types.TypeKind.TheVariants.{Array, Nothing}
use Rattle.ob_types.specs.declared.types.TypeKind.TheVariants.{Record as RecordOf, Pointer as PointerTo, Procedure as ProcedureOf}
use Rattle.ob_types.specs.declared.types.Mode.{Mode}
use Rattle.ob_types.specs.declared.types.Mode.TheVariants.{Value, Place, Record, Open}
use Rattle.ob_types.specs.declared.types.Formal.{Formal}
use Rattle.ob_types.specs.declared.types.Signature.{Signature}

-- as many elements may an array have, and as many cells a type
abbrev pub most_cells : ℕ
most_cells = 1048576

-- the length of an array, where it is known
abbrev pub is_length : Option ℕ → Bool
is_length None = true
is_length (Some n) = nat_lt 0 n && nat_le n most_cells

-- sorts of types

-- one cell
abbrev pub is_scalar_kind : TypeKind → Bool
is_scalar_kind kind = is_some (scalar_form kind)

-- an array of known length
abbrev pub is_array_kind : TypeKind → Bool
is_array_kind (Array (Some n) e) = true
is_array_kind _ = false

abbrev pub is_open_kind : TypeKind → Bool
is_open_kind (Array None e) = true
is_open_kind _ = false

abbrev pub is_record_kind : TypeKind → Bool
is_record_kind (RecordOf r) = true
is_record_kind _ = false

abbrev pub is_no_kind : TypeKind → Bool
is_no_kind Nothing = true
is_no_kind _ = false

-- what variables, fields and elements may be of
abbrev pub is_variable_kind : TypeKind → Bool
is_variable_kind kind = is_scalar_kind kind || (is_array_kind kind || is_record_kind kind)

-- scalar value parameters are variables; VAR parameters of scalars and arrays, and value parameters of arrays and records, are addresses; VAR
-- records have a tag beside, open arrays a length
abbrev pub mode_fits : Mode → (is_var : Bool) → TypeKind → Bool
mode_fits Value false kind = is_scalar_kind kind
mode_fits Place true kind = is_scalar_kind kind || is_array_kind kind
mode_fits Place false kind = is_array_kind kind || is_record_kind kind
mode_fits Record true kind = is_record_kind kind
mode_fits Open is_var kind = is_open_kind kind
mode_fits _ _ kind = false

module _ (t : Table) where
  -- a record type of the table
  abbrev pub is_record_type : ℕ → Bool
  is_record_type r = nat_lt r (length t.records)

  -- a type that a variable may have: no number beyond the table is one
  abbrev pub is_variable_type : ℕ → Bool
  is_variable_type k = is_variable_kind (kind_of t k)

  -- a result, or that there is none
  abbrev pub is_result_type : ℕ → Bool
  is_result_type k = nat_lt k (length t.kinds) && (is_scalar_kind (kind_of t k) || is_no_kind (kind_of t k))

  -- what a type is made of is in the table, and an array's length is allowed
  abbrev pub kind_legal : TypeKind → Bool
  kind_legal (Array n e) = is_length n && is_variable_type e
  kind_legal (RecordOf r) = is_record_type r
  kind_legal (PointerTo r) = is_record_type r
  kind_legal (ProcedureOf g) = nat_lt g (length t.signatures)
  kind_legal _ = true

  abbrev pub type_legal : ℕ → Bool
  type_legal k = kind_legal (kind_of t k) && nat_le (cells t k) most_cells

  abbrev pub record_legal : ℕ → Bool
  record_legal r = nat_le (record_of t r).cells most_cells && (if_base (record_of t r).base is_record_type && all is_variable_type (types_of (record_of t r).fields))

  abbrev pub formal_legal : Formal → Bool
  formal_legal x = mode_fits x.mode x.variable (kind_of t x.type_number)

  abbrev pub signature_legal : Signature → Bool
  signature_legal g = all formal_legal g.formals && is_result_type g.result

  -- the whole table
  abbrev pub types_legal : Bool
  types_legal = all_below (length t.kinds) type_legal && (all_below (length t.records) record_legal && all signature_legal t.signatures)
