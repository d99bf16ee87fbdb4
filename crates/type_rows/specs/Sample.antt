-- A table with types of every kind, each with one number.
use Rattle.std.specs.Prelude.{ℕ, List, [], ◌∷◌, ◌++◌, map, Bool, true, false, Some, None}
use Rattle.ob_types.specs.Table.{Table}
use Rattle.ob_types.specs.declared.types.TypeKind.{TypeKind}
use Rattle.ob_types.specs.declared.types.TypeKind.TheVariants.{Int, Char, Byte, Nil, Array, Nothing}
use Rattle.ob_types.specs.declared.types.TypeKind.TheVariants.{Bool as BoolKind, Set as SetKind, Text as TextKind, Record as RecordKind, Pointer as PointerKind, Procedure as ProcedureKind}
use Rattle.ob_types.specs.declared.types.Mode.TheVariants.{Place, Value as OfValue}
use Rattle.ob_types.specs.declared.types.Field.{Field}
use Rattle.ob_types.specs.declared.types.Formal.{Formal}

abbrev pub field : ℕ → Field
field t = record { name = []; exported = false; type_number = t }

-- one parameter, an INTEGER, VAR or not
abbrev pub formal : Bool → List Formal
formal true = record { mode = Place; variable = true; type_number = 0 } ∷ []
formal false = record { mode = OfValue; variable = false; type_number = 0 } ∷ []

-- 0 to 6: INTEGER, BOOLEAN, CHAR, BYTE, SET, NIL's type, none
abbrev pub basic : List TypeKind
basic = Int ∷ BoolKind ∷ Char ∷ Byte ∷ SetKind ∷ Nil ∷ Nothing ∷ []

-- 7: ARRAY 3 OF INTEGER. 8: ARRAY OF INTEGER. 9: ARRAY 4 OF CHAR. 10: ARRAY OF CHAR. 11: ARRAY 2, 3 OF INTEGER. 12: a record of an INTEGER and
-- an ARRAY 3 OF INTEGER. 13: its extension by a CHAR. 14: an extension of that, by nothing. 15 to 17: pointers to these. 18: another pointer to 12.
-- 19: PROCEDURE (x: INTEGER). 20: PROCEDURE (VAR x: INTEGER). 21 to 23: strings of 1, 3 and 4 characters.
-- 24: ARRAY 9 OF CHAR. 25: a record of a CHAR, an INTEGER and a CHAR. 26: one of a BOOLEAN and a CHAR. 27: ARRAY 3 OF that. 28: an extension of
-- 25 by a CHAR. 29: a record of three CHARs. 30: ARRAY 5 OF that. 31: ARRAY 2 OF that
abbrev pub structured : List TypeKind
structured = Array (Some 3) 0 ∷ Array None 0 ∷ Array (Some 4) 2 ∷ Array None 2 ∷ Array (Some 2) 7 ∷ RecordKind 0 ∷ RecordKind 1 ∷ RecordKind 2
    ∷ PointerKind 0 ∷ PointerKind 1 ∷ PointerKind 2 ∷ PointerKind 0 ∷ ProcedureKind 0 ∷ ProcedureKind 1 ∷ TextKind 1 ∷ TextKind 3 ∷ TextKind 4
    ∷ Array (Some 9) 2 ∷ RecordKind 3 ∷ RecordKind 4 ∷ Array (Some 3) 26 ∷ RecordKind 5 ∷ RecordKind 6 ∷ Array (Some 5) 29 ∷ Array (Some 2) 30 ∷ []

abbrev pub sample : Table
sample = record {
  kinds = basic ++ structured;
  records = record { «module» = 0; base = None; level = 0; fields = map field (0 ∷ 7 ∷ []); cells = 4; extent = record { bytes = 32; wide = true } }
      ∷ record { «module» = 0; base = Some 0; level = 1; fields = map field (2 ∷ []); cells = 5; extent = record { bytes = 40; wide = true } }
      ∷ record { «module» = 0; base = Some 1; level = 2; fields = map field []; cells = 5; extent = record { bytes = 40; wide = true } }
      ∷ record { «module» = 0; base = None; level = 0; fields = map field (2 ∷ 0 ∷ 2 ∷ []); cells = 3; extent = record { bytes = 24; wide = true } }
      ∷ record { «module» = 0; base = None; level = 0; fields = map field (1 ∷ 2 ∷ []); cells = 2; extent = record { bytes = 2; wide = false } }
      ∷ record { «module» = 0; base = Some 3; level = 1; fields = map field (2 ∷ []); cells = 4; extent = record { bytes = 32; wide = true } }
      ∷ record { «module» = 0; base = None; level = 0; fields = map field (2 ∷ 2 ∷ 2 ∷ []); cells = 3; extent = record { bytes = 3; wide = false } } ∷ [];
  signatures = record { formals = formal false; result = 6 } ∷ record { formals = formal true; result = 6 } ∷ [];
}
