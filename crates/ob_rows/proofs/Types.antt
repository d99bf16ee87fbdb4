-- A table of types, and what the definitions of cells, same, extends and assignable say of it.
use Rattle.std.specs.Prelude.{◌≡◌, ℕ, List, [], ◌∷◌, map, Bool, true, false, Option, Some, None}
use Rattle.std.proofs.Common.{refl, arith, lit<, eqb-true, zero, suc, ◌<◌, ◌^◌, ◌||◌}
use Rattle.std.specs.Prelude.{◌==◌}
use Rattle.ob_types.specs.Layout.{kind_of, record_of, record_cells}
use Rattle.ob_types.specs.Counted.{IsCounted, HasOneNumberEach}
use Rattle.ob_types.specs.Table.{Table}
use Rattle.ob_types.specs.Layout.{cells}
use Rattle.ob_types.specs.Assignable.{same, extends, assignable}
use Rattle.ob_types.specs.declared.types.TypeKind.TheVariants.{Int, Char, Byte, Nil, Array, Nothing}
use Rattle.ob_types.specs.declared.types.TypeKind.TheVariants.{Bool as BoolKind, Set as SetKind, Text as TextKind, Record as RecordKind, Pointer as PointerKind, Procedure as ProcedureKind}
use Rattle.ob_types.specs.declared.types.Mode.TheVariants.{Place, Value as OfValue}
use Rattle.ob_types.specs.declared.types.Field.{Field}

abbrev field : ℕ → Field
field t = record { name = []; exported = false; type_number = t }

-- 0 to 6: INTEGER, BOOLEAN, CHAR, BYTE, SET, NIL, nothing. 7, 8: ARRAY 3 OF INTEGER. 9: ARRAY OF INTEGER. 10: ARRAY 4 OF CHAR. 11: ARRAY OF CHAR.
-- 12: a record of an INTEGER and an ARRAY 3 OF INTEGER. 13: its extension by a CHAR. 14, 15: pointers to these. 16, 17: PROCEDURE (x: INTEGER).
-- 18: PROCEDURE (VAR x: INTEGER). 19 to 21: strings of 1, 3 and 4 characters. 22: ARRAY 2 OF ARRAY 3 OF INTEGER. 23: another pointer to 12.
-- 24: ARRAY 9 OF a record without fields, 25.
abbrev table : Table
table = record {
  kinds = Int ∷ BoolKind ∷ Char ∷ Byte ∷ SetKind ∷ Nil ∷ Nothing ∷ Array (Some 3) 0 ∷ Array (Some 3) 0 ∷ Array None 0 ∷ Array (Some 4) 2 ∷ Array None 2
      ∷ RecordKind 0 ∷ RecordKind 1 ∷ PointerKind 0 ∷ PointerKind 1 ∷ ProcedureKind 0 ∷ ProcedureKind 1 ∷ ProcedureKind 2 ∷ TextKind 1 ∷ TextKind 3 ∷ TextKind 4
      ∷ Array (Some 2) 7 ∷ PointerKind 0 ∷ Array (Some 9) 25 ∷ RecordKind 2 ∷ [];
  records = record { «module» = 0; base = None; level = 0; fields = field 0 ∷ field 7 ∷ []; cells = 4; extent = record { bytes = 32; wide = true } }
      ∷ record { «module» = 0; base = Some 0; level = 1; fields = field 2 ∷ []; cells = 5; extent = record { bytes = 40; wide = true } }
      ∷ record { «module» = 0; base = None; level = 0; fields = []; cells = 0; extent = record { bytes = 0; wide = false } } ∷ [];
  signatures = record { formals = record { mode = OfValue; variable = false; type_number = 0 } ∷ []; result = 6 }
      ∷ record { formals = record { mode = OfValue; variable = false; type_number = 0 } ∷ []; result = 6 }
      ∷ record { formals = record { mode = Place; variable = true; type_number = 0 } ∷ []; result = 6 } ∷ [];
}

abbrev of_pairs : (ℕ → ℕ → Bool) → List (ℕ × ℕ) → List Bool
of_pairs test pairs = map (λ p. test p.0 p.1) pairs

-- each scalar is one cell; an array or a record has those of its parts
pub cells_are : map (cells table) (0 ∷ 4 ∷ 7 ∷ 10 ∷ 22 ∷ 12 ∷ 13 ∷ 14 ∷ 16 ∷ 24 ∷ []) ≡ 1 ∷ 1 ∷ 3 ∷ 4 ∷ 6 ∷ 4 ∷ 5 ∷ 1 ∷ 1 ∷ 0 ∷ []
cells_are = refl

-- arrays by length and element, procedure types by parameters and result, all else by its declaration
pub same_are : of_pairs (same table) ((7, 8) ∷ (16, 17) ∷ (12, 12) ∷ (3, 3) ∷ []) ≡ true ∷ true ∷ true ∷ true ∷ []
same_are = refl

pub not_same_are : of_pairs (same table) ((7, 9) ∷ (7, 10) ∷ (14, 23) ∷ (16, 18) ∷ (12, 13) ∷ (0, 3) ∷ []) ≡ false ∷ false ∷ false ∷ false ∷ false ∷ false ∷ []
not_same_are = refl

-- a record or pointer type extends itself and what its base extends
pub extends_are : of_pairs (extends table) ((13, 12) ∷ (12, 12) ∷ (15, 14) ∷ (14, 23) ∷ []) ≡ true ∷ true ∷ true ∷ true ∷ []
extends_are = refl

pub not_extends_are : of_pairs (extends table) ((12, 13) ∷ (14, 15) ∷ (13, 14) ∷ (0, 0) ∷ (7, 7) ∷ []) ≡ false ∷ false ∷ false ∷ false ∷ false ∷ []
not_extends_are = refl

-- to the first, from the second
pub assignable_are : of_pairs (assignable table) ((0, 3) ∷ (3, 0) ∷ (14, 5) ∷ (16, 5) ∷ (10, 20) ∷ (11, 21) ∷ (2, 19) ∷ (12, 13) ∷ (14, 15) ∷ (9, 7) ∷ (7, 9) ∷ (7, 8) ∷ (16, 17) ∷ (14, 23) ∷ [])
    ≡ true ∷ true ∷ true ∷ true ∷ true ∷ true ∷ true ∷ true ∷ true ∷ true ∷ true ∷ true ∷ true ∷ true ∷ []
assignable_are = refl

pub not_assignable_are : of_pairs (assignable table) ((0, 5) ∷ (10, 21) ∷ (2, 20) ∷ (13, 12) ∷ (15, 14) ∷ (7, 22) ∷ (16, 18) ∷ (1, 0) ∷ (2, 3) ∷ (9, 11) ∷ (9, 20) ∷ [])
    ≡ false ∷ false ∷ false ∷ false ∷ false ∷ false ∷ false ∷ false ∷ false ∷ false ∷ false ∷ []
not_assignable_are = refl

-- what the calls ask of a table can be met: INTEGER, ARRAY 3 OF INTEGER, and a record of it

abbrev counted : Table
counted = record { kinds = Int ∷ Array (Some 3) 0 ∷ RecordKind 0 ∷ []; records = record { «module» = 0; base = None; level = 0; fields = field 1 ∷ []; cells = 3; extent = record { bytes = 24; wide = true } } ∷ []; signatures = [] }

pub is_counted : IsCounted counted
is_counted = record {
  fine = refl;
  element = element;
  record_there = there;
  records = records;
  few = few;
}
  where
    element : (k : ℕ) (n : Option ℕ) (e : ℕ) → kind_of counted k ≡ Array n e → e < k
    element zero n e is = absurd (let z : Int ≡ Array n e = is in cc)
    element (suc zero) n e is = let z : Array (Some 3) 0 ≡ Array n e = is in let y : 0 ≡ e = cc in omega (arith, y)
    element (suc (suc zero)) n e is = absurd (let z : RecordKind 0 ≡ Array n e = is in cc)
    element (suc (suc (suc k))) n e is = absurd (let z : Nothing ≡ Array n e = is in cc)

    there : (k r : ℕ) → kind_of counted k ≡ RecordKind r → r < 1
    there zero r is = absurd (let z : Int ≡ RecordKind r = is in cc)
    there (suc zero) r is = absurd (let z : Array (Some 3) 0 ≡ RecordKind r = is in cc)
    there (suc (suc zero)) r is = let z : RecordKind 0 ≡ RecordKind r = is in let y : 0 ≡ r = cc in omega (arith, y)
    there (suc (suc (suc k))) r is = absurd (let z : Nothing ≡ RecordKind r = is in cc)

    records : (r : ℕ) → r < 1 → (record_of counted r).cells ≡ record_cells counted r
    records zero l = refl
    records (suc r) l = absurd (omega (arith, l))

    few : (k : ℕ) → k < 3 → cells counted k < 2 ^ 64
    few zero l = lit< tt
    few (suc zero) l = lit< tt
    few (suc (suc zero)) l = lit< tt
    few (suc (suc (suc k))) l = absurd (omega (arith, l))

-- numbers are equal where all else says that types differ
by_number : (a b : ℕ) → (a == b || false) ≡ true → a ≡ b
by_number a b h = eqb-true a b (left (a == b) h)
  where
    left : (x : Bool) → (x || false) ≡ true → x ≡ true
    left true h = refl
    left false h = h

pub has_one_number_each : HasOneNumberEach counted
has_one_number_each = record { one = one }
  where
    one : (a b : ℕ) → same counted a b ≡ true → a ≡ b
    one zero zero h = refl
    one zero (suc zero) h = by_number 0 1 h
    one zero (suc (suc zero)) h = by_number 0 2 h
    one zero (suc (suc (suc b))) h = by_number 0 (suc (suc (suc b))) h
    one (suc zero) zero h = by_number 1 0 h
    one (suc zero) (suc zero) h = refl
    one (suc zero) (suc (suc zero)) h = by_number 1 2 h
    one (suc zero) (suc (suc (suc b))) h = by_number 1 (suc (suc (suc b))) h
    one (suc (suc zero)) zero h = by_number 2 0 h
    one (suc (suc zero)) (suc zero) h = by_number 2 1 h
    one (suc (suc zero)) (suc (suc zero)) h = refl
    one (suc (suc zero)) (suc (suc (suc b))) h = by_number 2 (suc (suc (suc b))) h
    one (suc (suc (suc a))) zero h = by_number (suc (suc (suc a))) 0 h
    one (suc (suc (suc a))) (suc zero) h = by_number (suc (suc (suc a))) 1 h
    one (suc (suc (suc a))) (suc (suc zero)) h = by_number (suc (suc (suc a))) 2 h
    one (suc (suc (suc a))) (suc (suc (suc b))) h = by_number (suc (suc (suc a))) (suc (suc (suc b))) h
