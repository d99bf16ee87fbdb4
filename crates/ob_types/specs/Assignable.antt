-- When two types are the same, when one extends another, and what may be assigned to what (Oberon-07 report, sections 6 and 9.1).
use Rattle.std.specs.Prelude.{ℕ, zero, suc, List, [], ◌∷◌, length, Bool, true, false, not, ◌||◌, ◌&&◌, ◌==◌, nat_lt, Option, Some, None}
use Rattle.ob_types.specs.Layout.{kind_of, signature_of}
use Rattle.ob_types.specs.Layout.{extends as extends_record}
use Rattle.ob_types.specs.declared.types.TypeKind.{TypeKind}
use Rattle.ob_types.specs.declared.types.TypeKind.TheVariants.{Int, Char, Byte, Nil, Array}
use Rattle.ob_types.specs.declared.types.TypeKind.TheVariants.{Bool as Boolean, Set as SetOf, Text as TextOf, Record as RecordOf, Pointer as PointerTo, Procedure as ProcedureOf}
use Rattle.ob_types.specs.declared.types.Mode.{Mode}
use Rattle.ob_types.specs.declared.types.Mode.TheVariants.{Value, Place, Record, Open}
use Rattle.ob_types.specs.declared.types.Formal.{Formal}
use Rattle.ob_types.specs.declared.types.Signature.{Signature}
use Rattle.ob_types.specs.Table.{Table}

-- both open, or both of this length
abbrev pub same_length : Option ℕ → Option ℕ → Bool
same_length None None = true
same_length (Some n) (Some m) = n == m
same_length _ _ = false

abbrev pub same_mode : Mode → Mode → Bool
same_mode Value Value = true
same_mode Place Place = true
same_mode Record Record = true
same_mode Open Open = true
same_mode _ _ = false

-- both VAR, or neither
abbrev pub both_or_neither : Bool → Bool → Bool
both_or_neither true b = b
both_or_neither false b = not b

module _ (same : ℕ → ℕ → Bool) where
  -- parameters of the same kinds and types
  abbrev pub same_formal : Formal → Formal → Bool
  same_formal x y = same_mode x.mode y.mode && (both_or_neither x.variable y.variable && same x.type_number y.type_number)

  abbrev pub same_formals : List Formal → List Formal → Bool
  same_formals [] [] = true
  same_formals (x ∷ xs) (y ∷ ys) = same_formal x y && same_formals xs ys
  same_formals _ _ = false

  -- and the same result type
  abbrev pub same_signature : Signature → Signature → Bool
  same_signature f g = same_formals f.formals g.formals && same f.result g.result

module _ (t : Table) where
  -- of types with different numbers: basic types, strings, arrays and procedure types are the same by what they are
  abbrev pub same_kind : (ℕ → ℕ → Bool) → TypeKind → TypeKind → Bool
  same_kind same Int Int = true
  same_kind same Boolean Boolean = true
  same_kind same Char Char = true
  same_kind same Byte Byte = true
  same_kind same SetOf SetOf = true
  same_kind same Nil Nil = true
  same_kind same (TextOf n) (TextOf m) = n == m
  same_kind same (Array n a) (Array m b) = same_length n m && same a b
  same_kind same (ProcedureOf f) (ProcedureOf g) = same_signature same (signature_of t f) (signature_of t g)
  same_kind same _ _ = false

  -- the same number, or the same by what they are, with parts nested at most so deep
  abbrev pub same_within : ℕ → ℕ → ℕ → Bool
  same_within zero a b = a == b
  same_within (suc depth) a b = a == b || same_kind (same_within depth) (kind_of t a) (kind_of t b)

  -- the same type: arrays of the same length and element type, procedure types with the same parameters and result,
  -- all else by its declaration
  abbrev pub same : ℕ → ℕ → Bool
  same a b = same_within (length t.kinds) a b

  abbrev pub extends_by : TypeKind → TypeKind → Bool
  extends_by (RecordOf r) (RecordOf b) = extends_record t r b
  extends_by (PointerTo r) (PointerTo b) = extends_record t r b
  extends_by _ _ = false

  -- a is b or an extension of it: two records, or two pointers
  abbrev pub extends : ℕ → ℕ → Bool
  extends a b = extends_by (kind_of t a) (kind_of t b)

  abbrev pub is_char : ℕ → Bool
  is_char k = same_kind same (kind_of t k) Char

  -- of types that aren't the same
  abbrev pub assignable_by : TypeKind → TypeKind → Bool
  assignable_by Int Byte = true
  assignable_by Byte Int = true
  assignable_by (PointerTo r) Nil = true
  assignable_by (ProcedureOf f) Nil = true
  assignable_by (Array (Some n) e) (TextOf m) = is_char e && nat_lt m n
  assignable_by (Array None e) (TextOf m) = is_char e
  assignable_by Char (TextOf m) = m == 1
  assignable_by (Array None a) (Array m b) = same a b
  assignable_by (Array n a) (Array None b) = same a b
  assignable_by k from = extends_by from k

  -- what has type from may be assigned to what has type to
  abbrev pub assignable : ℕ → ℕ → Bool
  assignable to from = same to from || assignable_by (kind_of t to) (kind_of t from)
