-- When entries and the program's table say the same, and each type has one number.
use Rattle.std.specs.Prelude.{◌≡◌, ℕ, List, length, map, true, Option, Some, slice_get}
use Rattle.std.specs.List.{range_with_len}
use Rattle.ob_types.specs.declared.types.Signature.{Signature}
use Rattle.ob_types.specs.Table.{Table}
use Rattle.judged_tree.specs.Tables.{same_signatures}
use Rattle.check_types.specs.declared.types.TypeRef.{TypeRef}
use Rattle.check_types.specs.declared.types.TypeRef.TheVariants as TheType
use Rattle.check_types.specs.TypeMeaning.{kind_of_type}
use Rattle.table_builder.specs.Entries.{HasParts, pointers_of}

pub record IsSound (t : Table) (entries : List TypeRef) (bases : List (Option ℕ)) : Type 0 where
  pub kinds : t.kinds ≡ map (kind_of_type bases) entries
  pub parts : (k : ℕ) (e : TypeRef) → slice_get entries k ≡ Some e → HasParts t.signatures k e
  -- pointer types are numbered in the order of their entries
  pub pointers : pointers_of entries ≡ range_with_len 0 (length (pointers_of entries))
  pub once : (a b : ℕ) (e : TypeRef) → slice_get entries a ≡ Some e → slice_get entries b ≡ Some e → a ≡ b
  pub signature : (f g : ℕ) (x y : Signature) → slice_get t.signatures f ≡ Some x → slice_get t.signatures g ≡ Some y
      → same_signatures (Some x) (Some y) ≡ true → f ≡ g

-- a type that may be the next entry: what it is made of is there, it has no number yet, and a pointer type is the next
pub record IsNext (signatures : List Signature) (entries : List TypeRef) (e : TypeRef) : Type 0 where
  pub parts : HasParts signatures (length entries) e
  pub new : (n : ℕ) → slice_get entries n ≡ Some e → ⊥
  pub pointer : (p : ℕ) → e ≡ TheType.Pointer p → p ≡ length (pointers_of entries)

-- a procedure type that isn't there yet
pub record IsNewSignature (signatures : List Signature) (x : Signature) : Type 0 where
  pub before : (g : ℕ) (y : Signature) → slice_get signatures g ≡ Some y → same_signatures (Some x) (Some y) ≡ true → ⊥
  pub behind : (g : ℕ) (y : Signature) → slice_get signatures g ≡ Some y → same_signatures (Some y) (Some x) ≡ true → ⊥
