-- What the checker keeps of the types that it makes, beside what the builder of the table keeps: that arrays and procedure
-- types in it are legal.
use Rattle.std.specs.Prelude.{◌≡◌, ◌≤◌, ℕ, true, Some, slice_get}
use Rattle.ob_types.specs.declared.types.Formal.{Formal}
use Rattle.ob_types.specs.declared.types.Signature.{Signature}
use Rattle.ob_types.specs.LegalTypes.{most_cells, is_length}
use Rattle.ob_types.specs.WellFormed.{argument_words}
use Rattle.ob_judge.specs.Shapes.{Shape, Array, Known, cells}
use Rattle.judged_tree.specs.TypeShapes.{shape_of}
use Rattle.judged_well.specs.Standing.{is_result}
use Rattle.judged_programs.specs.Complete.{HasCore}
use Rattle.judged_programs.specs.LegalTable.{IsLegalFormal}
use Rattle.check_types.specs.declared.types.TypeRef.TheVariants as TheType
use Rattle.check_types.specs.declared.table.TypeTable.{TypeTable}
use Rattle.check_types.specs.Known.{known_of}

-- an array type of so many elements of a type: of an allowed length, of elements whose cells are known, and of no more
-- cells than a type may have
pub record IsLegalArray (known : Known) (l : ℕ) (a : Shape) : Type 0 where
  pub length_allowed : is_length (Some l) ≡ true
  pub complete : HasCore known.records a
  pub few : cells known (Array l a) ≤ most_cells

-- of other types nothing is asked
abbrev pub IsLegalShape : Known → Shape → Type 0
IsLegalShape known (Array l a) = IsLegalArray known l a
IsLegalShape known a = Unit {0}

-- a procedure type: its parameters, in no more argument words than are passed, and its result
pub record HasLegalParts (t : TypeTable) (x : Signature) : Type 0 where
  pub formals : (i : ℕ) (y : Formal) → slice_get x.formals i ≡ Some y → IsLegalFormal t.types y
  pub words : argument_words x.formals ≤ 24
  pub result : is_result (shape_of t.types x.result) ≡ true

pub record HasLegalTypes (t : TypeTable) : Type 0 where
  pub array : (n l e : ℕ) → slice_get t.entries.items n ≡ Some (TheType.Array l e) → IsLegalArray (known_of t) l (shape_of t.types e)
  pub signature : (g : ℕ) (x : Signature) → slice_get t.types.signatures g ≡ Some x → HasLegalParts t x
