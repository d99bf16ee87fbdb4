-- Steps of the judgement of parts, by themselves.
use Rattle.std.specs.Prelude.{ℕ, ◌||◌, nat_eq, slice_get}
use Rattle.ob_judge.specs.Judged.{Judged, Keeps, ◌>>=◌, ◌>>◌, rule, some}
use Rattle.ob_judge.specs.Shapes.{Field as FieldOf}
use Rattle.ob_judge.specs.Image.{Field}
use Rattle.ob_judge.specs.Scopes.{World, Source, place, spelled}
use Rattle.ob_judge.specs.Operands.{Operand, place_of}
use Rattle.ob_judge.specs.Parts.{part_of, fields_of}

module _ (p : Source) (w : World) where
  -- a field of a record
  abbrev pub field_known : Operand → FieldOf → Judged Operand
  field_known x f = Keeps (part_of x f.shape (Field (place_of x) f.adder f.number))

  -- a field by its name, of a record of this type
  abbrev pub field_in : (i : ℕ) → (record_type : ℕ) → Operand → Judged Operand
  field_in i record_type x = do
    f ← some 30 (place p i) (fields_of (slice_get w.known.records record_type) (spelled p i))
    rule 34 (place p i) (f.exported || nat_eq f.owner w.module_number)
    field_known x f
