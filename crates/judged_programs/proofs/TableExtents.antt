-- Record types of a program that the judgement gives take the bytes that the judgement counted.
use Rattle.std.proofs.Common.{◌≡◌, ℕ, zero, suc, ◌+◌, ◌<◌, List, [], ◌∷◌, map, length, Option, Some, None, refl, ap, ap₂, sym, ◌∙◌, arith}
use Rattle.std.specs.Prelude.{slice_get}
use Rattle.ob_types.specs.declared.types.Extent.{Extent}
use Rattle.ob_types.specs.declared.types.Field.{Field}
use Rattle.ob_types.specs.declared.types.TypeKind.{TypeKind}
use Rattle.ob_types.specs.declared.types.TypeKind.TheVariants as TheKind
use Rattle.ob_types.specs.declared.program.Program.{Program}
use Rattle.ob_types.specs.Layout.{kind_of, record_of, types_of}
use Rattle.ob_types.specs.Trees.{DataTree, Record, FieldRow, Field as FieldBehind, tree_extent, row_extent, in_a_row, with_part, rounded_extent, base_row, with_fields, tree_by, tree_within, row_within, record_row, record_extent}
use Rattle.ob_types.proofs.Tests.{none_some, some_same}
use Rattle.ob_judge.specs.Shapes.{Shape, Added}
use Rattle.ob_judge.specs.Shapes.{Array as ArrayShape, Record as RecordShape}
use Rattle.ob_judge.specs.Modules.{SoFar, base_in}
use Rattle.judged_tree.specs.TypeShapes.{shape_of}
use Rattle.judged_tree.specs.Plain.{plain_field}
use Rattle.judged_well.specs.OfProgram.{IsFaithful}
use Rattle.judged_well.proofs.Entries.{here, is_here}
use Rattle.judged_programs.specs.LegalTable.{IsLegalTable, extent_with, said_extent}
use Rattle.judged_programs.proofs.Ends.{IsEndOf}
use Rattle.judged_programs.proofs.TableEnds.{IsRecordOf, record_at, record_there, behind_base, extents_same, legal_record}
use Rattle.judged_programs.proofs.TableOrder.{ranks}
use Rattle.judged_programs.specs.Ranked.{measured, with_all, extended}

-- bytes where record types take the same
with_same : (f g : ℕ → Extent) → ((r : ℕ) → f r ≡ g r) → (a : Shape) → extent_with f a ≡ extent_with g a
with_same f g h (ArrayShape n a) = ap (in_a_row n) (with_same f g h a)
with_same f g h (RecordShape r) = h r
with_same f g h a = refl

module _ (p : Program) (c : SoFar) (end : IsEndOf p c) (ok : IsFaithful p.types) (legal : IsLegalTable p.types) where
  abbrev Takes : DataTree → ℕ → Type 0
  Takes t k = tree_extent t ≡ extent_with (said_extent p.types) (shape_of p.types k)

  -- a kind, by what its parts take
  kind_takes : (k : ℕ) (trees : ℕ → DataTree) (rows : ℕ → FieldRow) (kind : TypeKind) → ((n e : ℕ) → kind ≡ TheKind.Array (Some n) e → Takes (trees e) e) → ((r : ℕ) → kind ≡ TheKind.Record r → tree_extent (Record (rows r)) ≡ said_extent p.types r)
      → tree_extent (tree_by trees rows kind) ≡ extent_with (said_extent p.types) (here p.types ok k kind)
  kind_takes k trees rows (TheKind.Array (Some n) e) f g = ap (in_a_row n) (f n e refl)
  kind_takes k trees rows (TheKind.Record r) f g = g r refl
  kind_takes k trees rows TheKind.Int f g = refl
  kind_takes k trees rows _ f g = refl

  -- fields, by what each takes
  fields_take : (trees : ℕ → DataTree) (fs : List Field) (xs : List Added) (row : FieldRow) (e : Extent) → row_extent row ≡ e → map (plain_field p.types) fs ≡ xs → ((i k : ℕ) → slice_get (types_of fs) i ≡ Some k → Takes (trees k) k)
      → row_extent (with_fields trees row (types_of fs)) ≡ with_all (said_extent p.types) e xs
  fields_take trees [] xs row e is h each = is ∙ ap (with_all (said_extent p.types) e) h
  fields_take trees (f ∷ fs) [] row e is h each = absurd (let z = h in cc)
  fields_take trees (f ∷ fs) (x ∷ xs) row e is h each =
      let k = parts (plain_field p.types f) x (map (plain_field p.types) fs) xs h in
      fields_take trees fs xs (FieldBehind row (trees f.type_number)) (with_part e (extent_with (said_extent p.types) x.shape))
      (ap₂ with_part is (each 0 f.type_number refl ∙ ap (λ z. extent_with (said_extent p.types) z.shape) k.0)) k.1 (λ i n at. each (suc i) n at)
    where
      parts : (a b : Added) (as' bs : List Added) → a ∷ as' ≡ b ∷ bs → (a ≡ b) × (as' ≡ bs)
      parts a b as' bs e = (let z = e in cc, let z = e in cc)

  all_same : (xs : List Added) (e : Extent) → with_all (said_extent p.types) e xs ≡ with_all (measured c.known.records) e xs
  all_same [] e = refl
  all_same (x ∷ xs) e =
      ap (λ y. with_all (said_extent p.types) (with_part e y) xs) (with_same (said_extent p.types) (measured c.known.records) (extents_same p c end) x.shape)
      ∙ all_same xs (with_part e (extent_with (measured c.known.records) x.shape))

  -- what a base takes
  base_takes : (r : ℕ) → (l : r < length p.types.records) → (rows : ℕ → FieldRow) → ((b : ℕ) → (record_of p.types r).base ≡ Some b → tree_extent (Record (rows b)) ≡ said_extent p.types b)
      → row_extent (base_row (record_of p.types r).base rows) ≡ extended c.known.records (record_at p c end r l).layout.line
  base_takes r l rows each = by (record_of p.types r).base refl (record_at p c end r l).layout.line refl
    where
      y : IsRecordOf p c end r
      y = record_at p c end r l

      by : (o : Option ℕ) → (record_of p.types r).base ≡ o → (zs : List ℕ) → y.layout.line ≡ zs → row_extent (base_row o rows) ≡ extended c.known.records zs
      by None is [] e = refl
      by None is (x ∷ []) e = refl
      by None is (x ∷ z ∷ zs) e = none_some z (sym is ∙ ap (λ q. q.base) y.same ∙ ap base_in e)
      by (Some b) is [] e = none_some b (sym (ap (λ q. q.base) y.same ∙ ap base_in e) ∙ is)
      by (Some b) is (x ∷ []) e = none_some b (sym (ap (λ q. q.base) y.same ∙ ap base_in e) ∙ is)
      by (Some b) is (x ∷ z ∷ zs) e =
          let same : b ≡ z = some_same b z (sym is ∙ ap (λ q. q.base) y.same ∙ ap base_in e) in
          each b is ∙ extents_same p c end b ∙ ap (measured c.known.records) same

  mutual
    type_takes : (d k : ℕ) → (ranks p c end ok legal).of_kind k < d → Takes (tree_within p.types d k) k
    type_takes zero k l = absurd (omega (arith, l))
    type_takes (suc d) k l =
        kind_takes k (tree_within p.types d) (row_within p.types d) (kind_of p.types k)
        (λ n e is. type_takes d e (let s = (ranks p c end ok legal).element k n e is in omega (arith, s, l)))
        (λ r is. record_takes d r (let s = (ranks p c end ok legal).whole k r is in omega (arith, s, l)) (legal.record_there k r is))
        ∙ ap (extent_with (said_extent p.types)) (sym (is_here p.types ok k))

    record_takes : (d r : ℕ) → (ranks p c end ok legal).of_record r < d → r < length p.types.records → tree_extent (Record (row_within p.types d r)) ≡ said_extent p.types r
    record_takes zero r l there = absurd (omega (arith, l))
    record_takes (suc d) r l there =
        let y = record_at p c end r there in
        ap rounded_extent
        (fields_take (tree_within p.types d) (record_of p.types r).fields y.layout.added (base_row (record_of p.types r).base (row_within p.types d)) (extended c.known.records y.layout.line)
        (base_takes r there (row_within p.types d) (λ b is. record_takes d b (let s = ((ranks p c end ok legal).base r b is).0 in omega (arith, s, l)) (record_there p c end b (behind_base p c end r b there is).upper (behind_base p c end r b there is).there)))
        (ap (λ z. z.fields) y.same)
        (λ i k at. type_takes d k (let s = (ranks p c end ok legal).field r i k at in omega (arith, s, l)))
        ∙ all_same y.layout.added (extended c.known.records y.layout.line))
        ∙ sym (legal_record p c end r there).extent ∙ sym (ap (λ z. z.extent) y.same)

  pub record_extents_are : (r : ℕ) → r < length p.types.records → record_extent p.types r ≡ said_extent p.types r
  unfolding record_row
  record_extents_are r l = record_takes (suc (length p.types.kinds + length p.types.records)) r (let s = ((ranks p c end ok legal).records r l).0 in omega (arith, s)) l
