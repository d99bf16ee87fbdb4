-- Types of a program that the judgement gives have the cells that the judgement counted.
use Rattle.std.proofs.Common.{◌≡◌, ℕ, zero, suc, ◌+◌, ◌*◌, ◌<◌, List, [], ◌∷◌, map, length, Option, Some, None, refl, ap, ap₂, sym, ◌∙◌, arith, sum}
use Rattle.std.specs.Prelude.{slice_get}
use Rattle.std.proofs.lemmas.List.Sums.{sum_by-cons}
use Rattle.ob_types.specs.declared.types.Field.{Field}
use Rattle.ob_types.specs.declared.types.TypeKind.{TypeKind}
use Rattle.ob_types.specs.declared.types.TypeKind.TheVariants as TheKind
use Rattle.ob_types.specs.declared.program.Program.{Program}
use Rattle.ob_types.specs.Layout.{kind_of, record_of, types_of, base_cells, cells_by, cells_within, record_within, cells, record_cells}
use Rattle.ob_types.proofs.Tests.{none_some, some_same}
use Rattle.ob_judge.specs.Shapes.{Shape, Array, Record, Added}
use Rattle.ob_judge.specs.Modules.{SoFar, base_in}
use Rattle.judged_tree.specs.TypeShapes.{shape_of}
use Rattle.judged_tree.specs.Plain.{plain_field}
use Rattle.judged_well.specs.OfProgram.{IsFaithful}
use Rattle.judged_well.proofs.Entries.{here, is_here}
use Rattle.judged_programs.specs.LegalTable.{IsLegalTable, cells_with, record_count}
use Rattle.judged_programs.proofs.Ends.{IsEndOf}
use Rattle.judged_programs.proofs.TableEnds.{IsRecordOf, record_at, record_there, behind_base, counts_same, legal_record}
use Rattle.judged_programs.proofs.TableOrder.{ranks}
use Rattle.judged_programs.specs.Ranked.{cells_of_all, counted, inherited}

-- cells by counts that are the same
pub with_same : (f g : ℕ → ℕ) → ((r : ℕ) → f r ≡ g r) → (a : Shape) → cells_with f a ≡ cells_with g a
with_same f g h (Array n a) = ap (λ c. n * c) (with_same f g h a)
with_same f g h (Record r) = h r
with_same f g h a = refl

module _ (p : Program) (c : SoFar) (end : IsEndOf p c) (ok : IsFaithful p.types) (legal : IsLegalTable p.types) where
  abbrev Counts : ℕ → ℕ → Type 0
  Counts n k = n ≡ cells_with (record_count p.types) (shape_of p.types k)

  -- a kind, by the cells of its parts
  kind_counts : (k : ℕ) (of whole : ℕ → ℕ) (kind : TypeKind) → ((n e : ℕ) → kind ≡ TheKind.Array (Some n) e → Counts (of e) e) → ((r : ℕ) → kind ≡ TheKind.Record r → whole r ≡ record_count p.types r)
      → cells_by of whole kind ≡ cells_with (record_count p.types) (here p.types ok k kind)
  kind_counts k of whole (TheKind.Array (Some n) e) f g = ap (λ m. n * m) (f n e refl)
  kind_counts k of whole (TheKind.Record r) f g = g r refl
  kind_counts k of whole TheKind.Int f g = refl
  kind_counts k of whole _ f g = refl

  -- fields, by the cells of each
  fields_count : (of : ℕ → ℕ) (fs : List Field) (xs : List Added) → map (plain_field p.types) fs ≡ xs → ((i k : ℕ) → slice_get (types_of fs) i ≡ Some k → Counts (of k) k) → sum (map of (types_of fs)) ≡ cells_of_all (record_count p.types) xs
  fields_count of [] xs h each = ap (cells_of_all (record_count p.types)) h
  fields_count of (f ∷ fs) [] h each = absurd (let z = h in cc)
  fields_count of (f ∷ fs) (x ∷ xs) h each =
      let k = parts (plain_field p.types f) x (map (plain_field p.types) fs) xs h in
      sum_by-cons (λ n. n) (of f.type_number) (map of (types_of fs))
      ∙ ap₂ (λ a b. a + b) (each 0 f.type_number refl ∙ ap (λ z. cells_with (record_count p.types) z.shape) k.0) (fields_count of fs xs k.1 (λ i n at. each (suc i) n at))
    where
      parts : (a b : Added) (as' bs : List Added) → a ∷ as' ≡ b ∷ bs → (a ≡ b) × (as' ≡ bs)
      parts a b as' bs e = (let z = e in cc, let z = e in cc)

  all_same : (xs : List Added) → cells_of_all (record_count p.types) xs ≡ cells_of_all (counted c.known.records) xs
  all_same [] = refl
  all_same (x ∷ xs) = ap₂ (λ a b. a + b) (with_same (record_count p.types) (counted c.known.records) (counts_same p c end) x.shape) (all_same xs)

  -- what is counted for a base
  base_count : (r : ℕ) → (l : r < length p.types.records) → (of : ℕ → ℕ) → ((b : ℕ) → (record_of p.types r).base ≡ Some b → of b ≡ record_count p.types b)
      → base_cells (record_of p.types r).base of ≡ inherited c.known.records (record_at p c end r l).layout.line
  base_count r l of each = by (record_of p.types r).base refl (record_at p c end r l).layout.line refl
    where
      y : IsRecordOf p c end r
      y = record_at p c end r l

      by : (o : Option ℕ) → (record_of p.types r).base ≡ o → (zs : List ℕ) → y.layout.line ≡ zs → base_cells o of ≡ inherited c.known.records zs
      by None is [] e = refl
      by None is (x ∷ []) e = refl
      by None is (x ∷ z ∷ zs) e = none_some z (sym is ∙ ap (λ q. q.base) y.same ∙ ap base_in e)
      by (Some b) is [] e = none_some b (sym (ap (λ q. q.base) y.same ∙ ap base_in e) ∙ is)
      by (Some b) is (x ∷ []) e = none_some b (sym (ap (λ q. q.base) y.same ∙ ap base_in e) ∙ is)
      by (Some b) is (x ∷ z ∷ zs) e =
          let same : b ≡ z = some_same b z (sym is ∙ ap (λ q. q.base) y.same ∙ ap base_in e) in
          each b is ∙ counts_same p c end b ∙ ap (counted c.known.records) same

  mutual
    cells_counted : (d k : ℕ) → (ranks p c end ok legal).of_kind k < d → Counts (cells_within p.types d k) k
    cells_counted zero k l = absurd (omega (arith, l))
    cells_counted (suc d) k l =
        kind_counts k (cells_within p.types d) (record_within p.types d) (kind_of p.types k)
        (λ n e is. cells_counted d e (let s = (ranks p c end ok legal).element k n e is in omega (arith, s, l)))
        (λ r is. record_counted d r (let s = (ranks p c end ok legal).whole k r is in omega (arith, s, l)) (legal.record_there k r is))
        ∙ ap (cells_with (record_count p.types)) (sym (is_here p.types ok k))

    record_counted : (d r : ℕ) → (ranks p c end ok legal).of_record r < d → r < length p.types.records → record_within p.types d r ≡ record_count p.types r
    record_counted zero r l there = absurd (omega (arith, l))
    record_counted (suc d) r l there =
        let y = record_at p c end r there in
        ap₂ (λ a b. a + b)
        (base_count r there (record_within p.types d) (λ b is. record_counted d b (let s = ((ranks p c end ok legal).base r b is).0 in omega (arith, s, l)) (record_there p c end b (behind_base p c end r b there is).upper (behind_base p c end r b there is).there)))
        (fields_count (cells_within p.types d) (record_of p.types r).fields y.layout.added (ap (λ z. z.fields) y.same)
        (λ i k at. cells_counted d k (let s = (ranks p c end ok legal).field r i k at in omega (arith, s, l)))
        ∙ all_same y.layout.added)
        ∙ sym (legal_record p c end r there).cells ∙ sym (ap (λ z. z.cells) y.same)

  pub cells_are_counted : (k : ℕ) → k < length p.types.kinds → cells p.types k ≡ cells_with (record_count p.types) (shape_of p.types k)
  cells_are_counted k l = cells_counted (suc (length p.types.kinds + length p.types.records)) k (let s = (ranks p c end ok legal).kinds k l in omega (arith, s))

  pub record_cells_are : (r : ℕ) → r < length p.types.records → record_cells p.types r ≡ record_count p.types r
  record_cells_are r l = record_counted (suc (length p.types.kinds + length p.types.records)) r (let s = ((ranks p c end ok legal).records r l).0 in omega (arith, s)) l
