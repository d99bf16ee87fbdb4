-- A built table, whose arrays and procedure types are legal, is a legal table.
use Rattle.std.proofs.Common.{◌≡◌, ℕ, zero, suc, ◌<◌, List, [], ◌∷◌, map, length, true, Option, Some, None, refl, ap, sym, ◌∙◌, subst, arith, inl, inr}
use Rattle.std.specs.Prelude.{slice_get, slice_index_or}
use Rattle.std.proofs.lemmas.List.{get_or_past}
use Rattle.std.proofs.lemmas.Option.{slice_get_within}
use Rattle.ob_types.specs.declared.types.RecordType.{RecordType}
use Rattle.ob_types.specs.declared.types.Signature.{Signature}
use Rattle.ob_types.specs.declared.types.TypeKind.TheVariants as TheKind
use Rattle.ob_types.specs.Layout.{kind_of, no_record_type}
use Rattle.ob_types.specs.Table.{Table}
use Rattle.ob_types.proofs.Tests.{less_or_past}
use Rattle.ob_judge.specs.Shapes.{Shape, Array, Integer, cells_of}
use Rattle.judged_tree.specs.TypeShapes.{shape_of}
use Rattle.judged_tree.specs.Tables.{is_before}
use Rattle.judged_well.specs.Standing.{is_result}
use Rattle.judged_well.specs.Standing.{is_whole as is_whole_type}
use Rattle.judged_programs.specs.LegalTable.{cells_with, record_count, IsLegalArray, IsLegalSignature, IsLegalTable}
use Rattle.judged_programs.proofs.Cores.{cells_are}
use Rattle.judged_programs.proofs.TableCells.{with_same}
use Rattle.check_types.specs.declared.types.TypeRef.{TypeRef}
use Rattle.check_types.specs.declared.types.TypeRef.TheVariants as TheType
use Rattle.check_types.specs.declared.table.Layout.{Layout}
use Rattle.check_types.specs.Known.{layout_of, known_of}
use Rattle.check_types.specs.TypeMeaning.{kind_of_type}
use Rattle.table_builder.specs.Entries.{is_whole, is_whole_shape}
use Rattle.table_builder.specs.Contents.{AreRecordTypes, contents_of}
use Rattle.table_builder.specs.Builder.{IsBuilt}
use Rattle.table_builder.specs.declared.builder.TableBuilder.{TableBuilder}
use Rattle.table_builder.proofs.Lists.{there}
use Rattle.table_builder.proofs.Meaning.{long, kind_at, entry_there, front, meant}
use Rattle.table_builder.proofs.Apart.{each_once}
use Rattle.table_builder.proofs.ByShape.{whole-shape}
use Rattle.table_builder.proofs.Calls.{as_many, procedure_numbered}
use Rattle.legal_tables.specs.Promised.{HasLegalTypes}
use Rattle.judged_programs.specs.Ranked.{counted}

-- the two tests of a shape are one
whole_same : (s : Shape) → is_whole_type s ≡ is_whole_shape s
whole_same Integer = refl
whole_same s = refl

-- ---- entries by their kinds

array_by : (bases : List (Option ℕ)) (x : TypeRef) (n e : ℕ) → kind_of_type bases x ≡ TheKind.Array (Some n) e → x ≡ TheType.Array n e
array_by bases (TheType.Array m d) n e h = let z = h in cc
array_by bases (TheType.Open d) n e h = absurd (let z = h in cc)
array_by bases TheType.Int n e h = absurd (let z = h in cc)
array_by bases _ n e h = absurd (let z = h in cc)

open_by : (bases : List (Option ℕ)) (x : TypeRef) (e : ℕ) → kind_of_type bases x ≡ TheKind.Array None e → x ≡ TheType.Open e
open_by bases (TheType.Open d) e h = let z = h in cc
open_by bases (TheType.Array m d) e h = absurd (let z = h in cc)
open_by bases TheType.Int e h = absurd (let z = h in cc)
open_by bases _ e h = absurd (let z = h in cc)

record_by : (bases : List (Option ℕ)) (x : TypeRef) (r : ℕ) → kind_of_type bases x ≡ TheKind.Record r → x ≡ TheType.Record r
record_by bases (TheType.Record s) r h = let z = h in cc
record_by bases TheType.Int r h = absurd (let z = h in cc)
record_by bases _ r h = absurd (let z = h in cc)

-- ---- the cells of record types

counts_by : (t : Table) (es : List TypeRef) (xs : List RecordType) (ls : List Layout) → AreRecordTypes es xs ls → (r : ℕ)
    → (slice_index_or xs r no_record_type).cells ≡ cells_of (slice_get (map (layout_of t) ls) r)
counts_by t es [] [] h r = refl
counts_by t es (x ∷ xs) (l ∷ ls) h zero = (h.0).cells
counts_by t es (x ∷ xs) (l ∷ ls) h (suc r) = counts_by t es xs ls h.2 r
counts_by t es [] (l ∷ ls) h r = absurd h
counts_by t es (x ∷ xs) [] h r = absurd h

module _ (b : TableBuilder) (built : IsBuilt b) (legal : HasLegalTypes b.table) where
  abbrev t : Table
  t = b.table.types

  abbrev entries : List TypeRef
  entries = b.table.entries.items

  abbrev bases : List (Option ℕ)
  bases = b.table.bases.items

  -- what has a kind has an entry
  entry_of : (k : ℕ) → (kind_of t k ≡ TheKind.Nothing → ⊥) → (x : TypeRef) × (slice_get entries k ≡ Some x) × (kind_of t k ≡ kind_of_type bases x)
  entry_of k some = elim (less_or_past k (length t.kinds)) as (λ _. (x : TypeRef) × (slice_get entries k ≡ Some x) × (kind_of t k ≡ kind_of_type bases x)) [
    | inl l ↦ (let e = entry_there t entries bases built.sound k l in (e.0, e.1, kind_at t entries bases built.sound k e.0 e.1))
    | inr past ↦ absurd (some (get_or_past t.kinds k TheKind.Nothing past))
  ]

  array_entry : (k n e : ℕ) → kind_of t k ≡ TheKind.Array (Some n) e → slice_get entries k ≡ Some (TheType.Array n e)
  array_entry k n e is = let x = entry_of k (λ z. absurd (let y = sym is ∙ z in cc)) in x.1 ∙ ap (λ y. Some y) (array_by bases x.0 n e (sym x.2 ∙ is))

  open_entry : (k e : ℕ) → kind_of t k ≡ TheKind.Array None e → slice_get entries k ≡ Some (TheType.Open e)
  open_entry k e is = let x = entry_of k (λ z. absurd (let y = sym is ∙ z in cc)) in x.1 ∙ ap (λ y. Some y) (open_by bases x.0 e (sym x.2 ∙ is))

  record_entry : (k r : ℕ) → kind_of t k ≡ TheKind.Record r → slice_get entries k ≡ Some (TheType.Record r)
  record_entry k r is = let x = entry_of k (λ z. absurd (let y = sym is ∙ z in cc)) in x.1 ∙ ap (λ y. Some y) (record_by bases x.0 r (sym x.2 ∙ is))

  -- an entry before another, whose elements are of it
  whole_at : (k e : ℕ) (x : TypeRef) → slice_get entries k ≡ Some x → e < k → ((y : TypeRef) → slice_get entries e ≡ Some y → is_whole y ≡ true) → is_whole_type (shape_of t e) ≡ true
  whole_at k e x at before whole =
      let within = slice_get_within entries k x at in
      let y = there entries e (omega (arith, before, within)) in
      whole_same (shape_of t e) ∙ ap is_whole_shape (meant t entries bases built.sound e y.0 y.1) ∙ whole-shape t y.0 ∙ whole y.0 y.1

  counts_same : (r : ℕ) → record_count t r ≡ counted (known_of b.table).records r
  counts_same r = counts_by t entries t.records b.table.layouts.items built.layouts r

  legal_array : (k n e : ℕ) → kind_of t k ≡ TheKind.Array (Some n) e → IsLegalArray t k n e
  legal_array k n e is =
      let at = array_entry k n e is in
      let h = legal.array k n e at in
      record {
        length_allowed = h.length_allowed;
        element = whole_at k e (TheType.Array n e) at (built.sound.parts k (TheType.Array n e) at) (λ y at_y. built.elements k (TheType.Array n e) at e y refl at_y);
        few =
            let shape = ap (cells_with (record_count t)) (meant t entries bases built.sound k (TheType.Array n e) at) in
            let same = with_same (record_count t) (counted (known_of b.table).records) counts_same (Array n (shape_of t e)) in
            let are = cells_are (known_of b.table) (Array n (shape_of t e)) in
            let few = h.few in
            omega (arith, shape, same, are, few);
      }

  legal_open : (k e : ℕ) → kind_of t k ≡ TheKind.Array None e → is_whole_type (shape_of t e) ≡ true
  legal_open k e is =
      let at = open_entry k e is in
      whole_at k e (TheType.Open e) at (built.sound.parts k (TheType.Open e) at) (λ y at_y. built.elements k (TheType.Open e) at e y refl at_y)

  record_in : (k r : ℕ) → kind_of t k ≡ TheKind.Record r → r < length t.records
  record_in k r is =
      let noted = slice_get_within b.numbers.records.items r k (built.index.all (TheType.Record r) k (record_entry k r is)) in
      let a = built.records in
      let m = as_many entries t.records b.table.layouts.items built.layouts in
      omega (arith, noted, a, m)

  legal_signature : (g : ℕ) (x : Signature) → slice_get t.signatures g ≡ Some x → IsLegalSignature t x
  legal_signature g x at =
      let h = legal.signature g x at in
      let n = (procedure_numbered (contents_of b.table b.numbers b.elements.items) built g x at).numbered in
      let before = (subst (is_before n.0) at (built.sound.parts n.0 (TheType.Procedure g) n.1)).1 in
      let within = slice_get_within entries n.0 (TheType.Procedure g) n.1 in
      let many = long t entries bases built.sound in
      record { formals = h.formals; words = h.words; result_there = omega (arith, before, within, many); result = h.result }

  first_entry : slice_get entries 0 ≡ Some TheType.Int
  first_entry = built.index.says TheType.Int 0 refl

  pub legal_table : IsLegalTable t
  legal_table = record {
    front = front t entries bases built.sound;
    once = each_once t entries bases built.sound;
    first_there = let l = slice_get_within entries 0 TheType.Int first_entry in let m = long t entries bases built.sound in omega (arith, l, m);
    first = ap is_result (meant t entries bases built.sound 0 TheType.Int first_entry);
    array = legal_array;
    open_array = legal_open;
    record_there = record_in;
    signature = legal_signature;
    one_signature = built.sound.signature;
  }
