-- The record types of a program that the judgement gives, beside what the judgement has made of them at its end.
use Rattle.std.proofs.Common.{◌≡◌, ℕ, zero, suc, ◌<◌, List, [], ◌∷◌, map, length, Some, refl, ap, sym, ◌∙◌, arith, inl, inr}
use Rattle.std.specs.Prelude.{slice_get, slice_index_or, option_map}
use Rattle.std.proofs.lemmas.List.{get_or_past}
use Rattle.ob_types.specs.declared.types.Field.{Field}
use Rattle.ob_types.specs.declared.types.RecordType.{RecordType as RecordOf}
use Rattle.ob_types.specs.declared.program.Program.{Program}
use Rattle.ob_types.specs.Layout.{record_of, no_record_type, types_of}
use Rattle.ob_types.proofs.Tests.{none_some, some_same, less_or_past}
use Rattle.ob_judge.specs.Shapes.{Added, Layout, cells_of, extent_in}
use Rattle.ob_judge.specs.Image.{RecordType}
use Rattle.ob_judge.specs.Modules.{SoFar, record_form, base_in}
use Rattle.judged_tree.specs.TypeShapes.{shape_of}
use Rattle.judged_tree.specs.Plain.{plain_field, plain_record}
use Rattle.judged_modules.proofs.Lists.{get_within}
use Rattle.judged_modules.specs.Lines.{IsLine, unknown, root, behind}
use Rattle.judged_modules.proofs.Agreement.{map_get, from_map, two_maps, index_at}
use Rattle.judged_programs.specs.LegalTable.{record_count, said_extent}
use Rattle.judged_programs.proofs.Cores.{head_same, line_head}
use Rattle.judged_programs.proofs.Ends.{IsEndOf, each_at}
use Rattle.judged_programs.specs.Ranked.{IsBefore, IsLegalRecord, counted, measured}

module _ (p : Program) (c : SoFar) (end : IsEndOf p c) where
  abbrev records : List Layout
  records = c.known.records

  map_length : {A B : Type 0} (f : A → B) (xs : List A) → length (map f xs) ≡ length xs
  map_length f [] = refl
  map_length f (x ∷ xs) = ap suc (map_length f xs)

  pub as_many : length p.types.records ≡ length records
  as_many = sym (map_length (plain_record p.types) p.types.records) ∙ ap length end.records ∙ map_length record_form records

  -- a record type of the table, and what the judgement made of it
  pub record IsRecordOf (r : ℕ) : Type 0 where
    pub layout : Layout
    pub there : slice_get records r ≡ Some layout
    pub same : plain_record p.types (record_of p.types r) ≡ record_form layout

  there_at : {A : Type 0} (xs : List A) (n : ℕ) → n < length xs → (x : A) × (slice_get xs n ≡ Some x)
  there_at [] n l = absurd (omega (arith, l))
  there_at (x ∷ xs) zero l = (x, refl)
  there_at (x ∷ xs) (suc n) l = there_at xs n (omega (arith, l))

  pub record_at : (r : ℕ) → r < length p.types.records → IsRecordOf r
  record_at r l =
      let at = there_at records r (let e = as_many in omega (arith, l, e)) in
      let y = two_maps (plain_record p.types) record_form p.types.records records r at.0 end.records at.1 in
      record { layout = at.0; there = at.1; same = ap (plain_record p.types) (index_at p.types.records r y.0 _ y.1) ∙ y.2 }

  pub record_there : (r : ℕ) (l : Layout) → slice_get records r ≡ Some l → r < length p.types.records
  record_there r l at = let k = get_within records r l at in let e = as_many in omega (arith, k, e)

  -- what isn't in the table has no base and no fields
  pub based_there : (r b : ℕ) → (record_of p.types r).base ≡ Some b → r < length p.types.records
  based_there r b is = elim (less_or_past r (length p.types.records)) as (λ _. r < length p.types.records) [ inl l ↦ l | inr past ↦ none_some b (sym (ap (λ z. z.base) (get_or_past p.types.records r _ past)) ∙ is) ]

  pub fields_there : (r i k : ℕ) → slice_get (types_of (record_of p.types r).fields) i ≡ Some k → r < length p.types.records
  fields_there r i k is = elim (less_or_past r (length p.types.records)) as (λ _. r < length p.types.records) [ inl l ↦ l | inr past ↦ none_some k (sym (ap (λ z. slice_get (types_of z.fields) i) (get_or_past p.types.records r _ past)) ∙ is) ]

  -- ---- bases

  line_with_base : (line : List ℕ) (b : ℕ) → base_in line ≡ Some b → (x : ℕ) × (more : List ℕ) × (line ≡ x ∷ b ∷ more)
  line_with_base [] b h = none_some b h
  line_with_base (x ∷ []) b h = none_some b h
  line_with_base (x ∷ y ∷ more) b h = (x, more, ap (λ z. x ∷ z ∷ more) (some_same y b h))

  -- a record type with a base: the line of its base stands behind it
  pub record IsBehind (r b : ℕ) : Type 0 where
    pub upper : Layout
    pub there : slice_get records b ≡ Some upper
    pub some : upper.line ≡ [] → ⊥
    pub line : (x : IsRecordOf r) → x.layout.line ≡ r ∷ upper.line

  pub behind_base : (r b : ℕ) → r < length p.types.records → (record_of p.types r).base ≡ Some b → IsBehind r b
  behind_base r b l is = by (end.tidy.lines r x.layout x.there)
    where
      x : IsRecordOf r
      x = record_at r l

      k : (y : ℕ) × (more : List ℕ) × (x.layout.line ≡ y ∷ b ∷ more)
      k = line_with_base x.layout.line b (sym (ap (λ z. z.base) x.same) ∙ is)

      same_layout : (y : IsRecordOf r) → y.layout ≡ x.layout
      same_layout y = some_same y.layout x.layout (sym y.there ∙ x.there)

      by : IsLine records r x.layout.line → IsBehind r b
      by (unknown e) = absurd (let z = sym e ∙ k.2 in cc)
      by (root e) = absurd (let z = (head_same k.0 r (b ∷ k.1) [] (sym k.2 ∙ e)).1 in cc)
      by (behind d m at some e) =
          let it = head_same k.0 r (b ∷ k.1) m.line (sym k.2 ∙ e) in
          let same : b ≡ d = line_head records d m.line (end.tidy.lines d m at) b k.1 (sym it.1) in
          record { upper = m; there = ap (slice_get records) same ∙ at; some = some; line = λ y. ap (λ z. z.line) (same_layout y) ∙ e }

  -- ---- cells

  cells_in : (xs : List RecordOf) (ls : List Layout) (r : ℕ) → map (plain_record p.types) xs ≡ map record_form ls → (slice_index_or xs r no_record_type).cells ≡ cells_of (slice_get ls r)
  cells_in [] [] r h = refl
  cells_in [] (l ∷ ls) r h = absurd (let z = h in cc)
  cells_in (x ∷ xs) [] r h = absurd (let z = h in cc)
  cells_in (x ∷ xs) (l ∷ ls) zero h = ap (λ z. z.cells) (first (plain_record p.types x) (record_form l) (map (plain_record p.types) xs) (map record_form ls) h)
    where
      first : (a b : RecordType) (as' bs : List RecordType) → a ∷ as' ≡ b ∷ bs → a ≡ b
      first a b as' bs e = cc
  cells_in (x ∷ xs) (l ∷ ls) (suc r) h = cells_in xs ls r (rest (plain_record p.types x) (record_form l) (map (plain_record p.types) xs) (map record_form ls) h)
    where
      rest : (a b : RecordType) (as' bs : List RecordType) → a ∷ as' ≡ b ∷ bs → as' ≡ bs
      rest a b as' bs e = cc

  -- the table counts the cells that the judgement counted
  pub counts_same : (r : ℕ) → record_count p.types r ≡ counted records r
  counts_same r = cells_in p.types.records records r end.records

  -- and the bytes

  extents_in : (xs : List RecordOf) (ls : List Layout) (r : ℕ) → map (plain_record p.types) xs ≡ map record_form ls → (slice_index_or xs r no_record_type).extent ≡ extent_in (slice_get ls r)
  extents_in [] [] r h = refl
  extents_in [] (l ∷ ls) r h = absurd (let z = h in cc)
  extents_in (x ∷ xs) [] r h = absurd (let z = h in cc)
  extents_in (x ∷ xs) (l ∷ ls) zero h = ap (λ z. z.extent) (first (plain_record p.types x) (record_form l) (map (plain_record p.types) xs) (map record_form ls) h)
    where
      first : (a b : RecordType) (as' bs : List RecordType) → a ∷ as' ≡ b ∷ bs → a ≡ b
      first a b as' bs e = cc
  extents_in (x ∷ xs) (l ∷ ls) (suc r) h = extents_in xs ls r (rest (plain_record p.types x) (record_form l) (map (plain_record p.types) xs) (map record_form ls) h)
    where
      rest : (a b : RecordType) (as' bs : List RecordType) → a ∷ as' ≡ b ∷ bs → as' ≡ bs
      rest a b as' bs e = cc

  pub extents_same : (r : ℕ) → said_extent p.types r ≡ measured records r
  extents_same r = extents_in p.types.records records r end.records

  -- ---- fields

  -- a field's type
  pub field_added : (r i k : ℕ) → (l : r < length p.types.records) → slice_get (types_of (record_of p.types r).fields) i ≡ Some k → (x : Added) × (slice_get (record_at r l).layout.added i ≡ Some x) × (x.shape ≡ shape_of p.types k)
  field_added r i k l at =
      let y = record_at r l in
      let f = from_map (λ (z : Field). z.type_number) (slice_get (record_of p.types r).fields i) k (sym (map_get (λ (z : Field). z.type_number) (record_of p.types r).fields i) ∙ at) in (
        plain_field p.types f.0,
        ap (λ zs. slice_get zs i) (sym (ap (λ z. z.fields) y.same)) ∙ map_get (plain_field p.types) (record_of p.types r).fields i ∙ ap (option_map (plain_field p.types)) f.1,
        ap (shape_of p.types) f.2,
      )

  pub legal_record : (r : ℕ) → (l : r < length p.types.records) → IsLegalRecord records end.tidy.ranked.rank end.tidy.ranked.clock r (record_at r l).layout
  legal_record r l = end.tidy.ranked.each r (record_at r l).layout (record_at r l).there

  pub field_before : (r i k : ℕ) → (l : r < length p.types.records) → slice_get (types_of (record_of p.types r).fields) i ≡ Some k → (x : Added) × IsBefore records end.tidy.ranked.rank r x × (x.shape ≡ shape_of p.types k)
  field_before r i k l at =
      let f = field_added r i k l at in
      (f.0, each_at (IsBefore records end.tidy.ranked.rank r) (record_at r l).layout.added (legal_record r l).added i f.0 f.1, f.2)
