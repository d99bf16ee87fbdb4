-- What is known of a record type while its fields are judged: where it begins, and when types are made meanwhile.
use Rattle.std.proofs.Common.{◌≡◌, ℕ, zero, suc, ◌*◌, ◌<◌, ◌≤◌, List, [], ◌∷◌, length, map, true, false, Option, Some, None, Ok, Err, option_map, refl, sym, ap, ap₂, ◌∙◌, subst, arith}
use Rattle.std.specs.Prelude.{slice_get, nat_le}
use Rattle.ob_syntax.specs.declared.types.Base.{Base}
use Rattle.ob_judge.specs.Judged.{Keeps, ◌>>=◌, ◌>>◌, rule, some}
use Rattle.ob_types.specs.declared.types.RecordType.{RecordType}
use Rattle.ob_types.proofs.Tests.{none_some, some_same}
use Rattle.ob_judge.specs.Shapes as J
use Rattle.ob_judge.specs.Scopes.{Source, World, place}
use Rattle.ob_judge.specs.Parameters.{type_at}
use Rattle.ob_judge.specs.Making.{Making, no_layout}
use Rattle.ob_judge.specs.Types as T
use Rattle.std.proofs.lemmas.Bool.Decides.{nat_tests}
use Rattle.check_types.specs.steps.Answers.{Answers}
use Rattle.check_types.specs.declared.steps.fault.CheckFault.{CheckFault}
use Rattle.check_types.specs.declared.steps.fault.CheckFault.TheVariants.{Fault}
use Rattle.check_types.proofs.steps.Answering.{kept, broken}
use Rattle.check_types.specs.Fields.{at_fields}
use Rattle.check_types.specs.declared.table.Added.{Added}
use Rattle.check_types.specs.declared.fields.FieldEntry.{FieldEntry}
use Rattle.check_types.specs.declared.table.Layout.{Layout}
use Rattle.check_types.specs.declared.table.TypeTable.{TypeTable}
use Rattle.check_types.specs.declared.types.TypeRef.{TypeRef}
use Rattle.check_types.specs.Known.{field_of, added_of, layout_of, known_of}
use Rattle.table_builder.specs.declared.builder.TableBuilder.{TableBuilder}
use Rattle.table_builder.specs.Builder.{IsBuilt}
use Rattle.table_builder.specs.Entries.{IsNumbered}
use Rattle.table_builder.specs.Growing.{Grows}
use Rattle.table_builder.specs.Contents.{IsClosed, AreElements, AreRecordTypes, IsBlank}
use Rattle.table_builder.proofs.Growing.{numbered_still, element_still}
use Rattle.check_making.specs.declared.making.Declaring.{Declaring}
use Rattle.check_making.specs.declared.making.Surroundings.{Surroundings}
use Rattle.check_making.specs.Making.{Makes}
use Rattle.check_making.specs.new_types.Layouts.{IsSoFar, IsCopy, IsBegunFrom, IsBegun, base_number}
use Rattle.check_making.proofs.parameters.Answering.{then_then}
use Rattle.judged_modules.proofs.Agreement.{map_get as get_map}

-- ---- types are made meanwhile

module _ (t u : TypeTable) (g : Grows t u) where
  entry_same : (o : Option FieldEntry) → ((f : FieldEntry) → o ≡ Some f → IsNumbered t.entries.items f.of) → option_map (field_of u.types) o ≡ option_map (field_of t.types) o
  entry_same None h = refl
  entry_same (Some f) h = ap (λ (s : J.Shape). Some (record { adder = f.adder; number = f.number; shape = s; exported = f.exported; owner = f.owner })) (g.shape f.of (h f refl))

  added_same : (xs : List Added) → AreElements t.entries.items xs → map (added_of u.types) xs ≡ map (added_of t.types) xs
  added_same [] h = refl
  added_same (a ∷ as') h = ap₂ (λ (s : J.Shape) (ys : List J.Added). record { name = a.name; exported = a.exported; shape = s } ∷ ys) (g.shape a.of (h.0).numbered) (added_same as' h.1)

  added_still : (xs : List Added) → AreElements t.entries.items xs → AreElements u.entries.items xs
  added_still [] h = tt
  added_still (a ∷ as') h = (element_still t u g a.of h.0, added_still as' h.1)

  pub so_far_still : (l : Layout) (x : J.Layout) → IsSoFar t l x → IsSoFar u l x
  so_far_still l x h = record {
    module_number = h.module_number;
    line = h.line;
    added = h.added ∙ sym (added_same l.added.items h.elements);
    fields = λ q. h.fields q ∙ sym (entry_same (at_fields l.fields q) (λ f at. (h.closed).field q f at));
    cells = h.cells;
    extent = h.extent;
    narrow = h.narrow;
    elements = added_still l.added.items h.elements;
    closed = record { field = λ q f at. numbered_still t u g f.of ((h.closed).field q f at) };
    short = h.short;
  }

-- ---- where it begins

abbrev base_known : TypeTable → Option Layout → J.Layout
base_known t None = no_layout
base_known t (Some l) = layout_of t.types l

closed_at : (es : List TypeRef) (xs : List RecordType) (ls : List Layout) → AreRecordTypes es xs ls → (n : ℕ) (l : Layout) → slice_get ls n ≡ Some l → IsClosed es l
closed_at es [] [] h n l at = none_some l at
closed_at es (x ∷ xs) [] h n l at = absurd h
closed_at es [] (k ∷ ls) h n l at = absurd h
closed_at es (x ∷ xs) (k ∷ ls) h zero l at = subst (IsClosed es) (some_same k l at) h.1
closed_at es (x ∷ xs) (k ∷ ls) h (suc n) l at = closed_at es xs ls h.2 n l at

pub narrow_at : (es : List TypeRef) (xs : List RecordType) (ls : List Layout) → AreRecordTypes es xs ls → (n : ℕ) (l : Layout) → slice_get ls n ≡ Some l → l.extent.bytes ≤ 8 * l.cells
narrow_at es [] [] h n l at = none_some l at
narrow_at es (x ∷ xs) [] h n l at = absurd h
narrow_at es [] (k ∷ ls) h n l at = absurd h
narrow_at es (x ∷ xs) (k ∷ ls) h zero l at = subst (λ z. z.extent.bytes ≤ 8 * z.cells) (some_same k l at) (h.0).narrow
narrow_at es (x ∷ xs) (k ∷ ls) h (suc n) l at = narrow_at es xs ls h.2 n l at

pub begun_none : (t : TypeTable) (l : Layout) → IsBlank l → IsSoFar t l (record no_layout { added = [] })
begun_none t l h = record {
  module_number = sym h.unit;
  line = sym h.line;
  added = sym (ap (map (added_of t.types)) h.added);
  fields = λ q. sym (ap (option_map (field_of t.types)) (h.fields q));
  cells = h.cells;
  extent = h.extent;
  narrow = omega arith;
  elements = subst (AreElements t.entries.items) (sym h.added) tt;
  closed = record { field = λ q f at. none_some f (sym (h.fields q) ∙ at) };
  short = let e = ap length h.line in omega (arith, e);
}

module _ (b : TableBuilder) (ok : IsBuilt b) where
  begun_copy : (l base : Layout) → IsClosed b.table.entries.items base → base.extent.bytes ≤ 8 * base.cells → IsCopy l base → length l.line.items ≤ 15 → IsSoFar b.table l (record (layout_of b.table.types base) { added = [] })
  begun_copy l base closed narrow c short = record {
    module_number = sym c.module_number;
    line = sym c.line;
    added = sym (ap (map (added_of b.table.types)) c.added);
    fields = λ q. sym (ap (option_map (field_of b.table.types)) (c.fields q));
    cells = c.cells;
    extent = c.extent;
    narrow = narrow;
    elements = subst (AreElements b.table.entries.items) (sym c.added) tt;
    closed = record { field = λ q f at. closed.field q f (sym (c.fields q) ∙ at) };
    short = short;
  }

  begun_by : (l : Layout) (n : ℕ) (o : Option Layout) → slice_get b.table.layouts.items n ≡ o → IsBegunFrom l o → length l.line.items ≤ 15 → IsSoFar b.table l (record (base_known b.table o) { added = [] })
  begun_by l n None at h short = begun_none b.table l h
  begun_by l n (Some base) at h short = begun_copy l base (closed_at b.table.entries.items b.table.types.records b.table.layouts.items ok.layouts n base at) (narrow_at b.table.entries.items b.table.types.records b.table.layouts.items ok.layouts n base at) h short

  pub begun_from : (l : Layout) (n : ℕ) → IsBegunFrom l (slice_get b.table.layouts.items n) → length l.line.items ≤ 15 → IsSoFar b.table l (record (base_known b.table (slice_get b.table.layouts.items n)) { added = [] })
  begun_from l n h short = begun_by l n (slice_get b.table.layouts.items n) refl h short

pub line_from : (t : TypeTable) (l : Layout) (o : Option Layout) → IsBegunFrom l o → (base_known t o).line ≡ l.line.items
line_from t l None h = sym h.line
line_from t l (Some base) h = sym h.line

-- what the judgement knows of a record type there
pub known_at : (r : Surroundings) (s : Declaring) (m : Making) → Makes r s m → (n : ℕ) → T.layout_of (slice_get m.world.known.records n) ≡ base_known s.types.table (slice_get s.types.table.layouts.items n)
known_at r s m makes n =
    ap (λ (w : World). T.layout_of (slice_get w.known.records n)) makes.world
    ∙ ap T.layout_of (get_map (layout_of s.types.table.types) s.types.table.layouts.items n)
    ∙ by (slice_get s.types.table.layouts.items n)
  where
    by : (o : Option Layout) → T.layout_of (option_map (layout_of s.types.table.types) o) ≡ base_known s.types.table o
    by None = refl
    by (Some l) = refl

-- a base, and whether one more level may extend it
pub base_split : (p : Source) (b : Base) (w : World) → T.base_layout p (Some b) w
    ≡ (base_number p b w >>= λ n. rule 42 (place p (b.name).name) (nat_le (length (T.layout_of (slice_get w.known.records n)).line) 15) >> Keeps (T.layout_of (slice_get w.known.records n)))
base_split p b w = then_then (type_at p 42 b.name w) (λ s. some 42 (place p (b.name).name) (T.record_only s))
    (λ n. rule 42 (place p (b.name).name) (nat_le (length (T.layout_of (slice_get w.known.records n)).line) 15) >> Keeps (T.layout_of (slice_get w.known.records n)))

module _ (r : Surroundings) (s : Declaring) (m : Making) (makes : Makes r s m) (n : ℕ) (l : Layout) (from : IsBegunFrom l (slice_get s.types.table.layouts.items n)) where
  pub line_known : length (T.layout_of (slice_get m.world.known.records n)).line ≡ length l.line.items
  line_known = ap (λ (z : J.Layout). length z.line) (known_at r s m makes n) ∙ ap (λ line. length line) (line_from s.types.table l (slice_get s.types.table.layouts.items n) from)

  pub base_begun : IsBuilt s.types → length l.line.items ≤ 15 → IsBegun s l (T.layout_of (slice_get m.world.known.records n))
  base_begun ok short = subst (λ (z : J.Layout). IsSoFar s.types.table l (record z { added = [] })) (sym (known_at r s m makes n)) (begun_from s.types ok l n from short)

-- one level more, or one too many
pub deep : {B : Type 0} {S : B → J.Layout → Type 0} {at : ℕ} {e : CheckFault} (l : J.Layout) (n : ℕ) → length l.line ≡ n → 15 < n → e ≡ Fault 42 at → Answers S (rule 42 at (nat_le (length l.line) 15) >> Keeps l) (Err e)
deep {S = S} {at = at} l n is more h =
    let past : nat_le (length l.line) 15 ≡ false = grind (arith, nat_tests, is, more) in
    subst (λ (z : CheckFault). Answers S (rule 42 at (nat_le (length l.line) 15) >> Keeps l) (Err z)) (sym h) (broken 42 at (Keeps l) past)

pub shallow : {B : Type 0} {S : B → J.Layout → Type 0} {b : B} (at : ℕ) (l : J.Layout) (n : ℕ) → length l.line ≡ n → n ≤ 15 → S b l → Answers S (rule 42 at (nat_le (length l.line) 15) >> Keeps l) (Ok b)
shallow at l n is few h =
    let within : nat_le (length l.line) 15 ≡ true = grind (arith, nat_tests, is, few) in
    kept 42 at (Keeps l) within (record { by = h })

-- what the table knows of record types takes at most eight bytes a cell
pub records_narrow : (b : TableBuilder) → IsBuilt b → (r : ℕ) → (J.extent_in (slice_get (known_of b.table).records r)).bytes ≤ 8 * J.cells_of (slice_get (known_of b.table).records r)
records_narrow b ok r = by (slice_get b.table.layouts.items r) refl
  where
    by : (o : Option Layout) → slice_get b.table.layouts.items r ≡ o → (J.extent_in (slice_get (known_of b.table).records r)).bytes ≤ 8 * J.cells_of (slice_get (known_of b.table).records r)
    by None at = subst (λ (o : Option J.Layout). (J.extent_in o).bytes ≤ 8 * J.cells_of o) (sym (get_map (layout_of b.table.types) b.table.layouts.items r ∙ ap (option_map (layout_of b.table.types)) at)) (omega arith)
    by (Some l) at = subst (λ (o : Option J.Layout). (J.extent_in o).bytes ≤ 8 * J.cells_of o) (sym (get_map (layout_of b.table.types) b.table.layouts.items r ∙ ap (option_map (layout_of b.table.types)) at)) (narrow_at b.table.entries.items b.table.types.records b.table.layouts.items ok.layouts r l at)
