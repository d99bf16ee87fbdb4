-- Fields judged one after another.
use Rattle.std.proofs.Common.{◌≡◌, ℕ, ◌+◌, ◌-◌, ◌*◌, ◌≤◌, ◌^◌, List, [], ◌∷◌, ◌++◌, length, map, Bool, true, false, not, cond, Option, Some, None, Err, option_map, refl, sym, ap, ap₂, ◌∙◌, subst, arith}
use Rattle.std.specs.Prelude.{is_none, is_some, min}
use Rattle.std.specs.Str.{bytes_eq}
use Rattle.std.proofs.lemmas.List.{map-append, length-map}
use Rattle.ob_types.specs.Trees.{with_part}
use Rattle.ob_types.specs.declared.types.Extent.{Extent}
use Rattle.ob_types.proofs.Tests.{some_same}
use Rattle.ob_syntax.specs.declared.names.Identdef.{Identdef}
use Rattle.ob_syntax.specs.declared.names.NextIdentdef.{NextIdentdef}
use Rattle.ob_judge.specs.Judged.{Judged, Keeps, Breaks, ◌>>=◌, rule}
use Rattle.ob_judge.specs.Shapes as J
use Rattle.ob_judge.specs.Scopes.{Source, World, place, spelled}
use Rattle.ob_judge.specs.Making.{Making}
use Rattle.ob_judge.specs.Parameters.{stand, next_list}
use Rattle.ob_judge.specs.Types.{stand_fields, add_fields}
use Rattle.check_types.specs.steps.Answers.{Answers}
use Rattle.check_types.specs.declared.steps.fault.CheckFault.{CheckFault}
use Rattle.check_types.specs.declared.steps.fault.CheckFault.TheVariants.{Fault, Memory}
use Rattle.check_types.specs.Fields.{at_fields}
use Rattle.check_types.proofs.steps.Maps.{mapped_choice}
use Rattle.check_making.proofs.parameters.Answering.{then_then}
use Rattle.check_types.specs.declared.table.Added.{Added}
use Rattle.check_types.specs.declared.fields.FieldEntry.{FieldEntry}
use Rattle.check_types.specs.declared.table.Layout.{Layout}
use Rattle.check_types.specs.declared.table.TypeTable.{TypeTable}
use Rattle.check_types.specs.declared.types.TypeRef.{TypeRef}
use Rattle.check_types.specs.Known.{field_of, added_of, known_of}
use Rattle.check_types.specs.TypeMeaning.{type_shape}
use Rattle.table_builder.specs.Cells.{most_cells, counted_extent}
use Rattle.table_builder.specs.Entries.{IsNumbered, IsElement}
use Rattle.table_builder.specs.Contents.{AreElements}
use Rattle.check_making.specs.new_types.Layouts.{IsSoFar}
use Rattle.check_making.specs.new_types.Fields.{IsWith}
use Rattle.check_making.proofs.new_types.Cells.{capped_sum, counted_part, narrow_rounded}

-- ---- names of fields

module _ (p : Source) (x : Identdef) (g : J.Layout) (m : Making) where
  abbrev one : Bool → Judged (Unit {0} × Making)
  one b = (rule 36 (place p x.name) b >>= λ a. Keeps (a, m)) >>= λ (q : Unit {0} × Making). stand p (x.name ∷ []) q.1 >>= λ (r : Unit {0} × Making). Keeps (tt, r.1)

  pub name_taken : is_none (g.fields (spelled p x.name)) ≡ false → stand_fields p (x ∷ []) g m ≡ Breaks 36 (place p x.name)
  name_taken e = ap one e

  pub name_free : is_none (g.fields (spelled p x.name)) ≡ true → stand_fields p (x ∷ []) g m ≡ (stand p (x.name ∷ []) m >>= λ (r : Unit {0} × Making). Keeps (tt, r.1))
  name_free e = ap one e

  module _ (xs : List Identdef) where
    abbrev both : Bool → Judged (Unit {0} × Making)
    both b = (rule 36 (place p x.name) b >>= λ a. Keeps (a, m)) >>= λ (q : Unit {0} × Making). stand p (x.name ∷ []) q.1 >>= λ (r : Unit {0} × Making). stand_fields p xs g r.1

    split : (b : Bool) → both b ≡ (one b >>= λ z. stand_fields p xs g z.1)
    split true = then_then (stand p (x.name ∷ []) m) (λ (r : Unit {0} × Making). Keeps (tt, r.1)) (λ (z : Unit {0} × Making). stand_fields p xs g z.1)
    split false = refl

    pub names_law : stand_fields p (x ∷ xs) g m ≡ (stand_fields p (x ∷ []) g m >>= λ z. stand_fields p xs g z.1)
    names_law = split (is_none (g.fields (spelled p x.name)))

-- ---- one more field

elements_more : (es : List TypeRef) (xs : List Added) (a : Added) → AreElements es xs → IsElement es a.of → AreElements es (xs ++ a ∷ [])
elements_more es [] a h k = (k, tt)
elements_more es (x ∷ xs) a h k = (h.0, elements_more es xs a h.1 k)

module _ (p : Source) (t : TypeTable) (old new : Layout) (x : Identdef) (r n unit : ℕ) (of : TypeRef) (count : ℕ) (takes : Extent) (number : n ≡ length old.added.items) (element : IsElement t.entries.items of)
    (counted : count ≡ min most_cells (J.cells (known_of t) (type_shape t.types of))) (measured : takes ≡ counted_extent (J.extent (known_of t) (type_shape t.types of)))
    (thin : (J.extent (known_of t) (type_shape t.types of)).bytes ≤ 8 * J.cells (known_of t) (type_shape t.types of))
    (with : IsWith p old x (record { adder = r; number = n; of = of; exported = is_some x.star; owner = unit }) count takes new) where
  abbrev entry : FieldEntry
  entry = record { adder = r; number = n; of = of; exported = is_some x.star; owner = unit }

  abbrev shape : J.Shape
  shape = type_shape t.types of

  closed_by : (b : Bool) (q : List ℕ) (f : FieldEntry) (o : Option FieldEntry) → ((h : FieldEntry) → o ≡ Some h → IsNumbered t.entries.items h.of) → cond b (Some entry) o ≡ Some f → IsNumbered t.entries.items f.of
  closed_by true q f o go at = subst (λ (h : FieldEntry). IsNumbered t.entries.items h.of) (some_same entry f at) element.numbered
  closed_by false q f o go at = go f at

  pub with_one : (g : J.Layout) → IsSoFar t old g → (w : World) → w.known ≡ known_of t → w.module_number ≡ unit → IsSoFar t new (add_fields p r w shape (x ∷ []) g)
  with_one g h w known here =
      let many : length g.added ≡ n = ap (λ as'. length as') h.added ∙ length-map old.added.items (added_of t.types) ∙ sym number in
      record {
        module_number = h.module_number ∙ sym with.module_number;
        line = h.line ∙ ap (λ v. v.items) (sym with.line);
        added = ap (λ as'. as' ++ record { name = spelled p x.name; exported = is_some x.star; shape = shape } ∷ []) h.added
            ∙ sym (map-append (added_of t.types) old.added.items (record { name = spelled p x.name; exported = is_some x.star; of = of } ∷ []))
            ∙ ap (map (added_of t.types)) (sym with.added);
        fields = λ q.
            ap₂ (λ (f : J.Field) (o : Option J.Field). cond (bytes_eq (spelled p x.name) q) (Some f) o)
            (ap₂ (λ k o. record { adder = r; number = k; shape = shape; exported = is_some x.star; owner = o }) many here) (h.fields q)
            ∙ sym (mapped_choice (field_of t.types) (bytes_eq (spelled p x.name) q) entry (at_fields old.fields q))
            ∙ ap (option_map (field_of t.types)) (sym (with.fields q));
        cells = with.cells ∙ ap₂ (λ a b. min most_cells (min (a + b) (2 ^ 64 - 1))) h.cells counted
            ∙ capped_sum most_cells (2 ^ 64 - 1) g.cells (J.cells (known_of t) shape) (omega arith)
            ∙ ap (λ k. min most_cells (g.cells + J.cells k shape)) (sym known);
        extent = with.extent ∙ ap₂ (λ a b. counted_extent (with_part a b)) h.extent measured
            ∙ counted_part g.extent (J.extent (known_of t) shape)
            ∙ ap (λ k. counted_extent (with_part g.extent (J.extent k shape))) (sym known);
        narrow = subst (λ k. (with_part g.extent (J.extent k shape)).bytes ≤ 8 * (g.cells + J.cells k shape)) (sym known)
            (let a = narrow_rounded (J.extent (known_of t) shape).wide g.extent.bytes g.cells h.narrow in omega (arith, a, thin));
        elements = subst (AreElements t.entries.items) (sym with.added) (elements_more t.entries.items old.added.items _ h.elements element);
        closed = record { field = λ q f at. closed_by (bytes_eq (spelled p x.name) q) q f (at_fields old.fields q) (λ k is. (h.closed).field q k is) (sym (with.fields q) ∙ at) };
        short = subst (λ v. length v.items ≤ 15) (sym with.line) h.short;
      }

-- ---- lists

module _ (p : Source) (g : J.Layout) where
  abbrev pub names_from : Unit {0} × Making → List NextIdentdef → Judged (Unit {0} × Making)
  names_from a xs = stand_fields p (next_list xs) g a.1

  abbrev pub name_item : Unit {0} × Making → NextIdentdef → Judged (Unit {0} × Making)
  name_item a x = stand_fields p (x.name ∷ []) g a.1

  pub names_step : (a : Unit {0} × Making) (x : NextIdentdef) (xs : List NextIdentdef) → names_from a (x ∷ xs) ≡ (name_item a x >>= λ z. names_from z xs)
  names_step a x xs = names_law p x.name g a.1 (next_list xs)

module _ (p : Source) (r : ℕ) (w : World) (s : J.Shape) where
  abbrev pub fields_from : J.Layout → List NextIdentdef → Judged J.Layout
  fields_from g xs = Keeps (add_fields p r w s (next_list xs) g)

  abbrev pub field_item : J.Layout → NextIdentdef → Judged J.Layout
  field_item g x = Keeps (add_fields p r w s (x.name ∷ []) g)

  pub fields_step : (g : J.Layout) (x : NextIdentdef) (xs : List NextIdentdef) → fields_from g (x ∷ xs) ≡ (field_item g x >>= λ z. fields_from z xs)
  fields_step g x xs = refl

-- ---- whether there is a field

pub none_mapped : {A B : Type 0} (f : A → B) (o : Option A) → is_none (option_map f o) ≡ not (is_some o)
none_mapped f None = refl
none_mapped f (Some a) = refl

-- want of memory at one part is that of the whole
pub field_first : {A A' B D : Type 0} {R : B → A → Type 0} {S : D → A' → Type 0} {e : CheckFault} {a : A} {b : A'} → Answers R (Keeps a) (Err e) → Answers S (Keeps b) (Err e)
field_first {e = Fault n at} h = absurd h.by
field_first {e = Memory} h = record { by = tt }
