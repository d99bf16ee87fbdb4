-- Record types, once their fields are judged.
use Rattle.std.proofs.Common.{◌≡◌, ℕ, ◌*◌, ◌<◌, ◌≤◌, List, ◌∷◌, length, map, Bool, true, false, Option, option_map, sym, ap, ◌∙◌, subst, arith}
use Rattle.std.specs.Prelude.{slice_set, nat_le}
use Rattle.std.proofs.lemmas.Option.{slice_get_within}
use mathlib.Core.Path.{fun_ext}
use Rattle.ob_types.specs.Trees.{round_up, rounded_extent}
use Rattle.ob_types.specs.declared.types.Extent.{Extent}
use Rattle.ob_judge.specs.Judged.{Judged, Keeps, Breaks, ◌>>=◌, rule}
use Rattle.ob_judge.specs.Shapes as J
use Rattle.ob_judge.specs.Scopes.{Source, place}
use Rattle.ob_judge.specs.Making.{Making, with_known}
use Rattle.ob_judge.specs.Types.{limit}
use Rattle.check_types.specs.Fields.{at_fields}
use Rattle.check_types.specs.declared.table.Layout.{Layout}
use Rattle.check_types.specs.declared.table.TypeTable.{TypeTable}
use Rattle.check_types.specs.declared.types.TypeRef.TheVariants as TheType
use Rattle.check_types.specs.Known.{field_of, added_of, layout_of}
use Rattle.table_builder.specs.declared.builder.TableBuilder.{TableBuilder}
use Rattle.table_builder.specs.Cells.{counted_extent}
use Rattle.table_builder.specs.Builder.{IsBuilt}
use Rattle.table_builder.specs.Entries.{IsNumbered}
use Rattle.table_builder.specs.Contents.{AreElements, IsReady}
use Rattle.check_making.specs.new_types.Layouts.{IsSoFar}
use Rattle.check_making.specs.new_types.Records.{IsKnown, IsWhole, with_layout}
use Rattle.check_making.proofs.new_types.Cells.{exact_cells, counted_is, narrow_rounded, exact_extent}

module _ (b : TableBuilder) (ok : IsBuilt b) where
  pub record_there : (n : ℕ) → IsNumbered b.table.entries.items (TheType.Record n) → n < length b.table.layouts.items
  record_there n h = let l = slice_get_within b.numbers.records.items n h.0 (ok.index.all (TheType.Record n) h.0 h.1) in let e = ok.records in omega (arith, l, e)

  pub pointer_there : (n : ℕ) → IsNumbered b.table.entries.items (TheType.Pointer n) → n < length b.table.bases.items
  pointer_there n h = let l = slice_get_within b.numbers.pointers.items n h.0 (ok.index.all (TheType.Pointer n) h.0 h.1) in let e = ok.pointers in omega (arith, l, e)

module _ (t : TypeTable) (unit r : ℕ) (l whole : Layout) (is : IsWhole unit r l whole) where
  pub whole_ready : IsKnown t l → l.cells ≤ 1048576 → IsReady t.entries.items whole
  whole_ready h few = record {
    closed = record { field = λ q f at. (h.closed).field q f (sym (is.fields q) ∙ at) };
    added = subst (λ v. AreElements t.entries.items v.items) (sym is.added) h.elements;
    line = let e = ap length is.line in let s = h.short in omega (arith, e, s);
    cells = subst (λ n. n ≤ 1048576) (sym is.cells) few;
    narrow = let e = ap (λ x. x.bytes) is.extent in let n = narrow_rounded l.extent.wide l.extent.bytes l.cells h.narrow in let m = counted_is (round_up l.extent.wide l.extent.bytes) (8 * l.cells) n (omega (arith, few)) in let k = is.cells in omega (arith, e, n, m, k);
  }

  abbrev made : ℕ → List ℕ → List J.Added → (List ℕ → Option J.Field) → ℕ → Extent → J.Layout
  made k line added fields cells extent = record { module_number = k; line = line; added = added; fields = fields; cells = cells; extent = extent }

  abbrev layout_fields : List ℕ → Option J.Field
  layout_fields q = option_map (field_of t.types) (at_fields whole.fields q)

  pub whole_means : (g : J.Layout) → IsSoFar t l g → l.cells ≤ 1048576 → (here : ℕ) → here ≡ unit → layout_of t.types whole ≡ record g { module_number = here; line = r ∷ g.line; extent = rounded_extent g.extent }
  whole_means g h few here e =
      let same = exact_cells l.cells g.cells h.cells few in
      let fields : layout_fields ≡ g.fields = fun_ext (λ q. ap (option_map (field_of t.types)) (is.fields q) ∙ sym (h.fields q)) in
      ap (λ k. made k whole.line.items (map (added_of t.types) whole.added.items) layout_fields whole.cells whole.extent) (is.module_number ∙ sym e)
      ∙ ap (λ k. made here k (map (added_of t.types) whole.added.items) layout_fields whole.cells whole.extent) (is.line ∙ ap (λ k. r ∷ k) (sym h.line))
      ∙ ap (λ k. made here (r ∷ g.line) k layout_fields whole.cells whole.extent) (ap (λ v. map (added_of t.types) v.items) is.added ∙ sym h.added)
      ∙ ap (λ k. made here (r ∷ g.line) g.added k whole.cells whole.extent) fields
      ∙ ap (λ k. made here (r ∷ g.line) g.added g.fields k whole.extent) (is.cells ∙ same)
      ∙ ap (λ x. made here (r ∷ g.line) g.added g.fields g.cells x)
      (is.extent ∙ ap (λ x. counted_extent (rounded_extent x)) (h.extent ∙ exact_extent g.extent g.cells h.narrow (omega (arith, same, few))) ∙ exact_extent (rounded_extent g.extent) g.cells (narrow_rounded g.extent.wide g.extent.bytes g.cells h.narrow) (omega (arith, same, few)))

module _ (p : Source) (i r : ℕ) (g : J.Layout) (m : Making) where
  abbrev pub as_known : Making
  as_known = with_known (λ k. record k { records = slice_set k.records r (record g { module_number = m.world.module_number; line = r ∷ g.line; extent = rounded_extent g.extent }) }) m

  abbrev after : Bool → Judged (J.Shape × Making)
  after b = (rule 35 (place p i) b >>= λ a. Keeps (a, m)) >>= λ (q : Unit {0} × Making). Keeps (J.Record r, with_known (λ k. record k { records = slice_set k.records r (record g { module_number = (q.1).world.module_number; line = r ∷ g.line; extent = rounded_extent g.extent }) }) q.1)

  pub too_big : nat_le g.cells limit ≡ false → with_layout p i r g m ≡ Breaks 35 (place p i)
  too_big e = ap after e

  pub fits : nat_le g.cells limit ≡ true → with_layout p i r g m ≡ Keeps (J.Record r, as_known)
  fits e = ap after e
