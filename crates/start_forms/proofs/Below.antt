-- What designators name by its dynamic type is of a record type of the table.
use Rattle.std.proofs.Common.{◌≡◌, ℕ, suc, ◌<◌, List, [], ◌∷◌, length, Bool, true, false, Option, Some, None, refl, sym, subst, eqb-true, slice_get}
use Rattle.ob_types.specs.declared.types.TypeKind.{TypeKind}
use Rattle.ob_types.specs.declared.types.TypeKind.TheVariants as TheKind
use Rattle.ob_types.specs.declared.types.Mode.{Mode}
use Rattle.ob_types.specs.declared.types.Mode.TheVariants as TheMode
use Rattle.ob_types.specs.declared.types.Formal.{Formal}
use Rattle.ob_types.specs.declared.tree.Base.{Base}
use Rattle.ob_types.specs.declared.tree.Base.TheVariants.{Done, Global, Local, Parameter, Text}
use Rattle.ob_types.specs.declared.tree.Designator.{Designator, Whole, Part', Row_of-Selector, end_of-Selector, more_of-Selector}
use Rattle.ob_types.specs.declared.tree.Selector.{Selector, Index, Field, Dereference, Narrow}
use Rattle.ob_types.specs.declared.program.Program.{Program}
use Rattle.ob_types.specs.Forms.{Form, ToRecord, scalar_form}
use Rattle.ob_types.specs.Layout.{kind_of, record_of, types_of, extends}
use Rattle.ob_types.specs.LegalTypes.{is_record_type, types_legal}
use Rattle.ob_types.specs.Meaning.{procedure_of, globals_of, locals_of, texts_of, text_number, kind_in, record_of_kind}
use Rattle.ob_types.specs.WellFormed
use Rattle.ob_types.specs.WellFormed.{Named, Cells, Of, OpenOf, Dynamic, Characters, provided, with_some, holds_of, gives_number, gives_pointer, is_writable, pointed, open_element, record_by, equal_kinds}
use Rattle.ob_types.proofs.Tests.{no, none_some, some_same}
use Rattle.start_forms.proofs.Shapes.{many, KindWithin, kinds_within, record_below}

module _ (p : Program) (legal : types_legal p.types ≡ true) where
  abbrev n : ℕ
  n = many p.types

  -- a pointer's form names a record type of the table
  abbrev FormBelow : Form → Type 0
  FormBelow (ToRecord r) = r < n
  FormBelow _ = Unit {0}

  abbrev FormBelowIf : Option Form → Type 0
  FormBelowIf None = Unit {0}
  FormBelowIf (Some x) = FormBelow x

  abbrev pub Below : Named → Type 0
  Below (Dynamic r) = r < n
  Below (Cells x w) = FormBelow x
  Below _ = Unit {0}

  abbrev BelowIf : Option Named → Type 0
  BelowIf None = Unit {0}
  BelowIf (Some d) = Below d

  below_provided : (b : Bool) (o : Option Named) → (b ≡ true → BelowIf o) → BelowIf (provided b o)
  below_provided true o h = h refl
  below_provided false o h = tt

  below_number : (o : Option ℕ) (w : Bool) → BelowIf (with_some o (λ k. Some (Of k w)))
  below_number None w = tt
  below_number (Some k) w = tt

  form_provided : (b : Bool) (o : Option Form) → (b ≡ true → FormBelowIf o) → FormBelowIf (provided b o)
  form_provided true o h = h refl
  form_provided false o h = tt

  -- ---- forms

  kind_form : (kind : TypeKind) → KindWithin p.types kind → FormBelowIf (scalar_form kind)
  kind_form (TheKind.Pointer r) h = h
  kind_form (TheKind.Array None e) h = tt
  kind_form (TheKind.Array (Some m) e) h = tt
  kind_form _ h = tt

  scalar_below : (d : Named) → Below d → FormBelowIf (WellFormed.scalar_in p d)
  scalar_below (Cells x w) h = h
  scalar_below (Of k w) h = kind_form (kind_of p.types k) (kinds_within p.types legal k)
  scalar_below (OpenOf e w) h = tt
  scalar_below (Dynamic r) h = tt
  scalar_below (Characters m) h = tt

  scalar_if : (o : Option Named) → BelowIf o → FormBelowIf (with_some o (WellFormed.scalar_in p))
  scalar_if None h = tt
  scalar_if (Some d) h = scalar_below d h

  guards_below : (rs : List ℕ) (o : Option Form) → FormBelowIf o → FormBelowIf (WellFormed.guarded_form p rs o)
  guards_below [] o h = h
  guards_below (r ∷ rs) o h =
      let inner = provided (gives_pointer o) (Some (ToRecord r)) in
      guards_below rs (provided (is_record_type p.types r) inner)
      (form_provided (is_record_type p.types r) inner (λ is. form_provided (gives_pointer o) (Some (ToRecord r)) (λ _. record_below p.types r is)))

  pointed_below : (o : Option Form) → FormBelowIf o → BelowIf (with_some o pointed)
  pointed_below None h = tt
  pointed_below (Some (ToRecord r)) h = h
  pointed_below (Some _) h = tt

  -- ---- parts of designators

  record_of_parameter : (kind : TypeKind) → KindWithin p.types kind → BelowIf (with_some (record_by kind) (λ r. Some (Dynamic r)))
  record_of_parameter (TheKind.Record r) h = h
  record_of_parameter _ h = tt

  open_of_parameter : (kind : TypeKind) (w : Bool) → BelowIf (with_some (open_element kind) (λ e. Some (OpenOf e w)))
  open_of_parameter (TheKind.Array None e) w = tt
  open_of_parameter (TheKind.Array (Some m) e) w = tt
  open_of_parameter _ w = tt

  below_parameter : (m : Mode) (k : ℕ) (w : Bool) → BelowIf (WellFormed.parameter_by p m k w)
  below_parameter TheMode.Value k w = tt
  below_parameter TheMode.Place k w = tt
  below_parameter TheMode.Record k w = record_of_parameter (kind_of p.types k) (kinds_within p.types legal k)
  below_parameter TheMode.Open k w = open_of_parameter (kind_of p.types k) w

  module _ (f : ℕ) where
    below_base : (b : Base) → BelowIf (WellFormed.base_named p f b)
    below_base Done = tt
    below_base (Global m v) = below_number (slice_get (globals_of p m) v) true
    below_base (Local v) = below_number (slice_get (locals_of (procedure_of p f)) v) true
    below_base (Parameter k) = by (slice_get (procedure_of p f).formals k)
      where
        by : (o : Option Formal) → BelowIf (with_some o (λ x. WellFormed.parameter_by p x.mode x.type_number x.variable))
        by None = tt
        by (Some x) = below_parameter x.mode x.type_number x.variable
    below_base (Text k) = by (slice_get (texts_of p.procedures) (text_number p f k))
      where
        by : (o : Option (List ℕ)) → BelowIf (with_some o (λ xs. Some (Characters (suc (length xs)))))
        by None = tt
        by (Some xs) = tt

    below_select : (s : Selector) (o : Option Named) → BelowIf o → BelowIf (WellFormed.select_named p f s o)
    below_select (Index m e x) None h = tt
    below_select (Index m e x) (Some d) h =
        let last = provided (gives_number (WellFormed.form p f x)) (Some (Of e (is_writable d))) in
        below_provided (WellFormed.array_of p e m d) last (λ _. below_provided (gives_number (WellFormed.form p f x)) (Some (Of e (is_writable d))) (λ _. tt))
    below_select (Field r i) None h = tt
    below_select (Field r i) (Some d) h =
        let field = slice_get (types_of (record_of p.types r).fields) i in
        below_provided (WellFormed.has_record p r d) (with_some field (λ k. Some (Of k (is_writable d)))) (λ _. below_number field (is_writable d))
    below_select (Dereference rs) o h =
        let x = with_some o (WellFormed.scalar_in p) in
        pointed_below (WellFormed.guarded_form p rs x) (guards_below rs x (scalar_if o h))
    below_select (Narrow r) o h =
        let last = provided (holds_of (WellFormed.is_dynamic p) o) (Some (Dynamic r)) in
        below_provided (is_record_type p.types r) last (λ is. below_provided (holds_of (WellFormed.is_dynamic p) o) (Some (Dynamic r)) (λ _. record_below p.types r is))

    below_selected : {m : _} (row : Row_of-Selector m) (o : Option Named) → BelowIf o → BelowIf (WellFormed.selected_named p f row o)
    below_selected end_of-Selector o h = h
    below_selected (more_of-Selector s more) o h = below_selected more (WellFormed.select_named p f s o) (below_select s o h)

    -- what is named has the type that the designator says
    has_type : (kind : TypeKind) (o : Option Named) (d : Named) → with_some o (WellFormed.of_kind p kind) ≡ Some d → (WellFormed.has_kind p kind d ≡ true) × (o ≡ Some d)
    has_type kind None d e = none_some d e
    has_type kind (Some x) d e = by (WellFormed.has_kind p kind x) refl e
      where
        by : (b : Bool) → WellFormed.has_kind p kind x ≡ b → provided b (Some x) ≡ Some d → (WellFormed.has_kind p kind d ≡ true) × (Some x ≡ Some d)
        by true is e = (subst (λ y. WellFormed.has_kind p kind y ≡ true) (some_same x d e) is, e)
        by false is e = none_some d e

    named_below : (x : Designator) (d : Named) → WellFormed.named p f x ≡ Some d → (WellFormed.has_kind p (kind_in x) d ≡ true) × Below d
    named_below (Whole b kind) d e =
        let h = has_type kind (WellFormed.base_named p f b) d e in
        (h.0, subst BelowIf h.1 (below_base b))
    named_below (Part' _ b kind _ row) d e =
        let h = has_type kind (WellFormed.selected_named p f row (WellFormed.base_named p f b)) d e in
        (h.0, subst BelowIf h.1 (below_selected row (WellFormed.base_named p f b) (below_base b)))

    -- ---- the record type that a designator says

    equal_record : (kind : TypeKind) (s : ℕ) → equal_kinds kind (TheKind.Record s) ≡ true → s ≡ record_of_kind kind
    equal_record (TheKind.Record r) s h = sym (eqb-true r s h)
    equal_record (TheKind.Array None e) s h = no h
    equal_record (TheKind.Array (Some m) e) s h = no h
    equal_record _ s h = no h

    of_type : (kind own : TypeKind) (test : ℕ → Bool) → KindWithin p.types own → equal_kinds kind own ≡ true → holds_of test (record_by own) ≡ true → record_of_kind kind < n
    of_type kind (TheKind.Record s) test within same has = subst (λ r. r < n) (equal_record kind s same) within
    of_type kind _ test within same has = no has

    pub said_below : (x : Designator) (d : Named) → WellFormed.named p f x ≡ Some d → WellFormed.has_record p (record_of_kind (kind_in x)) d ≡ true → record_of_kind (kind_in x) < n
    said_below x d e has = by d (named_below x d e) has
      where
        by : (d : Named) → (WellFormed.has_kind p (kind_in x) d ≡ true) × Below d → WellFormed.has_record p (record_of_kind (kind_in x)) d ≡ true → record_of_kind (kind_in x) < n
        by (Of k w) h has = of_type (kind_in x) (kind_of p.types k) (λ s. extends p.types s (record_of_kind (kind_in x))) (kinds_within p.types legal k) h.0 has
        by (Dynamic s) h has = subst (λ r. r < n) (equal_record (kind_in x) s h.0) h.1
        by (Cells y w) h has = no has
        by (OpenOf a w) h has = no has
        by (Characters m) h has = no has
