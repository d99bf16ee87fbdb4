-- What a well-formed designator names has a closed type.
use Rattle.std.proofs.Common.{◌≡◌, ℕ, suc, List, length, Bool, true, false, ◌&&◌, ◌^◌, Option, Some, None, refl, sym, ap, subst, ◌∙◌, eqb-true, slice_get}
use Rattle.std.specs.Prelude.{◌==◌, nat_lt}
use Rattle.ob_types.specs.declared.types.TypeKind.{TypeKind}
use Rattle.ob_types.specs.declared.types.TypeKind.TheVariants as TheKind
use Rattle.ob_types.specs.declared.types.Mode.{Mode}
use Rattle.ob_types.specs.declared.types.Mode.TheVariants as TheMode
use Rattle.ob_types.specs.declared.types.Formal.{Formal}
use Rattle.ob_types.specs.declared.tree.Base.{Base}
use Rattle.ob_types.specs.declared.tree.Base.TheVariants.{Done, Global, Local, Parameter, Text}
use Rattle.ob_types.specs.declared.tree.Designator.{Designator, Whole, Part', Row_of-Selector, end_of-Selector, more_of-Selector}
use Rattle.ob_types.specs.declared.tree.Selector.{Selector, Index, Field, Dereference, Narrow}
use Rattle.ob_types.specs.declared.program.Program.{Program}
use Rattle.ob_types.specs.Forms.{Form, ToRecord}
use Rattle.ob_types.specs.Layout.{kind_of, record_of, types_of}
use Rattle.ob_types.specs.LegalTypes.{is_record_type}
use Rattle.ob_types.specs.Meaning.{procedure_of, globals_of, locals_of, texts_of, text_number, kind_in}
use Rattle.ob_types.specs.WellFormed
use Rattle.ob_types.specs.WellFormed.{Named, Cells, Of, OpenOf, Dynamic, Characters, Elementary, OfType, Letter, provided, with_some, holds_of, gives_number, is_writable, pointed, element_by, open_element, record_by, is_char}
use Rattle.ob_types.proofs.Tests.{no, none_some, some_same}
use Rattle.ob_judge.specs.Shapes.{Char}
use Rattle.judged_tree.specs.TypeShapes.{shape_of, kind_shape}
use Rattle.one_lowering.specs.Forms.{is_closed}
use Rattle.one_lowering.proofs.Entries.{elements, number_stands}

module _ (p : Program) where
  abbrev Closed : ℕ → Type 0
  Closed k = is_closed (shape_of p.types k) ≡ true

  -- all types that fields, variables and parameters have are closed, in procedure f
  pub record AreClosed (f : ℕ) : Type 0 where
    pub field : (r i k : ℕ) → slice_get (types_of (record_of p.types r).fields) i ≡ Some k → Closed k
    pub global : (m v k : ℕ) → slice_get (globals_of p m) v ≡ Some k → Closed k
    pub variable : (v k : ℕ) → slice_get (locals_of (procedure_of p f)) v ≡ Some k → Closed k
    pub formal : (k : ℕ) (x : Formal) → slice_get (procedure_of p f).formals k ≡ Some x → Closed x.type_number

  abbrev pub Sound : Named → Type 0
  Sound (Of k w) = Closed k
  Sound (OpenOf e w) = Closed e
  Sound _ = Unit {0}

  abbrev pub SoundIf : Option Named → Type 0
  SoundIf None = Unit {0}
  SoundIf (Some d) = Sound d

  -- ---- elements

  letter_closed : (e : ℕ) (kind : TypeKind) → kind_of p.types e ≡ kind → is_char kind ≡ true → shape_of p.types e ≡ Char
  letter_closed e TheKind.Char is h = let s = number_stands p.types e in s.shape ∙ ap (λ q. kind_shape p.types s.front s.pointer q) is
  letter_closed e _ is h = no h

  provided_type : (b : Bool) (a e : ℕ) → holds_of (λ x. WellFormed.is_element p x e) (provided b (Some (OfType a))) ≡ true → a ≡ e
  provided_type true a e h = eqb-true a e h
  provided_type false a e h = no h

  provided_letter : (b : Bool) (e : ℕ) → holds_of (λ x. WellFormed.is_element p x e) (provided b (Some Letter)) ≡ true → shape_of p.types e ≡ Char
  provided_letter true e h = letter_closed e (kind_of p.types e) refl h
  provided_letter false e h = no h

  array_closed : (k n e : ℕ) (kind : TypeKind) → kind_of p.types k ≡ kind → Closed k → holds_of (λ x. WellFormed.is_element p x e) (element_by kind n) ≡ true → Closed e
  array_closed k n e (TheKind.Array (Some m) a) is closed h =
      subst Closed (provided_type (m == n && nat_lt n (2 ^ 32)) a e h) (elements p.types k (Some m) a is closed).closed
  array_closed k n e (TheKind.Array None a) is closed h = no h
  array_closed k n e _ is closed h = no h

  pub element_closed : (e : ℕ) (n : Option ℕ) (d : Named) → Sound d → WellFormed.array_of p e n d ≡ true → Closed e
  element_closed e None (Of k w) sound h = no h
  element_closed e (Some n) (Of k w) sound h = array_closed k n e (kind_of p.types k) refl sound h
  element_closed e None (OpenOf a w) sound h = subst Closed (eqb-true a e h) sound
  element_closed e (Some n) (OpenOf a w) sound h = no h
  element_closed e None (Characters m) sound h = no h
  element_closed e (Some n) (Characters m) sound h = subst (λ s. is_closed s ≡ true) (sym (provided_letter (m == n && nat_lt n (2 ^ 32)) e h)) refl
  element_closed e None (Cells f w) sound h = no h
  element_closed e (Some n) (Cells f w) sound h = no h
  element_closed e None (Dynamic r) sound h = no h
  element_closed e (Some n) (Dynamic r) sound h = no h

  -- an element of a string is a character
  letter_by : (e n : ℕ) (kind : TypeKind) → WellFormed.equal_kinds (TheKind.Text n) kind ≡ true → holds_of (λ x. WellFormed.is_element p x e) (element_by kind (suc n)) ≡ true → shape_of p.types e ≡ Char
  letter_by e n (TheKind.Array m a) is h = no is
  letter_by e n _ is h = no h

  pub letter_shape : (e n : ℕ) (d : Named) → WellFormed.has_kind p (TheKind.Text n) d ≡ true → WellFormed.array_of p e (Some (suc n)) d ≡ true → shape_of p.types e ≡ Char
  letter_shape e n (Of k w) is h = letter_by e n (kind_of p.types k) is h
  letter_shape e n (Characters m) is h = provided_letter (m == suc n && nat_lt (suc n) (2 ^ 32)) e h
  letter_shape e n (OpenOf a w) is h = no h
  letter_shape e n (Cells f w) is h = no h
  letter_shape e n (Dynamic r) is h = no h

  -- what has elements and no length is an open array
  pub open_array : (e : ℕ) (d : Named) → WellFormed.array_of p e None d ≡ true → (x : ℕ) × (w : Bool) × (d ≡ OpenOf x w)
  open_array e (OpenOf a w) h = (a, w, refl)
  open_array e (Of k w) h = no h
  open_array e (Characters m) h = no h
  open_array e (Cells f w) h = no h
  open_array e (Dynamic r) h = no h

  -- ---- parts of designators

  sound_provided : (b : Bool) (o : Option Named) → (b ≡ true → SoundIf o) → SoundIf (provided b o)
  sound_provided true o h = h refl
  sound_provided false o h = tt

  sound_number : (o : Option ℕ) (w : Bool) → ((k : ℕ) → o ≡ Some k → Closed k) → SoundIf (with_some o (λ k. Some (Of k w)))
  sound_number None w h = tt
  sound_number (Some k) w h = h k refl

  sound_pointed : (o : Option Form) → SoundIf (with_some o pointed)
  sound_pointed None = tt
  sound_pointed (Some (ToRecord r)) = tt
  sound_pointed (Some _) = tt

  sound_parameter : (m : Mode) (k : ℕ) (w : Bool) → Closed k → SoundIf (WellFormed.parameter_by p m k w)
  sound_parameter TheMode.Value k w h = tt
  sound_parameter TheMode.Place k w h = h
  sound_parameter TheMode.Record k w h = by (record_by (kind_of p.types k))
    where
      by : (o : Option ℕ) → SoundIf (with_some o (λ r. Some (Dynamic r)))
      by None = tt
      by (Some r) = tt
  sound_parameter TheMode.Open k w h = by (kind_of p.types k) refl
    where
      by : (kind : TypeKind) → kind_of p.types k ≡ kind → SoundIf (with_some (open_element kind) (λ e. Some (OpenOf e w)))
      by (TheKind.Array None e) is = (elements p.types k None e is h).closed
      by (TheKind.Array (Some n) e) is = tt
      by _ is = tt

  module _ (f : ℕ) (closed : AreClosed f) where
    pub sound_base : (b : Base) → SoundIf (WellFormed.base_named p f b)
    sound_base Done = tt
    sound_base (Global m v) = sound_number (slice_get (globals_of p m) v) true (λ k at. closed.global m v k at)
    sound_base (Local v) = sound_number (slice_get (locals_of (procedure_of p f)) v) true (λ k at. closed.variable v k at)
    sound_base (Parameter k) = by (slice_get (procedure_of p f).formals k) refl
      where
        by : (o : Option Formal) → slice_get (procedure_of p f).formals k ≡ o → SoundIf (with_some o (λ x. WellFormed.parameter_by p x.mode x.type_number x.variable))
        by None at = tt
        by (Some x) at = sound_parameter x.mode x.type_number x.variable (closed.formal k x at)
    sound_base (Text k) = by (slice_get (texts_of p.procedures) (text_number p f k))
      where
        by : (o : Option (List ℕ)) → SoundIf (with_some o (λ xs. Some (Characters (suc (length xs)))))
        by None = tt
        by (Some xs) = tt

    pub sound_select : (s : Selector) (o : Option Named) → SoundIf o → SoundIf (WellFormed.select_named p f s o)
    sound_select (Index n e x) None h = tt
    sound_select (Index n e x) (Some d) h =
        sound_provided (WellFormed.array_of p e n d) (provided (gives_number (WellFormed.form p f x)) (Some (Of e (is_writable d))))
        (λ is. sound_provided (gives_number (WellFormed.form p f x)) (Some (Of e (is_writable d))) (λ _. element_closed e n d h is))
    sound_select (Field r i) None h = tt
    sound_select (Field r i) (Some d) h =
        let next = with_some (slice_get (types_of (record_of p.types r).fields) i) (λ k. Some (Of k (is_writable d))) in
        sound_provided (WellFormed.has_record p r d) next (λ _. sound_number (slice_get (types_of (record_of p.types r).fields) i) (is_writable d) (λ k at. closed.field r i k at))
    sound_select (Dereference rs) o h = sound_pointed (WellFormed.guarded_form p rs (with_some o (WellFormed.scalar_in p)))
    sound_select (Narrow r) o h =
        let last = provided (holds_of (WellFormed.is_dynamic p) o) (Some (Dynamic r)) in
        sound_provided (is_record_type p.types r) last (λ _. sound_provided (holds_of (WellFormed.is_dynamic p) o) (Some (Dynamic r)) (λ _. tt))

    pub sound_selected : {m : _} (row : Row_of-Selector m) (o : Option Named) → SoundIf o → SoundIf (WellFormed.selected_named p f row o)
    sound_selected end_of-Selector o h = h
    sound_selected (more_of-Selector s more) o h = sound_selected more (WellFormed.select_named p f s o) (sound_select s o h)

    -- what is named has the type that the designator says
    has_type : (kind : TypeKind) (o : Option Named) (d : Named) → with_some o (WellFormed.of_kind p kind) ≡ Some d → (WellFormed.has_kind p kind d ≡ true) × (o ≡ Some d)
    has_type kind None d e = none_some d e
    has_type kind (Some x) d e = by (WellFormed.has_kind p kind x) refl e
      where
        by : (b : Bool) → WellFormed.has_kind p kind x ≡ b → provided b (Some x) ≡ Some d → (WellFormed.has_kind p kind d ≡ true) × (Some x ≡ Some d)
        by true is e = (subst (λ y. WellFormed.has_kind p kind y ≡ true) (some_same x d e) is, e)
        by false is e = none_some d e

    pub sound_named : (x : Designator) (d : Named) → WellFormed.named p f x ≡ Some d → (WellFormed.has_kind p (kind_in x) d ≡ true) × Sound d
    sound_named (Whole b kind) d e =
        let h = has_type kind (WellFormed.base_named p f b) d e in
        (h.0, subst SoundIf h.1 (sound_base b))
    sound_named (Part' _ b kind _ row) d e =
        let h = has_type kind (WellFormed.selected_named p f row (WellFormed.base_named p f b)) d e in
        (h.0, subst SoundIf h.1 (sound_selected row (WellFormed.base_named p f b) (sound_base b)))
