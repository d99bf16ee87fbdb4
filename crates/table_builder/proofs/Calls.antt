-- One more record, pointer or procedure type, and what a pointer type points to.
use Rattle.std.proofs.Common.{◌≡◌, ℕ, zero, suc, ◌<◌, List, [], ◌∷◌, ◌++◌, length, take, ◌-◌, get_or, map, Bool, true, false, ◌&&◌, Option, Some, None, option_map, refl, sym, ap, ap₂, ◌∙◌, subst, arith, eqb-true, ◌⊎◌, inl, inr}
use Rattle.std.specs.Prelude.{◌==◌, slice_get, slice_set}
use mathlib.Core.Path.{fun_ext}
use Rattle.std.proofs.lemmas.List.{length-append, length-set}
use Rattle.std.proofs.lemmas.Option.{slice_get_within}
use Rattle.ob_types.specs.declared.types.Field.{Field}
use Rattle.ob_types.specs.declared.types.Formal.{Formal}
use Rattle.ob_types.specs.declared.types.RecordType.{RecordType}
use Rattle.ob_types.specs.declared.types.Signature.{Signature}
use Rattle.ob_types.specs.declared.types.TypeKind.TheVariants as TheKind
use Rattle.ob_types.specs.Assignable.{both_or_neither}
use Rattle.ob_types.specs.Layout.{no_record_type}
use Rattle.ob_types.specs.Trees.{no_extent}
use Rattle.ob_types.specs.declared.types.Extent.{Extent}
use Rattle.ob_types.specs.Table.{Table}
use Rattle.ob_types.proofs.Tests.{none_some, some_same, no}
use Rattle.ob_judge.specs.Shapes.{Procedure}
use Rattle.ob_judge.specs.Shapes.{Field as FieldOf, Added as AddedOf}
use Rattle.ob_judge.specs.Making.{no_layout}
use Rattle.ob_judge.specs.Modules.{base_in}
use Rattle.judged_tree.specs.TypeShapes.{formals_shape, signature_shape, shapes_of, shape_of}
use Rattle.judged_tree.specs.Tables.{is_before, same_parameters}
use Rattle.check_types.specs.steps.Maps.{at_bytes}
use Rattle.check_types.specs.declared.types.TypeRef.{TypeRef}
use Rattle.check_types.specs.declared.types.TypeRef.TheVariants as TheType
use Rattle.check_types.specs.declared.table.Added.{Added}
use Rattle.check_types.specs.declared.table.Layout.{Layout}
use Rattle.check_types.specs.declared.table.TypeTable.{TypeTable}
use Rattle.check_types.specs.Known.{field_of, added_of, layout_of}
use Rattle.check_types.specs.TypeMeaning.{type_shape}
use Rattle.table_builder.specs.Entries.{IsNumbered, IsElement, is_whole, pointers_of}
use Rattle.table_builder.specs.Sound.{IsSound, IsNext, IsNewSignature}
use Rattle.table_builder.specs.Index.{signature_parts, HasSignature, bit}
use Rattle.table_builder.specs.Elements.{AreCounted}
use Rattle.table_builder.specs.Contents.{IsField, AreFields, IsRecordType, IsClosed, AreRecordTypes, IsBlank, AreElements, Contents, notes_of, IsConsistent}
use Rattle.table_builder.specs.declared.numbers.TypeNumbers.{TypeNumbers}
use Rattle.table_builder.proofs.Lists.{there, get_left, get_from, get_last, take_last}
use Rattle.table_builder.proofs.Growth.{Extends, formals_mean, number_means}
use Rattle.table_builder.proofs.Pushing.{extends_append, pointers-append, pushed, other_records}
use Rattle.table_builder.proofs.Indexing.{IsNoted, indexed, IsWith, value_here, value_there, record_noted, pointer_noted, procedure_noted, parts_tell}
use Rattle.table_builder.proofs.Built.{elements_more, layouts_more, same_contents}

-- ---- lists of record types

pub layouts_push : (es : List TypeRef) (x : RecordType) (l : Layout) → IsRecordType es x l → IsClosed es l → (xs : List RecordType) (ls : List Layout) → AreRecordTypes es xs ls → AreRecordTypes es (xs ++ x ∷ []) (ls ++ l ∷ [])
layouts_push es x l h c [] [] a = (h, c, tt)
layouts_push es x l h c (y ∷ xs) (k ∷ ls) a = (a.0, a.1, layouts_push es x l h c xs ls a.2)
layouts_push es x l h c [] (k ∷ ls) a = absurd a
layouts_push es x l h c (y ∷ xs) [] a = absurd a

pub layouts_set : (es : List TypeRef) (x : RecordType) (l : Layout) → IsRecordType es x l → IsClosed es l → (n : ℕ) (xs : List RecordType) (ls : List Layout) → AreRecordTypes es xs ls → AreRecordTypes es (slice_set xs n x) (slice_set ls n l)
layouts_set es x l h c n [] [] a = tt
layouts_set es x l h c zero (y ∷ xs) (k ∷ ls) a = (h, c, a.2)
layouts_set es x l h c (suc n) (y ∷ xs) (k ∷ ls) a = (a.0, a.1, layouts_set es x l h c n xs ls a.2)
layouts_set es x l h c n [] (k ∷ ls) a = absurd a
layouts_set es x l h c n (y ∷ xs) [] a = absurd a

-- of a type of which nothing is known
module _ (es : List TypeRef) (l : Layout) (blank : IsBlank l) where
  blank_is : IsRecordType es no_record_type l
  blank_is = record {
    unit = sym blank.unit;
    base = sym (ap base_in blank.line);
    level = let e = ap (λ ns. length ns) blank.line in omega (arith, e);
    fields = subst (AreFields es []) (sym blank.added) tt;
    cells = sym blank.cells;
    extent = sym blank.extent;
    narrow = let e = ap (λ x. x.bytes) blank.extent in omega (arith, e);
  }

  blank_closed : IsClosed es l
  blank_closed = record { field = λ q f h. none_some f (sym (blank.fields q) ∙ h) }

  pub blank_means : (t : Table) → layout_of t l ≡ no_layout
  blank_means t = joined blank.unit blank.line (ap (map (added_of t)) blank.added) (fun_ext (λ q. ap (option_map (field_of t)) (blank.fields q))) blank.cells blank.extent
    where
      joined : {m : ℕ} {line : List ℕ} {as' : List AddedOf} {fs : List ℕ → Option FieldOf} {n : ℕ} {x : Extent} → m ≡ 0 → line ≡ [] → as' ≡ [] → fs ≡ (λ q. None) → n ≡ 0 → x ≡ no_extent
          → record { module_number = m; line = line; added = as'; fields = fs; cells = n; extent = x } ≡ no_layout
      joined a b c d e f = cc

-- ---- the last entry

pub last_element : (es fs : List TypeRef) (e : TypeRef) → fs ≡ es ++ e ∷ [] → is_whole e ≡ true → IsElement fs e
last_element es fs e is whole = record { numbered = (length es, ap (λ gs. slice_get gs (length es)) is ∙ get_last es e); whole = whole }

past_end : {A : Type 0} (xs : List A) (n : ℕ) (x : A) → n ≡ length xs → slice_get xs n ≡ Some x → ⊥
past_end xs n x e h = let l = slice_get_within xs n x h in omega (arith, e, l)

-- one more, and taken off again
pub popped : (xs ys zs : List ℕ) (n l : ℕ) → ys ≡ xs ++ n ∷ [] → l ≡ length ys → zs ≡ take (l - 1) ys → zs ≡ xs
popped xs ys zs n l p m q = q ∙ ap (λ i. take (i - 1) ys) m ∙ ap (λ ns. take (length ns - 1) ns) p ∙ take_last xs n

module _ (b : Contents) (ok : IsConsistent b) where
  -- ---- record types

  pub record_next : (r : ℕ) → r ≡ length b.layouts → IsNext b.types.signatures b.entries (TheType.Record r)
  record_next r at = record {
    parts = tt;
    new = λ n h. past_end b.notes.records r n (at ∙ sym ok.records) (ok.index.all (TheType.Record r) n h);
    pointer = λ p e. absurd (let z = e in cc);
  }

  module _ (r n : ℕ) (at : r ≡ length b.layouts) (number : n ≡ length b.entries) (l : Layout) (blank : IsBlank l) (counted : AreCounted (b.entries ++ TheType.Record r ∷ []) b.elements) where
    abbrev with_record : Contents
    with_record = record {
      types = record b.types { kinds = b.types.kinds ++ TheKind.Record r ∷ []; records = b.types.records ++ no_record_type ∷ [] };
      entries = b.entries ++ TheType.Record r ∷ [];
      bases = b.bases;
      layouts = b.layouts ++ l ∷ [];
      notes = record b.notes { records = b.notes.records ++ n ∷ [] };
      elements = b.elements;
    }

    record_is_noted : IsNoted b.notes with_record.notes (TheType.Record r) (length b.entries)
    record_is_noted = subst (λ m. IsNoted b.notes with_record.notes (TheType.Record r) m) number (subst (λ m. IsNoted b.notes with_record.notes (TheType.Record m) n) (ok.records ∙ sym at) (record_noted b.notes n))

    with_record_built : IsConsistent with_record
    with_record_built =
        let fits = record_next r at in
        record {
          sound = pushed (record b.types { records = b.types.records ++ no_record_type ∷ [] }) b.entries b.bases (other_records b.types b.entries b.bases ok.sound (b.types.records ++ no_record_type ∷ [])) (TheType.Record r) fits;
          index = indexed b.notes with_record.notes b.entries (TheType.Record r) record_is_noted fits.new ok.index;
          signatures = record { says = ok.signatures.says; all = ok.signatures.all };
          layouts = layouts_push with_record.entries no_record_type l (blank_is with_record.entries l blank) (blank_closed with_record.entries l blank) b.types.records b.layouts
              (layouts_more b.entries with_record.entries (extends_append b.entries (TheType.Record r ∷ [])) b.types.records b.layouts ok.layouts);
          records = one_longer b.notes.records b.layouts n l ok.records;
          pointers = ok.pointers;
          bases = ok.bases ∙ sym (ap (λ ps. length ps) (pointers-append b.entries (TheType.Record r) ∙ append_nil (pointers_of b.entries)));
          procedures = ok.procedures;
          elements = elements_more b ok (TheType.Record r) b.types.signatures tt (λ a e is h. none_some a is);
          counted = counted;
        }
      where
        append_nil : (ns : List ℕ) → ns ++ [] ≡ ns
        append_nil [] = refl
        append_nil (n ∷ ns) = ap (λ ms. n ∷ ms) (append_nil ns)

        one_longer : {A B : Type 0} (xs : List A) (ys : List B) (x : A) (y : B) → length xs ≡ length ys → length (xs ++ x ∷ []) ≡ length (ys ++ y ∷ [])
        one_longer xs ys x y e = let f = length-append xs (x ∷ []) in let g = length-append ys (y ∷ []) in omega (arith, e, f, g)

    pub record_built : (t : Table) (es : List TypeRef) (bs : List (Option ℕ)) (ls : List Layout) (rs : List ℕ) (x : RecordType) → x ≡ no_record_type
        → t ≡ record b.types { kinds = b.types.kinds ++ TheKind.Record r ∷ []; records = b.types.records ++ x ∷ [] } → es ≡ b.entries ++ TheType.Record r ∷ [] → bs ≡ b.bases → ls ≡ b.layouts ++ l ∷ [] → rs ≡ b.notes.records ++ n ∷ []
        → IsConsistent (record { types = t; entries = es; bases = bs; layouts = ls; notes = record b.notes { records = rs }; elements = b.elements })
    record_built t es bs ls rs x is p q u v w =
        same_contents with_record with_record_built t es bs ls (record b.notes { records = rs })
        (p ∙ ap (λ y. record b.types { kinds = b.types.kinds ++ TheKind.Record r ∷ []; records = b.types.records ++ y ∷ [] }) is) q u v (ap (λ ms. record b.notes { records = ms }) w)

  -- ---- pointer types

  pub pointer_next : (p : ℕ) → p ≡ length b.bases → IsNext b.types.signatures b.entries (TheType.Pointer p)
  pointer_next p at = record {
    parts = tt;
    new = λ n h. past_end b.notes.pointers p n (at ∙ sym ok.pointers) (ok.index.all (TheType.Pointer p) n h);
    pointer = λ q e. sym (same p q e) ∙ at ∙ ok.bases;
  }
    where
      same : (p q : ℕ) → TheType.Pointer p ≡ TheType.Pointer q → p ≡ q
      same p q e = cc

  module _ (p n : ℕ) (at : p ≡ length b.bases) (number : n ≡ length b.entries) (counted : AreCounted (b.entries ++ TheType.Pointer p ∷ []) b.elements) where
    abbrev with_pointer : Contents
    with_pointer = record {
      types = record b.types { kinds = b.types.kinds ++ TheKind.Pointer 0 ∷ [] };
      entries = b.entries ++ TheType.Pointer p ∷ [];
      bases = b.bases ++ None ∷ [];
      layouts = b.layouts;
      notes = record b.notes { pointers = b.notes.pointers ++ n ∷ [] };
      elements = b.elements;
    }

    pointer_is_noted : IsNoted b.notes with_pointer.notes (TheType.Pointer p) (length b.entries)
    pointer_is_noted = subst (λ m. IsNoted b.notes with_pointer.notes (TheType.Pointer p) m) number (subst (λ m. IsNoted b.notes with_pointer.notes (TheType.Pointer m) n) (ok.pointers ∙ sym at) (pointer_noted b.notes n))

    with_pointer_built : IsSound with_pointer.types with_pointer.entries with_pointer.bases → IsConsistent with_pointer
    with_pointer_built sound =
        let fits = pointer_next p at in
        record {
          sound = sound;
          index = indexed b.notes with_pointer.notes b.entries (TheType.Pointer p) pointer_is_noted fits.new ok.index;
          signatures = record { says = ok.signatures.says; all = ok.signatures.all };
          layouts = layouts_more b.entries with_pointer.entries (extends_append b.entries (TheType.Pointer p ∷ [])) b.types.records b.layouts ok.layouts;
          records = ok.records;
          pointers = one_longer b.notes.pointers b.bases n None ok.pointers;
          bases = one_longer b.bases (pointers_of b.entries) None p ok.bases ∙ sym (ap (λ ps. length ps) (pointers-append b.entries (TheType.Pointer p)));
          procedures = ok.procedures;
          elements = elements_more b ok (TheType.Pointer p) b.types.signatures tt (λ a e is h. none_some a is);
          counted = counted;
        }
      where
        one_longer : {A B : Type 0} (xs : List A) (ys : List B) (x : A) (y : B) → length xs ≡ length ys → length (xs ++ x ∷ []) ≡ length (ys ++ y ∷ [])
        one_longer xs ys x y e = let f = length-append xs (x ∷ []) in let g = length-append ys (y ∷ []) in omega (arith, e, f, g)

    pub pointer_built : (t : Table) (es : List TypeRef) (bs : List (Option ℕ)) (ls : List Layout) (ps : List ℕ)
        → t ≡ with_pointer.types → es ≡ with_pointer.entries → bs ≡ with_pointer.bases → ls ≡ b.layouts → ps ≡ b.notes.pointers ++ n ∷ [] → IsSound t es bs
        → IsConsistent (record { types = t; entries = es; bases = bs; layouts = ls; notes = record b.notes { pointers = ps }; elements = b.elements })
    pointer_built t es bs ls ps i q u v w sound =
        same_contents with_pointer (with_pointer_built (subst (λ s. IsSound s with_pointer.entries with_pointer.bases) i (subst (λ fs. IsSound t fs with_pointer.bases) q (subst (λ cs. IsSound t es cs) u sound))))
        t es bs ls (record b.notes { pointers = ps }) i q u v (ap (λ ms. record b.notes { pointers = ms }) w)

  -- ---- what a pointer type points to

  pub pointer_numbered : (p : ℕ) → p < length b.bases → IsNumbered b.entries (TheType.Pointer p)
  pointer_numbered p l = let n = there b.notes.pointers p (let e = ok.pointers in omega (arith, l, e)) in (n.0, ok.index.says (TheType.Pointer p) n.0 n.1)

  pub base_built : (t : Table) (es : List TypeRef) (bs : List (Option ℕ)) (ls : List Layout) (ks : _) (p r : ℕ) → t ≡ record b.types { kinds = ks } → es ≡ b.entries → bs ≡ slice_set b.bases p (Some r) → ls ≡ b.layouts → IsSound t es bs
      → IsConsistent (record { types = t; entries = es; bases = bs; layouts = ls; notes = b.notes; elements = b.elements })
  base_built t es bs ls ks p r i q u v sound =
      same_contents (record { types = record b.types { kinds = ks }; entries = b.entries; bases = slice_set b.bases p (Some r); layouts = b.layouts; notes = b.notes; elements = b.elements })
      (record {
        sound = subst (λ s. IsSound s b.entries (slice_set b.bases p (Some r))) i (subst (λ fs. IsSound t fs (slice_set b.bases p (Some r))) q (subst (λ cs. IsSound t es cs) u sound));
        index = ok.index;
        signatures = ok.signatures;
        layouts = ok.layouts;
        records = ok.records;
        pointers = ok.pointers ∙ sym (length-set b.bases p (Some r));
        bases = length-set b.bases p (Some r) ∙ ok.bases;
        procedures = ok.procedures;
        elements = ok.elements;
        counted = ok.counted;
      }) t es bs ls b.notes i q u v refl

  -- ---- what is known of a record type

  pub layout_built : (t : Table) (es : List TypeRef) (bs : List (Option ℕ)) (ls : List Layout) (r : ℕ) (x : RecordType) (l : Layout) → IsRecordType b.entries x l → IsClosed b.entries l
      → t ≡ record b.types { records = slice_set b.types.records r x } → es ≡ b.entries → bs ≡ b.bases → ls ≡ slice_set b.layouts r l
      → IsConsistent (record { types = t; entries = es; bases = bs; layouts = ls; notes = b.notes; elements = b.elements })
  layout_built t es bs ls r x l h c i q u v =
      same_contents (record { types = record b.types { records = slice_set b.types.records r x }; entries = b.entries; bases = b.bases; layouts = slice_set b.layouts r l; notes = b.notes; elements = b.elements })
      (record {
        sound = other_records b.types b.entries b.bases ok.sound (slice_set b.types.records r x);
        index = ok.index;
        signatures = ok.signatures;
        layouts = layouts_set b.entries x l h c r b.types.records b.layouts ok.layouts;
        records = ok.records ∙ sym (length-set b.layouts r l);
        pointers = ok.pointers;
        bases = ok.bases;
        procedures = ok.procedures;
        elements = ok.elements;
        counted = ok.counted;
      }) t es bs ls b.notes i q u v refl

  -- ---- procedure types

  parts_of_same : (xs ys : List Formal) (r q : ℕ) → (same_parameters xs ys && (r == q)) ≡ true → signature_parts xs r ≡ signature_parts ys q
  parts_of_same [] [] r q h = ap (λ n. n ∷ []) (eqb-true r q h)
  parts_of_same (x ∷ xs) (y ∷ ys) r q h = by (both_or_neither x.variable y.variable) (x.type_number == y.type_number) (same_parameters xs ys) (r == q) refl refl refl refl h (λ k. parts_of_same xs ys r q k)
    where
      bits : (u v : Bool) → both_or_neither u v ≡ true → bit u ≡ bit v
      bits true true h = refl
      bits true false h = no h
      bits false true h = no h
      bits false false h = refl

      by : (a c d e : Bool) → both_or_neither x.variable y.variable ≡ a → (x.type_number == y.type_number) ≡ c → same_parameters xs ys ≡ d → (r == q) ≡ e → ((a && c && d) && e) ≡ true → ((same_parameters xs ys && (r == q)) ≡ true → signature_parts xs r ≡ signature_parts ys q) → signature_parts (x ∷ xs) r ≡ signature_parts (y ∷ ys) q
      by true true true true a c d e h go =
          ap₂ (λ (n : ℕ) (ms : List ℕ). n ∷ ms) (bits x.variable y.variable a)
          (ap₂ (λ (n : ℕ) (ms : List ℕ). n ∷ ms) (eqb-true x.type_number y.type_number c) (go (ap₂ (λ s t. s && t) d e)))
      by true true true false a c d e h go = no h
      by true true false f a c d e h go = no h
      by true false g f a c d e h go = no h
      by false i g f a c d e h go = no h
  parts_of_same _ _ r q h = no h

  pub signature_new : (x : Signature) → b.notes.signatures (signature_parts x.formals x.result) ≡ None → IsNewSignature b.types.signatures x
  signature_new x none = record {
    before = λ g y h same. none_some g (sym none ∙ ap b.notes.signatures (parts_of_same x.formals y.formals x.result y.result same) ∙ ok.signatures.all g y h);
    behind = λ g y h same. none_some g (sym none ∙ ap b.notes.signatures (sym (parts_of_same y.formals x.formals y.result x.result same)) ∙ ok.signatures.all g y h);
  }

  pub procedure_next : (x : Signature) (g : ℕ) → g ≡ length b.types.signatures → is_before (length b.entries) (Some x) → IsNext (b.types.signatures ++ x ∷ []) b.entries (TheType.Procedure g)
  procedure_next x g at before = record {
    parts = subst (is_before (length b.entries)) (sym (ap (slice_get (b.types.signatures ++ x ∷ [])) at ∙ get_last b.types.signatures x)) before;
    new = λ n h. past_end b.notes.procedures g n (at ∙ sym ok.procedures) (ok.index.all (TheType.Procedure g) n h);
    pointer = λ p e. absurd (let z = e in cc);
  }

  module _ (x : Signature) (g n : ℕ) (at : g ≡ length b.types.signatures) (number : n ≡ length b.entries) (before : is_before (length b.entries) (Some x))
      (none : b.notes.signatures (signature_parts x.formals x.result) ≡ None) (signatures : List ℕ → Option ℕ) (parts_now : List ℕ) (are : parts_now ≡ signature_parts x.formals x.result) (with_parts : IsWith parts_now g b.notes.signatures signatures) (counted : AreCounted (b.entries ++ TheType.Procedure g ∷ []) b.elements) where
    w : IsWith (signature_parts x.formals x.result) g b.notes.signatures signatures
    w = subst (λ ps. IsWith ps g b.notes.signatures signatures) are with_parts

    abbrev with_procedure : Contents
    with_procedure = record {
      types = record b.types { kinds = b.types.kinds ++ TheKind.Procedure g ∷ []; signatures = b.types.signatures ++ x ∷ [] };
      entries = b.entries ++ TheType.Procedure g ∷ [];
      bases = b.bases;
      layouts = b.layouts;
      notes = record b.notes { procedures = b.notes.procedures ++ n ∷ []; signatures = signatures };
      elements = b.elements;
    }

    procedure_is_noted : IsNoted b.notes with_procedure.notes (TheType.Procedure g) (length b.entries)
    procedure_is_noted =
        subst (λ m. IsNoted b.notes with_procedure.notes (TheType.Procedure g) m) number
        (subst (λ m. IsNoted b.notes with_procedure.notes (TheType.Procedure m) n) (ok.procedures ∙ sym at) (procedure_noted b.notes n signatures))

    kept_signature : (parts : List ℕ) (f : ℕ) → HasSignature b.types.signatures f parts → HasSignature with_procedure.types.signatures f parts
    kept_signature parts f h = record { at = h.at; there = get_left b.types.signatures (x ∷ []) f h.at h.there; same = h.same }

    signature_says : (parts : List ℕ) (f : ℕ) → signatures parts ≡ Some f → HasSignature with_procedure.types.signatures f parts
    signature_says parts f h = by (value_there (signature_parts x.formals x.result) g b.notes.signatures signatures w parts)
      where
        by : (signature_parts x.formals x.result ≡ parts) ⊎ (signatures parts ≡ b.notes.signatures parts) → HasSignature with_procedure.types.signatures f parts
        by (inl e) =
            let is : f ≡ length b.types.signatures = some_same f g (sym h ∙ ap signatures (sym e) ∙ value_here (signature_parts x.formals x.result) g b.notes.signatures signatures w) ∙ at in
            record { at = x; there = ap (slice_get with_procedure.types.signatures) is ∙ get_last b.types.signatures x; same = e }
        by (inr e) = kept_signature parts f (ok.signatures.says parts f (sym e ∙ h))

    signature_all : (f : ℕ) (y : Signature) → slice_get with_procedure.types.signatures f ≡ Some y → signatures (signature_parts y.formals y.result) ≡ Some f
    signature_all f y h = by (get_from b.types.signatures x f y h) (value_there (signature_parts x.formals x.result) g b.notes.signatures signatures w (signature_parts y.formals y.result))
      where
        own : signatures (signature_parts x.formals x.result) ≡ Some g
        own = value_here (signature_parts x.formals x.result) g b.notes.signatures signatures w

        by : (slice_get b.types.signatures f ≡ Some y) ⊎ ((f ≡ length b.types.signatures) × (x ≡ y)) → (signature_parts x.formals x.result ≡ signature_parts y.formals y.result) ⊎ (signatures (signature_parts y.formals y.result) ≡ b.notes.signatures (signature_parts y.formals y.result))
            → signatures (signature_parts y.formals y.result) ≡ Some f
        by (inl i) (inl e) = none_some f (sym none ∙ ap b.notes.signatures e ∙ ok.signatures.all f y i)
        by (inl i) (inr e) = e ∙ ok.signatures.all f y i
        by (inr i) e = ap (λ z. signatures (signature_parts z.formals z.result)) (sym i.1) ∙ own ∙ ap (λ m. Some m) (at ∙ sym i.0)

    with_procedure_built : IsSound with_procedure.types with_procedure.entries b.bases → IsConsistent with_procedure
    with_procedure_built sound = record {
      sound = sound;
      index = indexed b.notes with_procedure.notes b.entries (TheType.Procedure g) procedure_is_noted (procedure_next x g at before).new ok.index;
      signatures = record { says = signature_says; all = signature_all };
      layouts = layouts_more b.entries with_procedure.entries (extends_append b.entries (TheType.Procedure g ∷ [])) b.types.records b.layouts ok.layouts;
      records = ok.records;
      pointers = ok.pointers;
      bases = ok.bases ∙ sym (ap (λ ps. length ps) (pointers-append b.entries (TheType.Procedure g) ∙ append_nil (pointers_of b.entries)));
      procedures = one_longer b.notes.procedures b.types.signatures n x ok.procedures;
      elements = elements_more b ok (TheType.Procedure g) with_procedure.types.signatures (procedure_next x g at before).parts (λ a e is h. none_some a is);
      counted = counted;
    }
      where
        append_nil : (ns : List ℕ) → ns ++ [] ≡ ns
        append_nil [] = refl
        append_nil (n ∷ ns) = ap (λ ms. n ∷ ms) (append_nil ns)

        one_longer : {A B : Type 0} (xs : List A) (ys : List B) (x : A) (y : B) → length xs ≡ length ys → length (xs ++ x ∷ []) ≡ length (ys ++ y ∷ [])
        one_longer xs ys x y e = let f = length-append xs (x ∷ []) in let g = length-append ys (y ∷ []) in omega (arith, e, f, g)

    pub procedure_built : (t : Table) (es : List TypeRef) (bs : List (Option ℕ)) (ls : List Layout) (ps : List ℕ)
        → t ≡ with_procedure.types → es ≡ with_procedure.entries → bs ≡ b.bases → ls ≡ b.layouts → ps ≡ b.notes.procedures ++ n ∷ [] → IsSound t es bs
        → IsConsistent (record { types = t; entries = es; bases = bs; layouts = ls; notes = record b.notes { procedures = ps; signatures = signatures }; elements = b.elements })
    procedure_built t es bs ls ps i q u v k sound =
        same_contents with_procedure (with_procedure_built (subst (λ s. IsSound s with_procedure.entries b.bases) i (subst (λ fs. IsSound t fs b.bases) q (subst (λ cs. IsSound t es cs) u sound))))
        t es bs ls (record b.notes { procedures = ps; signatures = signatures }) i q u v (ap (λ ms. record b.notes { procedures = ms; signatures = signatures }) k)

  -- ---- a procedure type that is there

  pub procedure_numbered : (g : ℕ) (x : Signature) → slice_get b.types.signatures g ≡ Some x → IsElement b.entries (TheType.Procedure g)
  procedure_numbered g x h =
      let n = there b.notes.procedures g (let l = slice_get_within b.types.signatures g x h in let e = ok.procedures in omega (arith, l, e)) in
      record { numbered = (n.0, ok.index.says (TheType.Procedure g) n.0 n.1); whole = refl }

  pub procedure_means : (g : ℕ) (xs : List Formal) (r : ℕ) → HasSignature b.types.signatures g (signature_parts xs r) → type_shape b.types (TheType.Procedure g) ≡ Procedure (formals_shape (shapes_of b.types) xs) (shape_of b.types r)
  procedure_means g xs r h =
      let same = parts_tell h.at.formals xs h.at.result r h.same in
      ap (signature_shape (shapes_of b.types)) h.there ∙ ap₂ (λ ps q. Procedure ps (shape_of b.types q)) (same.shapes (shapes_of b.types)) same.result

-- a new one means what its parts meant
pub procedure_shape : (t u : TypeTable) → IsSound t.types t.entries.items t.bases.items → IsSound u.types u.entries.items u.bases.items → (g : ℕ) (x : Signature) → g ≡ length t.types.signatures
    → u.types ≡ record t.types { kinds = t.types.kinds ++ TheKind.Procedure g ∷ []; signatures = t.types.signatures ++ x ∷ [] } → u.entries.items ≡ t.entries.items ++ TheType.Procedure g ∷ [] → is_before (length t.entries.items) (Some x)
    → type_shape u.types (TheType.Procedure g) ≡ Procedure (formals_shape (shapes_of t.types) x.formals) (shape_of t.types x.result)
procedure_shape t u old new g x at p q before =
    let longer = subst (λ es. Extends t.entries.items es) (sym q) (extends_append t.entries.items (TheType.Procedure g ∷ [])) in
    let signatures = subst (λ s. Extends t.types.signatures s.signatures) (sym p) (extends_append t.types.signatures (x ∷ [])) in
    ap (signature_shape (shapes_of u.types)) (ap (λ s. slice_get s.signatures g) p ∙ ap (slice_get (t.types.signatures ++ x ∷ [])) at ∙ get_last t.types.signatures x)
    ∙ ap₂ (λ ps s. Procedure ps s)
    (formals_mean t.types u.types t.entries.items u.entries.items t.bases.items u.bases.items old new longer signatures x.formals before.0)
    (number_means t.types u.types t.entries.items u.entries.items t.bases.items u.bases.items old new longer signatures x.result before.1)

-- ---- notes

pub notes_same : (s r : TypeNumbers) → r ≡ record s { procedures = r.procedures; signatures = r.signatures } → r.procedures.items ≡ s.procedures.items → ((q : List ℕ) → at_bytes r.signatures q ≡ at_bytes s.signatures q) → notes_of r ≡ notes_of s
notes_same s r p q h = ap notes_of p ∙ ap₂ (λ (ps : List ℕ) (f : List ℕ → Option ℕ). record (notes_of s) { procedures = ps; signatures = f }) q (fun_ext h)

-- ---- as many record types in both

pub as_many : (es : List TypeRef) (xs : List RecordType) (ls : List Layout) → AreRecordTypes es xs ls → length xs ≡ length ls
as_many es [] [] h = refl
as_many es (x ∷ xs) (l ∷ ls) h = ap suc (as_many es xs ls h.2)
as_many es [] (l ∷ ls) h = absurd h
as_many es (x ∷ xs) [] h = absurd h

-- ---- fields, one after the other

pub fields_push : (es : List TypeRef) (f : Field) (a : Added) → IsField es f a → (xs : List Field) (as' : List Added) → AreFields es xs as' → AreFields es (xs ++ f ∷ []) (as' ++ a ∷ [])
fields_push es f a h [] [] k = (h, tt)
fields_push es f a h (x ∷ xs) (c ∷ as') k = (k.0, fields_push es f a h xs as' k.1)
fields_push es f a h [] (c ∷ as') k = absurd k
fields_push es f a h (x ∷ xs) [] k = absurd k

pub element_at : (es : List TypeRef) (as' : List Added) (i : ℕ) (d : Added) → i < length as' → AreElements es as' → IsElement es (get_or as' i d).of
element_at es [] i d l h = absurd (omega (arith, l))
element_at es (a ∷ as') zero d l h = h.0
element_at es (a ∷ as') (suc i) d l h = element_at es as' i d (omega (arith, l)) h.1
