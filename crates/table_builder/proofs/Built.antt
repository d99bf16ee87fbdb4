-- What a builder keeps, call by call.
use Rattle.std.proofs.Common.{◌≡◌, ℕ, ◌<◌, List, [], ◌∷◌, ◌++◌, length, map, true, cond, Option, Some, None, option_map, refl, sym, ap, ap₂, ◌∙◌, subst, arith, ◌⊎◌, inl, inr}
use Rattle.std.specs.Prelude.{slice_get}
use mathlib.Core.Path.{fun_ext}
use Rattle.std.specs.Str.{bytes_eq}
use Rattle.std.proofs.lemmas.List.{length-append}
use Rattle.std.proofs.lemmas.Option.{slice_get_within}
use Rattle.table_builder.proofs.Lists.{there, get_left, get_from}
use Rattle.ob_types.specs.declared.types.Field.{Field}
use Rattle.ob_types.specs.declared.types.RecordType.{RecordType}
use Rattle.ob_types.specs.declared.types.Signature.{Signature}
use Rattle.ob_types.specs.Table.{Table}
use Rattle.ob_types.proofs.Tests.{none_some, some_same}
use Rattle.ob_judge.specs.Shapes.{Added as AddedOf, Field as FieldOf, Layout as LayoutOf}
use Rattle.check_types.specs.Fields.{at_fields}
use Rattle.check_types.specs.declared.types.TypeRef.{TypeRef}
use Rattle.check_types.specs.declared.types.TypeRef.TheVariants as TheType
use Rattle.check_types.specs.declared.table.Added.{Added}
use Rattle.check_types.specs.declared.fields.FieldEntry.{FieldEntry}
use Rattle.check_types.specs.declared.table.Layout.{Layout}
use Rattle.check_types.specs.declared.table.TypeTable.{TypeTable}
use Rattle.check_types.specs.Known.{field_of, added_of, layout_of, known_of}
use Rattle.check_types.specs.TypeMeaning.{type_shape, kind_of_type}
use Rattle.table_builder.specs.Entries.{IsNumbered, is_whole, HasParts, element_in, HasWholeElements, pointers_of}
use Rattle.table_builder.specs.Sound.{IsSound, IsNext}
use Rattle.table_builder.specs.Growing.{Grows}
use Rattle.table_builder.specs.Index.{Notes, signature_parts, number_in, IsArray}
use Rattle.table_builder.specs.Elements.{AreCounted}
use Rattle.table_builder.specs.Contents.{AreFields, IsRecordType, IsClosed, AreRecordTypes, Contents, IsConsistent}
use Rattle.table_builder.proofs.Growth.{Extends, type_means}
use Rattle.table_builder.proofs.Pushing.{extends_append, extends_self, own_pointer, pointers-append, with_entry, pushed}
use Rattle.table_builder.proofs.EachCounted.{IsOfBefore}
use Rattle.table_builder.proofs.Indexing.{IsNoted, indexed, IsWith, restored, array_noted, open_noted}

-- ---- record types stay, where there are more entries

numbered_more : (es fs : List TypeRef) → Extends es fs → (e : TypeRef) → IsNumbered es e → IsNumbered fs e
numbered_more es fs more e h = (h.0, more.kept h.0 e h.1)

fields_more : (es fs : List TypeRef) → Extends es fs → (xs : List Field) (as' : List Added) → AreFields es xs as' → AreFields fs xs as'
fields_more es fs more [] [] h = tt
fields_more es fs more (x ∷ xs) (a ∷ as') h =
    (record { name = h.0.name; exported = h.0.exported; type_number = more.kept x.type_number a.of h.0.type_number; whole = h.0.whole }, fields_more es fs more xs as' h.1)
fields_more es fs more [] (a ∷ as') h = absurd h
fields_more es fs more (x ∷ xs) [] h = absurd h

closed_more : (es fs : List TypeRef) → Extends es fs → (l : Layout) → IsClosed es l → IsClosed fs l
closed_more es fs more l h = record { field = λ q f at. numbered_more es fs more f.of (h.field q f at) }

pub layouts_more : (es fs : List TypeRef) → Extends es fs → (xs : List RecordType) (ls : List Layout) → AreRecordTypes es xs ls → AreRecordTypes fs xs ls
layouts_more es fs more [] [] h = tt
layouts_more es fs more (x ∷ xs) (l ∷ ls) h = (
  record { unit = h.0.unit; base = h.0.base; level = h.0.level; fields = fields_more es fs more x.fields l.added.items h.0.fields; cells = h.0.cells; extent = h.0.extent; narrow = h.0.narrow },
  closed_more es fs more l h.1,
  layouts_more es fs more xs ls h.2,
)
layouts_more es fs more [] (l ∷ ls) h = absurd h
layouts_more es fs more (x ∷ xs) [] h = absurd h

-- ---- and so does what is known of them

module _ (t u : Table) (es : List TypeRef) (means : (e : TypeRef) → IsNumbered es e → type_shape u e ≡ type_shape t e) where
  added_stay : (xs : List Field) (as' : List Added) → AreFields es xs as' → map (added_of u) as' ≡ map (added_of t) as'
  added_stay [] [] h = refl
  added_stay (x ∷ xs) (a ∷ as') h =
      ap₂ (λ (s : _) (rest : List AddedOf). record { name = a.name; exported = a.exported; shape = s } ∷ rest) (means a.of (x.type_number, h.0.type_number)) (added_stay xs as' h.1)
  added_stay [] (a ∷ as') h = absurd h
  added_stay (x ∷ xs) [] h = absurd h

  field_stays : (o : Option FieldEntry) → ((f : FieldEntry) → o ≡ Some f → IsNumbered es f.of) → option_map (field_of u) o ≡ option_map (field_of t) o
  field_stays None h = refl
  field_stays (Some f) h = ap (λ s. Some (record { adder = f.adder; number = f.number; shape = s; exported = f.exported; owner = f.owner })) (means f.of (h f refl))

  pub layout_stays : (x : RecordType) (l : Layout) → IsRecordType es x l → IsClosed es l → layout_of u l ≡ layout_of t l
  layout_stays x l h c =
      ap₂ (λ (as' : List AddedOf) (fs : List ℕ → Option FieldOf). record { module_number = l.module_number; line = l.line.items; added = as'; fields = fs; cells = l.cells; extent = l.extent })
      (added_stay x.fields l.added.items h.fields)
      (fun_ext (λ q. field_stays (at_fields l.fields q) (λ f is. c.field q f is)))

  pub layouts_stay : (xs : List RecordType) (ls : List Layout) → AreRecordTypes es xs ls → map (layout_of u) ls ≡ map (layout_of t) ls
  layouts_stay [] [] h = refl
  layouts_stay (x ∷ xs) (l ∷ ls) h = ap₂ (λ (a : LayoutOf) (rest : List LayoutOf). a ∷ rest) (layout_stays x l h.0 h.1) (layouts_stay xs ls h.2)
  layouts_stay [] (l ∷ ls) h = absurd h
  layouts_stay (x ∷ xs) [] h = absurd h

-- ---- all of a table

pub grown : (t u : TypeTable) → IsSound t.types t.entries.items t.bases.items → IsSound u.types u.entries.items u.bases.items → Extends t.entries.items u.entries.items → Extends t.types.signatures u.types.signatures → Grows t u
grown t u old new more signatures = record {
  entry = more.kept;
  shape = λ e h. type_means t.types u.types t.entries.items u.entries.items t.bases.items u.bases.items old new more signatures h.0 e h.1;
}

pub grown_same : (t u : TypeTable) → u.types ≡ t.types → u.entries.items ≡ t.entries.items → Grows t u
grown_same t u p q = record {
  entry = λ n e h. ap (λ es. slice_get es n) q ∙ h;
  shape = λ e h. ap (λ s. type_shape s e) p;
}

pub known_same : (t u : TypeTable) → u.types ≡ t.types → u.layouts.items ≡ t.layouts.items → u.bases.items ≡ t.bases.items → known_of u ≡ known_of t
known_same t u p q r =
    ap₂ (λ (s : Table) (x : List Layout × List (Option ℕ)). record { records = map (layout_of s) x.0; bases = x.1 }) p
    (ap₂ (λ (ls : List Layout) (bs : List (Option ℕ)). (ls, bs)) q r)

-- what is known stays, but for what was added
pub known_grown : (t u : TypeTable) → Grows t u → AreRecordTypes t.entries.items t.types.records t.layouts.items → map (layout_of u.types) t.layouts.items ≡ map (layout_of t.types) t.layouts.items
known_grown t u g h = layouts_stay t.types u.types t.entries.items g.shape t.types.records t.layouts.items h

-- ---- elements of arrays

element_before : (sigs : List Signature) (k : ℕ) (of : TypeRef) (a : ℕ) → HasParts sigs k of → element_in of ≡ Some a → a < k
element_before sigs k (TheType.Array n e) a h is = subst (λ m. m < k) (some_same e a is) h
element_before sigs k (TheType.Open e) a h is = subst (λ m. m < k) (some_same e a is) h
element_before sigs k _ a h is = none_some a is

pub elements_more : (b : Contents) → IsConsistent b → (of : TypeRef) (sigs : List Signature) → HasParts sigs (length b.entries) of → HasWholeElements b.entries of
    → (n : ℕ) (q : TypeRef) → slice_get (b.entries ++ of ∷ []) n ≡ Some q → HasWholeElements (b.entries ++ of ∷ []) q
elements_more b ok of sigs parts whole n q at a e is h = by (get_from b.entries of n q at)
  where
    known : a < length b.entries → slice_get b.entries a ≡ Some e
    known l = let d = there b.entries a l in d.1 ∙ ap (λ x. Some x) (some_same d.0 e (sym (get_left b.entries (of ∷ []) a d.0 d.1) ∙ h))

    by : (slice_get b.entries n ≡ Some q) ⊎ ((n ≡ length b.entries) × (of ≡ q)) → is_whole e ≡ true
    by (inl g) =
        let l = slice_get_within b.entries n q g in
        let m = element_before b.types.signatures n q a (ok.sound.parts n q g) is in
        ok.elements n q g a e is (known (omega (arith, l, m)))
    by (inr g) =
        let i = ap element_in g.1 ∙ is in
        whole a e i (known (element_before sigs (length b.entries) of a parts i))

-- ---- one more entry

module _ (b : Contents) (ok : IsConsistent b) (of : TypeRef) (fits : IsNext b.types.signatures b.entries of) where
  longer : Extends b.entries (b.entries ++ of ∷ [])
  longer = extends_append b.entries (of ∷ [])

  -- an array type
  pub built_array : (notes : Notes) → IsNoted b.notes notes of (length b.entries) → own_pointer of ≡ [] → HasWholeElements b.entries of → AreCounted (b.entries ++ of ∷ []) b.elements
      → notes.records ≡ b.notes.records → notes.pointers ≡ b.notes.pointers → notes.procedures ≡ b.notes.procedures → notes.signatures ≡ b.notes.signatures
      → IsConsistent (record { types = with_entry b.types b.entries b.bases ok.sound of fits; entries = b.entries ++ of ∷ []; bases = b.bases; layouts = b.layouts; notes = notes; elements = b.elements })
  built_array notes noted none whole counted records pointers procedures signatures = record {
    sound = pushed b.types b.entries b.bases ok.sound of fits;
    index = indexed b.notes notes b.entries of noted fits.new ok.index;
    signatures = record {
      says = λ parts g h. ok.signatures.says parts g (ap (λ f. f parts) (sym signatures) ∙ h);
      all = λ g x h. ap (λ f. f (signature_parts x.formals x.result)) signatures ∙ ok.signatures.all g x h;
    };
    layouts = layouts_more b.entries (b.entries ++ of ∷ []) longer b.types.records b.layouts ok.layouts;
    records = ap (λ xs. length xs) records ∙ ok.records;
    pointers = ap (λ xs. length xs) pointers ∙ ok.pointers;
    bases = ok.bases ∙ sym (no_more (pointers_of b.entries) (own_pointer of) none (pointers_of (b.entries ++ of ∷ [])) (pointers-append b.entries of));
    procedures = ap (λ xs. length xs) procedures ∙ ok.procedures;
    elements = elements_more b ok of b.types.signatures fits.parts whole;
    counted = counted;
  }
    where
      no_more : (xs ys : List ℕ) → ys ≡ [] → (zs : List ℕ) → zs ≡ xs ++ ys → length zs ≡ length xs
      no_more xs ys e zs is = let l = length-append xs ys in let m = ap (λ ps. length ps) e in let n = ap (λ ps. length ps) is in omega (arith, l, m, n)

-- ---- the same contents, otherwise come by

pub same_contents : (b : Contents) → IsConsistent b → (t : Table) (es : List TypeRef) (bs : List (Option ℕ)) (ls : List Layout) (s : Notes) → t ≡ b.types → es ≡ b.entries → bs ≡ b.bases → ls ≡ b.layouts → s ≡ b.notes
    → IsConsistent (record { types = t; entries = es; bases = bs; layouts = ls; notes = s; elements = b.elements })
same_contents b ok t es bs ls s p q r u v = subst IsConsistent (sym together) ok
  where
    together : record { types = t; entries = es; bases = bs; layouts = ls; notes = s; elements = b.elements } ≡ b
    together = ap₂ (λ (x : Table × List TypeRef × List (Option ℕ)) (y : List Layout × Notes). record { types = x.0; entries = x.1; bases = x.2; layouts = y.0; notes = y.1; elements = b.elements })
        (ap₂ (λ (x : Table) (y : List TypeRef × List (Option ℕ)). (x, y.0, y.1)) p (ap₂ (λ (x : List TypeRef) (y : List (Option ℕ)). (x, y)) q r))
        (ap₂ (λ (x : List Layout) (y : Notes). (x, y)) u v)

pub same_arrays : (s : Notes) (arrays : List ℕ → Option ℕ) → ((q : List ℕ) → arrays q ≡ s.arrays q) → record s { arrays = arrays } ≡ s
same_arrays s arrays h = ap (λ a. record s { arrays = a }) (fun_ext h)

-- ---- array types

module _ (b : Contents) (ok : IsConsistent b) (of : TypeRef) (parts : List ℕ) (is : IsArray (length b.entries) of parts) where
  pub array_next : number_in b.notes of ≡ None → IsNext b.types.signatures b.entries of
  array_next none = record { parts = before of is; new = λ n h. none_some n (sym none ∙ ok.index.all of n h); pointer = λ p e. absurd (no_pointer of is p e) }
    where
      before : (of : TypeRef) → IsArray (length b.entries) of parts → HasParts b.types.signatures (length b.entries) of
      before (TheType.Array n e) h = h.0
      before (TheType.Open e) h = h.0
      before _ h = absurd h

      no_pointer : (of : TypeRef) → IsArray (length b.entries) of parts → (p : ℕ) → of ≡ TheType.Pointer p → ⊥
      no_pointer (TheType.Array n e) h p is = let z = is in cc
      no_pointer (TheType.Open e) h p is = let z = is in cc
      no_pointer _ h p is = h

  pub array_before : IsOfBefore (length b.entries) of
  array_before = by of is
    where
      by : (of : TypeRef) → IsArray (length b.entries) of parts → IsOfBefore (length b.entries) of
      by (TheType.Array n e) h l k is = subst (λ m. m < length b.entries) (same n e l k is) h.0
        where
          same : (n e l k : ℕ) → TheType.Array n e ≡ TheType.Array l k → e ≡ k
          same n e l k is = cc
      by (TheType.Open e) h l k is = absurd (let z = is in cc)
      by _ h l k is = absurd h

  array_parted : (of : TypeRef) → IsArray (length b.entries) of parts → (number_in b.notes of ≡ b.notes.arrays parts) × (own_pointer of ≡ [])
  array_parted (TheType.Array n e) h = (ap b.notes.arrays (sym h.1), refl)
  array_parted (TheType.Open e) h = (ap b.notes.arrays (sym h.1), refl)
  array_parted _ h = absurd h

  array_is_noted : (of : TypeRef) → IsArray (length b.entries) of parts → (n : ℕ) (arrays : List ℕ → Option ℕ) → IsWith parts n b.notes.arrays arrays → IsNoted b.notes (record b.notes { arrays = arrays }) of n
  array_is_noted (TheType.Array m e) h n arrays w = array_noted b.notes n arrays m e (subst (λ ps. IsWith ps n b.notes.arrays arrays) h.1 w)
  array_is_noted (TheType.Open e) h n arrays w = open_noted b.notes n arrays e (subst (λ ps. IsWith ps n b.notes.arrays arrays) h.1 w)
  array_is_noted _ h n arrays w = absurd h

  -- it was added
  pub array_built : number_in b.notes of ≡ None → HasWholeElements b.entries of → AreCounted (b.entries ++ of ∷ []) b.elements → (arrays : List ℕ → Option ℕ) (n : ℕ) → n ≡ length b.entries → IsWith parts n b.notes.arrays arrays
      → (t : Table) (es : List TypeRef) (bs : List (Option ℕ)) (ls : List Layout)
      → t ≡ record b.types { kinds = b.types.kinds ++ kind_of_type b.bases of ∷ [] } → es ≡ b.entries ++ of ∷ [] → bs ≡ b.bases → ls ≡ b.layouts
      → IsConsistent (record { types = t; entries = es; bases = bs; layouts = ls; notes = record b.notes { arrays = arrays }; elements = b.elements })
  array_built none whole counted arrays n at w t es bs ls p q r u =
      let fits = array_next none in
      same_contents (record { types = with_entry b.types b.entries b.bases ok.sound of fits; entries = b.entries ++ of ∷ []; bases = b.bases; layouts = b.layouts; notes = record b.notes { arrays = arrays }; elements = b.elements })
      (built_array b ok of fits (record b.notes { arrays = arrays }) (array_is_noted of is (length b.entries) arrays (subst (λ m. IsWith parts m b.notes.arrays arrays) at w)) (array_parted of is).1 whole counted refl refl refl refl)
      t es bs ls (record b.notes { arrays = arrays }) p q r u refl

  -- it was noted, and that taken away again
  pub array_restored : number_in b.notes of ≡ None → (n : ℕ) (between arrays : List ℕ → Option ℕ) → IsWith parts n b.notes.arrays between → ((q : List ℕ) → arrays q ≡ cond (bytes_eq parts q) None (between q))
      → (q : List ℕ) → arrays q ≡ b.notes.arrays q
  array_restored none n between arrays w f = restored parts n b.notes.arrays between arrays (sym (array_parted of is).0 ∙ none) w f

-- a table with one more entry
pub table_pushed : (t u : TypeTable) → IsSound t.types t.entries.items t.bases.items → IsSound u.types u.entries.items u.bases.items → (of : TypeRef)
    → u.types ≡ record t.types { kinds = t.types.kinds ++ kind_of_type t.bases.items of ∷ [] } → u.entries.items ≡ t.entries.items ++ of ∷ [] → Grows t u
table_pushed t u old new of p q =
    grown t u old new (subst (λ es. Extends t.entries.items es) (sym q) (extends_append t.entries.items (of ∷ [])))
    (subst (λ s. Extends t.types.signatures s.signatures) (sym p) (extends_self t.types.signatures))

pub known_pushed : (t u : TypeTable) → Grows t u → AreRecordTypes t.entries.items t.types.records t.layouts.items → u.layouts ≡ t.layouts → u.bases ≡ t.bases → known_of u ≡ known_of t
known_pushed t u g h p q =
    ap₂ (λ (ls : List LayoutOf) (bs : List (Option ℕ)). record { records = ls; bases = bs })
    (ap (λ ls. map (layout_of u.types) ls.items) p ∙ known_grown t u g h) (ap (λ bs. bs.items) q)
