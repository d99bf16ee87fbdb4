-- The constructs of expressions and designators: each is sound where its parts are typed.
use Rattle.std.proofs.Common.{◌≡◌, ℕ, zero, suc, ◌+◌, ◌*◌, ◌^◌, ◌<◌, ◌≤◌, List, [], ◌∷◌, Bool, true, false, ◌&&◌, ◌||◌, Option, Some, None, refl, sym, ap, ◌∙◌, subst, arith, ◌⊎◌, inl, inr, eqb-true}
use Rattle.std.specs.Prelude.{slice_get, ◌==◌, nat_lt}
use Rattle.run_laws.specs.Turns.{◌>>=◌, give, each_so}
use Rattle.wrapping_numbers.proofs.Bounds.{or64_lt}
use Rattle.ob_types.specs.Layout.{kind_of, record_of, types_of, cells, field_place, extends}
use Rattle.ob_types.specs.Store.{Cell, Bits, Pointer, Code, Heap, Address, Act, given, Handed, At, Sized, Tagged, Value, Span, past, fetch, address_in, span_in, tag_in, unless, spend_all, bits_in, bits, object_in, tag_of, dynamic_in, place, span}
use Rattle.ob_types.specs.Operators.{truth, holds, inside, elements, unary_of, binary_of, relation_of, related, text_order, text_common}
use Rattle.ob_types.specs.Operators.{text_of as text_before}
use Rattle.ob_types.specs.Expressions.{element_place, field_of, object_of, narrowed, load, guarded, all_guarded, one_operand, quotient, two_operands, both, either, compared, bits_from, text_in, texts_compared, contained, with_element, with_range, pointer_type, parameter_type, is_of, type_test, as_byte, length_of, Extension}
use Rattle.ob_types.specs.Statements.{test}
use Rattle.ob_types.specs.declared.types.TypeKind.{TypeKind}
use Rattle.ob_types.specs.declared.types.TypeKind.TheVariants.{Char, Array}
use Rattle.ob_types.specs.declared.types.TypeKind.TheVariants.{Record as RecordOf}
use Rattle.ob_types.specs.declared.tree.Unary.{Unary}
use Rattle.ob_types.specs.declared.tree.Unary.TheVariants.{Negate, Complement, Not, Abs, Odd}
use Rattle.ob_types.specs.declared.tree.Binary.TheVariants.{Add, Subtract, Multiply, Div, Mod, Union, Difference, Intersection, SymmetricDifference, Subset, Superset, Lsl, Asr, Ror}
use Rattle.wrapping_numbers.specs.Sets.{subset}
use Rattle.ob_types.specs.declared.tree.Binary.{Binary}
use Rattle.ob_types.specs.declared.tree.Relation.{Relation}
use Rattle.ob_types.specs.declared.tree.Relation.TheVariants.{Equal, Unequal}
use Rattle.ob_types.specs.declared.program.Program.{Program}
use Rattle.ob_types.specs.Forms.{Form, Zero, Truth, Small, Number, ToRecord, Routines, Exactly, scalar_form, repeated, types_fine, forms, record_forms}
use Rattle.ob_types.specs.LegalTypes.{is_record_type}
use Rattle.ob_types.specs.WellFormed
use Rattle.ob_types.specs.WellFormed.{Named, Cells, Of, OpenOf, Dynamic, Characters, Elementary, Letter, provided, is_number, is_small, is_truth, unary_form, binary_form, is_pointer, is_code, holds_of, with_some, gives_number, gives_pointer, is_equality, comparable, literal_by, literal, is_writable, element_by, open_element, record_by, is_char, is_empty, matched, pointed, changes, is_full, well_formed}
use Rattle.ob_types.proofs.Tests.{none_some, some_same, no, and_of}
use Rattle.ob_sound.proofs.Tables.{get_repeated, cells_length, array_forms, whole_forms, scalar_forms, field_at, extends_trans, prefix}
use Rattle.ob_sound.proofs.Numbers.{unary_lt, binary_lt, inside_lt, elements_lt}
use Rattle.ob_sound.proofs.Typed.{Any, Fits, Formed, HasForm, Names, NamesOf, Older, Placed, Sound, Spanned, Stands, element_forms, element_is, form_at, formed_of, lt_of, object_forms, older_refl, older_trans, provided_is, s_bind, s_fetch, s_give, s_given, s_if, s_older, s_placed, s_spend, s_tag_of, s_trap, s_unless, s_weaker, stands_older}

module _ (p : Program) where
  -- from here on the table of types is fine
  module _ (fine : types_fine p.types ≡ true) where
    pub s_span : {fs : List (List Form)} {tags : List ℕ} {d : Act Handed} (n : Named) (l : Option ℕ) (el : Elementary) → WellFormed.elements_in p n l ≡ Some el → Sound p fs tags (NamesOf p fs n) d → Sound p fs tags (Spanned p fs el (is_writable n)) (span d l)
    s_span {fs = fs} (Of k w) (Some n) el is q =
        let e = element_is p (kind_of p.types k) n el is in
        s_bind p (s_placed p (Of k w) (repeated n (element_forms p el)) w (λ more h names. by e more h names) q)
        (λ more a e2 placed. s_give p (record { at = a; length = n }) (λ most e3. (stands_older p fs more most e3 a (repeated n (element_forms p el)) placed.0, placed.1, e.3)))
      where
        by : (e : ℕ) × (kind_of p.types k ≡ Array (Some n) e) × (WellFormed.OfType e ≡ el) × (n < 2 ^ 32) → (more : List ℕ) (h : Handed) → Names p fs more (Of k w) h → (a : Address) × (address_in h ≡ Some a) × Placed p fs (repeated n (element_forms p el)) w more a
        by e more (At a) names = (a, refl, (subst (λ xs. Stands p fs more a xs) (array_forms p.types fine k n e.0 e.1 ∙ ap (λ x. repeated n (element_forms p x)) e.2) names.0, names.1))
        by e more (Sized a m) names = absurd names
        by e more (Tagged a t) names = absurd names
        by e more (Value c) names = absurd names
    s_span {fs = fs} (OpenOf e w) None el is q = s_bind p q (λ more h e2 names. by more h names)
      where
        by : (more : List ℕ) (h : Handed) → Names p fs more (OpenOf e w) h → Sound p fs more (Spanned p fs el w) (given (span_in h))
        by more (Sized a n) names = s_give p (record { at = a; length = n }) (λ most e3. (subst (λ x. Stands p fs most a (repeated n (element_forms p x))) (some_same (WellFormed.OfType e) el is) (stands_older p fs more most e3 a (repeated n (forms p.types e)) names.0), names.1, names.2))
        by more (At a) names = absurd names
        by more (Tagged a t) names = absurd names
        by more (Value c) names = absurd names
    s_span {fs = fs} (Characters m) (Some n) el is q =
        let a = provided_is p (m == n && nat_lt n (2 ^ 32)) (Some Letter) el is in
        let b = and_of (m == n) (nat_lt n (2 ^ 32)) a.0 in
        s_bind p (s_placed p (Characters m) (repeated n (element_forms p el)) false (λ more h names. by (eqb-true m n b.0) (some_same Letter el a.1) more h names) q)
        (λ more a e2 placed. s_give p (record { at = a; length = n }) (λ most e3. (stands_older p fs more most e3 a (repeated n (element_forms p el)) placed.0, placed.1, lt_of p n (2 ^ 32) b.1)))
      where
        by : m ≡ n → Letter ≡ el → (more : List ℕ) (h : Handed) → Names p fs more (Characters m) h → (a : Address) × (address_in h ≡ Some a) × Placed p fs (repeated n (element_forms p el)) false more a
        by e l more (At a) names = (a, refl, (subst (λ x. Stands p fs more a (repeated n (element_forms p x))) l (subst (λ k. Stands p fs more a (repeated k (Small ∷ []))) e names), λ bad. no bad))
        by e l more (Sized a k) names = absurd names
        by e l more (Tagged a t) names = absurd names
        by e l more (Value c) names = absurd names
    s_span (Of k w) None el is q = none_some el is
    s_span (OpenOf e w) (Some n) el is q = none_some el is
    s_span (Characters m) None el is q = none_some el is
    s_span (Cells f w) l el is q = none_some el (by l is)
      where
        by : (l : Option ℕ) → WellFormed.elements_in p (Cells f w) l ≡ Some el → None ≡ Some el
        by None e = e
        by (Some n) e = e
    s_span (Dynamic r) l el is q = none_some el (by l is)
      where
        by : (l : Option ℕ) → WellFormed.elements_in p (Dynamic r) l ≡ Some el → None ≡ Some el
        by None e = e
        by (Some n) e = e

    -- a variable of one cell
    pub scalar_placed : (fs : List (List Form)) (n : Named) (k : Form) → WellFormed.scalar_in p n ≡ Some k → (more : List ℕ) (h : Handed) → Names p fs more n h → (a : Address) × (address_in h ≡ Some a) × Placed p fs (k ∷ []) (is_writable n) more a
    scalar_placed fs (Cells f w) k is more (At a) names = (a, refl, (subst (λ x. Stands p fs more a (x ∷ [])) (some_same f k is) names.0, names.1))
    scalar_placed fs (Of l w) k is more (At a) names = (a, refl, (subst (λ xs. Stands p fs more a xs) (scalar_forms p.types fine l k is) names.0, names.1))
    scalar_placed fs (OpenOf e w) k is more h names = none_some k is
    scalar_placed fs (Dynamic r) k is more h names = none_some k is
    scalar_placed fs (Characters n) k is more h names = none_some k is
    scalar_placed fs _ k is more _ names = absurd names

    pub s_scalar : {fs : List (List Form)} {tags : List ℕ} {d : Act Handed} (n : Named) (k : Form) → WellFormed.scalar_in p n ≡ Some k → Sound p fs tags (NamesOf p fs n) d → Sound p fs tags (Placed p fs (k ∷ []) (is_writable n)) (place d)
    s_scalar {fs = fs} n k is q = s_placed p n (k ∷ []) (is_writable n) (scalar_placed fs n k is) q

    -- a record
    pub record_is : (kind : TypeKind) (r : ℕ) → record_by kind ≡ Some r → kind ≡ RecordOf r
    record_is (RecordOf s) r is = ap RecordOf (some_same s r is)
    record_is _ r is = none_some r is

    pub narrower : (fs : List (List Form)) (more : List ℕ) (a : Address) (s r : ℕ) → extends p.types s r ≡ true → Stands p fs more a (record_forms p.types s) → Stands p fs more a (record_forms p.types r)
    narrower fs more a s r ext h i k at = h i k (prefix p.types fine s r i k ext at)

    pub holds_is : {A : Type 0} (test : A → Bool) (o : Option A) → holds_of test o ≡ true → (x : A) × (o ≡ Some x) × (test x ≡ true)
    holds_is test None h = no h
    holds_is test (Some x) h = (x, refl, h)

    pub record_placed : (fs : List (List Form)) (n : Named) (r : ℕ) → WellFormed.has_record p r n ≡ true → (more : List ℕ) (h : Handed) → Names p fs more n h → (a : Address) × (address_in h ≡ Some a) × Placed p fs (record_forms p.types r) (is_writable n) more a
    record_placed fs (Of k w) r has more (At a) names =
        let s = holds_is (λ s. extends p.types s r) (record_by (kind_of p.types k)) has in
        (a, refl, (narrower fs more a s.0 r s.2 (subst (λ xs. Stands p fs more a xs) (whole_forms p.types fine k s.0 (record_is (kind_of p.types k) s.0 s.1)) names.0), names.1))
    record_placed fs (Dynamic s) r has more (Tagged a t) names = (a, refl, (narrower fs more a t r (extends_trans p.types fine t s r names.1 has) names.0, λ _. names.2))
    record_placed fs (Cells f w) r has more h names = no has
    record_placed fs (OpenOf e w) r has more h names = no has
    record_placed fs (Characters n) r has more h names = no has
    record_placed fs _ r has more _ names = absurd names

    pub s_record : {fs : List (List Form)} {tags : List ℕ} {d : Act Handed} (n : Named) (r : ℕ) → WellFormed.has_record p r n ≡ true → Sound p fs tags (NamesOf p fs n) d → Sound p fs tags (Placed p fs (record_forms p.types r) (is_writable n)) (place d)
    s_record {fs = fs} n r has q = s_placed p n (record_forms p.types r) (is_writable n) (record_placed fs n r has) q

    -- what a typing promises of a part

    pub record Means (fs : List (List Form)) (tags : List ℕ) (o : Option Form) (x : Act Cell) : Type 0 where
      pub sound : (k : Form) → o ≡ Some k → Sound p fs tags (HasForm p k) x

    pub record Points (fs : List (List Form)) (tags : List ℕ) (o : Option Named) (d : Act Handed) : Type 0 where
      pub sound : (n : Named) → o ≡ Some n → Sound p fs tags (NamesOf p fs n) d

    pub record Does {A : Type 0} (fs : List (List Form)) (tags : List ℕ) (b : Bool) (m : Act A) : Type 0 where
      pub sound : b ≡ true → Sound p fs tags (Any p) m

    pub m_of : {fs : List (List Form)} {tags : List ℕ} {x : Act Cell} (k : Form) → Sound p fs tags (HasForm p k) x → Means fs tags (Some k) x
    m_of {fs = fs} {tags = tags} {x = x} k q = record { sound = λ l is. subst (λ k. Sound p fs tags (HasForm p k) x) (some_same k l is) q }

    pub m_provided : {fs : List (List Form)} {tags : List ℕ} {x : Act Cell} (b : Bool) (o : Option Form) → (b ≡ true → Means fs tags o x) → Means fs tags (provided b o) x
    m_provided b o h = record { sound = λ k is. let a = provided_is p b o k is in (h a.0).sound k a.1 }

    pub with_is : {A B : Type 0} (o : Option A) (f : A → Option B) (x : B) → with_some o f ≡ Some x → (a : A) × (o ≡ Some a) × (f a ≡ Some x)
    with_is None f x e = none_some x e
    with_is (Some a) f x e = (a, refl, e)

    pub m_some : {A : Type 0} {fs : List (List Form)} {tags : List ℕ} {x : Act Cell} (o : Option A) (f : A → Option Form) → ((a : A) → o ≡ Some a → Means fs tags (f a) x) → Means fs tags (with_some o f) x
    m_some o f h = record { sound = λ k is. let a = with_is o f k is in (h a.0 a.1).sound k a.2 }

    pub p_of : {fs : List (List Form)} {tags : List ℕ} {x : Act Handed} (k : Named) → Sound p fs tags (NamesOf p fs k) x → Points fs tags (Some k) x
    p_of {fs = fs} {tags = tags} {x = x} k q = record { sound = λ l is. subst (λ k. Sound p fs tags (NamesOf p fs k) x) (some_same k l is) q }

    pub p_provided : {fs : List (List Form)} {tags : List ℕ} {x : Act Handed} (b : Bool) (o : Option Named) → (b ≡ true → Points fs tags o x) → Points fs tags (provided b o) x
    p_provided b o h = record { sound = λ k is. let a = provided_is p b o k is in (h a.0).sound k a.1 }

    pub p_some : {A : Type 0} {fs : List (List Form)} {tags : List ℕ} {x : Act Handed} (o : Option A) (f : A → Option Named) → ((a : A) → o ≡ Some a → Points fs tags (f a) x) → Points fs tags (with_some o f) x
    p_some o f h = record { sound = λ k is. let a = with_is o f k is in (h a.0 a.1).sound k a.2 }

    pub does_if : {A : Type 0} {fs : List (List Form)} {tags : List ℕ} {m : Act A} (b : Bool) → (b ≡ true → Sound p fs tags (Any p) m) → Does fs tags b m
    does_if b h = record { sound = h }

    pub does_also : {A : Type 0} {fs : List (List Form)} {tags : List ℕ} {m : Act A} {b : Bool} (a : Bool) → Does fs tags b m → Does fs tags (a && b) m
    does_also {b = b} a q = record { sound = λ h. q.sound (and_of a b h).1 }

    pub number_fits : (tags : List ℕ) (k : Form) (c : Cell) → is_number k ≡ true → Fits p tags k c → Fits p tags Number c
    number_fits tags Zero (Bits n) h f = omega (arith, f)
    number_fits tags Truth (Bits n) h f = omega (arith, f)
    number_fits tags Small (Bits n) h f = omega (arith, f)
    number_fits tags Number (Bits n) h f = f
    number_fits tags (ToRecord r) c h f = no h
    number_fits tags (Routines r) c h f = no h
    number_fits tags (Exactly r) c h f = no h
    number_fits tags _ _ h f = absurd f

    pub as_number : {fs : List (List Form)} {tags : List ℕ} {x : Act Cell} (o : Option Form) → gives_number o ≡ true → Means fs tags o x → Sound p fs tags (HasForm p Number) x
    as_number o h m = let k = holds_is is_number o h in s_weaker p (λ t c f. number_fits t k.0 c k.2 f) (m.sound k.0 k.1)

    abbrev pub IsNumber : List ℕ → ℕ → Type 0
    IsNumber tags n = n < 2 ^ 64

    pub s_bits_in : {fs : List (List Form)} {tags : List ℕ} (c : Cell) → Fits p tags Number c → Sound p fs tags IsNumber (bits_in c)
    s_bits_in (Bits n) f = s_give p n (λ _ _. f)
    s_bits_in (Pointer o) f = absurd f
    s_bits_in (Code g) f = absurd f

    pub s_bits : {fs : List (List Form)} {tags : List ℕ} {x : Act Cell} → Sound p fs tags (HasForm p Number) x → Sound p fs tags IsNumber (bits x)
    s_bits q = s_bind p q (λ more c e f. s_bits_in c f)

    -- the constructs of expressions

    pub s_number : {fs : List (List Form)} {tags : List ℕ} (n : ℕ) → n < 2 ^ 64 → Sound p fs tags (HasForm p Number) (give (Bits n))
    s_number n l = s_give p (Bits n) (λ _ _. l)

    pub n_bits : {fs : List (List Form)} {tags : List ℕ} {x : Act Cell} (o : Option Form) → gives_number o ≡ true → Means fs tags o x → Sound p fs tags IsNumber (bits x)
    n_bits o h m = s_bits (as_number o h m)

    pub m_load : {fs : List (List Form)} {tags : List ℕ} {d : Act Handed} (o : Option Named) → Points fs tags o d → Means fs tags (with_some o (WellFormed.scalar_in p)) (load d)
    m_load {fs = fs} o q = m_some o (WellFormed.scalar_in p) (λ n is. record { sound = λ k has. s_bind p (s_scalar n k has (q.sound n is)) (λ more a e placed. s_fetch p a k (formed_of p fs more a k placed.0)) })

    pub truth_lt2 : (b : Bool) → truth b < 2
    truth_lt2 true = omega arith
    truth_lt2 false = omega arith

    pub s_truth : {fs : List (List Form)} {tags : List ℕ} (b : Bool) → Sound p fs tags (HasForm p Truth) (give (Bits (truth b)))
    s_truth b = s_give p (Bits (truth b)) (λ _ _. truth_lt2 b)

    pub truth_number : (k : Form) → is_truth k ≡ true → is_number k ≡ true
    truth_number Zero h = refl
    truth_number Truth h = refl
    truth_number _ h = no h

    pub truth_fits : (tags : List ℕ) (k : Form) (c : Cell) → is_truth k ≡ true → Fits p tags k c → Fits p tags Truth c
    truth_fits tags Zero (Bits n) h f = omega (arith, f)
    truth_fits tags Truth (Bits n) h f = f
    truth_fits tags Small c h f = no h
    truth_fits tags Number c h f = no h
    truth_fits tags (ToRecord r) c h f = no h
    truth_fits tags (Routines r) c h f = no h
    truth_fits tags (Exactly r) c h f = no h
    truth_fits tags _ _ h f = absurd f

    pub as_truth : {fs : List (List Form)} {tags : List ℕ} {x : Act Cell} (o : Option Form) → WellFormed.gives_truth o ≡ true → Means fs tags o x → Sound p fs tags (HasForm p Truth) x
    as_truth o h m = let k = holds_is is_truth o h in s_weaker p (λ t c f. truth_fits t k.0 c k.2 f) (m.sound k.0 k.1)

    pub t_bits : {fs : List (List Form)} {tags : List ℕ} {x : Act Cell} (o : Option Form) → WellFormed.gives_truth o ≡ true → Means fs tags o x → Sound p fs tags IsNumber (bits x)
    t_bits o h m = s_bits (s_weaker p (λ t c f. number_fits t Truth c refl f) (as_truth o h m))

    pub unary_fits : (tags : List ℕ) (op : Unary) (a : ℕ) → a < 2 ^ 64 → Fits p tags (unary_form op) (Bits (unary_of op a))
    unary_fits tags Not a l = truth_lt2 _
    unary_fits tags Odd a l = omega arith
    unary_fits tags Negate a l = unary_lt Negate a l
    unary_fits tags Complement a l = unary_lt Complement a l
    unary_fits tags Abs a l = unary_lt Abs a l

    pub m_unary : {fs : List (List Form)} {tags : List ℕ} {x : Act Cell} (op : Unary) (o : Option Form) → Means fs tags o x → Means fs tags (provided (gives_number o) (Some (unary_form op))) (one_operand op x)
    m_unary op o q = m_provided (gives_number o) (Some (unary_form op)) (λ h. m_of (unary_form op) (s_bind p (n_bits o h q) (λ more a e l. s_give p (Bits (unary_of op a)) (λ last _. unary_fits last op a l))))

    pub s_quotient : {fs : List (List Form)} {tags : List ℕ} (f : ℕ) (k : Form) (o : Option ℕ) → ((more : List ℕ) (n : ℕ) → o ≡ Some n → Fits p more k (Bits n)) → Sound p fs tags (HasForm p k) (quotient f o)
    s_quotient f k None l = s_trap p 4 f
    s_quotient f k (Some n) l = s_give p (Bits n) (λ more _. l more n refl)

    pub binary_fits : (tags : List ℕ) (op : Binary) (a b n : ℕ) → a < 2 ^ 64 → b < 2 ^ 64 → binary_of op a b ≡ Some n → Fits p tags (binary_form op) (Bits n)
    binary_fits tags Subset a b n k l is = subst (λ m. m < 2) (some_same (truth (subset a b)) n is) (truth_lt2 (subset a b))
    binary_fits tags Superset a b n k l is = subst (λ m. m < 2) (some_same (truth (subset b a)) n is) (truth_lt2 (subset b a))
    binary_fits tags Add a b n k l is = binary_lt Add a b n k l is
    binary_fits tags Subtract a b n k l is = binary_lt Subtract a b n k l is
    binary_fits tags Multiply a b n k l is = binary_lt Multiply a b n k l is
    binary_fits tags Div a b n k l is = binary_lt Div a b n k l is
    binary_fits tags Mod a b n k l is = binary_lt Mod a b n k l is
    binary_fits tags Union a b n k l is = binary_lt Union a b n k l is
    binary_fits tags Difference a b n k l is = binary_lt Difference a b n k l is
    binary_fits tags Intersection a b n k l is = binary_lt Intersection a b n k l is
    binary_fits tags SymmetricDifference a b n k l is = binary_lt SymmetricDifference a b n k l is
    binary_fits tags Lsl a b n k l is = binary_lt Lsl a b n k l is
    binary_fits tags Asr a b n k l is = binary_lt Asr a b n k l is
    binary_fits tags Ror a b n k l is = binary_lt Ror a b n k l is

    pub m_two : {fs : List (List Form)} {tags : List ℕ} {x y : Act Cell} (f : ℕ) (op : Binary) (o l : Option Form) → Means fs tags o x → Means fs tags l y → Means fs tags (provided (gives_number o) (provided (gives_number l) (Some (binary_form op)))) (two_operands f op x y)
    m_two f op o l q r = m_provided (gives_number o) (provided (gives_number l) (Some (binary_form op))) (λ h. m_provided (gives_number l) (Some (binary_form op)) (λ g. m_of (binary_form op) (s_bind p (n_bits o h q) (λ more a e i. s_bind p (s_older p e (n_bits l g r)) (λ most b e2 j. s_quotient f (binary_form op) (binary_of op a b) (λ last n is. binary_fits last op a b n i j is))))))

    pub m_both : {fs : List (List Form)} {tags : List ℕ} {x y : Act Cell} (o l : Option Form) → Means fs tags o x → Means fs tags l y → Means fs tags (provided (WellFormed.gives_truth o) (provided (WellFormed.gives_truth l) (Some Truth))) (both x y)
    m_both o l q r = m_provided (WellFormed.gives_truth o) (provided (WellFormed.gives_truth l) (Some Truth)) (λ h. m_provided (WellFormed.gives_truth l) (Some Truth) (λ g. m_of Truth (s_bind p (t_bits o h q) (λ more a e i. s_if p (holds a) (s_older p e (as_truth l g r)) (s_truth false)))))

    pub m_either : {fs : List (List Form)} {tags : List ℕ} {x y : Act Cell} (o l : Option Form) → Means fs tags o x → Means fs tags l y → Means fs tags (provided (WellFormed.gives_truth o) (provided (WellFormed.gives_truth l) (Some Truth))) (either x y)
    m_either o l q r = m_provided (WellFormed.gives_truth o) (provided (WellFormed.gives_truth l) (Some Truth)) (λ h. m_provided (WellFormed.gives_truth l) (Some Truth) (λ g. m_of Truth (s_bind p (t_bits o h q) (λ more a e i. s_if p (holds a) (s_truth true) (s_older p e (as_truth l g r))))))

    abbrev pub IsLink : Cell → Type 0
    IsLink (Bits n) = n ≡ 0
    IsLink (Pointer o) = Unit {0}
    IsLink (Code f) = ⊥

    abbrev pub IsRoutine : Cell → Type 0
    IsRoutine (Bits n) = n ≡ 0
    IsRoutine (Pointer o) = ⊥
    IsRoutine (Code f) = Unit {0}

    abbrev pub IsBits : Cell → Type 0
    IsBits (Bits n) = Unit {0}
    IsBits (Pointer o) = ⊥
    IsBits (Code f) = ⊥

    pub links_relate : (r : Relation) → is_equality r ≡ true → (c d : Cell) → IsLink c → IsLink d → (b : Bool) × (relation_of r c d ≡ Some b)
    links_relate Equal h (Bits x) (Bits y) i j = (_, refl)
    links_relate Equal h (Bits zero) (Pointer o) i j = (_, refl)
    links_relate Equal h (Bits (suc x)) (Pointer o) i j = absurd (omega (arith, i))
    links_relate Equal h (Pointer o) (Bits zero) i j = (_, refl)
    links_relate Equal h (Pointer o) (Bits (suc y)) i j = absurd (omega (arith, j))
    links_relate Equal h (Pointer o) (Pointer q) i j = (_, refl)
    links_relate Equal h (Code f) d i j = absurd i
    links_relate Equal h (Bits x) (Code f) i j = absurd j
    links_relate Equal h (Pointer x) (Code f) i j = absurd j
    links_relate Unequal h (Bits x) (Bits y) i j = (_, refl)
    links_relate Unequal h (Bits zero) (Pointer o) i j = (_, refl)
    links_relate Unequal h (Bits (suc x)) (Pointer o) i j = absurd (omega (arith, i))
    links_relate Unequal h (Pointer o) (Bits zero) i j = (_, refl)
    links_relate Unequal h (Pointer o) (Bits (suc y)) i j = absurd (omega (arith, j))
    links_relate Unequal h (Pointer o) (Pointer q) i j = (_, refl)
    links_relate Unequal h (Code f) d i j = absurd i
    links_relate Unequal h (Bits x) (Code f) i j = absurd j
    links_relate Unequal h (Pointer x) (Code f) i j = absurd j
    links_relate _ h c d i j = no h

    pub routines_relate : (r : Relation) → is_equality r ≡ true → (c d : Cell) → IsRoutine c → IsRoutine d → (b : Bool) × (relation_of r c d ≡ Some b)
    routines_relate Equal h (Bits x) (Bits y) i j = (_, refl)
    routines_relate Equal h (Bits zero) (Code o) i j = (_, refl)
    routines_relate Equal h (Bits (suc x)) (Code o) i j = absurd (omega (arith, i))
    routines_relate Equal h (Code o) (Bits zero) i j = (_, refl)
    routines_relate Equal h (Code o) (Bits (suc y)) i j = absurd (omega (arith, j))
    routines_relate Equal h (Code o) (Code q) i j = (_, refl)
    routines_relate Equal h (Pointer f) d i j = absurd i
    routines_relate Equal h (Bits x) (Pointer f) i j = absurd j
    routines_relate Equal h (Code x) (Pointer f) i j = absurd j
    routines_relate Unequal h (Bits x) (Bits y) i j = (_, refl)
    routines_relate Unequal h (Bits zero) (Code o) i j = (_, refl)
    routines_relate Unequal h (Bits (suc x)) (Code o) i j = absurd (omega (arith, i))
    routines_relate Unequal h (Code o) (Bits zero) i j = (_, refl)
    routines_relate Unequal h (Code o) (Bits (suc y)) i j = absurd (omega (arith, j))
    routines_relate Unequal h (Code o) (Code q) i j = (_, refl)
    routines_relate Unequal h (Pointer f) d i j = absurd i
    routines_relate Unequal h (Bits x) (Pointer f) i j = absurd j
    routines_relate Unequal h (Code x) (Pointer f) i j = absurd j
    routines_relate _ h c d i j = no h

    pub bits_relate : (r : Relation) (c d : Cell) → IsBits c → IsBits d → (b : Bool) × (relation_of r c d ≡ Some b)
    bits_relate r (Bits x) (Bits y) i j = (related r x y, refl)
    bits_relate r (Bits x) (Pointer y) i j = absurd j
    bits_relate r (Bits x) (Code y) i j = absurd j
    bits_relate r (Pointer x) d i j = absurd i
    bits_relate r (Code x) d i j = absurd i

    pub fit_bits : (tags : List ℕ) (k : Form) (c : Cell) → is_number k ≡ true → Fits p tags k c → IsBits c
    fit_bits tags Zero (Bits n) h f = tt
    fit_bits tags Truth (Bits n) h f = tt
    fit_bits tags Small (Bits n) h f = tt
    fit_bits tags Number (Bits n) h f = tt
    fit_bits tags (ToRecord r) c h f = no h
    fit_bits tags (Routines r) c h f = no h
    fit_bits tags (Exactly r) c h f = no h
    fit_bits tags _ _ h f = absurd f

    pub fit_link : (tags : List ℕ) (k : Form) (c : Cell) → is_pointer k ≡ true → Fits p tags k c → IsLink c
    fit_link tags Zero (Bits n) h f = f
    fit_link tags (ToRecord r) (Bits n) h f = f
    fit_link tags (ToRecord r) (Pointer o) h f = tt
    fit_link tags Truth c h f = no h
    fit_link tags Small c h f = no h
    fit_link tags Number c h f = no h
    fit_link tags (Routines r) c h f = no h
    fit_link tags (Exactly r) c h f = no h
    fit_link tags _ _ h f = absurd f

    pub fit_routine : (tags : List ℕ) (k : Form) (c : Cell) → is_code k ≡ true → Fits p tags k c → IsRoutine c
    fit_routine tags Zero (Bits n) h f = f
    fit_routine tags (Routines r) (Bits n) h f = f
    fit_routine tags (Routines r) (Code o) h f = tt
    fit_routine tags (Exactly r) (Code o) h f = tt
    fit_routine tags Truth c h f = no h
    fit_routine tags Small c h f = no h
    fit_routine tags Number c h f = no h
    fit_routine tags (ToRecord r) c h f = no h
    fit_routine tags _ _ h f = absurd f

    pub or_split : (a b : Bool) → (a || b) ≡ true → (a ≡ true) ⊎ (b ≡ true)
    or_split true b h = inl refl
    or_split false b h = inr h

    pub relates : (r : Relation) (a b : Form) (t u : List ℕ) (c d : Cell) → comparable r a b ≡ true → Fits p t a c → Fits p u b d → (x : Bool) × (relation_of r c d ≡ Some x)
    relates r a b t u c d h f g = elim (or_split (is_number a && is_number b) (is_equality r && (is_pointer a && is_pointer b || is_code a && is_code b)) h) [
      | inl n ↦ (let y = and_of (is_number a) (is_number b) n in bits_relate r c d (fit_bits t a c y.0 f) (fit_bits u b d y.1 g))
      | inr e ↦ (let z = and_of (is_equality r) (is_pointer a && is_pointer b || is_code a && is_code b) e in
          elim (or_split (is_pointer a && is_pointer b) (is_code a && is_code b) z.1) [
            | inl n ↦ (let y = and_of (is_pointer a) (is_pointer b) n in links_relate r z.0 c d (fit_link t a c y.0 f) (fit_link u b d y.1 g))
            | inr n ↦ (let y = and_of (is_code a) (is_code b) n in routines_relate r z.0 c d (fit_routine t a c y.0 f) (fit_routine u b d y.1 g))
          ])
    ]

    pub m_compared : {fs : List (List Form)} {tags : List ℕ} {x y : Act Cell} (r : Relation) (o l : Option Form) → Means fs tags o x → Means fs tags l y → Means fs tags (with_some o (λ a. with_some l (λ b. provided (comparable r a b) (Some Truth)))) (compared r x y)
    m_compared r o l q s = m_some o (λ a. with_some l (λ b. provided (comparable r a b) (Some Truth))) (λ a isa. m_some l (λ b. provided (comparable r a b) (Some Truth)) (λ b isb. m_provided (comparable r a b) (Some Truth) (λ h. m_of Truth
        (s_bind p (q.sound a isa) (λ more c e f. s_bind p (s_older p e (s.sound b isb)) (λ most d e2 g. let z = relates r a b more most c d h f g in
        s_bind p {P = Any p} (s_given p (relation_of r c d) z.0 z.1 (λ _ _. tt)) (λ last answer e3 u. s_truth answer)))))))

    pub s_each : {fs : List (List Form)} {tags : List ℕ} (n i : ℕ) (part : ℕ → Act Bool) → ((more : List ℕ) → Older tags more → (j : ℕ) → i ≤ j → j < i + n → Sound p fs more (Any p) (part j)) → Sound p fs tags (Any p) (each_so n i part)
    s_each zero i part q = s_give p tt (λ _ _. tt)
    s_each {tags = tags} (suc n) i part q = s_bind p (q tags (older_refl tags) i (omega arith) (omega arith)) (λ more b e u. s_bind p (s_spend p) (λ most v e2 w. s_if p b (s_each n (suc i) part (λ last e3 j a l. q last (older_trans tags more last e (older_trans more most last e2 e3)) j (omega (arith, a)) (omega (arith, l)))) (s_give p tt (λ _ _. tt))))

    pub s_spend_all : {fs : List (List Form)} {tags : List ℕ} (n : ℕ) → Sound p fs tags (Any p) (spend_all n)
    s_spend_all n = s_each n 0 (λ _. give true) (λ more e j a l. s_give p true (λ _ _. tt))

    pub s_small : {fs : List (List Form)} {tags : List ℕ} (a : Address) → Formed p fs tags a Small → Sound p fs tags IsNumber (bits (fetch a))
    s_small a at = s_bits (s_weaker p (λ t c f. number_fits t Small c refl f) (s_fetch p a Small at))

    pub s_bits_from : {fs : List (List Form)} {tags : List ℕ} (n : ℕ) (a : Address) → Stands p fs tags a (repeated n (Small ∷ [])) → Sound p fs tags (Any p) (bits_from n a)
    s_bits_from zero a h = s_give p [] (λ _ _. tt)
    s_bits_from {fs = fs} {tags = tags} (suc n) a h = s_bind p (s_small a (let e : a.cell + 0 ≡ a.cell = omega arith in subst (λ i. form_at p fs tags a.area a.object i ≡ Some Small) e (h 0 Small refl)))
        (λ more x e u. s_bind p (s_bits_from n (past a 1) (stands_older p fs tags more e (past a 1) (repeated n (Small ∷ [])) (λ i k at. let e2 : a.cell + suc i ≡ a.cell + 1 + i = omega arith in subst (λ j. form_at p fs tags a.area a.object j ≡ Some k) e2 (h (suc i) k at))))
        (λ most xs e2 v. s_give p (x ∷ xs) (λ _ _. tt)))

    pub letter_forms : (el : Elementary) → WellFormed.is_letter p el ≡ true → element_forms p el ≡ Small ∷ []
    letter_forms Letter h = refl
    letter_forms (WellFormed.OfType k) h = scalar_forms p.types fine k Small (char_form (kind_of p.types k) h)
      where
        char_form : (kind : TypeKind) → is_char kind ≡ true → scalar_form kind ≡ Some Small
        char_form Char h = refl
        char_form _ h = no h

    pub s_text_in : {fs : List (List Form)} {tags : List ℕ} (el : Elementary) (w : Bool) (a : Span) → WellFormed.is_letter p el ≡ true → Spanned p fs el w tags a → Sound p fs tags (Any p) (text_in a)
    s_text_in {fs = fs} {tags = tags} el w a h q = s_bind p (s_bits_from a.length a.at (subst (λ xs. Stands p fs tags a.at (repeated a.length xs)) (letter_forms el h) q.0)) (λ more xs e u. s_give p (text_before xs) (λ _ _. tt))

    pub elements_older : (fs : List (List Form)) (tags more : List ℕ) → Older tags more → (el : Elementary) (w : Bool) (a : Span) → Spanned p fs el w tags a → Spanned p fs el w more a
    elements_older fs tags more e el w a q = (stands_older p fs tags more e a.at (repeated a.length (element_forms p el)) q.0, q.1, q.2)

    -- an array of elements of which a test holds
    abbrev pub AnArray : Option ℕ → (Elementary → Bool) → Option Named → Bool
    AnArray n test o = holds_of (λ d. holds_of test (WellFormed.elements_in p d n)) o

    pub an_array : {fs : List (List Form)} {tags : List ℕ} {d : Act Handed} (n : Option ℕ) (test : Elementary → Bool) (o : Option Named) → AnArray n test o ≡ true → Points fs tags o d → (c : Named) × (el : Elementary) × (o ≡ Some c) × (test el ≡ true) × Sound p fs tags (Spanned p fs el (is_writable c)) (span d n)
    an_array n test o h q =
        let a = holds_is (λ d. holds_of test (WellFormed.elements_in p d n)) o h in
        let b = holds_is test (WellFormed.elements_in p a.0 n) a.2 in
        (a.0, b.0, a.1, b.2, s_span a.0 n b.0 b.1 (q.sound a.0 a.1))

    pub m_texts : {fs : List (List Form)} {tags : List ℕ} {d c : Act Handed} (r : Relation) (n m : Option ℕ) (o l : Option Named) → Points fs tags o d → Points fs tags l c → Means fs tags (provided (holds_of (WellFormed.is_text p n) o) (provided (holds_of (WellFormed.is_text p m) l) (Some Truth))) (texts_compared r d n c m)
    m_texts {fs = fs} r n m o l q s = m_provided (holds_of (WellFormed.is_text p n) o) (provided (holds_of (WellFormed.is_text p m) l) (Some Truth)) (λ h. m_provided (holds_of (WellFormed.is_text p m) l) (Some Truth) (λ g.
        let x = an_array n (WellFormed.is_letter p) o h q in
        let y = an_array m (WellFormed.is_letter p) l g s in
        m_of Truth (s_bind p x.4 (λ t1 a e1 xa. s_bind p (s_older p e1 y.4) (λ t2 b e2 yb.
        s_bind p (s_text_in x.1 (is_writable x.0) a x.3 (elements_older fs t1 t2 e2 x.1 (is_writable x.0) a xa)) (λ t3 xs e3 u. s_bind p (s_text_in y.1 (is_writable y.0) b y.3 (elements_older fs t2 t3 e3 y.1 (is_writable y.0) b yb)) (λ t4 ys e4 v.
        s_bind p (s_spend_all (suc (text_common xs ys))) (λ t5 w e5 z. s_truth (text_order (related r) xs ys)))))))))

    pub m_in : {fs : List (List Form)} {tags : List ℕ} {x s : Act Cell} (f : ℕ) (o l : Option Form) → Means fs tags o x → Means fs tags l s → Means fs tags (provided (gives_number o) (provided (gives_number l) (Some Truth))) (contained f x s)
    m_in f o l q r = m_provided (gives_number o) (provided (gives_number l) (Some Truth)) (λ h. m_provided (gives_number l) (Some Truth) (λ g. m_of Truth (s_bind p (n_bits o h q) (λ more a e i. s_bind p (s_unless p f 7 (inside a 64)) (λ most u e2 j. s_bind p (s_older p (older_trans _ more most e e2) (n_bits l g r)) (λ last b e3 k. s_truth _))))))

    pub m_with : {fs : List (List Form)} {tags : List ℕ} {s x : Act Cell} (f : ℕ) (o l : Option Form) → Means fs tags o s → Means fs tags l x → Means fs tags (provided (gives_number o) (provided (gives_number l) (Some Number))) (with_element f s x)
    m_with f o l q r = m_provided (gives_number o) (provided (gives_number l) (Some Number)) (λ h. m_provided (gives_number l) (Some Number) (λ g. m_of Number (s_bind p (n_bits o h q) (λ more b e i. s_bind p (s_older p e (n_bits l g r)) (λ most a e2 j. s_bind p (s_unless p f 7 (inside a 64)) (λ last u e3 k. let z = inside_lt a 64 j (omega arith) k in s_number _ (or64_lt b (elements a a) i (elements_lt a a z z))))))))

    pub m_with_range : {fs : List (List Form)} {tags : List ℕ} {s x y : Act Cell} (f : ℕ) (o l m : Option Form) → Means fs tags o s → Means fs tags l x → Means fs tags m y → Means fs tags (provided (gives_number o) (provided (gives_number l) (provided (gives_number m) (Some Number)))) (with_range f s x y)
    m_with_range f o l m q r v = m_provided (gives_number o) (provided (gives_number l) (provided (gives_number m) (Some Number))) (λ h. m_provided (gives_number l) (provided (gives_number m) (Some Number)) (λ g. m_provided (gives_number m) (Some Number) (λ i. m_of Number
        (s_bind p (n_bits o h q) (λ t1 b e1 lb. s_bind p (s_older p e1 (n_bits l g r)) (λ t2 a e2 la. s_bind p (s_unless p f 7 (inside a 64)) (λ t3 u e3 ka. s_bind p (s_older p (older_trans _ t2 t3 (older_trans _ t1 t2 e1 e2) e3) (n_bits m i v)) (λ t4 c e4 lc. s_bind p (s_unless p f 7 (inside c 64)) (λ t5 w e5 kc.
        s_number _ (or64_lt b (elements a c) lb (elements_lt a c (inside_lt a 64 la (omega arith) ka) (inside_lt c 64 lc (omega arith) kc))))))))))))

    pub s_dynamic : {fs : List (List Form)} {tags : List ℕ} (k : Form) (c : Cell) → is_pointer k ≡ true → Fits p tags k c → Sound p fs tags (Any p) (dynamic_in c)
    s_dynamic Zero (Bits zero) h f = s_give p None (λ _ _. tt)
    s_dynamic Zero (Bits (suc n)) h f = absurd (omega (arith, f))
    s_dynamic (ToRecord r) (Bits zero) h f = s_give p None (λ _ _. tt)
    s_dynamic (ToRecord r) (Bits (suc n)) h f = absurd (omega (arith, f))
    s_dynamic (ToRecord r) (Pointer o) h f = s_bind p (s_tag_of p o f.0 f.1) (λ more t e u. s_give p (Some t) (λ _ _. tt))
    s_dynamic Truth c h f = no h
    s_dynamic Small c h f = no h
    s_dynamic Number c h f = no h
    s_dynamic (Routines r) c h f = no h
    s_dynamic (Exactly r) c h f = no h
    s_dynamic _ _ h f = absurd f

    pub s_pointer_type : {fs : List (List Form)} {tags : List ℕ} {x : Act Cell} (o : Option Form) → gives_pointer o ≡ true → Means fs tags o x → Sound p fs tags (Any p) (pointer_type x)
    s_pointer_type o h q = let k = holds_is is_pointer o h in s_bind p (q.sound k.0 k.1) (λ more c e f. s_dynamic k.0 c k.2 f)

    pub dynamic_is : (n : Named) → WellFormed.is_dynamic p n ≡ true → (r : ℕ) × (n ≡ Dynamic r)
    dynamic_is (Dynamic r) h = (r, refl)
    dynamic_is _ h = no h

    pub as_dynamic : {fs : List (List Form)} {tags : List ℕ} {d : Act Handed} (o : Option Named) → holds_of (WellFormed.is_dynamic p) o ≡ true → Points fs tags o d → (r : ℕ) × Sound p fs tags (NamesOf p fs (Dynamic r)) d
    as_dynamic {fs = fs} {tags = tags} {d = d} o h q =
        let n = holds_is (WellFormed.is_dynamic p) o h in
        let r = dynamic_is n.0 n.2 in
        (r.0, subst (λ m. Sound p fs tags (NamesOf p fs m) d) r.1 (q.sound n.0 n.1))

    pub s_tag_in : {fs : List (List Form)} {tags : List ℕ} (r : ℕ) (h : Handed) → Names p fs tags (Dynamic r) h → Sound p fs tags (Any p) (given (tag_in h))
    s_tag_in r (Tagged a t) n = s_give p t (λ _ _. tt)
    s_tag_in r (At a) n = absurd n
    s_tag_in r (Sized a m) n = absurd n
    s_tag_in r (Value c) n = absurd n

    pub s_parameter_type : {fs : List (List Form)} {tags : List ℕ} {d : Act Handed} (o : Option Named) → holds_of (WellFormed.is_dynamic p) o ≡ true → Points fs tags o d → Sound p fs tags (Any p) (parameter_type d)
    s_parameter_type o h q = let n = as_dynamic o h q in s_bind p n.1 (λ more x e names. s_bind p (s_tag_in n.0 x names) (λ most t e2 u. s_give p (Some t) (λ _ _. tt)))

    pub s_type_test : {fs : List (List Form)} {tags : List ℕ} {x : Act (Option ℕ)} (ext : Extension) (r : ℕ) → Sound p fs tags (Any p) x → Sound p fs tags (HasForm p Truth) (type_test ext x r)
    s_type_test ext r q = s_bind p q (λ more t e u. s_truth (is_of ext t r))

    pub m_byte : {fs : List (List Form)} {tags : List ℕ} {x : Act Cell} (f : ℕ) (o : Option Form) → Means fs tags o x → Means fs tags (provided (gives_number o) (Some Small)) (as_byte f x)
    m_byte f o q = m_provided (gives_number o) (Some Small) (λ h. m_of Small (s_bind p (n_bits o h q) (λ more n e l. s_bind p (s_unless p f 11 (inside n 256)) (λ most u e2 k. s_give p (Bits n) (λ _ _. inside_lt n 256 l (omega arith) k)))))

    pub m_length : {fs : List (List Form)} {tags : List ℕ} {d : Act Handed} (n : Option ℕ) (o : Option Named) → Points fs tags o d → Means fs tags (provided (holds_of (WellFormed.any_array p n) o) (Some Number)) (length_of d n)
    m_length n o q = m_provided (holds_of (WellFormed.any_array p n) o) (Some Number) (λ h. m_of Number (s_bind p (an_array n (λ x. true) o h q).4 (λ more a e el. let l = el.2 in s_number a.length (omega (arith, l)))))

    pub s_guarded : {fs : List (List Form)} {tags : List ℕ} (f r : ℕ) (k : Form) (c : Cell) → is_pointer k ≡ true → Fits p tags k c → Sound p fs tags (HasForm p (ToRecord r)) (object_in f c >>= λ o. tag_of o >>= λ t. unless f 3 (extends p.types t r) >>= λ _. give c)
    s_guarded f r Zero (Bits zero) h g = record { by = λ s x typed. tt }
    s_guarded f r Zero (Bits (suc n)) h g = absurd (omega (arith, g))
    s_guarded f r (ToRecord b) (Bits zero) h g = record { by = λ s x typed. tt }
    s_guarded f r (ToRecord b) (Bits (suc n)) h g = absurd (omega (arith, g))
    s_guarded f r (ToRecord b) (Pointer o) h g = s_bind p (s_tag_of p o g.0 g.1) (λ more t e is. s_bind p (s_unless p f 3 (extends p.types t r)) (λ most u e2 ok. s_give p (Pointer o) (λ last e3. (t, e3 o t (e2 o t is.0), ok))))
    s_guarded f r Truth c h g = no h
    s_guarded f r Small c h g = no h
    s_guarded f r Number c h g = no h
    s_guarded f r (Routines b) c h g = no h
    s_guarded f r (Exactly b) c h g = no h
    s_guarded f r _ _ h g = absurd g

    pub m_guard : {fs : List (List Form)} {tags : List ℕ} {x : Act Cell} (f r : ℕ) (o : Option Form) → Means fs tags o x → Means fs tags (provided (gives_pointer o) (Some (ToRecord r))) (guarded f (extends p.types) x r)
    m_guard f r o q = m_provided (gives_pointer o) (Some (ToRecord r)) (λ h. let k = holds_is is_pointer o h in m_of (ToRecord r) (s_bind p (q.sound k.0 k.1) (λ more c e g. s_guarded f r k.0 c k.2 g)))

    pub m_guards : {fs : List (List Form)} {tags : List ℕ} (f : ℕ) (rs : List ℕ) (o : Option Form) (x : Act Cell) → Means fs tags o x → Means fs tags (WellFormed.guarded_form p rs o) (all_guarded f (extends p.types) x rs)
    m_guards f [] o x q = q
    m_guards f (r ∷ rs) o x q = m_guards f rs (provided (is_record_type p.types r) (provided (gives_pointer o) (Some (ToRecord r)))) (guarded f (extends p.types) x r)
        (m_provided (is_record_type p.types r) (provided (gives_pointer o) (Some (ToRecord r))) (λ h. m_guard f r o q))

    -- designators

    pub p_field : {fs : List (List Form)} {tags : List ℕ} {d : Act Handed} (r field : ℕ) (o : Option Named) → Points fs tags o d → Points fs tags (with_some o (λ t. provided (WellFormed.has_record p r t) (with_some (slice_get (types_of (record_of p.types r).fields) field) (λ k. Some (Of k (is_writable t)))))) (field_of d (field_place p.types r field))
    p_field {fs = fs} r field o q = p_some o (λ t. provided (WellFormed.has_record p r t) (with_some (slice_get (types_of (record_of p.types r).fields) field) (λ k. Some (Of k (is_writable t))))) (λ n is. p_provided (WellFormed.has_record p r n) (with_some (slice_get (types_of (record_of p.types r).fields) field) (λ k. Some (Of k (is_writable n)))) (λ has. p_some (slice_get (types_of (record_of p.types r).fields) field) (λ k. Some (Of k (is_writable n))) (λ k at.
        p_of (Of k (is_writable n)) (s_bind p (s_record n r has (q.sound n is)) (λ more a e placed. s_give p (At (past a (field_place p.types r field))) (λ most e2. (
          (λ i f here. let assoc : a.cell + (field_place p.types r field + i) ≡ a.cell + field_place p.types r field + i = omega arith in
              subst (λ j. form_at p fs most a.area a.object j ≡ Some f) assoc (stands_older p fs more most e2 a (record_forms p.types r) placed.0 (field_place p.types r field + i) f (field_at p.types fine r field k i f at here))),
          placed.1,
        )))))))

    pub element_same : (el : Elementary) (e : ℕ) → WellFormed.is_element p el e ≡ true → element_forms p el ≡ forms p.types e
    element_same (WellFormed.OfType k) e h = ap (forms p.types) (eqb-true k e h)
    element_same Letter e h = sym (letter_forms (WellFormed.OfType e) h)

    pub p_index : {fs : List (List Form)} {tags : List ℕ} {d : Act Handed} {x : Act Cell} (f : ℕ) (n : Option ℕ) (element : ℕ) (o : Option Named) (l : Option Form) → Points fs tags o d → Means fs tags l x → Points fs tags (with_some o (λ t. provided (WellFormed.array_of p element n t) (provided (gives_number l) (Some (Of element (is_writable t)))))) (element_place f d n (cells p.types element) x)
    p_index {fs = fs} f n element o l q r = p_some o (λ t. provided (WellFormed.array_of p element n t) (provided (gives_number l) (Some (Of element (is_writable t))))) (λ c is. p_provided (WellFormed.array_of p element n c) (provided (gives_number l) (Some (Of element (is_writable c)))) (λ h. p_provided (gives_number l) (Some (Of element (is_writable c))) (λ g.
        let el = holds_is (λ x. WellFormed.is_element p x element) (WellFormed.elements_in p c n) h in
        p_of (Of element (is_writable c)) (s_bind p (s_span c n el.0 el.1 (q.sound c is)) (λ t1 a e1 elems. s_bind p (s_older p e1 (n_bits l g r)) (λ t2 i e2 li. s_bind p (s_unless p f 1 (inside i a.length)) (λ t3 u e3 ok.
        s_give p (At (past a.at (i * cells p.types element))) (λ t4 e4. (by a i t4 (inside_lt i a.length li (let z = elems.2 in omega (arith, z)) ok) (subst (λ xs. Stands p fs t4 a.at (repeated a.length xs)) (element_same el.0 element el.2) (stands_older p fs t1 t4 (older_trans t1 t2 t4 e2 (older_trans t2 t3 t4 e3 e4)) a.at (repeated a.length (element_forms p el.0)) elems.0)), elems.1)))))))))
      where
        by : (a : Span) (i : ℕ) (t : List ℕ) → i < a.length → Stands p fs t a.at (repeated a.length (forms p.types element)) → Stands p fs t (past a.at (i * cells p.types element)) (forms p.types element)
        by a i t less stands j k at =
            let e : a.at.cell + (i * cells p.types element + j) ≡ a.at.cell + i * cells p.types element + j = omega arith in
            subst (λ m. form_at p fs t a.at.area a.at.object m ≡ Some k) e (stands (i * cells p.types element + j) k (get_repeated (forms p.types element) a.length i j (i * cells p.types element + j) k less (ap (λ m. i * m + j) (cells_length p.types element)) at))

    pub s_object : {fs : List (List Form)} {tags : List ℕ} (f r : ℕ) (c : Cell) → Fits p tags (ToRecord r) c → Sound p fs tags (NamesOf p fs (Dynamic r)) (object_in f c >>= λ o. tag_of o >>= λ t. give (Tagged (record { area = Heap; object = o; cell = 0 }) t))
    s_object f r (Bits zero) g = record { by = λ s x typed. tt }
    s_object f r (Bits (suc n)) g = absurd (omega (arith, g))
    s_object f r (Code h) g = absurd g
    s_object {fs = fs} f r (Pointer o) g = s_bind p (s_tag_of p o g.0 g.1) (λ more t e is. s_give p (Tagged (record { area = Heap; object = o; cell = 0 }) t) (λ most e2.
        ((λ i k at. let z : i ≡ 0 + i = omega arith in subst (λ j. slice_get (object_forms p (slice_get most o)) j ≡ Some k) z (subst (λ u. slice_get (object_forms p u) i ≡ Some k) (sym (e2 o t is.0)) at)), subst (λ u. extends p.types u r ≡ true) (sym is.1) g.2, refl)))

    pub pointed_is : (k : Form) (n : Named) → pointed k ≡ Some n → (r : ℕ) × (k ≡ ToRecord r) × (n ≡ Dynamic r)
    pointed_is (ToRecord r) n is = (r, refl, sym (some_same (Dynamic r) n is))
    pointed_is Zero n is = none_some n is
    pointed_is Truth n is = none_some n is
    pointed_is Small n is = none_some n is
    pointed_is Number n is = none_some n is
    pointed_is (Routines k) n is = none_some n is
    pointed_is (Exactly k) n is = none_some n is

    pub p_object : {fs : List (List Form)} {tags : List ℕ} {x : Act Cell} (f : ℕ) (o : Option Form) → Means fs tags o x → Points fs tags (with_some o pointed) (object_of f x)
    p_object {fs = fs} {tags = tags} {x = x} f o q = p_some o pointed (λ k is. record {
      sound = λ n has. let z = pointed_is k n has in
          subst (λ m. Sound p fs tags (NamesOf p fs m) (object_of f x)) (sym z.2) (s_bind p (subst (λ m. Sound p fs tags (HasForm p m) x) z.1 (q.sound k is)) (λ more c e g. s_object f z.0 c g));
    })

    pub s_narrowed : {fs : List (List Form)} {tags : List ℕ} (f r s : ℕ) (h : Handed) → Names p fs tags (Dynamic s) h → Sound p fs tags (NamesOf p fs (Dynamic r)) (given (tag_in h) >>= λ t. unless f 3 (extends p.types t r) >>= λ _. give h)
    s_narrowed {fs = fs} {tags = tags} f r s (Tagged a t) n = s_bind p (s_unless p f 3 (extends p.types t r)) (λ more u e ok. s_give p (Tagged a t) (λ most e2. (stands_older p fs tags most (older_trans tags more most e e2) a (record_forms p.types t) n.0, ok, n.2)))
    s_narrowed f r s (At a) n = absurd n
    s_narrowed f r s (Sized a m) n = absurd n
    s_narrowed f r s (Value c) n = absurd n

    pub p_narrowed : {fs : List (List Form)} {tags : List ℕ} {d : Act Handed} (f r : ℕ) (o : Option Named) → Points fs tags o d → Points fs tags (provided (is_record_type p.types r) (provided (holds_of (WellFormed.is_dynamic p) o) (Some (Dynamic r)))) (narrowed f (extends p.types) d r)
    p_narrowed f r o q = p_provided (is_record_type p.types r) (provided (holds_of (WellFormed.is_dynamic p) o) (Some (Dynamic r))) (λ g. p_provided (holds_of (WellFormed.is_dynamic p) o) (Some (Dynamic r)) (λ h.
        let n = as_dynamic o h q in p_of (Dynamic r) (s_bind p n.1 (λ more x e names. s_narrowed f r n.0 x names))))
