-- What a table of types that is fine says of forms: where fields, elements and the cells of extensions stand.
use Rattle.std.proofs.Common.{◌≡◌, ℕ, zero, suc, ◌+◌, ◌*◌, ◌<◌, ◌≤◌, List, [], ◌∷◌, ◌++◌, map, length, take, Bool, true, false, ◌&&◌, ◌||◌, Option, Some, None, refl, sym, ap, ap₂, ◌∙◌, subst, arith, sum, ◌⊎◌, inl, inr, eqb-true, eq-eqb}
use Rattle.std.specs.Prelude.{slice_get, ◌==◌}
use Rattle.std.proofs.lemmas.List.{get_or_past, length-append}
use Rattle.std.proofs.lemmas.List.Sums.{sum_by-cons}
use Rattle.ob_types.specs.Layout.{kind_of, record_of, types_of, base_cells, or_base, cells_by, cells_within, record_within, cells, cells_of_all, record_cells, field_place, extends_within, extends, no_record_type}
use Rattle.ob_types.specs.declared.types.TypeKind.{TypeKind}
use Rattle.ob_types.specs.declared.types.TypeKind.TheVariants.{Int, Char, Byte, Array, Nothing}
use Rattle.ob_types.specs.declared.types.TypeKind.TheVariants.{Bool as Boolean, Set as SetOf, Record as RecordOf, Pointer as PointerTo, Procedure as ProcedureOf}
use Rattle.ob_types.specs.Table.{Table}
use Rattle.ob_types.specs.Forms.{Form, Truth, Small, Number, ToRecord, Routines, Exactly, scalar_form, repeated, joined, base_forms, form_or_zero, forms_by, all, nests_by, if_base, forms_within, record_forms_within, nests, record_nests, rooted, forms, record_forms}
use Rattle.ob_types.specs.Forms.{all_below, types_fine}
use Rattle.ob_types.proofs.Tests.{none_some, some_same, and_of, no, below, less_or_past, and_from}

-- booleans

or_right : (a b : Bool) → b ≡ true → (a || b) ≡ true
or_right true b h = refl
or_right false b h = h

or_left : (a b : Bool) → a ≡ true → (a || b) ≡ true
or_left true b h = refl
or_left false b h = no h

or_zero : (e : Bool) (o : Option ℕ) (root f : ℕ → Bool) → if_base o root ≡ true → ((a : ℕ) → root a ≡ true → false ≡ true) → (e || or_base o f) ≡ true → e ≡ true
or_zero true o root f r bad h = refl
or_zero false None root f r bad h = h
or_zero false (Some a) root f r bad h = bad a r

or_step : (e : Bool) (o : Option ℕ) (root f g : ℕ → Bool) → if_base o root ≡ true → ((a : ℕ) → root a ≡ true → f a ≡ true → g a ≡ true) → (e || or_base o f) ≡ true → (e || or_base o g) ≡ true
or_step true o root f g r go h = refl
or_step false None root f g r go h = h
or_step false (Some a) root f g r go h = go a r h

or_cases : (e : Bool) (o : Option ℕ) (f : ℕ → Bool) → (e || or_base o f) ≡ true → (e ≡ true) ⊎ ((a : ℕ) × (o ≡ Some a) × (f a ≡ true))
or_cases true o f h = inl refl
or_cases false None f h = no h
or_cases false (Some a) f h = inr (a, refl, h)

-- lists

pub get_left : {A : Type 0} (xs ys : List A) (i : ℕ) (f : A) → slice_get xs i ≡ Some f → slice_get (xs ++ ys) i ≡ Some f
get_left [] ys i f h = none_some f h
get_left (x ∷ xs) ys zero f h = h
get_left (x ∷ xs) ys (suc i) f h = get_left xs ys i f h

pub get_right : {A : Type 0} (xs ys : List A) (i j : ℕ) (f : A) → j ≡ length xs + i → slice_get ys i ≡ Some f → slice_get (xs ++ ys) j ≡ Some f
get_right [] ys i j f e h = let same : j ≡ i = omega (arith, e) in subst (λ k. slice_get ys k ≡ Some f) (sym same) h
get_right (x ∷ xs) ys i zero f e h = absurd (omega (arith, e))
get_right (x ∷ xs) ys i (suc j) f e h = get_right xs ys i j f (omega (arith, e)) h

pub get_repeated : {A : Type 0} (xs : List A) (n i j k : ℕ) (f : A) → i < n → k ≡ i * length xs + j → slice_get xs j ≡ Some f → slice_get (repeated n xs) k ≡ Some f
get_repeated xs zero i j k f l e h = absurd (omega (arith, l))
get_repeated xs (suc n) zero j k f l e h = subst (λ m. slice_get (xs ++ repeated n xs) m ≡ Some f) (sym (zero_times k (length xs) j e)) (get_left xs (repeated n xs) j f h)
  where
    zero_times : (k m j : ℕ) → k ≡ 0 * m + j → k ≡ j
    zero_times k m j e = grind arith
get_repeated xs (suc n) (suc i) j k f l e h = get_right xs (repeated n xs) (i * length xs + j) k f (suc_times k i (length xs) j e) (get_repeated xs n i j (i * length xs + j) f (omega (arith, l)) refl h)
  where
    suc_times : (k i m j : ℕ) → k ≡ suc i * m + j → k ≡ m + (i * m + j)
    suc_times k i m j e = grind arith

pub get_joined : {A : Type 0} (f : ℕ → List A) (ks : List ℕ) (n k i : ℕ) (x : A) → slice_get ks n ≡ Some k → slice_get (f k) i ≡ Some x → slice_get (joined f ks) (length (joined f (take n ks)) + i) ≡ Some x
get_joined f [] n k i x at h = none_some k at
get_joined f (l ∷ ls) zero k i x at h = let e : i ≡ 0 + i = omega arith in subst (λ m. slice_get (f l ++ joined f ls) m ≡ Some x) e (get_left (f l) (joined f ls) i x (subst (λ m. slice_get (f m) i ≡ Some x) (some_same k l (sym at)) h))
get_joined f (l ∷ ls) (suc n) k i x at h = get_right (f l) (joined f ls) (length (joined f (take n ls)) + i) (length (f l ++ joined f (take n ls)) + i) x (let e = length-append (f l) (joined f (take n ls)) in omega (arith, e)) (get_joined f ls n k i x at h)

pub length_repeated : {A : Type 0} (n : ℕ) (xs : List A) → length (repeated n xs) ≡ n * length xs
length_repeated zero xs = grind arith
length_repeated (suc n) xs = let e = length-append xs (repeated n xs) in let i = length_repeated n xs in by (length (xs ++ repeated n xs)) (length xs) (length (repeated n xs)) n e i
  where
    by : (a m b n : ℕ) → a ≡ m + b → b ≡ n * m → a ≡ suc n * m
    by a m b n e i = grind arith

pub length_joined : {A : Type 0} (f : ℕ → List A) (c : ℕ → ℕ) → ((k : ℕ) → c k ≡ length (f k)) → (ks : List ℕ) → sum (map c ks) ≡ length (joined f ks)
length_joined f c e [] = refl
length_joined f c e (k ∷ ks) = sum_by-cons (λ x. x) (c k) (map c ks) ∙ ap₂ (λ a b. a + b) (e k) (length_joined f c e ks) ∙ sym (length-append (f k) (joined f ks))

pub all_append : {A : Type 0} (test : A → Bool) (xs ys : List A) → all test xs ≡ true → all test ys ≡ true → all test (xs ++ ys) ≡ true
all_append test [] ys h g = g
all_append test (x ∷ xs) ys h g = let parts = and_of (test x) (all test xs) h in and_from (test x) (all test (xs ++ ys)) parts.0 (all_append test xs ys parts.1 g)

pub all_repeated : {A : Type 0} (test : A → Bool) (n : ℕ) (xs : List A) → all test xs ≡ true → all test (repeated n xs) ≡ true
all_repeated test zero xs h = refl
all_repeated test (suc n) xs h = all_append test xs (repeated n xs) h (all_repeated test n xs h)

pub all_joined : {A : Type 0} (test : A → Bool) (f : ℕ → List A) → ((k : ℕ) → all test (f k) ≡ true) → (ks : List ℕ) → all test (joined f ks) ≡ true
all_joined test f h [] = refl
all_joined test f h (k ∷ ks) = all_append test (f k) (joined f ks) (h k) (all_joined test f h ks)

-- a form that 0 has
abbrev pub starts : Form → Bool
starts (Exactly f) = false
starts _ = true

scalar_starts : (kind : TypeKind) → starts (form_or_zero (scalar_form kind)) ≡ true
scalar_starts Int = refl
scalar_starts Boolean = refl
scalar_starts SetOf = refl
scalar_starts _ = refl

kind_starts : (f w : ℕ → List Form) → ((k : ℕ) → all starts (f k) ≡ true) → ((r : ℕ) → all starts (w r) ≡ true) → (kind : TypeKind) → all starts (forms_by f w kind) ≡ true
kind_starts f w e d (Array (Some n) element) = all_repeated starts n (f element) (e element)
kind_starts f w e d (RecordOf r) = d r
kind_starts f w e d _ = refl

base_starts : (f : ℕ → List Form) → ((k : ℕ) → all starts (f k) ≡ true) → (o : Option ℕ) → all starts (base_forms o f) ≡ true
base_starts f e None = refl
base_starts f e (Some b) = e b

-- forms

joined_same : (f g : ℕ → List Form) (nest : ℕ → Bool) → ((k : ℕ) → nest k ≡ true → f k ≡ g k) → (ks : List ℕ) → all nest ks ≡ true → joined f ks ≡ joined g ks
joined_same f g nest e [] h = refl
joined_same f g nest e (k ∷ ks) h = let parts = and_of (nest k) (all nest ks) h in ap₂ (λ a b. a ++ b) (e k parts.0) (joined_same f g nest e ks parts.1)

base_same : (f g : ℕ → List Form) (nest : ℕ → Bool) → ((k : ℕ) → nest k ≡ true → f k ≡ g k) → (o : Option ℕ) → if_base o nest ≡ true → base_forms o f ≡ base_forms o g
base_same f g nest e None h = refl
base_same f g nest e (Some b) h = e b h

kind_same : (f g w v : ℕ → List Form) (nest whole : ℕ → Bool) → ((k : ℕ) → nest k ≡ true → f k ≡ g k) → ((r : ℕ) → whole r ≡ true → w r ≡ v r) → (kind : TypeKind) → nests_by nest whole kind ≡ true → forms_by f w kind ≡ forms_by g v kind
kind_same f g w v nest whole e d (Array (Some n) element) h = ap (λ xs. repeated n xs) (e element h)
kind_same f g w v nest whole e d (RecordOf r) h = d r h
kind_same f g w v nest whole e d _ h = refl

base_sizes : (c : ℕ → ℕ) (f : ℕ → List Form) → ((k : ℕ) → c k ≡ length (f k)) → (o : Option ℕ) → base_cells o c ≡ length (base_forms o f)
base_sizes c f e None = refl
base_sizes c f e (Some b) = e b

kind_sizes : (c w : ℕ → ℕ) (f v : ℕ → List Form) → ((k : ℕ) → c k ≡ length (f k)) → ((r : ℕ) → w r ≡ length (v r)) → (kind : TypeKind) → cells_by c w kind ≡ length (forms_by f v kind)
kind_sizes c w f v e d (Array (Some n) element) = ap (λ m. n * m) (e element) ∙ sym (length_repeated n (f element))
kind_sizes c w f v e d (RecordOf r) = d r
kind_sizes c w f v e d _ = refl

module _ (t : Table) where
  mutual
    stays : (d k : ℕ) → nests t d k ≡ true → forms_within t d k ≡ forms_within t (suc d) k
    stays zero k h = no h
    stays (suc d) k h = kind_same (forms_within t d) (forms_within t (suc d)) (record_forms_within t d) (record_forms_within t (suc d)) (nests t d) (record_nests t d) (stays d) (record_stays d) (kind_of t k) h

    record_stays : (d r : ℕ) → record_nests t d r ≡ true → record_forms_within t d r ≡ record_forms_within t (suc d) r
    record_stays zero r h = no h
    record_stays (suc d) r h =
        let parts = and_of (if_base (record_of t r).base (record_nests t d)) (all (nests t d) (types_of (record_of t r).fields)) h in
        ap₂ (λ a b. a ++ b) (base_same (record_forms_within t d) (record_forms_within t (suc d)) (record_nests t d) (record_stays d) (record_of t r).base parts.0) (joined_same (forms_within t d) (forms_within t (suc d)) (nests t d) (stays d) (types_of (record_of t r).fields) parts.1)

  -- sizes

  mutual
    sizes : (d k : ℕ) → cells_within t d k ≡ length (forms_within t d k)
    sizes zero k = refl
    sizes (suc d) k = kind_sizes (cells_within t d) (record_within t d) (forms_within t d) (record_forms_within t d) (sizes d) (record_sizes d) (kind_of t k)

    record_sizes : (d r : ℕ) → record_within t d r ≡ length (record_forms_within t d r)
    record_sizes zero r = refl
    record_sizes (suc d) r = ap₂ (λ a b. a + b) (base_sizes (record_within t d) (record_forms_within t d) (record_sizes d) (record_of t r).base) (length_joined (forms_within t d) (cells_within t d) (sizes d) (types_of (record_of t r).fields)) ∙ sym (length-append (base_forms (record_of t r).base (record_forms_within t d)) (joined (forms_within t d) (types_of (record_of t r).fields)))

  pub cells_length : (k : ℕ) → cells t k ≡ length (forms t k)
  unfolding forms
  cells_length k = sizes (suc (length t.kinds + length t.records)) k

  pub record_cells_length : (r : ℕ) → record_cells t r ≡ length (record_forms t r)
  unfolding record_forms
  record_cells_length r = record_sizes (suc (length t.kinds + length t.records)) r

  pub all_cells_length : (ks : List ℕ) → cells_of_all t ks ≡ length (joined (forms t) ks)
  all_cells_length ks = length_joined (forms t) (cells t) cells_length ks

  -- what the table's tests say of all numbers

  past_kinds : (k : ℕ) → length t.kinds ≤ k → kind_of t k ≡ Nothing
  past_kinds k l = get_or_past t.kinds k Nothing l

  past_records : (r : ℕ) → length t.records ≤ r → record_of t r ≡ no_record_type
  past_records r l = get_or_past t.records r no_record_type l

  module _ (ok : types_fine t ≡ true) where
    fine_parts : (all_below (length t.kinds) (nests t (suc (length t.kinds + length t.records))) ≡ true) × (all_below (length t.records) (record_nests t (suc (length t.kinds + length t.records))) ≡ true) × (all_below (length t.records) (rooted t (suc (length t.records))) ≡ true)
    fine_parts =
        let a = and_of (all_below (length t.kinds) (nests t (suc (length t.kinds + length t.records)))) (all_below (length t.records) (record_nests t (suc (length t.kinds + length t.records))) && all_below (length t.records) (rooted t (suc (length t.records)))) ok in
        let b = and_of (all_below (length t.records) (record_nests t (suc (length t.kinds + length t.records)))) (all_below (length t.records) (rooted t (suc (length t.records)))) a.1 in
        (a.0, b.0, b.1)

    nest : (k : ℕ) → nests t (suc (length t.kinds + length t.records)) k ≡ true
    nest k = elim (less_or_past k (length t.kinds)) [ inl l ↦ below (length t.kinds) (nests t (suc (length t.kinds + length t.records))) fine_parts.0 k l | inr p ↦ subst (λ kind. nests_by (nests t (length t.kinds + length t.records)) (record_nests t (length t.kinds + length t.records)) kind ≡ true) (sym (past_kinds k p)) refl ]

    record_nest : (r : ℕ) → record_nests t (suc (length t.kinds + length t.records)) r ≡ true
    record_nest r = elim (less_or_past r (length t.records)) [ inl l ↦ below (length t.records) (record_nests t (suc (length t.kinds + length t.records))) fine_parts.1 r l | inr p ↦ subst (λ q. (if_base q.base (record_nests t (length t.kinds + length t.records)) && all (nests t (length t.kinds + length t.records)) (types_of q.fields)) ≡ true) (sym (past_records r p)) refl ]

    root : (r : ℕ) → rooted t (suc (length t.records)) r ≡ true
    root r = elim (less_or_past r (length t.records)) [ inl l ↦ below (length t.records) (rooted t (suc (length t.records))) fine_parts.2 r l | inr p ↦ subst (λ q. if_base q.base (rooted t (length t.records)) ≡ true) (sym (past_records r p)) refl ]

    -- a type's cells are those of its parts

    forms_are : (k : ℕ) → forms t k ≡ forms_by (forms t) (record_forms t) (kind_of t k)
    unfolding forms record_forms
    forms_are k = kind_same (forms_within t (length t.kinds + length t.records)) (forms t) (record_forms_within t (length t.kinds + length t.records)) (record_forms t) (nests t (length t.kinds + length t.records)) (record_nests t (length t.kinds + length t.records)) (stays (length t.kinds + length t.records)) (record_stays (length t.kinds + length t.records)) (kind_of t k) (nest k)

    pub record_are : (r : ℕ) → record_forms t r ≡ base_forms (record_of t r).base (record_forms t) ++ joined (forms t) (types_of (record_of t r).fields)
    unfolding forms record_forms
    record_are r =
        let parts = and_of (if_base (record_of t r).base (record_nests t (length t.kinds + length t.records))) (all (nests t (length t.kinds + length t.records)) (types_of (record_of t r).fields)) (record_nest r) in
        ap₂ (λ a b. a ++ b) (base_same (record_forms_within t (length t.kinds + length t.records)) (record_forms t) (record_nests t (length t.kinds + length t.records)) (record_stays (length t.kinds + length t.records)) (record_of t r).base parts.0) (joined_same (forms_within t (length t.kinds + length t.records)) (forms t) (nests t (length t.kinds + length t.records)) (stays (length t.kinds + length t.records)) (types_of (record_of t r).fields) parts.1)

    pub array_forms : (k n e : ℕ) → kind_of t k ≡ Array (Some n) e → forms t k ≡ repeated n (forms t e)
    array_forms k n e is = forms_are k ∙ ap (λ kind. forms_by (forms t) (record_forms t) kind) is

    pub whole_forms : (k r : ℕ) → kind_of t k ≡ RecordOf r → forms t k ≡ record_forms t r
    whole_forms k r is = forms_are k ∙ ap (λ kind. forms_by (forms t) (record_forms t) kind) is

    scalar_by : (kind : TypeKind) (f : Form) → scalar_form kind ≡ Some f → forms_by (forms t) (record_forms t) kind ≡ f ∷ []
    scalar_by Int f is = ap (λ x. x ∷ []) (some_same Number f is)
    scalar_by Boolean f is = ap (λ x. x ∷ []) (some_same Truth f is)
    scalar_by SetOf f is = ap (λ x. x ∷ []) (some_same Number f is)
    scalar_by Char f is = ap (λ x. x ∷ []) (some_same Small f is)
    scalar_by Byte f is = ap (λ x. x ∷ []) (some_same Small f is)
    scalar_by (PointerTo r) f is = ap (λ x. x ∷ []) (some_same (ToRecord r) f is)
    scalar_by (ProcedureOf k) f is = ap (λ x. x ∷ []) (some_same (Routines k) f is)
    scalar_by _ f is = none_some f is

    pub scalar_forms : (k : ℕ) (f : Form) → scalar_form (kind_of t k) ≡ Some f → forms t k ≡ f ∷ []
    scalar_forms k f is = forms_are k ∙ scalar_by (kind_of t k) f is

    pub field_at : (r n k i : ℕ) (f : Form) → slice_get (types_of (record_of t r).fields) n ≡ Some k → slice_get (forms t k) i ≡ Some f → slice_get (record_forms t r) (field_place t r n + i) ≡ Some f
    field_at r n k i f at h = subst (λ xs. slice_get xs (field_place t r n + i) ≡ Some f) (sym (record_are r))
        (get_right (base_forms (record_of t r).base (record_forms t)) (joined (forms t) (types_of (record_of t r).fields)) (length (joined (forms t) (take n (types_of (record_of t r).fields))) + i) (field_place t r n + i) f (let e = all_cells_length (take n (types_of (record_of t r).fields)) in let b = base_sizes (record_cells t) (record_forms t) record_cells_length (record_of t r).base in omega (arith, e, b)) (get_joined (forms t) (types_of (record_of t r).fields) n k i f at h))

    -- extensions

    ext_stable : (n m r b : ℕ) → rooted t (suc n) r ≡ true → extends_within t m r b ≡ true → extends_within t n r b ≡ true
    ext_stable zero zero r b h e = e
    ext_stable (suc n) zero r b h e = or_left (r == b) (or_base (record_of t r).base (λ a. extends_within t n a b)) e
    ext_stable zero (suc m) r b h e = or_zero (r == b) (record_of t r).base (rooted t zero) (λ a. extends_within t m a b) h (λ a x. no x) e
    ext_stable (suc n) (suc m) r b h e = or_step (r == b) (record_of t r).base (rooted t (suc n)) (λ a. extends_within t m a b) (λ a. extends_within t n a b) h (λ a x y. ext_stable n m a b x y) e

    ext_join : (m n s r b : ℕ) → extends_within t m s r ≡ true → extends_within t n r b ≡ true → (k : ℕ) × (extends_within t k s b ≡ true)
    ext_join zero n s r b h g = (n, subst (λ x. extends_within t n x b ≡ true) (sym (eqb-true s r h)) g)
    ext_join (suc m) n s r b h g = by (or_cases (s == r) (record_of t s).base (λ a. extends_within t m a r) h) (λ a x. ext_join m n a r b x g)
      where
        by : ((s == r) ≡ true) ⊎ ((a : ℕ) × ((record_of t s).base ≡ Some a) × (extends_within t m a r ≡ true)) → ((a : ℕ) → extends_within t m a r ≡ true → (k : ℕ) × (extends_within t k a b ≡ true)) → (k : ℕ) × (extends_within t k s b ≡ true)
        by (inl e) go = (n, subst (λ x. extends_within t n x b ≡ true) (sym (eqb-true s r e)) g)
        by (inr p) go =
            let i = go p.0 p.2 in
            (suc i.0, or_right (s == b) (or_base (record_of t s).base (λ x. extends_within t i.0 x b)) (subst (λ o. or_base o (λ x. extends_within t i.0 x b) ≡ true) (sym p.1) i.1))

    pub extends_trans : (s r b : ℕ) → extends t s r ≡ true → extends t r b ≡ true → extends t s b ≡ true
    extends_trans s r b h g = let j = ext_join (length t.records) (length t.records) s r b h g in ext_stable (length t.records) j.0 s b (root s) j.1

    pub extends_self : (r : ℕ) → extends t r r ≡ true
    extends_self r = ext_stable (length t.records) zero r r (root r) (eq-eqb r r refl)

    prefix_by : (m s r i : ℕ) (f : Form) → extends_within t m s r ≡ true → slice_get (record_forms t r) i ≡ Some f → slice_get (record_forms t s) i ≡ Some f
    prefix_by zero s r i f h at = subst (λ x. slice_get (record_forms t x) i ≡ Some f) (sym (eqb-true s r h)) at
    prefix_by (suc m) s r i f h at = by (or_cases (s == r) (record_of t s).base (λ a. extends_within t m a r) h) (λ a x. prefix_by m a r i f x at)
      where
        by : ((s == r) ≡ true) ⊎ ((a : ℕ) × ((record_of t s).base ≡ Some a) × (extends_within t m a r ≡ true)) → ((a : ℕ) → extends_within t m a r ≡ true → slice_get (record_forms t a) i ≡ Some f) → slice_get (record_forms t s) i ≡ Some f
        by (inl e) go = subst (λ x. slice_get (record_forms t x) i ≡ Some f) (sym (eqb-true s r e)) at
        by (inr p) go = subst (λ xs. slice_get xs i ≡ Some f) (sym (record_are s)) (get_left (base_forms (record_of t s).base (record_forms t)) (joined (forms t) (types_of (record_of t s).fields)) i f (subst (λ o. slice_get (base_forms o (record_forms t)) i ≡ Some f) (sym p.1) (go p.0 p.2)))

    pub prefix : (s r i : ℕ) (f : Form) → extends t s r ≡ true → slice_get (record_forms t r) i ≡ Some f → slice_get (record_forms t s) i ≡ Some f
    prefix s r i f h at = prefix_by (length t.records) s r i f h at

  -- a type's cells may start as 0

  mutual
    starts_within : (d k : ℕ) → all starts (forms_within t d k) ≡ true
    starts_within zero k = refl
    starts_within (suc d) k = kind_starts (forms_within t d) (record_forms_within t d) (starts_within d) (record_starts_within d) (kind_of t k)

    record_starts_within : (d r : ℕ) → all starts (record_forms_within t d r) ≡ true
    record_starts_within zero r = refl
    record_starts_within (suc d) r = all_append starts (base_forms (record_of t r).base (record_forms_within t d)) (joined (forms_within t d) (types_of (record_of t r).fields)) (base_starts (record_forms_within t d) (record_starts_within d) (record_of t r).base) (all_joined starts (forms_within t d) (starts_within d) (types_of (record_of t r).fields))

  pub starts_all : (k : ℕ) → all starts (forms t k) ≡ true
  unfolding forms
  starts_all k = starts_within (suc (length t.kinds + length t.records)) k

  pub record_starts_all : (r : ℕ) → all starts (record_forms t r) ≡ true
  unfolding record_forms
  record_starts_all r = record_starts_within (suc (length t.kinds + length t.records)) r
