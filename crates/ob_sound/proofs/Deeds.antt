-- The constructs of statements: each is sound where its parts are typed.
use Rattle.std.proofs.Common.{◌≡◌, ℕ, zero, suc, ◌*◌, ◌^◌, ◌<◌, ◌≤◌, List, [], ◌∷◌, ◌++◌, length, Bool, true, false, ◌&&◌, Option, Some, None, refl, sym, ap, ◌∙◌, subst, arith, inl, inr, eqb-true, leb-true, lt-ltb}
use Rattle.std.specs.Prelude.{slice_get, if◌then◌else◌, nat_le, ℤ}
use Rattle.run_laws.specs.Turns.{◌>>=◌, give, while_so, until_so}
use Rattle.wrapping_numbers.specs.Numbers.{unsigned, add64}
use Rattle.wrapping_numbers.proofs.Wrapping.{add64_lt}
use Rattle.ob_types.specs.Layout.{cells, record_cells, extends}
use Rattle.ob_types.specs.Store.{Cell, Bits, Pointer, Code, Address, Act, senseless, given, Handed, can_write, past, fetch, put, write, bits_in, bits, place}
use Rattle.ob_types.specs.Operators.{holds, inside, elements, binary_of}
use Rattle.ob_types.specs.Statements.{Deed, assign, copy, copy_array, copy_record, change_number, change_set, new, assert, out_char, out_int, out_string, done, receive, in_char, otherwise, test, try, at_limit, for, case, type_case}
use Rattle.ob_types.specs.Meaning.{is_byte}
use Rattle.ob_types.specs.declared.tree.Binary.{Binary}
use Rattle.ob_types.specs.declared.program.Program.{Program}
use Rattle.ob_types.specs.Forms.{Form, Zero, Truth, Small, Number, ToRecord, Routines, Exactly, repeated, types_fine, forms, record_forms}
use Rattle.ob_types.specs.LegalTypes.{is_record_type}
use Rattle.ob_types.specs.WellFormed
use Rattle.ob_types.specs.WellFormed.{Named, Cells, Of, OpenOf, Dynamic, Characters, Elementary, Letter, provided, is_number, is_small, is_truth, unary_form, binary_form, is_pointer, is_code, holds_of, with_some, gives_number, gives_pointer, is_equality, comparable, literal_by, literal, is_writable, element_by, open_element, record_by, is_char, is_empty, matched, pointed, changes, is_full, well_formed}
use Rattle.ob_types.proofs.Tests.{none_some, no, and_of, less_or_past}
use Rattle.ob_sound.proofs.Tables.{length_repeated, cells_length, record_cells_length, extends_trans}
use Rattle.ob_sound.proofs.Numbers.{binary_lt, inside_lt, elements_lt}
use Rattle.ob_sound.proofs.Typed.{Any, Fits, Formed, HasForm, InputByte, Sound, Stands, element_forms, form_older, formed_of, global_forms, older_trans, s_allocate, s_bind, s_fetch, s_give, s_given, s_if, s_next_byte, s_older, s_put, s_repeat, s_spend, s_unless, s_weaker, s_write, stands_older}
use Rattle.ob_sound.proofs.Constructs.{Does, IsNumber, Means, Points, an_array, as_number, does_if, element_same, holds_is, n_bits, number_fits, s_bits, s_each, s_record, s_scalar, s_span, s_text_in}

module _ (p : Program) where
  module _ (fine : types_fine p.types ≡ true) where
    -- what suits fits

    pub suits_fits : (tags : List ℕ) (a b : Form) (c : Cell) → WellFormed.suits p a b ≡ true → Fits p tags a c → Fits p tags b c
    suits_fits tags Zero Zero c h f = f
    suits_fits tags Zero Truth (Bits n) h f = omega (arith, f)
    suits_fits tags Zero Small (Bits n) h f = omega (arith, f)
    suits_fits tags Truth Truth c h f = f
    suits_fits tags Truth Small (Bits n) h f = omega (arith, f)
    suits_fits tags Truth Number (Bits n) h f = omega (arith, f)
    suits_fits tags Truth Zero c h f = no h
    suits_fits tags Truth (ToRecord r) c h f = no h
    suits_fits tags Truth (Routines r) c h f = no h
    suits_fits tags Truth (Exactly r) c h f = no h
    suits_fits tags Small Truth c h f = no h
    suits_fits tags Number Truth c h f = no h
    suits_fits tags (ToRecord r) Truth c h f = no h
    suits_fits tags (Routines r) Truth c h f = no h
    suits_fits tags (Exactly r) Truth c h f = no h
    suits_fits tags Zero Number (Bits n) h f = omega (arith, f)
    suits_fits tags Zero (ToRecord r) (Bits n) h f = f
    suits_fits tags Zero (Routines k) (Bits n) h f = f
    suits_fits tags Small Small c h f = f
    suits_fits tags Small Number (Bits n) h f = omega (arith, f)
    suits_fits tags Number Number c h f = f
    suits_fits tags (ToRecord r) (ToRecord b) (Bits n) h f = f
    suits_fits tags (ToRecord r) (ToRecord b) (Pointer o) h f = (f.0, f.1, extends_trans p.types fine f.0 r b f.2 h)
    suits_fits tags (Routines k) (Routines l) c h f = subst (λ m. Fits p tags (Routines m) c) (eqb-true k l h) f
    suits_fits tags (Exactly g) (Routines k) (Code i) h f = subst (λ m. WellFormed.is_of_type p m k ≡ true) (sym f) h
    suits_fits tags Zero (Exactly g) c h f = no h
    suits_fits tags Small Zero c h f = no h
    suits_fits tags Small (ToRecord r) c h f = no h
    suits_fits tags Small (Routines k) c h f = no h
    suits_fits tags Small (Exactly k) c h f = no h
    suits_fits tags Number Zero c h f = no h
    suits_fits tags Number Small c h f = no h
    suits_fits tags Number (ToRecord r) c h f = no h
    suits_fits tags Number (Routines r) c h f = no h
    suits_fits tags Number (Exactly r) c h f = no h
    suits_fits tags (ToRecord r) Zero c h f = no h
    suits_fits tags (ToRecord r) Small c h f = no h
    suits_fits tags (ToRecord r) Number c h f = no h
    suits_fits tags (ToRecord r) (Routines k) c h f = no h
    suits_fits tags (ToRecord r) (Exactly k) c h f = no h
    suits_fits tags (Routines r) Zero c h f = no h
    suits_fits tags (Routines r) Small c h f = no h
    suits_fits tags (Routines r) Number c h f = no h
    suits_fits tags (Routines r) (ToRecord k) c h f = no h
    suits_fits tags (Routines r) (Exactly k) c h f = no h
    suits_fits tags (Exactly r) Zero c h f = no h
    suits_fits tags (Exactly r) Small c h f = no h
    suits_fits tags (Exactly r) Number c h f = no h
    suits_fits tags (Exactly r) (ToRecord k) c h f = no h
    suits_fits tags (Exactly r) (Exactly k) c h f = no h
    suits_fits tags _ _ _ h f = absurd f

    pub given_is : (o l : Option Form) → WellFormed.given_for p o l ≡ true → (a : Form) × (b : Form) × (o ≡ Some a) × (l ≡ Some b) × (WellFormed.suits p a b ≡ true)
    given_is None l h = no h
    given_is (Some a) None h = no h
    given_is (Some a) (Some b) h = (a, b, refl, refl, h)

    -- the constructs of statements

    pub some_at : {A : Type 0} (xs : List A) (i : ℕ) → i < length xs → (x : A) × (slice_get xs i ≡ Some x)
    some_at [] i l = absurd (omega (arith, l))
    some_at (x ∷ xs) zero l = (x, refl)
    some_at (x ∷ xs) (suc i) l = some_at xs i (omega (arith, l))

    pub d_assign : {fs : List (List Form)} {tags : List ℕ} {d : Act Handed} {x : Act Cell} (o : Option Named) (l : Option Form) → Points p fine fs tags o d → Means p fine fs tags l x → Does p fine fs tags (holds_of (λ t. is_writable t && WellFormed.given_for p l (WellFormed.scalar_in p t)) o) (assign d x)
    d_assign {fs = fs} o l q r = does_if p fine (holds_of (λ t. is_writable t && WellFormed.given_for p l (WellFormed.scalar_in p t)) o) (λ h.
        let n = holds_is p fine (λ t. is_writable t && WellFormed.given_for p l (WellFormed.scalar_in p t)) o h in
        let parts = and_of (is_writable n.0) (WellFormed.given_for p l (WellFormed.scalar_in p n.0)) n.2 in
        let g = given_is l (WellFormed.scalar_in p n.0) parts.1 in
        s_bind p (s_scalar p fine n.0 g.1 g.3 (q.sound n.0 n.1)) (λ more a e placed. s_bind p (s_older p e (r.sound g.0 g.2)) (λ most c e2 f.
        s_put p a g.1 c (formed_of p fs most a g.1 (stands_older p fs more most e2 a (g.1 ∷ []) placed.0)) (placed.1 parts.0) (suits_fits most g.0 g.1 c g.4 f))))

    pub s_copy : {fs : List (List Form)} {tags : List ℕ} (n : ℕ) (to from : Address) (xs ys : List Form) → n ≡ length ys → ((i : ℕ) (k : Form) → slice_get ys i ≡ Some k → slice_get xs i ≡ Some k) → Stands p fs tags to xs → Stands p fs tags from ys → can_write to.area ≡ true → Sound p fs tags (Any p) (copy n to from)
    s_copy {fs = fs} {tags = tags} n to from xs ys e within_to st sf w = s_bind p (s_spend p) (λ t1 u e1 v. s_each p fine n 0 (λ i. fetch (past from i) >>= λ c. put (past to i) c >>= λ _. give true) (λ t2 e2 i a l.
        let k = some_at ys i (omega (arith, e, l)) in
        s_bind p (s_fetch p (past from i) k.0 (stands_older p fs tags t2 (older_trans tags t1 t2 e1 e2) from ys sf i k.0 k.1)) (λ t3 c e3 f. s_bind p (s_put p (past to i) k.0 c (stands_older p fs tags t3 (older_trans tags t1 t3 e1 (older_trans t1 t2 t3 e2 e3)) to xs st i k.0 (within_to i k.0 k.1)) w f) (λ t4 z e4 y. s_give p true (λ _ _. tt)))))

    pub left_of : (xs ys zs : List Form) (i : ℕ) (k : Form) → i < length xs → slice_get (xs ++ ys) i ≡ Some k → slice_get (xs ++ zs) i ≡ Some k
    left_of [] ys zs i k l at = absurd (omega (arith, l))
    left_of (x ∷ xs) ys zs zero k l at = at
    left_of (x ∷ xs) ys zs (suc i) k l at = left_of xs ys zs i k (omega (arith, l)) at

    pub right_of : (xs ys zs : List Form) (i : ℕ) (k : Form) → length xs ≤ i → slice_get (xs ++ ys) i ≡ Some k → ((j : ℕ) → slice_get ys j ≡ Some k → slice_get zs j ≡ Some k) → slice_get (xs ++ zs) i ≡ Some k
    right_of [] ys zs i k l at go = go i at
    right_of (x ∷ xs) ys zs zero k l at go = absurd (omega (arith, l))
    right_of (x ∷ xs) ys zs (suc i) k l at go = right_of xs ys zs i k (omega (arith, l)) at go

    pub repeated_more : (xs : List Form) (n m i : ℕ) (k : Form) → n ≤ m → slice_get (repeated n xs) i ≡ Some k → slice_get (repeated m xs) i ≡ Some k
    repeated_more xs zero m i k l at = none_some k at
    repeated_more xs (suc n) zero i k l at = absurd (omega (arith, l))
    repeated_more xs (suc n) (suc m) i k l at = elim (less_or_past i (length xs)) [
      | inl less ↦ left_of xs (repeated n xs) (repeated m xs) i k less at
      | inr past ↦ right_of xs (repeated n xs) (repeated m xs) i k past at (λ j h. repeated_more xs n m j k (omega (arith, l)) h)
    ]

    pub le_of : (a b : ℕ) → nat_le a b ≡ true → a ≤ b
    le_of a b h = leb-true a b h

    pub d_copy_array : {fs : List (List Form)} {tags : List ℕ} {d c : Act Handed} (f : ℕ) (n m : Option ℕ) (element : ℕ) (o l : Option Named) → Points p fine fs tags o d → Points p fine fs tags l c → Does p fine fs tags (holds_of (λ t. is_writable t && WellFormed.array_of p element n t) o && holds_of (WellFormed.array_of p element m) l) (copy_array f d n c m (cells p.types element))
    d_copy_array {fs = fs} f n m element o l q r = does_if p fine (holds_of (λ t. is_writable t && WellFormed.array_of p element n t) o && holds_of (WellFormed.array_of p element m) l) (λ h.
        let parts = and_of (holds_of (λ t. is_writable t && WellFormed.array_of p element n t) o) (holds_of (WellFormed.array_of p element m) l) h in
        let x = holds_is p fine (λ t. is_writable t && WellFormed.array_of p element n t) o parts.0 in
        let both = and_of (is_writable x.0) (WellFormed.array_of p element n x.0) x.2 in
        let xe = holds_is p fine (λ y. WellFormed.is_element p y element) (WellFormed.elements_in p x.0 n) both.1 in
        let y = holds_is p fine (WellFormed.array_of p element m) l parts.1 in
        let ye = holds_is p fine (λ z. WellFormed.is_element p z element) (WellFormed.elements_in p y.0 m) y.2 in
        s_bind p (s_span p fine x.0 n xe.0 xe.1 (q.sound x.0 x.1)) (λ t1 to e1 xs. s_bind p (s_older p e1 (s_span p fine y.0 m ye.0 ye.1 (r.sound y.0 y.1))) (λ t2 from e2 ys. s_bind p (s_unless p f 12 (nat_le from.length to.length)) (λ t3 u e3 le.
        s_copy (from.length * cells p.types element) to.at from.at (repeated to.length (forms p.types element)) (repeated from.length (forms p.types element))
        (ap (λ k. from.length * k) (cells_length p.types element) ∙ sym (length_repeated from.length (forms p.types element)))
        (λ i k at. repeated_more (forms p.types element) from.length to.length i k (le_of from.length to.length le) at)
        (subst (λ zs. Stands p fs t3 to.at (repeated to.length zs)) (element_same p fine xe.0 element xe.2) (stands_older p fs t1 t3 (older_trans t1 t2 t3 e2 e3) to.at (repeated to.length (element_forms p xe.0)) xs.0))
        (subst (λ zs. Stands p fs t3 from.at (repeated from.length zs)) (element_same p fine ye.0 element ye.2) (stands_older p fs t2 t3 e3 from.at (repeated from.length (element_forms p ye.0)) ys.0))
        (xs.1 both.0)))))

    pub d_copy_record : {fs : List (List Form)} {tags : List ℕ} {d c : Act Handed} (r : ℕ) (o l : Option Named) → Points p fine fs tags o d → Points p fine fs tags l c → Does p fine fs tags (holds_of (λ t. is_writable t && WellFormed.has_record p r t) o && holds_of (WellFormed.has_record p r) l) (copy_record d c (record_cells p.types r))
    d_copy_record {fs = fs} r o l q s = does_if p fine (holds_of (λ t. is_writable t && WellFormed.has_record p r t) o && holds_of (WellFormed.has_record p r) l) (λ h.
        let parts = and_of (holds_of (λ t. is_writable t && WellFormed.has_record p r t) o) (holds_of (WellFormed.has_record p r) l) h in
        let x = holds_is p fine (λ t. is_writable t && WellFormed.has_record p r t) o parts.0 in
        let both = and_of (is_writable x.0) (WellFormed.has_record p r x.0) x.2 in
        let y = holds_is p fine (WellFormed.has_record p r) l parts.1 in
        s_bind p (s_record p fine x.0 r both.1 (q.sound x.0 x.1)) (λ t1 to e1 xs. s_bind p (s_older p e1 (s_record p fine y.0 r y.2 (s.sound y.0 y.1))) (λ t2 from e2 ys.
        s_copy (record_cells p.types r) to from (record_forms p.types r) (record_forms p.types r) (record_cells_length p.types r) (λ i k at. at) (stands_older p fs t1 t2 e2 to (record_forms p.types r) xs.0) ys.0 (xs.1 both.0))))

    -- a variable of one cell that may be written
    pub takes_is : (test : Form → Bool) (o : Option Named) → holds_of (WellFormed.takes p test) o ≡ true → (n : Named) × (k : Form) × (o ≡ Some n) × (WellFormed.scalar_in p n ≡ Some k) × (test k ≡ true) × (is_writable n ≡ true)
    takes_is test o h =
        let n = holds_is p fine (WellFormed.takes p test) o h in
        let parts = and_of (is_writable n.0) (holds_of test (WellFormed.scalar_in p n.0)) n.2 in
        let k = holds_is p fine test (WellFormed.scalar_in p n.0) parts.1 in
        (n.0, k.0, n.1, k.1, k.2, parts.0)

    pub s_takes : {fs : List (List Form)} {tags : List ℕ} {d : Act Handed} (o : Option Named) (n : Named) (k : Form) → o ≡ Some n → WellFormed.scalar_in p n ≡ Some k → is_writable n ≡ true → Points p fine fs tags o d → Sound p fs tags (λ t a. Formed p fs t a k × (can_write a.area ≡ true)) (place d)
    s_takes {fs = fs} o n k is has w q = s_weaker p (λ t a placed. (formed_of p fs t a k placed.0, placed.1 w)) (s_scalar p fine n k has (q.sound n is))

    pub changes_number : (b : Bool) (k : Form) → changes b k ≡ true → is_number k ≡ true
    changes_number b Small h = refl
    changes_number b Number h = refl
    changes_number b Zero h = no h
    changes_number b Truth h = no h
    changes_number b (ToRecord r) h = no h
    changes_number b (Routines r) h = no h
    changes_number b (Exactly r) h = no h

    pub changed_fits : (tags : List ℕ) (b : Bool) (k : Form) (w : ℕ) → changes b k ≡ true → w < 2 ^ 64 → (if b then inside w 256 else true) ≡ true → Fits p tags k (Bits w)
    changed_fits tags true Small w h l i = inside_lt w 256 l (omega arith) i
    changed_fits tags false Small w h l i = no h
    changed_fits tags b Number w h l i = l
    changed_fits tags b Zero w h l i = no h
    changed_fits tags b Truth w h l i = no h
    changed_fits tags b (ToRecord r) w h l i = no h
    changed_fits tags b (Routines r) w h l i = no h
    changed_fits tags b (Exactly r) w h l i = no h

    -- an operator that always has a result
    abbrev pub Always : Binary → Type 0
    Always op = (v n : ℕ) → (w : ℕ) × (binary_of op v n ≡ Some w)

    pub s_number_at : {fs : List (List Form)} {tags : List ℕ} (a : Address) (k : Form) → is_number k ≡ true → Formed p fs tags a k → Sound p fs tags (IsNumber p fine) (bits (fetch a))
    s_number_at a k h at = s_bits p fine (s_weaker p (λ t c f. number_fits p fine t k c h f) (s_fetch p a k at))

    pub s_operated : {fs : List (List Form)} {tags : List ℕ} (op : Binary) (v n : ℕ) → Always op → v < 2 ^ 64 → n < 2 ^ 64 → Sound p fs tags (IsNumber p fine) (given (binary_of op v n))
    s_operated op v n always i j = let w = always v n in s_given p (binary_of op v n) w.0 w.1 (λ _ _. binary_lt op v n w.0 i j w.1)

    pub d_change : {fs : List (List Form)} {tags : List ℕ} {d : Act Handed} {x : Act Cell} (f : ℕ) (op : Binary) → Always op → (is_byte : Bool) (o : Option Named) (l : Option Form) → Points p fine fs tags o d → Means p fine fs tags l x → Does p fine fs tags (gives_number l && holds_of (WellFormed.takes p (changes is_byte)) o) (change_number f op d x is_byte)
    d_change {fs = fs} f op always is_byte o l q r = does_if p fine (gives_number l && holds_of (WellFormed.takes p (changes is_byte)) o) (λ h.
        let two = and_of (gives_number l) (holds_of (WellFormed.takes p (changes is_byte)) o) h in
        let k = takes_is (changes is_byte) o two.1 in
        s_bind p (s_takes o k.0 k.1 k.2 k.3 k.5 q) (λ t1 a e1 at. s_bind p (s_older p e1 (n_bits p fine l two.0 r)) (λ t2 n e2 ln. s_bind p (s_number_at a k.1 (changes_number is_byte k.1 k.4) (form_older p fs t1 t2 e2 a.area a.object a.cell k.1 at.0)) (λ t3 v e3 lv. s_bind p (s_operated op v n always lv ln) (λ t4 w e4 lw. s_bind p (s_unless p f 11 (if is_byte then inside w 256 else true)) (λ t5 u e5 ok.
        s_put p a k.1 (Bits w) (form_older p fs t1 t5 (older_trans t1 t2 t5 e2 (older_trans t2 t3 t5 e3 (older_trans t3 t4 t5 e4 e5))) a.area a.object a.cell k.1 at.0) at.1 (changed_fits t5 is_byte k.1 w k.4 lw ok)))))))

    pub full_is : (k : Form) → is_full k ≡ true → k ≡ Number
    full_is Number h = refl
    full_is Small h = no h
    full_is Zero h = no h
    full_is Truth h = no h
    full_is (ToRecord r) h = no h
    full_is (Routines r) h = no h
    full_is (Exactly r) h = no h

    -- a variable that has a gives_number
    pub s_full : {fs : List (List Form)} {tags : List ℕ} {d : Act Handed} (o : Option Named) → holds_of (WellFormed.takes p is_full) o ≡ true → Points p fine fs tags o d → Sound p fs tags (λ t a. Formed p fs t a Number × (can_write a.area ≡ true)) (place d)
    s_full o h q = let k = takes_is is_full o h in s_takes o k.0 Number k.2 (k.3 ∙ ap Some (full_is k.1 k.4)) k.5 q

    pub d_change_set : {fs : List (List Form)} {tags : List ℕ} {d : Act Handed} {x : Act Cell} (f : ℕ) (op : Binary) → Always op → (o : Option Named) (l : Option Form) → Points p fine fs tags o d → Means p fine fs tags l x → Does p fine fs tags (gives_number l && holds_of (WellFormed.takes p is_full) o) (change_set f op d x)
    d_change_set {fs = fs} f op always o l q r = does_if p fine (gives_number l && holds_of (WellFormed.takes p is_full) o) (λ h.
        let two = and_of (gives_number l) (holds_of (WellFormed.takes p is_full) o) h in
        s_bind p (s_full o two.1 q) (λ t1 a e1 at. s_bind p (s_older p e1 (n_bits p fine l two.0 r)) (λ t2 n e2 ln. s_bind p (s_unless p f 7 (inside n 64)) (λ t3 u e3 ok. s_bind p (s_number_at a Number refl (form_older p fs t1 t3 (older_trans t1 t2 t3 e2 e3) a.area a.object a.cell Number at.0)) (λ t4 v e4 lv. s_bind p (s_operated op v (elements n n) always lv (let z = inside_lt n 64 ln (omega arith) ok in elements_lt n n z z)) (λ t5 w e5 lw.
        s_put p a Number (Bits w) (form_older p fs t1 t5 (older_trans t1 t2 t5 e2 (older_trans t2 t3 t5 e3 (older_trans t3 t4 t5 e4 e5))) a.area a.object a.cell Number at.0) at.1 lw))))))

    pub points_is : (r : ℕ) (k : Form) → WellFormed.points_to p r k ≡ true → (b : ℕ) × (k ≡ ToRecord b) × (extends p.types r b ≡ true)
    points_is r (ToRecord b) h = (b, refl, (and_of (is_record_type p.types r) (extends p.types r b) h).1)
    points_is r Number h = no h
    points_is r Small h = no h
    points_is r Zero h = no h
    points_is r Truth h = no h
    points_is r (Routines k) h = no h
    points_is r (Exactly k) h = no h

    pub d_new : {fs : List (List Form)} {tags : List ℕ} {d : Act Handed} (f r : ℕ) (o : Option Named) → Points p fine fs tags o d → Does p fine fs tags (holds_of (WellFormed.takes p (WellFormed.points_to p r)) o) (new f d r (record_cells p.types r))
    d_new f r o q = does_if p fine (holds_of (WellFormed.takes p (WellFormed.points_to p r)) o) (λ h.
        let k = takes_is (WellFormed.points_to p r) o h in
        let b = points_is r k.1 k.4 in
        s_bind p (s_takes o k.0 (ToRecord b.0) k.2 (k.3 ∙ ap Some b.1) k.5 q) (λ more a e at. s_allocate p f r (record_cells p.types r) b.0 a (record_cells_length p.types r) b.2 at.0 at.1))

    pub d_assert : {fs : List (List Form)} {tags : List ℕ} {x : Act Cell} (f : ℕ) (l : Option Form) → Means p fine fs tags l x → Does p fine fs tags (gives_number l) (assert f x)
    d_assert f l q = does_if p fine (gives_number l) (λ h. s_bind p (n_bits p fine l h q) (λ more n e k. s_weaker p (λ t u v. tt) (s_unless p f 5 (holds n))))

    pub s_byte_in : {fs : List (List Form)} {tags : List ℕ} (k : Form) (c : Cell) → is_small k ≡ true → Fits p tags k c → Sound p fs tags (λ t n. n < 256) (bits_in c)
    s_byte_in Zero (Bits n) h f = s_give p n (λ _ _. omega (arith, f))
    s_byte_in Truth (Bits n) h f = s_give p n (λ _ _. omega (arith, f))
    s_byte_in Small (Bits n) h f = s_give p n (λ _ _. f)
    s_byte_in Number c h f = no h
    s_byte_in (ToRecord r) c h f = no h
    s_byte_in (Routines r) c h f = no h
    s_byte_in (Exactly r) c h f = no h
    s_byte_in _ _ h f = absurd f

    pub s_out_char : {fs : List (List Form)} {tags : List ℕ} {x : Act Cell} (k : Form) → is_small k ≡ true → Sound p fs tags (HasForm p k) x → Sound p fs tags (Any p) (out_char x)
    s_out_char {fs = fs} k h q = s_bind p (s_bind p q (λ more c e f. s_byte_in k c h f)) (λ more n e l. subst (λ b. Sound p fs more (Any p) (if b then write (n ∷ []) else senseless)) (sym (lt-ltb n 256 l)) (s_write p (n ∷ [])))

    pub d_out_char : {fs : List (List Form)} {tags : List ℕ} {x : Act Cell} (l : Option Form) → Means p fine fs tags l x → Does p fine fs tags (holds_of is_small l) (out_char x)
    d_out_char l q = does_if p fine (holds_of is_small l) (λ h. let k = holds_is p fine is_small l h in s_out_char k.0 k.2 (q.sound k.0 k.1))

    pub d_out_int : {fs : List (List Form)} {tags : List ℕ} {x n : Act Cell} (o l : Option Form) → Means p fine fs tags o x → Means p fine fs tags l n → Does p fine fs tags (gives_number o && gives_number l) (out_int x n)
    d_out_int o l q r = does_if p fine (gives_number o && gives_number l) (λ h. let parts = and_of (gives_number o) (gives_number l) h in s_bind p (n_bits p fine o parts.0 q) (λ more v e i. s_bind p (s_older p e (n_bits p fine l parts.1 r)) (λ most w e2 j. s_write p _)))

    pub d_out_string : {fs : List (List Form)} {tags : List ℕ} {d : Act Handed} (n : Option ℕ) (o : Option Named) → Points p fine fs tags o d → Does p fine fs tags (holds_of (WellFormed.is_text p n) o) (out_string d n)
    d_out_string n o q = does_if p fine (holds_of (WellFormed.is_text p n) o) (λ h. let x = an_array p fine n (WellFormed.is_letter p) o h q in s_bind p x.4 (λ more a e el. s_bind p (s_text_in p fine x.1 (is_writable x.0) a x.3 el) (λ most xs e2 u. s_write p xs)))

    pub done_formed : (fs : List (List Form)) (tags : List ℕ) → Formed p fs tags done Truth
    unfolding global_forms
    done_formed fs tags = refl

    pub byte_fits : (tags : List ℕ) (k : Form) (n : ℕ) → changes true k ≡ true → n < 256 → Fits p tags k (Bits n)
    byte_fits tags Small n h l = l
    byte_fits tags Number n h l = omega (arith, l)
    byte_fits tags Zero n h l = no h
    byte_fits tags Truth n h l = no h
    byte_fits tags (ToRecord r) n h l = no h
    byte_fits tags (Routines r) n h l = no h
    byte_fits tags (Exactly r) n h l = no h

    pub s_receive : {fs : List (List Form)} {tags : List ℕ} (a : Address) (k : Form) (x : Option ℕ) → changes true k ≡ true → Formed p fs tags a k → can_write a.area ≡ true → InputByte p tags x → Sound p fs tags (Any p) (receive a x)
    s_receive {fs = fs} {tags = tags} a k None h at w i = s_bind p (s_put p done Truth (Bits 0) (done_formed fs tags) refl (omega arith)) (λ more u e v. s_put p a k (Bits 0) (form_older p fs tags more e a.area a.object a.cell k at) w (byte_fits more k 0 h (omega arith)))
    s_receive {fs = fs} {tags = tags} a k (Some x) h at w i = s_bind p (s_put p done Truth (Bits 1) (done_formed fs tags) refl (omega arith)) (λ more u e v. s_put p a k (Bits x) (form_older p fs tags more e a.area a.object a.cell k at) w (byte_fits more k x h i))

    pub d_in_char : {fs : List (List Form)} {tags : List ℕ} {d : Act Handed} (o : Option Named) → Points p fine fs tags o d → Does p fine fs tags (holds_of (WellFormed.takes p (changes true)) o) (in_char d)
    d_in_char {fs = fs} o q = does_if p fine (holds_of (WellFormed.takes p (changes true)) o) (λ h.
        let k = takes_is (changes true) o h in
        s_bind p (s_takes o k.0 k.1 k.2 k.3 k.5 q) (λ t1 a e1 at. s_bind p (s_next_byte p) (λ t2 x e2 i. s_receive a k.1 x k.4 (form_older p fs t1 t2 e2 a.area a.object a.cell k.1 at.0) at.1 i)))

    pub s_otherwise : {fs : List (List Form)} {tags : List ℕ} {parts : Act Bool} {other : Deed} → Sound p fs tags (Any p) parts → Sound p fs tags (Any p) other → Sound p fs tags (Any p) (otherwise parts other)
    s_otherwise q r = s_bind p q (λ more done e u. s_if p done (s_give p tt (λ _ _. tt)) (s_older p e r))

    pub s_test : {fs : List (List Form)} {tags : List ℕ} {x : Act Cell} (l : Option Form) → gives_number l ≡ true → Means p fine fs tags l x → Sound p fs tags (Any p) (test x)
    s_test l h q = s_bind p (n_bits p fine l h q) (λ more n e i. s_give p (holds n) (λ _ _. tt))

    pub s_try : {fs : List (List Form)} {tags : List ℕ} {condition rest : Act Bool} {body : Deed} → Sound p fs tags (Any p) condition → Sound p fs tags (Any p) body → Sound p fs tags (Any p) rest → Sound p fs tags (Any p) (try condition body rest)
    s_try q r s = s_bind p q (λ more ok e u. s_if p ok (s_bind p (s_older p e r) (λ most v e2 w. s_give p true (λ _ _. tt))) (s_older p e s))

    pub s_while : {fs : List (List Form)} {tags : List ℕ} {x : Act Bool} {body : Deed} (fuel : ℕ) → Sound p fs tags (Any p) x → Sound p fs tags (Any p) body → Sound p fs tags (Any p) (while_so fuel x body)
    s_while {x = x} {body = body} fuel q r = s_repeat p fuel (x >>= λ b. if b then (body >>= λ _. give true) else give false) (s_bind p q (λ more b e u. s_if p b (s_bind p (s_older p e r) (λ most v e2 w. s_give p true (λ _ _. tt))) (s_give p false (λ _ _. tt))))

    pub d_until : {fs : List (List Form)} {tags : List ℕ} {x : Act Cell} {body : Deed} (fuel : ℕ) (b : Bool) (l : Option Form) → Does p fine fs tags b body → Means p fine fs tags l x → Does p fine fs tags (b && gives_number l) (until_so fuel body (test x))
    d_until {x = x} {body = body} fuel b l r q = does_if p fine (b && gives_number l) (λ h. let y = and_of b (gives_number l) h in s_bind p (r.sound y.0) (λ more u e v. s_repeat p fuel (test x >>= λ b. if b then give false else (body >>= λ _. give true)) (s_bind p (s_older p e (s_test l y.1 q)) (λ most b e2 w. s_if p b (s_give p false (λ _ _. tt)) (s_bind p (s_older p (older_trans _ more most e e2) (r.sound y.0)) (λ last z e3 a. s_give p true (λ _ _. tt)))))))

    pub d_for : {fs : List (List Form)} {tags : List ℕ} {d : Act Handed} {x y : Act Cell} {body : Deed} (fuel : ℕ) (step : ℤ) (o : Option Named) (l m : Option Form) (b : Bool) → Points p fine fs tags o d → Means p fine fs tags l x → Means p fine fs tags m y → Does p fine fs tags b body → Does p fine fs tags (holds_of (WellFormed.takes p is_full) o && (gives_number l && (gives_number m && b))) (for fuel d x y step body)
    d_for {fs = fs} {tags = tags} fuel step o l m b q r s u = does_if p fine (holds_of (WellFormed.takes p is_full) o && (gives_number l && (gives_number m && b))) (λ h.
        let one = and_of (holds_of (WellFormed.takes p is_full) o) (gives_number l && (gives_number m && b)) h in
        let two = and_of (gives_number l) (gives_number m && b) one.1 in
        let three = and_of (gives_number m) b two.1 in
        s_bind p (s_full o one.0 q) (λ t1 a e1 at. s_bind p (s_older p e1 (as_number p fine l two.0 r)) (λ t2 c e2 f.
        let at2 = form_older p fs t1 t2 e2 a.area a.object a.cell Number at.0 in
        s_bind p (s_put p a Number c at2 at.1 f) (λ t3 v e3 w. s_bind p (s_older p (older_trans tags t1 t3 e1 (older_trans t1 t2 t3 e2 e3)) (n_bits p fine m three.0 s)) (λ t4 limit e4 ll.
        let older = older_trans tags t1 t4 e1 (older_trans t1 t2 t4 e2 (older_trans t2 t3 t4 e3 e4)) in
        let at4 = form_older p fs t2 t4 (older_trans t2 t3 t4 e3 e4) a.area a.object a.cell Number at2 in
        s_while fuel (s_bind p (s_number_at a Number refl at4) (λ t5 n e5 k. s_give p (at_limit step n limit) (λ _ _. tt)))
        (s_bind p (s_older p older (u.sound three.1)) (λ t5 z e5 k. let at5 = form_older p fs t4 t5 e5 a.area a.object a.cell Number at4 in s_bind p (s_number_at a Number refl at5) (λ t6 n e6 j. s_put p a Number (Bits (add64 n (unsigned step))) (form_older p fs t5 t6 e6 a.area a.object a.cell Number at5) at.1 (add64_lt n (unsigned step))))))))))

    pub d_case : {fs : List (List Form)} {tags : List ℕ} {x : Act Cell} {parts : ℕ → Act Bool} (f : ℕ) (l : Option Form) (b : Bool) → Means p fine fs tags l x → ((v : ℕ) → Does p fine fs tags b (parts v)) → Does p fine fs tags (gives_number l && b) (case f x parts)
    d_case f l b q r = does_if p fine (gives_number l && b) (λ h. let y = and_of (gives_number l) b h in s_bind p (n_bits p fine l y.0 q) (λ more v e i. s_bind p (s_older p e ((r v).sound y.1)) (λ most ok e2 u. s_weaker p (λ t w z. tt) (s_unless p f 6 ok))))

    pub s_type_case : {fs : List (List Form)} {tags : List ℕ} {x : Act (Option ℕ)} {parts : Option ℕ → Act Bool} → Sound p fs tags (Any p) x → ((t : Option ℕ) → Sound p fs tags (Any p) (parts t)) → Sound p fs tags (Any p) (type_case x parts)
    s_type_case q r = s_bind p q (λ more t e u. s_bind p (s_older p e (r t)) (λ most v e2 w. s_give p tt (λ _ _. tt)))
