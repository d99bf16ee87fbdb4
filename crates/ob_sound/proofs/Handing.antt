-- Arguments, what a call hands over, and what it gives back.
use Rattle.std.proofs.Common.{◌≡◌, ℕ, zero, suc, ◌+◌, ◌^◌, ◌<◌, List, [], ◌∷◌, ◌++◌, map, length, take, Bool, true, false, not, ◌&&◌, ◌||◌, Option, Some, None, refl, sym, ap, ap₂, ◌∙◌, subst, arith, inl, inr, eqb-true, filter, append_assoc, cond}
use Rattle.std.specs.Prelude.{slice_get, slice_index_or, replicate, ◌==◌, nat_lt, is_some}
use Rattle.ob_types.specs.Layout.{kind_of, signature_of, cells_of_all, extends}
use Rattle.ob_types.specs.Store.{Cell, Bits, Pointer, Code, Area, Globals, Frames, Heap, Strings, Address, Act, given, Handed, At, Sized, Tagged, Value, can_write, address_in, code_in}
use Rattle.ob_types.specs.Expressions.{by_value, by_place, with_tag, by_record, by_open, Calls, called_by_number, called_by_value, result_of}
use Rattle.ob_types.specs.Assignable.{both_or_neither, same_mode, same_formal, same_formals}
use Rattle.ob_types.specs.Meaning.{procedure_of, globals_of, is_value, texts_of, receives, received}
use Rattle.ob_types.specs.declared.types.TypeKind.{TypeKind}
use Rattle.ob_types.specs.declared.types.Mode.{Mode}
use Rattle.ob_types.specs.declared.types.Mode.TheVariants.{Place}
use Rattle.ob_types.specs.declared.types.Mode.TheVariants.{Value as OfValue, Record as OfRecord, Open as OfOpen}
use Rattle.ob_types.specs.declared.types.Formal.{Formal}
use Rattle.ob_types.specs.declared.program.Module.{Module}
use Rattle.ob_types.specs.declared.program.Program.{Program}
use Rattle.ob_types.specs.Forms.{scalar_form, Form, Zero, Truth, Small, Number, ToRecord, Routines, Exactly, repeated, joined, all, types_fine, forms, record_forms}
use Rattle.ob_types.specs.LegalTypes.{mode_fits, formal_legal}
use Rattle.ob_types.specs.WellFormed
use Rattle.ob_types.specs.WellFormed.{Named, Cells, Of, OpenOf, Dynamic, Characters, Elementary, Letter, provided, is_number, is_small, is_truth, unary_form, binary_form, is_pointer, is_code, holds_of, with_some, gives_number, gives_pointer, is_equality, comparable, literal_by, literal, is_writable, element_by, open_element, record_by, is_char, is_empty, matched, pointed, changes, is_full, well_formed}
use Rattle.ob_types.proofs.Tests.{none_some, some_same, no, and_of}
use Rattle.ob_sound.proofs.Tables.{get_joined, starts, all_cells_length, whole_forms, scalar_forms, extends_trans}
use Rattle.ob_sound.proofs.Typed.{AllFit, Fits, HasForm, Names, NamesOf, Older, Placed, Sound, Stands, Writes, element_forms, fits_older, form_at, global_forms, index_left, lt_of, s_bind, s_give, s_given, s_older, s_placed, s_trap, stands_older, string_forms, zero_fits}
use Rattle.ob_sound.proofs.Constructs.{Means, Points, element_same, holds_is, or_split, record_is, s_record, s_span, with_is}
use Rattle.ob_sound.proofs.Deeds.{given_is, suits_fits}

module _ (p : Program) where
  module _ (fine : types_fine p.types ≡ true) where
    -- arguments

    -- an argument, as its parameter wants it
    abbrev pub Taken : List (List Form) → List ℕ → Mode → ℕ → Bool → Handed → Type 0
    Taken fs tags OfValue kind w (Value c) = (k : Form) → WellFormed.form_of p kind ≡ Some k → Fits p tags k c
    Taken fs tags Place kind w (At a) = Stands p fs tags a (forms p.types kind) × Writes p w a
    Taken fs tags OfRecord kind w (Tagged a t) = (r : ℕ) → record_by (kind_of p.types kind) ≡ Some r → Stands p fs tags a (record_forms p.types t) × (extends p.types t r ≡ true) × (can_write a.area ≡ true)
    Taken fs tags OfOpen kind w (Sized a n) = (e : ℕ) → open_element (kind_of p.types kind) ≡ Some e → Stands p fs tags a (repeated n (forms p.types e)) × Writes p w a × (n < 2 ^ 32)
    Taken fs tags _ kind w _ = ⊥

    abbrev pub AllTaken : List (List Form) → List ℕ → List Formal → List Handed → Type 0
    AllTaken fs tags [] [] = Unit {0}
    AllTaken fs tags (x ∷ xs) (h ∷ hs) = Taken fs tags x.mode x.type_number x.variable h × AllTaken fs tags xs hs
    AllTaken fs tags _ _ = ⊥

    pub taken_older : (fs : List (List Form)) (tags more : List ℕ) → Older tags more → (m : Mode) (kind : ℕ) (w : Bool) (h : Handed) → Taken fs tags m kind w h → Taken fs more m kind w h
    taken_older fs tags more e OfValue kind w (Value c) t = λ k is. fits_older p tags more e k c (t k is)
    taken_older fs tags more e Place kind w (At a) t = (stands_older p fs tags more e a (forms p.types kind) t.0, t.1)
    taken_older fs tags more e OfRecord kind w (Tagged a s) t = λ r is. let x = t r is in (stands_older p fs tags more e a (record_forms p.types s) x.0, x.1, x.2)
    taken_older fs tags more e OfOpen kind w (Sized a n) t = λ k is. let x = t k is in (stands_older p fs tags more e a (repeated n (forms p.types k)) x.0, x.1, x.2)
    taken_older fs tags more e _ kind w _ t = absurd t

    pub all_taken_older : (fs : List (List Form)) (tags more : List ℕ) → Older tags more → (xs : List Formal) (hs : List Handed) → AllTaken fs tags xs hs → AllTaken fs more xs hs
    all_taken_older fs tags more e [] [] t = tt
    all_taken_older fs tags more e (x ∷ xs) (h ∷ hs) t = (taken_older fs tags more e x.mode x.type_number x.variable h t.0, all_taken_older fs tags more e xs hs t.1)
    all_taken_older fs tags more e [] (h ∷ hs) t = absurd t
    all_taken_older fs tags more e (x ∷ xs) [] t = absurd t

    pub form_push : (fs : List (List Form)) (own : List Form) (tags : List ℕ) (area : Area) (o i : ℕ) (k : Form) → form_at p fs tags area o i ≡ Some k → form_at p (fs ++ own ∷ []) tags area o i ≡ Some k
    form_push fs own tags Globals o i k at = at
    form_push fs own tags Heap o i k at = at
    form_push fs own tags Strings o i k at = at
    form_push fs own tags Frames o i k at = index_left p fs own o i k at

    pub stands_push : (fs : List (List Form)) (own : List Form) (tags : List ℕ) (a : Address) (xs : List Form) → Stands p fs tags a xs → Stands p (fs ++ own ∷ []) tags a xs
    stands_push fs own tags a xs h i k at = form_push fs own tags a.area a.object (a.cell + i) k (h i k at)

    pub taken_push : (fs : List (List Form)) (own : List Form) (tags : List ℕ) (m : Mode) (kind : ℕ) (w : Bool) (h : Handed) → Taken fs tags m kind w h → Taken (fs ++ own ∷ []) tags m kind w h
    taken_push fs own tags OfValue kind w (Value c) t = t
    taken_push fs own tags Place kind w (At a) t = (stands_push fs own tags a (forms p.types kind) t.0, t.1)
    taken_push fs own tags OfRecord kind w (Tagged a s) t = λ r is. let x = t r is in (stands_push fs own tags a (record_forms p.types s) x.0, x.1, x.2)
    taken_push fs own tags OfOpen kind w (Sized a n) t = λ k is. let x = t k is in (stands_push fs own tags a (repeated n (forms p.types k)) x.0, x.1, x.2)
    taken_push fs own tags _ kind w _ t = absurd t

    pub all_taken_push : (fs : List (List Form)) (own : List Form) (tags : List ℕ) (xs : List Formal) (hs : List Handed) → AllTaken fs tags xs hs → AllTaken (fs ++ own ∷ []) tags xs hs
    all_taken_push fs own tags [] [] t = tt
    all_taken_push fs own tags (x ∷ xs) (h ∷ hs) t = (taken_push fs own tags x.mode x.type_number x.variable h t.0, all_taken_push fs own tags xs hs t.1)
    all_taken_push fs own tags [] (h ∷ hs) t = absurd t
    all_taken_push fs own tags (x ∷ xs) [] t = absurd t

    pub taken_at : (fs : List (List Form)) (tags : List ℕ) (xs : List Formal) (hs : List Handed) → AllTaken fs tags xs hs → (i : ℕ) (x : Formal) → slice_get xs i ≡ Some x → (h : Handed) × (slice_get hs i ≡ Some h) × Taken fs tags x.mode x.type_number x.variable h
    taken_at fs tags [] hs t i x at = none_some x at
    taken_at fs tags (y ∷ ys) [] t i x at = absurd t
    taken_at fs tags (y ∷ ys) (h ∷ hs) t zero x at = (h, refl, subst (λ z. Taken fs tags z.mode z.type_number z.variable h) (some_same y x at) t.0)
    taken_at fs tags (y ∷ ys) (h ∷ hs) t (suc i) x at = taken_at fs tags ys hs t.1 i x at

    -- inside its procedure a parameter names what was taken
    pub parameter_names : (fs : List (List Form)) (tags : List ℕ) (m : Mode) (kind : ℕ) (w : Bool) (h : Handed) (n : Named) → WellFormed.parameter_by p m kind w ≡ Some n → Taken fs tags m kind w h → Names p fs tags n h
    parameter_names fs tags OfValue kind w h n is t = none_some n is
    parameter_names fs tags Place kind w (At a) n is t = subst (λ n. Names p fs tags n (At a)) (some_same (Of kind w) n is) t
    parameter_names fs tags OfRecord kind w (Tagged a s) n is t = let r = with_is p fine (record_by (kind_of p.types kind)) (λ r. Some (Dynamic r)) n is in subst (λ n. Names p fs tags n (Tagged a s)) (some_same (Dynamic r.0) n r.2) (t r.0 r.1)
    parameter_names fs tags OfOpen kind w (Sized a l) n is t = let e = with_is p fine (open_element (kind_of p.types kind)) (λ e. Some (OpenOf e w)) n is in subst (λ n. Names p fs tags n (Sized a l)) (some_same (OpenOf e.0 w) n e.2) (t e.0 e.1)
    parameter_names fs tags _ kind w _ n is t = absurd t

    -- what each kind of argument hands over

    pub t_by_value : {fs : List (List Form)} {tags : List ℕ} {x : Act Cell} (m : Mode) (kind : ℕ) (w : Bool) (o : Option Form) → WellFormed.value_suits p m o (WellFormed.form_of p kind) ≡ true → Means p fine fs tags o x → Sound p fs tags (λ t h. Taken fs t m kind w h) (by_value x)
    t_by_value OfValue kind w o h q =
        let g = given_is p fine o (WellFormed.form_of p kind) h in
        s_bind p (q.sound g.0 g.2) (λ more c e f. s_give p (Value c) (λ most e2 k is. subst (λ k. Fits p most k c) (some_same g.1 k (sym g.3 ∙ is)) (fits_older p more most e2 g.1 c (suits_fits p fine more g.0 g.1 c g.4 f))))
    t_by_value Place kind w o h q = no h
    t_by_value OfRecord kind w o h q = no h
    t_by_value OfOpen kind w o h q = no h

    pub kind_placed : (fs : List (List Form)) (n : Named) (k : ℕ) → WellFormed.is_kind p k n ≡ true → (more : List ℕ) (h : Handed) → Names p fs more n h → (a : Address) × (address_in h ≡ Some a) × Placed p fs (forms p.types k) (is_writable n) more a
    kind_placed fs (Of l w) k is more (At a) names = (a, refl, (subst (λ m. Stands p fs more a (forms p.types m)) (eqb-true l k is) names.0, names.1))
    kind_placed fs (Cells f w) k is more h names = no is
    kind_placed fs (OpenOf e w) k is more h names = no is
    kind_placed fs (Dynamic r) k is more h names = no is
    kind_placed fs (Characters n) k is more h names = no is
    kind_placed fs _ k is more _ names = absurd names

    pub t_place_by : {fs : List (List Form)} {tags : List ℕ} {d : Act Handed} (k : ℕ) (w : Bool) (n : Named) → WellFormed.place_suits p k w n ≡ true → Sound p fs tags (NamesOf p fs n) d → Sound p fs tags (λ t h. Taken fs t Place k w h) (by_place d)
    t_place_by {fs = fs} k true n h q =
        let parts = and_of (WellFormed.is_kind p k n) (is_writable n) h in
        s_bind p (s_placed p n (forms p.types k) (is_writable n) (kind_placed fs n k parts.0) q) (λ more a e placed. s_give p (At a) (λ most e2. (stands_older p fs more most e2 a (forms p.types k) placed.0, λ _. placed.1 parts.1)))
    t_place_by {fs = fs} k false n h q = elim (or_split p fine (WellFormed.is_kind p k n) (holds_of (λ r. WellFormed.has_record p r n) (record_by (kind_of p.types k))) h) [
      | inl same ↦ s_bind p (s_placed p n (forms p.types k) (is_writable n) (kind_placed fs n k same) q) (λ more a e placed. s_give p (At a) (λ most e2. (stands_older p fs more most e2 a (forms p.types k) placed.0, λ bad. no bad)))
      | inr has ↦ (let r = holds_is p fine (λ r. WellFormed.has_record p r n) (record_by (kind_of p.types k)) has in
          s_bind p (s_record p fine n r.0 r.2 q) (λ more a e placed. s_give p (At a) (λ most e2. (subst (λ xs. Stands p fs most a xs) (sym (whole_forms p.types fine k r.0 (record_is p fine (kind_of p.types k) r.0 r.1))) (stands_older p fs more most e2 a (record_forms p.types r.0) placed.0), λ bad. no bad))))
    ]

    pub t_by_place : {fs : List (List Form)} {tags : List ℕ} {d : Act Handed} (m : Mode) (k : ℕ) (w : Bool) (o : Option Named) → WellFormed.place_argument p m k w o ≡ true → Points p fine fs tags o d → Sound p fs tags (λ t h. Taken fs t m k w h) (by_place d)
    t_by_place Place k w o h q = let n = holds_is p fine (WellFormed.place_suits p k w) o h in t_place_by k w n.0 n.2 (q.sound n.0 n.1)
    t_by_place OfValue k w o h q = no h
    t_by_place OfRecord k w o h q = no h
    t_by_place OfOpen k w o h q = no h

    -- the tag that goes with a record
    pub tagged_with : (fs : List (List Form)) (tags : List ℕ) (b r : ℕ) (n : Named) (h : Handed) → WellFormed.record_suits p b r n ≡ true → Names p fs tags n h → (a : Address) × (t : ℕ) × (with_tag h r ≡ Some (Tagged a t)) × Stands p fs tags a (record_forms p.types t) × (extends p.types t b ≡ true) × (can_write a.area ≡ true)
    tagged_with fs tags b r (Of k true) (At a) h names =
        let s = holds_is p fine (λ s. s == r && extends p.types s b) (record_by (kind_of p.types k)) h in
        let parts = and_of (s.0 == r) (extends p.types s.0 b) s.2 in
        let same = eqb-true s.0 r parts.0 in
        (a, r, refl, subst (λ m. Stands p fs tags a (record_forms p.types m)) same (subst (λ xs. Stands p fs tags a xs) (whole_forms p.types fine k s.0 (record_is p fine (kind_of p.types k) s.0 s.1)) names.0), subst (λ m. extends p.types m b ≡ true) same parts.1, names.1 refl)
    tagged_with fs tags b r (Dynamic s) (Tagged a t) h names = (a, t, refl, names.0, extends_trans p.types fine t s b names.1 h, names.2)
    tagged_with fs tags b r (Of k false) x h names = no h
    tagged_with fs tags b r (Cells f w) x h names = no h
    tagged_with fs tags b r (OpenOf e w) x h names = no h
    tagged_with fs tags b r (Characters m) x h names = no h
    tagged_with fs tags b r _ _ h names = absurd names

    pub t_by_record : {fs : List (List Form)} {tags : List ℕ} {d : Act Handed} (m : Mode) (kind r : ℕ) (w : Bool) (o : Option Named) → WellFormed.record_argument p m (record_by (kind_of p.types kind)) r o ≡ true → Points p fine fs tags o d → Sound p fs tags (λ t h. Taken fs t m kind w h) (by_record d r)
    t_by_record {fs = fs} {tags = tags} {d = d} OfRecord kind r w o h q = by (record_by (kind_of p.types kind)) refl h
      where
        by : (l : Option ℕ) → record_by (kind_of p.types kind) ≡ l → WellFormed.record_argument p OfRecord l r o ≡ true → Sound p fs tags (λ t h. Taken fs t OfRecord kind w h) (by_record d r)
        by None is h = no h
        by (Some b) is h =
            let n = holds_is p fine (WellFormed.record_suits p b r) o h in
            s_bind p (q.sound n.0 n.1) (λ more x e names. let g = tagged_with fs more b r n.0 x n.2 names in
            s_given p (with_tag x r) (Tagged g.0 g.1) g.2 (λ most e2 s iss. (stands_older p fs more most e2 g.0 (record_forms p.types g.1) g.3, subst (λ s. extends p.types g.1 s ≡ true) (some_same b s (sym is ∙ iss)) g.4, g.5)))
    t_by_record OfValue kind r w o h q = no h
    t_by_record Place kind r w o h q = no h
    t_by_record OfOpen kind r w o h q = no h

    pub open_parts : (e : ℕ) (w : Bool) (n : Option ℕ) (d : Named) → WellFormed.open_suits p e w n d ≡ true → (WellFormed.array_of p e n d ≡ true) × (w ≡ true → is_writable d ≡ true)
    open_parts e true n d h = let x = and_of (WellFormed.array_of p e n d) (is_writable d) h in (x.0, λ _. x.1)
    open_parts e false n d h = (h, λ bad. no bad)

    pub t_by_open : {fs : List (List Form)} {tags : List ℕ} {d : Act Handed} (m : Mode) (kind : ℕ) (w : Bool) (n : Option ℕ) (o : Option Named) → WellFormed.open_argument p m (open_element (kind_of p.types kind)) w n o ≡ true → Points p fine fs tags o d → Sound p fs tags (λ t h. Taken fs t m kind w h) (by_open d n)
    t_by_open {fs = fs} {tags = tags} {d = d} OfOpen kind w n o h q = by (open_element (kind_of p.types kind)) refl h
      where
        by : (l : Option ℕ) → open_element (kind_of p.types kind) ≡ l → WellFormed.open_argument p OfOpen l w n o ≡ true → Sound p fs tags (λ t h. Taken fs t OfOpen kind w h) (by_open d n)
        by None is h = no h
        by (Some e) is h =
            let x = holds_is p fine (WellFormed.open_suits p e w n) o h in
            let parts = open_parts e w n x.0 x.2 in
            let el = holds_is p fine (λ y. WellFormed.is_element p y e) (WellFormed.elements_in p x.0 n) parts.0 in
            s_bind p (s_span p fine x.0 n el.0 el.1 (q.sound x.0 x.1)) (λ more a e1 elems. s_give p (Sized a.at a.length) (λ most e2 l isl.
            (subst (λ y. Stands p fs most a.at (repeated a.length (forms p.types y))) (some_same e l (sym is ∙ isl)) (subst (λ xs. Stands p fs most a.at (repeated a.length xs)) (element_same p fine el.0 e el.2) (stands_older p fs more most e2 a.at (repeated a.length (element_forms p el.0)) elems.0)), (λ yes. elems.1 (parts.1 yes)), elems.2)))
    t_by_open OfValue kind w n o h q = no h
    t_by_open Place kind w n o h q = no h
    t_by_open OfRecord kind w n o h q = no h

    -- the cells of a call's own object

    abbrev pub FitAll : List ℕ → List Form → List Cell → Type 0
    FitAll tags [] [] = Unit {0}
    FitAll tags (k ∷ ks) (c ∷ cs) = Fits p tags k c × FitAll tags ks cs
    FitAll tags _ _ = ⊥

    pub fit_append : (tags : List ℕ) (xs ys : List Form) (cs ds : List Cell) → FitAll tags xs cs → FitAll tags ys ds → FitAll tags (xs ++ ys) (cs ++ ds)
    fit_append tags [] ys [] ds f g = g
    fit_append tags (x ∷ xs) ys (c ∷ cs) ds f g = (f.0, fit_append tags xs ys cs ds f.1 g)
    fit_append tags [] ys (c ∷ cs) ds f g = absurd f
    fit_append tags (x ∷ xs) ys [] ds f g = absurd f

    pub fit_zeros : (tags : List ℕ) (xs : List Form) (n : ℕ) → n ≡ length xs → all starts xs ≡ true → FitAll tags xs (replicate n (Bits 0))
    fit_zeros tags [] zero e h = tt
    fit_zeros tags [] (suc n) e h = absurd (omega (arith, e))
    fit_zeros tags (x ∷ xs) zero e h = absurd (omega (arith, e))
    fit_zeros tags (x ∷ xs) (suc n) e h = let parts = and_of (starts x) (all starts xs) h in (zero_fits p tags x parts.0, fit_zeros tags xs n (omega (arith, e)) parts.1)

    pub fit_at : (tags : List ℕ) (xs : List Form) (cs : List Cell) → FitAll tags xs cs → AllFit p tags xs cs
    fit_at tags [] [] f i k at = none_some k at
    fit_at tags (x ∷ xs) (c ∷ cs) f zero k at = (c, refl, subst (λ k. Fits p tags k c) (some_same x k at) f.0)
    fit_at tags (x ∷ xs) (c ∷ cs) f (suc i) k at = fit_at tags xs cs f.1 i k at
    fit_at tags [] (c ∷ cs) f i k at = absurd f
    fit_at tags (x ∷ xs) [] f i k at = absurd f

    pub fit_older : (tags more : List ℕ) → Older tags more → (xs : List Form) (cs : List Cell) → FitAll tags xs cs → FitAll more xs cs
    fit_older tags more e [] [] f = tt
    fit_older tags more e (x ∷ xs) (c ∷ cs) f = (fits_older p tags more e x c f.0, fit_older tags more e xs cs f.1)
    fit_older tags more e [] (c ∷ cs) f = absurd f
    fit_older tags more e (x ∷ xs) [] f = absurd f

    pub joined_append : (xs ys : List ℕ) → joined (forms p.types) (xs ++ ys) ≡ joined (forms p.types) xs ++ joined (forms p.types) ys
    joined_append [] ys = refl
    joined_append (x ∷ xs) ys = ap (λ zs. forms p.types x ++ zs) (joined_append xs ys) ∙ sym (append_assoc (forms p.types x) (joined (forms p.types) xs) (joined (forms p.types) ys))

    pub scalar_some : (o : Option Form) → is_some o ≡ true → (k : Form) × (o ≡ Some k)
    scalar_some None h = no h
    scalar_some (Some k) h = (k, refl)

    pub receive_one : (fs : List (List Form)) (tags : List ℕ) (m : Mode) (x : Formal) (h : Handed) (rest : List Formal) (cs : List Cell) → Taken fs tags m x.type_number x.variable h → (not (is_value m) || is_some (WellFormed.form_of p x.type_number)) ≡ true → FitAll tags (joined (forms p.types) (map (λ x. x.type_number) rest)) cs → (ds : List Cell) × (receives m h (Some cs) ≡ Some ds) × FitAll tags (joined (forms p.types) (map (λ x. x.type_number) (cond (is_value m) (x ∷ rest) rest))) ds
    receive_one fs tags OfValue x (Value c) rest cs t fine_one f =
        let k = scalar_some (WellFormed.form_of p x.type_number) fine_one in
        (c ∷ cs, refl, subst (λ xs. FitAll tags (xs ++ joined (forms p.types) (map (λ x. x.type_number) rest)) (c ∷ cs)) (sym (scalar_forms p.types fine x.type_number k.0 k.1)) (t k.0 k.1, f))
    receive_one fs tags Place x (At a) rest cs t fine_one f = (cs, refl, f)
    receive_one fs tags OfRecord x (Tagged a s) rest cs t fine_one f = (cs, refl, f)
    receive_one fs tags OfOpen x (Sized a n) rest cs t fine_one f = (cs, refl, f)
    receive_one fs tags _ x _ rest cs t fine_one f = absurd t

    -- a scalar value parameter has one cell
    has_cell : (m : Mode) (v : Bool) (kind : TypeKind) → mode_fits m v kind ≡ true → (not (is_value m) || is_some (scalar_form kind)) ≡ true
    has_cell OfValue false kind h = h
    has_cell OfValue true kind h = no h
    has_cell Place v kind h = refl
    has_cell OfRecord v kind h = refl
    has_cell OfOpen v kind h = refl

    pub receive_all : (fs : List (List Form)) (tags : List ℕ) (xs : List Formal) (hs : List Handed) → AllTaken fs tags xs hs → all (formal_legal p.types) xs ≡ true → (cs : List Cell) × (received xs hs ≡ Some cs) × FitAll tags (joined (forms p.types) (map (λ x. x.type_number) (filter (λ x. is_value x.mode) xs))) cs
    receive_all fs tags [] [] t h = ([], refl, tt)
    receive_all fs tags (x ∷ xs) (h ∷ hs) t ok =
        let parts = and_of (formal_legal p.types x) (all (formal_legal p.types) xs) ok in
        let rest = receive_all fs tags xs hs t.1 parts.1 in
        let one = receive_one fs tags x.mode x h (filter (λ x. is_value x.mode) xs) rest.0 t.0 (has_cell x.mode x.variable (kind_of p.types x.type_number) parts.0) rest.2 in
        (one.0, ap (λ o. receives x.mode h o) rest.1 ∙ one.1, one.2)
    receive_all fs tags [] (h ∷ hs) t ok = absurd t
    receive_all fs tags (x ∷ xs) [] t ok = absurd t

    -- calls

    -- what a call gives, where its result has a form
    abbrev pub Answers : Option Form → List ℕ → Option Cell → Type 0
    Answers None tags c = Unit {0}
    Answers (Some k) tags (Some c) = Fits p tags k c
    Answers (Some k) tags None = ⊥

    pub answers_older : (tags more : List ℕ) → Older tags more → (o : Option Form) (c : Option Cell) → Answers o tags c → Answers o more c
    answers_older tags more e None c a = tt
    answers_older tags more e (Some k) (Some c) a = fits_older p tags more e k c a
    answers_older tags more e (Some k) None a = absurd a

    abbrev pub CallsSound : Calls → Type 0
    CallsSound calls = (fs : List (List Form)) (tags : List ℕ) (g : ℕ) (hs : List Handed) → g < length p.procedures → AllTaken fs tags (procedure_of p g).formals hs → Sound p fs tags (Answers (WellFormed.form_of p (procedure_of p g).result)) (calls g hs)

    pub m_result : {fs : List (List Form)} {tags : List ℕ} {c : Act (Option Cell)} (o : Option Form) → Sound p fs tags (Answers o) c → Means p fine fs tags o (result_of c)
    m_result {fs = fs} {tags = tags} {c = c} o q = record { sound = λ k is. s_bind p (subst (λ o. Sound p fs tags (Answers o) c) is q) (λ more x e a. by more k x a) }
      where
        by : (more : List ℕ) (k : Form) (x : Option Cell) → Answers (Some k) more x → Sound p fs more (HasForm p k) (given x)
        by more k None a = absurd a
        by more k (Some d) a = s_give p d (λ most e. fits_older p more most e k d a)

    pub formal_same : (x y : Formal) → same_formal (λ a b. a == b) x y ≡ true → x ≡ y
    formal_same x y h =
        let a = and_of (same_mode x.mode y.mode) (both_or_neither x.variable y.variable && x.type_number == y.type_number) h in
        let b = and_of (both_or_neither x.variable y.variable) (x.type_number == y.type_number) a.1 in
        ap (λ m. record { mode = m; variable = x.variable; type_number = x.type_number }) (mode_same x.mode y.mode a.0)
        ∙ ap (λ v. record { mode = y.mode; variable = v; type_number = x.type_number }) (bool_same x.variable y.variable b.0)
        ∙ ap (λ k. record { mode = y.mode; variable = y.variable; type_number = k }) (eqb-true x.type_number y.type_number b.1)
      where
        bool_same : (a b : Bool) → both_or_neither a b ≡ true → a ≡ b
        bool_same true true h = refl
        bool_same false false h = refl
        bool_same true false h = no h
        bool_same false true h = no h

        mode_same : (a b : Mode) → same_mode a b ≡ true → a ≡ b
        mode_same OfValue OfValue h = refl
        mode_same Place Place h = refl
        mode_same OfRecord OfRecord h = refl
        mode_same OfOpen OfOpen h = refl
        mode_same _ _ h = no h

    pub formals_same : (xs ys : List Formal) → same_formals (λ a b. a == b) xs ys ≡ true → xs ≡ ys
    formals_same [] [] h = refl
    formals_same (x ∷ xs) (y ∷ ys) h = let a = and_of (same_formal (λ a b. a == b) x y) (same_formals (λ a b. a == b) xs ys) h in ap₂ (λ b bs. b ∷ bs) (formal_same x y a.0) (formals_same xs ys a.1)
    formals_same [] (y ∷ ys) h = no h
    formals_same (x ∷ xs) [] h = no h

    pub callable_lt : (g : ℕ) → WellFormed.callable p g ≡ true → g < length p.procedures
    callable_lt g h = lt_of p g (length p.procedures) (and_of (nat_lt g (length p.procedures)) (not (procedure_of p g).is_body) h).0

    pub of_type : (g k : ℕ) → WellFormed.is_of_type p g k ≡ true → (g < length p.procedures) × ((procedure_of p g).formals ≡ (signature_of p.types k).formals) × ((procedure_of p g).result ≡ (signature_of p.types k).result)
    of_type g k h =
        let a = and_of (WellFormed.callable p g) (same_formals (λ a b. a == b) (procedure_of p g).formals (signature_of p.types k).formals && (procedure_of p g).result == (signature_of p.types k).result) h in
        let b = and_of (same_formals (λ a b. a == b) (procedure_of p g).formals (signature_of p.types k).formals) ((procedure_of p g).result == (signature_of p.types k).result) a.1 in
        (callable_lt g a.0, formals_same (procedure_of p g).formals (signature_of p.types k).formals b.0, eqb-true (procedure_of p g).result (signature_of p.types k).result b.1)

    module _ (calls : Calls) (sound_calls : CallsSound calls) where
      abbrev pub TakenBy : List (List Form) → List Formal → List ℕ → List Handed → Type 0
      TakenBy fs xs tags hs = AllTaken fs tags xs hs

      pub s_called : {fs : List (List Form)} {tags : List ℕ} {args : Act (List Handed)} (g : ℕ) → WellFormed.callable p g ≡ true → Sound p fs tags (TakenBy fs (procedure_of p g).formals) args → Sound p fs tags (Answers (WellFormed.form_of p (procedure_of p g).result)) (called_by_number calls g args)
      s_called {fs = fs} g l q = s_bind p q (λ more hs e t. sound_calls fs more g hs (callable_lt g l) t)

      pub s_code : {fs : List (List Form)} {tags : List ℕ} (f k : ℕ) (c : Cell) → Fits p tags (Routines k) c → Sound p fs tags (λ t g. WellFormed.is_of_type p g k ≡ true) (code_in f c)
      s_code f k (Bits zero) h = s_trap p 2 f
      s_code f k (Bits (suc n)) h = absurd (omega (arith, h))
      s_code f k (Pointer o) h = absurd h
      s_code f k (Code g) h = s_give p g (λ _ _. h)

      pub s_called_value : {fs : List (List Form)} {tags : List ℕ} {x : Act Cell} {args : Act (List Handed)} (f k : ℕ) → Sound p fs tags (HasForm p (Routines k)) x → Sound p fs tags (TakenBy fs (signature_of p.types k).formals) args → Sound p fs tags (Answers (WellFormed.form_of p (signature_of p.types k).result)) (called_by_value f calls x args)
      s_called_value {fs = fs} f k q r = s_bind p q (λ t1 c e1 fit. s_bind p (s_older p e1 r) (λ t2 hs e2 taken. s_bind p (s_code f k c (fits_older p t1 t2 e2 (Routines k) c fit)) (λ t3 g e3 is. let o = of_type g k is in
          subst (λ z. Sound p fs t3 (Answers (WellFormed.form_of p z)) (calls g hs)) o.2 (sound_calls fs t3 g hs o.0 (subst (λ xs. AllTaken fs t3 xs hs) (sym o.1) (all_taken_older fs t2 t3 e3 (signature_of p.types k).formals hs taken))))))

      pub through_is : (suit : List Formal → Bool) (k : Form) → WellFormed.suits_through p suit k ≡ true → (j : ℕ) × (k ≡ Routines j) × (suit (signature_of p.types j).formals ≡ true)
      through_is suit (Routines j) h = (j, refl, h)
      through_is suit Zero h = no h
      through_is suit Truth h = no h
      through_is suit Small h = no h
      through_is suit Number h = no h
      through_is suit (ToRecord r) h = no h
      through_is suit (Exactly g) h = no h

      -- the tree

      pub global_of : (us : List Module) (m : ℕ) → slice_index_or (map (λ m. joined (forms p.types) m.variables) us) m [] ≡ joined (forms p.types) (slice_index_or us m (record { name = []; objects = []; variables = []; body = 0 })).variables
      global_of [] m = refl
      global_of (u ∷ us) zero = refl
      global_of (u ∷ us) (suc m) = global_of us m

      pub globals_are : (m : ℕ) → slice_index_or (global_forms p) (suc m) [] ≡ joined (forms p.types) (globals_of p m)
      unfolding global_forms
      globals_are m = global_of p.modules m

      pub string_of : (ts : List (List ℕ)) (k : ℕ) (xs : List ℕ) → slice_get ts k ≡ Some xs → slice_index_or (map (λ xs. repeated (suc (length xs)) (Small ∷ [])) ts) k [] ≡ repeated (suc (length xs)) (Small ∷ [])
      string_of [] k xs at = none_some xs at
      string_of (t ∷ ts) zero xs at = ap (λ t. repeated (suc (length t)) (Small ∷ [])) (some_same t xs at)
      string_of (t ∷ ts) (suc k) xs at = string_of ts k xs at

      pub strings_are : (k : ℕ) (xs : List ℕ) → slice_get (texts_of p.procedures) k ≡ Some xs → slice_index_or (string_forms p) k [] ≡ repeated (suc (length xs)) (Small ∷ [])
      unfolding string_forms
      strings_are k xs at = string_of (texts_of p.procedures) k xs at

      -- a variable behind those before it
      pub variable_at : (whole : List Form) (variables : List ℕ) (v k i : ℕ) (f : Form) → whole ≡ joined (forms p.types) variables → slice_get variables v ≡ Some k → slice_get (forms p.types k) i ≡ Some f → slice_get whole (cells_of_all p.types (take v variables) + i) ≡ Some f
      variable_at whole variables v k i f is at h = subst (λ xs. slice_get xs (cells_of_all p.types (take v variables) + i) ≡ Some f) (sym is) (subst (λ n. slice_get (joined (forms p.types) variables) (n + i) ≡ Some f) (sym (all_cells_length p.types (take v variables))) (get_joined (forms p.types) variables v k i f at h))
