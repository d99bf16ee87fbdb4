-- What the judgement keeps of shapes: types that are named are closed, and so are those of fields, variables and parameters.
use Rattle.std.proofs.Common.{◌≡◌, ℕ, zero, suc, List, [], ◌∷◌, ◌++◌, Bool, true, false, ◌&&◌, Option, Some, None, refl, sym, subst}
use Rattle.std.specs.Prelude.{slice_get, slice_set, is_some, is_none, if◌then◌else◌}
use Rattle.std.specs.Str.{bytes_eq}
use Rattle.ob_types.specs.Forms.{all}
use Rattle.ob_types.proofs.Tests.{none_some, some_same, and_of, and_from}
use Rattle.ob_syntax.specs.declared.names.Identdef.{Identdef}
use Rattle.ob_judge.specs.Judged.{Judged, Keeps, ◌>>=◌}
use Rattle.ob_judge.specs.Shapes.{Shape, Boolean, Layout}
use Rattle.ob_judge.specs.Image.{Done, Procedure}
use Rattle.ob_judge.specs.Scopes.{Object, AConstant, AType, AVariable, AStandard, AModule, OutChar, OutInt, OutString, OutLn, InChar, ReadOnly, Entry, KnownModule, Imported, TheOut, TheIn, Earlier, World, Source, no_names, spelled, place, or_else, look_up, is_visible}
use Rattle.ob_judge.specs.Standards.{names_of as entries_of}
use Rattle.ob_judge.specs.Names.{named, names_in, names_of, member, member_of_object, qualified, type_of_object, type_named}
use Rattle.ob_judge.specs.Making.{Making, with_levels, declare_last, declare_outer, without_last, offer_if}
use Rattle.ob_judge.specs.Parameters.{stand, declared}
use Rattle.judged_well.specs.Gives.{Gives}
use Rattle.judged_well.proofs.Judging.{keeps, breaks, weaken, and_then, by_some, by_rule, at_last, anything}
use Rattle.judged_modules.specs.Sound.{AllNames}
use Rattle.judged_modules.proofs.Parameters.{Plain, stand_plain}
use Rattle.one_lowering.specs.Forms.{is_type, is_closed}
use Rattle.one_lowering.proofs.Lists.{all_append}

-- a closed type
abbrev pub IsWhole : Shape → Type 0
IsWhole a = (is_type a ≡ true) × (is_closed a ≡ true)

abbrev pub IsGood : Object → Type 0
IsGood (AType a) = IsWhole a
IsGood o = Unit {0}

abbrev pub fields_closed : Layout → Bool
fields_closed l = all (λ x. is_closed x.shape) l.added

abbrev pub procedure_closed : Procedure → Bool
procedure_closed q = all (λ x. is_closed x.shape) q.formals && all is_closed q.locals

-- what is known in scope, and what is made so far
pub record FineIn (v : World) (variables : List Shape) (procedures : List Procedure) : Type 0 where
  pub names : AllNames IsGood v.levels
  pub members : (n : ℕ) (m : KnownModule) → slice_get v.modules n ≡ Some m → (q : List ℕ) (x : Entry) → m.names q ≡ Some x → IsGood x.object
  pub fields : all fields_closed v.known.records ≡ true
  pub variables_ : all is_closed variables ≡ true
  pub procedures_ : all procedure_closed procedures ≡ true

abbrev pub Fine : Making → Type 0
Fine s = FineIn s.world s.variables s.procedures

-- ---- parts, one after the other

-- all is fine then, and this holds of what is given
pub record Kept {A : Type 0} (P : A → Type 0) (r : A × Making) : Type 0 where
  pub fine : Fine r.1
  pub holds : P r.0

pub kept : {A : Type 0} (P : A → Type 0) (a : A) (s : Making) → Fine s → P a → Gives (Kept P) (Keeps (a, s))
kept P a s fine h = keeps (Kept P) (a, s) (record { fine = fine; holds = h })

abbrev pub Any : {A : Type 0} → A → Type 0
Any a = Unit {0}

pub s_next : {A B : Type 0} {P : A → Type 0} {Q : B → Type 0} {m : Judged (A × Making)} {f : A × Making → Judged (B × Making)}
    → Gives (Kept P) m → ((r : A × Making) → Fine r.1 → P r.0 → Gives (Kept Q) (f r)) → Gives (Kept Q) (m >>= f)
s_next g next = and_then g (λ r h. next r h.fine h.holds)

-- what is judged in the scope as it is
pub s_look : {A : Type 0} (P : A → Type 0) (m : Judged A) (s : Making) → Fine s → Gives P m → Gives (Kept P) (m >>= λ a. Keeps (a, s))
s_look P m s fine g = and_then g (λ a h. kept P a s fine h)

pub s_pass : {A : Type 0} (m : Judged A) (s : Making) → Fine s → Gives (Kept Any) (m >>= λ a. Keeps (a, s))
s_pass m s fine = s_look Any m s fine (anything m)

-- ---- lists

pub all_set : {A : Type 0} (test : A → Bool) (xs : List A) (n : ℕ) (y : A) → all test xs ≡ true → test y ≡ true → all test (slice_set xs n y) ≡ true
all_set test [] n y h g = refl
all_set test (x ∷ xs) zero y h g = and_from (test y) (all test xs) g (and_of (test x) (all test xs) h).1
all_set test (x ∷ xs) (suc n) y h g = let b = and_of (test x) (all test xs) h in and_from (test x) (all test (slice_set xs n y)) b.0 (all_set test xs n y b.1 g)

pub all_more : {A : Type 0} (test : A → Bool) (xs : List A) (y : A) → all test xs ≡ true → test y ≡ true → all test (xs ++ y ∷ []) ≡ true
all_more test xs y h g = all_append test xs (y ∷ []) h (and_from (test y) true g refl)

-- ---- names

names_declared : (P : Object → Type 0) (name : List ℕ) (e : Entry) (ls : List (List ℕ → Option Entry)) → P e.object → AllNames P ls → AllNames P (declare_last name e ls)
names_declared P name e [] h all = tt
names_declared P name e (l ∷ []) h all = ((λ q x at. by (bytes_eq name q) q x at), tt)
  where
    by : (b : Bool) (q : List ℕ) (x : Entry) → (if b then Some e else l q) ≡ Some x → P x.object
    by true q x at = subst (λ y. P y.object) (some_same e x at) h
    by false q x at = all.0 q x at
names_declared P name e (l ∷ k ∷ ls) h all = (all.0, names_declared P name e (k ∷ ls) h all.1)

names_outer : (P : Object → Type 0) (name : List ℕ) (e : Entry) (ls : List (List ℕ → Option Entry)) → P e.object → AllNames P ls → AllNames P (declare_outer name e ls)
names_outer P name e [] h all = tt
names_outer P name e (l ∷ []) h all = all
names_outer P name e (l ∷ k ∷ []) h all = ((λ q x at. by (bytes_eq name q) q x at), all.1)
  where
    by : (b : Bool) (q : List ℕ) (x : Entry) → (if b then Some e else l q) ≡ Some x → P x.object
    by true q x at = subst (λ y. P y.object) (some_same e x at) h
    by false q x at = all.0 q x at
names_outer P name e (l ∷ k ∷ m ∷ ls) h all = (all.0, names_outer P name e (k ∷ m ∷ ls) h all.1)

pub names_more : (P : Object → Type 0) (ls : List (List ℕ → Option Entry)) → AllNames P ls → AllNames P (ls ++ no_names ∷ [])
names_more P [] h = ((λ q x at. none_some x at), tt)
names_more P (l ∷ ls) h = (h.0, names_more P ls h.1)

pub names_fewer : (P : Object → Type 0) (ls : List (List ℕ → Option Entry)) → AllNames P ls → AllNames P (without_last ls)
names_fewer P [] h = tt
names_fewer P (l ∷ []) h = tt
names_fewer P (l ∷ k ∷ ls) h = (h.0, names_fewer P (k ∷ ls) h.1)

looked_up : (P : Object → Type 0) (q : List ℕ) (x : Entry) (ls : List (List ℕ → Option Entry)) → AllNames P ls → look_up q ls ≡ Some x → P x.object
looked_up P q x [] all h = none_some x h
looked_up P q x (l ∷ ls) all h = by (look_up q ls) (looked_up P q x ls all.1) h
  where
    by : (o : Option Entry) → (o ≡ Some x → P x.object) → or_else o (l q) ≡ Some x → P x.object
    by (Some y) inner h = inner h
    by None inner h = all.0 q x h

abbrev AllObjects : (Object → Type 0) → List (List ℕ × Object) → Type 0
AllObjects P [] = Unit {0}
AllObjects P (x ∷ xs) = P x.1 × AllObjects P xs

of_entries : (P : Object → Type 0) (xs : List (List ℕ × Object)) → AllObjects P xs → (q : List ℕ) (x : Entry) → entries_of xs q ≡ Some x → P x.object
of_entries P [] all q x is = none_some x is
of_entries P (y ∷ ys) all q x is = by (of_entries P ys all.1 q x) (bytes_eq y.0 q) is
  where
    by : (entries_of ys q ≡ Some x → P x.object) → (b : Bool) → (if b then Some (record { object = y.1; exported = true }) else entries_of ys q) ≡ Some x → P x.object
    by rest true is = subst (λ z. P z.object) (some_same (record { object = y.1; exported = true }) x is) all.0
    by rest false is = rest is

-- ---- changes of what is made

pub fine_levels : (f : List (List ℕ → Option Entry) → List (List ℕ → Option Entry)) (s : Making) → AllNames IsGood (f s.world.levels) → Fine s → Fine (with_levels f s)
fine_levels f s names h = record { names = names; members = h.members; fields = h.fields; variables_ = h.variables_; procedures_ = h.procedures_ }

pub fine_declared : (name : List ℕ) (e : Entry) (s : Making) → IsGood e.object → Fine s → Fine (with_levels (declare_last name e) s)
fine_declared name e s good h = fine_levels (declare_last name e) s (names_declared IsGood name e s.world.levels good h.names) h

pub fine_outer : (name : List ℕ) (e : Entry) (s : Making) → IsGood e.object → Fine s → Fine (with_levels (declare_outer name e) s)
fine_outer name e s good h = fine_levels (declare_outer name e) s (names_outer IsGood name e s.world.levels good h.names) h

pub fine_offered : (b : Bool) (name : List ℕ) (e : Entry) (s : Making) → Fine s → Fine (offer_if b name e s)
fine_offered true name e s h = h
fine_offered false name e s h = h

pub fine_plain : (s t : Making) → Plain s t → Fine s → Fine t
fine_plain s t h fine = subst (λ v. FineIn v t.variables t.procedures) (sym h.world) (subst (λ vs. FineIn s.world vs t.procedures) (sym h.variables) (subst (λ qs. FineIn s.world s.variables qs) (sym h.procedures) fine))

module _ (p : Source) where
  pub s_stand : (xs : List ℕ) (s : Making) → Fine s → Gives (Kept Any) (stand p xs s)
  s_stand xs s fine = weaken (stand_plain p xs s) (λ r h. record { fine = fine_plain s r.1 h fine; holds = tt })

  pub s_declared : (x : Identdef) (o : Object) (s : Making) → IsGood o → Fine s → Gives (Kept Any) (declared p x o s)
  s_declared x o s good fine =
      let e : Entry = record { object = o; exported = is_some x.star } in
      let u = with_levels (declare_last (spelled p x.name) e) s in
      kept Any tt (offer_if (is_none s.world.procedure) (spelled p x.name) e u) (fine_offered (is_none s.world.procedure) (spelled p x.name) e u (fine_declared (spelled p x.name) e s good fine)) tt

  -- ---- types that are named

  module _ (s : Making) (fine : Fine s) where
    known_member : (m : Imported) (q : List ℕ) (x : Entry) → names_of p s.world m q ≡ Some x → IsGood x.object
    known_member TheOut q x is = of_entries IsGood (
        (67 ∷ 104 ∷ 97 ∷ 114 ∷ [], AStandard OutChar) ∷
        (73 ∷ 110 ∷ 116 ∷ [], AStandard OutInt) ∷
        (83 ∷ 116 ∷ 114 ∷ 105 ∷ 110 ∷ 103 ∷ [], AStandard OutString) ∷
        (76 ∷ 110 ∷ [], AStandard OutLn) ∷
        []) (tt, (tt, (tt, (tt, tt)))) q x is
    known_member TheIn q x is = of_entries IsGood (
        (67 ∷ 104 ∷ 97 ∷ 114 ∷ [], AStandard InChar) ∷
        (68 ∷ 111 ∷ 110 ∷ 101 ∷ [], AVariable (record { shape = Boolean; place = Done; home = ReadOnly; owner = 0; procedure = None })) ∷
        []) (tt, (tt, tt)) q x is
    known_member (Earlier n) q x is = by (slice_get s.world.modules n) refl is
      where
        by : (o : Option KnownModule) → slice_get s.world.modules n ≡ o → names_in o q ≡ Some x → IsGood x.object
        by None i h = none_some x h
        by (Some m) i h = fine.members n m i q x h

    k_named : (i : ℕ) → Gives IsGood (named p s.world i)
    k_named i = by_some 30 (place p i) (look_up (spelled p i) s.world.levels) (λ x is.
        by_rule 34 (place p i) (is_visible s.world.procedure x.object) (λ seen. keeps IsGood x.object (looked_up IsGood (spelled p i) x s.world.levels fine.names is)))

    k_member : (m : Imported) (i : ℕ) → Gives IsGood (member p s.world m i)
    k_member m i = by_some 30 (place p i) (names_of p s.world m (spelled p i)) (λ x is.
        by_rule 34 (place p i) x.exported (λ seen. keeps IsGood x.object (known_member m (spelled p i) x is)))

    k_member_of : (name i : ℕ) (o : Object) → Gives IsGood (member_of_object p s.world name i o)
    k_member_of name i (AModule m) = k_member m i
    k_member_of name i (AConstant c) = breaks IsGood 31 (place p name)
    k_member_of name i _ = breaks IsGood 31 (place p name)

    k_qualified : (name : ℕ) (i : Option ℕ) → Gives IsGood (qualified p s.world name i)
    k_qualified name None = k_named name
    k_qualified name (Some i) = and_then (k_named name) (λ o h. k_member_of name i o)

    type_of : (o : Object) → IsGood o → (a : Shape) → type_of_object o ≡ Some a → IsWhole a
    type_of (AType u) h a is = subst IsWhole (some_same u a is) h
    type_of (AConstant c) h a is = none_some a is
    type_of _ h a is = none_some a is

    pub known_type : (number name : ℕ) (i : Option ℕ) → Gives IsWhole (type_named p s.world number name i)
    known_type number name i = and_then (k_qualified name i) (λ o h. at_last number (place p name) (type_of_object o) (λ a is. type_of o h a is))
