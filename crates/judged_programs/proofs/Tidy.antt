-- What each part of the judgement keeps, whatever the whole program is: the types that are named are known, record types
-- are completed one after the other, variables are of types that variables may have.
use Rattle.std.proofs.Common.{◌≡◌, ℕ, List, [], ◌∷◌, length, Bool, true, false, Option, Some, None, refl, ap, sym, ◌∙◌, subst, arith}
use Rattle.std.specs.Prelude.{slice_get, is_some, is_none, if◌then◌else◌}
use Rattle.std.specs.Str.{bytes_eq}
use Rattle.ob_types.proofs.Tests.{none_some, some_same}
use Rattle.ob_syntax.specs.declared.names.Identdef.{Identdef}
use Rattle.ob_judge.specs.Judged.{Judged, Keeps, Breaks, ◌>>=◌}
use Rattle.ob_judge.specs.Shapes.{Shape, Boolean, Layout}
use Rattle.ob_judge.specs.Image.{Done}
use Rattle.ob_judge.specs.Scopes.{Object, AConstant, AType, AVariable, AStandard, AModule, OutChar, OutInt, OutString, OutLn, InChar, ReadOnly, Entry, KnownModule, Imported, TheOut, TheIn, Earlier, Source, spelled, place, or_else, look_up, is_visible}
use Rattle.ob_judge.specs.Standards.{names_of as entries_of}
use Rattle.ob_judge.specs.Names.{named, names_in, names_of, member, member_of_object, qualified, type_of_object, type_named}
use Rattle.ob_judge.specs.Making.{Making, with_levels, declare_last, last_names, offer_if}
use Rattle.ob_judge.specs.Parameters.{stand, declared}
use Rattle.judged_well.specs.Gives.{Gives}
use Rattle.judged_well.proofs.Judging.{keeps, breaks, weaken, and_then, by_some, by_rule, at_last, gives_both}
use Rattle.judged_modules.specs.Agrees.{records_of}
use Rattle.judged_modules.specs.Sound.{AllNames}
use Rattle.judged_modules.proofs.Growing.{Grows, untouched, self, onward}
use Rattle.judged_modules.proofs.DeclarationsGrow.{i_declared}
use Rattle.judged_modules.proofs.Parameters.{Plain, stand_plain}
use Rattle.judged_programs.specs.Complete.{IsKnown, CompleteStay}
use Rattle.judged_programs.proofs.Cores.{known_later}
use Rattle.judged_programs.specs.Tidy.{IsKnownObject, IsNested, IsOfModule, Tidy, TidyIn}

-- ---- parts, one after the other

-- from a state on, where this holds: it only adds, in as many scopes; what is tidy stays so, and gives what has this
pub record Stays {A : Type 0} (from : ℕ) (Before : Type 0) (Q : A → Making → Type 0) (s : Making) (r : A × Making) : Type 0 where
  pub grown : Grows s r.1
  pub depth : length (r.1).world.levels ≡ length s.world.levels
  pub tidy : Before → Tidy from s → Tidy from r.1 × Q r.0 r.1

-- nothing is claimed of it
abbrev pub Any : {A : Type 0} → A → Making → Type 0
Any a t = Unit {0}

-- from a state on, with no premise
abbrev pub Through : ℕ → Making → Unit {0} × Making → Type 0
Through from s r = Stays from (Unit {0}) Any s r

pub s_next : {A B : Type 0} {from : ℕ} {Before : Type 0} {P : A → Making → Type 0} {Q : B → Making → Type 0} {s : Making} {m : Judged (A × Making)} {f : A × Making → Judged (B × Making)}
    → Gives (Stays from Before P s) m → ((r : A × Making) → Gives (Stays from (Before × P r.0 r.1 × Grows s r.1) Q r.1) (f r)) → Gives (Stays from Before Q s) (m >>= f)
s_next {s = s} g next = and_then g (λ r h. weaken (next r) (λ q k. record {
  grown = onward s r.1 q.1 h.grown k.grown;
  depth = k.depth ∙ h.depth;
  tidy = λ before tidy. let a = h.tidy before tidy in k.tidy (before, a.1, h.grown) a.0;
}))

-- what is judged in the scope as it is
pub s_look : {A : Type 0} {from : ℕ} {Before : Type 0} (Q : A → Making → Type 0) (m : Judged A) (s : Making) → (Before → Tidy from s → Gives (λ a. Q a s) m) → Gives (Stays from Before Q s) (m >>= λ a. Keeps (a, s))
s_look Q (Keeps a) s next = keeps (Stays _ _ Q s) (a, s) (record { grown = self s; depth = refl; tidy = λ before tidy. (tidy, (next before tidy).holds) })
s_look Q (Breaks n at) s next = breaks (Stays _ _ Q s) n at

pub s_pass : {A : Type 0} {from : ℕ} {Before : Type 0} (m : Judged A) (s : Making) → Gives (Stays from Before Any s) (m >>= λ a. Keeps (a, s))
s_pass (Keeps a) s = keeps (Stays _ _ Any s) (a, s) (record { grown = self s; depth = refl; tidy = λ before tidy. (tidy, tt) })
s_pass (Breaks n at) s = breaks (Stays _ _ Any s) n at

pub s_give : {A : Type 0} {from : ℕ} {Before : Type 0} (Q : A → Making → Type 0) (a : A) (s : Making) → (Before → Tidy from s → Q a s) → Gives (Stays from Before Q s) (Keeps (a, s))
s_give Q a s h = keeps (Stays _ _ Q s) (a, s) (record { grown = self s; depth = refl; tidy = λ before tidy. (tidy, h before tidy) })

-- with other premises, and other claims
pub s_with : {A : Type 0} {from : ℕ} {Before After : Type 0} {P Q : A → Making → Type 0} {s : Making} {m : Judged (A × Making)} → Gives (Stays from After P s) m → (Before → After) → ((a : A) (t : Making) → Before → P a t → Q a t) → Gives (Stays from Before Q s) m
s_with g f h = weaken g (λ r k. record { grown = k.grown; depth = k.depth; tidy = λ before tidy. let a = k.tidy (f before) tidy in (a.0, h r.0 r.1 before a.1) })

-- from a state on that is as tidy
pub s_from : {A : Type 0} {from : ℕ} {Before : Type 0} {Q : A → Making → Type 0} {m : Judged (A × Making)} (s u : Making) → Grows s u → length u.world.levels ≡ length s.world.levels → (Before → Tidy from s → Tidy from u) → Gives (Stays from Before Q u) m → Gives (Stays from Before Q s) m
s_from s u g d h k = weaken k (λ q j. record { grown = onward s u q.1 g j.grown; depth = j.depth ∙ d; tidy = λ before tidy. j.tidy before (h before tidy) })

-- ---- names

pub object_later : (records more : List Layout) → CompleteStay records more → (o : Object) → IsKnownObject records o → IsKnownObject more o
object_later records more later (AType a) h = known_later records more later a h
object_later records more later _ h = tt

pub names_later : (records more : List Layout) → CompleteStay records more → (ls : List (List ℕ → Option Entry)) → AllNames (IsKnownObject records) ls → AllNames (IsKnownObject more) ls
names_later records more later [] h = tt
names_later records more later (l ∷ ls) h = ((λ q x at. object_later records more later x.object (h.0 q x at)), names_later records more later ls h.1)

names_declared : (P : Object → Type 0) (name : List ℕ) (e : Entry) (ls : List (List ℕ → Option Entry)) → P e.object → AllNames P ls → AllNames P (declare_last name e ls)
names_declared P name e [] h all = tt
names_declared P name e (l ∷ []) h all = ((λ q x at. by (bytes_eq name q) q x at), tt)
  where
    by : (b : Bool) (q : List ℕ) (x : Entry) → (if b then Some e else l q) ≡ Some x → P x.object
    by true q x at = subst (λ y. P y.object) (some_same e x at) h
    by false q x at = all.0 q x at
names_declared P name e (l ∷ k ∷ ls) h all = (all.0, names_declared P name e (k ∷ ls) h all.1)

pub depth_declared : (name : List ℕ) (e : Entry) (ls : List (List ℕ → Option Entry)) → length (declare_last name e ls) ≡ length ls
depth_declared name e [] = refl
depth_declared name e (l ∷ []) = refl
depth_declared name e (l ∷ k ∷ ls) = let h = depth_declared name e (k ∷ ls) in omega (arith, h)

-- in a module itself, a variable of the module
abbrev pub IsPlaced : Option ℕ → ℕ → Object → Type 0
IsPlaced o n x = o ≡ None → IsOfModule n x

nested_declared : (name : List ℕ) (e : Entry) (ls : List (List ℕ → Option Entry)) (o : Option ℕ) (n : ℕ) → IsPlaced o n e.object → IsNested ls o n → IsNested (declare_last name e ls) o n
nested_declared name e [] o n placed h = absurd h
nested_declared name e (l ∷ []) o n placed h = absurd h
nested_declared name e (l ∷ k ∷ []) o n placed h = (h.0, λ q x at. by (bytes_eq name q) q x at)
  where
    by : (b : Bool) (q : List ℕ) (x : Entry) → (if b then Some e else k q) ≡ Some x → IsOfModule n x.object
    by true q x at = subst (λ y. IsOfModule n y.object) (some_same e x at) (placed h.0)
    by false q x at = h.1 q x at
nested_declared name e (l ∷ k ∷ m ∷ []) o n placed h = h
nested_declared name e (l ∷ k ∷ m ∷ j ∷ ls) o n placed h = h

pub tidy_declared : (from : ℕ) (s : Making) (name : List ℕ) (e : Entry) → IsKnownObject (records_of s) e.object → IsPlaced s.world.procedure s.world.module_number e.object → Tidy from s → Tidy from (with_levels (declare_last name e) s)
tidy_declared from s name e known placed h = record {
  nested = nested_declared name e s.world.levels s.world.procedure s.world.module_number placed h.nested;
  names = names_declared (IsKnownObject (records_of s)) name e s.world.levels known h.names;
  members = h.members;
  lines = h.lines;
  ranked = h.ranked;
  targets = h.targets;
  whole = h.whole;
  legal = h.legal;
  no_body = h.no_body;
}

looked_up : (P : Object → Type 0) (q : List ℕ) (x : Entry) (ls : List (List ℕ → Option Entry)) → AllNames P ls → look_up q ls ≡ Some x → P x.object
looked_up P q x [] all h = none_some x h
looked_up P q x (l ∷ ls) all h = by (look_up q ls) (looked_up P q x ls all.1) h
  where
    by : (o : Option Entry) → (o ≡ Some x → P x.object) → or_else o (l q) ≡ Some x → P x.object
    by (Some y) inner h = inner h
    by None inner h = all.0 q x h

pub last_of : (P : Object → Type 0) (ls : List (List ℕ → Option Entry)) → AllNames P ls → (q : List ℕ) (x : Entry) → last_names ls q ≡ Some x → P x.object
last_of P [] all q x is = none_some x is
last_of P (l ∷ []) all q x is = all.0 q x is
last_of P (l ∷ k ∷ ls) all q x is = last_of P (k ∷ ls) all.1 q x is

-- what holds of these names' objects
abbrev AllObjects : (Object → Type 0) → List (List ℕ × Object) → Type 0
AllObjects P [] = Unit {0}
AllObjects P (x ∷ xs) = P x.1 × AllObjects P xs

of_entries : (P : Object → Type 0) (xs : List (List ℕ × Object)) → AllObjects P xs → (q : List ℕ) (x : Entry) → entries_of xs q ≡ Some x → P x.object
of_entries P [] all q x is = none_some x is
of_entries P (y ∷ ys) all q x is = by (of_entries P ys all.1 q x) (bytes_eq y.0 q) is
  where
    by : (entries_of ys q ≡ Some x → P x.object) → (b : Bool) → (if b then Some (record { object = y.1; exported = true }) else entries_of ys q) ≡ Some x → P x.object
    by rest true is = subst (λ z. P z.object) (some_same (record { object = y.1; exported = true }) x is) all.0
    by rest false is = rest is

module _ (p : Source) (from : ℕ) (s : Making) (tidy : Tidy from s) where
  abbrev Known : Object → Type 0
  Known = IsKnownObject (records_of s)

  known_member : (m : Imported) (q : List ℕ) (x : Entry) → names_of p s.world m q ≡ Some x → Known x.object
  known_member TheOut q x is = of_entries Known (
      (67 ∷ 104 ∷ 97 ∷ 114 ∷ [], AStandard OutChar) ∷
      (73 ∷ 110 ∷ 116 ∷ [], AStandard OutInt) ∷
      (83 ∷ 116 ∷ 114 ∷ 105 ∷ 110 ∷ 103 ∷ [], AStandard OutString) ∷
      (76 ∷ 110 ∷ [], AStandard OutLn) ∷
      []) (tt, (tt, (tt, (tt, tt)))) q x is
  known_member TheIn q x is = of_entries Known (
      (67 ∷ 104 ∷ 97 ∷ 114 ∷ [], AStandard InChar) ∷
      (68 ∷ 111 ∷ 110 ∷ 101 ∷ [], AVariable (record { shape = Boolean; place = Done; home = ReadOnly; owner = 0; procedure = None })) ∷
      []) (tt, (tt, tt)) q x is
  known_member (Earlier n) q x is = by (slice_get s.world.modules n) refl is
    where
      by : (o : Option KnownModule) → slice_get s.world.modules n ≡ o → names_in o q ≡ Some x → Known x.object
      by None i h = none_some x h
      by (Some m) i h = tidy.members n m i q x h

  k_named : (i : ℕ) → Gives Known (named p s.world i)
  k_named i = by_some 30 (place p i) (look_up (spelled p i) s.world.levels) (λ x is.
      by_rule 34 (place p i) (is_visible s.world.procedure x.object) (λ seen. keeps Known x.object (looked_up Known (spelled p i) x s.world.levels tidy.names is)))

  k_member : (m : Imported) (i : ℕ) → Gives Known (member p s.world m i)
  k_member m i = by_some 30 (place p i) (names_of p s.world m (spelled p i)) (λ x is.
      by_rule 34 (place p i) x.exported (λ seen. keeps Known x.object (known_member m (spelled p i) x is)))

  k_member_of : (name i : ℕ) (o : Object) → Gives Known (member_of_object p s.world name i o)
  k_member_of name i (AModule m) = k_member m i
  k_member_of name i (AConstant c) = breaks Known 31 (place p name)
  k_member_of name i _ = breaks Known 31 (place p name)

  k_qualified : (name : ℕ) (i : Option ℕ) → Gives Known (qualified p s.world name i)
  k_qualified name None = k_named name
  k_qualified name (Some i) = and_then (k_named name) (λ o h. k_member_of name i o)

  type_of : (o : Object) → Known o → (a : Shape) → type_of_object o ≡ Some a → IsKnown (records_of s) a
  type_of (AType u) h a is = subst (IsKnown (records_of s)) (some_same u a is) h
  type_of (AConstant c) h a is = none_some a is
  type_of _ h a is = none_some a is

  -- a type that is named is known
  pub known_type : (number name : ℕ) (i : Option ℕ) → Gives (IsKnown (records_of s)) (type_named p s.world number name i)
  known_type number name i = and_then (k_qualified name i) (λ o h. at_last number (place p name) (type_of_object o) (λ a is. type_of o h a is))

-- ---- names that stand, and names that are declared

pub tidy_plain : (from : ℕ) (s t : Making) → Plain s t → Tidy from s → Tidy from t
tidy_plain from s t h tidy = subst (λ v. TidyIn from v t.variables t.procedures) (sym h.world) (subst (λ vs. TidyIn from s.world vs t.procedures) (sym h.variables) (subst (λ qs. TidyIn from s.world s.variables qs) (sym h.procedures) tidy))

pub plain_grows : (s t : Making) → Plain s t → Grows s t
plain_grows s t h = untouched s t (ap (λ v. v.known.records) h.world) (ap (λ v. v.known.bases) h.world) h.procedures h.variables h.values (ap (λ v. v.procedure) h.world) (ap (λ v. v.module_number) h.world)

pub offer_same : (b : Bool) (name : List ℕ) (e : Entry) (s : Making) → (offer_if b name e s).world ≡ s.world
offer_same true name e s = refl
offer_same false name e s = refl

pub tidy_offered : (from : ℕ) (b : Bool) (name : List ℕ) (e : Entry) (s : Making) → Tidy from s → Tidy from (offer_if b name e s)
tidy_offered from true name e s h = h
tidy_offered from false name e s h = h

module _ (p : Source) where
  pub s_stand : {from : ℕ} {Before : Type 0} (xs : List ℕ) (s : Making) → Gives (Stays from Before Any s) (stand p xs s)
  s_stand xs s = weaken (stand_plain p xs s) (λ r h. record { grown = plain_grows s r.1 h; depth = ap (λ v. length v.levels) h.world; tidy = λ before tidy. (tidy_plain _ s r.1 h tidy, tt) })

  pub s_declared : {from : ℕ} {Before : Type 0} (x : Identdef) (o : Object) (s : Making) → (Before → IsKnownObject (records_of s) o) → (Before → IsPlaced s.world.procedure s.world.module_number o) → Gives (Stays from Before Any s) (declared p x o s)
  s_declared x o s known placed =
      let e : Entry = record { object = o; exported = is_some x.star } in
      let u = with_levels (declare_last (spelled p x.name) e) s in
      let t = offer_if (is_none s.world.procedure) (spelled p x.name) e u in
      weaken (gives_both (i_declared p x o s) (keeps (λ (r : Unit {0} × Making). r.1 ≡ t) (tt, t) refl)) (λ r h. record {
        grown = (h.0).grown;
        depth = ap (λ v. length v.world.levels) h.1 ∙ ap (λ v. length v.levels) (offer_same (is_none s.world.procedure) (spelled p x.name) e u) ∙ depth_declared (spelled p x.name) e s.world.levels;
        tidy = λ before tidy. (subst (Tidy _) (sym h.1) (tidy_offered _ (is_none s.world.procedure) (spelled p x.name) e u (tidy_declared _ s (spelled p x.name) e (known before) (placed before) tidy)), tt);
      })
