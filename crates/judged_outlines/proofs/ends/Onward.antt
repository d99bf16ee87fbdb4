-- What parts of the judgement do to pointer types and to constants that names stand for.
use Rattle.std.proofs.Common.{◌≡◌, ℕ, zero, suc, List, [], ◌∷◌, ◌++◌, length, Bool, true, false, Option, Some, None, refl, sym, ap, ◌∙◌, subst, ◌⊎◌, inl, inr}
use Rattle.std.specs.Prelude.{slice_get, slice_set, if◌then◌else◌}
use Rattle.std.specs.Str.{bytes_eq}
use Rattle.ob_types.proofs.Tests.{no, none_some, some_same}
use Rattle.ob_judge.specs.Judged.{Judged, Keeps, Breaks, ◌>>=◌}
use Rattle.ob_judge.specs.Image.{Declared}
use Rattle.ob_judge.specs.Scopes.{Object, AConstant, AType, AVariable, AProcedure, AStandard, AModule, Entry, KnownModule, World, no_names, look_up, or_else}
use Rattle.ob_judge.specs.Making.{Making, declare_last, declare_outer, without_last, last_names, declared_as, entity_of, offer_if}
use Rattle.judged_well.specs.Gives.{Gives}
use Rattle.judged_well.proofs.Judging.{keeps, breaks, weaken, and_then}
use Rattle.judged_modules.specs.Agrees.{bases_of}
use Rattle.judged_modules.specs.Lists.{Each}
use Rattle.judged_modules.specs.Sound.{AllNames}
use Rattle.judged_outlines.specs.ends.Ends.{ObjectInRange, NamesInRange, EntityInRange, OffersInRange}

-- ---- names

of_declared : (P : Object → Type 0) (name : List ℕ) (e : Entry) (l : List ℕ → Option Entry) → P e.object → ((q : List ℕ) (x : Entry) → l q ≡ Some x → P x.object)
    → (q : List ℕ) (x : Entry) → (if bytes_eq name q then Some e else l q) ≡ Some x → P x.object
of_declared P name e l h all q x at = by (bytes_eq name q) at
  where
    by : (b : Bool) → (if b then Some e else l q) ≡ Some x → P x.object
    by true at = subst (λ y. P y.object) (some_same e x at) h
    by false at = all q x at

pub names_last : (P : Object → Type 0) (name : List ℕ) (e : Entry) (ls : List (List ℕ → Option Entry)) → P e.object → AllNames P ls → AllNames P (declare_last name e ls)
names_last P name e [] h all = tt
names_last P name e (l ∷ []) h all = (of_declared P name e l h all.0, tt)
names_last P name e (l ∷ k ∷ ls) h all = (all.0, names_last P name e (k ∷ ls) h all.1)

pub names_outer : (P : Object → Type 0) (name : List ℕ) (e : Entry) (ls : List (List ℕ → Option Entry)) → P e.object → AllNames P ls → AllNames P (declare_outer name e ls)
names_outer P name e [] h all = tt
names_outer P name e (l ∷ []) h all = all
names_outer P name e (l ∷ k ∷ []) h all = (of_declared P name e l h all.0, all.1)
names_outer P name e (l ∷ k ∷ m ∷ ls) h all = (all.0, names_outer P name e (k ∷ m ∷ ls) h all.1)

pub names_more : (P : Object → Type 0) (ls : List (List ℕ → Option Entry)) → AllNames P ls → AllNames P (ls ++ no_names ∷ [])
names_more P [] h = ((λ q x at. none_some x at), tt)
names_more P (l ∷ ls) h = (h.0, names_more P ls h.1)

pub names_fewer : (P : Object → Type 0) (ls : List (List ℕ → Option Entry)) → AllNames P ls → AllNames P (without_last ls)
names_fewer P [] h = tt
names_fewer P (l ∷ []) h = tt
names_fewer P (l ∷ k ∷ ls) h = (h.0, names_fewer P (k ∷ ls) h.1)

pub looked_up : (P : Object → Type 0) (q : List ℕ) (x : Entry) (ls : List (List ℕ → Option Entry)) → AllNames P ls → look_up q ls ≡ Some x → P x.object
looked_up P q x [] all h = none_some x h
looked_up P q x (l ∷ ls) all h = by (look_up q ls) (looked_up P q x ls all.1) h
  where
    by : (o : Option Entry) → (o ≡ Some x → P x.object) → or_else o (l q) ≡ Some x → P x.object
    by (Some y) inner h = inner h
    by None inner h = all.0 q x h

pub last_in : (P : Object → Type 0) (ls : List (List ℕ → Option Entry)) → AllNames P ls → (q : List ℕ) (x : Entry) → last_names ls q ≡ Some x → P x.object
last_in P [] all q x h = none_some x h
last_in P (l ∷ []) all q x h = all.0 q x h
last_in P (l ∷ k ∷ ls) all q x h = last_in P (k ∷ ls) all.1 q x h

-- ---- what is offered

each_append : {A : Type 0} (P : A → Type 0) (xs ys : List A) → Each P xs → Each P ys → Each P (xs ++ ys)
each_append P [] ys h k = k
each_append P (x ∷ xs) ys h k = (h.0, each_append P xs ys h.1 k)

as_declared : (name : List ℕ) (b : Bool) (o : Object) → ObjectInRange o → OffersInRange (declared_as name b (entity_of o))
as_declared name b (AConstant c) h = (h, tt)
as_declared name b (AType s) h = (tt, tt)
as_declared name b (AVariable v) h = (tt, tt)
as_declared name b (AProcedure n s l) h = (tt, tt)
as_declared name b (AStandard s) h = tt
as_declared name b (AModule m) h = tt

pub offered : (b : Bool) (name : List ℕ) (e : Entry) (s : Making) → ObjectInRange e.object → OffersInRange s.objects → OffersInRange (offer_if b name e s).objects
offered true name e s h all = each_append (λ (d : Declared). EntityInRange d.entity) s.objects (declared_as name e.exported (entity_of e.object)) all (as_declared name e.exported e.object h)
offered false name e s h all = all

-- ---- pointer types

-- the base of this one is declared later
abbrev pub Waits : ℕ → List (ℕ × ℕ) → Type 0
Waits n [] = ⊥
Waits n (k ∷ ks) = (k.0 ≡ n) ⊎ Waits n ks

abbrev pub Unset : List (Option ℕ) → ℕ → Type 0
Unset bs n = slice_get bs n ≡ Some None

pub set_unset : (bs : List (Option ℕ)) (n r m : ℕ) → Unset (slice_set bs n (Some r)) m → Unset bs m × (m ≡ n → ⊥)
set_unset [] n r m h = none_some None h
set_unset (b ∷ bs) zero r zero h = absurd (let z = some_same (Some r) None h in cc)
set_unset (b ∷ bs) zero r (suc m) h = (h, λ e. absurd (let z = e in cc))
set_unset (b ∷ bs) (suc n) r zero h = (h, λ e. absurd (let z = e in cc))
set_unset (b ∷ bs) (suc n) r (suc m) h = let k = set_unset bs n r m h in (k.0, λ e. k.1 (suc_same m n e))
  where
    suc_same : (a c : ℕ) → suc a ≡ suc c → a ≡ c
    suc_same a c e = cc

pub more_unset : (bs : List (Option ℕ)) (m : ℕ) → Unset (bs ++ None ∷ []) m → Unset bs m ⊎ (m ≡ length bs)
more_unset [] zero h = inr refl
more_unset [] (suc m) h = none_some None h
more_unset (b ∷ bs) zero h = inl h
more_unset (b ∷ bs) (suc m) h = elim (more_unset bs m h) as (λ _. Unset (b ∷ bs) (suc m) ⊎ (suc m ≡ length (b ∷ bs))) [ inl k ↦ inl k | inr e ↦ inr (ap suc e) ]

pub waits_more : (n : ℕ) (ks : List (ℕ × ℕ)) (k : ℕ × ℕ) → Waits n ks → Waits n (ks ++ k ∷ [])
waits_more n [] k h = absurd h
waits_more n (x ∷ ks) k (inl e) = inl e
waits_more n (x ∷ ks) k (inr h) = inr (waits_more n ks k h)

pub waits_last : (n name : ℕ) (ks : List (ℕ × ℕ)) → Waits n (ks ++ (n, name) ∷ [])
waits_last n name [] = inl refl
waits_last n name (x ∷ ks) = inr (waits_last n name ks)

-- ---- parts

-- constants that names stand for are in range
pub record HasRanges (w : World) : Type 0 where
  pub names : AllNames ObjectInRange w.levels
  pub members : (n : ℕ) (m : KnownModule) → slice_get w.modules n ≡ Some m → NamesInRange m.names

-- a part of a declaration: pointer types that aren't set wait for their bases, and constants stay in range
pub record Onward (s t : Making) : Type 0 where
  pub modules : t.world.modules ≡ s.world.modules
  pub part : t.is_type_part ≡ s.is_type_part
  pub waiting : (n : ℕ) → Waits n s.forward → Waits n t.forward
  pub unset : (n : ℕ) → Unset (bases_of t) n → Unset (bases_of s) n ⊎ ((s.is_type_part ≡ true) × Waits n t.forward)
  pub names : HasRanges s.world → AllNames ObjectInRange t.world.levels
  pub objects : HasRanges s.world → OffersInRange s.objects → OffersInRange t.objects

pub ranges_on : (s t : Making) → t.world.modules ≡ s.world.modules → (HasRanges s.world → AllNames ObjectInRange t.world.levels) → HasRanges s.world → HasRanges t.world
ranges_on s t same names r = record { names = names r; members = λ n m at. r.members n m (sym (ap (λ ms. slice_get ms n) same) ∙ at) }

pub onward_on : (s t u : Making) → Onward s t → Onward t u → Onward s u
onward_on s t u g h = record {
  modules = h.modules ∙ g.modules;
  part = h.part ∙ g.part;
  waiting = λ n w. h.waiting n (g.waiting n w);
  unset = λ n x. elim (h.unset n x) as (λ _. Unset (bases_of s) n ⊎ ((s.is_type_part ≡ true) × Waits n u.forward)) [
    | inl y ↦ elim (g.unset n y) as (λ _. Unset (bases_of s) n ⊎ ((s.is_type_part ≡ true) × Waits n u.forward)) [ inl z ↦ inl z | inr z ↦ inr (z.0, h.waiting n z.1) ]
    | inr y ↦ inr (sym g.part ∙ y.0, y.1)
  ];
  names = λ r. h.names (ranges_on s t g.modules g.names r);
  objects = λ r os. h.objects (ranges_on s t g.modules g.names r) (g.objects r os);
}

-- one that leaves pointer types as they were
pub calm : (s t : Making) → t.world.modules ≡ s.world.modules → t.is_type_part ≡ s.is_type_part → t.forward ≡ s.forward → bases_of t ≡ bases_of s → (HasRanges s.world → AllNames ObjectInRange t.world.levels)
    → (HasRanges s.world → OffersInRange s.objects → OffersInRange t.objects) → Onward s t
calm s t a b c d e f = record {
  modules = a;
  part = b;
  waiting = λ n h. subst (Waits n) (sym c) h;
  unset = λ n h. inl (sym (ap (λ xs. slice_get xs n) d) ∙ h);
  names = e;
  objects = f;
}

-- and names
pub quiet : (s t : Making) → t.world.modules ≡ s.world.modules → t.is_type_part ≡ s.is_type_part → t.forward ≡ s.forward → bases_of t ≡ bases_of s → t.world.levels ≡ s.world.levels → t.objects ≡ s.objects → Onward s t
quiet s t a b c d e f = calm s t a b c d (λ r. subst (AllNames ObjectInRange) (sym e) r.names) (λ r os. subst OffersInRange (sym f) os)

pub onward : (s : Making) → Onward s s
onward s = quiet s s refl refl refl refl refl refl

abbrev pub OnwardTo : {A : Type 0} → Making → A × Making → Type 0
OnwardTo s r = Onward s r.1

pub o_next : {A B : Type 0} {s : Making} {m : Judged (A × Making)} {f : A × Making → Judged (B × Making)} → Gives (OnwardTo s) m → ((r : A × Making) → Gives (OnwardTo r.1) (f r)) → Gives (OnwardTo s) (m >>= f)
o_next {s = s} g next = and_then g (λ r h. weaken (next r) (λ q k. onward_on s r.1 q.1 h k))

pub o_look : {A : Type 0} (m : Judged A) (s : Making) → Gives (OnwardTo s) (m >>= λ a. Keeps (a, s))
o_look (Keeps a) s = keeps (OnwardTo s) (a, s) (onward s)
o_look (Breaks n at) s = breaks (OnwardTo s) n at

pub o_from : {A : Type 0} {m : Judged (A × Making)} (s u : Making) → Onward s u → Gives (OnwardTo u) m → Gives (OnwardTo s) m
o_from s u h g = weaken g (λ q k. onward_on s u q.1 h k)

-- with a premise
pub supposing : {A : Type 0} (P : Type 0) (Q : A → Type 0) (m : Judged A) → (P → Gives Q m) → Gives (λ a. P → Q a) m
supposing P Q (Keeps a) f = keeps (λ a. P → Q a) a (λ p. (f p).holds)
supposing P Q (Breaks n at) f = breaks (λ a. P → Q a) n at

-- ---- whole declarations

-- outside TYPE parts no pointer type is left without a base
pub record Above (s t : Making) : Type 0 where
  pub modules : t.world.modules ≡ s.world.modules
  pub part : s.is_type_part ≡ false → t.is_type_part ≡ false
  pub unset : s.is_type_part ≡ false → (n : ℕ) → Unset (bases_of t) n → Unset (bases_of s) n
  pub names : HasRanges s.world → AllNames ObjectInRange t.world.levels
  pub objects : HasRanges s.world → OffersInRange s.objects → OffersInRange t.objects

pub above_on : (s t u : Making) → Above s t → Above t u → Above s u
above_on s t u g h = record {
  modules = h.modules ∙ g.modules;
  part = λ e. h.part (g.part e);
  unset = λ e n x. g.unset e n (h.unset (g.part e) n x);
  names = λ r. h.names (ranges_on s t g.modules g.names r);
  objects = λ r os. h.objects (ranges_on s t g.modules g.names r) (g.objects r os);
}

pub above_by : (s t : Making) → Onward s t → Above s t
above_by s t h = record {
  modules = h.modules;
  part = λ e. h.part ∙ e;
  unset = λ e n x. elim (h.unset n x) as (λ _. Unset (bases_of s) n) [ inl y ↦ y | inr y ↦ absurd (no (sym e ∙ y.0)) ];
  names = h.names;
  objects = h.objects;
}

pub above : (s : Making) → Above s s
above s = above_by s s (onward s)

abbrev pub AboveTo : {A : Type 0} → Making → A × Making → Type 0
AboveTo s r = Above s r.1

pub a_next : {A B : Type 0} {s : Making} {m : Judged (A × Making)} {f : A × Making → Judged (B × Making)} → Gives (AboveTo s) m → ((r : A × Making) → Gives (AboveTo r.1) (f r)) → Gives (AboveTo s) (m >>= f)
a_next {s = s} g next = and_then g (λ r h. weaken (next r) (λ q k. above_on s r.1 q.1 h k))

pub a_by : {A : Type 0} {s : Making} {m : Judged (A × Making)} → Gives (OnwardTo s) m → Gives (AboveTo s) m
a_by {s = s} g = weaken g (λ q h. above_by s q.1 h)

pub a_look : {A : Type 0} (m : Judged A) (s : Making) → Gives (AboveTo s) (m >>= λ a. Keeps (a, s))
a_look m s = a_by (o_look m s)

pub a_from : {A : Type 0} {m : Judged (A × Making)} (s u : Making) → Above s u → Gives (AboveTo u) m → Gives (AboveTo s) m
a_from s u h g = weaken g (λ q k. above_on s u q.1 h k)
