-- Parts of the judgement after which all that is in scope names pointer types that there are.
use Rattle.std.proofs.Common.{◌≡◌, ℕ, zero, suc, ◌≤◌, List, [], ◌∷◌, ◌++◌, length, Bool, true, false, Option, Some, ap, sym, subst, arith}
use Rattle.std.specs.Prelude.{slice_get, slice_set, is_some, is_none, if◌then◌else◌}
use Rattle.std.specs.Str.{bytes_eq}
use Rattle.ob_types.proofs.Tests.{none_some, some_same}
use Rattle.ob_syntax.specs.declared.names.Identdef.{Identdef}
use Rattle.ob_judge.specs.Judged.{Judged, Keeps, Breaks, ◌>>=◌}
use Rattle.ob_judge.specs.Scopes.{Object, Entry, Source, spelled, no_names}
use Rattle.ob_judge.specs.Making.{Making, with_levels, declare_last, declare_outer, last_names, without_last, offer_if}
use Rattle.ob_judge.specs.Parameters.{stand, declared}
use Rattle.judged_well.specs.Gives.{Gives}
use Rattle.judged_well.proofs.Judging.{keeps, breaks, weaken, and_then}
use Rattle.judged_modules.specs.Agrees.{bases_of}
use Rattle.judged_modules.specs.Sound.{AllNames}
use Rattle.judged_modules.proofs.Parameters.{stand_plain}
use Rattle.judged_outlines.specs.Among.{ObjectAmong, WorldAmong}
use Rattle.judged_outlines.proofs.Reach.{world_later}

-- how many pointer types there are
abbrev pub pointer_count : Making → ℕ
pointer_count s = length (bases_of s)

-- all that is in scope names pointer types that there are
abbrev pub AmongIn : Making → Type 0
AmongIn s = WorldAmong (pointer_count s) s.world

-- after a part: no pointer type is gone, all that is in scope names those that there are, and what it gives has this
pub record LeavesAmong {A : Type 0} (Q : A → Making → Type 0) (s : Making) (r : A × Making) : Type 0 where
  pub more : pointer_count s ≤ pointer_count r.1
  pub among : AmongIn r.1
  pub gives : Q r.0 r.1

-- nothing is claimed of it
abbrev pub Any : {A : Type 0} → A → Making → Type 0
Any a t = Unit {0}

pub d_next : {A B : Type 0} {P : A → Making → Type 0} {Q : B → Making → Type 0} {s : Making} {m : Judged (A × Making)} {f : A × Making → Judged (B × Making)}
    → Gives (LeavesAmong P s) m → ((r : A × Making) → LeavesAmong P s r → Gives (LeavesAmong Q r.1) (f r)) → Gives (LeavesAmong Q s) (m >>= f)
d_next g next = and_then g (λ r h. weaken (next r h) (λ q k. record {
  more = let a = h.more in let b = k.more in omega (arith, a, b);
  among = k.among;
  gives = k.gives;
}))

-- what is judged in the scope as it is
pub d_look : {A : Type 0} (Q : A → Making → Type 0) (m : Judged A) (s : Making) → AmongIn s → Gives (λ a. Q a s) m → Gives (LeavesAmong Q s) (m >>= λ a. Keeps (a, s))
d_look Q (Keeps a) s among g = keeps (LeavesAmong Q s) (a, s) (record { more = omega arith; among = among; gives = g.holds })
d_look Q (Breaks n at) s among g = breaks (LeavesAmong Q s) n at

pub d_pass : {A : Type 0} (m : Judged A) (s : Making) → AmongIn s → Gives (LeavesAmong Any s) (m >>= λ a. Keeps (a, s))
d_pass (Keeps a) s among = keeps (LeavesAmong Any s) (a, s) (record { more = omega arith; among = among; gives = tt })
d_pass (Breaks n at) s among = breaks (LeavesAmong Any s) n at

pub d_give : {A : Type 0} (Q : A → Making → Type 0) (a : A) (s : Making) → AmongIn s → Q a s → Gives (LeavesAmong Q s) (Keeps (a, s))
d_give Q a s among h = keeps (LeavesAmong Q s) (a, s) (record { more = omega arith; among = among; gives = h })

-- a change of what is made
pub d_change : (s t : Making) → pointer_count s ≤ pointer_count t → AmongIn t → Gives (LeavesAmong {A = Unit {0}} Any s) (Keeps (tt, t))
d_change s t more among = keeps (LeavesAmong {A = Unit {0}} Any s) (tt, t) (record { more = more; among = among; gives = tt })

pub d_from : {A : Type 0} {Q : A → Making → Type 0} {m : Judged (A × Making)} (s u : Making) → pointer_count s ≤ pointer_count u → Gives (LeavesAmong Q u) m → Gives (LeavesAmong Q s) m
d_from s u more g = weaken g (λ r h. record { more = let a = h.more in omega (arith, a, more); among = h.among; gives = h.gives })

-- ---- items of lists

pub each_appended : {A : Type 0} (P : A → Type 0) (xs : List A) (y : A) → ((k : ℕ) (x : A) → slice_get xs k ≡ Some x → P x) → P y → (k : ℕ) (x : A) → slice_get (xs ++ y ∷ []) k ≡ Some x → P x
each_appended P [] y all one zero x at = subst P (some_same y x at) one
each_appended P [] y all one (suc k) x at = none_some x at
each_appended P (z ∷ zs) y all one zero x at = all 0 x at
each_appended P (z ∷ zs) y all one (suc k) x at = each_appended P zs y (λ j v i. all (suc j) v i) one k x at

pub each_set : {A : Type 0} (P : A → Type 0) (xs : List A) (n : ℕ) (y : A) → ((k : ℕ) (x : A) → slice_get xs k ≡ Some x → P x) → P y → (k : ℕ) (x : A) → slice_get (slice_set xs n y) k ≡ Some x → P x
each_set P [] n y all one k x at = none_some x at
each_set P (z ∷ zs) zero y all one zero x at = subst P (some_same y x at) one
each_set P (z ∷ zs) zero y all one (suc k) x at = all (suc k) x at
each_set P (z ∷ zs) (suc n) y all one zero x at = all 0 x at
each_set P (z ∷ zs) (suc n) y all one (suc k) x at = each_set P zs n y (λ j v i. all (suc j) v i) one k x at

-- ---- names

pub of_declared : (P : Object → Type 0) (name : List ℕ) (e : Entry) (l : List ℕ → Option Entry) → P e.object → ((q : List ℕ) (x : Entry) → l q ≡ Some x → P x.object)
    → (q : List ℕ) (x : Entry) → (if bytes_eq name q then Some e else l q) ≡ Some x → P x.object
of_declared P name e l h all q x at = by (bytes_eq name q) at
  where
    by : (b : Bool) → (if b then Some e else l q) ≡ Some x → P x.object
    by true at = subst (λ y. P y.object) (some_same e x at) h
    by false at = all q x at

names_declared : (P : Object → Type 0) (name : List ℕ) (e : Entry) (ls : List (List ℕ → Option Entry)) → P e.object → AllNames P ls → AllNames P (declare_last name e ls)
names_declared P name e [] h all = tt
names_declared P name e (l ∷ []) h all = (of_declared P name e l h all.0, tt)
names_declared P name e (l ∷ k ∷ ls) h all = (all.0, names_declared P name e (k ∷ ls) h all.1)

pub last_among : (P : Object → Type 0) (ls : List (List ℕ → Option Entry)) → AllNames P ls → (q : List ℕ) (x : Entry) → last_names ls q ≡ Some x → P x.object
last_among P [] all q x is = none_some x is
last_among P (l ∷ []) all q x is = all.0 q x is
last_among P (l ∷ k ∷ ls) all q x is = last_among P (k ∷ ls) all.1 q x is

-- ---- nested scopes

pub names_more : (P : Object → Type 0) (ls : List (List ℕ → Option Entry)) → AllNames P ls → AllNames P (ls ++ no_names ∷ [])
names_more P [] h = ((λ q x at. none_some x at), tt)
names_more P (l ∷ ls) h = (h.0, names_more P ls h.1)

pub names_fewer : (P : Object → Type 0) (ls : List (List ℕ → Option Entry)) → AllNames P ls → AllNames P (without_last ls)
names_fewer P [] h = tt
names_fewer P (l ∷ []) h = tt
names_fewer P (l ∷ k ∷ ls) h = (h.0, names_fewer P (k ∷ ls) h.1)

pub names_outer : (P : Object → Type 0) (name : List ℕ) (e : Entry) (ls : List (List ℕ → Option Entry)) → P e.object → AllNames P ls → AllNames P (declare_outer name e ls)
names_outer P name e [] h all = tt
names_outer P name e (l ∷ []) h all = all
names_outer P name e (l ∷ k ∷ []) h all = (of_declared P name e l h all.0, all.1)
names_outer P name e (l ∷ k ∷ m ∷ ls) h all = (all.0, names_outer P name e (k ∷ m ∷ ls) h all.1)

-- one more name in the innermost scope
pub among_declared : (s : Making) (name : List ℕ) (e : Entry) → ObjectAmong (pointer_count s) e.object → AmongIn s → AmongIn (with_levels (declare_last name e) s)
among_declared s name e h among = record { names = names_declared (ObjectAmong (pointer_count s)) name e s.world.levels h among.names; members = among.members; fields = among.fields; narrowed = among.narrowed }

-- what is declared is one of the module's names, or isn't
pub among_offered : (b : Bool) (name : List ℕ) (e : Entry) (s u : Making) → pointer_count s ≤ pointer_count u → AmongIn u → LeavesAmong {A = Unit {0}} Any s (tt, offer_if b name e u)
among_offered true name e s u more among = record { more = more; among = among; gives = tt }
among_offered false name e s u more among = record { more = more; among = among; gives = tt }

module _ (p : Source) where
  pub d_stand : (xs : List ℕ) (s : Making) → AmongIn s → Gives (LeavesAmong Any s) (stand p xs s)
  d_stand xs s among = weaken (stand_plain p xs s) (λ r h. record {
    more = let e = ap (λ v. length v.known.bases) h.world in omega (arith, e);
    among = world_later (pointer_count s) (pointer_count r.1) (let e = ap (λ v. length v.known.bases) h.world in omega (arith, e)) (r.1).world (subst (WorldAmong (pointer_count s)) (sym h.world) among);
    gives = tt;
  })

  pub d_declared : (x : Identdef) (o : Object) (s : Making) → AmongIn s → ObjectAmong (pointer_count s) o → Gives (LeavesAmong Any s) (declared p x o s)
  d_declared x o s among h =
      let e : Entry = record { object = o; exported = is_some x.star } in
      let u = with_levels (declare_last (spelled p x.name) e) s in
      keeps (LeavesAmong Any s) (tt, offer_if (is_none s.world.procedure) (spelled p x.name) e u) (among_offered (is_none s.world.procedure) (spelled p x.name) e s u (omega arith) (among_declared s (spelled p x.name) e h among))
