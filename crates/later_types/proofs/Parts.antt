-- Parts of the judgement after which all that is in scope names record types that there are.
use Rattle.std.proofs.Common.{ℕ, ◌≤◌, List, [], ◌∷◌, length, Bool, true, false, Option, ap, sym, subst, arith}
use Rattle.std.specs.Prelude.{is_some, is_none}
use Rattle.ob_syntax.specs.declared.names.Identdef.{Identdef}
use Rattle.ob_judge.specs.Judged.{Judged, Keeps, Breaks, ◌>>=◌}
use Rattle.ob_judge.specs.Scopes.{Object, Entry, Source, spelled}
use Rattle.ob_judge.specs.Making.{Making, with_levels, declare_last, offer_if}
use Rattle.ob_judge.specs.Parameters.{stand, declared}
use Rattle.judged_well.specs.Gives.{Gives}
use Rattle.judged_well.proofs.Judging.{keeps, breaks, weaken, and_then}
use Rattle.judged_modules.specs.Agrees.{records_of}
use Rattle.judged_modules.specs.Sound.{AllNames}
use Rattle.judged_modules.proofs.Parameters.{stand_plain}
use Rattle.judged_outlines.proofs.Parts.{of_declared}
use Rattle.later_types.specs.Records.{ObjectRecords, RecordsInScope}
use Rattle.later_types.specs.Later.{Below}
use Rattle.later_types.proofs.Reach.{world_later}

-- how many record types there are
abbrev pub record_count : Making → ℕ
record_count s = length (records_of s)

-- all that is in scope names record types that there are
abbrev pub ScopedIn : Making → Type 0
ScopedIn s = RecordsInScope (Below (record_count s)) s.world

-- after a part: no record type is gone, all that is in scope names those that there are, and what it gives has this
pub record Leaves {A : Type 0} (Q : A → Making → Type 0) (s : Making) (r : A × Making) : Type 0 where
  pub more : record_count s ≤ record_count r.1
  pub scope : ScopedIn r.1
  pub gives : Q r.0 r.1

-- nothing is claimed of it
abbrev pub Any : {A : Type 0} → A → Making → Type 0
Any a t = Unit {0}

pub r_next : {A B : Type 0} {P : A → Making → Type 0} {Q : B → Making → Type 0} {s : Making} {m : Judged (A × Making)} {f : A × Making → Judged (B × Making)}
    → Gives (Leaves P s) m → ((r : A × Making) → Leaves P s r → Gives (Leaves Q r.1) (f r)) → Gives (Leaves Q s) (m >>= f)
r_next g next = and_then g (λ r h. weaken (next r h) (λ q k. record {
  more = let a = h.more in let b = k.more in omega (arith, a, b);
  scope = k.scope;
  gives = k.gives;
}))

-- what is judged in the scope as it is
pub r_look : {A : Type 0} (Q : A → Making → Type 0) (m : Judged A) (s : Making) → ScopedIn s → Gives (λ a. Q a s) m → Gives (Leaves Q s) (m >>= λ a. Keeps (a, s))
r_look Q (Keeps a) s scope g = keeps (Leaves Q s) (a, s) (record { more = omega arith; scope = scope; gives = g.holds })
r_look Q (Breaks n at) s scope g = breaks (Leaves Q s) n at

pub r_pass : {A : Type 0} (m : Judged A) (s : Making) → ScopedIn s → Gives (Leaves Any s) (m >>= λ a. Keeps (a, s))
r_pass (Keeps a) s scope = keeps (Leaves Any s) (a, s) (record { more = omega arith; scope = scope; gives = tt })
r_pass (Breaks n at) s scope = breaks (Leaves Any s) n at

pub r_give : {A : Type 0} (Q : A → Making → Type 0) (a : A) (s : Making) → ScopedIn s → Q a s → Gives (Leaves Q s) (Keeps (a, s))
r_give Q a s scope h = keeps (Leaves Q s) (a, s) (record { more = omega arith; scope = scope; gives = h })

-- a change of what is made
pub r_change : (s t : Making) → record_count s ≤ record_count t → ScopedIn t → Gives (Leaves {A = Unit {0}} Any s) (Keeps (tt, t))
r_change s t more scope = keeps (Leaves {A = Unit {0}} Any s) (tt, t) (record { more = more; scope = scope; gives = tt })

pub r_from : {A : Type 0} {Q : A → Making → Type 0} {m : Judged (A × Making)} (s u : Making) → record_count s ≤ record_count u → Gives (Leaves Q u) m → Gives (Leaves Q s) m
r_from s u more g = weaken g (λ r h. record { more = let a = h.more in omega (arith, a, more); scope = h.scope; gives = h.gives })

-- ---- names

names_declared : (P : Object → Type 0) (name : List ℕ) (e : Entry) (ls : List (List ℕ → Option Entry)) → P e.object → AllNames P ls → AllNames P (declare_last name e ls)
names_declared P name e [] h all = tt
names_declared P name e (l ∷ []) h all = (of_declared P name e l h all.0, tt)
names_declared P name e (l ∷ k ∷ ls) h all = (all.0, names_declared P name e (k ∷ ls) h all.1)

-- one more name in the innermost scope
pub scope_declared : (s : Making) (name : List ℕ) (e : Entry) → ObjectRecords (Below (record_count s)) e.object → ScopedIn s → ScopedIn (with_levels (declare_last name e) s)
scope_declared s name e h scope = record { names = names_declared (ObjectRecords (Below (record_count s))) name e s.world.levels h scope.names; members = scope.members; fields = scope.fields; narrowed = scope.narrowed }

-- what is declared is one of the module's names, or isn't
pub scope_offered : (b : Bool) (name : List ℕ) (e : Entry) (s u : Making) → record_count s ≤ record_count u → ScopedIn u → Leaves {A = Unit {0}} Any s (tt, offer_if b name e u)
scope_offered true name e s u more scope = record { more = more; scope = scope; gives = tt }
scope_offered false name e s u more scope = record { more = more; scope = scope; gives = tt }

module _ (p : Source) where
  pub r_stand : (xs : List ℕ) (s : Making) → ScopedIn s → Gives (Leaves Any s) (stand p xs s)
  r_stand xs s scope = weaken (stand_plain p xs s) (λ r h. record {
    more = let e = ap (λ v. length v.known.records) h.world in omega (arith, e);
    scope = world_later (record_count s) (record_count r.1) (let e = ap (λ v. length v.known.records) h.world in omega (arith, e)) (r.1).world (subst (RecordsInScope (Below (record_count s))) (sym h.world) scope);
    gives = tt;
  })

  pub r_declared : (x : Identdef) (o : Object) (s : Making) → ScopedIn s → ObjectRecords (Below (record_count s)) o → Gives (Leaves Any s) (declared p x o s)
  r_declared x o s scope h =
      let e : Entry = record { object = o; exported = is_some x.star } in
      let u = with_levels (declare_last (spelled p x.name) e) s in
      keeps (Leaves Any s) (tt, offer_if (is_none s.world.procedure) (spelled p x.name) e u) (scope_offered (is_none s.world.procedure) (spelled p x.name) e s u (omega arith) (scope_declared s (spelled p x.name) e h scope))
