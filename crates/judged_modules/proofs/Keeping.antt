-- Parts of the judgement that keep what is in scope sound.
use Rattle.std.proofs.Common.{◌≡◌, ℕ, List, [], ◌∷◌, Bool, true, false, not, Option, Some, refl, ap, sym, ◌∙◌, subst}
use Rattle.std.specs.Prelude.{is_some, is_none, if◌then◌else◌}
use Rattle.std.specs.Str.{bytes_eq}
use Rattle.ob_types.proofs.Tests.{some_same}
use Rattle.ob_syntax.specs.declared.names.Identdef.{Identdef}
use Rattle.ob_judge.specs.Judged.{Judged, Keeps, Breaks, ◌>>=◌, rule}
use Rattle.ob_judge.specs.Scopes.{Object, Entry, World, Source, spelled, place}
use Rattle.ob_judge.specs.Making.{Making, is_among, with_levels, declare_last, offer_if}
use Rattle.ob_judge.specs.Parameters.{stand, declared}
use Rattle.judged_well.specs.Gives.{Gives}
use Rattle.judged_well.proofs.Judging.{keeps, breaks, weaken, and_then, gives_both}
use Rattle.judged_modules.specs.Final.{Final}
use Rattle.judged_modules.specs.Agrees.{Agrees}
use Rattle.judged_modules.specs.Sound.{IsKept, AllNames, Sound}
use Rattle.judged_modules.proofs.Growing.{Grows, untouched, self, onward}
use Rattle.judged_modules.proofs.DeclarationsGrow.{i_declared}
use Rattle.judged_modules.proofs.Righting.{agrees_back}

pub given : {A : Type 0} {P : A → Type 0} {m : Judged A} (a : A) → Gives P m → m ≡ Keeps a → P a
given {P = P} a g is = (subst (Gives P) is g).holds

module _ (w : Final) where
  -- from a state on, where this holds: it only adds, and what agrees with the whole at the end keeps the scope sound, and gives what has this
  pub record Ok {A : Type 0} (Before : Type 0) (Q : A → Making → Type 0) (s : Making) (r : A × Making) : Type 0 where
    pub grown : Grows s r.1
    pub sound : Before → Agrees w r.1 → Sound w s.world → Sound w r.1.world × Q r.0 r.1

  pub k_next : {A B : Type 0} {Before : Type 0} {P : A → Making → Type 0} {Q : B → Making → Type 0} {s : Making} {m : Judged (A × Making)} {f : A × Making → Judged (B × Making)}
      → Gives (Ok Before P s) m → ((r : A × Making) → Gives (Ok (Before × P r.0 r.1 × Grows s r.1) Q r.1) (f r)) → Gives (Ok Before Q s) (m >>= f)
  k_next {s = s} g next = and_then g (λ r h. weaken (next r) (λ q k. record {
    grown = onward s r.1 q.1 h.grown k.grown;
    sound = λ before agrees sound. let a = h.sound before (agrees_back w r.1 q.1 k.grown agrees) sound in k.sound (before, a.1, h.grown) agrees a.0;
  }))

  -- what is judged in the scope as it is
  pub k_look : {A : Type 0} {Before : Type 0} (Q : A → Type 0) (m : Judged A) (s : Making) → (Before → Agrees w s → Sound w s.world → Gives Q m) → Gives (Ok Before (λ a t. Q a) s) (m >>= λ a. Keeps (a, s))
  k_look Q (Keeps a) s next = keeps (Ok _ (λ a t. Q a) s) (a, s) (record { grown = self s; sound = λ before agrees sound. (sound, (next before agrees sound).holds) })
  k_look Q (Breaks n at) s next = breaks (Ok _ (λ a t. Q a) s) n at

  -- nothing is claimed of it
  abbrev pub Some_ : {A : Type 0} → A → Making → Type 0
  Some_ a t = Unit {0}

  pub k_pass : {A : Type 0} {Before : Type 0} (m : Judged A) (s : Making) → Gives (Ok Before Some_ s) (m >>= λ a. Keeps (a, s))
  k_pass (Keeps a) s = keeps (Ok _ Some_ s) (a, s) (record { grown = self s; sound = λ before agrees sound. (sound, tt) })
  k_pass (Breaks n at) s = breaks (Ok _ Some_ s) n at

  pub k_give : {A : Type 0} {Before : Type 0} (Q : A → Making → Type 0) (a : A) (s : Making) → (Before → Agrees w s → Sound w s.world → Q a s) → Gives (Ok Before Q s) (Keeps (a, s))
  k_give Q a s h = keeps (Ok _ Q s) (a, s) (record { grown = self s; sound = λ before agrees sound. (sound, h before agrees sound) })

  -- a change of what is made
  pub k_change : {A : Type 0} {Before : Type 0} (Q : A → Making → Type 0) (a : A) (s t : Making) → Grows s t → (Before → Agrees w t → Sound w s.world → Sound w t.world × Q a t) → Gives (Ok Before Q s) (Keeps (a, t))
  k_change Q a s t g h = keeps (Ok _ Q s) (a, t) (record { grown = g; sound = h })

  pub k_from : {A : Type 0} {Before : Type 0} {Q : A → Making → Type 0} {m : Judged (A × Making)} (s u : Making) → Grows s u → (Before → Agrees w u → Sound w s.world → Sound w u.world) → Gives (Ok Before Q u) m → Gives (Ok Before Q s) m
  k_from s u g h k = weaken k (λ q j. record { grown = onward s u q.1 g j.grown; sound = λ before agrees sound. j.sound before agrees (h before (agrees_back w u q.1 j.grown agrees) sound) })

  -- with other premises, and other claims
  pub k_with : {A : Type 0} {Before After : Type 0} {P Q : A → Making → Type 0} {s : Making} {m : Judged (A × Making)} → Gives (Ok After P s) m → (Before → After) → ((a : A) (t : Making) → Before → P a t → Q a t) → Gives (Ok Before Q s) m
  k_with g f h = weaken g (λ r k. record { grown = k.grown; sound = λ before agrees sound. let a = k.sound (f before) agrees sound in (a.0, h r.0 r.1 before a.1) })

  -- ---- names

  pub all_declared : (P : Object → Type 0) (name : List ℕ) (e : Entry) (ls : List (List ℕ → Option Entry)) → P e.object → AllNames P ls → AllNames P (declare_last name e ls)
  all_declared P name e [] h all = tt
  all_declared P name e (l ∷ []) h all = ((λ q x at. by (bytes_eq name q) q x at), tt)
    where
      by : (b : Bool) (q : List ℕ) (x : Entry) → (if b then Some e else l q) ≡ Some x → P x.object
      by true q x at = subst (λ y. P y.object) (some_same e x at) h
      by false q x at = all.0 q x at
  all_declared P name e (l ∷ k ∷ ls) h all = (all.0, all_declared P name e (k ∷ ls) h all.1)

  pub offer_world : (b : Bool) (name : List ℕ) (e : Entry) (s : Making) → (offer_if b name e s).world ≡ s.world
  offer_world true name e s = refl
  offer_world false name e s = refl

  -- one more name in the innermost scope
  pub sound_declared : (s : World) (name : List ℕ) (e : Entry) → IsKept w s.module_number e.object → Sound w s → Sound w (record s { levels = declare_last name e s.levels })
  sound_declared s name e h sound = record {
    names = all_declared (IsKept w s.module_number) name e s.levels h sound.names;
    members = sound.members;
    fields = sound.fields;
    narrowed = sound.narrowed;
  }

  module _ (p : Source) where
    pub k_stand : {Before : Type 0} (xs : List ℕ) (s : Making) → Gives (Ok Before Some_ s) (stand p xs s)
    k_stand [] s = k_give Some_ tt s (λ before agrees sound. tt)
    k_stand (i ∷ is) s = k_next (k_pass (rule 36 (place p i) (not (is_among (spelled p i) s.standing))) s) (λ r.
        k_from r.1 (record r.1 { standing = spelled p i ∷ r.1.standing }) (untouched r.1 _ refl refl refl refl refl refl refl) (λ before agrees sound. sound) (k_stand is (record r.1 { standing = spelled p i ∷ r.1.standing })))

    pub k_declared : {Before : Type 0} (x : Identdef) (o : Object) (s : Making) → (Before → Agrees w s → IsKept w s.world.module_number o) → Gives (Ok Before Some_ s) (declared p x o s)
    k_declared x o s kept =
        let e : Entry = record { object = o; exported = is_some x.star } in
        let u = with_levels (declare_last (spelled p x.name) e) s in
        let t = offer_if (is_none s.world.procedure) (spelled p x.name) e u in
        weaken (gives_both (i_declared p x o s) (keeps (λ (r : Unit {0} × Making). r.1 ≡ t) (tt, t) refl)) (λ r h. record {
          grown = (h.0).grown;
          sound = λ before agrees sound. (subst (λ v. Sound w v) (sym (ap (λ v. v.world) h.1 ∙ offer_world (is_none s.world.procedure) (spelled p x.name) e u)) (sound_declared s.world (spelled p x.name) e (kept before (agrees_back w s r.1 (h.0).grown agrees)) sound), tt);
        })
