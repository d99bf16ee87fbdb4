-- A type that a name stands for has a number.
use Rattle.std.proofs.Common.{◌≡◌, ℕ, List, [], ◌∷◌, Bool, true, false, Option, Some, None, Result, Ok, Err, refl, ◌∙◌, subst}
use Rattle.std.specs.Prelude.{if◌then◌else◌, slice_get}
use Rattle.std.specs.Str.{bytes_eq}
use Rattle.ob_types.specs.Table.{Table}
use Rattle.ob_types.proofs.Tests.{none_some, some_same}
use Rattle.ob_judge.specs.Judged.{Judged, Keeps, Breaks}
use Rattle.ob_judge.specs.Shapes.{Shape, Boolean}
use Rattle.ob_judge.specs.Image.{Done}
use Rattle.ob_judge.specs.Scopes.{Object, AType, AModule, AVariable, AStandard, Entry, Imported, TheOut, TheIn, Earlier, KnownModule, World, Source, or_else, look_up, is_visible, place, spelled, OutChar, OutInt, OutString, OutLn, InChar, ReadOnly}
use Rattle.ob_judge.specs.Standards.{names_of, names_of_out, names_of_in}
use Rattle.ob_judge.specs.Names.{named, member, member_of_object, qualified, type_of_object, type_named, names_in}
use Rattle.ob_judge.specs.Names.{names_of as names_of_module}
use Rattle.judged_well.specs.Gives.{Gives}
use Rattle.judged_well.proofs.Judging.{keeps, breaks, and_then, by_rule, by_some, at_last}
use Rattle.check_types.specs.steps.Answers.{Answers, Answer}
use Rattle.check_types.specs.declared.steps.fault.CheckFault.{CheckFault}
use Rattle.table_builder.specs.Entries.{HasShape, is_whole_shape}
use Rattle.check_making.specs.Staying.{HasType, NamesHaveTypes, AllHaveTypes}

-- ---- an answer says what holds of all that the judgement gives

pub answers_with : {A B : Type 0} {R S : B → A → Type 0} {P : A → Type 0} (m : Judged A) (r : Result B CheckFault) → Answers R m r → Gives P m → ((b : B) (a : A) → R b a → P a → S b a) → Answers S m r
answers_with {A} {B} {R} {S} {P} m r h g f = record { by = by m r h.by g }
  where
    by : (m : Judged A) (r : Result B CheckFault) → Answer R m r → Gives P m → Answer S m r
    by (Keeps a) (Ok b) h g = f b a h g.holds
    by (Breaks n at) (Ok b) h g = absurd h
    by (Keeps a) (Err e) h g = h
    by (Breaks n at) (Err e) h g = h

-- ---- names

-- what holds of all these names' objects
abbrev AllObjects : (Object → Type 0) → List (List ℕ × Object) → Type 0
AllObjects P [] = Unit {0}
AllObjects P (x ∷ xs) = P x.1 × AllObjects P xs

of_names : (P : Object → Type 0) (xs : List (List ℕ × Object)) → AllObjects P xs → (q : List ℕ) (x : Entry) → names_of xs q ≡ Some x → P x.object
of_names P [] all q x is = none_some x is
of_names P (y ∷ ys) all q x is = by (of_names P ys all.1 q x) (bytes_eq y.0 q) is
  where
    by : (names_of ys q ≡ Some x → P x.object) → (b : Bool) → (if b then Some (record { object = y.1; exported = true }) else names_of ys q) ≡ Some x → P x.object
    by rest true is = subst (λ z. P z.object) (some_same (record { object = y.1; exported = true }) x is) all.0
    by rest false is = rest is

module _ (t : Table) where
  out_has : (q : List ℕ) (x : Entry) → names_of_out q ≡ Some x → HasType t x.object
  out_has = of_names (HasType t) (
      (67 ∷ 104 ∷ 97 ∷ 114 ∷ [], AStandard OutChar) ∷
      (73 ∷ 110 ∷ 116 ∷ [], AStandard OutInt) ∷
      (83 ∷ 116 ∷ 114 ∷ 105 ∷ 110 ∷ 103 ∷ [], AStandard OutString) ∷
      (76 ∷ 110 ∷ [], AStandard OutLn) ∷
      [])
      (tt, (tt, (tt, (tt, tt))))

  in_has : (q : List ℕ) (x : Entry) → names_of_in q ≡ Some x → HasType t x.object
  in_has = of_names (HasType t) (
      (67 ∷ 104 ∷ 97 ∷ 114 ∷ [], AStandard InChar) ∷
      (68 ∷ 111 ∷ 110 ∷ 101 ∷ [], AVariable (record { shape = Boolean; place = Done; home = ReadOnly; owner = 0; procedure = None })) ∷
      [])
      (tt, (tt, tt))

  looked_has : (ls : List (List ℕ → Option Entry)) → AllHaveTypes t ls → (q : List ℕ) (x : Entry) → look_up q ls ≡ Some x → HasType t x.object
  looked_has [] h q x is = none_some x is
  looked_has (l ∷ ls) h q x is = by (look_up q ls) (l q) refl refl is (λ e. looked_has ls h.1 q x e)
    where
      by : (a b : Option Entry) → look_up q ls ≡ a → l q ≡ b → or_else a b ≡ Some x → (look_up q ls ≡ Some x → HasType t x.object) → HasType t x.object
      by (Some y) b i j is go = go (i ∙ is)
      by None b i j is go = h.0.each q x (j ∙ is)

  module _ (p : Source) (w : World) (names : AllHaveTypes t w.levels) (members : (n : ℕ) (k : KnownModule) → slice_get w.modules n ≡ Some k → NamesHaveTypes t k.names) where
    named_has : (i : ℕ) → Gives (HasType t) (named p w i)
    named_has i = by_some 30 (place p i) (look_up (spelled p i) w.levels) (λ e is. by_rule 34 (place p i) (is_visible w.procedure e.object) (λ seen. keeps (HasType t) e.object (looked_has w.levels names (spelled p i) e is)))

    of_module : (m : Imported) (q : List ℕ) (x : Entry) → names_of_module p w m q ≡ Some x → HasType t x.object
    of_module TheOut q x is = out_has q x is
    of_module TheIn q x is = in_has q x is
    of_module (Earlier n) q x is = by (slice_get w.modules n) refl is
      where
        by : (o : Option KnownModule) → slice_get w.modules n ≡ o → names_in o q ≡ Some x → HasType t x.object
        by None i is = none_some x is
        by (Some k) i is = (members n k i).each q x is

    member_has : (m : Imported) (i : ℕ) → Gives (HasType t) (member p w m i)
    member_has m i = by_some 30 (place p i) (names_of_module p w m (spelled p i)) (λ e is. by_rule 34 (place p i) e.exported (λ seen. keeps (HasType t) e.object (of_module m (spelled p i) e is)))

    member_of_has : (name i : ℕ) (o : Object) → Gives (HasType t) (member_of_object p w name i o)
    member_of_has name i (AModule m) = member_has m i
    member_of_has name i _ = breaks (HasType t) 31 (place p name)

    qualified_has : (name : ℕ) (i : Option ℕ) → Gives (HasType t) (qualified p w name i)
    qualified_has name None = named_has name
    qualified_has name (Some i) = and_then (named_has name) (λ o h. member_of_has name i o)

    type_of : (o : Object) (s : Shape) → HasType t o → type_of_object o ≡ Some s → HasShape t s × (is_whole_shape s ≡ true)
    type_of (AType u) s h is = subst (λ v. HasShape t v × (is_whole_shape v ≡ true)) (some_same u s is) h
    type_of _ s h is = none_some s is

    -- a type that is named
    pub type_has : (number name : ℕ) (i : Option ℕ) → Gives (λ s. HasShape t s × (is_whole_shape s ≡ true)) (type_named p w number name i)
    type_has number name i = and_then (qualified_has name i) (λ o h. at_last number (place p name) (type_of_object o) (λ s is. type_of o s h is))
