-- Names stand for what names record types of a sort, where all that is in scope does.
use Rattle.std.proofs.Common.{◌≡◌, ℕ, List, [], ◌∷◌, Bool, true, false, Option, Some, None, refl, subst}
use Rattle.std.specs.Prelude.{slice_get, if◌then◌else◌}
use Rattle.std.specs.Str.{bytes_eq}
use Rattle.ob_types.proofs.Tests.{none_some, some_same}
use Rattle.ob_judge.specs.Shapes.{Shape, Boolean}
use Rattle.ob_judge.specs.Image.{Done}
use Rattle.ob_judge.specs.Scopes.{Object, AType, AVariable, AStandard, AModule, ReadOnly, OutChar, OutInt, OutString, OutLn, InChar, Imported, TheOut, TheIn, Earlier, Entry, KnownModule, World, Source, or_else, look_up, is_visible, place, spelled}
use Rattle.ob_judge.specs.Standards.{names_of as entries_of}
use Rattle.ob_judge.specs.Names.{named, names_in, names_of, member, member_of_object, qualified, type_of_object, type_named}
use Rattle.judged_well.specs.Gives.{Gives}
use Rattle.judged_well.proofs.Judging.{keeps, breaks, and_then, by_rule, by_some, at_last}
use Rattle.judged_modules.specs.Sound.{AllNames}
use Rattle.later_types.specs.Records.{RecordsAmong, ObjectRecords, RecordsInScope}

looked_up : (A : Object → Type 0) (q : List ℕ) (x : Entry) (ls : List (List ℕ → Option Entry)) → AllNames A ls → look_up q ls ≡ Some x → A x.object
looked_up A q x [] all h = none_some x h
looked_up A q x (l ∷ ls) all h = by (look_up q ls) (looked_up A q x ls all.1) h
  where
    by : (o : Option Entry) → (o ≡ Some x → A x.object) → or_else o (l q) ≡ Some x → A x.object
    by (Some y) inner h = inner h
    by None inner h = all.0 q x h

-- what holds of these names' objects
abbrev AllObjects : (Object → Type 0) → List (List ℕ × Object) → Type 0
AllObjects A [] = Unit {0}
AllObjects A (x ∷ xs) = A x.1 × AllObjects A xs

of_entries : (A : Object → Type 0) (xs : List (List ℕ × Object)) → AllObjects A xs → (q : List ℕ) (x : Entry) → entries_of xs q ≡ Some x → A x.object
of_entries A [] all q x is = none_some x is
of_entries A (y ∷ ys) all q x is = by (of_entries A ys all.1 q x) (bytes_eq y.0 q) is
  where
    by : (entries_of ys q ≡ Some x → A x.object) → (b : Bool) → (if b then Some (record { object = y.1; exported = true }) else entries_of ys q) ≡ Some x → A x.object
    by rest true is = subst (λ z. A z.object) (some_same (record { object = y.1; exported = true }) x is) all.0
    by rest false is = rest is

module _ (P : ℕ → Type 0) (p : Source) (w : World) (scope : RecordsInScope P w) where
  abbrev Of : Object → Type 0
  Of = ObjectRecords P

  known_member : (m : Imported) (q : List ℕ) (x : Entry) → names_of p w m q ≡ Some x → Of x.object
  known_member TheOut q x is = of_entries Of (
      (67 ∷ 104 ∷ 97 ∷ 114 ∷ [], AStandard OutChar) ∷
      (73 ∷ 110 ∷ 116 ∷ [], AStandard OutInt) ∷
      (83 ∷ 116 ∷ 114 ∷ 105 ∷ 110 ∷ 103 ∷ [], AStandard OutString) ∷
      (76 ∷ 110 ∷ [], AStandard OutLn) ∷
      []) (tt, (tt, (tt, (tt, tt)))) q x is
  known_member TheIn q x is = of_entries Of (
      (67 ∷ 104 ∷ 97 ∷ 114 ∷ [], AStandard InChar) ∷
      (68 ∷ 111 ∷ 110 ∷ 101 ∷ [], AVariable (record { shape = Boolean; place = Done; home = ReadOnly; owner = 0; procedure = None })) ∷
      []) (tt, (tt, tt)) q x is
  known_member (Earlier k) q x is = by (slice_get w.modules k) refl is
    where
      by : (o : Option KnownModule) → slice_get w.modules k ≡ o → names_in o q ≡ Some x → Of x.object
      by None i h = none_some x h
      by (Some m) i h = scope.members k m i q x h

  pub records_named : (i : ℕ) → Gives (ObjectRecords P) (named p w i)
  records_named i = by_some 30 (place p i) (look_up (spelled p i) w.levels) (λ x is.
      by_rule 34 (place p i) (is_visible w.procedure x.object) (λ seen. keeps Of x.object (looked_up Of (spelled p i) x w.levels scope.names is)))

  pub records_member : (m : Imported) (i : ℕ) → Gives (ObjectRecords P) (member p w m i)
  records_member m i = by_some 30 (place p i) (names_of p w m (spelled p i)) (λ x is.
      by_rule 34 (place p i) x.exported (λ seen. keeps Of x.object (known_member m (spelled p i) x is)))

  records_member_of : (name i : ℕ) (o : Object) → Gives (ObjectRecords P) (member_of_object p w name i o)
  records_member_of name i (AModule m) = records_member m i
  records_member_of name i _ = breaks Of 31 (place p name)

  records_qualified : (name : ℕ) (i : Option ℕ) → Gives (ObjectRecords P) (qualified p w name i)
  records_qualified name None = records_named name
  records_qualified name (Some i) = and_then (records_named name) (λ o h. records_member_of name i o)

  type_of : (o : Object) → Of o → (s : Shape) → type_of_object o ≡ Some s → RecordsAmong P s
  type_of (AType u) h s is = subst (RecordsAmong P) (some_same u s is) h
  type_of _ h s is = none_some s is

  pub records_type : (number name : ℕ) (i : Option ℕ) → Gives (RecordsAmong P) (type_named p w number name i)
  records_type number name i = and_then (records_qualified name i) (λ o h. at_last number (place p name) (type_of_object o) (λ s is. type_of o h s is))
