-- Names: what they stand for, and as operands, names pointer types that there are.
use Rattle.std.proofs.Common.{◌≡◌, ℕ, ◌<◌, List, [], ◌∷◌, Bool, true, false, Option, Some, None, refl, ap, subst}
use Rattle.std.specs.Prelude.{slice_get, if◌then◌else◌}
use Rattle.std.specs.Str.{bytes_eq}
use Rattle.ob_types.proofs.Tests.{none_some, some_same}
use Rattle.ob_judge.specs.Shapes.{Shape, Boolean, is_pointer}
use Rattle.ob_judge.specs.Image.{Guard, Place, Done, Narrow, Constant}
use Rattle.ob_judge.specs.Image.{Bits as TheBits, Chars as TheChars}
use Rattle.ob_judge.specs.Scopes.{Object, AConstant, AType, AVariable, AProcedure, AStandard, AModule, ReadOnly, OutChar, OutInt, OutString, OutLn, InChar, Variable, Imported, TheOut, TheIn, Earlier, Entry, KnownModule, Narrowing, World, Source, or_else, look_up, is_visible, place, spelled}
use Rattle.ob_judge.specs.Standards.{names_of as entries_of}
use Rattle.ob_judge.specs.Operands.{Operand, whole_variable, of_constant}
use Rattle.ob_judge.specs.Names.{Stage, Whole, Partly, Ended, named, names_in, names_of, member, member_of_object, qualified, type_of_object, type_named, is_place, narrowing_of, narrowed_to, variable_read, object_operand, begun, finished}
use Rattle.judged_well.specs.Gives.{Gives}
use Rattle.judged_well.proofs.Judging.{keeps, breaks, and_then, by_rule, by_some, at_last}
use Rattle.judged_modules.specs.Sound.{AllNames}
use Rattle.judged_modules.specs.Lists.{Each}
use Rattle.judged_outlines.specs.Among.{PointsAmong, ObjectAmong, NarrowingAmong, WorldAmong}
use Rattle.judged_outlines.proofs.Images.{OperandStays, form_stays, place_stays, declared_stays}

looked_up : (P : Object → Type 0) (q : List ℕ) (x : Entry) (ls : List (List ℕ → Option Entry)) → AllNames P ls → look_up q ls ≡ Some x → P x.object
looked_up P q x [] all h = none_some x h
looked_up P q x (l ∷ ls) all h = by (look_up q ls) (looked_up P q x ls all.1) h
  where
    by : (o : Option Entry) → (o ≡ Some x → P x.object) → or_else o (l q) ≡ Some x → P x.object
    by (Some y) inner h = inner h
    by None inner h = all.0 q x h

-- what holds of these names' objects
abbrev AllObjects : (Object → Type 0) → List (List ℕ × Object) → Type 0
AllObjects P [] = Unit {0}
AllObjects P (x ∷ xs) = P x.1 × AllObjects P xs

of_entries : (P : Object → Type 0) (xs : List (List ℕ × Object)) → AllObjects P xs → (q : List ℕ) (x : Entry) → entries_of xs q ≡ Some x → P x.object
of_entries P [] all q x is = none_some x is
of_entries P (y ∷ ys) all q x is = by (of_entries P ys all.1 q x) (bytes_eq y.0 q) is
  where
    by : (entries_of ys q ≡ Some x → P x.object) → (b : Bool) → (if b then Some (record { object = y.1; exported = true }) else entries_of ys q) ≡ Some x → P x.object
    by rest true is = subst (λ z. P z.object) (some_same (record { object = y.1; exported = true }) x is) all.0
    by rest false is = rest is

module _ (n : ℕ) (p : Source) (w : World) (among : WorldAmong n w) where
  abbrev Known : Object → Type 0
  Known = ObjectAmong n

  known_member : (m : Imported) (q : List ℕ) (x : Entry) → names_of p w m q ≡ Some x → Known x.object
  known_member TheOut q x is = of_entries Known (
      (67 ∷ 104 ∷ 97 ∷ 114 ∷ [], AStandard OutChar) ∷
      (73 ∷ 110 ∷ 116 ∷ [], AStandard OutInt) ∷
      (83 ∷ 116 ∷ 114 ∷ 105 ∷ 110 ∷ 103 ∷ [], AStandard OutString) ∷
      (76 ∷ 110 ∷ [], AStandard OutLn) ∷
      []) (tt, (tt, (tt, (tt, tt)))) q x is
  known_member TheIn q x is = of_entries Known (
      (67 ∷ 104 ∷ 97 ∷ 114 ∷ [], AStandard InChar) ∷
      (68 ∷ 111 ∷ 110 ∷ 101 ∷ [], AVariable (record { shape = Boolean; place = Done; home = ReadOnly; owner = 0; procedure = None })) ∷
      []) (tt, ((tt, tt), tt)) q x is
  known_member (Earlier k) q x is = by (slice_get w.modules k) refl is
    where
      by : (o : Option KnownModule) → slice_get w.modules k ≡ o → names_in o q ≡ Some x → Known x.object
      by None i h = none_some x h
      by (Some m) i h = among.members k m i q x h

  pub a_named : (i : ℕ) → Gives (ObjectAmong n) (named p w i)
  a_named i = by_some 30 (place p i) (look_up (spelled p i) w.levels) (λ x is.
      by_rule 34 (place p i) (is_visible w.procedure x.object) (λ seen. keeps Known x.object (looked_up Known (spelled p i) x w.levels among.names is)))

  pub a_member : (m : Imported) (i : ℕ) → Gives (ObjectAmong n) (member p w m i)
  a_member m i = by_some 30 (place p i) (names_of p w m (spelled p i)) (λ x is.
      by_rule 34 (place p i) x.exported (λ seen. keeps Known x.object (known_member m (spelled p i) x is)))

  a_member_of : (name i : ℕ) (o : Object) → Gives (ObjectAmong n) (member_of_object p w name i o)
  a_member_of name i (AModule m) = a_member m i
  a_member_of name i (AConstant c) = breaks Known 31 (place p name)
  a_member_of name i _ = breaks Known 31 (place p name)

  pub a_qualified : (name : ℕ) (i : Option ℕ) → Gives (ObjectAmong n) (qualified p w name i)
  a_qualified name None = a_named name
  a_qualified name (Some i) = and_then (a_named name) (λ o h. a_member_of name i o)

  type_of : (o : Object) → ObjectAmong n o → (s : Shape) → type_of_object o ≡ Some s → PointsAmong n s
  type_of (AType u) h s is = subst (PointsAmong n) (some_same u s is) h
  type_of (AConstant c) h s is = none_some s is
  type_of _ h s is = none_some s is

  pub a_type_named : (number name : ℕ) (i : Option ℕ) → Gives (PointsAmong n) (type_named p w number name i)
  a_type_named number name i = and_then (a_qualified name i) (λ o h. at_last number (place p name) (type_of_object o) (λ s is. type_of o h s is))

  -- ---- names as operands

  module _ (before later : List (Option ℕ)) (same : (k : ℕ) → k < n → slice_get later k ≡ slice_get before k) where
    abbrev pub Stays : Operand → Type 0
    Stays = OperandStays n before later same

    pub whole_stays : (v : Variable) → ObjectAmong n (AVariable v) → Stays (whole_variable w v)
    whole_stays v h = record { shape = h.0; what = declared_stays n before later same v.place h.1 }

    narrowing_among : (d : Place) (ns : List Narrowing) → Each (NarrowingAmong n) ns → (x : Narrowing) → narrowing_of d ns ≡ Some x → NarrowingAmong n x
    narrowing_among d [] all x h = none_some x h
    narrowing_among d (y ∷ ys) all x h = by (narrowing_among d ys all.1 x) (is_place d y.variable) h
      where
        by : (narrowing_of d ys ≡ Some x → NarrowingAmong n x) → (b : Bool) → (if b then Some y else narrowing_of d ys) ≡ Some x → NarrowingAmong n x
        by rest true i = subst (NarrowingAmong n) (some_same y x i) all.0
        by rest false i = rest i

    narrowed_stays : (x : Operand) → Stays x → (is_pointer_ : Bool) (o : Option Narrowing) → ((k : Narrowing) → o ≡ Some k → NarrowingAmong n k) → Stays (narrowed_to x is_pointer_ o)
    narrowed_stays x h b None all = h
    narrowed_stays x h true (Some k) all = record { shape = all k refl; what = ap (λ a. Guard a k.tag) (form_stays n before later same x h) }
    narrowed_stays x h false (Some k) all = record { shape = all k refl; what = ap (λ a. Narrow a k.tag) (place_stays n before later same x h) }

    variable_stays : (v : Variable) → ObjectAmong n (AVariable v) → Stays (variable_read p w v)
    variable_stays v h = narrowed_stays (whole_variable w v) (whole_stays v h) (is_pointer v.shape) (narrowing_of v.place w.narrowed) (λ k is. narrowing_among v.place w.narrowed among.narrowed k is)

    constant_stays : (c : Constant) → ObjectAmong n (AConstant c) → Stays (of_constant c)
    constant_stays (TheBits s bits) h = record { shape = h; what = refl }
    constant_stays (TheChars cs) h = record { shape = tt; what = tt }

    a_object : (at : ℕ) (o : Object) → ObjectAmong n o → Gives Stays (object_operand p w at o)
    a_object at (AConstant c) h = keeps Stays (of_constant c) (constant_stays c h)
    a_object at (AVariable v) h = keeps Stays (variable_read p w v) (variable_stays v h)
    a_object at (AProcedure f s is_local) h = keeps Stays _ (record { shape = h; what = tt })
    a_object at (AType s) h = breaks Stays 31 at
    a_object at _ h = breaks Stays 31 at

    -- what a designator has come to
    abbrev pub StageStays : Stage → Type 0
    StageStays (Whole o) = ObjectAmong n o
    StageStays (Partly x) = Stays x
    StageStays (Ended x) = Stays x

    pub a_begun : (at : ℕ) (s : Stage) → StageStays s → Gives Stays (begun p w at s)
    a_begun at (Whole o) h = a_object at o h
    a_begun at (Partly x) h = keeps Stays x h
    a_begun at (Ended x) h = breaks Stays 31 at

    pub a_finished : (at : ℕ) (s : Stage) → StageStays s → Gives Stays (finished p w at s)
    a_finished at (Whole o) h = a_object at o h
    a_finished at (Partly x) h = keeps Stays x h
    a_finished at (Ended x) h = keeps Stays x h
