-- Worlds that differ in whether a constant is asked for, and in what is narrowed.
use Rattle.std.proofs.Common.{◌≡◌, ℕ, List, [], ◌∷◌, Bool, true, false, not, Option, Some, None, refl, sym, ap, ap₂, ◌∙◌, subst, eqb-true}
use Rattle.std.specs.Prelude.{if◌then◌else◌, nat_eq, slice_get}
use Rattle.ob_types.proofs.Tests.{no, some_same, and_of}
use Rattle.ob_judge.specs.Shapes.{Shape}
use Rattle.ob_judge.specs.Image.{Place, Done, Global, Local, Parameter}
use Rattle.ob_judge.specs.Scopes.{Imported, TheOut, TheIn, Earlier, KnownModule, Object, AConstant, AVariable, Narrowing, World, Source}
use Rattle.ob_judge.specs.Names.{names_in, names_of, is_place, narrowing_of}
use Rattle.ob_judge.specs.Cases.{tag_of, narrow}
use Rattle.judged_well.specs.Forms.{Named}
use Rattle.judged_well.specs.Setting.{Setting}
use Rattle.judged_well.specs.Typing.{outline, named}
use Rattle.judged_well.specs.Standing.{is_own, is_foreign, IsForeign, IsUnnarrowed, NarrowStands, NarrowsTo, Right}

module _ (p : Source) where
  place_alike : (w v : World) (a b : Place) → is_place a b ≡ is_place a b
  place_alike w v (Global m n) (Global k j) = refl
  place_alike w v (Local n) (Local j) = refl
  place_alike w v (Parameter n) (Parameter j) = refl
  place_alike w v _ _ = refl

  pub narrowing_alike : (w v : World) (d : Place) (ns : List Narrowing) → narrowing_of d ns ≡ narrowing_of d ns
  narrowing_alike w v d [] = refl
  narrowing_alike w v d (n ∷ ns) = ap₂ (λ b o. if b then Some n else o) (place_alike w v d n.variable) (narrowing_alike w v d ns)

  in_alike : (w v : World) (o : Option KnownModule) (q : List ℕ) → names_in o q ≡ names_in o q
  in_alike w v None q = refl
  in_alike w v (Some m) q = refl

  pub names_alike : (w v : World) → w.modules ≡ v.modules → (m : Imported) (q : List ℕ) → names_of p w m q ≡ names_of p v m q
  names_alike w v same TheOut q = refl
  names_alike w v same TheIn q = refl
  names_alike w v same (Earlier n) q = in_alike w v (slice_get w.modules n) q ∙ ap (λ ms. names_in (slice_get ms n) q) same

  pub place_is : (w : World) (a b : Place) → is_place a b ≡ true → a ≡ b
  place_is w (Global m n) (Global k j) h = let g = and_of (nat_eq m k) (nat_eq n j) h in ap₂ (λ x y. Global x y) (eqb-true m k g.0) (eqb-true n j g.1)
  place_is w (Local n) (Local j) h = ap (λ x. Local x) (eqb-true n j h)
  place_is w (Parameter n) (Parameter j) h = ap (λ x. Parameter x) (eqb-true n j h)
  place_is w _ _ h = no h

  module _ (e : Setting) where
    -- no variable of another module is one of this module
    pub apart : (w : World) (here : ℕ) (a b : Place) → is_foreign e here a ≡ true → is_own e here b ≡ true → is_place a b ≡ false
    apart w here a b f o = by (is_place a b) refl
      where
        never : (d : Place) → is_foreign e here d ≡ true → is_own e here d ≡ true → false ≡ true
        never (Global m n) f o = sym (ap not o) ∙ f
        never Done f o = o
        never _ f o = f

        by : (c : Bool) → is_place a b ≡ c → c ≡ false
        by true i = no (never b (subst (λ d. is_foreign e here d ≡ true) (place_is w a b i) f) o)
        by false i = refl

    pub right_constant : (w : World) → Right e p w → Right e p (record w { constant = true })
    right_constant w right =
        let v : World = record w { constant = true } in
        record {
          names = right.names;
          members = λ m q x is. let h = right.members m q x (names_alike w v refl m q ∙ is) in (h.0, unnarrowed v x.object h.1, h.2);
          extends = right.extends;
          there = right.there;
          targets = right.targets;
          fields = right.fields;
          narrowed = λ d n is. right.narrowed d n (narrowing_alike w v d w.narrowed ∙ is);
        }
      where
        unnarrowed : (v : World) (o : Object) → IsUnnarrowed e p w o → IsUnnarrowed e p (record w { constant = true }) o
        unnarrowed v (AVariable x) h = narrowing_alike (record w { constant = true }) w x.place w.narrowed ∙ h
        unnarrowed v (AConstant c) h = tt
        unnarrowed v _ h = tt

    -- in a part of a CASE on the type of a variable of one's own
    pub right_narrow : (w : World) → Right e p w → (d : Place) (t : Shape) (n : Named) → named e (outline e) d ≡ Some n → NarrowsTo e (tag_of w.known t) n t → is_own e w.module_number d ≡ true → Right e p (narrow w d t)
    right_narrow w right d t n is to own =
        let v = narrow w d t in
        record {
          names = right.names;
          members = λ m q x at. let h = right.members m q x (names_alike w v refl m q ∙ at) in (h.0, unnarrowed x.object h.1 h.2, h.2);
          extends = right.extends;
          there = right.there;
          targets = right.targets;
          fields = right.fields;
          narrowed = λ c k at. by c k (is_place c d) refl at;
        }
      where
        found : (c : Place) → is_place c d ≡ true → (k : Narrowing) → record { variable = d; shape = t; tag = tag_of w.known t } ≡ k → NarrowStands e c k
        found c i k j = subst (λ y. NarrowStands e c y) j (record { names = n; are = ap (λ y. named e (outline e) y) (place_is (narrow w d t) c d i) ∙ is; to = to })

        by : (c : Place) (k : Narrowing) (b : Bool) → is_place c d ≡ b
            → (if b then Some (record { variable = d; shape = t; tag = tag_of w.known t }) else narrowing_of c w.narrowed) ≡ Some k → NarrowStands e c k
        by c k true i at = found c i k (some_same (record { variable = d; shape = t; tag = tag_of w.known t }) k at)
        by c k false i at = right.narrowed c k (narrowing_alike w (narrow w d t) c w.narrowed ∙ at)

        unnarrowed : (o : Object) → IsUnnarrowed e p w o → IsForeign e w o → IsUnnarrowed e p (narrow w d t) o
        unnarrowed (AVariable x) h f =
            ap (λ b. if b then Some (record { variable = d; shape = t; tag = tag_of w.known t }) else narrowing_of x.place w.narrowed) (apart (narrow w d t) w.module_number x.place d f own)
            ∙ narrowing_alike (narrow w d t) w x.place w.narrowed ∙ h
        unnarrowed (AConstant c) h f = tt
        unnarrowed _ h f = tt
