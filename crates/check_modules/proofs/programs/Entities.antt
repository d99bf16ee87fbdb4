-- What names stand for, as the program has it, and that it stays.
use Rattle.std.proofs.Common.{◌≡◌, ℕ, zero, suc, ◌+◌, ◌<◌, ◌≤◌, List, [], ◌∷◌, ◌++◌, map, length, take, get_or, Bool, true, false, Option, Some, None, refl, sym, ap, ap₂, ◌∙◌, subst, arith}
use Rattle.std.specs.Prelude.{slice_get, slice_index_or, slice_range, nat_le, if◌then◌else◌}
use Rattle.ob_types.proofs.Tests.{none_some, some_same}
use Rattle.ob_types.specs.Table.{Table}
use Rattle.ob_types.specs.Operators.{truth}
use Rattle.ob_types.specs.declared.program.Constant.{Constant as ConstantMade}
use Rattle.ob_types.specs.declared.program.Entity.{Entity}
use Rattle.ob_types.specs.declared.program.Entity.TheVariants as TheEntity
use Rattle.ob_types.specs.declared.program.Object.{Object}
use Rattle.ob_judge.specs.Image as I
use Rattle.ob_judge.specs.Scopes.{part}
use Rattle.ob_judge.specs.Making.{entity_of, declared_as}
use Rattle.judged_tree.specs.Plain.{plain_constant, plain_entity, plain_object}
use Rattle.check_types.specs.declared.types.TypeRef.{TypeRef}
use Rattle.check_types.specs.declared.table.TypeTable.{TypeTable}
use Rattle.check_types.specs.declared.names.scope.Named.TheVariants as TheNamed
use Rattle.check_types.specs.declared.names.scope.Constant.{Constant}
use Rattle.check_types.specs.names.Meaning.{constant_of, object_of}
use Rattle.check_making.specs.declared.making.Offered.{Offered}
use Rattle.check_making.specs.declared.making.TextPlace.{TextPlace}
use Rattle.check_making.specs.Making.{offered_of, characters_at, AreTextPlaces}
use Rattle.check_making.proofs.scopes.Procedures.{number_means, number_still}
use Rattle.check_modules.specs.programs.Entities.{IsTold, AreTold, IsEntity, AreObjects, made_of}

-- ---- strings at their places

places_there : (texts : List (List ℕ)) (xs : List TextPlace) (strings : List (List ℕ)) → AreTextPlaces texts xs strings → (k : ℕ) (x : TextPlace) → slice_get xs k ≡ Some x → characters_at texts x ≡ slice_index_or strings k []
places_there texts [] strings h k x at = none_some x at
places_there texts (y ∷ xs) [] h k x at = absurd h
places_there texts (y ∷ xs) (cs ∷ strings) h zero x at = ap (characters_at texts) (sym (some_same y x at)) ∙ h.0
places_there texts (y ∷ xs) (cs ∷ strings) h (suc k) x at = places_there texts xs strings h.1 k x at

places_past : (texts : List (List ℕ)) (xs : List TextPlace) (strings : List (List ℕ)) → AreTextPlaces texts xs strings → (k : ℕ) → slice_get xs k ≡ None → slice_index_or strings k [] ≡ []
places_past texts [] [] h k at = refl
places_past texts [] (cs ∷ strings) h k at = absurd h
places_past texts (y ∷ xs) [] h k at = refl
places_past texts (y ∷ xs) (cs ∷ strings) h zero at = none_some y (sym at)
places_past texts (y ∷ xs) (cs ∷ strings) h (suc k) at = places_past texts xs strings h.1 k at

pub text_there : (texts : List (List ℕ)) (xs : List TextPlace) (strings : List (List ℕ)) (k : ℕ) (x d : TextPlace) → k < length xs → x ≡ get_or xs k d → AreTextPlaces texts xs strings
    → I.Chars (part (slice_index_or texts x.«module» []) x.from x.to) ≡ I.Chars (slice_index_or strings k [])
text_there texts xs strings k x d l e h = ap I.Chars (places_there texts xs strings h k x (item_there xs k d l ∙ ap (λ y. Some y) (sym e)))
  where
    item_there : (xs : List TextPlace) (k : ℕ) (d : TextPlace) → k < length xs → slice_get xs k ≡ Some (get_or xs k d)
    item_there [] k d l = absurd (omega (arith, l))
    item_there (y ∷ xs) zero d l = refl
    item_there (y ∷ xs) (suc k) d l = item_there xs k d (omega (arith, l))

nothing_at : (cs : List ℕ) → part cs 0 0 ≡ []
nothing_at cs = by (nat_le 0 (length cs))
  where
    by : (b : Bool) → (if b then slice_range cs 0 0 else []) ≡ []
    by true = refl
    by false = refl

pub text_past : (texts : List (List ℕ)) (xs : List TextPlace) (strings : List (List ℕ)) (k : ℕ) → length xs ≤ k → AreTextPlaces texts xs strings
    → I.Chars (part (slice_index_or texts 0 []) 0 0) ≡ I.Chars (slice_index_or strings k [])
text_past texts xs strings k l h = ap I.Chars (nothing_at (slice_index_or texts 0 []) ∙ sym (places_past texts xs strings h k (none_there xs k l)))
  where
    none_there : (xs : List TextPlace) (k : ℕ) → length xs ≤ k → slice_get xs k ≡ None
    none_there [] k l = refl
    none_there (y ∷ xs) zero l = absurd (omega (arith, l))
    none_there (y ∷ xs) (suc k) l = none_there xs k (omega (arith, l))

-- ---- one object

pub of_truth : (n : ℕ) (b : Bool) → n < 2 → ((b ≡ true → n ≡ 1) × (b ≡ false → n ≡ 1 → ⊥)) → truth b ≡ n
of_truth n true l h = sym (h.0 refl)
of_truth zero false l h = refl
of_truth (suc zero) false l h = absurd (h.1 refl refl)
of_truth (suc (suc n)) false l h = absurd (omega (arith, l))

module _ (texts strings : List (List ℕ)) (t : TypeTable) where
  pub constant_is : (c : Constant) (made : ConstantMade) → plain_constant texts made ≡ constant_of t.types strings c → IsEntity texts strings t (TheNamed.Constant c) (Some (TheEntity.Constant made))
  constant_is c made is = record { same = ap (λ x. Some (I.OfConstant x)) is; stays = λ u g. refl }

  pub type_is : (k : TypeRef) (n : ℕ) → slice_get t.entries.items n ≡ Some k → IsEntity texts strings t (TheNamed.Type k) (Some (TheEntity.Type n))
  type_is k n at = record {
    same = ap (λ x. Some (I.OfType x)) (number_means t n k at);
    stays = λ u g. ap (λ x. Some (I.OfType x)) (number_still t u g n k at);
  }

-- ---- all of them, one after the other

module _ (texts strings : List (List ℕ)) (t : TypeTable) where
  objects_none : AreObjects texts t [] []
  objects_none = record { same = refl; stays = λ u g. refl }

  map_onto : (u : Table) (xs : List Object) (x : Object) → map (plain_object u texts) (xs ++ x ∷ []) ≡ map (plain_object u texts) xs ++ plain_object u texts x ∷ []
  map_onto u [] x = refl
  map_onto u (y ∷ xs) x = ap (λ ys. plain_object u texts y ∷ ys) (map_onto u xs x)

  offered_onto : (xs : List Offered) (x : Offered) → offered_of t.types strings (xs ++ x ∷ []) ≡ offered_of t.types strings xs ++ declared_as x.name x.declared.exported (entity_of (object_of t.types strings x.declared.named))
  offered_onto [] x = right_none (declared_as x.name x.declared.exported (entity_of (object_of t.types strings x.declared.named)))
    where
      right_none : (ds : List I.Declared) → ds ++ [] ≡ ds
      right_none [] = refl
      right_none (d ∷ ds) = ap (λ es. d ∷ es) (right_none ds)
  offered_onto (y ∷ xs) x =
      ap (λ ds. declared_as y.name y.declared.exported (entity_of (object_of t.types strings y.declared.named)) ++ ds) (offered_onto xs x)
      ∙ sym (joined (declared_as y.name y.declared.exported (entity_of (object_of t.types strings y.declared.named))) (offered_of t.types strings xs) (declared_as x.name x.declared.exported (entity_of (object_of t.types strings x.declared.named))))
    where
      joined : (as' bs cs : List I.Declared) → (as' ++ bs) ++ cs ≡ as' ++ (bs ++ cs)
      joined [] bs cs = refl
      joined (a ∷ as') bs cs = ap (λ ds. a ∷ ds) (joined as' bs cs)

  one_more : (xs : List Object) (os : List Offered) (o : Offered) (e : Option Entity) (made : Object) → AreObjects texts t xs (offered_of t.types strings os) → IsEntity texts strings t o.declared.named (Some made.entity)
      → made.name ≡ o.name → made.exported ≡ o.declared.exported → AreObjects texts t (xs ++ made ∷ []) (offered_of t.types strings (os ++ o ∷ []))
  one_more xs os o e made h is name exported = record {
    same = map_onto t.types xs made
        ∙ ap₂ {C = List I.Declared} (λ ys zs. ys ++ zs) h.same
        (ap (λ n. record { name = n; exported = made.exported; entity = plain_entity t.types texts made.entity } ∷ []) name
        ∙ ap (λ b. record { name = o.name; exported = b; entity = plain_entity t.types texts made.entity } ∷ []) exported
        ∙ ap (declared_as o.name o.declared.exported) is.same)
        ∙ sym (offered_onto os o);
    stays = λ u g. map_onto u.types xs made
        ∙ ap₂ {C = List I.Declared} (λ ys zs. ys ++ zs) (h.stays u g) (ap (λ x. record { name = made.name; exported = made.exported; entity = x } ∷ []) (inner (is.stays u g)))
        ∙ sym (map_onto t.types xs made);
  }
    where
      inner : {a b : I.Entity} → Some a ≡ Some b → a ≡ b
      inner e = cc

  none_more : (xs : List Object) (os : List Offered) (o : Offered) → AreObjects texts t xs (offered_of t.types strings os) → IsEntity texts strings t o.declared.named None → AreObjects texts t xs (offered_of t.types strings (os ++ o ∷ []))
  none_more xs os o h is = record {
    same = h.same ∙ right_none (offered_of t.types strings os) ∙ ap (λ ds. offered_of t.types strings os ++ ds) (ap (declared_as o.name o.declared.exported) is.same) ∙ sym (offered_onto os o);
    stays = h.stays;
  }
    where
      right_none : (ds : List I.Declared) → ds ≡ ds ++ []
      right_none [] = refl
      right_none (d ∷ ds) = ap (λ es. d ∷ es) (right_none ds)

  take_suc : (os : List Offered) (i : ℕ) (d : Offered) → i < length os → take (suc i) os ≡ take i os ++ get_or os i d ∷ []
  take_suc [] i d l = absurd (omega (arith, l))
  take_suc (o ∷ os) zero d l = refl
  take_suc (o ∷ os) (suc i) d l = ap (λ ys. o ∷ ys) (take_suc os i d (omega (arith, l)))

  take_next : (os : List Offered) (i : ℕ) (d : Offered) → i < length os → take (i + 1) os ≡ take i os ++ get_or os i d ∷ []
  take_next os i d l = ap (λ n. take n os) (up i) ∙ take_suc os i d l
    where
      up : (n : ℕ) → n + 1 ≡ suc n
      up n = omega arith

  pub objects_next : (xs : List Object) (os : List Offered) (i : ℕ) (d : Offered) (made : Object) → i < length os → AreObjects texts t xs (offered_of t.types strings (take i os)) → IsEntity texts strings t (get_or os i d).declared.named (Some made.entity)
      → made.name ≡ (get_or os i d).name → made.exported ≡ (get_or os i d).declared.exported → AreObjects texts t (xs ++ made ∷ []) (offered_of t.types strings (take (i + 1) os))
  objects_next xs os i d made l h is name exported = subst (λ ys. AreObjects texts t (xs ++ made ∷ []) (offered_of t.types strings ys)) (sym (take_next os i d l)) (one_more xs (take i os) (get_or os i d) None made h is name exported)

  pub objects_pass : (xs : List Object) (os : List Offered) (i : ℕ) (d : Offered) → i < length os → AreObjects texts t xs (offered_of t.types strings (take i os)) → IsEntity texts strings t (get_or os i d).declared.named None → AreObjects texts t xs (offered_of t.types strings (take (i + 1) os))
  objects_pass xs os i d l h is = subst (λ ys. AreObjects texts t xs (offered_of t.types strings ys)) (sym (take_next os i d l)) (none_more xs (take i os) (get_or os i d) h is)

pub objects_put : (texts strings : List (List ℕ)) (t : TypeTable) (xs : List Object) (os : List Offered) (i : ℕ) (d o : Offered) (e : Option Entity) → i < length os → o ≡ get_or os i d
    → AreObjects texts t xs (offered_of t.types strings (take i os)) → IsEntity texts strings t o.declared.named e → AreObjects texts t (xs ++ made_of o e) (offered_of t.types strings (take (i + 1) os))
objects_put texts strings t xs os i d o (Some e) l is h entity =
    objects_next texts strings t xs os i d (record { name = o.name; exported = o.declared.exported; entity = e }) l h (subst (λ (x : Offered). IsEntity texts strings t x.declared.named (Some e)) is entity)
    (ap (λ (x : Offered). x.name) is) (ap (λ (x : Offered). x.declared.exported) is)
objects_put texts strings t xs os i d o None l is h entity =
    subst (λ ys. AreObjects texts t ys (offered_of t.types strings (take (i + 1) os))) (right_none xs)
    (objects_pass texts strings t xs os i d l h (subst (λ (x : Offered). IsEntity texts strings t x.declared.named None) is entity))
  where
    right_none : (ys : List Object) → ys ≡ ys ++ []
    right_none [] = refl
    right_none (y ∷ ys) = ap (λ zs. y ∷ zs) (right_none ys)

pub told_at : (entries : List TypeRef) (os : List Offered) (i : ℕ) (d : Offered) → i < length os → AreTold entries os → IsTold entries (get_or os i d).declared.named
told_at entries [] i d l h = absurd (omega (arith, l))
told_at entries (o ∷ os) zero d l h = h.0
told_at entries (o ∷ os) (suc i) d l h = told_at entries os i d (omega (arith, l)) h.1

pub objects_first : (texts strings : List (List ℕ)) (t : TypeTable) → AreObjects texts t [] []
objects_first texts strings t = record { same = refl; stays = λ u g. refl }
