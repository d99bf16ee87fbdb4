-- Where entries are sound, types with different numbers are different.
use Rattle.std.proofs.Common.{◌≡◌, ℕ, ◌<◌, ◌≤◌, List, length, Bool, true, false, ◌&&◌, ◌||◌, nat_eq, Option, Some, refl, sym, ap, ◌∙◌, subst, eqb-true, eq-eqb, ◌⊎◌, inl, inr}
use Rattle.std.specs.Prelude.{◌==◌, slice_get}
use Rattle.ob_types.specs.Layout.{kind_of}
use Rattle.ob_types.specs.Table.{Table}
use Rattle.ob_types.specs.declared.types.Signature.{Signature}
use Rattle.ob_types.proofs.Tests.{no, and_of, less_or_past}
use Rattle.ob_judge.specs.Shapes.{Shape, Nothing, same}
use Rattle.ob_judge.specs.Parts.{is_nothing}
use Rattle.judged_tree.specs.TypeShapes.{shape_of}
use Rattle.judged_tree.specs.Tables.{same_entry, same_signatures, HasEachOnce, HasOneShapeEach}
use Rattle.judged_tree.proofs.SameShapes.{same-self, same-is}
use Rattle.judged_tree.proofs.OneShape.{one-shape}
use Rattle.check_types.specs.declared.types.TypeRef.{TypeRef}
use Rattle.check_types.specs.declared.types.TypeRef.TheVariants as TheType
use Rattle.check_types.specs.TypeMeaning.{kind_of_type}
use Rattle.check_types.specs.TableFacts.{is_one, IsApart}
use Rattle.table_builder.specs.Sound.{IsSound}
use Rattle.table_builder.proofs.Meaning.{entry_there, kind_at, front}
use Rattle.table_builder.proofs.Shapes.{shape_past}

alike : (x y : Bool) → (x ≡ true → y ≡ true) → (y ≡ true → x ≡ true) → x ≡ y
alike true true f g = refl
alike true false f g = no (f refl)
alike false true f g = no (g refl)
alike false false f g = refl

left_holds : (x y : Bool) → x ≡ true → (x || y) ≡ true
left_holds true y h = refl
left_holds false y h = no h

right_holds : (x y : Bool) → y ≡ true → (x || y) ≡ true
right_holds true y h = refl
right_holds false y h = h

one_holds : (x y : Bool) → (x || y) ≡ true → (x ≡ true) ⊎ (y ≡ true)
one_holds true y h = inl refl
one_holds false y h = inr h

nothing_is : (s : Shape) → is_nothing s ≡ true → s ≡ Nothing
nothing_is Nothing h = refl
nothing_is _ h = no h

module _ (t : Table) (entries : List TypeRef) (bases : List (Option ℕ)) (ok : IsSound t entries bases) where
  -- two entries that say the same are one
  entries_one : (a b : ℕ) (e f : TypeRef) → slice_get entries a ≡ Some e → slice_get entries b ≡ Some f → same_entry t (kind_of_type bases e) (kind_of_type bases f) ≡ true → a ≡ b
  entries_one a b TheType.Int TheType.Int h g s = ok.once a b TheType.Int h g
  entries_one a b TheType.Bool TheType.Bool h g s = ok.once a b TheType.Bool h g
  entries_one a b TheType.Char TheType.Char h g s = ok.once a b TheType.Char h g
  entries_one a b TheType.Byte TheType.Byte h g s = ok.once a b TheType.Byte h g
  entries_one a b TheType.Set TheType.Set h g s = ok.once a b TheType.Set h g
  entries_one a b TheType.Nil TheType.Nil h g s = ok.once a b TheType.Nil h g
  entries_one a b TheType.Nothing TheType.Nothing h g s = ok.once a b TheType.Nothing h g
  entries_one a b (TheType.Text n) (TheType.Text m) h g s = ok.once a b (TheType.Text m) (h ∙ ap (λ k. Some (TheType.Text k)) (eqb-true n m s)) g
  entries_one a b (TheType.Record n) (TheType.Record m) h g s = ok.once a b (TheType.Record m) (h ∙ ap (λ k. Some (TheType.Record k)) (eqb-true n m s)) g
  entries_one a b (TheType.Open n) (TheType.Open m) h g s = ok.once a b (TheType.Open m) (h ∙ ap (λ k. Some (TheType.Open k)) (eqb-true n m s)) g
  entries_one a b (TheType.Array n e) (TheType.Array m f) h g s =
      let p = and_of (n == m) (e == f) s in
      ok.once a b (TheType.Array m f) (h ∙ arrays (eqb-true n m p.0) (eqb-true e f p.1)) g
    where
      arrays : n ≡ m → e ≡ f → Some (TheType.Array n e) ≡ Some (TheType.Array m f)
      arrays p q = cc
  entries_one a b (TheType.Procedure f) (TheType.Procedure q) h g s = procedures (slice_get t.signatures f) (slice_get t.signatures q) refl refl s
    where
      procedures : (x y : Option Signature) → slice_get t.signatures f ≡ x → slice_get t.signatures q ≡ y → same_signatures x y ≡ true → a ≡ b
      procedures (Some x) (Some y) i j s = ok.once a b (TheType.Procedure q) (h ∙ ap (λ k. Some (TheType.Procedure k)) (ok.signature f q x y i j s)) g
      procedures _ _ i j s = no s
  entries_one a b _ _ h g s = no s

  pub each_once : HasEachOnce t
  each_once = record {
    once = λ a b l m s.
        let e = entry_there t entries bases ok a l in
        let f = entry_there t entries bases ok b m in
        entries_one a b e.0 f.0 e.1 f.1 (subst (λ k. same_entry t k (kind_of_type bases f.0) ≡ true) (kind_at t entries bases ok a e.0 e.1) (subst (λ k. same_entry t (kind_of t a) k ≡ true) (kind_at t entries bases ok b f.0 f.1) s));
  }

  pub one_shape : HasOneShapeEach t
  one_shape = one-shape t each_once (front t entries bases ok)

  both_nothing : (s u : Shape) → is_nothing s ≡ true → s ≡ u → (is_nothing s && is_nothing u) ≡ true
  both_nothing s u h e = subst (λ v. (is_nothing s && is_nothing v) ≡ true) e (twice (is_nothing s) h)
    where
      twice : (b : Bool) → b ≡ true → (b && b) ≡ true
      twice true h = refl
      twice false h = no h

  pub each_apart : IsApart t
  each_apart a b = alike (same (shape_of t a) (shape_of t b)) (is_one t a b)
      (λ h. to_one (same-is (shape_of t a) (shape_of t b) h) (less_or_past a (length t.kinds)) (less_or_past b (length t.kinds)))
      (λ h. from_one (one_holds (nat_eq a b) (is_nothing (shape_of t a) && is_nothing (shape_of t b)) h))
    where
      past : (k : ℕ) → length t.kinds ≤ k → is_nothing (shape_of t k) ≡ true
      past k l = ap is_nothing (shape_past t k l)

      to_one : shape_of t a ≡ shape_of t b → (a < length t.kinds) ⊎ (length t.kinds ≤ a) → (b < length t.kinds) ⊎ (length t.kinds ≤ b) → is_one t a b ≡ true
      to_one e (inl l) (inl m) = left_holds (nat_eq a b) (is_nothing (shape_of t a) && is_nothing (shape_of t b)) (eq-eqb a b (one_shape.one a b l m e))
      to_one e (inr l) m = right_holds (nat_eq a b) (is_nothing (shape_of t a) && is_nothing (shape_of t b)) (both_nothing (shape_of t a) (shape_of t b) (past a l) e)
      to_one e l (inr m) = right_holds (nat_eq a b) (is_nothing (shape_of t a) && is_nothing (shape_of t b)) (both_nothing (shape_of t a) (shape_of t b) (ap is_nothing e ∙ past b m) e)

      equal : (s u : Shape) → s ≡ u → same s u ≡ true
      equal s u e = subst (λ v. same s v ≡ true) e (same-self s)

      from_one : (nat_eq a b ≡ true) ⊎ ((is_nothing (shape_of t a) && is_nothing (shape_of t b)) ≡ true) → same (shape_of t a) (shape_of t b) ≡ true
      from_one (inl e) = equal (shape_of t a) (shape_of t b) (ap (shape_of t) (eqb-true a b e))
      from_one (inr h) = let p = and_of (is_nothing (shape_of t a)) (is_nothing (shape_of t b)) h in equal (shape_of t a) (shape_of t b) (nothing_is (shape_of t a) p.0 ∙ sym (nothing_is (shape_of t b) p.1))
