-- Kinds of the table's types beside their shapes.
use Rattle.std.proofs.Common.{◌≡◌, ℕ, ◌+◌, ◌<◌, ◌≤◌, List, [], ◌∷◌, ◌++◌, length, true, ◌==◌, Option, Some, None, refl, sym, ap, ◌∙◌, subst, arith, ◌⊎◌, inl, inr, eq-eqb}
use Rattle.std.specs.Prelude.{slice_get}
use Rattle.std.proofs.lemmas.List.{get_or_past, length-append}
use Rattle.ob_types.specs.declared.types.TypeKind.{TypeKind}
use Rattle.ob_types.specs.declared.types.TypeKind.TheVariants as TheKind
use Rattle.ob_types.specs.declared.types.Signature.{Signature}
use Rattle.ob_types.specs.Layout.{kind_of}
use Rattle.ob_types.specs.Table.{Table}
use Rattle.ob_types.proofs.Tests.{less_or_past}
use Rattle.ob_judge.specs.Shapes.{Shape, Nothing, same, base_of}
use Rattle.judged_tree.specs.TypeShapes.{kind_shape, shapes_after, shapes_of, shape_of, pointer_bases}
use Rattle.judged_tree.proofs.Numbers.{shape-of_kind, pointer_of, pointer-base}
use Rattle.judged_tree.proofs.SameShapes.{same-is}
use Rattle.judged_well.specs.OfProgram.{IsFaithful}
use Rattle.judged_tree.specs.TypeShapes.{next_pointer}
use Rattle.judged_tree.specs.Tables.{HasPartsBefore}
use Rattle.judged_tree.specs.Tables.{is_before}

module _ (t : Table) where
  lengths : (ks : List TypeKind) (shapes : List Shape) (p : ℕ) → length (shapes_after t shapes p ks) ≡ length shapes + length ks
  lengths [] shapes p = omega arith
  lengths (k ∷ ks) shapes p =
      let h = lengths ks (shapes ++ kind_shape t shapes p k ∷ []) (next_pointer t k p) in
      let g = length-append shapes (kind_shape t shapes p k ∷ []) in
      omega (arith, h, g)

  past_shape : (k : ℕ) → length t.kinds ≤ k → shape_of t k ≡ Nothing
  past_shape k l = let h = lengths t.kinds [] 0 in get_or_past (shapes_of t) k Nothing (omega (arith, h, l))

  module _ (ok : IsFaithful t) where
    -- the shape that an entry has
    abbrev pub here : ℕ → TypeKind → Shape
    here k kind = kind_shape t (shapes_of t) (pointer_of t k) kind

    pub is_here : (k : ℕ) → shape_of t k ≡ here k (kind_of t k)
    is_here k = by (less_or_past k (length t.kinds))
      where
        by : (k < length t.kinds) ⊎ (length t.kinds ≤ k) → shape_of t k ≡ here k (kind_of t k)
        by (inl l) = shape-of_kind t ok.front k l
        by (inr l) = past_shape k l ∙ sym (ap (here k) (get_or_past t.kinds k TheKind.Nothing l))

    -- two numbers of one shape are one, where the first isn't past the table
    pub one_number : (a b : ℕ) → (shape_of t a ≡ Nothing → ⊥) → shape_of t a ≡ shape_of t b → a ≡ b
    one_number a b some e = by (less_or_past a (length t.kinds)) (less_or_past b (length t.kinds))
      where
        by : (a < length t.kinds) ⊎ (length t.kinds ≤ a) → (b < length t.kinds) ⊎ (length t.kinds ≤ b) → a ≡ b
        by (inl l) (inl k) = ok.shapes.one a b l k e
        by (inr l) c = absurd (some (past_shape a l))
        by (inl l) (inr k) = absurd (some (e ∙ past_shape b k))

    pub numbers_there : (a b : ℕ) → a < length t.kinds → b < length t.kinds → same (shape_of t a) (shape_of t b) ≡ true → (a == b) ≡ true
    numbers_there a b l k h = eq-eqb a b (ok.shapes.one a b l k (same-is (shape_of t a) (shape_of t b) h))

    -- the base of a pointer type of the table
    pub base_here : (k r : ℕ) → kind_of t k ≡ TheKind.Pointer r → base_of (slice_get (pointer_bases t.kinds) (pointer_of t k)) ≡ Some r
    base_here k r is = ap base_of (pointer-base t k r is)

    pub there_of : (k : ℕ) → (shape_of t k ≡ Nothing → ⊥) → k < length t.kinds
    there_of k some = by (less_or_past k (length t.kinds))
      where
        by : (k < length t.kinds) ⊎ (length t.kinds ≤ k) → k < length t.kinds
        by (inl l) = l
        by (inr l) = absurd (some (past_shape k l))

    kind_there : (k : ℕ) → (kind_of t k ≡ TheKind.Nothing → ⊥) → k < length t.kinds
    kind_there k some = by (less_or_past k (length t.kinds))
      where
        by : (k < length t.kinds) ⊎ (length t.kinds ≤ k) → k < length t.kinds
        by (inl l) = l
        by (inr l) = absurd (some (get_or_past t.kinds k TheKind.Nothing l))

    pub signature_there : (k g : ℕ) → kind_of t k ≡ TheKind.Procedure g → (x : Signature) × (slice_get t.signatures g ≡ Some x)
    signature_there k g is =
        let l = kind_there k (λ z. absurd (let y = sym is ∙ z in cc)) in
        by (slice_get t.signatures g) refl (subst (λ q. HasPartsBefore t k q) is (ok.front.parts k l))
      where
        by : (o : Option Signature) → slice_get t.signatures g ≡ o → is_before k o → (x : Signature) × (slice_get t.signatures g ≡ Some x)
        by None i h = absurd h
        by (Some x) i h = (x, i)

    pub element_there : (k : ℕ) (n : Option ℕ) (a : ℕ) → kind_of t k ≡ TheKind.Array n a → a < length t.kinds
    element_there k n a is = there_of a (ok.element k n a is)
