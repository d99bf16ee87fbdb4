-- How many shapes a table has.
use Rattle.std.proofs.Common.{◌≡◌, ℕ, ◌+◌, ◌≤◌, List, [], ◌∷◌, ◌++◌, length, arith}
use Rattle.std.proofs.lemmas.List.{length-append, get_or_past}
use Rattle.ob_types.specs.declared.types.TypeKind.{TypeKind}
use Rattle.ob_types.specs.Table.{Table}
use Rattle.ob_judge.specs.Shapes.{Shape, Nothing}
use Rattle.judged_tree.specs.TypeShapes.{kind_shape, next_pointer, shapes_after, shapes_of, shape_of}

module _ (t : Table) where
  length-shapes_after : (shapes : List Shape) (p : ℕ) (ks : List TypeKind) → length (shapes_after t shapes p ks) ≡ length shapes + length ks
  length-shapes_after shapes p [] = omega arith
  length-shapes_after shapes p (k ∷ ks) =
      let more = length-shapes_after (shapes ++ kind_shape t shapes p k ∷ []) (next_pointer t k p) ks in
      let one = length-append shapes (kind_shape t shapes p k ∷ []) in
      omega (arith, more, one)

  -- a number that the table doesn't have is that of no type
  pub shape_past : (k : ℕ) → length t.kinds ≤ k → shape_of t k ≡ Nothing
  shape_past k l = let e = length-shapes_after [] 0 t.kinds in get_or_past (shapes_of t) k Nothing (omega (arith, e, l))
