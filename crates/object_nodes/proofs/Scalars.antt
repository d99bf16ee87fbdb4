-- The scalars of a tree: each cell is a node of one scalar, and two of them share no byte. What memory holds can be said of them.
use Rattle.std.proofs.Common.{◌≡◌, ◌≢◌, ℕ, zero, suc, ◌+◌, ◌*◌, ◌<◌, ◌≤◌, ◌⊎◌, ⊎_elim, inl, inr, List, [], ◌∷◌, ◌++◌, length, Bool, Some, refl, sym, ap, subst, arith}
use Rattle.std.specs.Prelude.{slice_get}
use Rattle.ob_types.specs.Forms.{Form, repeated}
use Rattle.ob_types.proofs.Tests.{none_some, some_same}
use Rattle.ob_types.specs.Trees.{DataTree, Scalar, Array, Record, FieldRow, Empty, Field, Extend, tree_cells, tree_forms, row_forms, round_up, wide, tree_bytes, row_end}
use Rattle.std.proofs.lemmas.Bool.{cases_lt}
use Rattle.object_nodes.specs.Nodes.{Node, InFields, Nested, Meet, LieApart}
use Rattle.object_nodes.proofs.Meeting.{node_self, nodes_meet, same_levels, times_below}
use Rattle.object_nodes.proofs.Trees.{cells_forms, row_cells_forms}

get_split : (xs ys : List Form) (c : ℕ) (f : Form) → slice_get (xs ++ ys) c ≡ Some f → (slice_get xs c ≡ Some f) ⊎ ((d : ℕ) × (slice_get ys d ≡ Some f) × (c ≡ length xs + d))
get_split [] ys c f at = inr (c, at, omega arith)
get_split (x ∷ xs) ys zero f at = inl at
get_split (x ∷ xs) ys (suc c) f at = ⊎_elim (λ a. inl a) (λ h. let e = h.2 in inr (h.0, h.1, omega (arith, e))) (get_split xs ys c f at)

repeated_split : (n : ℕ) (xs : List Form) (c : ℕ) (f : Form) → slice_get (repeated n xs) c ≡ Some f → (i : ℕ) × (d : ℕ) × (i < n) × (slice_get xs d ≡ Some f) × (c ≡ i * length xs + d)
repeated_split zero xs c f at = none_some f at
repeated_split (suc n) xs c f at = ⊎_elim
    (λ a. (0, c, omega arith, a, omega arith))
    (λ h. let r = repeated_split n xs h.0 f h.1 in let lt = r.2 in let e = h.2 in let g = r.4 in
    let u : suc r.0 * length xs ≡ length xs + r.0 * length xs = omega arith in
    (suc r.0, r.1, omega (arith, lt), r.3, omega (arith, e, g, u)))
    (get_split xs (repeated n xs) c f at)

module _ (packed : Bool) where
  mutual
    pub scalar_node : (t : DataTree) (c : ℕ) (f : Form) → slice_get (tree_forms t) c ≡ Some f → (o : ℕ) × Node packed t c o (Scalar f)
    scalar_node (Scalar g) zero f at = (0, (refl, refl, ap Scalar (sym (some_same g f at))))
    scalar_node (Scalar g) (suc c) f at = none_some f at
    scalar_node (Array n t) c f at =
        let r = repeated_split n (tree_forms t) c f at in
        let s = scalar_node t r.1 f r.3 in
        let e = r.4 in let z = ap (λ m. r.0 * m) (cells_forms t) in
        (r.0 * tree_bytes packed t + s.0, inr (r.0, r.1, s.0, r.2, s.1, omega (arith, e, z), refl))
    scalar_node (Record r) c f at = let s = scalar_inside r c f at in (s.0, inr s.1)

    scalar_inside : (r : FieldRow) (c : ℕ) (f : Form) → slice_get (row_forms r) c ≡ Some f → (o : ℕ) × InFields packed r c o (Scalar f)
    scalar_inside Empty c f at = none_some f at
    scalar_inside (Field r t) c f at = elim (get_split (row_forms r) (tree_forms t) c f at) [
      | inl a ↦ (let s = scalar_inside r c f a in (s.0, inl s.1))
      | inr h ↦ (let s = scalar_node t h.0 f h.1 in let e = h.2 in let z = row_cells_forms r in (round_up (wide packed t) (row_end packed r) + s.0, inr (h.0, s.0, s.1, omega (arith, e, z), refl)))
    ]
    scalar_inside (Extend r) c f at = let s = scalar_inside r c f at in (s.0, inr s.1)

  pub scalars_apart : (t : DataTree) (c o : ℕ) (f : Form) (d q : ℕ) (g : Form) → Node packed t c o (Scalar f) → Node packed t d q (Scalar g) → c ≢ d → (o + tree_bytes packed (Scalar f) ≤ q) ⊎ (q + tree_bytes packed (Scalar g) ≤ o)
  scalars_apart t c o f d q g a b other = by (same_levels packed c o (Scalar f) d q (Scalar g) refl (nodes_meet packed t c o (Scalar f) d q (Scalar g) a b))
    where
      by : ((c ≡ d) × (o ≡ q) × (Scalar f ≡ Scalar g)) ⊎ LieApart packed c o (Scalar f) d q (Scalar g) → (o + tree_bytes packed (Scalar f) ≤ q) ⊎ (q + tree_bytes packed (Scalar g) ≤ o)
      by (inl h) = absurd (other h.0)
      by (inr (inl h)) = inl h.1
      by (inr (inr h)) = inr h.1

  -- a scalar is one of a node's, or lies apart from the node, whose bytes may be written at once then
  pub scalar_or_apart : (t : DataTree) (c o : ℕ) (s : DataTree) (d q : ℕ) (f : Form) → Node packed t c o s → Node packed t d q (Scalar f) → Nested packed c o s d q (Scalar f) ⊎ LieApart packed c o s d q (Scalar f)
  scalar_or_apart t c o s d q f a b = by (nodes_meet packed t c o s d q (Scalar f) a b)
    where
      by : Meet packed c o s d q (Scalar f) → Nested packed c o s d q (Scalar f) ⊎ LieApart packed c o s d q (Scalar f)
      by (inl (inl h)) = inl h
      by (inl (inr h)) =
          let x = h.2.0 in let y = h.2.1 in let e = h.3 in let g = h.4 in
          inl (0, 0, subst (λ z. Node packed z 0 0 (Scalar f)) (sym h.2.2) (node_self packed (Scalar f)), omega (arith, x, e), omega (arith, y, g))
      by (inr h) = inr h

  -- of an array's first elements alone too
  pub first_or_past : (n m : ℕ) (e : DataTree) (d q : ℕ) (f : Form) → Node packed (Array n e) d q (Scalar f) → Node packed (Array m e) d q (Scalar f) ⊎ ((m * tree_cells e ≤ d) × (m * tree_bytes packed e ≤ q))
  first_or_past n m e d q f (inl h) = absurd (cc)
  first_or_past n m e d q f (inr h) = ⊎_elim
      (λ (lt : h.0 < m). inl (inr (h.0, h.1, h.2, lt, h.4, h.5, h.6)))
      (λ (le : m ≤ h.0).
      let a = times_below (tree_cells e) m h.0 le in let b = times_below (tree_bytes packed e) m h.0 le in
      let x = h.5 in let y = h.6 in
      inr (omega (arith, a, x), omega (arith, b, y)))
      (cases_lt h.0 m)
