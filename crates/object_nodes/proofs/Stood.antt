-- Two nodes of one object that have as many levels are at one address, or share no byte.
use Rattle.std.proofs.Common.{◌≡◌, ℕ, zero, suc, ◌+◌, ◌%◌, ◌^◌, ◌<◌, ◌≤◌, ◌⊎◌, ⊎_elim, inl, inr, List, [], ◌∷◌, length, Bool, Option, Some, None, refl, sym, ap, ◌∙◌, subst, arith}
use Rattle.std.specs.Prelude.{slice_get}
use Rattle.ob_types.specs.Forms.{Form}
use Rattle.ob_types.proofs.Tests.{none_some, some_same}
use Rattle.ob_types.specs.Trees.{DataTree, Scalar, tree_cells, tree_forms, tree_bytes}
use Rattle.object_nodes.specs.Nodes.{Node, LieApart, VariableNode}
use Rattle.object_nodes.specs.Addresses.{shifted, Sides, StandFrom, AreRooted}
use Rattle.ob_types.proofs.TreeBytes.{bytes_many}
use Rattle.object_nodes.proofs.Meeting.{tree_levels, node_node, node_bytes, variable_node, same_levels, variables_meet}
use Rattle.object_nodes.proofs.Trees.{cells_forms}
use Rattle.object_nodes.proofs.Scalars.{scalar_node}

first_form : (xs : List Form) → 0 < length xs → (f : Form) × (slice_get xs 0 ≡ Some f)
first_form [] lt = absurd (omega (arith, lt))
first_form (x ∷ xs) lt = (x, refl)

some_form : (s : DataTree) → 0 < tree_cells s → 0 < length (tree_forms s)
some_form s some = let e = cells_forms s in omega (arith, e, some)

pub variable_fits : (packed : Bool) (ks : List DataTree) (v c o : ℕ) (s : DataTree) → VariableNode packed ks v c o s → (k : DataTree) × (slice_get ks v ≡ Some k) × (o + tree_bytes packed s ≤ tree_bytes packed k)
variable_fits packed [] v c o s a = absurd a
variable_fits packed (k ∷ ks) zero c o s a = (k, refl, node_bytes packed k c o s a)
variable_fits packed (k ∷ ks) (suc v) c o s a = variable_fits packed ks v a.0 o s a.1

module _ (packed : Bool) (spot : ℕ → Option ℕ) where
  pub stand_node : (c : ℕ) (t : DataTree) (x d o : ℕ) (s : DataTree) → StandFrom packed spot c t x → Node packed t d o s → StandFrom packed spot (c + d) s ((x + o) % 2 ^ 64)
  stand_node c t x d o s h n = record {
    few = omega arith;
    each = λ e q f m.
        let a : c + (d + e) ≡ c + d + e = omega arith in
        let k = h.each (d + e) (o + q) f (node_node packed t d o s e q (Scalar f) (d + e) (o + q) n m refl refl) in
        let same = k.2 in
        (k.0, subst (λ i. spot i ≡ Some k.0) a k.1, omega (arith, same));
  }

  module _ (ks : List DataTree) (start : ℕ → Option ℕ) where
    -- a node with cells stands its bytes behind its variable's beginning, and nowhere else
    pub stands_behind : AreRooted packed spot ks start → (v c o : ℕ) (s : DataTree) (x : ℕ) → VariableNode packed ks v c o s → StandFrom packed spot c s x → 0 < tree_cells s → (z : ℕ) × (start v ≡ Some z) × (x ≡ z + o)
    stands_behind rooted v c o s x a h some =
        let f = first_form (tree_forms s) (some_form s some) in
        let n = scalar_node packed s 0 f.0 f.1 in
        let k = h.each 0 n.0 f.0 n.1 in
        let room = node_bytes packed s 0 n.0 (Scalar f.0) n.1 in
        by n.0 k.0 (start v) refl (sym (rooted.each v (c + 0) (o + n.0) f.0 (variable_node packed ks v c o s 0 n.0 (Scalar f.0) (c + 0) a n.1 refl)) ∙ k.1) k.2 (bytes_many packed (Scalar f.0)) room
      where
        by : (m i : ℕ) (z : Option ℕ) → start v ≡ z → shifted z (o + m) ≡ Some i → (x + m) % 2 ^ 64 ≡ i % 2 ^ 64 → 1 ≤ tree_bytes packed (Scalar (first_form (tree_forms s) (some_form s some)).0) → m + tree_bytes packed (Scalar (first_form (tree_forms s) (some_form s some)).0) ≤ tree_bytes packed s → (z : ℕ) × (start v ≡ Some z) × (x ≡ z + o)
        by m i None is e same one room = none_some i e
        by m i (Some z) is e same one room =
            let y = some_same (z + (o + m)) i e in
            let fits = variable_fits packed ks v c o s a in
            let inside = fits.2 in
            let top = rooted.top v fits.0 z fits.1 is in
            let few = h.few in
            (z, is, omega (arith, y, same, one, room, inside, top, few))

    pub one_room_or_apart : AreRooted packed spot ks start → (v c o : ℕ) (s : DataTree) (x w d q : ℕ) (u : DataTree) (y : ℕ) → VariableNode packed ks v c o s → StandFrom packed spot c s x → 0 < tree_cells s → VariableNode packed ks w d q u → StandFrom packed spot d u y → 0 < tree_cells u → tree_levels s ≡ tree_levels u
        → ((c ≡ d) × (x ≡ y)) ⊎ Sides x (tree_bytes packed s) y (tree_bytes packed u)
    one_room_or_apart rooted v c o s x w d q u y a h some b g other same =
        let i = stands_behind rooted v c o s x a h some in
        let j = stands_behind rooted w d q u y b g other in
        let xi = i.2 in let yj = j.2 in
        ⊎_elim
        (λ z. let e = some_same i.0 j.0 (sym i.1 ∙ ap start z.0 ∙ j.1) in one i.0 j.0 e xi yj (same_levels packed c o s d q u same z.1))
        (λ z. inr (⊎_elim (λ k. before v w c d o q s u i.0 j.0 x y k.0 a b i.1 j.1 xi yj) (λ k. turned (before w v d c q o u s j.0 i.0 y x k.0 b a j.1 i.1 yj xi)) z))
        (variables_meet packed ks v c o s w d q u a b)
      where
        turned : Sides y (tree_bytes packed u) x (tree_bytes packed s) → Sides x (tree_bytes packed s) y (tree_bytes packed u)
        turned (inl h) = inr h
        turned (inr h) = inl h

        one : (m n : ℕ) → m ≡ n → x ≡ m + o → y ≡ n + q → ((c ≡ d) × (o ≡ q) × (s ≡ u)) ⊎ LieApart packed c o s d q u → ((c ≡ d) × (x ≡ y)) ⊎ Sides x (tree_bytes packed s) y (tree_bytes packed u)
        one m n e f g (inl h) = let k = h.1 in inl (h.0, omega (arith, e, f, g, k))
        one m n e f g (inr (inl h)) = let k = h.1 in inr (inl (omega (arith, e, f, g, k)))
        one m n e f g (inr (inr h)) = let k = h.1 in inr (inr (omega (arith, e, f, g, k)))

        before : (v w c d o q : ℕ) (s u : DataTree) (m n x y : ℕ) → v < w → VariableNode packed ks v c o s → VariableNode packed ks w d q u → start v ≡ Some m → start w ≡ Some n → x ≡ m + o → y ≡ n + q → Sides x (tree_bytes packed s) y (tree_bytes packed u)
        before v w c d o q s u m n x y lt a b f g e k =
            let i = variable_fits packed ks v c o s a in
            let j = variable_fits packed ks w d q u b in
            let si = i.2 in let sj = j.2 in
            ⊎_elim (λ h. inl (omega (arith, e, k, si, sj, h))) (λ h. inr (omega (arith, e, k, si, sj, h))) (rooted.apart v w i.0 j.0 m n lt i.1 j.1 f g)
