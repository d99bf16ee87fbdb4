-- Two nodes of one tree: one is a node of the other, or they lie apart.
use Rattle.std.proofs.Common.{◌≡◌, ℕ, zero, suc, ◌+◌, ◌*◌, ◌<◌, ◌≤◌, ◌⊎◌, ⊎_elim, inl, inr, List, [], ◌∷◌, Bool, true, false, refl, sym, ap, ◌∙◌, subst, arith}
use Rattle.std.proofs.lemmas.Bool.{cases_lt}
use Rattle.ob_types.specs.Trees.{DataTree, Scalar, Array, Record, FieldRow, Empty, Field, Extend, tree_cells, row_cells, round_up, wide, row_wide, tree_bytes, row_end}
use Rattle.ob_types.proofs.TreeBytes.{up_above, row_few}
use Rattle.object_nodes.specs.Nodes.{Node, InFields, LieApart, Meet, VariableNode, variable_start}

abbrev mutual
  pub tree_levels : DataTree → ℕ
  tree_levels (Scalar f) = 1
  tree_levels (Array n t) = suc (tree_levels t)
  tree_levels (Record r) = suc (row_levels r)

  pub row_levels : FieldRow → ℕ
  row_levels Empty = 0
  row_levels (Field r t) = row_levels r + tree_levels t
  row_levels (Extend r) = suc (row_levels r)

pub times_below : (n a b : ℕ) → a ≤ b → a * n ≤ b * n
times_below zero a b le = omega arith
times_below (suc n) a b le = let e = times_below n a b le in omega (arith, e, le)

-- what begins in an element ends in it
element_ends : (i n w d m : ℕ) → i < n → d + m ≤ w → i * w + d + m ≤ n * w
element_ends i n w d m lt le =
    let t = times_below w (suc i) n (omega (arith, lt)) in
    let u : suc i * w ≡ i * w + w = omega arith in
    omega (arith, le, t, u)

elements_apart : (i j w p q n : ℕ) → i < j → p + n ≤ w → i * w + p + n ≤ j * w + q
elements_apart i j w p q n lt fits = let le = element_ends i j w p n lt fits in omega (arith, le)

abbrev pub array_length : DataTree → ℕ
array_length (Array n t) = n
array_length (Scalar f) = 0
array_length (Record r) = 0

module _ (packed : Bool) where
  pub node_self : (s : DataTree) → Node packed s 0 0 s
  node_self (Scalar f) = (refl, refl, refl)
  node_self (Array n t) = inl (refl, refl, refl)
  node_self (Record r) = inl (refl, refl, refl)

  mutual
    node_levels : (t : DataTree) (c o : ℕ) (s : DataTree) → Node packed t c o s → tree_levels s ≤ tree_levels t
    node_levels (Scalar f) c o s h = let z = ap tree_levels h.2 in omega (arith, z)
    node_levels (Array n t) c o s (inl h) = let z = ap tree_levels h.2 in omega (arith, z)
    node_levels (Array n t) c o s (inr h) = let z = node_levels t h.1 h.2 s h.4 in omega (arith, z)
    node_levels (Record r) c o s (inl h) = let z = ap tree_levels h.2 in omega (arith, z)
    node_levels (Record r) c o s (inr h) = let z = inside_levels r c o s h in omega (arith, z)

    inside_levels : (r : FieldRow) (c o : ℕ) (s : DataTree) → InFields packed r c o s → tree_levels s ≤ row_levels r
    inside_levels Empty c o s h = absurd h
    inside_levels (Field r t) c o s (inl h) = let z = inside_levels r c o s h in omega (arith, z)
    inside_levels (Field r t) c o s (inr h) = let z = node_levels t h.0 h.1 s h.2 in omega (arith, z)
    inside_levels (Extend r) c o s (inl h) = let z = ap tree_levels h.2 in omega (arith, z)
    inside_levels (Extend r) c o s (inr h) = let z = inside_levels r c o s h in omega (arith, z)

  -- a node with no fewer levels is the whole
  pub node_whole : (t : DataTree) (c o : ℕ) (s : DataTree) → Node packed t c o s → tree_levels t ≤ tree_levels s → (c ≡ 0) × (o ≡ 0) × (s ≡ t)
  node_whole (Scalar f) c o s h le = h
  node_whole (Array n t) c o s (inl h) le = h
  node_whole (Array n t) c o s (inr h) le = let z = node_levels t h.1 h.2 s h.4 in absurd (omega (arith, z, le))
  node_whole (Record r) c o s (inl h) le = h
  node_whole (Record r) c o s (inr h) le = let z = inside_levels r c o s h in absurd (omega (arith, z, le))

  mutual
    pub node_cells : (t : DataTree) (c o : ℕ) (s : DataTree) → Node packed t c o s → c + tree_cells s ≤ tree_cells t
    node_cells (Scalar f) c o s h = let a = h.0 in let z = ap tree_cells h.2 in omega (arith, a, z)
    node_cells (Array n t) c o s (inl h) = let a = h.0 in let z = ap tree_cells h.2 in omega (arith, a, z)
    node_cells (Array n t) c o s (inr h) = let z = element_ends h.0 n (tree_cells t) h.1 (tree_cells s) h.3 (node_cells t h.1 h.2 s h.4) in let e = h.5 in omega (arith, z, e)
    node_cells (Record r) c o s (inl h) = let a = h.0 in let z = ap tree_cells h.2 in omega (arith, a, z)
    node_cells (Record r) c o s (inr h) = inside_cells r c o s h

    inside_cells : (r : FieldRow) (c o : ℕ) (s : DataTree) → InFields packed r c o s → c + tree_cells s ≤ row_cells r
    inside_cells Empty c o s h = absurd h
    inside_cells (Field r t) c o s (inl h) = let z = inside_cells r c o s h in omega (arith, z)
    inside_cells (Field r t) c o s (inr h) = let z = node_cells t h.0 h.1 s h.2 in let e = h.3 in omega (arith, z, e)
    inside_cells (Extend r) c o s (inl h) = let a = h.0 in let z = ap tree_cells h.2 in omega (arith, a, z)
    inside_cells (Extend r) c o s (inr h) = inside_cells r c o s h

  mutual
    pub node_bytes : (t : DataTree) (c o : ℕ) (s : DataTree) → Node packed t c o s → o + tree_bytes packed s ≤ tree_bytes packed t
    node_bytes (Scalar f) c o s h = let a = h.1 in let z = ap (tree_bytes packed) h.2 in omega (arith, a, z)
    node_bytes (Array n t) c o s (inl h) = let a = h.1 in let z = ap (tree_bytes packed) h.2 in omega (arith, a, z)
    node_bytes (Array n t) c o s (inr h) = let z = element_ends h.0 n (tree_bytes packed t) h.2 (tree_bytes packed s) h.3 (node_bytes t h.1 h.2 s h.4) in let e = h.6 in omega (arith, z, e)
    node_bytes (Record r) c o s (inl h) = let a = h.1 in let z = ap (tree_bytes packed) h.2 in omega (arith, a, z)
    node_bytes (Record r) c o s (inr h) = let z = inside_bytes r c o s h in let u = up_above (row_wide packed r) (row_end packed r) in omega (arith, z, u)

    inside_bytes : (r : FieldRow) (c o : ℕ) (s : DataTree) → InFields packed r c o s → o + tree_bytes packed s ≤ row_end packed r
    inside_bytes Empty c o s h = absurd h
    inside_bytes (Field r t) c o s (inl h) = let z = inside_bytes r c o s h in let u = up_above (wide packed t) (row_end packed r) in omega (arith, z, u)
    inside_bytes (Field r t) c o s (inr h) = let z = node_bytes t h.0 h.1 s h.2 in let e = h.4 in omega (arith, z, e)
    inside_bytes (Extend r) c o s (inl h) = let a = h.1 in let z = ap (tree_bytes packed) h.2 in omega (arith, a, z)
    inside_bytes (Extend r) c o s (inr h) = let z = inside_bytes r c o s h in let u = up_above (row_wide packed r) (row_end packed r) in omega (arith, z, u)

  by_top : (t : DataTree) (c o : ℕ) (s : DataTree) (d q : ℕ) (u : DataTree) (x y : ℕ) → (c ≡ 0) × (o ≡ 0) × (s ≡ t) → Node packed s d q u → x ≡ c + d → y ≡ o + q → Node packed t x y u
  by_top t c o s d q u x y h g e w =
      let a = h.0 in let b = h.1 in
      let m : d ≡ x = omega (arith, a, e) in let n : q ≡ y = omega (arith, b, w) in
      subst (λ k. Node packed t x k u) n (subst (λ k. Node packed t k q u) m (subst (λ z. Node packed z d q u) h.2 g))

  -- a node of a node is a node
  mutual
    pub node_node : (t : DataTree) (c o : ℕ) (s : DataTree) (d q : ℕ) (u : DataTree) (x y : ℕ) → Node packed t c o s → Node packed s d q u → x ≡ c + d → y ≡ o + q → Node packed t x y u
    node_node (Scalar f) c o s d q u x y h g e w = by_top (Scalar f) c o s d q u x y h g e w
    node_node (Array n t) c o s d q u x y (inl h) g e w = by_top (Array n t) c o s d q u x y h g e w
    node_node (Array n t) c o s d q u x y (inr h) g e w =
        let a = h.5 in let b = h.6 in
        inr (h.0, h.1 + d, h.2 + q, h.3, node_node t h.1 h.2 s d q u (h.1 + d) (h.2 + q) h.4 g refl refl, omega (arith, a, e), omega (arith, b, w))
    node_node (Record r) c o s d q u x y (inl h) g e w = by_top (Record r) c o s d q u x y h g e w
    node_node (Record r) c o s d q u x y (inr h) g e w = inr (inside_node r c o s d q u x y h g e w)

    inside_node : (r : FieldRow) (c o : ℕ) (s : DataTree) (d q : ℕ) (u : DataTree) (x y : ℕ) → InFields packed r c o s → Node packed s d q u → x ≡ c + d → y ≡ o + q → InFields packed r x y u
    inside_node Empty c o s d q u x y h g e w = absurd h
    inside_node (Field r t) c o s d q u x y (inl h) g e w = inl (inside_node r c o s d q u x y h g e w)
    inside_node (Field r t) c o s d q u x y (inr h) g e w =
        let a = h.3 in let b = h.4 in
        inr (h.0 + d, h.1 + q, node_node t h.0 h.1 s d q u (h.0 + d) (h.1 + q) h.2 g refl refl, omega (arith, a, e), omega (arith, b, w))
    inside_node (Extend r) c o s d q u x y (inl h) g e w = by_top (Record r) c o s d q u x y h g e w
    inside_node (Extend r) c o s d q u x y (inr h) g e w = inr (inside_node r c o s d q u x y h g e w)

  meet_swap : (c o : ℕ) (s : DataTree) (d q : ℕ) (u : DataTree) → Meet packed c o s d q u → Meet packed d q u c o s
  meet_swap c o s d q u (inl (inl h)) = inl (inr h)
  meet_swap c o s d q u (inl (inr h)) = inl (inl h)
  meet_swap c o s d q u (inr (inl h)) = inr (inr h)
  meet_swap c o s d q u (inr (inr h)) = inr (inl h)

  meet_moved : (k m c o : ℕ) (s : DataTree) (d q : ℕ) (u : DataTree) (x y z w : ℕ) → x ≡ k + c → y ≡ m + o → z ≡ k + d → w ≡ m + q → Meet packed c o s d q u → Meet packed x y s z w u
  meet_moved k m c o s d q u x y z w e f g h (inl (inl n)) = let a = n.3 in let b = n.4 in inl (inl (n.0, n.1, n.2, omega (arith, a, e, g), omega (arith, b, f, h)))
  meet_moved k m c o s d q u x y z w e f g h (inl (inr n)) = let a = n.3 in let b = n.4 in inl (inr (n.0, n.1, n.2, omega (arith, a, e, g), omega (arith, b, f, h)))
  meet_moved k m c o s d q u x y z w e f g h (inr (inl n)) = let a = n.0 in let b = n.1 in inr (inl (omega (arith, a, e, g), omega (arith, b, f, h)))
  meet_moved k m c o s d q u x y z w e f g h (inr (inr n)) = let a = n.0 in let b = n.1 in inr (inr (omega (arith, a, e, g), omega (arith, b, f, h)))

  -- the whole, and a node of it
  top_meets : (t : DataTree) (c o : ℕ) (s : DataTree) (d q : ℕ) (u : DataTree) → (c ≡ 0) × (o ≡ 0) × (s ≡ t) → Node packed t d q u → Meet packed c o s d q u
  top_meets t c o s d q u h g = let a = h.0 in let b = h.1 in inl (inl (d, q, subst (λ z. Node packed z d q u) (sym h.2) g, omega (arith, a), omega (arith, b)))

  elements_meet : (t : DataTree) (i j : ℕ) (c o : ℕ) (s : DataTree) (d q : ℕ) (u : DataTree) (x y z w : ℕ) → i < j → Node packed t c o s → x ≡ i * tree_cells t + c → y ≡ i * tree_bytes packed t + o → z ≡ j * tree_cells t + d → w ≡ j * tree_bytes packed t + q
      → (x + tree_cells s ≤ z) × (y + tree_bytes packed s ≤ w)
  elements_meet t i j c o s d q u x y z w lt n e f g h =
      let a = elements_apart i j (tree_cells t) c d (tree_cells s) lt (node_cells t c o s n) in
      let b = elements_apart i j (tree_bytes packed t) o q (tree_bytes packed s) lt (node_bytes t c o s n) in
      (omega (arith, a, e, g), omega (arith, b, f, h))

  before_field : (r : FieldRow) (t : DataTree) (c o : ℕ) (s : DataTree) (d q : ℕ) (u : DataTree) → InFields packed r c o s → (e : ℕ) × (w : ℕ) × Node packed t e w u × (d ≡ row_cells r + e) × (q ≡ round_up (wide packed t) (row_end packed r) + w) → (c + tree_cells s ≤ d) × (o + tree_bytes packed s ≤ q)
  before_field r t c o s d q u a b =
      let x = inside_cells r c o s a in let y = inside_bytes r c o s a in let v = up_above (wide packed t) (row_end packed r) in
      let e = b.3 in let f = b.4 in
      (omega (arith, x, e), omega (arith, y, v, f))

  mutual
    pub nodes_meet : (t : DataTree) (c o : ℕ) (s : DataTree) (d q : ℕ) (u : DataTree) → Node packed t c o s → Node packed t d q u → Meet packed c o s d q u
    nodes_meet (Scalar f) c o s d q u a b = top_meets (Scalar f) c o s d q u a b
    nodes_meet (Array n t) c o s d q u (inl a) b = top_meets (Array n t) c o s d q u a b
    nodes_meet (Array n t) c o s d q u (inr a) (inl b) = meet_swap d q u c o s (top_meets (Array n t) d q u c o s b (inr a))
    nodes_meet (Array n t) c o s d q u (inr a) (inr b) =
        ⊎_elim
        (λ (lt : a.0 < b.0). inr (inl (elements_meet t a.0 b.0 a.1 a.2 s b.1 b.2 u c o d q lt a.4 a.5 a.6 b.5 b.6)))
        (λ (ge : b.0 ≤ a.0). ⊎_elim
        (λ (lt : b.0 < a.0). inr (inr (elements_meet t b.0 a.0 b.1 b.2 u a.1 a.2 s d q c o lt b.4 b.5 b.6 a.5 a.6)))
        (λ (le : a.0 ≤ b.0).
        let same : b.0 ≡ a.0 = omega (arith, le, ge) in
        meet_moved (a.0 * tree_cells t) (a.0 * tree_bytes packed t) a.1 a.2 s b.1 b.2 u c o d q a.5 a.6 (b.5 ∙ ap (λ i. i * tree_cells t + b.1) same) (b.6 ∙ ap (λ i. i * tree_bytes packed t + b.2) same)
        (nodes_meet t a.1 a.2 s b.1 b.2 u a.4 b.4))
        (cases_lt b.0 a.0))
        (cases_lt a.0 b.0)
    nodes_meet (Record r) c o s d q u (inl a) b = top_meets (Record r) c o s d q u a b
    nodes_meet (Record r) c o s d q u (inr a) (inl b) = meet_swap d q u c o s (top_meets (Record r) d q u c o s b (inr a))
    nodes_meet (Record r) c o s d q u (inr a) (inr b) = inside_meet r c o s d q u a b

    inside_meet : (r : FieldRow) (c o : ℕ) (s : DataTree) (d q : ℕ) (u : DataTree) → InFields packed r c o s → InFields packed r d q u → Meet packed c o s d q u
    inside_meet Empty c o s d q u a b = absurd a
    inside_meet (Field r t) c o s d q u (inl a) (inl b) = inside_meet r c o s d q u a b
    inside_meet (Field r t) c o s d q u (inl a) (inr b) = inr (inl (before_field r t c o s d q u a b))
    inside_meet (Field r t) c o s d q u (inr a) (inl b) = inr (inr (before_field r t d q u c o s b a))
    inside_meet (Field r t) c o s d q u (inr a) (inr b) =
        meet_moved (row_cells r) (round_up (wide packed t) (row_end packed r)) a.0 a.1 s b.0 b.1 u c o d q a.3 a.4 b.3 b.4 (nodes_meet t a.0 a.1 s b.0 b.1 u a.2 b.2)
    inside_meet (Extend r) c o s d q u (inl a) b = top_meets (Record r) c o s d q u a b
    inside_meet (Extend r) c o s d q u (inr a) (inl b) = meet_swap d q u c o s (top_meets (Record r) d q u c o s b (inr a))
    inside_meet (Extend r) c o s d q u (inr a) (inr b) = inside_meet r c o s d q u a b

  -- two nodes with as many levels that aren't apart are the same
  pub same_levels : (c o : ℕ) (s : DataTree) (d q : ℕ) (u : DataTree) → tree_levels s ≡ tree_levels u → Meet packed c o s d q u → ((c ≡ d) × (o ≡ q) × (s ≡ u)) ⊎ LieApart packed c o s d q u
  same_levels c o s d q u e (inl (inl h)) = let w = node_whole s h.0 h.1 u h.2 (omega (arith, e)) in let a = w.0 in let b = w.1 in let x = h.3 in let y = h.4 in inl (omega (arith, a, x), omega (arith, b, y), sym w.2)
  same_levels c o s d q u e (inl (inr h)) = let w = node_whole u h.0 h.1 s h.2 (omega (arith, e)) in let a = w.0 in let b = w.1 in let x = h.3 in let y = h.4 in inl (omega (arith, a, x), omega (arith, b, y), w.2)
  same_levels c o s d q u e (inr h) = inr h

  pub one_or_apart : (t s : DataTree) (c o d q : ℕ) → Node packed t c o s → Node packed t d q s → ((c ≡ d) × (o ≡ q)) ⊎ LieApart packed c o s d q s
  one_or_apart t s c o d q a b = ⊎_elim (λ h. inl (h.0, h.1)) (λ h. inr h) (same_levels c o s d q s refl (nodes_meet t c o s d q s a b))

  -- arrays whose elements have one tree, of any lengths
  pub arrays_one_or_apart : (t e : DataTree) (n m c o d q : ℕ) → Node packed t c o (Array n e) → Node packed t d q (Array m e) → ((c ≡ d) × (o ≡ q) × (n ≡ m)) ⊎ LieApart packed c o (Array n e) d q (Array m e)
  arrays_one_or_apart t e n m c o d q a b = ⊎_elim (λ h. inl (h.0, h.1, ap array_length h.2)) (λ h. inr h) (same_levels c o (Array n e) d q (Array m e) refl (nodes_meet t c o (Array n e) d q (Array m e) a b))

  -- nodes of variables that stand in a row

  variable_cells : (ks : List DataTree) (v c o : ℕ) (s : DataTree) (w d q : ℕ) (u : DataTree) → VariableNode packed ks v c o s → VariableNode packed ks w d q u → v < w → c + tree_cells s ≤ d
  variable_cells [] v c o s w d q u a b lt = absurd a
  variable_cells (k ∷ ks) zero c o s zero d q u a b lt = absurd (omega (arith, lt))
  variable_cells (k ∷ ks) zero c o s (suc w) d q u a b lt = let x = node_cells k c o s a in let e = b.2 in omega (arith, x, e)
  variable_cells (k ∷ ks) (suc v) c o s zero d q u a b lt = absurd (omega (arith, lt))
  variable_cells (k ∷ ks) (suc v) c o s (suc w) d q u a b lt = let x = variable_cells ks v a.0 o s w b.0 q u a.1 b.1 (omega (arith, lt)) in let e = a.2 in let f = b.2 in omega (arith, x, e, f)

  variable_meet : (ks : List DataTree) (v c o : ℕ) (s : DataTree) (d q : ℕ) (u : DataTree) → VariableNode packed ks v c o s → VariableNode packed ks v d q u → Meet packed c o s d q u
  variable_meet [] v c o s d q u a b = absurd a
  variable_meet (k ∷ ks) zero c o s d q u a b = nodes_meet k c o s d q u a b
  variable_meet (k ∷ ks) (suc v) c o s d q u a b = meet_moved (tree_cells k) 0 a.0 o s b.0 q u c o d q a.2 (omega arith) b.2 (omega arith) (variable_meet ks v a.0 o s b.0 q u a.1 b.1)

  -- of one variable they meet as nodes do; of two, the cells of one lie before those of the other
  pub variables_meet : (ks : List DataTree) (v c o : ℕ) (s : DataTree) (w d q : ℕ) (u : DataTree) → VariableNode packed ks v c o s → VariableNode packed ks w d q u
      → ((v ≡ w) × Meet packed c o s d q u) ⊎ (((v < w) × (c + tree_cells s ≤ d)) ⊎ ((w < v) × (d + tree_cells u ≤ c)))
  variables_meet ks v c o s w d q u a b =
      ⊎_elim
      (λ (lt : v < w). inr (inl (lt, variable_cells ks v c o s w d q u a b lt)))
      (λ (ge : w ≤ v). ⊎_elim
      (λ (lt : w < v). inr (inr (lt, variable_cells ks w d q u v c o s b a lt)))
      (λ (le : v ≤ w). let same : w ≡ v = omega (arith, le, ge) in inl (sym same, variable_meet ks v c o s d q u a (subst (λ k. VariableNode packed ks k d q u) same b)))
      (cases_lt w v))
      (cases_lt v w)

  -- a node of a variable's node
  pub variable_node : (ks : List DataTree) (v c o : ℕ) (s : DataTree) (d q : ℕ) (u : DataTree) (x : ℕ) → VariableNode packed ks v c o s → Node packed s d q u → x ≡ c + d → VariableNode packed ks v x (o + q) u
  variable_node [] v c o s d q u x a n e = absurd a
  variable_node (k ∷ ks) zero c o s d q u x a n e = node_node k c o s d q u x (o + q) a n e refl
  variable_node (k ∷ ks) (suc v) c o s d q u x a n e = let f = a.2 in (a.0 + d, variable_node ks v a.0 o s d q u (a.0 + d) a.1 n refl, omega (arith, e, f))

  pub variables_apart : (ks : List DataTree) (v c o : ℕ) (s : DataTree) (w d q : ℕ) (u : DataTree) → VariableNode packed ks v c o s → VariableNode packed ks w d q u → v < w → variable_start packed ks v + o + tree_bytes packed s ≤ variable_start packed ks w + q
  variables_apart [] v c o s w d q u a b lt = absurd a
  variables_apart (k ∷ ks) zero c o s zero d q u a b lt = absurd (omega (arith, lt))
  variables_apart (k ∷ ks) zero c o s (suc w) d q u a b lt = let x = node_bytes k c o s a in let z = up_above true (tree_bytes packed k) in omega (arith, x, z)
  variables_apart (k ∷ ks) (suc v) c o s zero d q u a b lt = absurd (omega (arith, lt))
  variables_apart (k ∷ ks) (suc v) c o s (suc w) d q u a b lt = let x = variables_apart ks v a.0 o s w b.0 q u a.1 b.1 (omega (arith, lt)) in omega (arith, x)

  -- a node's byte goes by its cell, where it has cells

  up_zero : (b : Bool) (n : ℕ) → n ≡ 0 → round_up b n ≡ 0
  up_zero true n e = omega (arith, e)
  up_zero false n e = e

  first_of : (i w d : ℕ) → i * w + d ≡ 0 → 0 < w → i ≡ 0
  first_of zero w d e lt = refl
  first_of (suc i) w d e lt = let u : suc i * w ≡ w + i * w = omega arith in absurd (omega (arith, e, lt, u))

  mutual
    first_byte : (t : DataTree) (c o : ℕ) (s : DataTree) → Node packed t c o s → c ≡ 0 → 0 < tree_cells s → o ≡ 0
    first_byte (Scalar f) c o s h e lt = h.1
    first_byte (Array n t) c o s (inl h) e lt = h.1
    first_byte (Array n t) c o s (inr h) e lt =
        let x = node_cells t h.1 h.2 s h.4 in
        let i = first_of h.0 (tree_cells t) h.1 (sym h.5 ∙ e) (omega (arith, x, lt)) in
        let y = h.5 in
        let z = first_byte t h.1 h.2 s h.4 (omega (arith, y, e)) lt in
        let m = h.6 ∙ ap (λ j. j * tree_bytes packed t + h.2) i in omega (arith, m, z)
    first_byte (Record r) c o s (inl h) e lt = h.1
    first_byte (Record r) c o s (inr h) e lt = inside_first r c o s h e lt

    inside_first : (r : FieldRow) (c o : ℕ) (s : DataTree) → InFields packed r c o s → c ≡ 0 → 0 < tree_cells s → o ≡ 0
    inside_first Empty c o s h e lt = absurd h
    inside_first (Field r t) c o s (inl h) e lt = inside_first r c o s h e lt
    inside_first (Field r t) c o s (inr h) e lt =
        let y = h.3 in let f = row_few packed r in
        let z = first_byte t h.0 h.1 s h.2 (omega (arith, y, e)) lt in
        let u = up_zero (wide packed t) (row_end packed r) (omega (arith, y, e, f)) in
        let x = h.4 in omega (arith, x, u, z)
    inside_first (Extend r) c o s (inl h) e lt = h.1
    inside_first (Extend r) c o s (inr h) e lt = inside_first r c o s h e lt

  pub same_cell : (t s u : DataTree) (c o q : ℕ) → Node packed t c o s → Node packed t c q u → 0 < tree_cells s → 0 < tree_cells u → o ≡ q
  same_cell t s u c o q a b some other = by (nodes_meet t c o s c q u a b)
    where
      by : Meet packed c o s c q u → o ≡ q
      by (inl (inl h)) = let x = h.3 in let y = h.4 in let z = first_byte s h.0 h.1 u h.2 (omega (arith, x)) other in omega (arith, y, z)
      by (inl (inr h)) = let x = h.3 in let y = h.4 in let z = first_byte u h.0 h.1 s h.2 (omega (arith, x)) some in omega (arith, y, z)
      by (inr (inl h)) = let x = h.0 in absurd (omega (arith, x, some))
      by (inr (inr h)) = let x = h.0 in absurd (omega (arith, x, other))
