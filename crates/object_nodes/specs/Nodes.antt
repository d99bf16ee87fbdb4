-- The parts of a value that designators can name: nodes of its type's tree, which are its elements, its fields and the base parts of its records, each so many cells and so many bytes on.
use Rattle.std.specs.Prelude.{◌≡◌, ℕ, zero, suc, ◌+◌, ◌*◌, ◌<◌, ◌≤◌, ◌⊎◌, List, [], ◌∷◌, Bool, true}
use Rattle.ob_types.specs.Trees.{DataTree, Scalar, Array, Record, FieldRow, Empty, Field, Extend, tree_cells, row_cells, round_up, wide, tree_bytes, row_end}

module _ (packed : Bool) where
  abbrev mutual
    -- c cells and o bytes on stands what has tree s
    pub Node : DataTree → ℕ → ℕ → DataTree → Type 0
    Node (Scalar f) c o s = (c ≡ 0) × (o ≡ 0) × (s ≡ Scalar f)
    Node (Array n t) c o s = ((c ≡ 0) × (o ≡ 0) × (s ≡ Array n t)) ⊎ ((i : ℕ) × (d : ℕ) × (q : ℕ) × (i < n) × Node t d q s × (c ≡ i * tree_cells t + d) × (o ≡ i * tree_bytes packed t + q))
    Node (Record r) c o s = ((c ≡ 0) × (o ≡ 0) × (s ≡ Record r)) ⊎ InFields r c o s

    -- in a field, or in the record that is extended, which is a node itself
    pub InFields : FieldRow → ℕ → ℕ → DataTree → Type 0
    InFields Empty c o s = ⊥
    InFields (Field r t) c o s = InFields r c o s ⊎ ((d : ℕ) × (q : ℕ) × Node t d q s × (c ≡ row_cells r + d) × (o ≡ round_up (wide packed t) (row_end packed r) + q))
    InFields (Extend r) c o s = ((c ≡ 0) × (o ≡ 0) × (s ≡ Record r)) ⊎ InFields r c o s

  -- the second, at d and q, is a node of the first, at c and o
  abbrev pub Nested : (c o : ℕ) → DataTree → (d q : ℕ) → DataTree → Type 0
  Nested c o s d q u = (e : ℕ) × (w : ℕ) × Node s e w u × (d ≡ c + e) × (q ≡ o + w)

  -- one lies before the other, in cells and in bytes
  abbrev pub LieApart : (c o : ℕ) → DataTree → (d q : ℕ) → DataTree → Type 0
  LieApart c o s d q u = ((c + tree_cells s ≤ d) × (o + tree_bytes packed s ≤ q)) ⊎ ((d + tree_cells u ≤ c) × (q + tree_bytes packed u ≤ o))

  -- one is a node of the other, or they lie apart
  abbrev pub Meet : (c o : ℕ) → DataTree → (d q : ℕ) → DataTree → Type 0
  Meet c o s d q u = (Nested c o s d q u ⊎ Nested d q u c o s) ⊎ LieApart c o s d q u

  -- a node of the v-th of some variables: c cells from the beginning of the first one, o bytes from its own
  abbrev pub VariableNode : List DataTree → (v c o : ℕ) → DataTree → Type 0
  VariableNode [] v c o s = ⊥
  VariableNode (k ∷ ks) zero c o s = Node k c o s
  VariableNode (k ∷ ks) (suc v) c o s = (d : ℕ) × VariableNode ks v d o s × (c ≡ tree_cells k + d)

  -- the byte at which the v-th of them begins: each begins at a multiple of 8 behind those before it
  abbrev pub variable_start : List DataTree → ℕ → ℕ
  variable_start [] v = 0
  variable_start (k ∷ ks) zero = 0
  variable_start (k ∷ ks) (suc v) = round_up true (tree_bytes packed k) + variable_start ks v
