-- Where nodes are in memory: the byte of each scalar is its object's spot of it, and addresses are added as registers add them.
use Rattle.std.specs.Prelude.{◌≡◌, ℕ, ◌+◌, ◌%◌, ◌^◌, ◌<◌, ◌≤◌, ◌⊎◌, List, Bool, Option, Some, None, slice_get}
use Rattle.ob_types.specs.Forms.{Form}
use Rattle.ob_types.specs.Trees.{DataTree, Scalar, tree_bytes}
use Rattle.object_nodes.specs.Nodes.{Node, VariableNode}

-- so many bytes on, where there is a byte
abbrev pub shifted : Option ℕ → ℕ → Option ℕ
shifted None o = None
shifted (Some x) o = Some (x + o)

-- the l bytes from a on lie below the n bytes from q on, or above them
abbrev pub Sides : (a l q n : ℕ) → Type 0
Sides a l q n = (a + l ≤ q) ⊎ (q + n ≤ a)

-- an object's cells have these first bytes, those that are in memory
module _ (packed : Bool) (spot : ℕ → Option ℕ) where
  -- from cell c and from address x on stand the scalars of a tree
  pub record StandFrom (c : ℕ) (t : DataTree) (x : ℕ) : Type 0 where
    pub few : x < 2 ^ 64
    pub each : (d o : ℕ) (f : Form) → Node packed t d o (Scalar f) → (i : ℕ) × (spot (c + d) ≡ Some i) × ((x + o) % 2 ^ 64 ≡ i % 2 ^ 64)

  -- an object's variables begin at these bytes, those that are in memory: each scalar stands behind its variable's beginning, no two variables
  -- share a byte, and none goes past the last address
  pub record AreRooted (ks : List DataTree) (start : ℕ → Option ℕ) : Type 0 where
    pub each : (v c o : ℕ) (f : Form) → VariableNode packed ks v c o (Scalar f) → spot c ≡ shifted (start v) o
    pub apart : (v w : ℕ) (k l : DataTree) (x y : ℕ) → v < w → slice_get ks v ≡ Some k → slice_get ks w ≡ Some l → start v ≡ Some x → start w ≡ Some y → Sides x (tree_bytes packed k) y (tree_bytes packed l)
    pub top : (v : ℕ) (k : DataTree) (x : ℕ) → slice_get ks v ≡ Some k → start v ≡ Some x → x + tree_bytes packed k ≤ 2 ^ 64
