-- What changes a store and its memory: copies, new objects, calls.
use Rattle.std.specs.Prelude.{◌≡◌, ◌⊎◌, ℕ, ◌+◌, ◌*◌, ◌≤◌, List, [], ◌∷◌, ◌++◌, map, length, take, replicate, slice_get, cond, nat_eq, Bool, Option, Some}
use Rattle.a64_memory.specs.Memory.{shapes, bytes_at, IsRising, IsOfBytes}
use Rattle.a64_memory.specs.Memory.{Area as Region}
use Rattle.a64_memory.specs.Areas.{heap_base}
use Rattle.ob_types.specs.Forms.{Form}
use Rattle.ob_types.specs.Store.{Cell, Bits, Store}
use Rattle.ob_types.specs.Trees.{DataTree, Scalar, tree_cells, tree_bytes, data_tree}
use Rattle.object_nodes.specs.Addresses.{Sides}
use Rattle.object_nodes.specs.Nodes.{Node}
use Rattle.held_stores.specs.Places.{Ground, Active}

---- Copies

-- the scalars of the destination's tree are those that are copied, or lie past them
pub record Begins (packed : Bool) (u t : DataTree) : Type 0 where
  pub split : (d q : ℕ) (f : Form) → Node packed u d q (Scalar f) → Node packed t d q (Scalar f) ⊎ ((tree_cells t ≤ d) × (tree_bytes packed t ≤ q))
  pub back : (d q : ℕ) (f : Form) → Node packed t d q (Scalar f) → Node packed u d q (Scalar f)
  pub fits : tree_bytes packed t ≤ tree_bytes packed u

---- NEW

-- one more object of zeros
abbrev pub with_object : Store → (cells tag : ℕ) → Store
with_object s n r = record s { heap = s.heap ++ replicate n (Bits 0) ∷ []; tags = s.tags ++ r ∷ [] }

---- Calls

-- what a call adds: the types of its variables, where those begin that are in memory, the cells and the bytes of its object
pub record Call : Type 0 where
  pub types : List ℕ
  pub slot : ℕ → Option ℕ
  pub cells : ℕ
  pub bytes : ℕ

-- the active calls, with one more
abbrev pub above : Active → Call → Active
above k c = record {
  types = k.types ++ c.types ∷ [];
  slot = λ o v. cond (nat_eq o (length k.types)) (c.slot v) (k.slot o v);
  cells = k.cells ++ c.cells ∷ [];
  local = k.local + c.bytes;
}

-- the store with its object, and without
abbrev pub with_frame : List Cell → Store → Store
with_frame cs s = record s { frames = s.frames ++ cs ∷ [] }

abbrev pub without_frame : ℕ → Store → Store
without_frame n s = record s { frames = take n s.frames }

-- memory may differ above an address of the local data, below the heap
pub record Beyond (at : ℕ) (m n : List Region) : Type 0 where
  pub areas : shapes n ≡ shapes m
  pub rises : IsRising 0 n
  pub bytes : IsOfBytes n
  pub same : (x l : ℕ) → (x + l ≤ at) ⊎ (heap_base ≤ x) → bytes_at n x l ≡ bytes_at m x l

-- its variables in memory lie in its own bytes, from an address on, and share none
pub record Laid (g : Ground) (at : ℕ) (c : Call) : Type 0 where
  pub inside : (v x : ℕ) (t : DataTree) → slice_get (map (data_tree g.program.types) c.types) v ≡ Some t → c.slot v ≡ Some x → (at ≤ x) × (x + tree_bytes g.packed t ≤ at + c.bytes)
  pub apart : (v w x y : ℕ) (t u : DataTree) → slice_get (map (data_tree g.program.types) c.types) v ≡ Some t → slice_get (map (data_tree g.program.types) c.types) w ≡ Some u
      → c.slot v ≡ Some x → c.slot w ≡ Some y → (v ≡ w) ⊎ Sides x (tree_bytes g.packed t) y (tree_bytes g.packed u)
  pub fits : c.bytes ≤ 8 * c.cells
