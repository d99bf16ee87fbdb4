-- Where a store's objects stand in memory, by byte and width: each variable of an object begins at an address, and its scalars stand at the bytes of its type's tree.
use Rattle.std.specs.Prelude.{◌≡◌, ◌⊎◌, ℕ, zero, suc, ◌+◌, ◌*◌, ◌≤◌, List, [], ◌∷◌, sum, sum_by, slice_get, Bool, true, Option, Some, None, option_map}
use Rattle.a64_memory.specs.Memory.{Shape, covered}
use Rattle.a64_memory.specs.Areas.{local_base, heap_base, local_words, heap_words}
use Rattle.ob_types.specs.Store.{Area, Globals, Frames, Heap, Strings}
use Rattle.ob_types.specs.Trees.{DataTree, Record, row_cells, round_up, tree_bytes, record_row}
use Rattle.ob_types.specs.declared.program.Program.{Program}
use Rattle.object_nodes.specs.Addresses.{Sides}
use Rattle.object_nodes.specs.Named.{object_trees}

-- what is the same all through a run: the checked program; whether small scalars take a byte; where the variables of a global object and the strings
-- begin; the addresses of the descriptors, and what stands at the addresses of their cells; where procedures have their code; the memory's areas
pub record Ground : Type 0 where
  pub program : Program
  pub packed : Bool
  pub global : (object variable : ℕ) → ℕ
  pub string : ℕ → ℕ
  pub descriptor : ℕ → ℕ
  pub entry : ℕ → Option ℕ
  pub code : ℕ → Option ℕ
  pub areas : List Shape

-- the active calls: the types of each one's variables, where those begin that are in memory, and its cells; the address behind their local data
pub record Active : Type 0 where
  pub types : List (List ℕ)
  pub slot : (call variable : ℕ) → Option ℕ
  pub cells : List ℕ
  pub local : ℕ

-- what stands in memory in one piece: a variable of an object, the tag of an object of the heap, a cell of a descriptor
pub data Thing : Type 0 where
  Variable : (area : Area) (object variable : ℕ) → Thing
  TagOf : (object : ℕ) → Thing
  Entry : (address : ℕ) → Thing

module _ (g : Ground) where
  -- what NEW takes for an object: eight bytes for its tag, and its record, rounded up
  abbrev pub object_room : ℕ → ℕ
  object_room t = 8 + round_up true (tree_bytes g.packed (Record (record_row g.program.types t)))

  -- the address of an object of the heap, which is its tag's, where the first one stands at an address
  abbrev pub place_from : ℕ → List ℕ → ℕ → Option ℕ
  place_from x [] o = None
  place_from x (t ∷ ts) zero = Some x
  place_from x (t ∷ ts) (suc o) = place_from (x + object_room t) ts o

  abbrev pub place : List ℕ → ℕ → Option ℕ
  place tags o = place_from heap_base tags o

  -- and that of the next one
  abbrev pub next : List ℕ → ℕ
  next tags = heap_base + sum_by object_room tags

  -- what the meaning counts for them: a cell for each tag, and those of the records
  abbrev pub object_cells : ℕ → ℕ
  object_cells t = suc (row_cells (record_row g.program.types t))

  -- the active calls, and the record types of the objects of the heap
  module _ (k : Active) (tags : List ℕ) where
    abbrev pub trees : Area → ℕ → List DataTree
    trees a o = object_trees g.program k.types tags a o

    -- where a variable of an object begins, if it is in memory
    abbrev pub start : Area → (object variable : ℕ) → Option ℕ
    start Globals o v = Some (g.global o v)
    start Frames o v = k.slot o v
    start Heap o v = option_map (λ x. x + 8) (place tags o)
    start Strings o v = Some (g.string o)

    -- it is there, begins at x and takes n bytes
    abbrev pub Lies : Thing → (x n : ℕ) → Type 0
    Lies (Variable a o v) x n = (t : DataTree) × (slice_get (trees a o) v ≡ Some t) × (start a o v ≡ Some x) × (n ≡ tree_bytes g.packed t)
    Lies (TagOf o) x n = (place tags o ≡ Some x) × (n ≡ 8)
    Lies (Entry y) x n = (z : ℕ) × (g.entry y ≡ Some z) × (x ≡ y) × (n ≡ 8)

    -- two things share no byte, and each lies below what is free of the local data or of the heap; what is free is there
    pub record Room : Type 0 where
      pub apart : (t u : Thing) (x n y m : ℕ) → Lies t x n → Lies u y m → (t ≡ u) ⊎ Sides x n y m
      pub lies : (t : Thing) (x n : ℕ) → Lies t x n → covered g.areas x n ≡ true
      pub below : (t : Thing) (x n : ℕ) → Lies t x n → (x + n ≤ k.local) ⊎ ((heap_base ≤ x) × (x + n ≤ next tags))
      pub heap_few : sum_by object_cells tags ≤ heap_words
      pub heap_covered : (x n : ℕ) → heap_base ≤ x → x + n ≤ heap_base + 8 * heap_words → covered g.areas x n ≡ true
      pub local_begins : local_base ≤ k.local
      pub local_ends : k.local ≤ local_base + 8 * sum k.cells
      pub local_few : sum k.cells ≤ local_words
      pub local_covered : (x n : ℕ) → local_base ≤ x → x + n ≤ local_base + 8 * local_words → covered g.areas x n ≡ true
