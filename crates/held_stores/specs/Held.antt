-- What it means that memory holds a store, and that an address is a part's.
use Rattle.std.specs.Prelude.{◌≡◌, ℕ, ◌+◌, ◌*◌, ◌^◌, ◌<◌, ◌≤◌, List, map, length, replicate, slice_get, Bool, true, ◌&&◌, nat_lt, Option, Some, None}
use Rattle.a64_memory.specs.Memory.{shapes, bytes_at, loaded8, IsRising, IsOfBytes}
use Rattle.a64_memory.specs.Memory.{Area as Region}
use Rattle.a64_memory.specs.Areas.{heap_base, heap_words}
use Rattle.ob_types.specs.Forms.{Form, all}
use Rattle.ob_types.specs.Store.{Cell, Bits, Pointer, Code, Area, Frames, Address, Store, objects, cell_of}
use Rattle.ob_types.specs.Trees.{DataTree, Scalar, fits_byte, row_cells, record_row}
use Rattle.object_nodes.specs.Nodes.{VariableNode}
use Rattle.object_bytes.specs.Objects.{load}
use Rattle.held_stores.specs.Places.{Ground, Active, place, next, trees, start, Room}

-- the number that stands for what a cell has
abbrev pub ValueIs : Ground → (tags : List ℕ) → Cell → ℕ → Type 0
ValueIs g tags (Bits n) x = (x ≡ n) × (n < 2 ^ 64)
ValueIs g tags (Pointer o) x = place g tags o ≡ Some x
ValueIs g tags (Code f) x = g.code f ≡ Some x

-- whether a scalar takes one byte, and not eight
abbrev pub takes_byte : Ground → Form → Bool
takes_byte g f = g.packed && fits_byte f

module _ (g : Ground) (k : Active) where
  -- memory holds the store: what stands where a scalar is, loaded by its width, is its cell's number; tags are the descriptors of their record types,
  -- descriptors have their cells; objects of the heap have as many cells as their record types, and what is free of the heap is zeros
  pub record Held (s : Store) (m : List Region) : Type 0 where
    pub room : Room g k s.tags
    pub frames : map length s.frames ≡ k.cells
    pub areas : shapes m ≡ g.areas
    pub rises : IsRising 0 m
    pub bytes : IsOfBytes m
    pub holds : (a : Area) (o v c b x : ℕ) (f : Form) (value : Cell) → VariableNode g.packed (trees g k s.tags a o) v c b (Scalar f) → start g k s.tags a o v ≡ Some x
        → cell_of (objects a s) o c ≡ Some value → ValueIs g s.tags value (load (takes_byte g f) m (x + b))
    pub tags : (o t x : ℕ) → slice_get s.tags o ≡ Some t → place g s.tags o ≡ Some x → (loaded8 m x ≡ g.descriptor t) × (t < length g.program.types.records)
    pub entries : (x y : ℕ) → g.entry x ≡ Some y → loaded8 m x ≡ y
    pub tagged : length s.tags ≡ length s.heap
    pub counted : map length s.heap ≡ map (λ t. row_cells (record_row g.program.types t)) s.tags
    pub zeros : (x n : ℕ) → next g s.tags ≤ x → x + n ≤ heap_base + 8 * heap_words → bytes_at m x n ≡ replicate n 0
    pub input : all (λ x. nat_lt x 256) s.input ≡ true

  -- from an address of the store on is what has tree t, and x is where it stands in memory
  pub record StandsAt (tags : List ℕ) (a : Address) (t : DataTree) (x : ℕ) : Type 0 where
    pub variable : ℕ
    pub byte : ℕ
    pub from : ℕ
    pub node : VariableNode g.packed (trees g k tags a.area a.object) variable a.cell byte t
    pub begins : start g k tags a.area a.object variable ≡ Some from
    pub is : x ≡ from + byte

  -- from one moment of a call, whose object has this number, to a later one: no object but those of the heap becomes more or larger, those of the
  -- heap stay, and so do the cells of older calls that are in no memory
  pub record Later (frame : ℕ) (s t : Store) : Type 0 where
    pub globals : map length t.globals ≡ map length s.globals
    pub strings : t.strings ≡ s.strings
    pub next : next g s.tags ≤ next g t.tags
    pub place : (o x : ℕ) → place g s.tags o ≡ Some x → place g t.tags o ≡ Some x
    pub tag : (o r : ℕ) → slice_get s.tags o ≡ Some r → slice_get t.tags o ≡ Some r
    pub still : (o v c b : ℕ) (f : Form) → o < frame → VariableNode g.packed (trees g k s.tags Frames o) v c b (Scalar f) → k.slot o v ≡ None
        → cell_of t.frames o c ≡ cell_of s.frames o c
