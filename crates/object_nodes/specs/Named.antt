-- What a designator names, and what an argument hands over, as nodes of the objects of a store.
use Rattle.std.specs.Prelude.{◌≡◌, ℕ, suc, ◌∷◌, List, [], map, length, Bool, Option, Some, None, slice_get, slice_index_or}
use Rattle.ob_types.specs.Layout.{kind_of}
use Rattle.ob_types.specs.Store.{Area, Globals, Frames, Heap, Strings, Address, Handed, At, Sized, Tagged, Value}
use Rattle.ob_types.specs.Meaning.{texts_of}
use Rattle.ob_types.specs.declared.types.Formal.{Formal}
use Rattle.ob_types.specs.declared.types.Mode.{Mode}
use Rattle.ob_types.specs.declared.types.Mode.TheVariants.{Place}
use Rattle.ob_types.specs.declared.types.Mode.TheVariants.{Value as OfValue, Record as OfRecord, Open as OfOpen}
use Rattle.ob_types.specs.declared.program.Program.{Program}
use Rattle.ob_types.specs.Forms.{Truth, Small}
use Rattle.ob_types.specs.WellFormed.{Named, Cells, Of, OpenOf, Dynamic, Characters, open_element}
use Rattle.ob_types.specs.Trees.{DataTree, Scalar, Array, Record, data_tree, record_row}
use Rattle.object_nodes.specs.Nodes.{VariableNode}

module _ (p : Program) where
  -- In.Done, and then each module's variables
  unfoldable pub global_trees : List (List DataTree)
  global_trees = (Scalar Truth ∷ []) ∷ map (λ m. map (data_tree p.types) m.variables) p.modules

  -- each string with its 0X
  unfoldable pub string_trees : List (List DataTree)
  string_trees = map (λ xs. Array (suc (length xs)) (Scalar Small) ∷ []) (texts_of p.procedures)

  -- what NEW made is its record
  abbrev pub heap_trees : Option ℕ → List DataTree
  heap_trees None = []
  heap_trees (Some t) = Record (record_row p.types t) ∷ []

  -- the variables of an object, where the active calls have variables of the types vs and the objects of the heap have these tags
  abbrev pub object_trees : (vs : List (List ℕ)) → (tags : List ℕ) → Area → ℕ → List DataTree
  object_trees vs tags Globals o = slice_index_or global_trees o []
  object_trees vs tags Frames o = map (data_tree p.types) (slice_index_or vs o [])
  object_trees vs tags Heap o = heap_trees (slice_get tags o)
  object_trees vs tags Strings o = slice_index_or string_trees o []

  module _ (packed : Bool) (vs : List (List ℕ)) (tags : List ℕ) where
    -- at an address stands what has tree s: a node of the v-th variable of its object, b bytes into it
    abbrev pub IsNode : Address → DataTree → Type 0
    IsNode a s = (v : ℕ) × (b : ℕ) × VariableNode packed (object_trees vs tags a.area a.object) v a.cell b s

    -- what a name stands for is a node: a record's by its dynamic type, an open array's by its length
    abbrev pub NamesNode : Named → Handed → Type 0
    NamesNode (Cells f w) (At a) = IsNode a (Scalar f)
    NamesNode (Of k w) (At a) = IsNode a (data_tree p.types k)
    NamesNode (OpenOf e w) (Sized a n) = IsNode a (Array n (data_tree p.types e))
    NamesNode (Dynamic r) (Tagged a t) = IsNode a (Record (record_row p.types t))
    NamesNode (Characters n) (At a) = IsNode a (Array n (Scalar Small))
    NamesNode _ _ = ⊥

    -- what was handed over is a node, as its parameter wants it; a value has no address
    abbrev pub TakenNode : Mode → (kind : ℕ) → Handed → Type 0
    TakenNode OfValue kind (Value c) = Unit {0}
    TakenNode Place kind (At a) = IsNode a (data_tree p.types kind)
    TakenNode OfRecord kind (Tagged a t) = IsNode a (Record (record_row p.types t))
    TakenNode OfOpen kind (Sized a n) = (e : ℕ) → open_element (kind_of p.types kind) ≡ Some e → IsNode a (Array n (data_tree p.types e))
    TakenNode _ kind _ = ⊥

    abbrev pub AllNodes : List Formal → List Handed → Type 0
    AllNodes [] [] = Unit {0}
    AllNodes (x ∷ xs) (h ∷ hs) = TakenNode x.mode x.type_number h × AllNodes xs hs
    AllNodes _ _ = ⊥
