-- Loads and stores of cells, and what stays.
use Rattle.std.proofs.Common.{◌≡◌, ℕ, zero, suc, ◌+◌, ◌*◌, ◌^◌, ◌%◌, ◌<◌, ◌≤◌, ◌⊎◌, ⊎_elim, inl, inr, List, [], ◌∷◌, map, length, Bool, true, false, ◌&&◌, slice_set, Option, Some, None, refl, sym, ap, ap₂, ◌∙◌, subst, arith, w64}
use Rattle.std.specs.Prelude.{sum, sum_by, slice_get, slice_index_or, option_map, nat_lt}
use Rattle.std.specs.Int.{to_le_bytes}
use Rattle.std.proofs.lemmas.List.Sums.{sum_by-cons}
use Rattle.a64_memory.specs.Memory.{shapes, covered, covers}
use Rattle.a64_memory.specs.Memory.{Area as Region}
use Rattle.a64_memory.specs.Areas.{local_base, heap_base, local_words}
use Rattle.a64_memory.proofs.Shapes.{covers-shapes}
use Rattle.a64_memory.proofs.Stores.{shapes-with_bytes}
use Rattle.a64_memory.proofs.Blocks.{covers-part}
use Rattle.ob_types.specs.Forms.{Form, all}
use Rattle.ob_types.specs.Store.{Cell, Bits, Pointer, Code, Area, Globals, Frames, Heap, Strings, Address, Store, objects, with_objects, cell_of, cell_put, can_write, past}
use Rattle.ob_types.specs.Statements.{heap_cells}
use Rattle.ob_types.specs.Trees.{DataTree, Scalar, scalar_bytes, tree_bytes, row_cells, record_row}
use Rattle.ob_types.proofs.Tests.{some_same}
use Rattle.ob_sound.proofs.Typed.{written, tags_stay, input_stays, heap_stays}
use Rattle.object_nodes.specs.Addresses.{Sides}
use Rattle.object_nodes.specs.AtOnce.{with_cell}
use Rattle.object_nodes.specs.Named.{heap_trees}
use Rattle.object_nodes.specs.Nodes.{Node, VariableNode}
use Rattle.object_nodes.proofs.Meeting.{tree_levels, variable_node}
use Rattle.object_bytes.specs.Objects.{load, store, limit}
use Rattle.object_bytes.proofs.Kept.{areas_store, bytes_store, load_same, load_apart, bytes_apart}
use Rattle.held_stores.specs.Places.{Ground, Active, Variable, TagOf, Entry, object_cells, place, next, trees, start, Room}
use Rattle.held_stores.specs.Held.{ValueIs, takes_byte, Held, StandsAt, Later}
use Rattle.held_stores.proofs.Pieces.{tag_is_none, entry_is_none, node_lies, same_spot, same_variable, one_or_apart, node_apart, node_below}

pub shapes_store : (b : Bool) (m : List Region) (x v : ℕ) → shapes (store b m x v) ≡ shapes m
shapes_store true m x v = shapes-with_bytes m x (v % 2 ^ 8 ∷ [])
shapes_store false m x v = shapes-with_bytes m x (to_le_bytes w64 v)

pub some_none : {A : Type 0} {x : A} {o : Option A} → o ≡ Some x → o ≡ None → ⊥
some_none e f = cc

-- a write changes no object's length

lengths_put : (all : List (List Cell)) (o i : ℕ) (c : Cell) → map length (cell_put all o i c) ≡ map length all
lengths_put [] o i c = refl
lengths_put (cs ∷ all) zero i c = ap (λ n. n ∷ map length all) (set_length cs i)
  where
    set_length : (cs : List Cell) (i : ℕ) → length (slice_set cs i c) ≡ length cs
    set_length [] i = refl
    set_length (x ∷ cs) zero = refl
    set_length (x ∷ cs) (suc i) = ap suc (set_length cs i)
lengths_put (cs ∷ all) (suc o) i c = ap (λ ns. length cs ∷ ns) (lengths_put all o i c)

pub frames_put : (s : Store) (a : Address) (c : Cell) → map length (with_cell a c s).frames ≡ map length s.frames
frames_put s a c = by a.area
  where
    by : (area : Area) → map length (with_objects area (cell_put (objects area s) a.object a.cell c) s).frames ≡ map length s.frames
    by Globals = refl
    by Frames = lengths_put s.frames a.object a.cell c
    by Heap = refl
    by Strings = refl

pub heap_put : (s : Store) (a : Address) (c : Cell) → map length (with_cell a c s).heap ≡ map length s.heap
heap_put s a c = by a.area
  where
    by : (area : Area) → map length (with_objects area (cell_put (objects area s) a.object a.cell c) s).heap ≡ map length s.heap
    by Globals = refl
    by Frames = refl
    by Heap = lengths_put s.heap a.object a.cell c
    by Strings = refl

globals_put : (s : Store) (a : Address) (c : Cell) → map length (with_cell a c s).globals ≡ map length s.globals
globals_put s a c = by a.area
  where
    by : (area : Area) → map length (with_objects area (cell_put (objects area s) a.object a.cell c) s).globals ≡ map length s.globals
    by Globals = lengths_put s.globals a.object a.cell c
    by Frames = refl
    by Heap = refl
    by Strings = refl

strings_put : (s : Store) (a : Address) (c : Cell) → (with_cell a c s).strings ≡ s.strings
strings_put s a c = by a.area
  where
    by : (area : Area) → (with_objects area (cell_put (objects area s) a.object a.cell c) s).strings ≡ s.strings
    by Globals = refl
    by Frames = refl
    by Heap = refl
    by Strings = refl

-- the cell that is written has what was written
pub put_there : (s : Store) (a : Address) (v old : Cell) → can_write a.area ≡ true → cell_of (objects a.area s) a.object a.cell ≡ Some old → cell_of (objects a.area (with_cell a v s)) a.object a.cell ≡ Some v
put_there s a v old may is = by a.area may is
  where
    set_here : (cs : List Cell) (i : ℕ) (x : Cell) → slice_get cs i ≡ Some x → slice_get (slice_set cs i v) i ≡ Some v
    set_here [] i x e = absurd (cc)
    set_here (y ∷ cs) zero x e = refl
    set_here (y ∷ cs) (suc i) x e = set_here cs i x e

    here : (all : List (List Cell)) (o : ℕ) → cell_of all o a.cell ≡ Some old → cell_of (cell_put all o a.cell v) o a.cell ≡ Some v
    here [] o e = absurd (cc)
    here (cs ∷ all) zero e = set_here cs a.cell old e
    here (cs ∷ all) (suc o) e = here all o e

    by : (area : Area) → can_write area ≡ true → cell_of (objects area s) a.object a.cell ≡ Some old → cell_of (objects area (with_objects area (cell_put (objects area s) a.object a.cell v) s)) a.object a.cell ≡ Some v
    by Globals w e = here s.globals a.object e
    by Frames w e = here s.frames a.object e
    by Heap w e = here s.heap a.object e
    by Strings w e = absurd (cc)

pub cell_same : (s : Store) (a b : Area) (o p c d : ℕ) → a ≡ b → o ≡ p → c ≡ d → cell_of (objects a s) o c ≡ cell_of (objects b s) p d
cell_same s a b o p c d e f h = subst (λ b. cell_of (objects a s) o c ≡ cell_of (objects b s) p d) e (ap₂ (λ p d. cell_of (objects a s) p d) f h)

pub some_byte : (b : Bool) → 1 ≤ scalar_bytes b
some_byte true = omega arith
some_byte false = omega arith

not_beside : (x n m : ℕ) → 1 ≤ n → 1 ≤ m → Sides x n x m → ⊥
not_beside x n m a b (inl h) = omega (arith, a, h)
not_beside x n m a b (inr h) = omega (arith, b, h)

module _ (g : Ground) (k : Active) where
  ---- Addresses

  -- a part's address
  pub stands_part : (tags : List ℕ) (a : Address) (t : DataTree) (x c o : ℕ) (u : DataTree) → StandsAt g k tags a t x → Node g.packed t c o u → StandsAt g k tags (past a c) u (x + o)
  stands_part tags a t x c o u at n = record {
    variable = at.variable;
    byte = at.byte + o;
    from = at.from;
    node = variable_node g.packed (trees g k tags a.area a.object) at.variable a.cell at.byte t c o u (a.cell + c) at.node n refl;
    begins = at.begins;
    is = let e = at.is in omega (arith, e);
  }

  pub stands_covered : (s : Store) (m : List Region) (a : Address) (t : DataTree) (x : ℕ) → Held g k s m → StandsAt g k s.tags a t x → covers m x (tree_bytes g.packed t) ≡ true
  stands_covered s m a t x h at =
      let i = node_lies g k s.tags a.area a.object at.variable a.cell at.byte at.from t at.node at.begins in
      let fits = i.2 in let is = at.is in
      covers-part m at.from i.0 x (tree_bytes g.packed t)
      (covers-shapes m at.from i.0 ∙ ap (λ ss. covered ss at.from i.0) h.areas ∙ h.room.lies (Variable a.area a.object at.variable) at.from i.0 i.1)
      (omega (arith, is)) (omega (arith, is, fits))

  -- a later store has what an earlier one had

  node_later : (s t : Store) (frame : ℕ) (a : Area) (o v c b : ℕ) (u : DataTree) → Later g k frame s t → VariableNode g.packed (trees g k s.tags a o) v c b u → VariableNode g.packed (trees g k t.tags a o) v c b u
  node_later s t frame Globals o v c b u later n = n
  node_later s t frame Frames o v c b u later n = n
  node_later s t frame Strings o v c b u later n = n
  node_later s t frame Heap o v c b u later n = by (slice_get s.tags o) refl n
    where
      by : (r : Option ℕ) → slice_get s.tags o ≡ r → VariableNode g.packed (heap_trees g.program r) v c b u → VariableNode g.packed (heap_trees g.program (slice_get t.tags o)) v c b u
      by None e n = absurd n
      by (Some r) e n = subst (λ r. VariableNode g.packed (heap_trees g.program r) v c b u) (sym (later.tag o r e)) n

  start_later : (s t : Store) (frame : ℕ) (a : Area) (o v x : ℕ) → Later g k frame s t → start g k s.tags a o v ≡ Some x → start g k t.tags a o v ≡ Some x
  start_later s t frame Globals o v x later e = e
  start_later s t frame Frames o v x later e = e
  start_later s t frame Strings o v x later e = e
  start_later s t frame Heap o v x later e = by (place g s.tags o) refl e
    where
      by : (p : Option ℕ) → place g s.tags o ≡ p → option_map (λ x. x + 8) p ≡ Some x → option_map (λ x. x + 8) (place g t.tags o) ≡ Some x
      by None e f = absurd (cc)
      by (Some p) e f = ap (option_map (λ x. x + 8)) (later.place o p e) ∙ f

  pub stands_later : (s t : Store) (frame : ℕ) (a : Address) (u : DataTree) (x : ℕ) → Later g k frame s t → StandsAt g k s.tags a u x → StandsAt g k t.tags a u x
  stands_later s t frame a u x later at = record {
    variable = at.variable;
    byte = at.byte;
    from = at.from;
    node = node_later s t frame a.area a.object at.variable a.cell at.byte u later at.node;
    begins = start_later s t frame a.area a.object at.variable at.from later at.begins;
    is = at.is;
  }

  pub value_later : (s t : Store) (frame : ℕ) (c : Cell) (x : ℕ) → Later g k frame s t → ValueIs g s.tags c x → ValueIs g t.tags c x
  value_later s t frame (Bits n) x later h = h
  value_later s t frame (Pointer o) x later h = later.place o x h
  value_later s t frame (Code f) x later h = h

  pub later_refl : (frame : ℕ) (s : Store) → Later g k frame s s
  later_refl frame s = record { globals = refl; strings = refl; next = omega arith; place = λ o x e. e; tag = λ o r e. e; still = λ o v c b f lt n none. refl }

  pub later_on : (frame : ℕ) (s t u : Store) → Later g k frame s t → Later g k frame t u → Later g k frame s u
  later_on frame s t u a b = record {
    globals = b.globals ∙ a.globals;
    strings = b.strings ∙ a.strings;
    next = let x = a.next in let y = b.next in omega (arith, x, y);
    place = λ o x e. b.place o x (a.place o x e);
    tag = λ o r e. b.tag o r (a.tag o r e);
    still = λ o v c c' f lt n none. b.still o v c c' f lt (node_later s t frame Frames o v c c' (Scalar f) a n) none ∙ a.still o v c c' f lt n none;
  }

  -- two parts with as many levels are one, or share no byte
  pub stands_apart : (tags : List ℕ) (a b : Address) (t u : DataTree) (x y : ℕ) → Room g k tags → tree_levels t ≡ tree_levels u → StandsAt g k tags a t x → StandsAt g k tags b u y
      → ((a ≡ b) × (x ≡ y)) ⊎ Sides x (tree_bytes g.packed t) y (tree_bytes g.packed u)
  stands_apart tags a b t u x y room levels p q =
      ⊎_elim
      (λ (h : (a.area ≡ b.area) × (a.object ≡ b.object) × (a.cell ≡ b.cell) × (p.from + p.byte ≡ q.from + q.byte) × (t ≡ u)).
      let i = p.is in let j = q.is in let e = h.3 in
      inl (same_address a b h.0 h.1 h.2, omega (arith, i, j, e)))
      (λ (h : Sides (p.from + p.byte) (tree_bytes g.packed t) (q.from + q.byte) (tree_bytes g.packed u)). inr (apart p.is q.is h))
      (one_or_apart g k tags room a.area a.object p.variable a.cell p.byte p.from t b.area b.object q.variable b.cell q.byte q.from u levels p.node p.begins q.node q.begins)
    where
      same_address : (a b : Address) → a.area ≡ b.area → a.object ≡ b.object → a.cell ≡ b.cell → a ≡ b
      same_address a b e f h = ap (λ (area : Area). record { area = area; object = a.object; cell = a.cell }) e ∙ ap₂ (λ (o c : ℕ). record { area = b.area; object = o; cell = c }) f h

      apart : x ≡ p.from + p.byte → y ≡ q.from + q.byte → Sides (p.from + p.byte) (tree_bytes g.packed t) (q.from + q.byte) (tree_bytes g.packed u) → Sides x (tree_bytes g.packed t) y (tree_bytes g.packed u)
      apart i j (inl h) = inl (omega (arith, i, j, h))
      apart i j (inr h) = inr (omega (arith, i, j, h))

  ---- Loads

  pub load_is : (s : Store) (m : List Region) (a : Address) (f : Form) (x : ℕ) (v : Cell) → Held g k s m → StandsAt g k s.tags a (Scalar f) x → cell_of (objects a.area s) a.object a.cell ≡ Some v → ValueIs g s.tags v (load (takes_byte g f) m x)
  load_is s m a f x v h at is =
      subst (λ y. ValueIs g s.tags v (load (takes_byte g f) m y)) (sym at.is) (h.holds a.area a.object at.variable a.cell at.byte at.from f v at.node at.begins is)

  ---- Stores

  pub tags_put : (s : Store) (a : Address) (v : Cell) → (with_cell a v s).tags ≡ s.tags
  tags_put s a v = tags_stay s a.area (cell_put (objects a.area s) a.object a.cell v)

  pub later_put : (frame : ℕ) (s : Store) (a : Address) (v : Cell) → (a.area ≡ Frames → a.object < frame → (w b : ℕ) (f : Form) → VariableNode g.packed (trees g k s.tags Frames a.object) w a.cell b (Scalar f) → k.slot a.object w ≡ None → ⊥) → Later g k frame s (with_cell a v s)
  later_put frame s a v off = record {
    globals = globals_put s a v;
    strings = strings_put s a v;
    next = let e = ap (next g) (tags_put s a v) in omega (arith, e);
    place = λ o x e. ap (λ ts. place g ts o) (tags_put s a v) ∙ e;
    tag = λ o r e. ap (λ ts. slice_get ts o) (tags_put s a v) ∙ e;
    still = λ o w c b f lt n none. elim (written s a.area a.object a.cell v Frames o c) [
      | inl h ↦
          (let e = h.1 in
          absurd (off h.0 (omega (arith, e, lt)) w b f
          (subst (λ c. VariableNode g.packed (trees g k s.tags Frames a.object) w c b (Scalar f)) (sym h.2) (subst (λ o. VariableNode g.packed (trees g k s.tags Frames o) w c b (Scalar f)) (sym h.1) n))
          (ap (λ o. k.slot o w) h.1 ∙ none)))
      | inr e ↦ e
    ];
  }

  -- what is above the local data or in the heap isn't what is free
  pub beyond_free : (tags : List ℕ) (x n y : ℕ) → Room g k tags → (x + n ≤ k.local) ⊎ ((heap_base ≤ x) × (x + n ≤ next g tags)) → next g tags ≤ y → x + n ≤ y
  beyond_free tags x n y room (inl low) le =
      let top = room.local_ends in let few = room.local_few in omega (arith, low, top, few, le)
  beyond_free tags x n y room (inr high) le = let top = high.1 in omega (arith, top, le)

  module _ (s : Store) (m : List Region) (a : Address) (f : Form) (x : ℕ) (v old : Cell) (y : ℕ) (h : Held g k s m) (may : can_write a.area ≡ true) (is : cell_of (objects a.area s) a.object a.cell ≡ Some old)
      (at : StandsAt g k s.tags a (Scalar f) x) (value : ValueIs g s.tags v y) (small : y < limit (takes_byte g f)) where
    abbrev after : Store
    after = with_cell a v s

    abbrev memory : List Region
    memory = store (takes_byte g f) m x y

    same_tags : after.tags ≡ s.tags
    same_tags = tags_put s a v

    cover : covers m x (scalar_bytes (takes_byte g f)) ≡ true
    cover = stands_covered s m a (Scalar f) x h at

    -- a scalar that is the one which is stored
    new_holds : (b : Area) (p d z : ℕ) (w : Cell) (i : Form) → a.area ≡ b → a.object ≡ p → a.cell ≡ d → x ≡ z → Scalar f ≡ Scalar i → cell_of (objects b after) p d ≡ Some w → ValueIs g s.tags w (load (takes_byte g i) memory z)
    new_holds b p d z w i area object cell place form there =
        let one : w ≡ v = some_same w v (sym there ∙ sym (cell_same after a.area b a.object p a.cell d area object cell) ∙ put_there s a v old may is) in
        let loaded = load_same (takes_byte g f) m x y cover small in
        subst (λ w. ValueIs g s.tags w (load (takes_byte g i) memory z)) (sym one)
        (subst (λ n. ValueIs g s.tags v n) (sym (sym (ap₂ (λ (t : DataTree) (z : ℕ). load (byte_of t) memory z) form place) ∙ loaded)) value)
      where
        byte_of : DataTree → Bool
        byte_of (Scalar f) = takes_byte g f
        byte_of _ = false

    -- and one that isn't
    old_holds : (b : Area) (p w d e z : ℕ) (i : Form) (c : Cell) → VariableNode g.packed (trees g k s.tags b p) w d e (Scalar i) → start g k s.tags b p w ≡ Some z → Sides (z + e) (scalar_bytes (takes_byte g i)) x (scalar_bytes (takes_byte g f))
        → cell_of (objects b after) p d ≡ Some c → ValueIs g s.tags c (load (takes_byte g i) memory (z + e))
    old_holds b p w d e z i c n to far there = elim (written s a.area a.object a.cell v b p d) [
      | inl same ↦ absurd (twice same.0 same.1 same.2)
      | inr q ↦ subst (λ n. ValueIs g s.tags c n) (sym (load_apart (takes_byte g f) (takes_byte g i) m x y (z + e) far)) (h.holds b p w d e z i c n to (sym q ∙ there))
    ]
      where
        twice : a.area ≡ b → a.object ≡ p → a.cell ≡ d → ⊥
        twice area object cell =
            let here = subst (λ p. VariableNode g.packed (trees g k s.tags a.area p) w d e (Scalar i)) (sym object) (subst (λ b. VariableNode g.packed (trees g k s.tags b p) w d e (Scalar i)) (sym area) n) in
            let begins = subst (λ p. start g k s.tags a.area p w ≡ Some z) (sym object) (subst (λ b. start g k s.tags b p w ≡ Some z) (sym area) to) in
            let one = same_spot g k s.tags a.area a.object at.variable a.cell at.byte at.from f w d e z i at.node at.begins here begins cell in
            let is = at.is in
            let place : z + e ≡ x = omega (arith, one, is) in
            not_beside x (scalar_bytes (takes_byte g i)) (scalar_bytes (takes_byte g f)) (some_byte (takes_byte g i)) (some_byte (takes_byte g f)) (subst (λ q. Sides q (scalar_bytes (takes_byte g i)) x (scalar_bytes (takes_byte g f))) place far)

    holds_after : (b : Area) (p w d e z : ℕ) (i : Form) (c : Cell) → VariableNode g.packed (trees g k s.tags b p) w d e (Scalar i) → start g k s.tags b p w ≡ Some z → cell_of (objects b after) p d ≡ Some c
        → ValueIs g s.tags c (load (takes_byte g i) memory (z + e))
    holds_after b p w d e z i c n to there =
        let is = at.is in
        ⊎_elim
        (λ (one : (a.area ≡ b) × (a.object ≡ p) × (a.cell ≡ d) × (at.from + at.byte ≡ z + e) × (Scalar f ≡ Scalar i)).
        let place = one.3 in new_holds b p d (z + e) c i one.0 one.1 one.2 (omega (arith, is, place)) one.4 there)
        (λ (far : Sides (at.from + at.byte) (scalar_bytes (takes_byte g f)) (z + e) (scalar_bytes (takes_byte g i))). old_holds b p w d e z i c n to (turned is far) there)
        (one_or_apart g k s.tags h.room a.area a.object at.variable a.cell at.byte at.from (Scalar f) b p w d e z (Scalar i) refl at.node at.begins n to)
      where
        turned : x ≡ at.from + at.byte → Sides (at.from + at.byte) (scalar_bytes (takes_byte g f)) (z + e) (scalar_bytes (takes_byte g i)) → Sides (z + e) (scalar_bytes (takes_byte g i)) x (scalar_bytes (takes_byte g f))
        turned is (inl far) = inr (omega (arith, is, far))
        turned is (inr far) = inl (omega (arith, is, far))

    -- a tag or a descriptor's cell shares no byte with the scalar
    word_else : (z : ℕ) → Sides z 8 (at.from + at.byte) (scalar_bytes (takes_byte g f)) → load false memory z ≡ load false m z
    word_else z far = let is = at.is in load_apart (takes_byte g f) false m x y z (moved is far)
      where
        moved : x ≡ at.from + at.byte → Sides z 8 (at.from + at.byte) (scalar_bytes (takes_byte g f)) → Sides z 8 x (scalar_bytes (takes_byte g f))
        moved is (inl far) = inl (omega (arith, is, far))
        moved is (inr far) = inr (omega (arith, is, far))

    -- memory holds the store with the cell written
    pub store_held : Held g k after memory
    store_held = record {
      room = subst (λ ts. Room g k ts) (sym same_tags) h.room;
      frames = frames_put s a v ∙ h.frames;
      areas = shapes_store (takes_byte g f) m x y ∙ h.areas;
      rises = areas_store (takes_byte g f) m x y h.rises;
      bytes = bytes_store (takes_byte g f) m x y h.bytes;
      holds = λ b p w d e z i c n to there.
          subst (λ ts. ValueIs g ts c (load (takes_byte g i) memory (z + e))) (sym same_tags)
          (holds_after b p w d e z i c (subst (λ ts. VariableNode g.packed (trees g k ts b p) w d e (Scalar i)) same_tags n) (subst (λ ts. start g k ts b p w ≡ Some z) same_tags to) there);
      tags = λ o t z it to.
          let at_place = subst (λ ts. place g ts o ≡ Some z) same_tags to in
          let old_tag = h.tags o t z (subst (λ ts. slice_get ts o ≡ Some t) same_tags it) at_place in
          (word_else z (node_apart g k s.tags h.room a.area a.object at.variable a.cell at.byte at.from (Scalar f) at.node at.begins (TagOf o) z 8 (at_place, refl) tag_is_none) ∙ old_tag.0, old_tag.1);
      entries = λ z n e. word_else z (node_apart g k s.tags h.room a.area a.object at.variable a.cell at.byte at.from (Scalar f) at.node at.begins (Entry z) z 8 (n, e, refl, refl) entry_is_none) ∙ h.entries z n e;
      tagged = ap length same_tags ∙ h.tagged ∙ sym (heap_stays s a.area a.object a.cell v);
      counted = heap_put s a v ∙ h.counted ∙ ap (λ ts. map (λ t. row_cells (record_row g.program.types t)) ts) (sym same_tags);
      zeros = λ z n le ends.
          let free = subst (λ ts. next g ts ≤ z) same_tags le in
          let is = at.is in
          let low = beyond_free s.tags (at.from + at.byte) (scalar_bytes (takes_byte g f)) z h.room (node_below g k s.tags h.room a.area a.object at.variable a.cell at.byte at.from (Scalar f) at.node at.begins) free in
          bytes_apart (takes_byte g f) m x y z n (inr (omega (arith, is, low))) ∙ h.zeros z n free ends;
      input = ap (λ xs. all (λ x. nat_lt x 256) xs) (input_stays s a.area (cell_put (objects a.area s) a.object a.cell v)) ∙ h.input;
    }

  -- a cell that is in no memory
  pub put_apart : (s : Store) (m : List Region) (a : Address) (v : Cell) (w b : ℕ) (f : Form) → Held g k s m → VariableNode g.packed (trees g k s.tags a.area a.object) w a.cell b (Scalar f) → start g k s.tags a.area a.object w ≡ None → Held g k (with_cell a v s) m
  put_apart s m a v w b f h node off =
      let same = tags_put s a v in
      record {
        room = subst (λ ts. Room g k ts) (sym same) h.room;
        frames = frames_put s a v ∙ h.frames;
        areas = h.areas;
        rises = h.rises;
        bytes = h.bytes;
        holds = λ p o u d e z i c n to there.
            let n2 = subst (λ ts. VariableNode g.packed (trees g k ts p o) u d e (Scalar i)) same n in
            let to2 = subst (λ ts. start g k ts p o u ≡ Some z) same to in
            subst (λ ts. ValueIs g ts c (load (takes_byte g i) m (z + e))) (sym same)
            (elim (written s a.area a.object a.cell v p o d) [
              | inl q ↦ absurd (nowhere p o u d e z i n2 to2 q.0 q.1 q.2)
              | inr q ↦ h.holds p o u d e z i c n2 to2 (sym q ∙ there)
            ]);
        tags = λ o t z it to. h.tags o t z (subst (λ ts. slice_get ts o ≡ Some t) same it) (subst (λ ts. place g ts o ≡ Some z) same to);
        entries = h.entries;
        tagged = ap length same ∙ h.tagged ∙ sym (heap_stays s a.area a.object a.cell v);
        counted = heap_put s a v ∙ h.counted ∙ ap (λ ts. map (λ t. row_cells (record_row g.program.types t)) ts) (sym same);
        zeros = λ z n le ends. h.zeros z n (subst (λ ts. next g ts ≤ z) same le) ends;
        input = ap (λ xs. all (λ x. nat_lt x 256) xs) (input_stays s a.area (cell_put (objects a.area s) a.object a.cell v)) ∙ h.input;
      }
    where
      nowhere : (p : Area) (o u d e z : ℕ) (i : Form) → VariableNode g.packed (trees g k s.tags p o) u d e (Scalar i) → start g k s.tags p o u ≡ Some z → a.area ≡ p → a.object ≡ o → a.cell ≡ d → ⊥
      nowhere p o u d e z i n to area object cell =
          let here = subst (λ o. VariableNode g.packed (trees g k s.tags a.area o) u d e (Scalar i)) (sym object) (subst (λ p. VariableNode g.packed (trees g k s.tags p o) u d e (Scalar i)) (sym area) n) in
          let begins = subst (λ o. start g k s.tags a.area o u ≡ Some z) (sym object) (subst (λ p. start g k s.tags p o u ≡ Some z) (sym area) to) in
          let one = same_variable g k s.tags a.area a.object w a.cell b f u d e i node here cell in
          some_none begins (sym (ap (λ w. start g k s.tags a.area a.object w) one) ∙ off)

  -- what the meaning counts of the heap
  pub heap_counts : (s : Store) (m : List Region) → Held g k s m → heap_cells s.heap ≡ sum_by (object_cells g) s.tags
  heap_counts s m h = all_counts s.heap s.tags h.counted
    where
      all_counts : (heap : List (List Cell)) (tags : List ℕ) → map length heap ≡ map (λ t. row_cells (record_row g.program.types t)) tags → heap_cells heap ≡ sum_by (object_cells g) tags
      all_counts [] [] e = refl
      all_counts [] (t ∷ tags) e = absurd (cc)
      all_counts (cs ∷ heap) [] e = absurd (cc)
      all_counts (cs ∷ heap) (t ∷ tags) e =
          let both = parts e in
          let one = both.0 in
          let more = all_counts heap tags both.1 in
          let a = sum_by-cons (λ (cs : List Cell). suc (length cs)) cs heap in
          let b = sum_by-cons (object_cells g) t tags in
          omega (arith, one, more, a, b)
        where
          parts : {x y : ℕ} {xs ys : List ℕ} → x ∷ xs ≡ y ∷ ys → (x ≡ y) × (xs ≡ ys)
          parts e = (cc, cc)
