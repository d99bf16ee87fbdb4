-- Copies: the bytes of one part of an object, written over those of another one of the same tree, copy its cells; and of arrays the first elements.
use Rattle.std.proofs.Common.{◌≡◌, ℕ, zero, suc, ◌+◌, ◌-◌, ◌*◌, ◌<◌, ◌≤◌, ◌⊎◌, ⊎_elim, inl, inr, List, [], ◌∷◌, map, length, Bool, true, false, Some, refl, sym, ap, ap₂, ◌∙◌, subst, arith}
use Rattle.std.specs.Prelude.{slice_get, nat_lt}
use Rattle.std.proofs.lemmas.Bool.{cases_lt}
use Rattle.a64_memory.specs.Bytes.{slab}
use Rattle.a64_memory.specs.Memory.{covers, bytes_at, with_bytes, loaded8}
use Rattle.a64_memory.specs.Memory.{Area as Region}
use Rattle.a64_memory.proofs.Stores.{shapes-with_bytes, rising-with_bytes, of_bytes-with_bytes, bytes_at-with_bytes_apart, length-bytes_at}
use Rattle.a64_memory.proofs.Blocks.{covers-part, bytes_at-part, of_bytes-bytes_at}
use Rattle.ob_types.specs.Forms.{Form, all}
use Rattle.ob_types.specs.Store.{Cell, Area, Address, Store, objects, cell_of, cell_put, can_write, past}
use Rattle.ob_types.specs.Trees.{DataTree, Scalar, Array, scalar_bytes, tree_cells, tree_bytes, tree_forms, row_cells, record_row}
use Rattle.ob_types.proofs.Tests.{some_same}
use Rattle.ob_sound.proofs.Typed.{written, tags_stay, input_stays, heap_stays}
use Rattle.object_nodes.specs.Addresses.{Sides}
use Rattle.object_nodes.specs.AtOnce.{cell_or_zero, held_cell, with_cell, with_copied, CellsThere}
use Rattle.object_nodes.specs.Nodes.{Node, VariableNode}
use Rattle.object_nodes.proofs.Meeting.{times_below, node_bytes, node_cells, variable_node}
use Rattle.object_nodes.proofs.Scalars.{scalar_node, first_or_past}
use Rattle.object_nodes.proofs.Trees.{cells_forms}
use Rattle.object_bytes.specs.Objects.{load}
use Rattle.object_bytes.proofs.Kept.{load_bytes}
use Rattle.object_bytes.proofs.Blocks.{bytes_at-piece}
use Rattle.held_stores.specs.Places.{Ground, Active, Thing, Variable, TagOf, Entry, place, next, trees, start, Lies, Room}
use Rattle.held_stores.specs.Held.{ValueIs, takes_byte, Held, StandsAt}
use Rattle.held_stores.specs.Changes.{Begins}
use Rattle.held_stores.proofs.Pieces.{tag_is_none, entry_is_none, node_lies, same_spot, scalar_or_apart, node_apart, node_below}
use Rattle.held_stores.proofs.Stores.{put_there, cell_same, frames_put, heap_put, stands_part, stands_covered, some_byte, beyond_free}

---- The cells

module _ (to from : Address) (s : Store) (may : can_write to.area ≡ true) where
  abbrev done : ℕ → Store
  done n = with_copied n to from s

  still_there : (n : ℕ) (b : Area) (p d : ℕ) (old : Cell) → cell_of (objects b s) p d ≡ Some old → (c : Cell) × (cell_of (objects b (done n)) p d ≡ Some c)
  still_there zero b p d old is = (old, is)
  still_there (suc n) b p d old is = let h = still_there n b p d old is in elim (written (done n) to.area to.object (to.cell + n) (held_cell (past from n) s) b p d) [
    | inl q ↦ (held_cell (past from n) s, q.3 h.0 (cell_same (done n) to.area b to.object p (to.cell + n) d q.0 q.1 q.2 ∙ h.1))
    | inr q ↦ (h.0, q ∙ h.1)
  ]

  -- a cell that was copied to
  copied_at : (n j : ℕ) (old : Cell) → j < n → cell_of (objects to.area s) to.object (to.cell + j) ≡ Some old → cell_of (objects to.area (done n)) to.object (to.cell + j) ≡ Some (held_cell (past from j) s)
  copied_at zero j old lt is = absurd (omega (arith, lt))
  copied_at (suc n) j old lt is = ⊎_elim
      (λ (less : j < n). elim (written (done n) to.area to.object (to.cell + n) (held_cell (past from n) s) to.area to.object (to.cell + j)) [
        | inl q ↦ (let e = q.2 in absurd (omega (arith, e, less)))
        | inr q ↦ q ∙ copied_at n j old less is
      ])
      (λ (le : n ≤ j).
      let same : n ≡ j = omega (arith, le, lt) in
      let h = still_there n to.area to.object (to.cell + j) old is in
      let here = subst (λ i. cell_of (objects to.area (done n)) to.object (to.cell + i) ≡ Some h.0) (sym same) h.1 in
      let put = put_there (done n) (past to n) (held_cell (past from n) s) h.0 may here in
      subst (λ i. cell_of (objects to.area (done (suc n))) to.object (to.cell + i) ≡ Some (held_cell (past from i) s)) same put)
      (cases_lt j n)

  -- and any other
  copied_else : (n : ℕ) (b : Area) (p d : ℕ) → ((j : ℕ) → j < n → to.area ≡ b → to.object ≡ p → to.cell + j ≡ d → ⊥) → cell_of (objects b (done n)) p d ≡ cell_of (objects b s) p d
  copied_else zero b p d other = refl
  copied_else (suc n) b p d other = elim (written (done n) to.area to.object (to.cell + n) (held_cell (past from n) s) b p d) [
    | inl q ↦ absurd (other n (omega arith) q.0 q.1 q.2)
    | inr q ↦ q ∙ copied_else n b p d (λ j lt. other j (omega (arith, lt)))
  ]

  tags_copied : (n : ℕ) → (done n).tags ≡ s.tags
  tags_copied zero = refl
  tags_copied (suc n) = tags_stay (done n) to.area (cell_put (objects to.area (done n)) to.object (to.cell + n) (held_cell (past from n) s)) ∙ tags_copied n

  frames_copied : (n : ℕ) → map length (done n).frames ≡ map length s.frames
  frames_copied zero = refl
  frames_copied (suc n) = frames_put (done n) (past to n) (held_cell (past from n) s) ∙ frames_copied n

  heap_copied : (n : ℕ) → length (done n).heap ≡ length s.heap
  heap_copied zero = refl
  heap_copied (suc n) = heap_stays (done n) to.area to.object (to.cell + n) (held_cell (past from n) s) ∙ heap_copied n

  lengths_copied : (n : ℕ) → map length (done n).heap ≡ map length s.heap
  lengths_copied zero = refl
  lengths_copied (suc n) = heap_put (done n) (past to n) (held_cell (past from n) s) ∙ lengths_copied n

  input_copied : (n : ℕ) → (done n).input ≡ s.input
  input_copied zero = refl
  input_copied (suc n) = input_stays (done n) to.area (cell_put (objects to.area (done n)) to.object (to.cell + n) (held_cell (past from n) s)) ∙ input_copied n

pub begins_self : (packed : Bool) (t : DataTree) → Begins packed t t
begins_self packed t = record { split = λ d q f n. inl n; back = λ d q f n. n; fits = omega arith }

pub begins_array : (packed : Bool) (n m : ℕ) (e : DataTree) → m ≤ n → Begins packed (Array n e) (Array m e)
begins_array packed n m e le = record {
  split = λ d q f node. first_or_past packed n m e d q f node;
  back = λ d q f node. back d q f node;
  fits = times_below (tree_bytes packed e) m n le;
}
  where
    back : (d q : ℕ) (f : Form) → Node packed (Array m e) d q (Scalar f) → Node packed (Array n e) d q (Scalar f)
    back d q f (inl h) = absurd (cc)
    back d q f (inr h) = let lt = h.3 in inr (h.0, h.1, h.2, omega (arith, lt, le), h.4, h.5, h.6)

module _ (g : Ground) (k : Active) (s : Store) (m : List Region) (held : Held g k s m) (to from : Address) (u t : DataTree) (x y : ℕ) (begins : Begins g.packed u t)
    (into : StandsAt g k s.tags to u x) (out : StandsAt g k s.tags from t y) (may : can_write to.area ≡ true) (there : CellsThere (tree_cells t) to s) (here : CellsThere (tree_cells t) from s) where
  abbrev size : ℕ
  size = tree_bytes g.packed t

  abbrev after : Store
  after = with_copied (tree_cells t) to from s

  abbrev pub memory : List Region
  memory = with_bytes m x (bytes_at m y size)

  same_tags : after.tags ≡ s.tags
  same_tags = tags_copied to from s may (tree_cells t)

  from_room : covers m y size ≡ true
  from_room = stands_covered g k s m from t y held out

  long : length (bytes_at m y size) ≡ size
  long = length-bytes_at m y size from_room

  to_room : covers m x (length (bytes_at m y size)) ≡ true
  to_room = let fits = begins.fits in
      ap (covers m x) long ∙ covers-part m x (tree_bytes g.packed u) x size (stands_covered g k s m to u x held into) (omega arith) (omega (arith, fits))

  -- what lies in the destination is what lies there in the source
  piece : (q l : ℕ) → q + l ≤ size → bytes_at memory (x + q) l ≡ bytes_at m (y + q) l
  piece q l fits =
      let e = long in
      let z : y + q - y ≡ q = omega arith in
      bytes_at-piece m x (bytes_at m y size) q l held.rises to_room (omega (arith, e, fits))
      ∙ ap (λ i. slab (bytes_at m y size) i l) (sym z)
      ∙ sym (bytes_at-part m 0 y size (y + q) l held.rises from_room (omega arith) (omega (arith, fits)))

  -- and nothing else is changed
  untouched : (z l : ℕ) → Sides z l x size → bytes_at memory z l ≡ bytes_at m z l
  untouched z l far = bytes_at-with_bytes_apart m x (bytes_at m y size) z l (by long far)
    where
      by : length (bytes_at m y size) ≡ size → Sides z l x size → (z + l ≤ x) ⊎ (x + length (bytes_at m y size) ≤ z)
      by e (inl h) = inl h
      by e (inr h) = inr (omega (arith, e, h))

  -- a cell that is copied to has a scalar of its own in the destination
  own_scalar : (j : ℕ) → j < tree_cells t → (f : Form) × (q : ℕ) × Node g.packed t j q (Scalar f)
  own_scalar j lt =
      let e = cells_forms t in
      let f = form_there (tree_forms t) j (omega (arith, lt, e)) in
      let n = scalar_node g.packed t j f.0 f.1 in
      (f.0, n.0, n.1)
    where
      form_there : (fs : List Form) (j : ℕ) → j < length fs → (f : Form) × (slice_get fs j ≡ Some f)
      form_there [] j lt = absurd (omega (arith, lt))
      form_there (f ∷ fs) zero lt = (f, refl)
      form_there (f ∷ fs) (suc j) lt = form_there fs j (omega (arith, lt))

  -- a scalar outside of the destination's size is no cell that is copied to
  out_of_range : (b : Area) (p w d e z : ℕ) (f : Form) → VariableNode g.packed (trees g k s.tags b p) w d e (Scalar f) → start g k s.tags b p w ≡ Some z → Sides (z + e) (scalar_bytes (takes_byte g f)) x size
      → (j : ℕ) → j < tree_cells t → to.area ≡ b → to.object ≡ p → to.cell + j ≡ d → ⊥
  out_of_range b p w d e z f n at far j lt area object cell =
      let own = own_scalar j lt in
      let node = begins.back j own.1 own.0 own.2 in
      let fits = node_bytes g.packed t j own.1 (Scalar own.0) own.2 in
      let mine = variable_node g.packed (trees g k s.tags to.area to.object) into.variable to.cell into.byte u j own.1 (Scalar own.0) (to.cell + j) into.node node refl in
      let other = subst (λ p. VariableNode g.packed (trees g k s.tags to.area p) w d e (Scalar f)) (sym object) (subst (λ b. VariableNode g.packed (trees g k s.tags b p) w d e (Scalar f)) (sym area) n) in
      let starts = subst (λ p. start g k s.tags to.area p w ≡ Some z) (sym object) (subst (λ b. start g k s.tags b p w ≡ Some z) (sym area) at) in
      let one = same_spot g k s.tags to.area to.object into.variable (to.cell + j) (into.byte + own.1) into.from own.0 w d e z f mine into.begins other starts cell in
      let is = into.is in
      no_place own.1 (scalar_bytes (takes_byte g own.0)) (scalar_bytes (takes_byte g f)) (omega (arith, one, is)) (some_byte (takes_byte g own.0)) fits (some_byte (takes_byte g f)) far
    where
      no_place : (q n l : ℕ) → z + e ≡ x + q → 1 ≤ n → q + n ≤ size → 1 ≤ l → Sides (z + e) l x size → ⊥
      no_place q n l is a fits b (inl h) = omega (arith, is, b, h)
      no_place q n l is a fits b (inr h) = omega (arith, is, a, fits, h)

  outside : (b : Area) (p w d e z : ℕ) (f : Form) (c : Cell) → VariableNode g.packed (trees g k s.tags b p) w d e (Scalar f) → start g k s.tags b p w ≡ Some z → Sides (z + e) (scalar_bytes (takes_byte g f)) x size
      → cell_of (objects b after) p d ≡ Some c → ValueIs g s.tags c (load (takes_byte g f) memory (z + e))
  outside b p w d e z f c n at far is =
      subst (λ v. ValueIs g s.tags c v) (sym (load_bytes (takes_byte g f) memory m (z + e) (z + e) (untouched (z + e) (scalar_bytes (takes_byte g f)) far)))
      (held.holds b p w d e z f c n at (sym (copied_else to from s may (tree_cells t) b p d (out_of_range b p w d e z f n at far)) ∙ is))

  inside : (b : Area) (p d z i j : ℕ) (f : Form) (c : Cell) → to.area ≡ b → to.object ≡ p → Node g.packed t i j (Scalar f) → d ≡ to.cell + i → z ≡ x + j → cell_of (objects b after) p d ≡ Some c
      → ValueIs g s.tags c (load (takes_byte g f) memory z)
  inside b p d z i j f c area object node cell place is =
      let lt : i < tree_cells t = let e = node_cells g.packed t i j (Scalar f) node in omega (arith, e) in
      let fits = node_bytes g.packed t i j (Scalar f) node in
      let target = there.cell i lt in
      let source = here.cell i lt in
      let got = copied_at to from s may (tree_cells t) i target.0 lt target.1 in
      let is2 : cell_of (objects to.area after) to.object (to.cell + i) ≡ Some c =
      subst (λ b. cell_of (objects b after) to.object (to.cell + i) ≡ Some c) (sym area)
      (subst (λ p. cell_of (objects b after) p (to.cell + i) ≡ Some c) (sym object) (subst (λ d. cell_of (objects b after) p d ≡ Some c) cell is)) in
      let copied : held_cell (past from i) s ≡ c = some_same (held_cell (past from i) s) c (sym got ∙ is2) in
      let value : held_cell (past from i) s ≡ source.0 = ap cell_or_zero source.1 in
      let part = stands_part g k s.tags from t y i j (Scalar f) out node in
      let was = held.holds from.area from.object part.variable (from.cell + i) part.byte part.from f source.0 part.node part.begins source.1 in
      subst (λ c. ValueIs g s.tags c (load (takes_byte g f) memory z)) (sym value ∙ copied)
      (subst (λ v. ValueIs g s.tags source.0 v)
      (ap (load (takes_byte g f) m) (sym part.is)
      ∙ sym (load_bytes (takes_byte g f) memory m (x + j) (y + j) (piece j (scalar_bytes (takes_byte g f)) fits))
      ∙ ap (load (takes_byte g f) memory) (sym place)) was)

  holds_after : (b : Area) (p w d e z : ℕ) (f : Form) (c : Cell) → VariableNode g.packed (trees g k s.tags b p) w d e (Scalar f) → start g k s.tags b p w ≡ Some z → cell_of (objects b after) p d ≡ Some c
      → ValueIs g s.tags c (load (takes_byte g f) memory (z + e))
  holds_after b p w d e z f c n at is = elim (scalar_or_apart g k s.tags held.room to.area to.object into.variable to.cell into.byte into.from u b p w d e z f into.node into.begins n at) [
    | inl h ↦
        (let here_is = into.is in let place = h.2.4 in
        let spot : z + e ≡ x + h.2.1 = omega (arith, here_is, place) in
        elim (begins.split h.2.0 h.2.1 f h.2.2) [
          | inl node ↦ inside b p d (z + e) h.2.0 h.2.1 f c h.0 h.1 node h.2.3 spot is
          | inr beyond ↦ (let le = beyond.1 in outside b p w d e z f c n at (inr (omega (arith, spot, le))) is)
        ])
    | inr far ↦ outside b p w d e z f c n at (within into.is begins.fits far) is
  ]
    where
      within : x ≡ into.from + into.byte → size ≤ tree_bytes g.packed u → Sides (z + e) (tree_bytes g.packed (Scalar f)) (into.from + into.byte) (tree_bytes g.packed u) → Sides (z + e) (scalar_bytes (takes_byte g f)) x size
      within is fits (inl h) = inl (omega (arith, is, h))
      within is fits (inr h) = inr (omega (arith, is, fits, h))

  word_else : (z : ℕ) → Sides z 8 (into.from + into.byte) (tree_bytes g.packed u) → loaded8 memory z ≡ loaded8 m z
  word_else z far = load_bytes false memory m z z (untouched z 8 (moved into.is begins.fits far))
    where
      moved : x ≡ into.from + into.byte → size ≤ tree_bytes g.packed u → Sides z 8 (into.from + into.byte) (tree_bytes g.packed u) → Sides z 8 x size
      moved is fits (inl h) = inl (omega (arith, is, h))
      moved is fits (inr h) = inr (omega (arith, is, fits, h))

  -- memory holds the store with the cells copied
  pub copy_held : Held g k after memory
  copy_held = record {
    room = subst (λ ts. Room g k ts) (sym same_tags) held.room;
    frames = frames_copied to from s may (tree_cells t) ∙ held.frames;
    areas = shapes-with_bytes m x (bytes_at m y size) ∙ held.areas;
    rises = rising-with_bytes m 0 x (bytes_at m y size) held.rises;
    bytes = of_bytes-with_bytes m x (bytes_at m y size) (of_bytes-bytes_at m y size held.bytes) held.bytes;
    holds = λ b p w d e z f c n at is.
        subst (λ ts. ValueIs g ts c (load (takes_byte g f) memory (z + e))) (sym same_tags)
        (holds_after b p w d e z f c (subst (λ ts. VariableNode g.packed (trees g k ts b p) w d e (Scalar f)) same_tags n) (subst (λ ts. start g k ts b p w ≡ Some z) same_tags at) is);
    tags = λ o r z it at.
        let place_is = subst (λ ts. place g ts o ≡ Some z) same_tags at in
        let was = held.tags o r z (subst (λ ts. slice_get ts o ≡ Some r) same_tags it) place_is in
        (word_else z (node_apart g k s.tags held.room to.area to.object into.variable to.cell into.byte into.from u into.node into.begins (TagOf o) z 8 (place_is, refl) tag_is_none) ∙ was.0, was.1);
    entries = λ z n e. word_else z (node_apart g k s.tags held.room to.area to.object into.variable to.cell into.byte into.from u into.node into.begins (Entry z) z 8 (n, e, refl, refl) entry_is_none) ∙ held.entries z n e;
    tagged = ap length same_tags ∙ held.tagged ∙ sym (heap_copied to from s may (tree_cells t));
    counted = lengths_copied to from s may (tree_cells t) ∙ held.counted ∙ ap (λ ts. map (λ t. row_cells (record_row g.program.types t)) ts) (sym same_tags);
    zeros = λ z n le ends.
        let free = subst (λ ts. next g ts ≤ z) same_tags le in
        let is = into.is in
        let fits = begins.fits in
        let low = beyond_free g k s.tags (into.from + into.byte) (tree_bytes g.packed u) z held.room (node_below g k s.tags held.room to.area to.object into.variable to.cell into.byte into.from u into.node into.begins) free in
        untouched z n (inr (omega (arith, is, fits, low))) ∙ held.zeros z n free ends;
    input = ap (λ xs. all (λ x. nat_lt x 256) xs) (input_copied to from s may (tree_cells t)) ∙ held.input;
  }
