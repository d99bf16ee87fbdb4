-- How a program begins: memory holds the first store.
use Rattle.std.proofs.Common.{◌≡◌, ℕ, zero, suc, ◌+◌, ◌-◌, ◌*◌, ◌/◌, ◌%◌, ◌^◌, ◌<◌, ◌≤◌, ◌⊎◌, ⊎_elim, inl, inr, List, [], ◌∷◌, ◌++◌, map, length, take, replicate, Bool, true, false, cond, ◌&&◌, ◌||◌, nat_le, Option, Some, None, refl, sym, ap, ap₂, ◌∙◌, subst, arith, eqb-true, mod-eq_of_lt, length-append}
use Rattle.std.specs.Prelude.{◌==◌, nat_lt, sum_by, slice_get, slice_index_or, flat_map, get_or, if◌then◌else◌}
use Rattle.std.specs.Int.{from_le_bytes, w64}
use Rattle.std.proofs.lemmas.Bool.Decides.{nat_tests}
use Rattle.std.proofs.lemmas.List.{length-replicate, drop-replicate, take-replicate}
use Rattle.std.proofs.lemmas.Nat.{from_le_bytes-to_le_bytes_8}
use Rattle.a64_memory.specs.Bytes.{slab}
use Rattle.a64_memory.specs.Memory.{Shape, lies, covers, covered, shapes, bytes_at, loaded8, IsRising, IsOfBytes, AreBytes}
use Rattle.a64_memory.specs.Memory.{Area as Region}
use Rattle.a64_memory.specs.Areas.{data_base, local_base, heap_base, local_bytes, heap_bytes, zeroed, local_words, heap_words}
use Rattle.a64_memory.proofs.Blocks.{bytes_at-part, loaded1_lt, loaded8_lt}
use Rattle.a64_memory.proofs.Shapes.{covers-shapes, zero_bytes, append_bytes}
use Rattle.a64_memory.proofs.Slabs.{slab-append_left, slab-append_right}
use Rattle.block_runs.specs.First.{first_world}
use Rattle.ob_types.specs.Forms.{Form, Truth, Small, all}
use Rattle.ob_types.specs.Layout.{cells_of_all}
use Rattle.ob_types.specs.Meaning.{start as first_store, zeros, texts_of}
use Rattle.ob_types.specs.Store.{Cell, Bits, Area, Globals, Frames, Heap, Strings, objects, cell_of}
use Rattle.ob_types.specs.Trees.{DataTree, Scalar, Array, fits_byte, scalar_bytes, tree_bytes, tree_cells, data_tree}
use Rattle.ob_types.specs.declared.program.Module.{Module}
use Rattle.ob_types.specs.declared.program.Program.{Program}
use Rattle.ob_types.proofs.Tests.{none_some, some_same}
use Rattle.object_nodes.specs.Addresses.{Sides}
use Rattle.object_nodes.specs.Named.{global_trees, string_trees}
use Rattle.object_nodes.specs.Nodes.{Node, VariableNode}
use Rattle.object_bytes.specs.Objects.{load}
use Rattle.object_bytes.proofs.Kept.{load_zero}
use Rattle.ssa_lowered.specs.Constants.{ancestor, address_of, character_bytes, text_bytes}
use Rattle.ssa_lowered.specs.Constants.{constants as own_constants}
use Rattle.ssa_lowered.specs.Data.{Layout, IsLayout, global_at, globals_room, descriptor_at, text_room, text_at}
use Rattle.held_stores.specs.Places.{Ground, Active, Thing, Variable, TagOf, Entry, place, start, trees, Lies, Room}
use Rattle.held_stores.specs.Held.{ValueIs, takes_byte, Held}
use Rattle.held_stores.specs.First.{first_memory, first_ground, no_calls, descriptor_cell, entry_from, ConstantsAre}
use Rattle.held_stores.proofs.Pieces.{key_parts, node_lies}
use Rattle.held_stores.proofs.Rooms.{globals_end, global_within, globals_apart, text_within, texts_apart}
use Rattle.held_stores.proofs.Texts.{descriptors, length_descriptors, cell_slab, length_texts, character_slab, string_cell}

---- The first memory, by areas

slab_zeros : (n i k : ℕ) → i + k ≤ n → slab (replicate n 0) i k ≡ replicate k 0
slab_zeros n i k le = ap (take k) (drop-replicate i n 0) ∙ take-replicate k (n - i) 0 (omega (arith, le))

module _ (globals : ℕ) (constants : List ℕ) (small : globals + length constants ≤ 0x10000000) (are : AreBytes constants) where
  abbrev first : List Region
  first = first_memory globals constants

  abbrev whole_data : List ℕ
  whole_data = replicate globals 0 ++ constants

  size : length whole_data ≡ globals + length constants
  size = length-append (replicate globals 0) constants ∙ ap (λ n. n + length constants) (length-replicate {A = ℕ} globals 0)

  long_local : length {A = ℕ} (replicate local_bytes 0) ≡ 8388608
  unfolding local_bytes
  long_local = length-replicate {A = ℕ} local_bytes 0

  long_heap : length {A = ℕ} (replicate heap_bytes 0) ≡ 67108864
  unfolding heap_bytes
  long_heap = length-replicate {A = ℕ} heap_bytes 0

  pub first_rises : IsRising 0 first
  first_rises = (omega arith, (omega (arith, size, small), (omega (arith, long_local), omega (arith, long_heap))))

  pub first_bytes : IsOfBytes first
  first_bytes = (append_bytes (replicate globals 0) constants (zero_bytes globals) are, (zero_bytes local_bytes, (zero_bytes heap_bytes, tt)))

  in_first : (x n base long : ℕ) (ss : List Shape) → base ≤ x → x + n ≤ base + long → covered (record { base = base; bytes = long } ∷ ss) x n ≡ true
  in_first x n base long ss low high = both_true (covered ss x n) (at_most base x low) (at_most (x + n) (base + long) high)
    where
      at_most : (a b : ℕ) → a ≤ b → nat_le a b ≡ true
      at_most a b le = grind (arith, nat_tests)

      both_true : {a b : Bool} (c : Bool) → a ≡ true → b ≡ true → (a && b || c) ≡ true
      both_true {a} {b} c e f = ap₂ (λ x y. x && y || c) e f

  in_later : (x n base long : ℕ) (ss : List Shape) → covered ss x n ≡ true → covered (record { base = base; bytes = long } ∷ ss) x n ≡ true
  in_later x n base long ss h = ap (λ c. nat_le base x && nat_le (x + n) (base + long) || c) h ∙ or_true (nat_le base x && nat_le (x + n) (base + long))
    where
      or_true : (b : Bool) → (b || true) ≡ true
      or_true true = refl
      or_true false = refl

  abbrev heap_shapes : List Shape
  heap_shapes = record { base = heap_base; bytes = length {A = ℕ} (replicate heap_bytes 0) } ∷ []

  abbrev local_shapes : List Shape
  local_shapes = record { base = local_base; bytes = length {A = ℕ} (replicate local_bytes 0) } ∷ heap_shapes

  pub data_covered : (x n : ℕ) → data_base ≤ x → x + n ≤ data_base + (globals + length constants) → covered (shapes first) x n ≡ true
  data_covered x n low high = in_first x n data_base (length whole_data) local_shapes low (let e = size in omega (arith, high, e))

  pub local_covered : (x n : ℕ) → local_base ≤ x → x + n ≤ local_base + 8 * local_words → covered (shapes first) x n ≡ true
  local_covered x n low high = in_later x n data_base (length whole_data) local_shapes (in_first x n local_base (length {A = ℕ} (replicate local_bytes 0)) heap_shapes low (let e = long_local in omega (arith, high, e)))

  pub heap_covered : (x n : ℕ) → heap_base ≤ x → x + n ≤ heap_base + 8 * heap_words → covered (shapes first) x n ≡ true
  heap_covered x n low high =
      in_later x n data_base (length whole_data) local_shapes (in_later x n local_base (length {A = ℕ} (replicate local_bytes 0)) heap_shapes (in_first x n heap_base (length {A = ℕ} (replicate heap_bytes 0)) [] low (let e = long_heap in omega (arith, high, e))))

  lies_here : (a : Region) (p n : ℕ) → a.base ≤ p → p + n ≤ a.base + length a.bytes → lies a p n ≡ true
  lies_here a p n low high = grind (arith, nat_tests)

  lies_not : (a : Region) (p n : ℕ) → a.base + length a.bytes < p + n → lies a p n ≡ false
  lies_not a p n high = grind (arith, nat_tests)

  data_area : Region
  data_area = record { base = data_base; bytes = whole_data }

  local_area : Region
  local_area = record { base = local_base; bytes = replicate local_bytes 0 }

  heap_area : Region
  heap_area = record { base = heap_base; bytes = replicate heap_bytes 0 }

  -- bytes of the data
  pub data_at : (i n : ℕ) → i + n ≤ globals + length constants → bytes_at first (data_base + i) n ≡ slab whole_data i n
  unfolding data_area local_area heap_area
  data_at i n le =
      let z : data_base + i - data_base ≡ i = omega arith in
      ap (λ t. cond t (slab whole_data (data_base + i - data_base) n) (bytes_at (local_area ∷ heap_area ∷ []) (data_base + i) n)) (lies_here data_area (data_base + i) n (omega arith) (let e = size in omega (arith, e, le)))
      ∙ ap (λ j. slab whole_data j n) z

  pub globals_zero : (i n : ℕ) → i + n ≤ globals → bytes_at first (data_base + i) n ≡ replicate n 0
  globals_zero i n le =
      let e = length-replicate {A = ℕ} globals 0 in
      data_at i n (omega (arith, le)) ∙ slab-append_left (replicate globals 0) constants i n (omega (arith, le, e)) ∙ slab_zeros globals i n le

  pub constants_at : (i n : ℕ) → i + n ≤ length constants → bytes_at first (data_base + (globals + i)) n ≡ slab constants i n
  constants_at i n le =
      let e = length-replicate {A = ℕ} globals 0 in
      let z : globals + i ≡ length {A = ℕ} (replicate globals 0) + i = omega (arith, e) in
      data_at (globals + i) n (omega (arith, le)) ∙ ap (λ j. slab whole_data j n) z ∙ slab-append_right (replicate globals 0) constants i n

  not_data : lies data_area heap_base heap_bytes ≡ false
  unfolding heap_bytes data_area
  not_data = lies_not data_area heap_base heap_bytes (let e = size in omega (arith, e, small))

  not_local : lies local_area heap_base heap_bytes ≡ false
  unfolding heap_bytes local_area
  not_local = lies_not local_area heap_base heap_bytes (let e = long_local in omega (arith, e))

  is_heap : lies heap_area heap_base heap_bytes ≡ true
  unfolding heap_area
  is_heap = lies_here heap_area heap_base heap_bytes (omega arith) (let e = length-replicate {A = ℕ} heap_bytes 0 in omega (arith, e))

  heap_bytes_zero : bytes_at first heap_base heap_bytes ≡ replicate heap_bytes 0
  unfolding data_area local_area heap_area
  heap_bytes_zero =
      ap (λ t. cond t (slab data_area.bytes (heap_base - data_base) heap_bytes) (bytes_at (local_area ∷ heap_area ∷ []) heap_base heap_bytes)) not_data
      ∙ ap (λ t. cond t (slab local_area.bytes (heap_base - local_base) heap_bytes) (bytes_at (heap_area ∷ []) heap_base heap_bytes)) not_local
      ∙ ap (λ t. cond t (slab heap_area.bytes (heap_base - heap_base) heap_bytes) []) is_heap
      ∙ slab_zeros heap_bytes 0 heap_bytes (omega arith)

  pub heap_zero : (x n : ℕ) → heap_base ≤ x → x + n ≤ heap_base + 8 * heap_words → bytes_at first x n ≡ replicate n 0
  heap_zero x n low high =
      let many : heap_bytes ≡ 67108864 = sym (length-replicate {A = ℕ} heap_bytes 0) ∙ long_heap in
      let there : covers first heap_base heap_bytes ≡ true = covers-shapes first heap_base heap_bytes ∙ heap_covered heap_base heap_bytes (omega arith) (omega (arith, many)) in
      bytes_at-part first 0 heap_base heap_bytes x n first_rises there low (omega (arith, high, many))
      ∙ ap (λ bs. slab bs (x - heap_base) n) heap_bytes_zero
      ∙ slab_zeros heap_bytes (x - heap_base) n (omega (arith, low, high, many))

---- The first store

done_there : (p : Program) (v : ℕ) (t : DataTree) → slice_get (slice_index_or (global_trees p) 0 []) v ≡ Some t → (v ≡ 0) × (t ≡ Scalar Truth)
unfolding global_trees
done_there p zero t at = (refl, sym (some_same (Scalar Truth) t at))
done_there p (suc v) t at = none_some t at

mapped : (p : Program) (ks : List ℕ) (v : ℕ) (t : DataTree) → slice_get (map (data_tree p.types) ks) v ≡ Some t → (k : ℕ) × (slice_get ks v ≡ Some k) × (t ≡ data_tree p.types k)
mapped p [] v t at = none_some t at
mapped p (k ∷ ks) zero t at = (k, refl, sym (some_same (data_tree p.types k) t at))
mapped p (k ∷ ks) (suc v) t at = mapped p ks v t at

module_there : (p : Program) (m v : ℕ) (t : DataTree) → slice_get (slice_index_or (global_trees p) (suc m) []) v ≡ Some t
    → (x : Module) × (k : ℕ) × (slice_get p.modules m ≡ Some x) × (slice_get x.variables v ≡ Some k) × (t ≡ data_tree p.types k)
unfolding global_trees
module_there p m v t at = in_modules p.modules m at
  where
    in_modules : (ms : List Module) (m : ℕ) → slice_get (slice_index_or (map (λ (m : Module). map (data_tree p.types) m.variables) ms) m []) v ≡ Some t
        → (x : Module) × (k : ℕ) × (slice_get ms m ≡ Some x) × (slice_get x.variables v ≡ Some k) × (t ≡ data_tree p.types k)
    in_modules [] m at = none_some t at
    in_modules (x ∷ ms) zero at = let h = mapped p x.variables v t at in (x, h.0, refl, h.1, h.2)
    in_modules (x ∷ ms) (suc m) at = in_modules ms m at

text_there : (p : Program) (o v : ℕ) (t : DataTree) → slice_get (slice_index_or (string_trees p) o []) v ≡ Some t → (v ≡ 0) × ((xs : List ℕ) × (slice_get (texts_of p.procedures) o ≡ Some xs) × (t ≡ Array (suc (length xs)) (Scalar Small)))
unfolding string_trees
text_there p o v t at = in_texts (texts_of p.procedures) o v at
  where
    one : (xs : List ℕ) (v : ℕ) → slice_get (Array (suc (length xs)) (Scalar Small) ∷ []) v ≡ Some t → (v ≡ 0) × (t ≡ Array (suc (length xs)) (Scalar Small))
    one xs zero at = (refl, sym (some_same (Array (suc (length xs)) (Scalar Small)) t at))
    one xs (suc v) at = none_some t at

    in_texts : (ts : List (List ℕ)) (o v : ℕ) → slice_get (slice_index_or (map (λ (xs : List ℕ). Array (suc (length xs)) (Scalar Small) ∷ []) ts) o []) v ≡ Some t
        → (v ≡ 0) × ((xs : List ℕ) × (slice_get ts o ≡ Some xs) × (t ≡ Array (suc (length xs)) (Scalar Small)))
    in_texts [] o v at = none_some t at
    in_texts (xs ∷ ts) zero v at = let h = one xs v at in (h.0, (xs, refl, h.1))
    in_texts (xs ∷ ts) (suc o) v at = in_texts ts o v at

zero_in : (n c : ℕ) (v : Cell) → slice_get (replicate n (Bits 0)) c ≡ Some v → v ≡ Bits 0
zero_in zero c v e = none_some v e
zero_in (suc n) zero v e = sym (some_same (Bits 0) v e)
zero_in (suc n) (suc c) v e = zero_in n c v e

global_cells_zero : (p : Program) (input : List ℕ) (o c : ℕ) (v : Cell) → cell_of (first_store p input).globals o c ≡ Some v → v ≡ Bits 0
global_cells_zero p input zero zero v e = sym (some_same (Bits 0) v e)
global_cells_zero p input zero (suc c) v e = none_some v e
global_cells_zero p input (suc o) c v e = in_modules p.modules o e
  where
    in_modules : (ms : List Module) (o : ℕ) → cell_of (map (λ m. zeros p m.variables) ms) o c ≡ Some v → v ≡ Bits 0
    in_modules [] o e = none_some v e
    in_modules (m ∷ ms) zero e = zero_in (cells_of_all p.types m.variables) c v e
    in_modules (m ∷ ms) (suc o) e = in_modules ms o e

string_cells : (ts : List (List ℕ)) (o c : ℕ) (xs : List ℕ) (v : Cell) → slice_get ts o ≡ Some xs → cell_of (map (λ xs. map Bits xs ++ Bits 0 ∷ []) ts) o c ≡ Some v → slice_get (map Bits xs ++ Bits 0 ∷ []) c ≡ Some v
string_cells [] o c xs v at e = none_some xs at
string_cells (ys ∷ ts) zero c xs v at e = subst (λ ys. slice_get (map Bits ys ++ Bits 0 ∷ []) c ≡ Some v) (some_same ys xs at) e
string_cells (ys ∷ ts) (suc o) c xs v at e = string_cells ts o c xs v at e

module _ (p : Program) (packed : Bool) (l : Layout) (is : IsLayout packed p.types l) (code : ℕ → Option ℕ) (constants input : List ℕ) (small : globals_room p l + length constants ≤ 0x10000000) (are : AreBytes constants)
    (stand : ConstantsAre p l constants) (low : (r j : ℕ) → r < length p.types.records → j < 16 → address_of p l data_base (ancestor p.types j r) < 2 ^ 64) (bytes : all (λ x. nat_lt x 256) input ≡ true) where
  abbrev room : ℕ
  room = globals_room p l

  abbrev many : ℕ
  many = length p.types.records

  abbrev g : Ground
  g = first_ground p packed l code constants

  abbrev m : List Region
  m = first_memory room constants

  abbrev behind : ℕ
  behind = data_base + room

  abbrev texts : List (List ℕ)
  texts = texts_of p.procedures

  some_character : 1 ≤ l.character
  some_character = let e = is.character in let f = one_at_least packed in omega (arith, e, f)
    where
      one_at_least : (b : Bool) → 1 ≤ scalar_bytes b
      one_at_least true = omega arith
      one_at_least false = omega arith

  -- where there are descriptors or strings, the constants are these
  constants_long : 0 < many + length texts → length constants ≡ 128 * many + sum_by (text_room l) texts
  constants_long some =
      let a = ap (λ (bs : List ℕ). length bs) (stand.same some) in
      let b = length-append (descriptors p l data_base) (flat_map (text_bytes l) texts) in
      let c = length_descriptors p l data_base in
      let d = length_texts l (some_character) texts in
      omega (arith, a, b, c, d)

  ---- Where things are

  abbrev IsDone : Thing → (x n : ℕ) → Type 0
  IsDone t x n = (t ≡ Variable Globals 0 0) × (x ≡ data_base) × (n ≤ 8)

  abbrev IsGlobal : Thing → (x n : ℕ) → Type 0
  IsGlobal t x n = (i : ℕ) × (v : ℕ) × (k : ℕ) × (u : Module) × (t ≡ Variable Globals (suc i) v) × (slice_get p.modules i ≡ Some u) × (slice_get u.variables v ≡ Some k) × (x ≡ data_base + global_at p l i v) × (n ≡ tree_bytes packed (data_tree p.types k))

  abbrev IsEntry : Thing → (x n : ℕ) → Type 0
  IsEntry t x n = (t ≡ Entry x) × (behind ≤ x) × (x + 8 ≤ behind + 128 * many) × ((x - behind) % 8 ≡ 0) × (n ≡ 8)

  abbrev IsString : Thing → (x n : ℕ) → Type 0
  IsString t x n = (o : ℕ) × (xs : List ℕ) × (t ≡ Variable Strings o 0) × (slice_get texts o ≡ Some xs) × (x ≡ data_base + text_at p l o) × (n ≡ tree_bytes packed (Array (suc (length xs)) (Scalar Small)))

  abbrev IsPlaced : Thing → (x n : ℕ) → Type 0
  IsPlaced t x n = IsDone t x n ⊎ (IsGlobal t x n ⊎ (IsEntry t x n ⊎ IsString t x n))

  few_done : (b : Bool) → scalar_bytes b ≤ 8
  few_done true = omega arith
  few_done false = omega arith

  -- an entry that is there
  entry_found : (x y : ℕ) → entry_from p l x ≡ Some y → (behind ≤ x) × (x + 8 ≤ behind + 128 * many) × ((x - behind) % 8 ≡ 0) × (y ≡ descriptor_cell p l ((x - behind) / 8))
  entry_found x y e = by (nat_le behind x) refl (nat_lt x (behind + 128 * many)) refl ((x - behind) % 8 == 0) refl e
    where
      by : (a : Bool) → nat_le behind x ≡ a → (b : Bool) → nat_lt x (behind + 128 * many) ≡ b → (c : Bool) → ((x - behind) % 8 == 0) ≡ c → (if a && (b && c) then Some (descriptor_cell p l ((x - behind) / 8)) else None) ≡ Some y
          → (behind ≤ x) × (x + 8 ≤ behind + 128 * many) × ((x - behind) % 8 ≡ 0) × (y ≡ descriptor_cell p l ((x - behind) / 8))
      by true ea true eb true ec e =
          let low : behind ≤ x = grind (arith, nat_tests) in
          let high : x < behind + 128 * many = grind (arith, nat_tests) in
          let even = eqb-true ((x - behind) % 8) 0 ec in
          (low, omega (arith, low, high, even), even, sym (some_same (descriptor_cell p l ((x - behind) / 8)) y e))
      by true ea true eb false ec e = none_some y e
      by true ea false eb c ec e = none_some y e
      by false ea b eb c ec e = none_some y e

  only : (t : Thing) (x n : ℕ) → Lies g no_calls [] t x n → IsPlaced t x n
  only (Variable Globals zero v) x n h =
      let q = done_there p v h.0 h.1 in
      let e = h.3 in let f = ap (tree_bytes packed) q.1 in let few = few_done (packed && fits_byte Truth) in
      inl (ap (λ v. Variable Globals 0 v) q.0, sym (some_same data_base x h.2), omega (arith, e, f, few))
  only (Variable Globals (suc i) v) x n h =
      let q = module_there p i v h.0 h.1 in
      inr (inl (i, v, q.1, q.0, refl, q.2, q.3, sym (some_same (data_base + global_at p l i v) x h.2), h.3 ∙ ap (tree_bytes packed) q.4))
  only (Variable Frames o v) x n h = none_some x h.2
  only (Variable Heap o v) x n h = none_some x h.2
  only (Variable Strings o v) x n h =
      let q = text_there p o v h.0 h.1 in
      inr (inr (inr (o, q.1.0, ap (λ v. Variable Strings o v) q.0, q.1.1, sym (some_same (data_base + text_at p l o) x h.2), h.3 ∙ ap (tree_bytes packed) q.1.2)))
  only (TagOf o) x n h = none_some x h.0
  only (Entry y) x n h =
      let q = entry_found y h.0 h.1 in
      let e : y ≡ x = sym h.2 in
      inr (inr (inl (ap Entry e, subst (λ z. behind ≤ z) e q.0, subst (λ z. z + 8 ≤ behind + 128 * many) e q.1, subst (λ z. (z - behind) % 8 ≡ 0) e q.2, h.3)))

  ---- In which part of the data

  global_part : (t : Thing) (x n : ℕ) → IsGlobal t x n → (data_base + 8 ≤ x) × (x + n ≤ behind)
  global_part t x n h = let w = global_within p packed l is h.0 h.1 h.2 h.3 h.5 h.6 in let a = w.0 in let b = w.1 in let e = h.7 in let f = h.8 in (omega (arith, a, e), omega (arith, b, e, f))

  got_below : {A : Type 0} (xs : List A) (i : ℕ) (x : A) → slice_get xs i ≡ Some x → 0 < length xs
  got_below [] i x e = none_some x e
  got_below (y ∷ xs) i x e = omega arith

  string_part : (t : Thing) (x n : ℕ) → IsString t x n → (behind + 128 * many ≤ x) × (x + n ≤ behind + length constants)
  string_part t x n h =
      let w = text_within p packed l is h.0 h.1 h.3 in let a = w.0 in let b = w.1 in let e = h.4 in let f = h.5 in
      let some = got_below texts h.0 h.1 h.3 in
      let long = constants_long (omega (arith, some)) in
      (omega (arith, a, e), omega (arith, b, e, f, long))

  entry_part : (t : Thing) (x n : ℕ) → IsEntry t x n → x + n ≤ behind + length constants
  entry_part t x n h =
      let a = h.1 in let b = h.2 in let e = h.4 in
      let long = constants_long (omega (arith, a, b)) in
      omega (arith, b, e, long)

  apart : (t u : Thing) (x n y i : ℕ) → IsPlaced t x n → IsPlaced u y i → (t ≡ u) ⊎ Sides x n y i
  apart t u x n y i (inl a) (inl b) = inl (a.0 ∙ sym b.0)
  apart t u x n y i (inl a) (inr (inl b)) = let e = a.1 in let f = a.2 in let q = (global_part u y i b).0 in inr (inl (omega (arith, e, f, q)))
  apart t u x n y i (inl a) (inr (inr (inl b))) = let e = a.1 in let f = a.2 in let q = b.1 in let z = globals_end p packed l is in inr (inl (omega (arith, e, f, q, z)))
  apart t u x n y i (inl a) (inr (inr (inr b))) = let e = a.1 in let f = a.2 in let q = (string_part u y i b).0 in let z = globals_end p packed l is in inr (inl (omega (arith, e, f, q, z)))
  apart t u x n y i (inr (inl a)) (inl b) = let e = b.1 in let f = b.2 in let q = (global_part t x n a).0 in inr (inr (omega (arith, e, f, q)))
  apart t u x n y i (inr (inl a)) (inr (inl b)) = ⊎_elim
      (λ (z : (a.0 ≡ b.0) × (a.1 ≡ b.1)). inl (a.4 ∙ ap₂ (λ i v. Variable Globals (suc i) v) z.0 z.1 ∙ sym b.4))
      (λ (z : Sides (global_at p l a.0 a.1) (tree_bytes packed (data_tree p.types a.2)) (global_at p l b.0 b.1) (tree_bytes packed (data_tree p.types b.2))). inr (moved (global_at p l a.0 a.1) (tree_bytes packed (data_tree p.types a.2)) (global_at p l b.0 b.1) (tree_bytes packed (data_tree p.types b.2)) a.7 a.8 b.7 b.8 z))
      (globals_apart p packed l is a.0 a.1 a.2 a.3 b.0 b.1 b.2 b.3 a.5 a.6 b.5 b.6)
    where
      moved : (c d e f : ℕ) → x ≡ data_base + c → n ≡ d → y ≡ data_base + e → i ≡ f → Sides c d e f → Sides x n y i
      moved c d e f r s v w (inl z) = inl (omega (arith, r, s, v, z))
      moved c d e f r s v w (inr z) = inr (omega (arith, r, v, w, z))
  apart t u x n y i (inr (inl a)) (inr (inr (inl b))) = let q = (global_part t x n a).1 in let z = b.1 in inr (inl (omega (arith, q, z)))
  apart t u x n y i (inr (inl a)) (inr (inr (inr b))) = let q = (global_part t x n a).1 in let z = (string_part u y i b).0 in inr (inl (omega (arith, q, z)))
  apart t u x n y i (inr (inr (inl a))) (inl b) = let e = b.1 in let f = b.2 in let q = a.1 in let z = globals_end p packed l is in inr (inr (omega (arith, e, f, q, z)))
  apart t u x n y i (inr (inr (inl a))) (inr (inl b)) = let q = (global_part u y i b).1 in let z = a.1 in inr (inr (omega (arith, q, z)))
  apart t u x n y i (inr (inr (inl a))) (inr (inr (inl b))) = entries x y a.1 a.3 a.4 b.1 b.3 b.4 a.0 b.0
    where
      entries : (x y : ℕ) → behind ≤ x → (x - behind) % 8 ≡ 0 → n ≡ 8 → behind ≤ y → (y - behind) % 8 ≡ 0 → i ≡ 8 → t ≡ Entry x → u ≡ Entry y → (t ≡ u) ⊎ Sides x n y i
      entries x y lx ex nx ly ey ny tx uy = by (nat_lt x y) refl (nat_lt y x) refl
        where
          by : (a : Bool) → nat_lt x y ≡ a → (b : Bool) → nat_lt y x ≡ b → (t ≡ u) ⊎ Sides x n y i
          by true ea b eb = let lt : x < y = grind (arith, nat_tests) in inr (inl (omega (arith, lt, lx, ex, nx, ly, ey)))
          by false ea true eb = let lt : y < x = grind (arith, nat_tests) in inr (inr (omega (arith, lt, lx, ex, ny, ly, ey)))
          by false ea false eb = let e : x ≡ y = grind (arith, nat_tests) in inl (tx ∙ ap Entry e ∙ sym uy)
  apart t u x n y i (inr (inr (inl a))) (inr (inr (inr b))) = let q = a.2 in let e = a.4 in let z = (string_part u y i b).0 in inr (inl (omega (arith, q, e, z)))
  apart t u x n y i (inr (inr (inr a))) (inl b) = let e = b.1 in let f = b.2 in let q = (string_part t x n a).0 in let z = globals_end p packed l is in inr (inr (omega (arith, e, f, q, z)))
  apart t u x n y i (inr (inr (inr a))) (inr (inl b)) = let q = (global_part u y i b).1 in let z = (string_part t x n a).0 in inr (inr (omega (arith, q, z)))
  apart t u x n y i (inr (inr (inr a))) (inr (inr (inl b))) = let q = b.2 in let e = b.4 in let z = (string_part t x n a).0 in inr (inr (omega (arith, q, e, z)))
  apart t u x n y i (inr (inr (inr a))) (inr (inr (inr b))) = ⊎_elim
      (λ (z : a.0 ≡ b.0). inl (a.2 ∙ ap (λ o. Variable Strings o 0) z ∙ sym b.2))
      (λ (z : Sides (text_at p l a.0) (tree_bytes packed (Array (suc (length a.1)) (Scalar Small))) (text_at p l b.0) (tree_bytes packed (Array (suc (length b.1)) (Scalar Small)))).
      inr (moved (text_at p l a.0) (tree_bytes packed (Array (suc (length a.1)) (Scalar Small))) (text_at p l b.0) (tree_bytes packed (Array (suc (length b.1)) (Scalar Small))) a.4 a.5 b.4 b.5 z))
      (texts_apart p packed l is a.0 b.0 a.1 b.1 a.3 b.3)
    where
      moved : (c d e f : ℕ) → x ≡ data_base + c → n ≡ d → y ≡ data_base + e → i ≡ f → Sides c d e f → Sides x n y i
      moved c d e f r s v w (inl z) = inl (omega (arith, r, s, v, z))
      moved c d e f r s v w (inr z) = inr (omega (arith, r, v, w, z))

  in_data : (t : Thing) (x n : ℕ) → IsPlaced t x n → (data_base ≤ x) × (x + n ≤ data_base + (room + length constants))
  in_data t x n (inl a) = let e = a.1 in let f = a.2 in let z = globals_end p packed l is in (omega (arith, e), omega (arith, e, f, z))
  in_data t x n (inr (inl a)) = let q = global_part t x n a in let b = q.0 in let c = q.1 in (omega (arith, b), omega (arith, c))
  in_data t x n (inr (inr (inl a))) = let b = a.1 in let c = entry_part t x n a in (omega (arith, b), omega (arith, c))
  in_data t x n (inr (inr (inr a))) = let q = string_part t x n a in let b = q.0 in let c = q.1 in (omega (arith, b), omega (arith, c))

  ---- What they have

  zero_value : (f : Form) (x n b : ℕ) (value : Cell) → data_base ≤ x → x + n ≤ behind → b + tree_bytes packed (Scalar f) ≤ n → value ≡ Bits 0 → ValueIs g [] value (load (takes_byte g f) m (x + b))
  zero_value f x n b value low high fits zero_is =
      let z : data_base + (x + b - data_base) ≡ x + b = omega (arith, low) in
      let all_zero = ap (λ y. bytes_at m y (scalar_bytes (takes_byte g f))) (sym z) ∙ globals_zero room constants small are (x + b - data_base) (scalar_bytes (takes_byte g f)) (omega (arith, low, high, fits)) in
      subst (λ v. ValueIs g [] v (load (takes_byte g f) m (x + b))) (sym zero_is) (load_zero (takes_byte g f) m (x + b) all_zero, omega arith)

  global_value : (o v c b x : ℕ) (f : Form) (value : Cell) → VariableNode packed (trees g no_calls [] Globals o) v c b (Scalar f) → start g no_calls [] Globals o v ≡ Some x → cell_of (first_store p input).globals o c ≡ Some value
      → ValueIs g [] value (load (takes_byte g f) m (x + b))
  global_value o v c b x f value node at there =
      let h = node_lies g no_calls [] Globals o v c b x (Scalar f) node at in
      let zero_is = global_cells_zero p input o c value there in
      by h.0 h.2 zero_is (only (Variable Globals o v) x h.0 h.1)
    where
      by : (n : ℕ) → b + tree_bytes packed (Scalar f) ≤ n → value ≡ Bits 0 → IsPlaced (Variable Globals o v) x n → ValueIs g [] value (load (takes_byte g f) m (x + b))
      by n fits zero_is (inl a) = let e = a.1 in let q = a.2 in let z = globals_end p packed l is in zero_value f x n b value (omega (arith, e)) (omega (arith, e, q, z)) fits zero_is
      by n fits zero_is (inr (inl a)) = let q = global_part (Variable Globals o v) x n a in let low = q.0 in zero_value f x n b value (omega (arith, low)) q.1 fits zero_is
      by n fits zero_is (inr (inr (inl a))) = absurd (no_entry a.0)
        where
          no_entry : Variable Globals o v ≡ Entry x → ⊥
          no_entry e = cc
      by n fits zero_is (inr (inr (inr a))) = absurd (no_string a.0 a.2)
        where
          no_string : (q : ℕ) → Variable Globals o v ≡ Variable Strings q 0 → ⊥
          no_string q e = cc

  -- a character's number
  spelled : (b : Bool) (x c : ℕ) → l.character ≡ scalar_bytes b → bytes_at m x l.character ≡ character_bytes l c → load b m x ≡ c
  spelled true x c e at = ap (λ bs. get_or bs 0 0) (ap (bytes_at m x) (sym e) ∙ at)
  spelled false x c e at = ap (from_le_bytes w64) (ap (bytes_at m x) (sym e) ∙ at ∙ ap (λ n. c ∷ replicate (n - 1) 0) e) ∙ number c
    where
      number : (c : ℕ) → from_le_bytes w64 (c ∷ replicate 7 0) ≡ c
      number c = omega arith

  loaded_low : (b : Bool) (x : ℕ) → load b m x < 2 ^ 64
  loaded_low true x = let h = loaded1_lt m x (first_bytes room constants small are) in omega (arith, h)
  loaded_low false x = loaded8_lt m x (first_bytes room constants small are)

  string_row : (o : ℕ) (xs : List ℕ) → slice_get texts o ≡ Some xs → slice_index_or (string_trees p) o [] ≡ Array (suc (length xs)) (Scalar Small) ∷ []
  unfolding string_trees
  string_row o xs at = in_texts texts o at
    where
      in_texts : (ts : List (List ℕ)) (o : ℕ) → slice_get ts o ≡ Some xs → slice_index_or (map (λ (xs : List ℕ). Array (suc (length xs)) (Scalar Small) ∷ []) ts) o [] ≡ Array (suc (length xs)) (Scalar Small) ∷ []
      in_texts [] o at = none_some xs at
      in_texts (ys ∷ ts) zero at = ap (λ (ys : List ℕ). Array (suc (length ys)) (Scalar Small) ∷ []) (some_same ys xs at)
      in_texts (ys ∷ ts) (suc o) at = in_texts ts o at

  character_is : l.character ≡ scalar_bytes (packed && true)
  character_is = is.character ∙ ap scalar_bytes (sym (and_true packed))
    where
      and_true : (b : Bool) → (b && true) ≡ b
      and_true true = refl
      and_true false = refl

  -- the bytes of character c of string o
  character_bytes_at : (o : ℕ) (xs : List ℕ) (c k x : ℕ) → slice_get texts o ≡ Some xs → slice_get (xs ++ 0 ∷ []) c ≡ Some k → c < suc (length xs) → x ≡ data_base + text_at p l o + c * l.character → x + l.character ≤ behind + length constants
      → bytes_at m x l.character ≡ character_bytes l k
  character_bytes_at o xs c k x at is_k lt place fits =
      let i = 128 * many + (sum_by (text_room l) (take o texts) + c * l.character) in
      let some = got_below texts o xs at in
      let whole = length_descriptors p l data_base in
      let y : x ≡ data_base + (room + i) = omega (arith, place) in
      let z : i ≡ length (descriptors p l data_base) + (sum_by (text_room l) (take o texts) + c * l.character) = omega (arith, whole) in
      ap (λ x. bytes_at m x l.character) y
      ∙ constants_at room constants small are i l.character (omega (arith, y, fits))
      ∙ ap₂ (λ (bs : List ℕ) j. slab bs j l.character) (stand.same (omega (arith, some))) z
      ∙ slab-append_right (descriptors p l data_base) (flat_map (text_bytes l) texts) (sum_by (text_room l) (take o texts) + c * l.character) l.character
      ∙ character_slab l some_character texts o xs c k at is_k lt

  string_value : (o v c b x : ℕ) (f : Form) (value : Cell) → VariableNode packed (trees g no_calls [] Strings o) v c b (Scalar f) → start g no_calls [] Strings o v ≡ Some x → cell_of (first_store p input).strings o c ≡ Some value
      → ValueIs g [] value (load (takes_byte g f) m (x + b))
  string_value o v c b x f value node at there =
      let h = node_lies g no_calls [] Strings o v c b x (Scalar f) node at in
      by h.0 h.2 (only (Variable Strings o v) x h.0 h.1)
    where
      byte_of : DataTree → Bool
      byte_of (Scalar f) = takes_byte g f
      byte_of _ = false

      of_string : (q : ℕ) (xs : List ℕ) (n : ℕ) → o ≡ q → v ≡ 0 → slice_get texts q ≡ Some xs → x ≡ data_base + text_at p l q → x + n ≤ behind + length constants → b + tree_bytes packed (Scalar f) ≤ n
          → Node packed (Array (suc (length xs)) (Scalar Small)) c b (Scalar f) → ValueIs g [] value (load (takes_byte g f) m (x + b))
      of_string q xs n same zero_is at_q place high fits (inl h) = absurd (no_array h.2)
        where
          no_array : {i : ℕ} → Scalar f ≡ Array i (Scalar Small) → ⊥
          no_array e = cc
      of_string q xs n same zero_is at_q place high fits (inr h) =
          let d = h.4.0 in let e = h.4.1 in let small_f = h.4.2 in
          let cell = h.5 in let byte = h.6 in
          let ci : c ≡ h.0 = omega (arith, cell, d) in
          let lt = h.3 in
          let width = character_is in
          let times = ap (λ s. h.0 * s) width in
          let again = ap (λ i. i * l.character) ci in
          let b_is : b ≡ c * l.character = omega (arith, byte, e, times, again) in
          let got = string_cell xs c value (string_cells texts q c xs value at_q (ap (λ o. cell_of (map (λ xs. map Bits xs ++ Bits 0 ∷ []) texts) o c) (sym same) ∙ there)) in
          let width_f = ap (λ t. scalar_bytes (byte_of t)) small_f in
          let all_bytes = character_bytes_at q xs c got.0 (x + b) at_q got.2 (omega (arith, ci, lt)) (omega (arith, place, b_is)) (omega (arith, high, fits, width, width_f)) in
          let loaded : load (takes_byte g f) m (x + b) ≡ got.0 = ap (λ t. load (byte_of t) m (x + b)) small_f ∙ spelled (packed && true) (x + b) got.0 width all_bytes in
          let few = loaded_low (takes_byte g f) (x + b) in
          subst (λ v. ValueIs g [] v (load (takes_byte g f) m (x + b))) (sym got.1) (loaded, omega (arith, loaded, few))

      by : (n : ℕ) → b + tree_bytes packed (Scalar f) ≤ n → IsPlaced (Variable Strings o v) x n → ValueIs g [] value (load (takes_byte g f) m (x + b))
      by n fits (inl a) = absurd (no_done a.0)
        where
          no_done : Variable Strings o v ≡ Variable Globals 0 0 → ⊥
          no_done e = cc
      by n fits (inr (inl a)) = absurd (no_global a.0 a.1 a.4)
        where
          no_global : (i w : ℕ) → Variable Strings o v ≡ Variable Globals (suc i) w → ⊥
          no_global i w e = cc
      by n fits (inr (inr (inl a))) = absurd (no_entry a.0)
        where
          no_entry : Variable Strings o v ≡ Entry x → ⊥
          no_entry e = cc
      by n fits (inr (inr (inr a))) =
          let keys = key_parts a.2 in
          let row = ap (λ o. slice_index_or (string_trees p) o []) keys.1 ∙ string_row a.0 a.1 a.3 in
          let there_is = subst (λ v. VariableNode packed (slice_index_or (string_trees p) o []) v c b (Scalar f)) keys.2 node in
          of_string a.0 a.1 n keys.1 keys.2 a.3 a.4 (string_part (Variable Strings o v) x n a).1 fits (subst (λ ts. VariableNode packed ts 0 c b (Scalar f)) row there_is)

  -- a descriptor's cell
  entry_value : (x y : ℕ) → entry_from p l x ≡ Some y → loaded8 m x ≡ y
  entry_value x y e =
      let h = entry_found x y e in
      let low_is = h.0 in let high = h.1 in let even = h.2 in
      let k = (x - behind) / 8 in
      let r = k / 16 in
      let j = k % 16 in
      let lt : r < many = omega (arith, low_is, high, even) in
      let less : j < 16 = omega arith in
      let i : x ≡ data_base + (room + (128 * r + 8 * j)) = omega (arith, low_is, even) in
      let whole = length_descriptors p l data_base in
      let long = constants_long (omega (arith, lt)) in
      ap (λ (bs : List ℕ). from_le_bytes w64 bs)
      (ap (λ x. bytes_at m x 8) i
      ∙ constants_at room constants small are (128 * r + 8 * j) 8 (omega (arith, lt, less, long))
      ∙ ap (λ (bs : List ℕ). slab bs (128 * r + 8 * j) 8) (stand.same (omega (arith, lt)))
      ∙ slab-append_left (descriptors p l data_base) (flat_map (text_bytes l) texts) (128 * r + 8 * j) 8 (omega (arith, lt, less, whole))
      ∙ cell_slab p l data_base r j lt less)
      ∙ from_le_bytes-to_le_bytes_8 (descriptor_cell p l k) (low r j lt less)
      ∙ sym h.3

  -- memory holds the first store
  pub first_held : Held g no_calls (first_store p input) m
  first_held = record {
    room = record {
      apart = λ t u x n y i a b. apart t u x n y i (only t x n a) (only u y i b);
      lies = λ t x n a. let q = in_data t x n (only t x n a) in data_covered room constants small are x n q.0 q.1;
      below = λ t x n a. let q = (in_data t x n (only t x n a)).1 in inl (omega (arith, q, small));
      heap_few = omega arith;
      heap_covered = heap_covered room constants small are;
      local_begins = omega arith;
      local_ends = omega arith;
      local_few = omega arith;
      local_covered = local_covered room constants small are;
    };
    frames = refl;
    areas = refl;
    rises = first_rises room constants small are;
    bytes = first_bytes room constants small are;
    holds = first_holds;
    tags = λ o t x it at. none_some t it;
    entries = entry_value;
    tagged = refl;
    counted = refl;
    zeros = λ x n le ends. heap_zero room constants small are x n (omega (arith, le)) ends;
    input = bytes;
  }
    where
      first_holds : (a : Area) (o v c b x : ℕ) (f : Form) (value : Cell) → VariableNode packed (trees g no_calls [] a o) v c b (Scalar f) → start g no_calls [] a o v ≡ Some x → cell_of (objects a (first_store p input)) o c ≡ Some value
          → ValueIs g [] value (load (takes_byte g f) m (x + b))
      first_holds Globals o v c b x f value node at there = global_value o v c b x f value node at there
      first_holds Frames o v c b x f value node at there = none_some x at
      first_holds Heap o v c b x f value node at there = none_some x at
      first_holds Strings o v c b x f value node at there = string_value o v c b x f value node at there
