-- One more object of the heap: where it stands, and that memory holds the store with it.
use Rattle.std.proofs.Common.{◌≡◌, ℕ, zero, suc, ◌+◌, ◌*◌, ◌^◌, ◌<◌, ◌≤◌, ◌⊎◌, inl, inr, List, [], ◌∷◌, ◌++◌, length, true, false, map, refl, sym, ap, ap₂, ◌∙◌, subst, arith, Option, Some, None}
use Rattle.std.specs.Prelude.{sum_by, slice_get, option_map, replicate}
use Rattle.std.proofs.lemmas.List.{length-append, map-append}
use Rattle.std.proofs.lemmas.List.Sums.{sum_by_push, sum_by-cons}
use Rattle.a64_memory.specs.Memory.{covered, covers, stored8}
use Rattle.a64_memory.specs.Memory.{Area as Region}
use Rattle.a64_memory.specs.Areas.{heap_base, heap_words}
use Rattle.a64_memory.proofs.Shapes.{covers-shapes}
use Rattle.ob_types.specs.Forms.{Form}
use Rattle.ob_types.specs.Store.{Cell, Bits, Pointer, Code, Area, Globals, Frames, Heap, Strings, Store, objects, cell_of}
use Rattle.ob_types.specs.Trees.{DataTree, Scalar, Record, scalar_bytes, tree_bytes, row_cells, record_row}
use Rattle.ob_types.proofs.Tests.{some_same}
use Rattle.ob_types.proofs.TreeBytes.{up_above}
use Rattle.object_nodes.specs.Addresses.{Sides}
use Rattle.object_nodes.specs.Named.{heap_trees}
use Rattle.object_nodes.specs.Nodes.{VariableNode}
use Rattle.object_nodes.proofs.Stood.{variable_fits}
use Rattle.object_bytes.specs.Objects.{load, store}
use Rattle.object_bytes.proofs.Kept.{areas_store, bytes_store, load_same, load_apart, load_zero, bytes_apart}
use Rattle.held_stores.specs.Places.{Ground, Active, Thing, Variable, TagOf, Entry, object_room, object_cells, place_from, place, next, trees, start, Lies, Room}
use Rattle.held_stores.specs.Held.{ValueIs, takes_byte, Held, Later}
use Rattle.held_stores.specs.Changes.{with_object}
use Rattle.held_stores.proofs.Pieces.{next_few, place_there, node_below}
use Rattle.held_stores.proofs.Stores.{shapes_store}

-- lists with one more

pub get_below : {A : Type 0} (xs : List A) (i : ℕ) (x : A) → slice_get xs i ≡ Some x → i < length xs
get_below [] i x e = absurd (cc)
get_below (y ∷ xs) zero x e = omega arith
get_below (y ∷ xs) (suc i) x e = let h = get_below xs i x e in omega (arith, h)

get_old : {A : Type 0} (xs : List A) (y x : A) (i : ℕ) → slice_get xs i ≡ Some x → slice_get (xs ++ y ∷ []) i ≡ Some x
get_old [] y x i e = absurd (cc)
get_old (z ∷ xs) y x zero e = e
get_old (z ∷ xs) y x (suc i) e = get_old xs y x i e

get_cases : {A : Type 0} (xs : List A) (y x : A) (i : ℕ) → slice_get (xs ++ y ∷ []) i ≡ Some x → (slice_get xs i ≡ Some x) ⊎ ((i ≡ length xs) × (x ≡ y))
get_cases [] y x zero e = inr (refl, sym (some_same y x e))
get_cases [] y x (suc i) e = absurd (cc)
get_cases (z ∷ xs) y x zero e = inl e
get_cases (z ∷ xs) y x (suc i) e = elim (get_cases xs y x i e) [ inl h ↦ inl h | inr h ↦ inr (ap suc h.0, h.1) ]

cell_cases : (heap : List (List Cell)) (cs : List Cell) (o c : ℕ) (v : Cell) → cell_of (heap ++ cs ∷ []) o c ≡ Some v → ((o < length heap) × (cell_of heap o c ≡ Some v)) ⊎ ((o ≡ length heap) × (slice_get cs c ≡ Some v))
cell_cases [] cs zero c v e = inr (refl, e)
cell_cases [] cs (suc o) c v e = absurd (cc)
cell_cases (xs ∷ heap) cs zero c v e = inl (omega arith, e)
cell_cases (xs ∷ heap) cs (suc o) c v e = elim (cell_cases heap cs o c v e) [ inl h ↦ inl (let lt = h.0 in omega (arith, lt), h.1) | inr h ↦ inr (ap suc h.0, h.1) ]

length_zeros : (n : ℕ) → length (replicate n (Bits 0)) ≡ n
length_zeros zero = refl
length_zeros (suc n) = ap suc (length_zeros n)

zeros_only : (n i : ℕ) (v : Cell) → slice_get (replicate n (Bits 0)) i ≡ Some v → v ≡ Bits 0
zeros_only zero i v e = absurd (cc)
zeros_only (suc n) zero v e = sym (some_same (Bits 0) v e)
zeros_only (suc n) (suc i) v e = zeros_only n i v e

module _ (g : Ground) where
  -- where objects stand

  from_old : (x : ℕ) (ts : List ℕ) (r o y : ℕ) → place_from g x ts o ≡ Some y → place_from g x (ts ++ r ∷ []) o ≡ Some y
  from_old x [] r o y e = absurd (cc)
  from_old x (t ∷ ts) r zero y e = e
  from_old x (t ∷ ts) r (suc o) y e = from_old (x + object_room g t) ts r o y e

  from_new : (x : ℕ) (ts : List ℕ) (r : ℕ) → place_from g x (ts ++ r ∷ []) (length ts) ≡ Some (x + sum_by (object_room g) ts)
  from_new x [] r = let e : x ≡ x + 0 = omega arith in ap (λ y. Some y) e
  from_new x (t ∷ ts) r =
      let s = sum_by-cons (object_room g) t ts in
      let e : x + object_room g t + sum_by (object_room g) ts ≡ x + sum_by (object_room g) (t ∷ ts) = omega (arith, s) in
      from_new (x + object_room g t) ts r ∙ ap (λ y. Some y) e

  from_cases : (x : ℕ) (ts : List ℕ) (r o y : ℕ) → place_from g x (ts ++ r ∷ []) o ≡ Some y → (place_from g x ts o ≡ Some y) ⊎ ((o ≡ length ts) × (y ≡ x + sum_by (object_room g) ts))
  from_cases x [] r zero y e = let is = some_same x y e in inr (refl, omega (arith, is))
  from_cases x [] r (suc o) y e = absurd (cc)
  from_cases x (t ∷ ts) r zero y e = inl e
  from_cases x (t ∷ ts) r (suc o) y e = elim (from_cases (x + object_room g t) ts r o y e) [
    | inl h ↦ inl h
    | inr h ↦ (let is = h.1 in let s = sum_by-cons (object_room g) t ts in inr (ap suc h.0, omega (arith, is, s)))
  ]

  pub place_old : (tags : List ℕ) (r o x : ℕ) → place g tags o ≡ Some x → place g (tags ++ r ∷ []) o ≡ Some x
  place_old tags r o x e = from_old heap_base tags r o x e

  pub place_new : (tags : List ℕ) (r : ℕ) → place g (tags ++ r ∷ []) (length tags) ≡ Some (next g tags)
  place_new tags r = from_new heap_base tags r

  place_cases : (tags : List ℕ) (r o x : ℕ) → place g (tags ++ r ∷ []) o ≡ Some x → (place g tags o ≡ Some x) ⊎ ((o ≡ length tags) × (x ≡ next g tags))
  place_cases tags r o x e = from_cases heap_base tags r o x e

  pub next_with : (tags : List ℕ) (r : ℕ) → next g (tags ++ r ∷ []) ≡ next g tags + object_room g r
  next_with tags r = let e = sum_by_push (object_room g) tags r in omega (arith, e)

  value_with : (tags : List ℕ) (r : ℕ) (c : Cell) (x : ℕ) → ValueIs g tags c x → ValueIs g (tags ++ r ∷ []) c x
  value_with tags r (Bits n) x h = h
  value_with tags r (Pointer o) x h = place_old tags r o x h
  value_with tags r (Code f) x h = h

  module _ (k : Active) where
    -- the store with one more object is later
    pub later_with : (frame : ℕ) (s : Store) (n r : ℕ) → Later g k frame s (with_object s n r)
    later_with frame s n r = record {
      globals = refl;
      strings = refl;
      next = let e = next_with s.tags r in omega (arith, e);
      place = λ o x e. place_old s.tags r o x e;
      tag = λ o t e. get_old s.tags r t o e;
      still = λ o v c b f lt node none. refl;
    }

    module _ (tags : List ℕ) (r : ℕ) (room : Room g k tags) (few : sum_by (object_cells g) tags + object_cells g r ≤ heap_words) where
      abbrev more : List ℕ
      more = tags ++ r ∷ []

      abbrev tree : DataTree
      tree = Record (record_row g.program.types r)

      room_enough : 8 + tree_bytes g.packed tree ≤ object_room g r
      room_enough = let e = up_above true (tree_bytes g.packed tree) in omega (arith, e)

      -- what stands in the new object's bytes
      abbrev IsNew : Thing → (x l : ℕ) → Type 0
      IsNew t x l = ((t ≡ TagOf (length tags)) × (x ≡ next g tags) × (l ≡ 8)) ⊎ ((t ≡ Variable Heap (length tags) 0) × (x ≡ next g tags + 8) × (l ≡ tree_bytes g.packed tree))

      started : (o x : ℕ) (p : Option ℕ) → place g more o ≡ p → option_map (λ x. x + 8) p ≡ Some x → (option_map (λ x. x + 8) (place g tags o) ≡ Some x) ⊎ ((o ≡ length tags) × (x ≡ next g tags + 8))
      started o x None e at = absurd (cc)
      started o x (Some y) e at = elim (place_cases tags r o y e) [
        | inl h ↦ inl (ap (option_map (λ x. x + 8)) h ∙ at)
        | inr h ↦ (let is = some_same (y + 8) x at in let y_is = h.1 in inr (h.0, omega (arith, is, y_is)))
      ]

      -- its only variable is its record
      only_record : (v : ℕ) (s : DataTree) → slice_get (heap_trees g.program (Some r)) v ≡ Some s → (v ≡ 0) × (tree ≡ s)
      only_record zero s e = (refl, some_same tree s e)
      only_record (suc v) s e = absurd (cc)

      heap_thing : (o v x l : ℕ) (q : Option ℕ) → slice_get more o ≡ q → (s : DataTree) → slice_get (heap_trees g.program q) v ≡ Some s → start g k more Heap o v ≡ Some x → l ≡ tree_bytes g.packed s → IsNew (Variable Heap o v) x l ⊎ Lies g k tags (Variable Heap o v) x l
      heap_thing o v x l None e s there at is = absurd (cc)
      heap_thing o v x l (Some q) e s there at is = elim (get_cases tags r q o e) [
        | inl h ↦ elim (started o x (place g more o) refl at) [
          | inl old ↦ inr (s, ap (λ q. slice_get (heap_trees g.program q) v) h ∙ there, old, is)
          | inr new ↦ (let lt = get_below tags o q h in let at_end = new.0 in absurd (omega (arith, lt, at_end)))
        ]
        | inr h ↦
            (let one = only_record v s (subst (λ q. slice_get (heap_trees g.program (Some q)) v ≡ Some s) h.1 there) in
            elim (started o x (place g more o) refl at) [
              | inl old ↦ absurd (none_new o x h.0 (place g tags o) refl old)
              | inr new ↦ inl (inr (ap (λ o. Variable Heap o v) h.0 ∙ ap (λ v. Variable Heap (length tags) v) one.0, new.1, is ∙ ap (tree_bytes g.packed) (sym one.1)))
            ])
      ]
        where
          none_new : (o x : ℕ) → o ≡ length tags → (p : Option ℕ) → place g tags o ≡ p → option_map (λ x. x + 8) p ≡ Some x → ⊥
          none_new o x is None e at = cc
          none_new o x is (Some y) e at = let lt = place_there g tags o y e in omega (arith, lt, is)

      either_age : (t : Thing) (x l : ℕ) → Lies g k more t x l → IsNew t x l ⊎ Lies g k tags t x l
      either_age (Variable Globals o v) x l h = inr h
      either_age (Variable Frames o v) x l h = inr h
      either_age (Variable Strings o v) x l h = inr h
      either_age (Variable Heap o v) x l h = heap_thing o v x l (slice_get more o) refl h.0 h.1 h.2 h.3
      either_age (TagOf o) x l h = elim (place_cases tags r o x h.0) [
        | inl old ↦ inr (old, h.1)
        | inr new ↦ inl (inl (ap TagOf new.0, new.1, h.1))
      ]
      either_age (Entry y) x l h = inr h

      new_lies : (t : Thing) (x l : ℕ) → IsNew t x l → (next g tags ≤ x) × (x + l ≤ next g tags + object_room g r)
      new_lies t x l (inl h) = let e = h.1 in let f = h.2 in (omega (arith, e), omega (arith, e, f))
      new_lies t x l (inr h) = let e = h.1 in let f = h.2 in let enough = room_enough in (omega (arith, e), omega (arith, e, f, enough))

      -- what was there lies below it
      pub old_below : (t : Thing) (x l : ℕ) → Lies g k tags t x l → x + l ≤ next g tags
      old_below t x l h = elim (room.below t x l h) [
        | inl low ↦ (let top = room.local_ends in let enough = room.local_few in omega (arith, low, top, enough))
        | inr q ↦ q.1
      ]

      new_apart : (t u : Thing) (x l y i : ℕ) → IsNew t x l → IsNew u y i → (t ≡ u) ⊎ Sides x l y i
      new_apart t u x l y i (inl a) (inl b) = inl (a.0 ∙ sym b.0)
      new_apart t u x l y i (inl a) (inr b) = let e = a.1 in let f = a.2 in let z = b.1 in inr (inl (omega (arith, e, f, z)))
      new_apart t u x l y i (inr a) (inl b) = let e = b.1 in let f = b.2 in let z = a.1 in inr (inr (omega (arith, e, f, z)))
      new_apart t u x l y i (inr a) (inr b) = inl (a.0 ∙ sym b.0)

      ends_within : next g tags + object_room g r ≤ heap_base + 8 * heap_words
      ends_within =
          let a = next_few g more in let b = next_with tags r in let c = sum_by_push (object_cells g) tags r in
          omega (arith, a, b, c, few)

      pub room_with : Room g k more
      room_with = record {
        apart = λ t u x l y i a b. elim (either_age t x l a) [
          | inl p ↦ elim (either_age u y i b) [
            | inl q ↦ new_apart t u x l y i p q
            | inr q ↦ (let low = (new_lies t x l p).0 in let top = old_below u y i q in inr (inr (omega (arith, low, top))))
          ]
          | inr p ↦ elim (either_age u y i b) [
            | inl q ↦ (let low = (new_lies u y i q).0 in let top = old_below t x l p in inr (inl (omega (arith, low, top))))
            | inr q ↦ room.apart t u x l y i p q
          ]
        ];
        lies = λ t x l a. elim (either_age t x l a) [
          | inl p ↦ (let e = new_lies t x l p in let low = e.0 in let high = e.1 in let top = ends_within in room.heap_covered x l (omega (arith, low)) (omega (arith, high, top)))
          | inr p ↦ room.lies t x l p
        ];
        below = λ t x l a. elim (either_age t x l a) [
          | inl p ↦ (let e = new_lies t x l p in let low = e.0 in let high = e.1 in let n = next_with tags r in inr (omega (arith, low), omega (arith, high, n)))
          | inr p ↦ elim (room.below t x l p) [
            | inl low ↦ inl low
            | inr q ↦ (let high = q.1 in let n = next_with tags r in inr (q.0, omega (arith, high, n)))
          ]
        ];
        heap_few = let e = sum_by_push (object_cells g) tags r in omega (arith, e, few);
        heap_covered = room.heap_covered;
        local_begins = room.local_begins;
        local_ends = room.local_ends;
        local_few = room.local_few;
        local_covered = room.local_covered;
      }

    module _ (s : Store) (m : List Region) (n r : ℕ) (held : Held g k s m) (few : sum_by (object_cells g) s.tags + object_cells g r ≤ heap_words) (known : r < length g.program.types.records) (small : g.descriptor r < 2 ^ 64) (size : n ≡ row_cells (record_row g.program.types r)) where
      abbrev first : ℕ
      first = next g s.tags

      abbrev tags_then : List ℕ
      tags_then = s.tags ++ r ∷ []

      -- its tag is stored
      abbrev pub with_tag : List Region
      with_tag = store false m first (g.descriptor r)

      room_here : 8 ≤ object_room g r
      room_here = omega arith

      pub tag_covered : covers m first 8 ≡ true
      tag_covered =
          let top = ends_within s.tags r held.room few in let enough = room_here in
          covers-shapes m first 8 ∙ ap (λ ss. covered ss first 8) held.areas ∙ held.room.heap_covered first 8 (omega arith) (omega (arith, top, enough))

      -- a scalar that was there
      elder : (a : Area) (o v c b x : ℕ) (f : Form) (value : Cell) → VariableNode g.packed (trees g k s.tags a o) v c b (Scalar f) → start g k s.tags a o v ≡ Some x → cell_of (objects a s) o c ≡ Some value
          → ValueIs g tags_then value (load (takes_byte g f) with_tag (x + b))
      elder a o v c b x f value node at is =
          let far : Sides (x + b) (scalar_bytes (takes_byte g f)) first 8 = elim (node_below g k s.tags held.room a o v c b x (Scalar f) node at) [
            | inl low ↦ (let top = held.room.local_ends in let enough = held.room.local_few in inl (omega (arith, low, top, enough)))
            | inr q ↦ inl q.1
          ] in
          value_with s.tags r value (load (takes_byte g f) with_tag (x + b))
          (subst (λ y. ValueIs g s.tags value y) (sym (load_apart false (takes_byte g f) m first (g.descriptor r) (x + b) far)) (held.holds a o v c b x f value node at is))

      -- one of the new object
      newer : (v c b x : ℕ) (f : Form) (value : Cell) → VariableNode g.packed (heap_trees g.program (Some r)) v c b (Scalar f) → x ≡ first + 8 → value ≡ Bits 0 → ValueIs g tags_then value (load (takes_byte g f) with_tag (x + b))
      newer v c b x f value node at zero_value =
          let fits = variable_fits g.packed (heap_trees g.program (Some r)) v c b (Scalar f) node in
          let one = only_record s.tags r held.room few v fits.0 fits.1 in
          let bytes = ap (tree_bytes g.packed) one.1 in
          let inside = fits.2 in
          let enough = room_enough s.tags r held.room few in
          let top = ends_within s.tags r held.room few in
          let is_zero : load (takes_byte g f) m (x + b) ≡ 0 = load_zero (takes_byte g f) m (x + b) (held.zeros (x + b) (scalar_bytes (takes_byte g f)) (omega (arith, at)) (omega (arith, at, bytes, inside, enough, top))) in
          subst (λ c. ValueIs g tags_then c (load (takes_byte g f) with_tag (x + b))) (sym zero_value)
          (load_apart false (takes_byte g f) m first (g.descriptor r) (x + b) (inr (omega (arith, at))) ∙ is_zero, omega arith)

      heap_holds : (o v c b x : ℕ) (f : Form) (value : Cell) (q : Option ℕ) → slice_get tags_then o ≡ q → VariableNode g.packed (heap_trees g.program q) v c b (Scalar f) → start g k tags_then Heap o v ≡ Some x → cell_of (s.heap ++ replicate n (Bits 0) ∷ []) o c ≡ Some value
          → ValueIs g tags_then value (load (takes_byte g f) with_tag (x + b))
      heap_holds o v c b x f value None e node at is = absurd node
      heap_holds o v c b x f value (Some q) e node at is =
          let even = held.tagged in
          elim (get_cases s.tags r q o e) [
            | inl h ↦
                (let lt = get_below s.tags o q h in
                elim (started s.tags r held.room few o x (place g tags_then o) refl at) [
                  | inl old ↦ elim (cell_cases s.heap (replicate n (Bits 0)) o c value is) [
                    | inl there ↦ elder Heap o v c b x f value (subst (λ q. VariableNode g.packed (heap_trees g.program q) v c b (Scalar f)) (sym h) node) old there.1
                    | inr new ↦ (let at_end = new.0 in absurd (omega (arith, lt, at_end, even)))
                  ]
                  | inr new ↦ (let at_end = new.0 in absurd (omega (arith, lt, at_end)))
                ])
            | inr h ↦
                (let at_end = h.0 in
                elim (started s.tags r held.room few o x (place g tags_then o) refl at) [
                  | inl old ↦ absurd (none_there o x h.0 (place g s.tags o) refl old)
                  | inr new ↦ elim (cell_cases s.heap (replicate n (Bits 0)) o c value is) [
                    | inl there ↦ (let lt = there.0 in absurd (omega (arith, lt, at_end, even)))
                    | inr new2 ↦ newer v c b x f value (subst (λ q. VariableNode g.packed (heap_trees g.program (Some q)) v c b (Scalar f)) h.1 node) new.1 (zeros_only n c value new2.1)
                  ]
                ])
          ]
        where
          none_there : (o x : ℕ) → o ≡ length s.tags → (p : Option ℕ) → place g s.tags o ≡ p → option_map (λ x. x + 8) p ≡ Some x → ⊥
          none_there o x is None e at = cc
          none_there o x is (Some y) e at = let lt = place_there g s.tags o y e in omega (arith, lt, is)

      holds_with : (a : Area) (o v c b x : ℕ) (f : Form) (value : Cell) → VariableNode g.packed (trees g k tags_then a o) v c b (Scalar f) → start g k tags_then a o v ≡ Some x → cell_of (objects a (with_object s n r)) o c ≡ Some value
          → ValueIs g tags_then value (load (takes_byte g f) with_tag (x + b))
      holds_with Globals o v c b x f value node at is = elder Globals o v c b x f value node at is
      holds_with Frames o v c b x f value node at is = elder Frames o v c b x f value node at is
      holds_with Strings o v c b x f value node at is = elder Strings o v c b x f value node at is
      holds_with Heap o v c b x f value node at is = heap_holds o v c b x f value (slice_get tags_then o) refl node at is

      word_else : (t : Thing) (x : ℕ) → Lies g k s.tags t x 8 → load false with_tag x ≡ load false m x
      word_else t x lies = load_apart false false m first (g.descriptor r) x (inl (old_below s.tags r held.room few t x 8 lies))

      tags_with : (o t x : ℕ) → slice_get tags_then o ≡ Some t → place g tags_then o ≡ Some x → (load false with_tag x ≡ g.descriptor t) × (t < length g.program.types.records)
      tags_with o t x is at = elim (get_cases s.tags r t o is) [
        | inl h ↦ elim (place_cases s.tags r o x at) [
          | inl old ↦ (let was = held.tags o t x h old in (word_else (TagOf o) x (old, refl) ∙ was.0, was.1))
          | inr new ↦ (let lt = get_below s.tags o t h in let at_end = new.0 in absurd (omega (arith, lt, at_end)))
        ]
        | inr h ↦ elim (place_cases s.tags r o x at) [
          | inl old ↦ (let lt = place_there g s.tags o x old in let at_end = h.0 in absurd (omega (arith, lt, at_end)))
          | inr new ↦ (ap (λ x. load false with_tag x) new.1 ∙ load_same false m first (g.descriptor r) tag_covered small ∙ ap g.descriptor (sym h.1), subst (λ t. t < length g.program.types.records) (sym h.1) known)
        ]
      ]

      -- memory holds the store with the object
      pub held_with : Held g k (with_object s n r) with_tag
      held_with = record {
        room = room_with s.tags r held.room few;
        frames = held.frames;
        areas = shapes_store false m first (g.descriptor r) ∙ held.areas;
        rises = areas_store false m first (g.descriptor r) held.rises;
        bytes = bytes_store false m first (g.descriptor r) held.bytes;
        holds = holds_with;
        tags = tags_with;
        entries = λ x y e. word_else (Entry x) x (y, e, refl, refl) ∙ held.entries x y e;
        tagged = let x = length-append s.tags (r ∷ []) in let y = length-append s.heap (replicate n (Bits 0) ∷ []) in let z = held.tagged in x ∙ ap (λ k. k + 1) z ∙ sym y;
        counted =
            map-append length s.heap (replicate n (Bits 0) ∷ []) ∙ ap₂ (λ ns k. ns ++ k ∷ []) held.counted (length_zeros n ∙ size)
            ∙ sym (map-append (λ t. row_cells (record_row g.program.types t)) s.tags (r ∷ []));
        zeros = λ x l le ends.
            let e = next_with s.tags r in let enough = room_here in
            bytes_apart false m first (g.descriptor r) x l (inr (omega (arith, le, e, enough))) ∙ held.zeros x l (omega (arith, le, e, enough)) ends;
        input = held.input;
      }
