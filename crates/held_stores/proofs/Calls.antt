-- A call's object on top of those that are there, and off again.
use Rattle.std.proofs.Common.{◌≡◌, ◌≢◌, ℕ, zero, suc, ◌+◌, ◌*◌, ◌<◌, ◌≤◌, ◌⊎◌, ⊎_elim, inl, inr, List, [], ◌∷◌, ◌++◌, map, length, take, false, cond, nat_eq, refl, sym, ap, ap₂, ◌∙◌, subst, arith, eq-eqb, ne_eqb, Option, Some, None}
use Rattle.std.specs.Prelude.{sum, slice_get, slice_index_or, option_map}
use Rattle.std.proofs.lemmas.List.Sums.{sum_by-cons}
use Rattle.a64_memory.specs.Memory.{shapes, bytes_at, loaded8, IsRising, IsOfBytes}
use Rattle.a64_memory.specs.Memory.{Area as Region}
use Rattle.a64_memory.specs.Areas.{local_base, heap_base, local_words}
use Rattle.ob_types.specs.Forms.{Form}
use Rattle.ob_types.specs.Store.{Cell, Area, Globals, Frames, Heap, Strings, Store, objects, cell_of}
use Rattle.ob_types.specs.Trees.{DataTree, Scalar, scalar_bytes, tree_bytes, data_tree}
use Rattle.ob_types.proofs.Tests.{some_same}
use Rattle.object_nodes.specs.Addresses.{Sides}
use Rattle.object_nodes.specs.Nodes.{VariableNode}
use Rattle.object_bytes.specs.Objects.{load}
use Rattle.object_bytes.proofs.Kept.{load_bytes}
use Rattle.held_stores.specs.Places.{Ground, Active, Thing, Variable, TagOf, Entry, place, next, trees, start, Lies, Room}
use Rattle.held_stores.specs.Held.{ValueIs, takes_byte, Held, Later}
use Rattle.held_stores.specs.Changes.{Call, above, with_frame, without_frame, Beyond, Laid}
use Rattle.held_stores.proofs.Pieces.{place_above, node_below}

---- Lists with one more at their end

-- one of a list with one more at its end
abbrev OneOf : List (List ℕ) → List ℕ → ℕ → Type 0
OneOf xs x o = ((o < length xs) × (slice_index_or (xs ++ x ∷ []) o [] ≡ slice_index_or xs o [])) ⊎ (((o ≡ length xs) × (slice_index_or (xs ++ x ∷ []) o [] ≡ x)) ⊎ ((length xs < o) × (slice_index_or (xs ++ x ∷ []) o [] ≡ [])))

one_of : (xs : List (List ℕ)) (x : List ℕ) (o : ℕ) → OneOf xs x o
one_of [] x zero = inr (inl (refl, refl))
one_of [] x (suc o) = inr (inr (omega arith, refl))
one_of (y ∷ xs) x zero = inl (omega arith, refl)
one_of (y ∷ xs) x (suc o) = elim (one_of xs x o) [
  | inl h ↦ (let lt = h.0 in inl (omega (arith, lt), h.1))
  | inr (inl h) ↦ (let e = h.0 in inr (inl (omega (arith, e), h.1)))
  | inr (inr h) ↦ (let lt = h.0 in inr (inr (omega (arith, lt), h.1)))
]

-- what isn't there has no variables
none_past : (xs : List (List ℕ)) (o : ℕ) → length xs ≤ o → slice_index_or xs o [] ≡ []
none_past [] o le = refl
none_past (x ∷ xs) zero le = absurd (omega (arith, le))
none_past (x ∷ xs) (suc o) le = none_past xs o (omega (arith, le))

lengths_append : (all : List (List Cell)) (cs : List Cell) → map length (all ++ cs ∷ []) ≡ map length all ++ length cs ∷ []
lengths_append [] cs = refl
lengths_append (x ∷ all) cs = ap (λ ns. length x ∷ ns) (lengths_append all cs)

lengths_take : (n : ℕ) (all : List (List Cell)) → map length (take n all) ≡ take n (map length all)
lengths_take zero all = refl
lengths_take (suc n) [] = refl
lengths_take (suc n) (x ∷ all) = ap (λ ns. length x ∷ ns) (lengths_take n all)

take_append : (xs : List ℕ) (x : ℕ) → take (length xs) (xs ++ x ∷ []) ≡ xs
take_append [] x = refl
take_append (y ∷ xs) x = ap (λ ys. y ∷ ys) (take_append xs x)

pub sum_append : (xs : List ℕ) (x : ℕ) → sum (xs ++ x ∷ []) ≡ sum xs + x
sum_append [] x = let e = sum_by-cons (λ y. y) x [] in omega (arith, e)
sum_append (y ∷ xs) x =
    let e = sum_by-cons (λ y. y) y (xs ++ x ∷ []) in let f = sum_by-cons (λ y. y) y xs in let g = sum_append xs x in
    omega (arith, e, f, g)

pub take_cell : (n : ℕ) (all : List (List Cell)) (o c : ℕ) → o < n → cell_of (take n all) o c ≡ cell_of all o c
take_cell zero all o c lt = absurd (omega (arith, lt))
take_cell (suc n) [] o c lt = refl
take_cell (suc n) (x ∷ all) zero c lt = refl
take_cell (suc n) (x ∷ all) (suc o) c lt = take_cell n all o c (omega (arith, lt))

taken_cell : (n : ℕ) (all : List (List Cell)) (o c : ℕ) (v : Cell) → cell_of (take n all) o c ≡ Some v → (o < n) × (cell_of all o c ≡ Some v)
taken_cell zero all o c v e = absurd (cc)
taken_cell (suc n) [] o c v e = absurd (cc)
taken_cell (suc n) (x ∷ all) zero c v e = (omega arith, e)
taken_cell (suc n) (x ∷ all) (suc o) c v e = let h = taken_cell n all o c v e in let lt = h.0 in (omega (arith, lt), h.1)

pub pushed_cell : (all : List (List Cell)) (cs : List Cell) (o c : ℕ) → o < length all → cell_of (all ++ cs ∷ []) o c ≡ cell_of all o c
pushed_cell [] cs o c lt = absurd (omega (arith, lt))
pushed_cell (x ∷ all) cs zero c lt = refl
pushed_cell (x ∷ all) cs (suc o) c lt = pushed_cell all cs o c (omega (arith, lt))

pub own_cell : (all : List (List Cell)) (cs : List Cell) (n c : ℕ) → n ≡ length all → cell_of (all ++ cs ∷ []) n c ≡ slice_get cs c
own_cell [] cs zero c e = refl
own_cell [] cs (suc n) c e = absurd (omega (arith, e))
own_cell (x ∷ all) cs zero c e = absurd (omega (arith, e))
own_cell (x ∷ all) cs (suc n) c e = own_cell all cs n c (omega (arith, e))

pub many_lengths : (all : List (List Cell)) → length (map length all) ≡ length all
many_lengths [] = refl
many_lengths (x ∷ all) = ap suc (many_lengths all)

module _ (g : Ground) (k : Active) (call : Call) (even : length k.types ≡ length k.cells) where
  abbrev u : Active
  u = above k call

  abbrev n : ℕ
  n = length k.types

  abbrev own_trees : List DataTree
  own_trees = map (data_tree g.program.types) call.types

  pub own_slot : (o v : ℕ) → o ≡ n → u.slot o v ≡ call.slot v
  own_slot o v e = ap (λ b. cond b (call.slot v) (k.slot o v)) (eq-eqb o n e)

  pub other_slot : (o v : ℕ) → o ≢ n → u.slot o v ≡ k.slot o v
  other_slot o v ne = ap (λ b. cond b (call.slot v) (k.slot o v)) (ne_eqb o n ne)

  -- the variables of an older call, and of this one

  older_trees : (tags : List ℕ) (o : ℕ) → o < n → trees g u tags Frames o ≡ trees g k tags Frames o
  older_trees tags o lt = elim (one_of k.types call.types o) [
    | inl h ↦ ap (map (data_tree g.program.types)) h.1
    | inr (inl h) ↦ (let e = h.0 in absurd (omega (arith, e, lt)))
    | inr (inr h) ↦ (let e = h.0 in absurd (omega (arith, e, lt)))
  ]

  new_trees : (tags : List ℕ) (o : ℕ) → o ≡ n → trees g u tags Frames o ≡ own_trees
  new_trees tags o e = elim (one_of k.types call.types o) [
    | inl h ↦ (let lt = h.0 in absurd (omega (arith, e, lt)))
    | inr (inl h) ↦ ap (map (data_tree g.program.types)) h.1
    | inr (inr h) ↦ (let lt = h.0 in absurd (omega (arith, e, lt)))
  ]

  no_trees : (tags : List ℕ) (o : ℕ) → n < o → trees g u tags Frames o ≡ []
  no_trees tags o lt = elim (one_of k.types call.types o) [
    | inl h ↦ (let le = h.0 in absurd (omega (arith, le, lt)))
    | inr (inl h) ↦ (let e = h.0 in absurd (omega (arith, e, lt)))
    | inr (inr h) ↦ ap (map (data_tree g.program.types)) h.1
  ]

  before_none : (tags : List ℕ) (o : ℕ) → n ≤ o → trees g k tags Frames o ≡ []
  before_none tags o le = ap (map (data_tree g.program.types)) (none_past k.types o le)

  -- a variable of the call's object
  abbrev IsOwn : Thing → (x l : ℕ) → Type 0
  IsOwn t x l = (v : ℕ) × (s : DataTree) × (t ≡ Variable Frames n v) × (slice_get own_trees v ≡ Some s) × (call.slot v ≡ Some x) × (l ≡ tree_bytes g.packed s)

  no_variable : {s : DataTree} (ts : List DataTree) (v : ℕ) → ts ≡ [] → slice_get ts v ≡ Some s → ⊥
  no_variable [] v e at = cc
  no_variable (t ∷ ts) v e at = cc

  -- each thing is one, or was there before
  down : (tags : List ℕ) (t : Thing) (x l : ℕ) → Lies g u tags t x l → IsOwn t x l ⊎ Lies g k tags t x l
  down tags (Variable Globals o v) x l h = inr h
  down tags (Variable Heap o v) x l h = inr h
  down tags (Variable Strings o v) x l h = inr h
  down tags (TagOf o) x l h = inr h
  down tags (Entry y) x l h = inr h
  down tags (Variable Frames o v) x l h = elim (one_of k.types call.types o) [
    | inl q ↦
        (let lt = q.0 in
        inr (h.0, ap (λ ts. slice_get ts v) (sym (older_trees tags o lt)) ∙ h.1, sym (other_slot o v (λ e. absurd (omega (arith, e, lt)))) ∙ h.2, h.3))
    | inr (inl q) ↦ inl (v, h.0, ap (λ o. Variable Frames o v) q.0, ap (λ ts. slice_get ts v) (sym (new_trees tags o q.0)) ∙ h.1, sym (own_slot o v q.0) ∙ h.2, h.3)
    | inr (inr q) ↦ absurd (no_variable (trees g u tags Frames o) v (no_trees tags o q.0) h.1)
  ]

  up : (tags : List ℕ) (t : Thing) (x l : ℕ) → Lies g k tags t x l → Lies g u tags t x l
  up tags (Variable Globals o v) x l h = h
  up tags (Variable Heap o v) x l h = h
  up tags (Variable Strings o v) x l h = h
  up tags (TagOf o) x l h = h
  up tags (Entry y) x l h = h
  up tags (Variable Frames o v) x l h = elim (one_of k.types call.types o) [
    | inl q ↦ (let lt = q.0 in (h.0, ap (λ ts. slice_get ts v) (older_trees tags o lt) ∙ h.1, other_slot o v (λ e. absurd (omega (arith, e, lt))) ∙ h.2, h.3))
    | inr (inl q) ↦ (let e = q.0 in absurd (no_variable (trees g k tags Frames o) v (before_none tags o (omega (arith, e))) h.1))
    | inr (inr q) ↦ (let lt = q.0 in absurd (no_variable (trees g k tags Frames o) v (before_none tags o (omega (arith, lt))) h.1))
  ]

  ---- On

  module _ (laid : Laid g k.local call) (few : sum k.cells + call.cells ≤ local_words) where
    own_inside : (t : Thing) (x l : ℕ) → IsOwn t x l → (k.local ≤ x) × (x + l ≤ k.local + call.bytes)
    own_inside t x l h = let i = laid.inside h.0 x h.1 h.3 h.4 in let e = h.5 in let high = i.1 in (i.0, omega (arith, e, high))

    own_apart : (t s : Thing) (x l y i : ℕ) → IsOwn t x l → IsOwn s y i → (t ≡ s) ⊎ Sides x l y i
    own_apart t s x l y i a b = ⊎_elim
        (λ (e : a.0 ≡ b.0). inl (a.2 ∙ ap (λ v. Variable Frames n v) e ∙ sym b.2))
        (λ (h : Sides x (tree_bytes g.packed a.1) y (tree_bytes g.packed b.1)). inr (by a.5 b.5 h))
        (laid.apart a.0 b.0 x y a.1 b.1 a.3 b.3 a.4 b.4)
      where
        by : l ≡ tree_bytes g.packed a.1 → i ≡ tree_bytes g.packed b.1 → Sides x (tree_bytes g.packed a.1) y (tree_bytes g.packed b.1) → Sides x l y i
        by e f (inl h) = inl (omega (arith, e, h))
        by e f (inr h) = inr (omega (arith, f, h))

    -- what was there before lies below it, or in the heap
    old_apart : (tags : List ℕ) (x l y i : ℕ) → k.local ≤ local_base + 8 * sum k.cells → (k.local ≤ x) × (x + l ≤ k.local + call.bytes) → (y + i ≤ k.local) ⊎ ((heap_base ≤ y) × (y + i ≤ next g tags)) → Sides x l y i
    old_apart tags x l y i ends mine (inl h) = let low = mine.0 in inr (omega (arith, h, low))
    old_apart tags x l y i ends mine (inr h) = let high = mine.1 in let low = h.0 in let fit = laid.fits in inl (omega (arith, high, low, ends, fit, few))

    turn : (x l y i : ℕ) → Sides x l y i → Sides y i x l
    turn x l y i (inl h) = inr h
    turn x l y i (inr h) = inl h

    pub room_push : (tags : List ℕ) → Room g k tags → Room g u tags
    room_push tags h =
        let ends = h.local_ends in
        let total = sum_append k.cells call.cells in
        let fit = laid.fits in
        record {
          apart = λ t s x l y i a b. elim (down tags t x l a) [
            | inl p ↦ elim (down tags s y i b) [
              | inl q ↦ own_apart t s x l y i p q
              | inr q ↦ inr (old_apart tags x l y i ends (own_inside t x l p) (h.below s y i q))
            ]
            | inr p ↦ elim (down tags s y i b) [
              | inl q ↦ inr (turn y i x l (old_apart tags y i x l ends (own_inside s y i q) (h.below t x l p)))
              | inr q ↦ h.apart t s x l y i p q
            ]
          ];
          lies = λ t x l a. elim (down tags t x l a) [
            | inl p ↦ (let i = own_inside t x l p in let low = i.0 in let high = i.1 in let begins = h.local_begins in h.local_covered x l (omega (arith, low, begins)) (omega (arith, high, fit, ends, few)))
            | inr p ↦ h.lies t x l p
          ];
          below = λ t x l a. elim (down tags t x l a) [
            | inl p ↦ inl (own_inside t x l p).1
            | inr p ↦ elim (h.below t x l p) [
              | inl low ↦ inl (omega (arith, low))
              | inr q ↦ inr q
            ]
          ];
          heap_few = h.heap_few;
          heap_covered = h.heap_covered;
          local_begins = let b = h.local_begins in omega (arith, b);
          local_ends = omega (arith, ends, total, fit);
          local_few = omega (arith, total, few);
          local_covered = h.local_covered;
        }

    -- memory holds the store with the call's object
    pub held_push : (s : Store) (cs : List Cell) (m m2 : List Region) → Held g k s m → Beyond k.local m m2 → length cs ≡ call.cells
        → ((v c b x : ℕ) (f : Form) (value : Cell) → VariableNode g.packed own_trees v c b (Scalar f) → call.slot v ≡ Some x → slice_get cs c ≡ Some value → ValueIs g s.tags value (load (takes_byte g f) m2 (x + b)))
        → Held g u (with_frame cs s) m2
    held_push s cs m m2 h beyond long firsts =
        record {
          room = room_push s.tags h.room;
          frames = lengths_append s.frames cs ∙ ap₂ (λ ns j. ns ++ j ∷ []) h.frames long;
          areas = beyond.areas ∙ h.areas;
          rises = beyond.rises;
          bytes = beyond.bytes;
          holds = holds_push;
          tags = λ o t x is at. let q = h.tags o t x is at in (word_same x (room_of (TagOf o) x 8 (at, refl)) ∙ q.0, q.1);
          entries = λ x y e. word_same x (room_of (Entry x) x 8 (y, e, refl, refl)) ∙ h.entries x y e;
          tagged = h.tagged;
          counted = h.counted;
          zeros = λ x l le ends. beyond.same x l (inr (omega (arith, le))) ∙ h.zeros x l le ends;
          input = h.input;
        }
      where
        frames_are : length s.frames ≡ n
        frames_are = let e = ap length h.frames in let f = many_lengths s.frames in omega (arith, e, f, even)

        room_of : (t : Thing) (x l : ℕ) → Lies g k s.tags t x l → (x + l ≤ k.local) ⊎ (heap_base ≤ x)
        room_of t x l lies = elim (h.room.below t x l lies) [
          | inl low ↦ inl low
          | inr q ↦ inr q.0
        ]

        word_same : (x : ℕ) → (x + 8 ≤ k.local) ⊎ (heap_base ≤ x) → loaded8 m2 x ≡ loaded8 m x
        word_same x low = load_bytes false m2 m x x (beyond.same x 8 low)

        older : (a : Area) (o v c b x : ℕ) (f : Form) (value : Cell) → VariableNode g.packed (trees g k s.tags a o) v c b (Scalar f) → start g k s.tags a o v ≡ Some x → cell_of (objects a s) o c ≡ Some value
            → ValueIs g s.tags value (load (takes_byte g f) m2 (x + b))
        older a o v c b x f value node at is =
            subst (λ y. ValueIs g s.tags value y)
            (sym (load_bytes (takes_byte g f) m2 m (x + b) (x + b) (beyond.same (x + b) (scalar_bytes (takes_byte g f)) (elim (node_below g k s.tags h.room a o v c b x (Scalar f) node at) [
              | inl low ↦ inl low
              | inr q ↦ inr q.0
            ]))))
            (h.holds a o v c b x f value node at is)

        holds_push : (a : Area) (o v c b x : ℕ) (f : Form) (value : Cell) → VariableNode g.packed (trees g u s.tags a o) v c b (Scalar f) → start g u s.tags a o v ≡ Some x → cell_of (objects a (with_frame cs s)) o c ≡ Some value
            → ValueIs g s.tags value (load (takes_byte g f) m2 (x + b))
        holds_push Globals o v c b x f value node at is = older Globals o v c b x f value node at is
        holds_push Heap o v c b x f value node at is = older Heap o v c b x f value node at is
        holds_push Strings o v c b x f value node at is = older Strings o v c b x f value node at is
        holds_push Frames o v c b x f value node at is = elim (one_of k.types call.types o) [
          | inl q ↦
              (let lt = q.0 in
              older Frames o v c b x f value (subst (λ ts. VariableNode g.packed ts v c b (Scalar f)) (older_trees s.tags o lt) node) (sym (other_slot o v (λ e. absurd (omega (arith, e, lt)))) ∙ at)
              (sym (pushed_cell s.frames cs o c (let e = frames_are in omega (arith, lt, e))) ∙ is))
          | inr (inl q) ↦
              firsts v c b x f value (subst (λ ts. VariableNode g.packed ts v c b (Scalar f)) (new_trees s.tags o q.0) node) (sym (own_slot o v q.0) ∙ at)
              (sym (own_cell s.frames cs o c (q.0 ∙ sym frames_are)) ∙ is)
          | inr (inr q) ↦ absurd (subst (λ ts. VariableNode g.packed ts v c b (Scalar f)) (no_trees s.tags o q.0) node)
        ]

  ---- Off

  -- from before a call to behind it
  pub later_pop : (frame : ℕ) (s t : Store) (cs : List Cell) → map length s.frames ≡ k.cells → frame ≤ n → Later g u n (with_frame cs s) t → Later g k frame s (without_frame n t)
  later_pop frame s t cs sizes le h = record {
    globals = h.globals;
    strings = h.strings;
    next = h.next;
    place = h.place;
    tag = h.tag;
    still = λ o v c b f lt node none.
        let many = ap length sizes in let count = many_lengths s.frames in
        let below : o < n = omega (arith, lt, le) in
        take_cell n t.frames o c below
        ∙ h.still o v c b f below (subst (λ ts. VariableNode g.packed ts v c b (Scalar f)) (sym (older_trees s.tags o below)) node) (other_slot o v (λ e. absurd (omega (arith, e, below))) ∙ none)
        ∙ pushed_cell s.frames cs o c (omega (arith, below, many, count, even));
  }

  -- below the call's own bytes, or in the heap
  abbrev Below : (tags : List ℕ) (x l : ℕ) → Type 0
  Below tags x l = (x + l ≤ k.local) ⊎ ((heap_base ≤ x) × (x + l ≤ next g tags))

  -- memory holds the store without the call's object
  pub held_pop : (s t : Store) (m0 m : List Region) → Held g k s m0 → next g s.tags ≤ next g t.tags → Held g u t m → Held g k (without_frame n t) m
  held_pop s t m0 m old grows h = record {
    room = room;
    frames = lengths_take n t.frames ∙ ap₂ (λ i ns. take i ns) even h.frames ∙ take_append k.cells call.cells;
    areas = h.areas;
    rises = h.rises;
    bytes = h.bytes;
    holds = holds_pop;
    tags = h.tags;
    entries = h.entries;
    tagged = h.tagged;
    counted = h.counted;
    zeros = h.zeros;
    input = h.input;
  }
    where
      raised : (x l : ℕ) → Below s.tags x l → Below t.tags x l
      raised x l (inl q) = inl q
      raised x l (inr q) = let lt = q.1 in inr (q.0, omega (arith, lt, grows))

      -- what is in the heap lies above the local data
      in_heap : (x l : ℕ) → heap_base ≤ x → (x + l ≤ u.local) ⊎ ((heap_base ≤ x) × (x + l ≤ next g t.tags)) → Below t.tags x l
      in_heap x l le (inl lt) = let ends = h.room.local_ends in let enough = h.room.local_few in absurd (omega (arith, le, lt, ends, enough))
      in_heap x l le (inr q) = inr q

      started : (o x : ℕ) (p : Option ℕ) → place g t.tags o ≡ p → option_map (λ x. x + 8) p ≡ Some x → heap_base ≤ x
      started o x None e at = absurd (cc)
      started o x (Some y) e at = let low = place_above g t.tags o y e in let is = some_same (y + 8) x at in omega (arith, low, is)

      low : (t2 : Thing) (x l : ℕ) → Lies g k t.tags t2 x l → Below t.tags x l
      low (Variable Globals o v) x l lies = raised x l (old.room.below (Variable Globals o v) x l lies)
      low (Variable Frames o v) x l lies = raised x l (old.room.below (Variable Frames o v) x l lies)
      low (Variable Strings o v) x l lies = raised x l (old.room.below (Variable Strings o v) x l lies)
      low (Entry y) x l lies = raised x l (old.room.below (Entry y) x l lies)
      low (Variable Heap o v) x l lies = in_heap x l (started o x (place g t.tags o) refl lies.2) (h.room.below (Variable Heap o v) x l lies)
      low (TagOf o) x l lies = in_heap x l (place_above g t.tags o x lies.0) (h.room.below (TagOf o) x l lies)

      room : Room g k t.tags
      room = record {
        apart = λ p q x l y i a b. h.room.apart p q x l y i (up t.tags p x l a) (up t.tags q y i b);
        lies = λ p x l a. h.room.lies p x l (up t.tags p x l a);
        below = low;
        heap_few = h.room.heap_few;
        heap_covered = h.room.heap_covered;
        local_begins = old.room.local_begins;
        local_ends = old.room.local_ends;
        local_few = old.room.local_few;
        local_covered = h.room.local_covered;
      }

      holds_pop : (a : Area) (o v c b x : ℕ) (f : Form) (value : Cell) → VariableNode g.packed (trees g k t.tags a o) v c b (Scalar f) → start g k t.tags a o v ≡ Some x → cell_of (objects a (without_frame n t)) o c ≡ Some value
          → ValueIs g t.tags value (load (takes_byte g f) m (x + b))
      holds_pop Globals o v c b x f value node at is = h.holds Globals o v c b x f value node at is
      holds_pop Heap o v c b x f value node at is = h.holds Heap o v c b x f value node at is
      holds_pop Strings o v c b x f value node at is = h.holds Strings o v c b x f value node at is
      holds_pop Frames o v c b x f value node at is =
          let there = taken_cell n t.frames o c value is in
          let lt = there.0 in
          h.holds Frames o v c b x f value (subst (λ ts. VariableNode g.packed ts v c b (Scalar f)) (sym (older_trees t.tags o lt)) node) (other_slot o v (λ e. absurd (omega (arith, e, lt))) ∙ at) there.1
