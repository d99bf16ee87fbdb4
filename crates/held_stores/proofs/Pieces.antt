-- Nodes in memory: two of as many levels are one, or share no byte; and none shares a byte with a tag or a descriptor.
use Rattle.std.proofs.Common.{◌≡◌, ℕ, zero, suc, ◌+◌, ◌*◌, ◌<◌, ◌≤◌, ◌⊎◌, ⊎_elim, inl, inr, List, [], ◌∷◌, length, Some, refl, sym, ap, ◌∙◌, subst, arith}
use Rattle.std.specs.Prelude.{sum, sum_by, slice_get}
use Rattle.std.proofs.lemmas.List.Sums.{sum_by-cons}
use Rattle.a64_memory.specs.Areas.{heap_base, heap_words}
use Rattle.ob_types.specs.Forms.{Form}
use Rattle.ob_types.specs.Store.{Area}
use Rattle.ob_types.specs.Trees.{DataTree, Scalar, Record, tree_bytes, tree_cells, record_row}
use Rattle.ob_types.proofs.Tests.{some_same}
use Rattle.ob_types.proofs.TreeBytes.{few_rounded}
use Rattle.object_nodes.specs.Addresses.{Sides}
use Rattle.object_nodes.specs.Nodes.{Node, VariableNode, Meet, LieApart}
use Rattle.object_nodes.proofs.Meeting.{tree_levels, node_self, same_levels, variables_meet}
use Rattle.object_nodes.proofs.Stood.{variable_fits}
use Rattle.held_stores.specs.Places.{Ground, Active, Thing, Variable, TagOf, Entry, object_room, object_cells, place_from, place, next, trees, start, Lies, Room}

pub key_parts : {a b : Area} {o p v w : ℕ} → Variable a o v ≡ Variable b p w → (a ≡ b) × (o ≡ p) × (v ≡ w)
key_parts e = (cc, cc, cc)

pub tag_is_none : {o p v : ℕ} {a : Area} → TagOf o ≡ Variable a p v → ⊥
tag_is_none e = cc

pub entry_is_none : {x p v : ℕ} {a : Area} → Entry x ≡ Variable a p v → ⊥
entry_is_none e = cc

-- a record takes at most eight bytes a cell, with its tag too

room_few : (g : Ground) (t : ℕ) → object_room g t ≤ 8 * object_cells g t
room_few g t = let e = few_rounded g.packed (Record (record_row g.program.types t)) in omega (arith, e)

pub next_few : (g : Ground) (tags : List ℕ) → next g tags ≤ heap_base + 8 * sum_by (object_cells g) tags
next_few g tags = let e = all tags in omega (arith, e)
  where
    all : (ts : List ℕ) → sum_by (object_room g) ts ≤ 8 * sum_by (object_cells g) ts
    all [] = omega arith
    all (t ∷ ts) =
        let a = all ts in let b = room_few g t in
        let c = sum_by-cons (object_room g) t ts in let d = sum_by-cons (object_cells g) t ts in
        omega (arith, a, b, c, d)

-- where objects of the heap stand

from_above : (g : Ground) (x : ℕ) (ts : List ℕ) (o y : ℕ) → place_from g x ts o ≡ Some y → (x ≤ y) × (y + 8 ≤ x + sum_by (object_room g) ts) × (o < length ts)
from_above g x [] o y e = absurd (cc)
from_above g x (t ∷ ts) zero y e = let is = some_same x y e in let s = sum_by-cons (object_room g) t ts in (omega (arith, is), omega (arith, is, s), omega arith)
from_above g x (t ∷ ts) (suc o) y e =
    let h = from_above g (x + object_room g t) ts o y e in
    let a = h.0 in let b = h.1 in let c = h.2 in
    let s = sum_by-cons (object_room g) t ts in
    (omega (arith, a), omega (arith, b, s), omega (arith, c))

pub place_above : (g : Ground) (tags : List ℕ) (o x : ℕ) → place g tags o ≡ Some x → heap_base ≤ x
place_above g tags o x e = (from_above g heap_base tags o x e).0

pub place_there : (g : Ground) (tags : List ℕ) (o x : ℕ) → place g tags o ≡ Some x → o < length tags
place_there g tags o x e = (from_above g heap_base tags o x e).2

module _ (g : Ground) (k : Active) (tags : List ℕ) where
  abbrev NodeOf : Thing → (c b : ℕ) → DataTree → Type 0
  NodeOf (Variable a o v) c b s = VariableNode g.packed (trees g k tags a o) v c b s
  NodeOf _ c b s = ⊥

  abbrev BeginsAt : Thing → ℕ → Type 0
  BeginsAt (Variable a o v) x = start g k tags a o v ≡ Some x
  BeginsAt _ x = ⊥

  -- what stands where a node does is its variable
  pub node_lies : (a : Area) (o v c b x : ℕ) (s : DataTree) → VariableNode g.packed (trees g k tags a o) v c b s → start g k tags a o v ≡ Some x
      → (n : ℕ) × Lies g k tags (Variable a o v) x n × (b + tree_bytes g.packed s ≤ n)
  node_lies a o v c b x s node at = let f = variable_fits g.packed (trees g k tags a o) v c b s node in (tree_bytes g.packed f.0, (f.0, f.1, at, refl), f.2)

  -- a cell's scalar has one place
  pub same_spot : (a : Area) (o v c b x : ℕ) (f : Form) (w d e y : ℕ) (h : Form) → VariableNode g.packed (trees g k tags a o) v c b (Scalar f) → start g k tags a o v ≡ Some x
      → VariableNode g.packed (trees g k tags a o) w d e (Scalar h) → start g k tags a o w ≡ Some y → c ≡ d → x + b ≡ y + e
  same_spot a o v c b x f w d e y h n at m to same =
      ⊎_elim
      (λ (z : (v ≡ w) × Meet g.packed c b (Scalar f) d e (Scalar h)).
      ⊎_elim
      (λ (i : (c ≡ d) × (b ≡ e) × (Scalar f ≡ Scalar h)).
      let xy : x ≡ y = some_same x y (sym at ∙ ap (λ v. start g k tags a o v) z.0 ∙ to) in
      let be = i.1 in
      omega (arith, xy, be))
      (λ (i : LieApart g.packed c b (Scalar f) d e (Scalar h)). absurd (nowhere i))
      (same_levels g.packed c b (Scalar f) d e (Scalar h) refl z.1))
      (λ z. absurd (elsewhere z))
      (variables_meet g.packed (trees g k tags a o) v c b (Scalar f) w d e (Scalar h) n m)
    where
      nowhere : LieApart g.packed c b (Scalar f) d e (Scalar h) → ⊥
      nowhere (inl i) = let lt = i.0 in omega (arith, lt, same)
      nowhere (inr i) = let lt = i.0 in omega (arith, lt, same)

      elsewhere : ((v < w) × (c + tree_cells (Scalar f) ≤ d)) ⊎ ((w < v) × (d + tree_cells (Scalar h) ≤ c)) → ⊥
      elsewhere (inl i) = let lt = i.1 in omega (arith, lt, same)
      elsewhere (inr i) = let lt = i.1 in omega (arith, lt, same)

  -- and a cell one variable
  pub same_variable : (a : Area) (o v c b : ℕ) (f : Form) (w d e : ℕ) (h : Form) → VariableNode g.packed (trees g k tags a o) v c b (Scalar f) → VariableNode g.packed (trees g k tags a o) w d e (Scalar h) → c ≡ d → v ≡ w
  same_variable a o v c b f w d e h n m same =
      ⊎_elim (λ z. z.0) (λ z. absurd (elsewhere z)) (variables_meet g.packed (trees g k tags a o) v c b (Scalar f) w d e (Scalar h) n m)
    where
      elsewhere : ((v < w) × (c + tree_cells (Scalar f) ≤ d)) ⊎ ((w < v) × (d + tree_cells (Scalar h) ≤ c)) → ⊥
      elsewhere (inl i) = let lt = i.1 in omega (arith, lt, same)
      elsewhere (inr i) = let lt = i.1 in omega (arith, lt, same)

  module _ (room : Room g k tags) where
    pub next_ends : next g tags ≤ heap_base + 8 * heap_words
    next_ends = let a = next_few g tags in let b = room.heap_few in omega (arith, a, b)

    -- two nodes of as many levels
    pub one_or_apart : (a : Area) (o v c b x : ℕ) (s : DataTree) (p : Area) (q w d e y : ℕ) (u : DataTree) → tree_levels s ≡ tree_levels u
        → VariableNode g.packed (trees g k tags a o) v c b s → start g k tags a o v ≡ Some x → VariableNode g.packed (trees g k tags p q) w d e u → start g k tags p q w ≡ Some y
        → ((a ≡ p) × (o ≡ q) × (c ≡ d) × (x + b ≡ y + e) × (s ≡ u)) ⊎ Sides (x + b) (tree_bytes g.packed s) (y + e) (tree_bytes g.packed u)
    one_or_apart a o v c b x s p q w d e y u levels n at m to =
        let i = node_lies a o v c b x s n at in
        let j = node_lies p q w d e y u m to in
        ⊎_elim
        (λ (same : Variable a o v ≡ Variable p q w).
        let there : VariableNode g.packed (trees g k tags a o) v d e u = subst (λ t. NodeOf t d e u) (sym same) m in
        let begins : start g k tags a o v ≡ Some y = subst (λ t. BeginsAt t y) (sym same) to in
        of_one (key_parts same).0 (key_parts same).1 (some_same x y (sym at ∙ begins)) (variables_meet g.packed (trees g k tags a o) v c b s v d e u n there))
        (λ (far : Sides x i.0 y j.0). inr (of_two i.0 j.0 far i.2 j.2))
        (room.apart (Variable a o v) (Variable p q w) x i.0 y j.0 i.1 j.1)
      where
        of_one : a ≡ p → o ≡ q → x ≡ y → ((v ≡ v) × Meet g.packed c b s d e u) ⊎ (((v < v) × (c + tree_cells s ≤ d)) ⊎ ((v < v) × (d + tree_cells u ≤ c)))
            → ((a ≡ p) × (o ≡ q) × (c ≡ d) × (x + b ≡ y + e) × (s ≡ u)) ⊎ Sides (x + b) (tree_bytes g.packed s) (y + e) (tree_bytes g.packed u)
        of_one ap_ oq xy (inl z) =
            ⊎_elim
            (λ (h : (c ≡ d) × (b ≡ e) × (s ≡ u)). let be = h.1 in inl (ap_, oq, h.0, omega (arith, xy, be), h.2))
            (λ (h : LieApart g.packed c b s d e u). inr (lies xy h))
            (same_levels g.packed c b s d e u levels z.1)
          where
            lies : x ≡ y → LieApart g.packed c b s d e u → Sides (x + b) (tree_bytes g.packed s) (y + e) (tree_bytes g.packed u)
            lies xy (inl h) = let le = h.1 in inl (omega (arith, xy, le))
            lies xy (inr h) = let le = h.1 in inr (omega (arith, xy, le))
        of_one ap_ oq xy (inr (inl z)) = let lt = z.0 in absurd (omega (arith, lt))
        of_one ap_ oq xy (inr (inr z)) = let lt = z.0 in absurd (omega (arith, lt))

        of_two : (i j : ℕ) → Sides x i y j → b + tree_bytes g.packed s ≤ i → e + tree_bytes g.packed u ≤ j → Sides (x + b) (tree_bytes g.packed s) (y + e) (tree_bytes g.packed u)
        of_two i j (inl h) f z = inl (omega (arith, h, f))
        of_two i j (inr h) f z = inr (omega (arith, h, z))

    -- a node, and another thing than its variable
    pub node_apart : (a : Area) (o v c b x : ℕ) (s : DataTree) → VariableNode g.packed (trees g k tags a o) v c b s → start g k tags a o v ≡ Some x
        → (t : Thing) (y n : ℕ) → Lies g k tags t y n → (t ≡ Variable a o v → ⊥) → Sides y n (x + b) (tree_bytes g.packed s)
    node_apart a o v c b x s node at t y n lies other =
        let i = node_lies a o v c b x s node at in
        ⊎_elim (λ (e : t ≡ Variable a o v). absurd (other e)) (λ (far : Sides y n x i.0). by i.0 i.2 far) (room.apart t (Variable a o v) y n x i.0 lies i.1)
      where
        by : (i : ℕ) → b + tree_bytes g.packed s ≤ i → Sides y n x i → Sides y n (x + b) (tree_bytes g.packed s)
        by i f (inl h) = inl (omega (arith, h))
        by i f (inr h) = inr (omega (arith, h, f))

    -- a node lies below what is free
    pub node_below : (a : Area) (o v c b x : ℕ) (s : DataTree) → VariableNode g.packed (trees g k tags a o) v c b s → start g k tags a o v ≡ Some x
        → (x + b + tree_bytes g.packed s ≤ k.local) ⊎ ((heap_base ≤ x + b) × (x + b + tree_bytes g.packed s ≤ next g tags))
    node_below a o v c b x s node at =
        let i = node_lies a o v c b x s node at in let f = i.2 in
        ⊎_elim
        (λ (h : x + i.0 ≤ k.local). inl (omega (arith, h, f)))
        (λ (h : (heap_base ≤ x) × (x + i.0 ≤ next g tags)). let low = h.0 in let high = h.1 in inr (omega (arith, low), omega (arith, high, f)))
        (room.below (Variable a o v) x i.0 i.1)

    -- a scalar is one of a node's, or shares no byte with it
    pub scalar_or_apart : (a : Area) (o v c b x : ℕ) (s : DataTree) (p : Area) (q w d e y : ℕ) (f : Form) → VariableNode g.packed (trees g k tags a o) v c b s → start g k tags a o v ≡ Some x
        → VariableNode g.packed (trees g k tags p q) w d e (Scalar f) → start g k tags p q w ≡ Some y
        → ((a ≡ p) × (o ≡ q) × ((i : ℕ) × (j : ℕ) × Node g.packed s i j (Scalar f) × (d ≡ c + i) × (y + e ≡ x + b + j))) ⊎ Sides (y + e) (tree_bytes g.packed (Scalar f)) (x + b) (tree_bytes g.packed s)
    scalar_or_apart a o v c b x s p q w d e y f n at m to =
        let i = node_lies a o v c b x s n at in
        let j = node_lies p q w d e y (Scalar f) m to in
        ⊎_elim
        (λ (same : Variable a o v ≡ Variable p q w).
        let there : VariableNode g.packed (trees g k tags a o) v d e (Scalar f) = subst (λ t. NodeOf t d e (Scalar f)) (sym same) m in
        let begins : start g k tags a o v ≡ Some y = subst (λ t. BeginsAt t y) (sym same) to in
        of_one (key_parts same).0 (key_parts same).1 (some_same x y (sym at ∙ begins)) (variables_meet g.packed (trees g k tags a o) v c b s v d e (Scalar f) n there))
        (λ (far : Sides x i.0 y j.0). inr (of_two i.0 j.0 far i.2 j.2))
        (room.apart (Variable a o v) (Variable p q w) x i.0 y j.0 i.1 j.1)
      where
        of_one : a ≡ p → o ≡ q → x ≡ y → ((v ≡ v) × Meet g.packed c b s d e (Scalar f)) ⊎ (((v < v) × (c + tree_cells s ≤ d)) ⊎ ((v < v) × (d + tree_cells (Scalar f) ≤ c)))
            → ((a ≡ p) × (o ≡ q) × ((i : ℕ) × (j : ℕ) × Node g.packed s i j (Scalar f) × (d ≡ c + i) × (y + e ≡ x + b + j))) ⊎ Sides (y + e) (tree_bytes g.packed (Scalar f)) (x + b) (tree_bytes g.packed s)
        of_one area object xy (inl z) = meets z.1
          where
            meets : Meet g.packed c b s d e (Scalar f)
                → ((a ≡ p) × (o ≡ q) × ((i : ℕ) × (j : ℕ) × Node g.packed s i j (Scalar f) × (d ≡ c + i) × (y + e ≡ x + b + j))) ⊎ Sides (y + e) (tree_bytes g.packed (Scalar f)) (x + b) (tree_bytes g.packed s)
            meets (inl (inl h)) = let byte = h.4 in inl (area, object, (h.0, h.1, h.2, h.3, omega (arith, xy, byte)))
            meets (inl (inr h)) =
                let i = h.2.0 in let j = h.2.1 in let cell = h.3 in let byte = h.4 in
                inl (area, object, (0, 0, subst (λ t. Node g.packed t 0 0 (Scalar f)) (sym h.2.2) (node_self g.packed (Scalar f)), omega (arith, i, cell), omega (arith, j, byte, xy)))
            meets (inr (inl h)) = let le = h.1 in inr (inr (omega (arith, xy, le)))
            meets (inr (inr h)) = let le = h.1 in inr (inl (omega (arith, xy, le)))
        of_one area object xy (inr (inl z)) = let lt = z.0 in absurd (omega (arith, lt))
        of_one area object xy (inr (inr z)) = let lt = z.0 in absurd (omega (arith, lt))

        of_two : (i j : ℕ) → Sides x i y j → b + tree_bytes g.packed s ≤ i → e + tree_bytes g.packed (Scalar f) ≤ j → Sides (y + e) (tree_bytes g.packed (Scalar f)) (x + b) (tree_bytes g.packed s)
        of_two i j (inl h) f z = inr (omega (arith, h, f))
        of_two i j (inr h) f z = inl (omega (arith, h, z))
