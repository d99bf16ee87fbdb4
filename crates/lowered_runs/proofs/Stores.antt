-- Stores and their memory in a call of a run, by the laws of stores in memory.
use Rattle.std.proofs.Common.{◌≡◌, ℕ, suc, ◌+◌, ◌*◌, ◌^◌, ◌<◌, ◌≤◌, inl, inr, List, [], ◌∷◌, map, length, Bool, true, false, cond, refl, ap, arith, Option, Some, None}
use Rattle.std.specs.Prelude.{nat_lt}
use Rattle.std.proofs.lemmas.Bool.{lt-ltb, ltb-true}
use Rattle.a64_memory.specs.Areas.{heap_base, heap_words}
use Rattle.a64_memory.specs.Memory.{Area as Region}
use Rattle.ob_types.specs.Store.{Cell, Bits, Pointer, Code, Address, Store}
use Rattle.ob_types.specs.Trees.{DataTree, tree_bytes}
use Rattle.held_stores.specs.Places.{place, TagOf}
use Rattle.held_stores.proofs.Pieces.{node_below, next_ends, place_above}
use Rattle.held_stores.proofs.Stores
use Rattle.lowered_runs.specs.Words.{Whole, Level, Right, ground, active, ValueIs, Held, Later, AddressIs}

pub some_same : {A : Type 0} {x y : A} {o : Option A} → o ≡ Some x → o ≡ Some y → x ≡ y
some_same e f = cc

pub map_length : {A : Type 0} (all : List (List A)) → length (map length all) ≡ length all
map_length [] = refl
map_length (cs ∷ all) = ap suc (map_length all)

module _ (w : Whole) (l : Level) where
  pub later_refl : (s : Store) → Later w l s s
  later_refl s = Stores.later_refl (ground w) (active l) l.frame s

  pub later_on : (s t u : Store) → Later w l s t → Later w l t u → Later w l s u
  later_on s t u a b = Stores.later_on (ground w) (active l) l.frame s t u a b

  -- values and addresses stay what they are
  pub value_later : (s t : Store) (c : Cell) (x : ℕ) → Later w l s t → ValueIs w s.tags c x → ValueIs w t.tags c x
  value_later s t c x later h = Stores.value_later (ground w) (active l) s t l.frame c x later h

  pub address_later : (a : Address) (t : DataTree) (x : ℕ) (s u : Store) → Later w l s u → AddressIs w l a t x s → AddressIs w l a t x u
  address_later a t x s u later at = Stores.stands_later (ground w) (active l) s u l.frame a t x later at

  -- addresses are numbers of 64 bits, far from the last one
  pub address_few : (s : Store) (m : List Region) (a : Address) (t : DataTree) (x : ℕ) → Held w l s m → AddressIs w l a t x s → x + tree_bytes w.packed t < 2 ^ 63
  address_few s m a t x h at =
      let top = next_ends (ground w) (active l) s.tags h.room in
      let ends = h.room.local_ends in let few = h.room.local_few in let is = at.is in
      elim (node_below (ground w) (active l) s.tags h.room a.area a.object at.variable a.cell at.byte at.from t at.node at.begins) [
        | inl low ↦ omega (arith, low, ends, few, is)
        | inr high ↦ (let le = high.1 in omega (arith, le, top, is))
      ]

-- the code of a procedure that is there
pub code_is : (w : Whole) (g x : ℕ) → (ground w).code g ≡ Some x → (g < length w.procedures) × (x ≡ w.code g)
code_is w g x e = by (nat_lt g (length w.procedures)) refl e
  where
    by : (b : Bool) → nat_lt g (length w.procedures) ≡ b → cond b (Some (w.code g)) None ≡ Some x → (g < length w.procedures) × (x ≡ w.code g)
    by true is e = (ltb-true g (length w.procedures) is, cc)
    by false is e = absurd (cc)

pub is_code : (w : Whole) (g : ℕ) → g < length w.procedures → (ground w).code g ≡ Some (w.code g)
is_code w g lt = ap (λ b. cond b (Some (w.code g)) None) (lt-ltb g (length w.procedures) lt)

module _ (w : Whole) (l : Level) where
  -- an object's tag lies in the heap
  pub object_below : (s : Store) (m : List Region) (o x : ℕ) → Held w l s m → place (ground w) s.tags o ≡ Some x → x + 8 ≤ heap_base + 8 * heap_words
  object_below s m o x held h =
      let above = place_above (ground w) s.tags o x h in
      let top = next_ends (ground w) (active l) s.tags held.room in
      let ends = held.room.local_ends in let few = held.room.local_few in
      elim (held.room.below (TagOf o) x 8 (h, refl)) [
        | inl low ↦ omega (arith, low, ends, few, above)
        | inr high ↦ (let le = high.1 in omega (arith, le, top))
      ]

  -- a value's number is one of 64 bits
  pub value_few : (right : Right w) (s : Store) (m : List Region) (c : Cell) (x : ℕ) → Held w l s m → ValueIs w s.tags c x → x < 2 ^ 64
  value_few right s m (Bits n) x held h = let e = h.0 in let lt = h.1 in omega (arith, e, lt)
  value_few right s m (Pointer o) x held h = let z = object_below s m o x held h in omega (arith, z)
  value_few right s m (Code g) x held h = let z = code_is w g x h in let lt = right.codes.few g z.0 in let e = z.1 in omega (arith, lt, e)
