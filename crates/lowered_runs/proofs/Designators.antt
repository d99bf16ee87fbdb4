-- What designators name, and its address.
use Rattle.std.proofs.Common.{◌≡◌, ℕ, zero, suc, ◌+◌, ◌<◌, ◌^◌, ◌⊎◌, List, [], ◌∷◌, Bool, true, false, not, slice_get, inl, inr, refl, sym, ap, ◌∙◌, subst, arith, Some}
use Rattle.std.specs.Prelude.{option_map}
use Rattle.run_laws.specs.Turns.{give}
use Rattle.a64_memory.specs.Memory.{Area}
use Rattle.wrapping_numbers.specs.Numbers.{add64, sub64}
use Rattle.a64_memory.specs.Areas.{data_base}
use Rattle.block_runs.specs.declared.code.Code.TheVariants.{Global, Plus, Local}
use Rattle.ob_types.specs.Forms.{Form, Small}
use Rattle.ob_types.specs.Layout.{kind_of, extends}
use Rattle.ob_types.specs.Trees.{DataTree, FieldRow, Empty, Scalar, Array, Record, data_tree, record_row}
use Rattle.ob_types.specs.Store.{Heap, Address, Handed, Sized, Tagged, Act, given, place, address_in}
use Rattle.ob_types.specs.Store.{Store as Objects, Pointer as PointerTo, At as Addressed}
use Rattle.ob_types.specs.WellFormed.{Cells, Of, OpenOf, Dynamic, Characters}
use Rattle.ob_types.specs.WellFormed.{Named as Thing}
use Rattle.ssa_lowered.specs.Pieces.{Low, Mask}
use Rattle.ssa_lowered.specs.Pieces.{give as gives}
use Rattle.ssa_lowered.specs.Values.{Named, At, Beside, Object, Held as InRegister, data_at, local_at, Register, Memory, home_in, home_of, address_in as lower_address}
use Rattle.ssa_lowered.specs.Values.{past as lower_past}
use Rattle.ssa_lowered.specs.Variables.{is_structured}
use Rattle.object_nodes.specs.Named.{heap_trees}
use Rattle.object_nodes.specs.Nodes.{Node, VariableNode}
use Rattle.object_nodes.proofs.Meeting.{variable_node}
use Rattle.held_stores.specs.Places.{trees}
use Rattle.held_stores.specs.Held.{takes_byte}
use Rattle.lowered_runs.specs.Words.{Whole, Level, ground, active, ValueIs, Held, AddressIs, local}
use Rattle.lowered_runs.proofs.Stores.{value_later, address_later, object_below}
use Rattle.lowered_runs.proofs.Values.{put_here}
use Rattle.lowered_runs.proofs.Follows.{Fact, And as Both, Steady, steady_and, Grows, grows_bind, grows_give, grows_emits, Follows, follows_bind, follows_give, follows_seen, follows_less, follows_result, follows_emits, follows_never, acts_give}
use Rattle.lowered_runs.proofs.Homes.{HomeIs}

module _ (w : Whole) (l : Level) where
  -- the tree of what is named: a record's by its dynamic type, an open array's by its length
  abbrev pub tree_of : Thing → Handed → DataTree
  tree_of (Cells f may) h = Scalar f
  tree_of (Of k may) h = data_tree w.program.types k
  tree_of (OpenOf e may) (Sized a n) = Array n (data_tree w.program.types e)
  tree_of (OpenOf e may) _ = Record Empty
  tree_of (Dynamic r) (Tagged a t) = Record (record_row w.program.types t)
  tree_of (Dynamic r) _ = Record Empty
  tree_of (Characters n) h = Array n (Scalar Small)

  -- a variable that is one cell
  abbrev pub is_single : Thing → Bool
  is_single (Of k may) = not (is_structured (kind_of w.program.types k))
  is_single _ = false

  -- a parameter's second word
  abbrev pub SecondIs : Handed → ℕ → Type 0
  SecondIs (Sized a n) y = y ≡ n
  SecondIs (Tagged a t) y = y ≡ w.descriptor t
  SecondIs _ y = ⊥

  -- it is named by its dynamic type
  abbrev pub IsDynamic : Thing → Type 0
  IsDynamic (Dynamic r) = Unit {0}
  IsDynamic _ = ⊥

  pub object_tree : (d : Thing) (h : Handed) (o t : ℕ) → h ≡ Tagged (record { area = Heap; object = o; cell = 0 }) t → IsDynamic d → Record (record_row w.program.types t) ≡ tree_of d h
  object_tree (Dynamic r) h o t is dynamic = sym (ap (tree_of (Dynamic r)) is)
  object_tree (Cells f may) h o t is dynamic = absurd dynamic
  object_tree (Of k may) h o t is dynamic = absurd dynamic
  object_tree (OpenOf e may) h o t is dynamic = absurd dynamic
  object_tree (Characters n) h o t is dynamic = absurd dynamic

  -- what lowering has for a designator; a variable in a register is the designator itself
  abbrev pub NamedIs : Mask → Thing → Handed → Named → Fact
  NamedIs own d h (At i) n f s = (i < n) × ((a : Address) × (h ≡ Addressed a) × AddressIs w l a (tree_of d h) (f i) s)
  NamedIs own d h (Beside i j) n f s = (i < n) × ((j < n) × ((a : Address) × (address_in h ≡ Some a) × AddressIs w l a (tree_of d h) (f i) s × SecondIs h (f j)))
  NamedIs own d h (Object i) n f s = (i < n) × ((o : ℕ) × (t : ℕ) × (h ≡ Tagged (record { area = Heap; object = o; cell = 0 }) t) × (slice_get s.tags o ≡ Some t) × ValueIs w s.tags (PointerTo o) (f i) × IsDynamic d)
  NamedIs own d h (InRegister x) n f s = (h ≡ Addressed (local l x)) × (x < l.count) × (l.in_register x ≡ true) × (own x ≡ true) × (is_single d ≡ true)

  pub steady_named : (own : Mask) (d : Thing) (h : Handed) (v : Named) → Steady w l (NamedIs own d h v)
  steady_named own d h (At i) = record {
    by = λ n m f g s t le same later k.
        let lt = k.0 in (omega (arith, le, lt), (k.1.0, k.1.1, subst (λ x. AddressIs w l k.1.0 (tree_of d h) x t) (sym (same i k.0)) (address_later w l k.1.0 (tree_of d h) (f i) s t later k.1.2)));
  }
  steady_named own d h (Beside i j) = record {
    by = λ n m f g s t le same later k.
        let lt = k.0 in let less = k.1.0 in
        (omega (arith, le, lt), (omega (arith, le, less), (k.1.1.0, k.1.1.1, subst (λ x. AddressIs w l k.1.1.0 (tree_of d h) x t) (sym (same i k.0)) (address_later w l k.1.1.0 (tree_of d h) (f i) s t later k.1.1.2), subst (λ y. SecondIs h y) (sym (same j k.1.0)) k.1.1.3)));
  }
  steady_named own d h (Object i) = record {
    by = λ n m f g s t le same later k.
        let lt = k.0 in
        (omega (arith, le, lt), (k.1.0, k.1.1, k.1.2, later.tag k.1.0 k.1.1 k.1.3, subst (λ x. ValueIs w t.tags (PointerTo k.1.0) x) (sym (same i k.0)) (value_later w l s t (PointerTo k.1.0) (f i) later k.1.4), k.1.5));
  }
  steady_named own d h (InRegister x) = record { by = λ n m f g s t le same later k. k }

  -- what goes with an address is as the designator's name says: a length has 32 bits, a dynamic type is an extension
  abbrev pub SecondFits : Thing → Handed → Type 0
  SecondFits (OpenOf e may) (Sized a n) = n < 2 ^ 32
  SecondFits (OpenOf e may) _ = ⊥
  SecondFits (Dynamic r) (Tagged a t) = extends w.program.types t r ≡ true
  SecondFits (Dynamic r) _ = ⊥
  SecondFits _ h = Unit {0}

  abbrev pub DesignatorIs : Mask → Thing → Handed → Named → Fact
  DesignatorIs own d h v = Both (NamedIs own d h v) (λ n f s. SecondFits d h)

  pub steady_designator : (own : Mask) (d : Thing) (h : Handed) (v : Named) → Steady w l (DesignatorIs own d h v)
  steady_designator own d h v = steady_and w l (steady_named own d h v) (record { by = λ n m f g s t le same later fits. fits })

  pub only_named : {need fuel : ℕ} {mask : Mask} {K : Fact} {x : Act Handed} {q : Low Named} {own : Mask} (d : Thing) → Follows w l need fuel mask K (DesignatorIs own d) x q → Follows w l need fuel mask K (NamedIs own d) x q
  only_named d one = follows_less w l (λ h v n f s k. k.0) one

  grows_past : (i n : ℕ) → Grows w l (lower_past i n)
  grows_past i zero = grows_give w l i
  grows_past i (suc n) = grows_emits w l _ _

  pub grows_address : (v : Named) (n : ℕ) → Grows w l (lower_address v n)
  grows_address (At i) n = grows_past i n
  grows_address (Beside i j) n = grows_past i n
  grows_address (Object i) n = grows_emits w l _ _
  grows_address (InRegister x) n = grows_emits w l _ _

  -- value i is the address of what has a tree
  abbrev pub RowIs : DataTree → Address → ℕ → Fact
  RowIs t a i n f s = (i < n) × AddressIs w l a t (f i) s

  pub steady_row : (t : DataTree) (a : Address) (i : ℕ) → Steady w l (RowIs t a i)
  steady_row t a i = record {
    by = λ n m f g s u le same later h.
        let lt = h.0 in (omega (arith, le, lt), subst (λ x. AddressIs w l a t x u) (sym (same i h.0)) (address_later w l a t (f i) s u later h.1));
  }

  -- an object's record stands behind its tag
  pub object_row : (s : Objects) (m : List Area) (o t x : ℕ) → Held w l s m → slice_get s.tags o ≡ Some t → ValueIs w s.tags (PointerTo o) x → AddressIs w l (record { area = Heap; object = o; cell = 0 }) (Record (record_row w.program.types t)) (add64 x 8) s
  object_row s m o t x held tag h = record {
    variable = 0;
    byte = 0;
    from = x + 8;
    node = subst (λ r. VariableNode w.packed (heap_trees w.program r) 0 0 0 (Record (record_row w.program.types t))) (sym tag) (inl (refl, refl, refl));
    begins = ap (option_map (λ y. y + 8)) h;
    is = let below = object_below w l s m o x held h in omega (arith, below);
  }

  -- a part at the beginning of what stands at an address
  pub begun_by : (a : Address) (t u : DataTree) (x : ℕ) (s : Objects) → Node w.packed t 0 0 u → AddressIs w l a t x s → AddressIs w l a u x s
  begun_by a t u x s node at = record {
    variable = at.variable;
    byte = at.byte + 0;
    from = at.from;
    node = variable_node w.packed (trees (ground w) (active l) s.tags a.area a.object) at.variable a.cell at.byte t 0 0 u a.cell at.node node (omega arith);
    begins = at.begins;
    is = let e = at.is in omega (arith, e);
  }

  -- the address of what is named
  pub follows_address : {need fuel : ℕ} {mask : Mask} {K : Fact} (own : Mask) (d : Thing) (h : Handed) (v : Named) → is_single d ≡ false ⊎ ((x : ℕ) → own x ≡ true → l.in_register x ≡ false) → Follows w l need fuel mask (Both K (NamedIs own d h v)) (RowIs (tree_of d h)) (given (address_in h)) (lower_address v 0)
  follows_address own d h (At i) many = follows_seen w l i (λ n f s m held typed known. inl (known.1.1.0, ap (λ x. given (address_in x) s) known.1.1.1, (known.1.0, known.1.1.2)))
  follows_address own d h (Beside i j) many = follows_seen w l i (λ n f s m held typed known. inl (known.1.1.1.0, ap (λ o. given o s) known.1.1.1.1, (known.1.0, known.1.1.1.2)))
  follows_address own d h (Object i) many = follows_emits w l (Plus (8 + 0)) (i ∷ []) (λ n f m s held known.
      let z = known.1.1 in
      acts_give w l (record { area = Heap; object = z.0; cell = 0 }) (add64 (f i) 8) held (ap (λ x. given (address_in x) s) z.2) refl
      (omega arith, subst (λ x. AddressIs w l (record { area = Heap; object = z.0; cell = 0 }) (tree_of d h) x s.store) (sym (put_here n (add64 (f i) 8) f)) (subst (λ t. AddressIs w l (record { area = Heap; object = z.0; cell = 0 }) t (add64 (f i) 8) s.store) (object_tree d h z.0 z.1 z.2 z.5) (object_row s.store m z.0 z.1 (f i) held z.3 z.4))))
  follows_address own d h (InRegister x) many = follows_never w l (λ n f s g. by many g.1) (grows_address (InRegister x) 0)
    where
      differ : true ≡ false → ⊥
      differ e = cc

      by : is_single d ≡ false ⊎ ((x : ℕ) → own x ≡ true → l.in_register x ≡ false) → (h ≡ Addressed (local l x)) × (x < l.count) × (l.in_register x ≡ true) × (own x ≡ true) × (is_single d ≡ true) → ⊥
      by (inl e) g = differ (sym g.4 ∙ e)
      by (inr e) g = differ (sym g.2 ∙ e x g.3)

  ---- Homes

  grows_home : (small : Bool) (v : Named) → Grows w l (home_in small v)
  grows_home small (At i) = grows_bind w l (grows_address (At i) 0) (λ a. grows_give w l (Memory a small))
  grows_home small (Beside i j) = grows_bind w l (grows_address (Beside i j) 0) (λ a. grows_give w l (Memory a small))
  grows_home small (Object i) = grows_bind w l (grows_address (Object i) 0) (λ a. grows_give w l (Memory a small))
  grows_home small (InRegister x) = grows_give w l (Register x)

  -- where a scalar variable is
  pub follows_home : {need fuel : ℕ} {mask : Mask} {K : Fact} {q : Low Named} (own : Mask) (small : Bool) (d : Thing) (x : Act Handed) (form : Form) → ((h : Handed) → tree_of d h ≡ Scalar form) → small ≡ takes_byte (ground w) form → Steady w l K → Follows w l need fuel mask K (NamedIs own d) x q → Follows w l need fuel mask K (HomeIs w l own small) (place x) (home_of q small)
  follows_home {need} {fuel} {mask} {K} own small d x form scalar width steady one = follows_bind w l steady one (λ v. grows_home small v) by
    where
      known_home : (h : Handed) (a : Address) (i n : ℕ) (f : ℕ → ℕ) (s : Objects) → RowIs (tree_of d h) a i n f s → HomeIs w l own small a (Memory i small) n f s
      known_home h a i n f s k = (k.0, (form, refl, width, subst (λ t. AddressIs w l a t (f i) s) (scalar h) k.1))

      none_dynamic : (d : Thing) → ((h : Handed) → tree_of d h ≡ Scalar form) → IsDynamic d → ⊥
      none_dynamic (Dynamic r) scalar dynamic = differ (scalar (Tagged (record { area = Heap; object = 0; cell = 0 }) 0))
        where
          differ : {r : FieldRow} → Record r ≡ Scalar form → ⊥
          differ e = cc
      none_dynamic (Cells f may) scalar dynamic = dynamic
      none_dynamic (Of k may) scalar dynamic = dynamic
      none_dynamic (OpenOf e may) scalar dynamic = dynamic
      none_dynamic (Characters n) scalar dynamic = dynamic

      by : (h : Handed) (v : Named) → Follows w l need fuel mask (Both K (NamedIs own d h v)) (HomeIs w l own small) (given (address_in h)) (home_in small v)
      by h (At i) = follows_result w l {R = RowIs (tree_of d h)} (λ a. Memory a small) (λ a i n f s k. known_home h a i n f s k) (follows_seen w l i (λ n f s m held typed known. inl (known.1.1.0, ap (λ x. given (address_in x) s) known.1.1.1, (known.1.0, known.1.1.2))))
      by h (Beside i j) = follows_result w l {R = RowIs (tree_of d h)} (λ a. Memory a small) (λ a i n f s k. known_home h a i n f s k) (follows_seen w l i (λ n f s m held typed known. inl (known.1.1.1.0, ap (λ o. given o s) known.1.1.1.1, (known.1.0, known.1.1.1.2))))
      by h (Object i) = follows_never w l (λ n f s g. none_dynamic d scalar g.1.1.5) (grows_home small (Object i))
      by h (InRegister x) = follows_seen w l (Register x) (λ n f s m held typed known. inl (local l x, ap (λ y. given (address_in y) s) known.1.0, (refl, known.1.1, known.1.2, known.1.3)))

  ---- Bases

  -- an address of the data
  pub follows_data : {need fuel : ℕ} {mask : Mask} {K : Fact} (own : Mask) (d : Thing) (a : Address) (offset : ℕ) → Steady w l K → ((s : Objects) → AddressIs w l a (tree_of d (Addressed a)) (data_base + offset) s) → Follows w l need fuel mask K (NamedIs own d) (give (Addressed a)) (data_at offset)
  follows_data {K = K} own d a offset steady at = follows_bind w l {m = give tt} {h = λ (u : Unit {0}). give (Addressed a)} steady
      (follows_emits w l {R = λ (u : Unit {0}) i. RowIs (tree_of d (Addressed a)) a i} (Global offset) [] (λ n f m s held known. acts_give w l tt (data_base + offset) held refl refl
      (omega arith, subst (λ x. AddressIs w l a (tree_of d (Addressed a)) x s.store) (sym (put_here n (data_base + offset) f)) (at s.store))))
      (λ i. grows_give w l (At i))
      (λ u i. follows_give w l (Addressed a) (At i) (λ n f s k. (k.1.0, (a, refl, k.1.1))))

  -- a variable in a register
  pub follows_register : {need fuel : ℕ} {mask : Mask} {K : Fact} (own : Mask) (d : Thing) (x : ℕ) → x < l.count → l.in_register x ≡ true → own x ≡ true → is_single d ≡ true → Follows w l need fuel mask K (NamedIs own d) (give (Addressed (local l x))) (gives (InRegister x))
  follows_register own d x lt reg mine single = follows_give w l (Addressed (local l x)) (InRegister x) (λ n f s k. (refl, lt, reg, mine, single))

  -- an address of the local data
  pub follows_local : {need fuel : ℕ} {mask : Mask} {K : Fact} (own : Mask) (d : Thing) (a : Address) (offset : ℕ) → Steady w l K → ((s : Objects) → AddressIs w l a (tree_of d (Addressed a)) (sub64 l.local offset) s) → Follows w l need fuel mask K (NamedIs own d) (give (Addressed a)) (local_at offset)
  follows_local {K = K} own d a offset steady at = follows_bind w l {m = give tt} {h = λ (u : Unit {0}). give (Addressed a)} steady
      (follows_emits w l {R = λ (u : Unit {0}) i. RowIs (tree_of d (Addressed a)) a i} (Local offset) [] (λ n f m s held known. acts_give w l tt (sub64 l.local offset) held refl refl
      (omega arith, subst (λ x. AddressIs w l a (tree_of d (Addressed a)) x s.store) (sym (put_here n (sub64 l.local offset) f)) (at s.store))))
      (λ i. grows_give w l (At i))
      (λ u i. follows_give w l (Addressed a) (At i) (λ n f s k. (k.1.0, (a, refl, k.1.1))))
