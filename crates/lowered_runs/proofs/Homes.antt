-- Scalar variables: read and assigned, in a register or in memory.
use Rattle.std.proofs.Common.{◌≡◌, ◌≢◌, ℕ, zero, suc, ◌<◌, ◌≤◌, ◌⊎◌, List, [], ◌∷◌, length, Bool, true, false, cond, slice_index, slice_get, slice_set, ⊎_elim, inl, inr, refl, sym, ap, ap₂, ◌∙◌, subst, arith, Option, Some, None}
use Rattle.std.specs.Prelude.{if◌then◌else◌, sum_by, ◌-◌, ◌++◌}
use Rattle.std.proofs.lemmas.Bool.{cases_eq}
use Rattle.run_laws.specs.Turns.{Gives, Fails, after, ◌>>=◌, look, change}
use Rattle.run_laws.specs.Turns.{State as At}
use Rattle.run_laws.proofs.Reached.{loosen}
use Rattle.a64_memory.specs.Memory.{covers, loaded1, loaded8, stored1, stored8}
use Rattle.a64_memory.specs.Memory.{Area as Region}
use Rattle.a64_memory.specs.Areas.{heap_words}
use Rattle.block_runs.specs.declared.code.Code.TheVariants.{Load, LoadByte, Store, StoreByte}
use Rattle.block_runs.specs.Effects.{Gives as Yields, Does, given_at, stored}
use Rattle.block_runs.specs.States.{Runs}
use Rattle.block_runs.specs.Points.{least}
use Rattle.ob_types.specs.Store.{Cell, Bits, Pointer, Frames, Address, Handed, Senseless, Act, given, fetch, put, place, objects, with_objects, cell_of, cell_put, can_write}
use Rattle.ob_types.specs.Forms.{Form}
use Rattle.ob_types.specs.Trees.{Scalar, scalar_bytes}
use Rattle.ob_types.specs.Store.{Store as Objects, Code as Procedure}
use Rattle.ob_types.specs.Expressions.{load}
use Rattle.ob_types.specs.Statements.{assign}
use Rattle.ob_sound.proofs.Typed.{written, input_stays}
use Rattle.ssa_lowered.specs.Pieces.{Cursor, Low, Mask, fetched}
use Rattle.ssa_lowered.specs.Values.{Home, Register, Memory, current, load as lower_load, change as lower_change}
use Rattle.ssa_lowered.specs.Statements.{assign as lower_assign}
use Rattle.object_nodes.specs.AtOnce.{with_cell}
use Rattle.object_nodes.specs.Nodes.{VariableNode}
use Rattle.object_bytes.specs.Objects.{limit}
use Rattle.object_bytes.specs.Objects.{load as load_by, store as store_by}
use Rattle.held_stores.specs.Places.{next, object_cells, start, trees}
use Rattle.held_stores.specs.Held.{takes_byte}
use Rattle.held_stores.proofs.Pieces.{same_variable}
use Rattle.held_stores.proofs.Stores.{later_put, put_apart, put_there, stands_covered, store_held, tags_put}
use Rattle.held_stores.proofs.Stores.{load_is as cell_loaded}
use Rattle.lowered_runs.specs.Words.{Whole, Level, Right, ground, active, ValueIs, Held, Later, AddressIs, local, Apart}
use Rattle.lowered_runs.proofs.Stores.{some_same, later_refl, later_on, address_later, value_few}
use Rattle.lowered_runs.proofs.Values.{put_here, under_at, under_set, size_set, set_else, off_refl}
use Rattle.lowered_runs.proofs.Ready.{position, system, world_of, frame_at, Goes, Came_to, ready_more}
use Rattle.lowered_runs.proofs.Follows.{Fact, And as Both, Steady, steady_and, Grows, grows_bind, grows_emits, grows_does, Follows, FollowsTo, Done, follows_bind, follows_known, follows_emits, follows_does, acts_give, effect_at, acts_senseless, effect_at, goes_here, goes_senseless}
use Rattle.lowered_runs.proofs.Exprs.{CellIs}
use Rattle.held_stores.proofs.Stores.{some_none}

-- what a fetch and a put come to

pub fetching : (a : Address) (s : At Objects) → ((c : Cell) × (fetch a s ≡ Gives c s) × (cell_of (objects a.area s.store) a.object a.cell ≡ Some c)) ⊎ (fetch a s ≡ Fails Senseless s.out)
fetching a s = by (cell_of (objects a.area s.store) a.object a.cell) refl
  where
    by : (o : Option Cell) → cell_of (objects a.area s.store) a.object a.cell ≡ o → ((c : Cell) × (fetch a s ≡ Gives c s) × (cell_of (objects a.area s.store) a.object a.cell ≡ Some c)) ⊎ (fetch a s ≡ Fails Senseless s.out)
    by None e = inr (ap (λ o. given o s) e)
    by (Some c) e = inl (c, ap (λ o. given o s) e, e)

abbrev pub changed : Address → Cell → At Objects → At Objects
changed a v s = record s { store = with_cell a v s.store }

abbrev pub Putting : Address → Cell → At Objects → Type 0
Putting a v s = ((old : Cell) × (put a v s ≡ Gives tt (changed a v s)) × (cell_of (objects a.area s.store) a.object a.cell ≡ Some old) × (can_write a.area ≡ true)) ⊎ (put a v s ≡ Fails Senseless s.out)

abbrev then_put : Address → Cell → Cell → Act (Unit {0})
then_put a v old = look (objects a.area) >>= λ all. if can_write a.area then change (with_objects a.area (cell_put all a.object a.cell v)) else (λ s. Fails Senseless s.out)

pub putting : (a : Address) (v : Cell) (s : At Objects) → Putting a v s
putting a v s = by (cell_of (objects a.area s.store) a.object a.cell) refl (can_write a.area) refl
  where
    by : (o : Option Cell) → cell_of (objects a.area s.store) a.object a.cell ≡ o → (b : Bool) → can_write a.area ≡ b → Putting a v s
    by None e b w = inr (ap (λ o. after (given o s) (then_put a v)) e)
    by (Some old) e true w = inl (old, ap (λ o. after (given o s) (then_put a v)) e ∙ ap (λ b. (if b then change (with_objects a.area (cell_put (objects a.area s.store) a.object a.cell v)) else (λ s. Fails Senseless s.out)) s) w, e, w)
    by (Some old) e false w = inr (ap (λ o. after (given o s) (then_put a v)) e ∙ ap (λ b. (if b then change (with_objects a.area (cell_put (objects a.area s.store) a.object a.cell v)) else (λ s. Fails Senseless s.out)) s) w)

pub get_index : (xs : List ℕ) (x : ℕ) → x < length xs → slice_get xs x ≡ Some (slice_index xs x)
get_index [] x lt = absurd (omega (arith, lt))
get_index (y ∷ xs) zero lt = refl
get_index (y ∷ xs) (suc x) lt = get_index xs x (omega (arith, lt))

module _ (w : Whole) (l : Level) where
  -- what lowering has for a scalar variable; one in a register is the designator itself
  abbrev pub HomeIs : Mask → Bool → Address → Home → Fact
  HomeIs own small a (Register x) n f s = (a ≡ local l x) × (x < l.count) × (l.in_register x ≡ true) × (own x ≡ true)
  HomeIs own small a (Memory i b) n f s = (i < n) × ((form : Form) × (b ≡ small) × (small ≡ takes_byte (ground w) form) × AddressIs w l a (Scalar form) (f i) s)

  pub steady_home : (own : Mask) (small : Bool) (a : Address) (h : Home) → Steady w l (HomeIs own small a h)
  steady_home own small a (Register x) = record { by = λ n m f g s t le same later h. h }
  steady_home own small a (Memory i b) = record {
    by = λ n m f g s t le same later h.
        let lt = h.0 in (omega (arith, le, lt), (h.1.0, h.1.1, h.1.2, subst (λ x. AddressIs w l a (Scalar h.1.0) x t) (sym (same i h.0)) (address_later w l a (Scalar h.1.0) (f i) s t later h.1.3)));
  }

  grows_fetched : (c : Cursor) (o : Option ℕ) → c.values ≤ (fetched o c).after.values
  grows_fetched c None = omega arith
  grows_fetched c (Some v) = omega arith

  pub grows_current : (h : Home) → Grows w l (current h)
  grows_current (Register x) = record { by = λ c. grows_fetched c (slice_get c.env x) }
  grows_current (Memory i small) = grows_emits w l _ _

  pub grows_change : (h : Home) (v : ℕ) → Grows w l (lower_change h v)
  grows_change (Register x) v = record { by = λ c. omega arith }
  grows_change (Memory a small) v = grows_does w l _ _

  -- what the system loads and stores by a width
  loading : (b : Bool) (f : ℕ → ℕ) (m : List Region) (s : Objects) (i : ℕ) → covers m (f i) (scalar_bytes b) ≡ true → effect_at w l f m s (if b then LoadByte else Load) (i ∷ []) ≡ Yields (load_by b m (f i))
  loading true f m s i c = ap (λ t. given_at (f i) (cond t (Some (loaded1 m (f i))) None) Yields) c
  loading false f m s i c = ap (λ t. given_at (f i) (cond t (Some (loaded8 m (f i))) None) Yields) c

  pub storing : (b : Bool) (f : ℕ → ℕ) (m : List Region) (s : Objects) (y i : ℕ) → covers m (f y) (scalar_bytes b) ≡ true → effect_at w l f m s (if b then StoreByte else Store) (y ∷ i ∷ []) ≡ Does [] (record (world_of w l m s) { memory = store_by b m (f y) (f i) }) 0
  storing true f m s y i c = ap (λ t. stored (world_of w l m s) (f y) (cond t (Some (stored1 m (f y) (f i))) None)) c
  storing false f m s y i c = ap (λ t. stored (world_of w l m s) (f y) (cond t (Some (stored8 m (f y) (f i))) None)) c

  -- the present value
  pub follows_current : {need fuel : ℕ} {mask : Mask} {K : Fact} (own : Mask) (small : Bool) (a : Address) (h : Home) → Follows w l need fuel mask (Both K (HomeIs own small a h)) (CellIs w l) (fetch a) (current h)
  follows_current {mask = mask} {K = K} own small a (Register x) = record {
    grows = grows_current (Register x);
    by = λ most g c f s room free le needs few stands fits within known typed r. ⊎_elim
        (λ (z : (v : Cell) × (fetch a s ≡ Gives v s) × (cell_of (objects a.area s.store) a.object a.cell ≡ Some v)).
        let e = r.size in
        let lt = known.1.1 in
        let u = slice_index c.env x in
        let there = get_index c.env x (omega (arith, lt, e)) in
        let empty = ap (λ o. fetched o c) there in
        subst (λ d. Goes w (fetch a s) (Done w l (CellIs w l) mask most g c d s.store f free)) (sym empty)
        (goes_here w l (fetch a s) z.0 s z.1 (record {
          values = f;
          ready = ready_more w l most g free r (omega arith) (omega arith) (λ h. let y = fits h in omega (arith, y));
          later = later_refl w l s.store;
          is = (
            under_at c.values c.env x (omega (arith, lt, e)) r.under,
            r.registers x known.1.1 known.1.2 z.0 (sym (ap (λ (t : Address). cell_of (objects t.area s.store) t.object t.cell) known.1.0) ∙ z.2),
          );
          same = λ u lt. refl;
          off = off_refl mask c.env;
          typed = typed;
        })))
        (λ (z : fetch a s ≡ Fails Senseless s.out). goes_senseless w l (fetch a s) s.out z)
        (fetching a s);
  }
  follows_current {K = K} own small a (Memory i b) = follows_emits w l (if b then LoadByte else Load) (i ∷ [])
      (λ n f m s held known. ⊎_elim
      (λ (z : (v : Cell) × (fetch a s ≡ Gives v s) × (cell_of (objects a.area s.store) a.object a.cell ≡ Some v)).
      let form = known.1.1.0 in
      let at = known.1.1.3 in
      let same = known.1.1.1 ∙ known.1.1.2 in
      let cover = stands_covered (ground w) (active l) s.store m a (Scalar form) (f i) held at in
      let x = load_by (takes_byte (ground w) form) m (f i) in
      acts_give w l z.0 x held z.1 (ap (λ (b : Bool). effect_at w l f m s.store (if b then LoadByte else Load) (i ∷ [])) same ∙ loading (takes_byte (ground w) form) f m s.store i cover)
      (omega arith, subst (λ y. ValueIs w s.store.tags z.0 y) (sym (put_here n x f)) (cell_loaded (ground w) (active l) s.store m a form (f i) z.0 held at z.2)))
      (λ (z : fetch a s ≡ Fails Senseless s.out). acts_senseless w l z)
      (fetching a s))

  pub follows_load : {need fuel : ℕ} {mask : Mask} {K : Fact} (own : Mask) (small : Bool) (d : Act Handed) {q : Low Home} → Steady w l K → Follows w l need fuel mask K (HomeIs own small) (place d) q → Follows w l need fuel mask K (CellIs w l) (load d) (lower_load q)
  follows_load own small d steady one = follows_bind w l steady one (λ h. grows_current h) (λ a h. follows_current own small a h)

module _ (w : Whole) (l : Level) where
  abbrev pub Nothing_more : Unit {0} → Unit {0} → Fact
  Nothing_more u v n f s = Unit {0}

  true_false : true ≡ false → ⊥
  true_false e = cc

  index_set : (xs : List ℕ) (x n : ℕ) → x < length xs → slice_index (slice_set xs x n) x ≡ n
  index_set [] x n lt = absurd (omega (arith, lt))
  index_set (y ∷ xs) zero n lt = refl
  index_set (y ∷ xs) (suc x) n lt = index_set xs x n (omega (arith, lt))

  -- a value that is stored by a width
  abbrev pub IsNarrow : Bool → Cell → Type 0
  IsNarrow true (Bits n) = n < 256
  IsNarrow true _ = ⊥
  IsNarrow false c = Unit {0}

  pub narrow_bits : (small : Bool) (n : ℕ) → n < 256 → IsNarrow small (Bits n)
  narrow_bits true n lt = lt
  narrow_bits false n lt = tt

  narrow_few : (right : Right w) (small : Bool) (s : Objects) (m : List Region) (c : Cell) (x : ℕ) → Held w l s m → ValueIs w s.tags c x → IsNarrow small c → x < limit small
  narrow_few right true s m (Bits n) x held h lt = let e = h.0 in omega (arith, e, lt)
  narrow_few right true s m (Pointer o) x held h lt = absurd lt
  narrow_few right true s m (Procedure f) x held h lt = absurd lt
  narrow_few right false s m c x held h lt = value_few w l right s m c x held h

  -- a cell that was written, or another one
  own_cell : (s : Objects) (v : Cell) (a : Address) (x y : ℕ) (d : Cell) → a ≡ local l x → l.cell x ≢ l.cell y → cell_of (with_cell a v s).frames l.frame (l.cell y) ≡ Some d → cell_of s.frames l.frame (l.cell y) ≡ Some d
  own_cell s v a x y d is ne it = elim (written s a.area a.object a.cell v Frames l.frame (l.cell y)) [
    | inl h ↦ absurd (ne (sym (ap (λ t. t.cell) is) ∙ h.2))
    | inr e ↦ sym e ∙ it
  ]

  -- what stands in memory is no variable that stands in none
  not_slot : (s : Objects) (a : Address) (form : Form) (x o v c b : ℕ) (f : Form) → AddressIs w l a (Scalar form) x s → VariableNode w.packed (trees (ground w) (active l) s.tags Frames o) v c b (Scalar f) → l.slot o v ≡ None → a.area ≡ Frames → a.object ≡ o → a.cell ≡ c → ⊥
  not_slot s a form x o v c b f at node none area object cell =
      let here = subst (λ e. VariableNode w.packed (trees (ground w) (active l) s.tags e o) v c b (Scalar f)) (sym area) node in
      let there = subst (λ e. VariableNode w.packed (trees (ground w) (active l) s.tags a.area e) at.variable a.cell at.byte (Scalar form)) object at.node in
      let one = same_variable (ground w) (active l) s.tags a.area o at.variable a.cell at.byte form v c b f there here cell in
      some_none at.begins (ap (λ e. start (ground w) (active l) s.tags e a.object at.variable) area ∙ ap₂ l.slot object one ∙ none)

  pub other_cell : (apart : Apart w l) (s : Objects) (v : Cell) (a : Address) (form : Form) (x y : ℕ) (d : Cell) → AddressIs w l a (Scalar form) x s → y < l.count → l.in_register y ≡ true → cell_of (with_cell a v s).frames l.frame (l.cell y) ≡ Some d → cell_of s.frames l.frame (l.cell y) ≡ Some d
  other_cell apart s v a form x y d at lt reg it = elim (written s a.area a.object a.cell v Frames l.frame (l.cell y)) [
    | inl h ↦ (let own = apart.scalars y lt reg in absurd (not_slot s a form x l.frame y (l.cell y) 0 own.0 at own.1 (apart.registers y lt reg) h.0 h.1 h.2))
    | inr e ↦ sym e ∙ it
  ]

  pub later_stored : (s : Objects) (v : Cell) (a : Address) (form : Form) (x : ℕ) → AddressIs w l a (Scalar form) x s → Later w l s (with_cell a v s)
  later_stored s v a form x at = later_put (ground w) (active l) l.frame s a v (λ area lt u b f node none. not_slot s a form x a.object u a.cell b f at node none area refl refl)

  -- the store and its memory, with a new value; the world is as it was but for the memory
  pub world_put : (s : Objects) (m : List Region) (a : Address) (v : Cell) → record (world_of w l m s) { memory = m } ≡ world_of w l m (with_cell a v s)
  world_put s m a v =
      ap (λ (ts : List ℕ). record (world_of w l m s) { next = next (ground w) ts; free = heap_words - sum_by (object_cells (ground w)) ts }) (sym (tags_put (ground w) (active l) s a v))
      ∙ ap (λ xs. record (world_of w l m (with_cell a v s)) { input = xs }) (sym (input_stays s a.area (cell_put (objects a.area s) a.object a.cell v)))

  -- a new value
  pub follows_change : {need fuel : ℕ} {mask : Mask} {K : Fact} (right : Right w) (apart : Apart w l) (own : Mask) (small : Bool) (a : Address) (c : Cell) (h : Home) (v : ℕ) → ((x : ℕ) → own x ≡ true → l.in_register x ≡ true → mask x ≡ true)
      → ((n : ℕ) (f : ℕ → ℕ) (s : Objects) → K n f s → IsNarrow small c) → FollowsTo w l false need fuel mask (Both (Both K (HomeIs w l own small a h)) (CellIs w l c v)) Nothing_more (put a c) (lower_change h v)
  follows_change {mask = mask} {K = K} right apart own small a v (Register x) i masked narrow = record {
    grows = grows_change w l (Register x) i;
    by = λ most g c f s room free le needs few stands fits within known typed r. ⊎_elim
        (λ (z : (old : Cell) × (put a v s ≡ Gives tt (changed a v s)) × (cell_of (objects a.area s.store) a.object a.cell ≡ Some old) × (can_write a.area ≡ true)).
        let is = known.0.1.0 in
        let lt = known.0.1.1 in
        let reg = known.0.1.2 in
        let same = tags_put (ground w) (active l) s.store a v in
        let own = apart.scalars x lt reg in
        let node : VariableNode w.packed (trees (ground w) (active l) s.store.tags a.area a.object) x a.cell 0 (Scalar own.0) =
        subst (λ (t : Address). VariableNode w.packed (trees (ground w) (active l) s.store.tags t.area t.object) x t.cell 0 (Scalar own.0)) (sym is) own.1 in
        let off : start (ground w) (active l) s.store.tags a.area a.object x ≡ None = ap (λ (t : Address). start (ground w) (active l) s.store.tags t.area t.object x) is ∙ apart.registers x lt reg in
        let later = later_put (ground w) (active l) l.frame s.store a v (λ e less u b f n none. older (ap (λ t. t.object) is) less) in
        let size = r.size in
        goes_here w l (put a v s) tt (changed a v s) z.1 (record {
          values = f;
          ready = record {
            memory = r.memory;
            reached = subst (λ x. Came_to w most g s.turns s.out (Runs (frame_at l (position c) f) l.callers x) free) (world_put s.store r.memory a v)
                (loosen (system w) (least w.procedures) w.points w.first w.turns most g free r.reached (omega arith) (omega arith) (λ h. let y = fits h in omega (arith, y)));
            held = put_apart (ground w) (active l) s.store r.memory a v x 0 own.0 r.held node off;
            size = size_set c.env x i ∙ r.size;
            under = under_set c.values c.env x i r.under known.1.0;
            registers = λ y less in_reg d at. subst (λ k. ValueIs w k d (f (slice_index (slice_set c.env x i) y))) (sym same) (⊎_elim
                (λ (e : y ≡ x).
                let one : d ≡ v = some_same at (put_own s.store a v z.0 z.3 z.2 (l.cell y) (ap (λ t. t.object) is) (ap (λ t. t.cell) is ∙ ap l.cell (sym e)) (ap (λ t. t.area) is)) in
                subst (λ n. ValueIs w s.store.tags d (f n)) (sym (ap (slice_index (slice_set c.env x i)) e ∙ index_set c.env x i (omega (arith, lt, size))))
                (subst (λ u. ValueIs w s.store.tags u (f i)) (sym one) known.1.1))
                (λ (ne : y ≢ x).
                subst (λ n. ValueIs w s.store.tags d (f n)) (sym (set_else c.env x i y (λ e. ne (sym e))))
                (r.registers y less in_reg d (own_cell s.store v a x y d is (apart.cells x y (λ e. ne (sym e)) lt less reg in_reg) at)))
                (cases_eq y x));
            since = later_on w l l.store s.store (with_cell a v s.store) r.since later;
          };
          later = later;
          is = tt;
          same = λ u lt. refl;
          off = record { size = size_set c.env x i; at = λ y out. set_else c.env x i y (λ e. true_false (sym (masked x known.0.1.3 reg) ∙ ap mask e ∙ out)) };
          typed = tt;
        }))
        (λ (z : put a v s ≡ Fails Senseless s.out). goes_senseless w l (put a v s) s.out z)
        (putting a v s);
  }
    where
      older : a.object ≡ l.frame → a.object < l.frame → ⊥
      older e lt = absurd (omega (arith, e, lt))

      put_own : (s : Objects) (a : Address) (v old : Cell) → can_write a.area ≡ true → cell_of (objects a.area s) a.object a.cell ≡ Some old → (y : ℕ) → a.object ≡ l.frame → a.cell ≡ y → a.area ≡ Frames → cell_of (with_cell a v s).frames l.frame y ≡ Some v
      put_own s a v old may is y e f g = subst (λ b. cell_of (objects b (with_cell a v s)) l.frame y ≡ Some v) g (sym (ap₂ (λ p d. cell_of (objects a.area (with_cell a v s)) p d) e f) ∙ put_there s a v old may is)
  follows_change {K = K} right apart own small a v (Memory y b) i masked narrow = follows_does w l (if b then StoreByte else Store) (y ∷ i ∷ []) (λ n f m s held known. ⊎_elim
      (λ (z : (old : Cell) × (put a v s ≡ Gives tt (changed a v s)) × (cell_of (objects a.area s.store) a.object a.cell ≡ Some old) × (can_write a.area ≡ true)).
      let form = known.0.1.1.0 in
      let at = known.0.1.1.3 in
      let wide = takes_byte (ground w) form in
      let same = known.0.1.1.1 ∙ known.0.1.1.2 in
      let cover = stands_covered (ground w) (active l) s.store m a (Scalar form) (f y) held at in
      let few = subst (λ b. f i < limit b) known.0.1.1.2 (narrow_few right small s.store m v (f i) held known.1.1 (narrow n f s.store known.0.0)) in
      inl (record {
        a = tt;
        state = changed a v s;
        memory = store_by wide m (f y) (f i);
        bytes = [];
        x = 0;
        gives = z.1;
        does = inl (ap (λ (b : Bool). effect_at w l f m s.store (if b then StoreByte else Store) (y ∷ i ∷ [])) same ∙ storing w l wide f m s.store y i cover
            ∙ ap (λ z. Does [] z 0) (world_put s.store (store_by wide m (f y) (f i)) a v));
        turns = refl;
        out = append_none s.out;
        held = store_held (ground w) (active l) s.store m a form (f y) v z.0 (f i) held z.3 z.2 at known.1.1 few;
        later = later_stored s.store v a form (f y) at;
        registers = λ x lt reg d is. other_cell apart s.store v a form (f y) x d at lt reg is;
        is = tt;
        typed = λ t. tt;
      }))
      (λ (z : put a v s ≡ Fails Senseless s.out). acts_senseless w l z)
      (putting a v s))
    where
      append_none : (xs : List ℕ) → xs ≡ xs ++ []
      append_none [] = refl
      append_none (x ∷ xs) = ap (λ ys. x ∷ ys) (append_none xs)

  pub follows_assign : {need fuel : ℕ} {mask : Mask} {K : Fact} {x : Act Cell} {q : Low Home} {t : Low ℕ} (right : Right w) (apart : Apart w l) (own : Mask) (small : Bool) (d : Act Handed) → Steady w l K → ((x : ℕ) → own x ≡ true → l.in_register x ≡ true → mask x ≡ true)
      → Follows w l need fuel mask K (HomeIs w l own small) (place d) q → Follows w l need fuel mask K (λ c i. Both (CellIs w l c i) (λ n f s. IsNarrow small c)) x t → FollowsTo w l false need fuel mask K Nothing_more (assign d x) (lower_assign q t)
  follows_assign right apart own small d steady masked one two = follows_bind w l steady one
      (λ h. grows_bind w l two.grows (λ v. grows_change w l h v))
      (λ a h. follows_bind w l (steady_and w l steady (steady_home w l own small a h)) (follows_known w l (λ n f s k. k.0) two)
      (λ v. grows_change w l h v)
      (λ c v. follows_known w l {K = Both (Both (λ n f s. IsNarrow small c) (HomeIs w l own small a h)) (CellIs w l c v)} (λ n f s k. ((k.1.1, k.0.1), k.1.0)) (follows_change right apart own small a c h v masked (λ n f s k. k))))
