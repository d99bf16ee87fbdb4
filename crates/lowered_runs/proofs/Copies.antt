-- Copies of arrays and records: a turn at the beginning, and one for each cell, while bytes are moved.
use Rattle.std.proofs.Common.{◌≡◌, ℕ, zero, suc, ◌+◌, ◌*◌, ◌%◌, ◌^◌, ◌<◌, ◌≤◌, ◌⊎◌, inl, inr, List, [], ◌∷◌, length, Bool, true, false, refl, sym, ap, ap₂, ◌∙◌, subst, arith, slice_get, Option, Some, None}
use Rattle.std.specs.Prelude.{option_map, if◌then◌else◌, nat_le, slice_index_or}
use Rattle.std.proofs.lemmas.Bool.Decides.{nat_tests}
use Rattle.run_laws.specs.Runs.{Moves, weigh}
use Rattle.run_laws.specs.Turns.{Gives, give, ◌>>=◌}
use Rattle.run_laws.specs.Turns.{State as At}
use Rattle.run_laws.proofs.Reached.{pass_quiet, loosen}
use Rattle.run_laws.proofs.Comes.{comes_bind, comes_spend}
use Rattle.a64_memory.specs.Memory.{Area, covers, bytes_at, with_bytes}
use Rattle.a64_memory.proofs.Blocks.{covers-part, with_bytes-none_given}
use Rattle.a64_memory.proofs.Stores.{length-bytes_at}
use Rattle.wrapping_numbers.specs.Numbers.{mul64}
use Rattle.block_runs.specs.declared.code.Code.TheVariants.{Const, Mul, Copy, Fits}
use Rattle.block_runs.specs.Effects.{Gives as Yields, Fails as Refuses}
use Rattle.block_runs.specs.States.{Runs, Works, CopyHead, CopyCell, Point, In}
use Rattle.block_runs.specs.States.{At as In_routine, CopyAtHead, CopyAtCell, CopyAtTail}
use Rattle.block_runs.specs.Points.{least}
use Rattle.ob_types.specs.Forms.{Form, forms, joined}
use Rattle.ob_types.specs.Sense.{HasSense}
use Rattle.ob_types.specs.Store.{Cell, Address, Handed, Sized, Tagged, Value, Span, Act, given, past, place, address_in, span, spend_all, unless, cell_of, can_write}
use Rattle.ob_types.specs.Store.{Store as Objects, At as Addressed}
use Rattle.ob_types.specs.Statements.{Deed, copy, copy_cells, copy_array, copy_record}
use Rattle.ob_types.specs.Trees.{DataTree, Scalar, Array, tree_cells, tree_bytes, tree_forms}
use Rattle.ob_types.proofs.TreeBytes.{bytes_many, few_words}
use Rattle.ob_types.specs.WellFormed.{Named as Thing, Cells, Of, OpenOf, Dynamic, Characters, is_writable, lengths_fit}
use Rattle.ob_types.proofs.Tests.{no}
use Rattle.ob_types.specs.declared.program.Program.{Program}
use Rattle.ob_sound.proofs.Typed.{Names, names_older}
use Rattle.object_nodes.specs.AtOnce.{held_cell, with_copied}
use Rattle.object_nodes.specs.Nodes.{Node}
use Rattle.object_nodes.specs.Running.{forms_of_all}
use Rattle.object_nodes.proofs.Bodies.{node_copy, node_there}
use Rattle.object_nodes.proofs.Meeting.{tree_levels}
use Rattle.object_nodes.proofs.Scalars.{scalar_node}
use Rattle.object_nodes.proofs.Trees.{cells_forms}
use Rattle.held_stores.specs.Changes.{Begins}
use Rattle.held_stores.specs.Held.{StandsAt}
use Rattle.held_stores.proofs.Copies.{copy_held, begins_self, begins_array}
use Rattle.held_stores.proofs.Stores.{stands_apart, stands_covered, tags_put}
use Rattle.ssa_core.specs.declared.procedure.Op.{Op}
use Rattle.ssa_lowered.specs.Pieces.{Low, Mask, does}
use Rattle.ssa_lowered.specs.Pieces.{◌>>=◌ as ◌>>>◌}
use Rattle.ssa_lowered.specs.Values.{Named, const, length_in, bytes_in}
use Rattle.ssa_lowered.specs.Values.{address_in as lower_address}
use Rattle.ssa_lowered.specs.Statements.{fits}
use Rattle.ssa_lowered.specs.Statements.{copy_array as lower_array, copy_record as lower_record}
use Rattle.lowered_runs.specs.Words.{same_trap, Whole, Level, Right, Apart, ground, active, Held, Later, AddressIs}
use Rattle.lowered_runs.proofs.Stores.{later_refl, later_on, value_later, address_few}
use Rattle.lowered_runs.proofs.Values.{put_here, off_refl}
use Rattle.lowered_runs.proofs.Ready.{position, system, world_of, frame_at, runs_at, Goes, Came_to}
use Rattle.lowered_runs.proofs.Follows.{Fact, And as Both, Steady, steady_and, steady_fixed, Grows, grows_bind, grows_give, grows_emits, grows_does, Follows, FollowsTo, DoneTo, follows_bind, follows_less, follows_found, follows_seen, follows_known, follows_emits, follows_does, op_step, op_pays, Acts, acts_give, acts_trap, effect_at}
use Rattle.lowered_runs.proofs.Homes.{later_stored, other_cell, world_put, Nothing_more}
use Rattle.lowered_runs.proofs.Designators.{tree_of, is_single, SecondFits, follows_address, DesignatorIs, steady_designator, RowIs, steady_row, grows_address, begun_by}
use Rattle.lowered_runs.proofs.Elements.{ConstIs, steady_const, follows_const, LengthIn, SpanIs, steady_span, steady_length, span_by, spanned_same, follows_length_in, grows_length_in, part_at}
use Rattle.lowered_runs.proofs.Deeds.{follows_same_to}
use Rattle.lowered_runs.proofs.Forks.{after_after}
use Rattle.lowered_runs.proofs.Texts.{NamedText, steady_named_text, span_of, span_given, follows_carried}
use Rattle.lowered_runs.proofs.Sets.{follows_same}
use Rattle.lowered_runs.proofs.CopyLoops.{during, tail_over, copy_goes}

-- forms of the active calls' variables
forms_own : (p : Program) (vs : List (List ℕ)) (o : ℕ) → slice_index_or (forms_of_all p vs) o [] ≡ joined (forms p.types) (slice_index_or vs o [])
forms_own p [] o = refl
forms_own p (v ∷ vs) zero = refl
forms_own p (v ∷ vs) (suc o) = forms_own p vs o

some_at : (xs : List Form) (i : ℕ) → i < length xs → (f : Form) × (slice_get xs i ≡ Some f)
some_at [] i lt = absurd (omega (arith, lt))
some_at (x ∷ xs) zero lt = (x, refl)
some_at (x ∷ xs) (suc i) lt = some_at xs i (omega (arith, lt))

-- no byte is copied at first
nothing_copied : (m : List Area) (x y q : ℕ) → covers m y q ≡ true → with_bytes m x (bytes_at m y 0) ≡ m
nothing_copied m x y q cover = ap (with_bytes m x) (none (bytes_at m y 0) (length-bytes_at m y 0 (covers-part m y q y 0 cover (omega arith) (omega arith)))) ∙ with_bytes-none_given m x
  where
    none : (bs : List ℕ) → length bs ≡ 0 → bs ≡ []
    none [] e = refl
    none (b ∷ bs) e = absurd (omega (arith, e))

module _ (w : Whole) (l : Level) where
  tags_copied : (n : ℕ) (to from : Address) (s : Objects) → (with_copied n to from s).tags ≡ s.tags
  tags_copied zero to from s = refl
  tags_copied (suc n) to from s = tags_put (ground w) (active l) (with_copied n to from s) (past to n) (held_cell (past from n) s) ∙ tags_copied n to from s

  world_copied : (n : ℕ) (to from : Address) (s : Objects) (m : List Area) → world_of w l m s ≡ world_of w l m (with_copied n to from s)
  world_copied zero to from s m = refl
  world_copied (suc n) to from s m = world_copied n to from s m ∙ world_put w l (with_copied n to from s) m (past to n) (held_cell (past from n) s)

module _ (w : Whole) (l : Level) (right : Right w) (apart : Apart w l) where
  ---- The operation

  module _ (u t : DataTree) (enough : tree_cells t ≤ tree_cells u) (begins : Begins w.packed u t) (levels : tree_levels u ≡ tree_levels t) (to from : Address) where
    abbrev copied : ℕ → Objects → Objects
    copied k s = with_copied k to from s

    -- where the cells stand that are written
    spot_at : (k x : ℕ) (s : Objects) → k < tree_cells t → AddressIs w l to u x s → (f : Form) × ((o : ℕ) × AddressIs w l (past to k) (Scalar f) o (copied k s))
    spot_at k x s lt at =
        let e = cells_forms u in
        let f = some_at (tree_forms u) k (omega (arith, e, lt, enough)) in
        let node = scalar_node w.packed u k f.0 f.1 in
        (f.0, (x + node.0, subst (λ ts. StandsAt (ground w) (active l) ts (past to k) (Scalar f.0) (x + node.0)) (sym (tags_copied w l k to from s)) (part_at w l to u (Scalar f.0) k node.0 x (x + node.0) s node.1 at refl)))

    later_copied : (k x : ℕ) (s : Objects) → k ≤ tree_cells t → AddressIs w l to u x s → Later w l s (copied k s)
    later_copied zero x s le at = later_refl w l s
    later_copied (suc k) x s le at =
        let spot = spot_at k x s (omega (arith, le)) at in
        later_on w l s (copied k s) (copied (suc k) s) (later_copied k x s (omega (arith, le)) at) (later_stored w l (copied k s) (held_cell (past from k) s) (past to k) spot.0 spot.1.0 spot.1.1)

    -- register variables are no part of it
    register_copied : (k x : ℕ) (s : Objects) (y : ℕ) (d : Cell) → k ≤ tree_cells t → AddressIs w l to u x s → y < l.count → l.in_register y ≡ true → cell_of (copied k s).frames l.frame (l.cell y) ≡ Some d → cell_of s.frames l.frame (l.cell y) ≡ Some d
    register_copied zero x s y d le at lt reg is = is
    register_copied (suc k) x s y d le at lt reg is =
        let spot = spot_at k x s (omega (arith, le)) at in
        register_copied k x s y d (omega (arith, le)) at lt reg (other_cell w l apart (copied k s) (held_cell (past from k) s) (past to k) spot.0 spot.1.0 y d spot.1.1 lt reg is)

    sides : (x y : ℕ) (s : Objects) (m : List Area) → Held w l s m → AddressIs w l to u x s → AddressIs w l from t y s → (x ≤ y) ⊎ (y + tree_bytes w.packed t ≤ x)
    sides x y s m held a b = elim (stands_apart (ground w) (active l) s.tags to from u t x y held.room levels a b) [
      | inl h ↦ (let e = h.1 in inl (omega (arith, e)))
      | inr (inl h) ↦ inl (omega (arith, h))
      | inr (inr h) ↦ inr h
    ]

    -- all cells of the second one's tree are copied
    follows_copy : {fuel : ℕ} {mask : Mask} {K : Fact} (a b k : ℕ) → FollowsTo w l false 1 fuel mask (Both (Both (Both (Both K (RowIs w l u to a)) (RowIs w l t from b)) (λ n f s. can_write to.area ≡ true)) (ConstIs w l (tree_bytes w.packed t) k)) (Nothing_more w l) (copy (tree_cells t) to from) (does Copy (a ∷ b ∷ k ∷ []))
    follows_copy {fuel} {mask} {K} a b k = record {
      grows = grows_does w l Copy (a ∷ b ∷ k ∷ []);
      by = λ most g c f s room free le needs fewer stands fits within known typed r.
          let op : Op = record { code = Copy; uses = a ∷ b ∷ k ∷ []; def = None } in
          let q = tree_bytes w.packed t in
          let cells = λ (h : Point → ℕ). h (In_routine CopyAtCell) + (h (In_routine CopyAtTail) + free h) in
          let head = λ (h : Point → ℕ). h (In_routine CopyAtHead) + cells h in
          let before = λ (h : Point → ℕ). h (In l.proc c.block c.op) + head h in
          let bound = r.reached.bound in
          let m = r.memory in
          let at_to = known.0.0.0.1.1 in let at_from = known.0.0.1.1 in let may = known.0.1 in
          let low_to = address_few w l s.store m to u (f a) r.held at_to in
          let low_from = address_few w l s.store m from t (f b) r.held at_from in
          let inside = begins.fits in
          let few_to : f a + q + 8 < 2 ^ 64 = omega (arith, low_to, inside) in
          let few_from : f b + q + 8 < 2 ^ 64 = omega (arith, low_from) in
          let room_to : covers m (f a) q ≡ true = covers-part m (f a) (tree_bytes w.packed u) (f a) q (stands_covered (ground w) (active l) s.store m to u (f a) r.held at_to) (omega arith) (omega (arith, inside)) in
          let room_from = stands_covered (ground w) (active l) s.store m from t (f b) r.held at_from in
          let beside = sides (f a) (f b) s.store m r.held at_to at_from in
          let ends : (h : Point → ℕ) → h (In_routine CopyAtCell) + (h (In_routine CopyAtTail) + free h) ≤ weigh h w.points = (λ h. let z = within h in omega (arith, z)) in
          let moved = few_words w.packed t in let many = bytes_many w.packed t in
          let vs = l.types in
          let own = forms_own w.program vs in
          let later = later_copied (tree_cells t) (f a) s.store (omega arith) at_to in
          let there_to = node_there w.program w.packed (forms_of_all w.program vs) vs own s.store typed to u (tree_cells t) enough (at_to.variable, at_to.byte, at_to.node) in
          let there_from = node_there w.program w.packed (forms_of_all w.program vs) vs own s.store typed from t (tree_cells t) (omega arith) (at_from.variable, at_from.byte, at_from.node) in
          comes_spend HasSense (system w) (least w.procedures) w.points w.first w.turns same_trap s (λ u. copy_cells (tree_cells t) to from) before
          (loosen (system w) (least w.procedures) w.points w.first w.turns most 1 room r.reached (omega arith) needs (λ h. omega arith)) (λ h. let z = within h in omega (arith, z))
          (λ left is reached.
          let st = record s { turns = left } in
          subst (λ e. Goes w e (DoneTo w l false (Nothing_more w l) mask most g c (does Copy (a ∷ b ∷ k ∷ []) c) s.store f free))
          (sym (node_copy w.program w.packed (forms_of_all w.program vs) vs own st typed to from u t (tree_cells t) (at_to.variable, at_to.byte, at_to.node) (at_from.variable, at_from.byte, at_from.node) levels enough (omega arith) may))
          (comes_bind HasSense (system w) (least w.procedures) w.points w.first w.turns same_trap (spend_all (tree_cells t) st) (λ u z. Gives tt (record z { store = copied (tree_cells t) s.store }))
          (copy_goes w l (f a) (f b) q m c f s.store free few_to few_from r.held.rises r.held.bytes room_to room_from beside ends (tree_cells t) left 1 st moved many
          (subst (λ x. Came_to w left 1 left s.out (Works (CopyCell (f a) (f b) q 0) (frame_at l (position c) f) l.callers (world_of w l x s.store)) cells) (sym (nothing_copied m (f a) (f b) q room_from))
          (pass_quiet (system w) (least w.procedures) w.points w.first w.turns 1 cells (In_routine CopyAtHead) (Works (CopyCell (f a) (f b) q 0) (frame_at l (position c) f) l.callers (world_of w l m s.store))
          (pass_quiet (system w) (least w.procedures) w.points w.first w.turns 1 head (In l.proc c.block c.op) (Works (CopyHead (f a) (f b) q) (frame_at l (position c) f) l.callers (world_of w l m s.store)) reached refl
          (op_step w l (position c) f m s.store op stands.0 ∙ ap (λ z. Moves [] (Works (CopyHead (f a) (f b) z) (frame_at l (position c) f) l.callers (world_of w l m s.store))) known.1.1) (λ h. omega arith) (let pays = op_pays w l (position c) op stands.0 in omega (arith, pays)))
          refl refl (λ h. omega arith) (omega arith))))
          (λ x z d. let less = d.less in record {
            by = record {
              values = f;
              ready = record {
                memory = during w l (f a) (f b) q m c f s.store free few_to few_from r.held.rises r.held.bytes room_to room_from beside ends q;
                reached = loosen (system w) (least w.procedures) w.points w.first w.turns most g free
                    (subst (λ y. Came_to w d.bound 1 z.turns z.out (Runs (frame_at l (record { block = c.block; op = suc c.op; values = c.values; env = c.env }) f) l.callers y) free) (world_copied w l (tree_cells t) to from s.store (with_bytes m (f a) (bytes_at m (f b) q)))
                    (pass_quiet (system w) (least w.procedures) w.points w.first w.turns 1 free (In_routine CopyAtTail) (runs_at w l (record { block = c.block; op = suc c.op; values = c.values; env = c.env }) f (with_bytes m (f a) (bytes_at m (f b) q)) s.store) d.reached refl
                    (tail_over w l (f a) (f b) q m c f s.store free few_to few_from r.held.rises r.held.bytes room_to room_from beside ends op stands.0.0 stands.0.1 refl) (λ h. omega arith) (omega arith)))
                    (omega (arith, less, is, bound)) fewer (λ h. omega arith);
                held = copy_held (ground w) (active l) s.store m r.held to from u t (f a) (f b) begins at_to at_from may there_to there_from;
                size = r.size;
                under = r.under;
                registers = λ y lt reg d is. value_later w l s.store (copied (tree_cells t) s.store) d _ later (r.registers y lt reg d (register_copied (tree_cells t) (f a) s.store y d (omega arith) at_to lt reg is));
                since = later_on w l l.store s.store (copied (tree_cells t) s.store) r.since later;
              };
              later = later;
              is = tt;
              same = λ u lt. refl;
              off = off_refl mask c.env;
              typed = tt;
            };
          })));
    }

  ---- Records

  -- a designator's address is that of what has a tree, at its beginning, and it has one
  pub record Reaches (own : Mask) (d : Thing) (t : DataTree) : Type 0 where
    pub part : (h : Handed) → SecondFits w l d h → Node w.packed (tree_of w l d h) 0 0 t
    pub many : is_single w l d ≡ false

  -- what is named may be written
  pub record Writable (d : Thing) : Type 0 where
    pub by : (tags : List ℕ) (h : Handed) (a : Address) → Names w.program (forms_of_all w.program l.types) tags d h → address_in h ≡ Some a → can_write a.area ≡ true

  -- an address of what has a tree, which may be written
  abbrev TargetIs : DataTree → Address → ℕ → Fact
  TargetIs t a i = Both (RowIs w l t a i) (λ n f s. can_write a.area ≡ true)

  steady_target : (t : DataTree) (a : Address) (i : ℕ) → Steady w l (TargetIs t a i)
  steady_target t a i = steady_and w l (steady_row w l t a i) (steady_fixed w l (can_write a.area ≡ true))

  follows_reached : {fuel : ℕ} {mask : Mask} {K : Fact} (own : Mask) (d : Thing) (t : DataTree) → Reaches own d t → (h : Handed) (v : Named) → Follows w l 1 fuel mask (Both K (DesignatorIs w l own d h v)) (RowIs w l t) (given (address_in h)) (lower_address v 0)
  follows_reached {K = K} own d t reaches h v = record {
    grows = grows_address w l v 0;
    by = λ most g c f s room free le needs few stands fits within known typed r.
        (follows_less w l (λ a i n f s k. (k.0, begun_by w l a (tree_of w l d h) t (f i) s (reaches.part h known.1.1) k.1)) (follows_address w l {K = K} own d h v (inl reaches.many))).by most g c f s room free le needs few stands fits within (known.0, known.1.0) typed r;
  }

  follows_target : {fuel : ℕ} {mask : Mask} {K : Fact} (own : Mask) (d : Thing) (t : DataTree) → Steady w l K → Reaches own d t → Writable d → (h : Handed) (v : Named) → Follows w l 1 fuel mask (Both K (NamedText w l own d h v)) (TargetIs t) (given (address_in h)) (lower_address v 0)
  follows_target {K = K} own d t steady reaches writable h v =
      follows_known w l (λ n f s k. ((k.0, k.1.0), k.1.1)) (follows_less w l (λ a i n f s k. (k.0, writable.by s.tags h a k.1.0 k.1.1))
      (follows_carried w l {L = λ n f s. Names w.program (forms_of_all w.program l.types) s.tags d h} steady_names
      (follows_found w l (address_in h) (follows_reached {K = K} own d t reaches h v))))
    where
      steady_names : Steady w l (λ n f s. Names w.program (forms_of_all w.program l.types) s.tags d h)
      steady_names = record { by = λ n m f g s u le same later k. names_older w.program (forms_of_all w.program l.types) s.tags u.tags (λ o k e. later.tag o k e) d h k }

  pub follows_copy_record : {fuel : ℕ} {mask own other : Mask} {K : Fact} {p q : Low Named} (d e : Thing) (to from : Act Handed) (t : DataTree) (n size : ℕ) → n ≡ tree_cells t → size ≡ tree_bytes w.packed t → Steady w l K → Reaches own d t → Writable d → Reaches other e t
      → Follows w l 1 fuel mask K (NamedText w l own d) to p → Follows w l 1 fuel mask K (DesignatorIs w l other e) from q → FollowsTo w l false 1 fuel mask K (Nothing_more w l) (copy_record to from n) (lower_record p q size)
  follows_copy_record {fuel} {mask} {own} {other} {K} {p} {q} d e to from t n size cells bytes steady reach_to writable reach_from one two =
      follows_same_to w l (to >>= λ h. given (address_in h) >>= λ a. place from >>= λ b. copy n a b) (copy_record to from n) (λ s. sym (after_after (to s) (λ h. given (address_in h)) (λ a. place from >>= λ b. copy n a b)))
      (follows_bind w l steady one (λ v. grows_bind w l (grows_address w l v 0) (λ a. grows_from a))
      (λ h v. follows_bind w l (steady_and w l steady (steady_named_text w l own d h v)) (follows_target own d t steady reach_to writable h v) (λ a. grows_from a)
      (λ x a. let known = steady_and w l (steady_and w l steady (steady_named_text w l own d h v)) (steady_target t x a) in
      follows_same_to w l (from >>= λ h2. given (address_in h2) >>= λ b. copy n x b) (place from >>= λ b. copy n x b) (λ s. sym (after_after (from s) (λ h2. given (address_in h2)) (λ b. copy n x b)))
      (follows_bind w l known (follows_known w l (λ m f s k. k.0.0) two) (λ v2. grows_bind w l (grows_address w l v2 0) (λ b. grows_copied a b))
      (λ h2 v2. follows_bind w l (steady_and w l known (steady_designator w l other e h2 v2)) (follows_reached other e t reach_from h2 v2) (λ b. grows_copied a b)
      (λ y b. follows_bind w l {m = give tt} {h = λ (u : Unit {0}). copy n x y} (steady_and w l (steady_and w l known (steady_designator w l other e h2 v2)) (steady_row w l t y b)) (follows_const w l size) (λ k. grows_does w l Copy (a ∷ b ∷ k ∷ []))
      (λ u k. follows_known w l (λ m f s g. ((((g.0.0.0.0.0, g.0.0.0.1.0), g.0.1), g.0.0.0.1.1), (g.1.0, g.1.1 ∙ bytes))) (moved_all x y a b k)))))))
      )
    where
      moved_all : (x y : Address) (a b k : ℕ) → FollowsTo w l false 1 fuel mask (Both (Both (Both (Both K (RowIs w l t x a)) (RowIs w l t y b)) (λ n f s. can_write x.area ≡ true)) (ConstIs w l (tree_bytes w.packed t) k)) (Nothing_more w l) (copy n x y) (does Copy (a ∷ b ∷ k ∷ []))
      moved_all x y a b k = subst (λ n. FollowsTo w l false 1 fuel mask (Both (Both (Both (Both K (RowIs w l t x a)) (RowIs w l t y b)) (λ n f s. can_write x.area ≡ true)) (ConstIs w l (tree_bytes w.packed t) k)) (Nothing_more w l) (copy n x y) (does Copy (a ∷ b ∷ k ∷ []))) (sym cells)
          (follows_copy t t (omega arith) (begins_self w.packed t) refl x y a b k)

      grows_copied : (a b : ℕ) → Grows w l (const size >>> λ k. does Copy (a ∷ b ∷ k ∷ []))
      grows_copied a b = grows_bind w l (grows_emits w l (Const size) []) (λ k. grows_does w l Copy (a ∷ b ∷ k ∷ []))

      grows_from : (a : ℕ) → Grows w l (q >>> λ v. lower_address v 0 >>> λ b. const size >>> λ k. does Copy (a ∷ b ∷ k ∷ []))
      grows_from a = grows_bind w l two.grows (λ v. grows_bind w l (grows_address w l v 0) (λ b. grows_copied a b))

  ---- Arrays

  -- the source's length isn't above the destination's
  abbrev AtMost : ℕ → ℕ → Fact
  AtMost a b n f s = a ≤ b

  steady_at_most : (a b : ℕ) → Steady w l (AtMost a b)
  steady_at_most a b = record { by = λ n m f g s t le same later h. h }

  -- the lengths are compared, where one isn't known
  follows_compared_lengths : {need fuel : ℕ} {mask : Mask} {K : Fact} (a b i j : ℕ) → Follows w l need fuel mask (Both (Both K (ConstIs w l a i)) (ConstIs w l b j)) (λ (u v : Unit {0}). AtMost b a) (unless l.proc 12 (nat_le b a)) (does Fits (j ∷ i ∷ []))
  follows_compared_lengths {K = K} a b i j = follows_does w l Fits (j ∷ i ∷ []) (λ v f m s held known. by v f m s held (ap₂ (λ x y. if nat_le x y then Yields 0 else Refuses 12) known.1.1 known.0.1.1) (nat_le b a) refl)
    where
      by : (v : ℕ) (f : ℕ → ℕ) (m : List Area) (s : At Objects) → Held w l s.store m → effect_at w l f m s.store Fits (j ∷ i ∷ []) ≡ (if nat_le b a then Yields 0 else Refuses 12) → (t : Bool) → nat_le b a ≡ t
          → Acts w l (λ (u : Unit {0}) x t. b ≤ a) (unless l.proc 12 (nat_le b a) s) s m (effect_at w l f m s.store Fits (j ∷ i ∷ []))
      by v f m s held e true is = acts_give w l tt 0 held (ap (λ t. unless l.proc 12 t s) is) (e ∙ ap (λ t. if t then Yields 0 else Refuses 12) is) (at_most b a is)
        where
          at_most : (b a : ℕ) → nat_le b a ≡ true → b ≤ a
          at_most b a is = grind (arith, nat_tests)
      by v f m s held e false is = acts_trap w l 12 (ap (λ t. unless l.proc 12 t s) is) (e ∙ ap (λ t. if t then Yields 0 else Refuses 12) is)

  abbrev looked_up : Option ℕ → Named → Option ℕ → Named → Low (Unit {0})
  looked_up o v p u = length_in o v >>> λ i. length_in p u >>> λ j. does Fits (j ∷ i ∷ [])

  follows_looked_up : {need fuel : ℕ} {mask : Mask} {K : Fact} (o p : Option ℕ) (v u : Named) (a b : ℕ) → Steady w l K → Follows w l need fuel mask (Both (Both K (LengthIn w l o a v)) (LengthIn w l p b u)) (λ (x y : Unit {0}). AtMost b a) (unless l.proc 12 (nat_le b a)) (looked_up o v p u)
  follows_looked_up {K = K} o p v u a b steady =
      let known = steady_and w l (steady_and w l steady (steady_length w l o a v)) (steady_length w l p b u) in
      follows_bind w l {m = give tt} {h = λ (x : Unit {0}). unless l.proc 12 (nat_le b a)} known (follows_known w l {K = Both K (LengthIn w l o a v)} (λ n f s k. k.0) (follows_length_in w l o a v)) (λ i. grows_bind w l (grows_length_in w l p u) (λ j. grows_does w l Fits (j ∷ i ∷ [])))
      (λ x i. follows_bind w l {m = give tt} {h = λ (x : Unit {0}). unless l.proc 12 (nat_le b a)} (steady_and w l known (steady_const w l a i)) (follows_known w l {K = Both K (LengthIn w l p b u)} (λ n f s k. (k.0.0.0, k.0.1)) (follows_length_in w l p b u)) (λ j. grows_does w l Fits (j ∷ i ∷ []))
      (λ x j. follows_known w l (λ n f s k. ((k.0.0.0.0, k.0.1), k.1)) (follows_compared_lengths {K = K} a b i j)))

  follows_fits : {need fuel : ℕ} {mask : Mask} {K : Fact} (o p : Option ℕ) (v u : Named) (a b : ℕ) → Steady w l K → lengths_fit o p ≡ true → Follows w l need fuel mask (Both (Both K (LengthIn w l o a v)) (LengthIn w l p b u)) (λ (x y : Unit {0}). AtMost b a) (unless l.proc 12 (nat_le b a)) (fits o v p u)
  follows_fits (Some n) (Some m) v u a b steady ok = follows_seen w l tt (λ i f s memory held typed k. inl (tt, ap (λ t. unless l.proc 12 t s) (ap₂ nat_le k.1 k.0.1 ∙ ok), at_most k.1 k.0.1 ok))
    where
      at_most : b ≡ m → a ≡ n → nat_le m n ≡ true → b ≤ a
      at_most e f is = grind (arith, nat_tests)
  follows_fits (Some n) None v u a b steady ok = follows_looked_up (Some n) None v u a b steady
  follows_fits None (Some m) v u a b steady ok = follows_looked_up None (Some m) v u a b steady
  follows_fits None None v u a b steady ok = follows_looked_up None None v u a b steady

  grows_fits : (o p : Option ℕ) (v u : Named) → Grows w l (fits o v p u)
  grows_fits (Some n) (Some m) v u = grows_give w l tt
  grows_fits (Some n) None v u = grows_looked (Some n) None v u
    where
      grows_looked : (o p : Option ℕ) (v u : Named) → Grows w l (looked_up o v p u)
      grows_looked o p v u = grows_bind w l (grows_length_in w l o v) (λ i. grows_bind w l (grows_length_in w l p u) (λ j. grows_does w l Fits (j ∷ i ∷ [])))
  grows_fits None (Some m) v u = grows_bind w l (grows_length_in w l None v) (λ i. grows_bind w l (grows_length_in w l (Some m) u) (λ j. grows_does w l Fits (j ∷ i ∷ [])))
  grows_fits None None v u = grows_bind w l (grows_length_in w l None v) (λ i. grows_bind w l (grows_length_in w l None u) (λ j. grows_does w l Fits (j ∷ i ∷ [])))

  -- the bytes of so many elements of a size
  pub grows_bytes : (size : ℕ) (o : Option ℕ) (v : Named) → Grows w l (bytes_in size o v)
  grows_bytes size (Some n) v = grows_emits w l (Const (n * size)) []
  grows_bytes size None v = grows_bind w l (grows_length_in w l None v) (λ i. grows_bind w l (grows_emits w l (Const size) []) (λ k. grows_emits w l Mul (i ∷ k ∷ [])))

  pub follows_bytes : {need fuel : ℕ} {mask : Mask} {K : Fact} (size : ℕ) (o : Option ℕ) (v : Named) (a : ℕ) → Steady w l K → a * size < 2 ^ 64 → Follows w l need fuel mask (Both K (LengthIn w l o a v)) (λ (u : Unit {0}) i. ConstIs w l (a * size) i) (give tt) (bytes_in size o v)
  follows_bytes size (Some n) v a steady few = follows_emits w l (Const (n * size)) [] (λ i f m s held k. acts_give w l tt (n * size) held refl refl (omega arith, put_here i (n * size) f ∙ ap (λ n. n * size) (sym k.1)))
  follows_bytes {K = K} size None v a steady few =
      let known = steady_and w l steady (steady_length w l None a v) in
      follows_bind w l {m = give tt} {h = λ (x : Unit {0}). give tt} known (follows_length_in w l None a v) (λ i. grows_bind w l (grows_emits w l (Const size) []) (λ k. grows_emits w l Mul (i ∷ k ∷ [])))
      (λ x i. follows_bind w l {m = give tt} {h = λ (x : Unit {0}). give tt} (steady_and w l known (steady_const w l a i)) (follows_const w l size) (λ k. grows_emits w l Mul (i ∷ k ∷ []))
      (λ x k. follows_emits w l Mul (i ∷ k ∷ []) (λ n f m s held g. acts_give w l tt (mul64 (f i) (f k)) held refl refl (omega arith, put_here n (mul64 (f i) (f k)) f ∙ ap₂ mul64 g.0.1.1 g.1.1 ∙ small (a * size) few))))
    where
      small : (x : ℕ) → x < 2 ^ 64 → x % 2 ^ 64 ≡ x
      small x lt = omega (arith, lt)

  -- products stay below products
  more_times : (a b c : ℕ) → a ≤ b → a * c ≤ b * c
  more_times a b c le = grind (arith)

  pub few_times : (a c : ℕ) → a < 2 ^ 32 → c ≤ 8388608 → a * c < 2 ^ 64
  few_times a c lt le = let x = more_times c 8388608 a le in let y : a * c ≡ c * a = omega arith in omega (arith, lt, x, y)

  -- an array that may be written
  abbrev RoomIs : Option ℕ → DataTree → Named → Span → ℕ → Fact
  RoomIs o e v a i = Both (SpanIs w l o e v a i) (λ n f s. can_write a.at.area ≡ true)

  steady_space : (o : Option ℕ) (e : DataTree) (v : Named) (a : Span) (i : ℕ) → Steady w l (RoomIs o e v a i)
  steady_space o e v a i = steady_and w l (steady_span w l o e v a i) (steady_fixed w l (can_write a.at.area ≡ true))

  span_address : (o : Option ℕ) (h : Handed) (a : Span) → span_of w l o h ≡ Some a → address_in h ≡ Some a.at
  span_address None (Sized b n) a e = cc
  span_address None (Addressed b) a e = absurd (cc)
  span_address None (Tagged b t) a e = absurd (cc)
  span_address None (Value c) a e = absurd (cc)
  span_address (Some n) h a e = by (address_in h) e
    where
      by : (o : Option Address) → option_map (λ (b : Address). record { at = b; length = n }) o ≡ Some a → o ≡ Some a.at
      by None e = absurd (cc)
      by (Some b) e = cc

  follows_space : {fuel : ℕ} {mask : Mask} {K : Fact} (own : Mask) (d : Thing) (o : Option ℕ) (e : DataTree) → Writable d → ((h : Handed) (v : Named) → Follows w l 1 fuel mask (Both K (DesignatorIs w l own d h v)) (SpanIs w l o e v) (span_by w l o h) (lower_address v 0)) → (h : Handed) (v : Named)
      → Follows w l 1 fuel mask (Both K (NamedText w l own d h v)) (RoomIs o e v) (span_by w l o h) (lower_address v 0)
  follows_space {K = K} own d o e writable spans h v =
      follows_known w l (λ n f s k. ((k.0, k.1.0), k.1.1)) (follows_less w l (λ a i n f s k. (k.0, writable.by s.tags h a.at k.1.0 (span_address o h a k.1.1)))
      (follows_same w l (given (span_of w l o h)) (span_by w l o h) (span_given w l o h)
      (follows_carried w l {L = λ n f s. Names w.program (forms_of_all w.program l.types) s.tags d h} steady_names
      (follows_found w l (span_of w l o h) (follows_same w l (span_by w l o h) (given (span_of w l o h)) (λ s. sym (span_given w l o h s)) (spans h v))))))
    where
      steady_names : Steady w l (λ n f s. Names w.program (forms_of_all w.program l.types) s.tags d h)
      steady_names = record { by = λ n m f g s u le same later k. names_older w.program (forms_of_all w.program l.types) s.tags u.tags (λ o k e. later.tag o k e) d h k }

  pub follows_copy_array : {fuel : ℕ} {mask own : Mask} {K : Fact} {B : Handed → Named → Fact} {p q : Low Named} (d : Thing) (e : DataTree) (c size : ℕ) (o m : Option ℕ) (to from : Act Handed) → c ≡ tree_cells e → size ≡ tree_bytes w.packed e → size ≤ 8388608 → lengths_fit o m ≡ true → Writable d → Steady w l K → ((h : Handed) (v : Named) → Steady w l (B h v))
      → ((h : Handed) (v : Named) → Follows w l 1 fuel mask (Both K (DesignatorIs w l own d h v)) (SpanIs w l o e v) (span_by w l o h) (lower_address v 0)) → ((h : Handed) (v : Named) → Follows w l 1 fuel mask (Both K (B h v)) (SpanIs w l m e v) (span_by w l m h) (lower_address v 0))
      → Follows w l 1 fuel mask K (NamedText w l own d) to p → Follows w l 1 fuel mask K B from q → FollowsTo w l false 1 fuel mask K (Nothing_more w l) (copy_array l.proc to o from m c) (lower_array p o q m size)
  follows_copy_array {fuel} {mask} {own} {K} {B} {p} {q} d e c size o m to from cells bytes few ok writable steady steady_from spans_to spans_from one two =
      follows_same_to w l (to >>= λ h. span_by w l o h >>= copied_into) (copy_array l.proc to o from m c) (spanned_same w l to o copied_into)
      (follows_bind w l steady one (λ v. grows_bind w l (grows_address w l v 0) (λ i. grows_into v i))
      (λ h v. follows_bind w l (steady_and w l steady (steady_named_text w l own d h v)) (follows_space own d o e writable spans_to h v) (λ i. grows_into v i)
      (λ a i. let known = steady_and w l (steady_and w l steady (steady_named_text w l own d h v)) (steady_space o e v a i) in
      follows_same_to w l (from >>= λ h2. span_by w l m h2 >>= copied_from a) (copied_into a) (spanned_same w l from m (copied_from a))
      (follows_bind w l known (follows_known w l (λ n f s k. k.0.0) two) (λ u. grows_bind w l (grows_address w l u 0) (λ j. grows_copied v i u j))
      (λ h2 u. follows_bind w l (steady_and w l known (steady_from h2 u)) (follows_known w l (λ n f s k. (k.0.0.0, k.1)) (spans_from h2 u)) (λ j. grows_copied v i u j)
      (λ b j. follows_known w l (λ n f s k. ((k.0.0.0.0, k.0.0.1), k.1)) (copies v a i u b j)))))))
    where
      copied_from : Span → Span → Deed
      copied_from a b = unless l.proc 12 (nat_le b.length a.length) >>= λ _. copy (b.length * c) a.at b.at

      copied_into : Span → Deed
      copied_into a = span from m >>= copied_from a

      grows_moves : (i j : ℕ) (u : Named) → Grows w l (bytes_in size m u >>> λ k. does Copy (i ∷ j ∷ k ∷ []))
      grows_moves i j u = grows_bind w l (grows_bytes size m u) (λ k. grows_does w l Copy (i ∷ j ∷ k ∷ []))

      grows_copied : (v : Named) (i : ℕ) (u : Named) (j : ℕ) → Grows w l (fits o v m u >>> λ _. bytes_in size m u >>> λ k. does Copy (i ∷ j ∷ k ∷ []))
      grows_copied v i u j = grows_bind w l (grows_fits o m v u) (λ x. grows_moves i j u)

      grows_into : (v : Named) (i : ℕ) → Grows w l (q >>> λ u. lower_address u 0 >>> λ j. fits o v m u >>> λ _. bytes_in size m u >>> λ k. does Copy (i ∷ j ∷ k ∷ []))
      grows_into v i = grows_bind w l two.grows (λ u. grows_bind w l (grows_address w l u 0) (λ j. grows_copied v i u j))

      moved_all : (a b : Span) (i j k : ℕ) → b.length ≤ a.length → FollowsTo w l false 1 fuel mask (Both (Both (Both (Both K (RowIs w l (Array a.length e) a.at i)) (RowIs w l (Array b.length e) b.at j)) (λ n f s. can_write a.at.area ≡ true)) (ConstIs w l (b.length * tree_bytes w.packed e) k)) (Nothing_more w l) (copy (b.length * c) a.at b.at) (does Copy (i ∷ j ∷ k ∷ []))
      moved_all a b i j k le = subst (λ c. FollowsTo w l false 1 fuel mask (Both (Both (Both (Both K (RowIs w l (Array a.length e) a.at i)) (RowIs w l (Array b.length e) b.at j)) (λ n f s. can_write a.at.area ≡ true)) (ConstIs w l (b.length * tree_bytes w.packed e) k)) (Nothing_more w l) (copy (b.length * c) a.at b.at) (does Copy (i ∷ j ∷ k ∷ []))) (sym cells)
          (follows_copy (Array a.length e) (Array b.length e) (more_times b.length a.length (tree_cells e) le) (begins_array w.packed a.length b.length e le) refl a.at b.at i j k)

      moves : (v : Named) (a : Span) (i : ℕ) (u : Named) (b : Span) (j : ℕ) → b.length < 2 ^ 32 → b.length ≤ a.length → FollowsTo w l false 1 fuel mask (Both (Both (Both K (RoomIs o e v a i)) (SpanIs w l m e u b j)) (AtMost b.length a.length)) (Nothing_more w l) (copy (b.length * c) a.at b.at) (bytes_in size m u >>> λ k. does Copy (i ∷ j ∷ k ∷ []))
      moves v a i u b j lt le =
          let known = steady_and w l (steady_and w l (steady_and w l steady (steady_space o e v a i)) (steady_span w l m e u b j)) (steady_at_most b.length a.length) in
          follows_bind w l {m = give tt} {h = λ (x : Unit {0}). copy (b.length * c) a.at b.at} known
          (follows_known w l {K = Both K (LengthIn w l m b.length u)} (λ n f s k. (k.0.0.0, k.0.1.3)) (follows_bytes size m u b.length steady (few_times b.length size lt few))) (λ k. grows_does w l Copy (i ∷ j ∷ k ∷ []))
          (λ x k. follows_known w l (λ n f s g. ((((g.0.0.0.0, (g.0.0.0.1.0.0, g.0.0.0.1.0.1)), (g.0.0.1.0, g.0.0.1.1)), g.0.0.0.1.1), (g.1.0, g.1.1 ∙ ap (λ b2. b.length * b2) bytes))) (moved_all a b i j k le))

      copies : (v : Named) (a : Span) (i : ℕ) (u : Named) (b : Span) (j : ℕ) → FollowsTo w l false 1 fuel mask (Both (Both K (RoomIs o e v a i)) (SpanIs w l m e u b j)) (Nothing_more w l) (unless l.proc 12 (nat_le b.length a.length) >>= λ _. copy (b.length * c) a.at b.at) (fits o v m u >>> λ _. bytes_in size m u >>> λ k. does Copy (i ∷ j ∷ k ∷ []))
      copies v a i u b j = record {
        grows = grows_copied v i u j;
        by = λ most g at f s room free le needs fewer stands fit within known typed r.
            (follows_bind w l (steady_and w l (steady_and w l steady (steady_space o e v a i)) (steady_span w l m e u b j))
            (follows_known w l {K = Both (Both K (LengthIn w l o a.length v)) (LengthIn w l m b.length u)} (λ n f s k. ((k.0.0, k.0.1.0.3), k.1.3)) (follows_fits o m v u a.length b.length steady ok)) (λ x. grows_moves i j u)
            (λ x y. once v a i u b j known.1.2)).by most g at f s room free le needs fewer stands fit within known typed r;
      }
        where
          once : (v : Named) (a : Span) (i : ℕ) (u : Named) (b : Span) (j : ℕ) → b.length < 2 ^ 32 → FollowsTo w l false 1 fuel mask (Both (Both (Both K (RoomIs o e v a i)) (SpanIs w l m e u b j)) (AtMost b.length a.length)) (Nothing_more w l) (copy (b.length * c) a.at b.at) (bytes_in size m u >>> λ k. does Copy (i ∷ j ∷ k ∷ []))
          once v a i u b j lt = record {
            grows = grows_moves i j u;
            by = λ most g at f s room free le needs fewer stands fit within known typed r. (moves v a i u b j lt known.1).by most g at f s room free le needs fewer stands fit within known typed r;
          }

  -- what a name says may be written
  pub writable_is : (d : Thing) → is_writable d ≡ true → Writable d
  writable_is (Cells f true) is = record { by = by }
    where
      by : (tags : List ℕ) (h : Handed) (a : Address) → Names w.program (forms_of_all w.program l.types) tags (Cells f true) h → address_in h ≡ Some a → can_write a.area ≡ true
      by tags (Addressed b) a names e = subst (λ (x : Address). can_write x.area ≡ true) (some_same e) (names.1 refl)
        where
          some_same : {x y : Address} → Some x ≡ Some y → x ≡ y
          some_same e = cc
      by tags (Sized b n) a names e = absurd names
      by tags (Tagged b t) a names e = absurd names
      by tags (Value c) a names e = absurd names
  writable_is (Of k true) is = record { by = by }
    where
      by : (tags : List ℕ) (h : Handed) (a : Address) → Names w.program (forms_of_all w.program l.types) tags (Of k true) h → address_in h ≡ Some a → can_write a.area ≡ true
      by tags (Addressed b) a names e = subst (λ (x : Address). can_write x.area ≡ true) (some_same e) (names.1 refl)
        where
          some_same : {x y : Address} → Some x ≡ Some y → x ≡ y
          some_same e = cc
      by tags (Sized b n) a names e = absurd names
      by tags (Tagged b t) a names e = absurd names
      by tags (Value c) a names e = absurd names
  writable_is (OpenOf k true) is = record { by = by }
    where
      by : (tags : List ℕ) (h : Handed) (a : Address) → Names w.program (forms_of_all w.program l.types) tags (OpenOf k true) h → address_in h ≡ Some a → can_write a.area ≡ true
      by tags (Sized b n) a names e = subst (λ (x : Address). can_write x.area ≡ true) (some_same e) (names.1 refl)
        where
          some_same : {x y : Address} → Some x ≡ Some y → x ≡ y
          some_same e = cc
      by tags (Addressed b) a names e = absurd names
      by tags (Tagged b t) a names e = absurd names
      by tags (Value c) a names e = absurd names
  writable_is (Dynamic r) is = record { by = by }
    where
      by : (tags : List ℕ) (h : Handed) (a : Address) → Names w.program (forms_of_all w.program l.types) tags (Dynamic r) h → address_in h ≡ Some a → can_write a.area ≡ true
      by tags (Tagged b t) a names e = subst (λ (x : Address). can_write x.area ≡ true) (some_same e) names.2
        where
          some_same : {x y : Address} → Some x ≡ Some y → x ≡ y
          some_same e = cc
      by tags (Addressed b) a names e = absurd names
      by tags (Sized b n) a names e = absurd names
      by tags (Value c) a names e = absurd names
  writable_is (Cells f false) is = no is
  writable_is (Of k false) is = no is
  writable_is (OpenOf k false) is = no is
  writable_is (Characters n) is = no is
