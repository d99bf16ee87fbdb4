-- A procedure's structured variables are set to zero: a turn for each cell, while words are stored.
use Rattle.std.proofs.Common.{◌≡◌, ℕ, zero, suc, ◌+◌, ◌*◌, ◌^◌, ◌<◌, ◌≤◌, ◌⊎◌, inl, inr, List, [], ◌∷◌, length, Bool, true, false, cond, refl, sym, ap, ap₂, ◌∙◌, subst, arith, Some, None}
use Rattle.std.specs.Prelude.{if◌then◌else◌, nat_le, replicate, ◌-◌}
use Rattle.std.proofs.lemmas.Bool.Decides.{nat_tests}
use Rattle.run_laws.specs.Runs.{Moves, weigh}
use Rattle.run_laws.specs.Turns.{each_so}
use Rattle.run_laws.specs.Turns.{State as At}
use Rattle.run_laws.proofs.Reached.{pass_quiet, loosen}
use Rattle.run_laws.proofs.Comes.{comes_spend}
use Rattle.a64_memory.specs.Bytes.{slab}
use Rattle.a64_memory.specs.Memory.{Area, shapes, covered, covers, bytes_at, with_bytes, store8, stored8, IsRising}
use Rattle.a64_memory.proofs.Shapes.{covers-shapes, zero_bytes}
use Rattle.a64_memory.proofs.Stores.{shapes-with_bytes, length-bytes_at, covers-with_bytes, rising-with_bytes, of_bytes-with_bytes, bytes_at-with_bytes_apart}
use Rattle.a64_memory.proofs.Blocks.{covers-part, with_bytes-none_given}
use Rattle.a64_memory.proofs.Copies.{zero_more_8}
use Rattle.a64_memory.specs.Areas.{heap_base}
use Rattle.object_bytes.proofs.Blocks.{bytes_at-piece}
use Rattle.wrapping_numbers.specs.Numbers.{add64, sub64}
use Rattle.block_runs.specs.declared.code.Code.TheVariants.{Const, Zero}
use Rattle.block_runs.specs.declared.code.Code.TheVariants.{Local as LocalAt}
use Rattle.block_runs.specs.Blocks.{Operation}
use Rattle.block_runs.specs.States.{Frame, State, Works, ZeroHead, ZeroCell, Point, In}
use Rattle.block_runs.specs.States.{At as In_routine, ZeroAtHead, ZeroAtCell}
use Rattle.block_runs.specs.Steps.{set, moved_to, resumed, rest_of}
use Rattle.block_runs.specs.Points.{least}
use Rattle.ob_types.specs.Sense.{HasSense}
use Rattle.ob_types.specs.Store.{spend_all}
use Rattle.ob_types.specs.Store.{Store as Objects}
use Rattle.ob_types.proofs.Tests.{no}
use Rattle.ssa_core.specs.Procedures.{operation_of}
use Rattle.ssa_core.specs.declared.procedure.Op.{Op}
use Rattle.ssa_lowered.specs.Pieces.{Cursor, emits}
use Rattle.ssa_lowered.specs.Values.{const}
use Rattle.ssa_lowered.specs.Variables.{zeroing}
use Rattle.held_stores.specs.Changes.{Beyond}
use Rattle.lowered_runs.specs.Words.{same_trap, Whole, Level}
use Rattle.lowered_runs.proofs.Values.{Same, put_here, put_else, put_same, same_on}
use Rattle.lowered_runs.proofs.Standing.{Standing, bulk, shared}
use Rattle.lowered_runs.proofs.Ready.{position, system, world_of, frame_at, runs_at, Goes, Came_to}
use Rattle.lowered_runs.proofs.Follows.{op_step, goes_on, goes_here}
use Rattle.lowered_runs.proofs.CopyLoops.{waits, Waited, sooner, waits_paid}

---- Zeros

-- a part of zeros
zeros_slab : (q i n : ℕ) → i + n ≤ q → slab (replicate q 0) i n ≡ replicate n 0
zeros_slab q zero zero le = none q
  where
    none : (q : ℕ) → slab (replicate q 0) 0 0 ≡ []
    none zero = refl
    none (suc q) = refl
zeros_slab zero zero (suc n) le = absurd (omega (arith, le))
zeros_slab (suc q) zero (suc n) le = ap (λ bs. 0 ∷ bs) (zeros_slab q zero n (omega (arith, le)))
zeros_slab zero (suc i) n le = absurd (omega (arith, le))
zeros_slab (suc q) (suc i) n le = zeros_slab q i n (omega (arith, le))

zeros_long : (q : ℕ) → length {A = ℕ} (replicate q 0) ≡ q
zeros_long zero = refl
zeros_long (suc q) = ap suc (zeros_long q)

---- The loop

module _ (w : Whole) (l : Level) (x q : ℕ) (m : List Area) (c : Cursor) (f : ℕ → ℕ) (s : Objects) (free : (Point → ℕ) → ℕ) (few : x + q + 8 < 2 ^ 64) (rises : IsRising 0 m) (room_for : covers m x q ≡ true)
    (within : (h : Point → ℕ) → h (In_routine ZeroAtCell) + free h ≤ weigh h w.points) where
  -- where d bytes are 0
  abbrev pub cleared : ℕ → List Area
  cleared d = with_bytes m x (replicate d 0)

  abbrev fr : Frame
  fr = frame_at l (position c) f

  abbrev pub at_cell : ℕ → State
  at_cell d = Works (ZeroCell x q d) fr l.callers (world_of w l (cleared d) s)

  abbrev pub loop_room : (Point → ℕ) → ℕ
  loop_room h = h (In_routine ZeroAtCell) + free h

  says_cell : (d : ℕ) → (system w).step (at_cell d) ≡ (if nat_le q d then resumed (rest_of w.procedures fr) fr l.callers (world_of w l (cleared d) s) None
      else moved_to (store8 (cleared d) (add64 x d) 0) (add64 x d) (ZeroCell x q (add64 d 8)) fr l.callers (world_of w l (cleared d) s))
  says_cell d = refl

  cell_step : (d : ℕ) → d + 8 ≤ q → (system w).step (at_cell d) ≡ Moves [] (at_cell (d + 8))
  cell_step d le =
      let to : add64 x d ≡ x + d = omega (arith, le, few) in
      let ahead : add64 d 8 ≡ d + 8 = omega (arith, le, few) in
      let not_yet : nat_le q d ≡ false = more q d le in
      let t = cleared d in
      let cover = covers-with_bytes m x (replicate d 0) (x + d) 8 ∙ covers-part m x q (x + d) 8 room_for (omega arith) (omega (arith, le)) in
      says_cell d
      ∙ ap (λ b. if b then resumed (rest_of w.procedures fr) fr l.callers (world_of w l t s) None else moved_to (store8 t (add64 x d) 0) (add64 x d) (ZeroCell x q (add64 d 8)) fr l.callers (world_of w l t s)) not_yet
      ∙ ap₂ (λ o e. moved_to (store8 t o 0) o (ZeroCell x q e) fr l.callers (world_of w l t s)) to ahead
      ∙ ap (λ b. moved_to (cond b (Some (stored8 t (x + d) 0)) None) (x + d) (ZeroCell x q (d + 8)) fr l.callers (world_of w l t s)) cover
      ∙ ap (λ m2. Moves [] (Works (ZeroCell x q (d + 8)) fr l.callers (world_of w l m2 s))) (zero_more_8 m 0 x d rises (covers-part m x q x (d + 8) room_for (omega arith) (omega (arith, le))))
    where
      more : (a b : ℕ) → b + 8 ≤ a → nat_le a b ≡ false
      more a b le = grind (arith, nat_tests)

  pub cell_over : (op : Op) (rest : List Operation) → rest_of w.procedures fr ≡ operation_of op ∷ rest → op.def ≡ None → (system w).step (at_cell q) ≡ Moves [] (runs_at w l (record { block = c.block; op = suc c.op; values = c.values; env = c.env }) f (cleared q) s)
  cell_over op rest is none =
      let t = cleared q in
      says_cell q
      ∙ ap (λ b. if b then resumed (rest_of w.procedures fr) fr l.callers (world_of w l t s) None else moved_to (store8 t (add64 x q) 0) (add64 x q) (ZeroCell x q (add64 q 8)) fr l.callers (world_of w l t s)) (all_done q)
      ∙ ap (λ ops. resumed ops fr l.callers (world_of w l t s) None) is ∙ ap (λ d. resumed (operation_of (record op { def = d }) ∷ rest) fr l.callers (world_of w l t s) None) none
    where
      all_done : (a : ℕ) → nat_le a a ≡ true
      all_done a = grind (arith, nat_tests)

  cells_go : (n d k i most g : ℕ) (st : At Objects) (room : (Point → ℕ) → ℕ) → d + 8 * n ≡ q → n ≤ k → k ≤ 8 * n + g → ((h : Point → ℕ) → loop_room h ≤ room h) → Came_to w most g st.turns st.out (at_cell d) room → Goes w (each_so k i waits st) (Waited w l most (at_cell q) loop_room st)
  cells_go zero d k i most g st room is some pays has r =
      let e : d ≡ q = omega (arith, is) in
      waits_paid w l k i most g st (at_cell q) room loop_room (λ h. let z = within h in omega (arith, z)) (omega (arith, pays)) has (subst (λ d. Came_to w most g st.turns st.out (at_cell d) room) e r)
  cells_go (suc n) d zero i most g st room is some pays has r = absurd (omega (arith, some))
  cells_go (suc n) d (suc k) i most g st room is some pays has r =
      let bound = r.bound in
      comes_spend HasSense (system w) (least w.procedures) w.points w.first w.turns same_trap st (λ u. each_so k (suc i) waits) loop_room
      (pass_quiet (system w) (least w.procedures) w.points w.first w.turns (suc (g + 7)) free (In_routine ZeroAtCell) (at_cell (d + 8)) r refl (cell_step d (omega (arith, is))) (λ h. has h) (omega arith))
      (λ h. let z = within h in omega (arith, z))
      (λ left turns reached. goes_on w l (each_so k (suc i) waits (record st { turns = left }))
      (cells_go n (d + 8) k (suc i) left (g + 7) (record st { turns = left }) loop_room (omega (arith, is)) (omega (arith, some)) (omega (arith, pays)) (λ h. omega arith) reached)
      (λ u v z. sooner w l left most (at_cell q) loop_room st left u v (omega (arith, turns, bound)) z))

  pub loop_goes : (n k most g : ℕ) (st : At Objects) → q ≡ 8 * n → n ≤ k → k ≤ q → Came_to w most g st.turns st.out (at_cell 0) loop_room → Goes w (spend_all k st) (Waited w l most (at_cell q) loop_room st)
  loop_goes n k most g st is some many r = cells_go n 0 k 0 most g st loop_room (omega (arith, is)) some (omega (arith, is, many)) (λ h. omega arith) r

---- The operation

module _ (w : Whole) (l : Level) (m0 : List Area) (base bytes : ℕ) (locals : l.local ≡ base + bytes) (few : base + bytes ≤ heap_base)
    (covers_own : (x n : ℕ) → base ≤ x → x + n ≤ base + bytes → covered (shapes m0) x n ≡ true) where
  -- so many bytes from the base on are 0
  abbrev pub ZerosTo : ℕ → List Area → Type 0
  ZerosTo q m = (x n : ℕ) → base ≤ x → x + n ≤ base + q → bytes_at m x n ≡ replicate n 0

  -- behind it
  pub record Zeroed (most q : ℕ) (flag : Bool) (c after : Cursor) (f : ℕ → ℕ) (s : At Objects) (free : (Point → ℕ) → ℕ) (u : Unit {0}) (t : At Objects) : Type 0 where
    pub store : t.store ≡ s.store
    pub bound : ℕ
    pub less : bound ≤ most
    pub values : ℕ → ℕ
    pub memory : List Area
    pub reached : Came_to w bound 1 t.turns t.out (runs_at w l (position after) values memory t.store) free
    pub beyond : Beyond base m0 memory
    pub zeros : ZerosTo q memory
    pub same : Same c.values f values
    pub more : c.values ≤ after.values
    pub made : flag ≡ true → 1 ≤ after.values

  zeros_beyond : (q : ℕ) (m : List Area) → q ≤ bytes → Beyond base m0 m → Beyond base m0 (with_bytes m base (replicate q 0))
  zeros_beyond q m le h = record {
    areas = shapes-with_bytes m base (replicate q 0) ∙ h.areas;
    rises = rising-with_bytes m 0 base (replicate q 0) h.rises;
    bytes = of_bytes-with_bytes m base (replicate q 0) (zero_bytes q) h.bytes;
    same = λ x n out. bytes_at-with_bytes_apart m base (replicate q 0) x n (apart x n out) ∙ h.same x n out;
  }
    where
      apart : (x n : ℕ) → (x + n ≤ base) ⊎ (heap_base ≤ x) → (x + n ≤ base) ⊎ (base + length {A = ℕ} (replicate q 0) ≤ x)
      apart x n (inl low) = inl low
      apart x n (inr high) = let e = zeros_long q in inr (omega (arith, high, e, le, few))

  module _ (most k n q : ℕ) (whole : q ≡ 8 * n) (some : n ≤ k) (many : k ≤ q) (fits_bytes : q ≤ bytes) (c : Cursor) (f : ℕ → ℕ) (s : At Objects) (all : ℕ) (all_is : all ≡ bytes) (free : (Point → ℕ) → ℕ) (within : (h : Point → ℕ) → h (In_routine ZeroAtCell) + free h ≤ weigh h w.points)
      (stands : Standing w.procedures l.proc (zeroing true all q c).pieces) where
    abbrev low : Cursor
    low = (const q (emits (LocalAt all) [] c).after).after

    abbrev f1 : ℕ → ℕ
    f1 = set f c.values (sub64 l.local all)

    abbrev f2 : ℕ → ℕ
    f2 = set f1 (suc c.values) q

    abbrev fr2 : Frame
    fr2 = frame_at l (position low) f2

    abbrev op : Op
    op = record { code = Zero; uses = c.values ∷ suc c.values ∷ []; def = None }

    -- from before the operation's address to behind it
    pub zeroes_go : (m : List Area) (room : (Point → ℕ) → ℕ) → ((h : Point → ℕ) → bulk l.proc (zeroing true all q c).pieces h + (free h + (h (In_routine ZeroAtHead) + h (In_routine ZeroAtCell))) ≤ room h)
        → Came_to w most 1 s.turns s.out (runs_at w l (position c) f m s.store) room → Beyond base m0 m → Goes w (spend_all k s) (Zeroed most q true c (zeroing true all q c).after f s free)
    zeroes_go m room fits at beyond =
        let place : f2 c.values ≡ base = put_else (suc c.values) q f1 c.values (λ e. absurd (omega (arith, e))) ∙ put_here c.values (sub64 l.local all) f ∙ ap (sub64 l.local) all_is ∙ omega (arith, locals, few) in
        let count : f2 (suc c.values) ≡ q = put_here (suc c.values) q f1 in
        let c1 = (emits (LocalAt all) [] c).after in
        let cells = λ (h : Point → ℕ). free h + h (In_routine ZeroAtCell) in
        let behind_zero = λ (h : Point → ℕ). cells h + h (In_routine ZeroAtHead) in
        let behind_const = λ (h : Point → ℕ). h (In l.proc low.block low.op) + behind_zero h in
        let behind_local = λ (h : Point → ℕ). h (In l.proc c1.block c1.op) + behind_const h in
        let small : base + q + 8 < 2 ^ 64 = omega (arith, few, fits_bytes) in
        let cover : covers m base q ≡ true = covers-shapes m base q ∙ ap (λ ss. covered ss base q) beyond.areas ∙ covers_own base q (omega arith) (omega (arith, fits_bytes)) in
        goes_on w l (spend_all k s)
        (loop_goes w l base q m low f2 s.store free small beyond.rises cover within n k most 1 s whole some many
        (subst (λ y. Came_to w most 1 s.turns s.out (Works (ZeroCell base q 0) fr2 l.callers (world_of w l y s.store)) (λ h. h (In_routine ZeroAtCell) + free h)) (sym (with_bytes-none_given m base))
        (loosen (system w) (least w.procedures) w.points w.first w.turns most 1 (λ h. h (In_routine ZeroAtCell) + free h)
        (pass_quiet (system w) (least w.procedures) w.points w.first w.turns 1 cells (In_routine ZeroAtHead) (Works (ZeroCell base q 0) fr2 l.callers (world_of w l m s.store))
        (pass_quiet (system w) (least w.procedures) w.points w.first w.turns 1 behind_zero (In l.proc low.block low.op) (Works (ZeroHead base q) fr2 l.callers (world_of w l m s.store))
        (pass_quiet (system w) (least w.procedures) w.points w.first w.turns 1 behind_const (In l.proc c1.block c1.op) (runs_at w l (position low) f2 m s.store)
        (pass_quiet (system w) (least w.procedures) w.points w.first w.turns 1 behind_local (In l.proc c.block c.op) (runs_at w l (position c1) f1 m s.store) at refl
        (op_step w l (position c) f m s.store (record { code = LocalAt all; uses = []; def = Some c.values }) stands.0) (λ h. let z = fits h in omega (arith, z)) (omega arith))
        refl (op_step w l (position c1) f1 m s.store (record { code = Const q; uses = []; def = Some (suc c.values) }) stands.1.0) (λ h. omega arith) (omega arith))
        refl (op_step w l (position low) f2 m s.store op (stands.1.1.0.0, stands.1.1.0.1) ∙ ap₂ (λ x y. Moves [] (Works (ZeroHead x y) fr2 l.callers (world_of w l m s.store))) place count) (λ h. omega arith) (omega arith))
        refl refl (λ h. omega arith) (omega arith))
        (omega arith) (omega arith) (λ h. omega arith))))
        (λ u t d. record {
          store = d.store;
          bound = d.bound;
          less = d.less;
          values = f2;
          memory = with_bytes m base (replicate q 0);
          reached = subst (λ z. Came_to w d.bound 1 t.turns t.out (runs_at w l (position (zeroing true all q c).after) f2 (with_bytes m base (replicate q 0)) z) free) (sym d.store)
              (pass_quiet (system w) (least w.procedures) w.points w.first w.turns 1 free (In_routine ZeroAtCell) (runs_at w l (position (zeroing true all q c).after) f2 (with_bytes m base (replicate q 0)) s.store) d.reached refl
              (cell_over w l base q m low f2 s.store free small beyond.rises cover within op stands.1.1.0.0 stands.1.1.0.1 refl) (λ h. omega arith) (omega arith));
          beyond = zeros_beyond q m fits_bytes beyond;
          zeros = λ x n lo hi. part_zero m x n cover beyond.rises lo hi;
          same = same_on c.values (suc c.values) f f1 f2 (omega arith) (put_same c.values c.values (sub64 l.local all) f (omega arith)) (put_same (suc c.values) (suc c.values) q f1 (omega arith));
          more = omega arith;
          made = λ e. omega arith;
        })
      where
        part_zero : (m : List Area) (x n : ℕ) → covers m base q ≡ true → IsRising 0 m → base ≤ x → x + n ≤ base + q → bytes_at (with_bytes m base (replicate q 0)) x n ≡ replicate n 0
        part_zero m x n cover rises lo hi =
            let i = x - base in
            let at : x ≡ base + (x - base) = omega (arith, lo) in
            let long = zeros_long q in
            ap (λ y. bytes_at (with_bytes m base (replicate q 0)) y n) at
            ∙ bytes_at-piece m base (replicate q 0) (x - base) n rises (ap (covers m base) long ∙ cover) (omega (arith, lo, hi, long))
            ∙ zeros_slab q (x - base) n (omega (arith, lo, hi))

  -- where there are structured variables, or none
  pub zeroing_goes : (most k n q : ℕ) (c : Cursor) (f : ℕ → ℕ) (s : At Objects) (all : ℕ) (m : List Area) (room free : (Point → ℕ) → ℕ) (flag : Bool) → q ≡ 8 * n → n ≤ k → k ≤ q → q ≤ bytes → all ≡ bytes → (flag ≡ false → q ≡ 0) → ((h : Point → ℕ) → free h + shared h ≤ weigh h w.points)
      → Standing w.procedures l.proc (zeroing flag all q c).pieces → ((h : Point → ℕ) → bulk l.proc (zeroing flag all q c).pieces h + (free h + shared h) ≤ room h)
      → Came_to w most 1 s.turns s.out (runs_at w l (position c) f m s.store) room → Beyond base m0 m → Goes w (spend_all k s) (Zeroed most q flag c (zeroing flag all q c).after f s free)
  zeroing_goes most k n q c f s all m room free true whole some many fits_bytes all_is none within stands fits at beyond =
      zeroes_go most k n q whole some many fits_bytes c f s all all_is free (λ h. let z = within h in omega (arith, z)) stands m room (λ h. let z = fits h in omega (arith, z)) at beyond
  zeroing_goes most k n q c f s all m room free false whole some many fits_bytes all_is none within stands fits at beyond =
      let e = none refl in
      let no_cells : k ≡ 0 = omega (arith, many, e) in
      goes_here w l (spend_all k s) tt s (ap (λ n. spend_all n s) no_cells) (record {
        store = refl;
        bound = most;
        less = omega arith;
        values = f;
        memory = m;
        reached = loosen (system w) (least w.procedures) w.points w.first w.turns most 1 free at (omega arith) (omega arith) (λ h. let z = fits h in omega (arith, z));
        beyond = beyond;
        zeros = λ x n lo hi. nothing m x n (omega (arith, lo, hi, e)) (covers-shapes m x n ∙ ap (λ ss. covered ss x n) beyond.areas ∙ covers_own x n lo (omega (arith, hi, fits_bytes)));
        same = λ u lt. refl;
        more = omega arith;
        made = λ bad. no bad;
      })
    where
      empty : (bs : List ℕ) → length bs ≡ 0 → bs ≡ []
      empty [] z = refl
      empty (b ∷ bs) z = absurd (omega (arith, z))

      nothing : (m : List Area) (x n : ℕ) → n ≡ 0 → covers m x n ≡ true → bytes_at m x n ≡ replicate n 0
      nothing m x n e cover = empty (bytes_at m x n) (length-bytes_at m x n cover ∙ e) ∙ ap (λ k. replicate k 0) (sym e)
