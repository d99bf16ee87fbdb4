-- The routine that copies bytes, by words and then by single bytes: a word pays for the turns of as many cells as it can have.
use Rattle.std.proofs.Common.{◌≡◌, ℕ, zero, suc, ◌+◌, ◌*◌, ◌/◌, ◌%◌, ◌^◌, ◌<◌, ◌≤◌, ◌⊎◌, List, [], ◌∷◌, Bool, true, false, cond, refl, ap, ap₂, ◌∙◌, subst, arith, Some, None}
use Rattle.std.specs.Prelude.{if◌then◌else◌, nat_lt, nat_le}
use Rattle.std.proofs.lemmas.Bool.Decides.{nat_tests}
use Rattle.run_laws.specs.Runs.{Moves, weigh}
use Rattle.run_laws.specs.Turns.{give, each_so}
use Rattle.run_laws.specs.Turns.{State as At}
use Rattle.run_laws.proofs.Reached.{pass_quiet, loosen}
use Rattle.run_laws.proofs.Comes.{comes_spend}
use Rattle.a64_memory.specs.Memory.{Area, covers, bytes_at, with_bytes, load1, load8, loaded1, loaded8, store1, store8, stored1, stored8, IsRising, IsOfBytes}
use Rattle.a64_memory.proofs.Stores.{covers-with_bytes}
use Rattle.a64_memory.proofs.Blocks.{covers-part}
use Rattle.a64_memory.proofs.Copies.{copy_more_8, copy_more_1}
use Rattle.wrapping_numbers.specs.Numbers.{add64}
use Rattle.block_runs.specs.Blocks.{Operation}
use Rattle.block_runs.specs.States.{Frame, State, Works, CopyCell, CopyTail, Point}
use Rattle.block_runs.specs.States.{At as In_routine, CopyAtCell, CopyAtTail}
use Rattle.block_runs.specs.Steps.{resumed, rest_of}
use Rattle.block_runs.specs.Steps.{moved as moved_by}
use Rattle.block_runs.specs.Points.{least}
use Rattle.ob_types.specs.Sense.{HasSense}
use Rattle.ob_types.specs.Store.{Act, spend_all}
use Rattle.ob_types.specs.Store.{Store as Objects}
use Rattle.ssa_core.specs.declared.procedure.Op.{Op}
use Rattle.ssa_core.specs.Procedures.{operation_of}
use Rattle.ssa_lowered.specs.Pieces.{Cursor}
use Rattle.lowered_runs.specs.Words.{same_trap, Whole, Level}
use Rattle.lowered_runs.proofs.Ready.{position, system, world_of, frame_at, runs_at, Goes, Came_to}
use Rattle.lowered_runs.proofs.Follows.{goes_on, goes_here}

-- turns alone
abbrev pub waits : ℕ → Act Bool
waits i = give true

module _ (w : Whole) (l : Level) where
  -- behind turns: the same store, at a state, with room for what is left
  pub record Waited (most : ℕ) (place : State) (rest : (Point → ℕ) → ℕ) (s : At Objects) (u : Unit {0}) (t : At Objects) : Type 0 where
    pub store : t.store ≡ s.store
    pub bound : ℕ
    pub less : bound ≤ most
    pub reached : Came_to w bound 0 t.turns t.out place rest

  pub sooner : (more most : ℕ) (place : State) (rest : (Point → ℕ) → ℕ) (s : At Objects) (n : ℕ) (u : Unit {0}) (t : At Objects) → more ≤ most → Waited more place rest (record s { turns = n }) u t → Waited most place rest s u t
  sooner more most place rest s n u t le d = let less = d.less in record { store = d.store; bound = d.bound; less = omega (arith, le, less); reached = d.reached }

  -- turns that are paid for
  pub waits_paid : (k i most g : ℕ) (s : At Objects) (place : State) (free rest : (Point → ℕ) → ℕ) → ((h : Point → ℕ) → rest h ≤ weigh h w.points) → k ≤ g → ((h : Point → ℕ) → rest h ≤ free h) → Came_to w most g s.turns s.out place free → Goes w (each_so k i waits s) (Waited most place rest s)
  waits_paid zero i most g s place free rest fits paid le r = goes_here w l (each_so zero i waits s) tt s refl (record {
    store = refl;
    bound = most;
    less = omega arith;
    reached = loosen (system w) (least w.procedures) w.points w.first w.turns most 0 rest r (omega arith) (omega arith) le;
  })
  waits_paid (suc k) i most g s place free rest fits paid le r =
      let bound = r.bound in
      comes_spend HasSense (system w) (least w.procedures) w.points w.first w.turns same_trap s (λ u. each_so k (suc i) waits) rest
      (loosen (system w) (least w.procedures) w.points w.first w.turns most (suc k) free r (omega arith) paid (λ h. omega arith)) fits
      (λ n is reached. goes_on w l (each_so k (suc i) waits (record s { turns = n }))
      (waits_paid k (suc i) n k (record s { turns = n }) place rest rest fits (omega arith) (λ h. omega arith) reached)
      (λ u t d. sooner n most place rest s n u t (omega (arith, is, bound)) d))

  module _ (x y q : ℕ) (m : List Area) (c : Cursor) (f : ℕ → ℕ) (s : Objects) (free : (Point → ℕ) → ℕ) (few_to : x + q + 8 < 2 ^ 64) (few_from : y + q + 8 < 2 ^ 64) (rises : IsRising 0 m) (are : IsOfBytes m)
      (room_to : covers m x q ≡ true) (room_from : covers m y q ≡ true) (apart : (x ≤ y) ⊎ (y + q ≤ x)) (within : (h : Point → ℕ) → h (In_routine CopyAtCell) + (h (In_routine CopyAtTail) + free h) ≤ weigh h w.points) where
    -- where d bytes have been copied
    abbrev pub during : ℕ → List Area
    during d = with_bytes m x (bytes_at m y d)

    abbrev fr : Frame
    fr = frame_at l (position c) f

    abbrev pub at_cell : ℕ → State
    at_cell d = Works (CopyCell x y q d) fr l.callers (world_of w l (during d) s)

    abbrev pub at_tail : ℕ → State
    at_tail d = Works (CopyTail x y q d) fr l.callers (world_of w l (during d) s)

    abbrev pub tail_room : (Point → ℕ) → ℕ
    tail_room h = h (In_routine CopyAtTail) + free h

    abbrev pub cell_room : (Point → ℕ) → ℕ
    cell_room h = h (In_routine CopyAtCell) + tail_room h

    has_to : (d k : ℕ) → d + k ≤ q → covers (during d) (x + d) k ≡ true
    has_to d k le = covers-with_bytes m x (bytes_at m y d) (x + d) k ∙ covers-part m x q (x + d) k room_to (omega arith) (omega (arith, le))

    has_from : (d k : ℕ) → d + k ≤ q → covers (during d) (y + d) k ≡ true
    has_from d k le = covers-with_bytes m x (bytes_at m y d) (y + d) k ∙ covers-part m y q (y + d) k room_from (omega arith) (omega (arith, le))

    says_cell : (d : ℕ) → (system w).step (at_cell d) ≡ (if nat_lt q (add64 d 8) then Moves [] (at_tail d)
        else moved_by (store8 (during d)) (add64 y d) (load8 (during d) (add64 y d)) (add64 x d) (CopyCell x y q (add64 d 8)) fr l.callers (world_of w l (during d) s))
    says_cell d = refl

    cell_step : (d : ℕ) → d + 8 ≤ q → (system w).step (at_cell d) ≡ Moves [] (at_cell (d + 8))
    cell_step d le =
        let ahead : add64 d 8 ≡ d + 8 = omega (arith, le, few_to) in
        let to : add64 x d ≡ x + d = omega (arith, le, few_to) in
        let from : add64 y d ≡ y + d = omega (arith, le, few_from) in
        let not_yet : nat_lt q (add64 d 8) ≡ false = ap (nat_lt q) ahead ∙ not_less (d + 8) q le in
        let t = during d in
        says_cell d
        ∙ ap (λ b. if b then Moves [] (at_tail d) else moved_by (store8 t) (add64 y d) (load8 t (add64 y d)) (add64 x d) (CopyCell x y q (add64 d 8)) fr l.callers (world_of w l t s)) not_yet
        ∙ ap₂ (λ i o. moved_by (store8 t) i (load8 t i) o (CopyCell x y q (add64 d 8)) fr l.callers (world_of w l t s)) from to
        ∙ ap (λ e. moved_by (store8 t) (y + d) (load8 t (y + d)) (x + d) (CopyCell x y q e) fr l.callers (world_of w l t s)) ahead
        ∙ ap (λ b. moved_by (store8 t) (y + d) (cond b (Some (loaded8 t (y + d))) None) (x + d) (CopyCell x y q (d + 8)) fr l.callers (world_of w l t s)) (has_from d 8 le)
        ∙ ap (λ b. moved_by (λ o v. cond b (Some (stored8 t (x + d) v)) None) (y + d) (Some (loaded8 t (y + d))) (x + d) (CopyCell x y q (d + 8)) fr l.callers (world_of w l t s)) (has_to d 8 le)
        ∙ ap (λ m2. Moves [] (Works (CopyCell x y q (d + 8)) fr l.callers (world_of w l m2 s))) (copy_more_8 m 0 x y d q rises are room_to room_from le apart)
      where
        not_less : (a b : ℕ) → a ≤ b → nat_lt b a ≡ false
        not_less a b le = grind (arith, nat_tests)

    cell_over : (d : ℕ) → d ≤ q → q < d + 8 → (system w).step (at_cell d) ≡ Moves [] (at_tail d)
    cell_over d le lt =
        let ahead : add64 d 8 ≡ d + 8 = omega (arith, le, few_to) in
        let yet : nat_lt q (add64 d 8) ≡ true = ap (nat_lt q) ahead ∙ is_less q (d + 8) lt in
        let t = during d in
        says_cell d ∙ ap (λ b. if b then Moves [] (at_tail d) else moved_by (store8 t) (add64 y d) (load8 t (add64 y d)) (add64 x d) (CopyCell x y q (add64 d 8)) fr l.callers (world_of w l t s)) yet
      where
        is_less : (a b : ℕ) → a < b → nat_lt a b ≡ true
        is_less a b lt = grind (arith, nat_tests)

    says_tail : (d : ℕ) → (system w).step (at_tail d) ≡ (if nat_le q d then resumed (rest_of w.procedures fr) fr l.callers (world_of w l (during d) s) None
        else moved_by (store1 (during d)) (add64 y d) (load1 (during d) (add64 y d)) (add64 x d) (CopyTail x y q (add64 d 1)) fr l.callers (world_of w l (during d) s))
    says_tail d = refl

    tail_step : (d : ℕ) → d + 1 ≤ q → (system w).step (at_tail d) ≡ Moves [] (at_tail (d + 1))
    tail_step d le =
        let ahead : add64 d 1 ≡ d + 1 = omega (arith, le, few_to) in
        let to : add64 x d ≡ x + d = omega (arith, le, few_to) in
        let from : add64 y d ≡ y + d = omega (arith, le, few_from) in
        let not_yet : nat_le q d ≡ false = more q d le in
        let t = during d in
        says_tail d
        ∙ ap (λ b. if b then resumed (rest_of w.procedures fr) fr l.callers (world_of w l t s) None else moved_by (store1 t) (add64 y d) (load1 t (add64 y d)) (add64 x d) (CopyTail x y q (add64 d 1)) fr l.callers (world_of w l t s)) not_yet
        ∙ ap₂ (λ i o. moved_by (store1 t) i (load1 t i) o (CopyTail x y q (add64 d 1)) fr l.callers (world_of w l t s)) from to
        ∙ ap (λ e. moved_by (store1 t) (y + d) (load1 t (y + d)) (x + d) (CopyTail x y q e) fr l.callers (world_of w l t s)) ahead
        ∙ ap (λ b. moved_by (store1 t) (y + d) (cond b (Some (loaded1 t (y + d))) None) (x + d) (CopyTail x y q (d + 1)) fr l.callers (world_of w l t s)) (has_from d 1 le)
        ∙ ap (λ b. moved_by (λ o v. cond b (Some (stored1 t (x + d) v)) None) (y + d) (Some (loaded1 t (y + d))) (x + d) (CopyTail x y q (d + 1)) fr l.callers (world_of w l t s)) (has_to d 1 le)
        ∙ ap (λ m2. Moves [] (Works (CopyTail x y q (d + 1)) fr l.callers (world_of w l m2 s))) (copy_more_1 m 0 x y d q rises are room_to room_from le apart)
      where
        more : (a b : ℕ) → b + 1 ≤ a → nat_le a b ≡ false
        more a b le = grind (arith, nat_tests)

    -- behind the last byte
    pub tail_over : (op : Op) (rest : List Operation) → rest_of w.procedures fr ≡ operation_of op ∷ rest → op.def ≡ None → (system w).step (at_tail q) ≡ Moves [] (runs_at w l (record { block = c.block; op = suc c.op; values = c.values; env = c.env }) f (during q) s)
    tail_over op rest is none =
        let t = during q in
        says_tail q
        ∙ ap (λ b. if b then resumed (rest_of w.procedures fr) fr l.callers (world_of w l t s) None else moved_by (store1 t) (add64 y q) (load1 t (add64 y q)) (add64 x q) (CopyTail x y q (add64 q 1)) fr l.callers (world_of w l t s)) (all_done q)
        ∙ ap (λ ops. resumed ops fr l.callers (world_of w l t s) None) is ∙ ap (λ d. resumed (operation_of (record op { def = d }) ∷ rest) fr l.callers (world_of w l t s) None) none
      where
        all_done : (a : ℕ) → nat_le a a ≡ true
        all_done a = grind (arith, nat_tests)

    -- a turn for each single byte, and all that are left behind the last one
    tail_go : (t d k i most g : ℕ) (st : At Objects) (room : (Point → ℕ) → ℕ) → d + t ≡ q → t ≤ k → k ≤ 8 * t + g → ((h : Point → ℕ) → tail_room h ≤ room h) → Came_to w most g st.turns st.out (at_tail d) room → Goes w (each_so k i waits st) (Waited most (at_tail q) tail_room st)
    tail_go zero d k i most g st room is some pays has r =
        let e : d ≡ q = omega (arith, is) in
        waits_paid k i most g st (at_tail q) room tail_room (λ h. let z = within h in omega (arith, z)) (omega (arith, pays)) has (subst (λ d. Came_to w most g st.turns st.out (at_tail d) room) e r)
    tail_go (suc t) d zero i most g st room is some pays has r = absurd (omega (arith, some))
    tail_go (suc t) d (suc k) i most g st room is some pays has r =
        let bound = r.bound in
        comes_spend HasSense (system w) (least w.procedures) w.points w.first w.turns same_trap st (λ u. each_so k (suc i) waits) tail_room
        (pass_quiet (system w) (least w.procedures) w.points w.first w.turns (suc (g + 7)) free (In_routine CopyAtTail) (at_tail (d + 1)) r refl (tail_step d (omega (arith, is))) (λ h. has h) (omega arith))
        (λ h. let z = within h in omega (arith, z))
        (λ n turns reached. goes_on w l (each_so k (suc i) waits (record st { turns = n }))
        (tail_go t (d + 1) k (suc i) n (g + 7) (record st { turns = n }) tail_room (omega (arith, is)) (omega (arith, some)) (omega (arith, pays)) (λ h. omega arith) reached)
        (λ u v z. sooner n most (at_tail q) tail_room st n u v (omega (arith, turns, bound)) z))

    -- the same of words
    cells_go : (n t d k i most g : ℕ) (st : At Objects) (room : (Point → ℕ) → ℕ) → d + (8 * n + t) ≡ q → t < 8 → n + t ≤ k → k ≤ 8 * (n + t) + g → ((h : Point → ℕ) → cell_room h ≤ room h) → Came_to w most g st.turns st.out (at_cell d) room → Goes w (each_so k i waits st) (Waited most (at_tail q) tail_room st)
    cells_go zero t d k i most g st room is few some pays has r =
        tail_go t d k i most g st tail_room (omega (arith, is)) (omega (arith, some)) (omega (arith, pays)) (λ h. omega arith)
        (pass_quiet (system w) (least w.procedures) w.points w.first w.turns g tail_room (In_routine CopyAtCell) (at_tail d) r refl (cell_over d (omega (arith, is)) (omega (arith, is, few))) (λ h. has h) (omega arith))
    cells_go (suc n) t d zero i most g st room is few some pays has r = absurd (omega (arith, some))
    cells_go (suc n) t d (suc k) i most g st room is few some pays has r =
        let bound = r.bound in
        comes_spend HasSense (system w) (least w.procedures) w.points w.first w.turns same_trap st (λ u. each_so k (suc i) waits) cell_room
        (pass_quiet (system w) (least w.procedures) w.points w.first w.turns (suc (g + 7)) tail_room (In_routine CopyAtCell) (at_cell (d + 8)) r refl (cell_step d (omega (arith, is))) (λ h. has h) (omega arith))
        (λ h. let z = within h in omega (arith, z))
        (λ turns_left turns reached. goes_on w l (each_so k (suc i) waits (record st { turns = turns_left }))
        (cells_go n t (d + 8) k (suc i) turns_left (g + 7) (record st { turns = turns_left }) cell_room (omega (arith, is)) few (omega (arith, some)) (omega (arith, pays)) (λ h. omega arith) reached)
        (λ u v z. sooner turns_left most (at_tail q) tail_room st turns_left u v (omega (arith, turns, bound)) z))

    -- as many turns as there are cells, where no more words and single bytes are moved, and no fewer bytes
    pub copy_goes : (n most g : ℕ) (st : At Objects) → q / 8 + q % 8 ≤ n → n ≤ q → Came_to w most g st.turns st.out (at_cell 0) cell_room → Goes w (spend_all n st) (Waited most (at_tail q) tail_room st)
    copy_goes n most g st few some r = cells_go (q / 8) (q % 8) 0 n 0 most g st cell_room (omega arith) (omega arith) few (omega (arith, some)) (λ h. omega arith) r
