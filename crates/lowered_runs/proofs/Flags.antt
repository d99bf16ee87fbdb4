-- Conditions as values: a block with 1 and one with 0, and a join.
use Rattle.std.proofs.Common.{◌≡◌, ℕ, zero, suc, ◌+◌, ◌≤◌, ◌<◌, List, [], ◌∷◌, ◌++◌, slice_index, refl, sym, ap, ◌∙◌, subst, arith, None}
use Rattle.run_laws.specs.Runs.{Moves}
use Rattle.run_laws.specs.Turns.{Ending, Gives, Fails, Spent, after}
use Rattle.run_laws.specs.Turns.{State as At}
use Rattle.run_laws.proofs.Reached.{pass_quiet}
use Rattle.block_runs.specs.declared.end.End.TheVariants.{Jump}
use Rattle.block_runs.specs.States.{Point, In}
use Rattle.block_runs.specs.Steps.{set, set_all}
use Rattle.block_runs.specs.Points.{least}
use Rattle.ob_types.specs.Forms.{Truth}
use Rattle.ob_types.specs.Store.{Cell, Bits, Pointer, Store, Trap, Act, bits, bits_in}
use Rattle.ob_types.specs.Store.{Code as Procedure}
use Rattle.ob_types.specs.Operators.{holds}
use Rattle.ob_sound.proofs.Typed.{Sound, Good, HasForm, Older, older_refl}
use Rattle.ssa_lowered.specs.Pieces.{Cursor, Piece, close, fresh, plain}
use Rattle.ssa_lowered.specs.Values.{const}
use Rattle.ssa_lowered.specs.Control.{Test, flag, half, at_freq}
use Rattle.object_nodes.specs.Running.{forms_of_all}
use Rattle.lowered_runs.specs.Words.{Whole, Level, ValueIs, Later}
use Rattle.lowered_runs.proofs.Stores.{later_on}
use Rattle.lowered_runs.proofs.Values.{Same, Off, same_on, under_more, under_at, put_here, put_else, put_same, off_refl}
use Rattle.lowered_runs.proofs.Standing.{Standing, stand_first, stand_rest, bulk, bulk_append}
use Rattle.lowered_runs.proofs.Ready.{Typing, Position, system, runs_at, Goes, Ready, ready_more}
use Rattle.lowered_runs.proofs.Follows.{Fact, Anything, Fits, Follows, Done}
use Rattle.lowered_runs.proofs.Exprs.{CellIs, NumberIs, follows_const}
use Rattle.lowered_runs.proofs.Forks.{nothing, No_more, Ends_at, end_step, Went, Forks, ready_higher}
use Rattle.lowered_runs.proofs.Structures.{Begins_with}

module _ (w : Whole) (l : Level) where
  -- a jump to a block with one parameter, which is no variable
  jump_one : {most g : ℕ} {c : Position} {f : ℕ → ℕ} {s : At Store} {room : (Point → ℕ) → ℕ} (free : (Point → ℕ) → ℕ) (to v r : ℕ) → Ends_at w l c.block c.op (Jump to (r ∷ [])) → Begins_with w l to (v ∷ []) → c.values ≤ v
      → ((h : Point → ℕ) → h (In l.proc c.block c.op) + free h ≤ room h) → Ready w l most g c f s room → Ready w l most g (record { block = to; op = 0; values = suc v; env = c.env }) (set f v (f r)) s free
  jump_one {most} {g} {c} {f} {s} {room} free to v r stands is low fits q = record {
    memory = q.memory;
    reached = pass_quiet (system w) (least w.procedures) w.points w.first w.turns g free (In l.proc c.block c.op) (runs_at w l (record { block = to; op = 0; values = suc v; env = c.env }) (set f v (f r)) q.memory s.store) q.reached refl
        (end_step w l c f q.memory s.store (Jump to (r ∷ [])) stands ∙ ap (λ ps. Moves [] (runs_at w l (record { block = to; op = 0; values = suc v; env = c.env }) (set_all ps (f r ∷ []) f) q.memory s.store)) is) fits (omega arith);
    held = q.held;
    size = q.size;
    under = under_more c.values (suc v) c.env (omega (arith, low)) q.under;
    registers = λ x lt reg d at. let e = q.size in subst (λ n. ValueIs w s.store.tags d n) (sym (put_else v (f r) f (slice_index c.env x) (λ y. away (under_at c.values c.env x (omega (arith, lt, e)) q.under) y))) (q.registers x lt reg d at);
    since = q.since;
  }
    where
      away : {u : ℕ} → u < c.values → u ≡ v → ⊥
      away lt e = absurd (omega (arith, lt, e, low))

  module _ {fuel : ℕ} {K : Fact} (x : Act Cell) (test : Test) (one : Forks w l holds fuel K No_more (bits x) test) (truth : (tags : List ℕ) → Older l.store.tags tags → Sound w.program (forms_of_all w.program l.types) tags (HasForm w.program Truth) x) where
    abbrev one_at : Cursor → Cursor
    one_at c = at_freq (test c).after (half c.freq)

    abbrev zero_at : Cursor → Cursor
    zero_at c = record (fresh (const 1 (one_at c)).after) { seen = (test c).after.seen }

    abbrev last : Cursor → List Piece
    last c = (const 0 (zero_at c)).pieces ++ (close (const 0 (zero_at c)).after (Jump (suc (zero_at c).block) ((const 0 (zero_at c)).result ∷ [])) (record { params = (const 0 (zero_at c)).after.values ∷ []; freq = c.freq; enter = None; seen = (test c).after.seen }) ∷ [])

    abbrev behind : Cursor → List Piece
    behind c = (const 1 (one_at c)).pieces ++ (close (const 1 (one_at c)).after (Jump (suc (zero_at c).block) ((const 1 (one_at c)).result ∷ [])) (plain (zero_at c).freq (zero_at c).seen) ∷ last c)

    joined : (most : ℕ) (c : Cursor) (f : ℕ → ℕ) (s t : Store) (at : At Store) (free : (Point → ℕ) → ℕ) (k : ℕ) (start : Cursor) (v : ℕ → ℕ) → at.store ≡ t → start.env ≡ c.env → c.values ≤ start.values → start.values ≤ suc (test c).after.values → k < 2 → Later w l s t → Same c.values f v → Typing w l t
        → Ends_at w l start.block (suc start.op) (Jump (suc (zero_at c).block) (start.values ∷ [])) → Begins_with w l (suc (zero_at c).block) ((const 0 (zero_at c)).after.values ∷ [])
        → Done w l (λ (u : Unit {0}) i. NumberIs w l k i) nothing most 1 start (const k start) t v (λ h. h (In l.proc start.block (suc start.op)) + free h) tt at
        → Done w l (CellIs w l) nothing most 1 c (flag test c) s f free (Bits k) at
    joined most c f s t at free k start v is env low high small later same typed stands begins z =
        let top = (const 0 (zero_at c)).after.values in
        let grown = one.grows c in
        let r = jump_one free (suc (zero_at c).block) top start.values stands begins (omega (arith, high)) (λ h. omega arith) z.ready in
        record {
          values = set z.values top (z.values start.values);
          ready = subst (λ e. Ready w l most 1 (record { block = suc (zero_at c).block; op = 0; values = suc top; env = e }) (set z.values top (z.values start.values)) at free) (env ∙ sym (one.env c)) r;
          later = later_on w l s t at.store later z.later;
          is = (omega arith, (put_here top (z.values start.values) z.values ∙ z.is.1.0, omega (arith, small)));
          same = same_on c.values start.values f z.values (set z.values top (z.values start.values)) low (same_on c.values start.values f v z.values low same z.same) (put_same start.values top (z.values start.values) z.values (omega (arith, high)));
          off = subst (λ e. Off nothing c.env e) (sym (one.env c)) (off_refl nothing c.env);
          typed = z.typed;
        }

    pub follows_flag : Follows w l 0 fuel nothing K (CellIs w l) x (flag test)
    follows_flag = record {
      grows = record { by = λ c. let a = one.grows c in omega (arith, a) };
      by = λ most g c f s room free le needs few stands fits within known typed r.
          let ps = (test c).pieces (one_at c).block (zero_at c).block (half c.freq) in
          let go = one.by most g c (one_at c).block (zero_at c).block (half c.freq) f s room (λ h. bulk l.proc (behind c) h + free h) le few (stand_first w.procedures l.proc ps (behind c) stands)
          (λ h. let z = fits h in omega (arith, z, bulk_append l.proc ps (behind c) h)) (λ h. let z = within h in omega (arith, z, bulk_append l.proc ps (behind c) h)) known typed r in
          by_ending most g c f s free le few (stand_rest w.procedures l.proc ps (behind c) stands) (λ h. let z = within h in omega (arith, z, bulk_append l.proc ps (behind c) h)) (x s) ((truth s.store.tags (λ o k is. r.since.tag o k is)).by s (older_refl s.store.tags) typed) go;
    }
      where
        ways : (most g : ℕ) (c : Cursor) (f : ℕ → ℕ) (s : At Store) (free : (Point → ℕ) → ℕ) → most ≤ fuel → Standing w.procedures l.proc (behind c) → Fits w l (behind c) free → (k : ℕ) (t : At Store) → k < 2
            → Went w l holds No_more most c (test c).after (one_at c).block (zero_at c).block s.store f (λ h. bulk l.proc (behind c) h + free h) k t
            → Done w l (CellIs w l) nothing most 1 c (flag test c) s.store f free (Bits k) t
        ways most g c f s free le stands within zero t small v =
            let grown = one.grows c in
            let start = ready_higher w l (suc (test c).after.values) (omega arith) v.ready in
            let z = ((follows_const w l {need = 0} {fuel = fuel} {mask = nothing} {K = Anything} 0 (omega arith)).by most 1 (zero_at c) v.values t (λ h. bulk l.proc (behind c) h + free h) (λ h. h (In l.proc (zero_at c).block (suc (zero_at c).op)) + free h) le (omega arith) (omega arith)
            (stands.1.1.0, tt) (λ h. omega arith) (λ h. let y = within h in omega (arith, y)) tt v.typed start).by in
            joined most c f s.store t.store t free 0 (zero_at c) v.values refl (one.env c) (omega (arith, grown)) (omega arith) small v.later v.same v.typed (stands.1.1.1.0.0, stands.1.1.1.0.1) stands.1.1.1.0.2 z
        ways most g c f s free le stands within (suc zero) t small v =
            let grown = one.grows c in
            let start = subst (λ i. Ready w l most 1 (record { block = (test c).after.block; op = i; values = (test c).after.values; env = (test c).after.env }) v.values t (λ h. bulk l.proc (behind c) h + free h)) (sym (one.begins c)) v.ready in
            let z = ((follows_const w l {need = 0} {fuel = fuel} {mask = nothing} {K = Anything} 1 (omega arith)).by most 1 (one_at c) v.values t (λ h. bulk l.proc (behind c) h + free h) (λ h. h (In l.proc (one_at c).block (suc (one_at c).op)) + free h) le (omega arith) (omega arith)
            (stands.0, tt) (λ h. omega arith) (λ h. let y = within h in omega (arith, y)) tt v.typed start).by in
            joined most c f s.store t.store t free 1 (one_at c) v.values refl (one.env c) (omega (arith, grown)) (omega arith) small v.later v.same v.typed (stands.1.0.0, stands.1.0.1) stands.1.1.1.0.2 z
        ways most g c f s free le stands within (suc (suc k)) t small v = absurd (omega (arith, small))

        by_ending : (most g : ℕ) (c : Cursor) (f : ℕ → ℕ) (s : At Store) (free : (Point → ℕ) → ℕ) → most ≤ fuel → g ≤ 1 → Standing w.procedures l.proc (behind c) → Fits w l (behind c) free → (e : Ending Store Trap Cell) → Good w.program (forms_of_all w.program l.types) (HasForm w.program Truth) s.store.tags e
            → Goes w (after e bits_in) (Went w l holds No_more most c (test c).after (one_at c).block (zero_at c).block s.store f (λ h. bulk l.proc (behind c) h + free h)) → Goes w e (Done w l (CellIs w l) nothing most g c (flag test c) s.store f free)
        by_ending most g c f s free le few stands within (Gives (Bits k) t) good go = let z = ways most g c f s free le stands within k t good.2 go.by in
            record { by = record { values = z.values; ready = ready_more w l most g free z.ready (omega arith) few (λ h. omega arith); later = z.later; is = z.is; same = z.same; off = z.off; typed = z.typed } }
        by_ending most g c f s free le few stands within (Gives (Pointer o) t) good go = absurd good.2
        by_ending most g c f s free le few stands within (Gives (Procedure o) t) good go = absurd good.2
        by_ending most g c f s free le few stands within (Fails trap out) good go = record { by = go.by }
        by_ending most g c f s free le few stands within (Spent out) good go = record { by = go.by }
