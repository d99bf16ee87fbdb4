-- IF, WHILE, FOR and REPEAT: joins, loops and their moments.
use Rattle.std.proofs.Common.{◌≡◌, ℕ, suc, ◌+◌, ◌≤◌, List, [], ◌∷◌, ◌++◌, length, map, Bool, true, false, cond, slice_index, refl, sym, ap, ◌∙◌, subst, arith, None}
use Rattle.std.specs.Prelude.{if◌then◌else◌, MatchBool}
use Rattle.run_laws.specs.Runs.{Moves, weigh}
use Rattle.run_laws.specs.Turns.{give, ◌>>=◌, until_so}
use Rattle.run_laws.specs.Turns.{State as At, repeat as repeated}
use Rattle.run_laws.proofs.Reached.{pass_quiet, moment}
use Rattle.run_laws.proofs.Comes.{comes_repeat}
use Rattle.block_runs.specs.declared.end.End.TheVariants.{Jump}
use Rattle.block_runs.specs.Blocks.{block_of, procedure_of}
use Rattle.block_runs.specs.States.{Point, In}
use Rattle.block_runs.specs.Steps.{set_all}
use Rattle.block_runs.specs.Points.{least}
use Rattle.ob_types.specs.Sense.{HasSense}
use Rattle.ob_types.specs.Store.{Cell, Store, Act, bits}
use Rattle.ob_types.specs.Operators.{holds}
use Rattle.ob_types.specs.Statements.{Deed, test, try}
use Rattle.ssa_lowered.specs.Pieces.{Cursor, Piece, Made, Low, Mask, close, fresh, plain, params, merged, beyond, picked, join, join_start}
use Rattle.ssa_lowered.specs.Control.{Test, half, often, at_freq, choose, Round, behind, rounds, loop, repeat}
use Rattle.lowered_runs.specs.Words.{same_trap, Whole, Level, ValueIs, Later}
use Rattle.lowered_runs.proofs.Stores.{later_on, later_refl}
use Rattle.lowered_runs.proofs.Values.{Under, Same, Off, same_on, under_more, map_at, off_refl, off_on, off_merged, size_merged, under_merged, beyond_more, enter_same, enter_merged}
use Rattle.lowered_runs.proofs.Standing.{Standing, stand_first, stand_rest, bulk, bulk_append}
use Rattle.lowered_runs.proofs.Ready.{Typing, Position, position, system, runs_at, Goes, Ready, ready_more}
use Rattle.lowered_runs.proofs.Follows.{Fact, Steady, Fits, Follows, Done, then_goes, goes_on}
use Rattle.lowered_runs.proofs.Forks.{No_more, Ends_at, end_step, Went, Forks, forks_as, ready_higher}

abbrev pub Always : Unit {0} → Unit {0} → Fact
Always u v n f s = Unit {0}

-- a condition says itself
abbrev pub itself : Bool → Bool
itself b = b

module _ (w : Whole) (l : Level) where
  -- the parameters with which a block begins
  abbrev pub Begins_with : ℕ → List ℕ → Type 0
  Begins_with b ps = (block_of (procedure_of w.procedures l.proc) b).params ≡ ps

  -- a jump gives the variables that change to the parameters
  pub jump : {most g : ℕ} {c : Position} {f : ℕ → ℕ} {s : At Store} {room : (Point → ℕ) → ℕ} (free : (Point → ℕ) → ℕ) (to v : ℕ) (mask : Mask) (base : List ℕ) → Ends_at w l c.block c.op (Jump to (picked mask c.env)) → Begins_with to (params mask v base) → Off mask base c.env → length base ≡ l.count → Under v base
      → ((h : Point → ℕ) → h (In l.proc c.block c.op) + free h ≤ room h) → Ready w l most g c f s room → Ready w l most g (record { block = to; op = 0; values = beyond mask v base; env = merged mask v base }) (set_all (params mask v base) (map f (picked mask c.env)) f) s free
  jump {most} {g} {c} {f} {s} {room} free to v mask base stands is off size under fits r = record {
    memory = r.memory;
    reached = pass_quiet (system w) (least w.procedures) w.points w.first w.turns g free (In l.proc c.block c.op)
        (runs_at w l (record { block = to; op = 0; values = beyond mask v base; env = merged mask v base }) (set_all (params mask v base) (map f (picked mask c.env)) f) r.memory s.store) r.reached refl
        (end_step w l c f r.memory s.store (Jump to (picked mask c.env)) stands ∙ ap (λ ps. Moves [] (runs_at w l (record { block = to; op = 0; values = beyond mask v base; env = merged mask v base }) (set_all ps (map f (picked mask c.env)) f) r.memory s.store)) is) fits (omega arith);
    held = r.held;
    size = size_merged mask v base ∙ size;
    under = under_merged mask v base under;
    registers = λ x lt reg d at.
        let g2 = set_all (params mask v base) (map f (picked mask c.env)) f in
        let long = size_merged mask v base in
        let other = off.size in
        let e : f (slice_index c.env x) ≡ g2 (slice_index (merged mask v base) x) = sym (map_at f c.env x (omega (arith, lt, other, size))) ∙ sym (ap (λ us. slice_index us x) (enter_merged mask v base c.env f off under)) ∙ map_at g2 (merged mask v base) x (omega (arith, lt, long, size)) in
        subst (λ n. ValueIs w s.store.tags d n) e (r.registers x lt reg d at);
    since = r.since;
  }

  -- a moment: with a turn left, one less and room anew
  pub ready_moment : {m g : ℕ} {c : Position} {f : ℕ → ℕ} {s : At Store} {room : (Point → ℕ) → ℕ} (n : ℕ) (free : (Point → ℕ) → ℕ) → s.turns ≡ suc n → ((h : Point → ℕ) → free h ≤ weigh h w.points) → Ready w l m (suc g) c f s room → Ready w l n g c f (record s { turns = n }) free
  ready_moment n free is fits r = record {
    memory = r.memory;
    reached = moment (system w) (least w.procedures) w.points w.first w.turns n free r.reached is fits;
    held = r.held;
    size = r.size;
    under = r.under;
    registers = r.registers;
    since = r.since;
  }

  -- the condition of a statement
  pub forks_test : {fuel : ℕ} {K : Fact} (x : Act Cell) {t : Test} → Forks w l holds fuel K No_more (bits x) t → Forks w l itself fuel K No_more (test x) t
  forks_test x one = forks_as w l (test x) (λ k. give (holds k)) (λ s. refl) (λ k v f s h. (holds k, refl, refl, tt)) one

  ---- IF

  module _ {fuel : ℕ} {K : Fact} (mask : Mask) (x : Act Bool) (tries : Test) (m n : Deed) (lone ltwo : Low (Unit {0})) (steady : Steady w l K) (condition : Forks w l itself fuel K No_more x tries) (one : Follows w l 1 fuel mask K Always m lone) (two : Follows w l 1 fuel mask K Always n ltwo) where
    abbrev yes_at : Cursor → Cursor
    yes_at c = at_freq (tries c).after (half c.freq)

    abbrev no_at : Cursor → Cursor
    no_at c = record (fresh (lone (yes_at c)).after) { freq = half c.freq; env = (tries c).after.env; seen = (tries c).after.seen }

    abbrev out_at : Cursor → Cursor
    out_at c = join mask (ltwo (no_at c)).after (no_at c) c.freq

    abbrev close_one : Cursor → Piece
    close_one c = close (lone (yes_at c)).after (Jump (out_at c).block (picked mask (lone (yes_at c)).after.env)) (plain (no_at c).freq (no_at c).seen)

    abbrev close_two : Cursor → Piece
    close_two c = close (ltwo (no_at c)).after (Jump (out_at c).block (picked mask (ltwo (no_at c)).after.env)) (join_start mask (ltwo (no_at c)).after (no_at c) c.freq None)

    abbrev tests : Cursor → List Piece
    tests c = (tries c).pieces (tries c).after.block (no_at c).block (half c.freq)

    abbrev behind_one : Cursor → List Piece
    behind_one c = close_one c ∷ ((ltwo (no_at c)).pieces ++ (close_two c ∷ []))

    grows_out : (c : Cursor) → c.values ≤ (out_at c).values
    grows_out c =
        let a = condition.grows c in
        let b = one.grows.by (yes_at c) in
        let d = two.grows.by (no_at c) in
        let e = beyond_more mask (ltwo (no_at c)).after.values (tries c).after.env in
        omega (arith, a, b, d, e)

    -- from the end of an arm to the join
    joins : (most : ℕ) (c : Cursor) (s : Store) (f : ℕ → ℕ) (free : (Point → ℕ) → ℕ) (v : ℕ → ℕ) (t : Store) (start : Cursor) (d : Made (Unit {0})) (u : At Store)
        → start.env ≡ (tries c).after.env → (tries c).after.values ≤ start.values → start.values ≤ d.after.values → d.after.values ≤ (ltwo (no_at c)).after.values
        → Ends_at w l d.after.block d.after.op (Jump (out_at c).block (picked mask d.after.env)) → Begins_with (out_at c).block (params mask (ltwo (no_at c)).after.values (tries c).after.env)
        → length (tries c).after.env ≡ l.count → Under (tries c).after.values (tries c).after.env → Later w l s t → Same c.values f v
        → Done w l Always mask most 1 start d t v (λ h. h (In l.proc d.after.block d.after.op) + free h) tt u → Done w l Always mask most 1 c (choose mask tries lone ltwo c) s f free tt u
    joins most c s f free v t start d u env le0 le1 le2 stands is size under later same z =
        let base = (tries c).after.env in
        let top = (ltwo (no_at c)).after.values in
        let le3 = condition.grows c in
        let under2 = under_more (tries c).after.values top base (omega (arith, le0, le1, le2)) under in
        let off1 = subst (λ e. Off mask e d.after.env) env z.off in
        record {
          values = set_all (params mask top base) (map z.values (picked mask d.after.env)) z.values;
          ready = jump free (out_at c).block top mask base stands is off1 size under2 (λ h. omega arith) z.ready;
          later = later_on w l s t u.store later z.later;
          is = tt;
          same = same_on c.values start.values f z.values (set_all (params mask top base) (map z.values (picked mask d.after.env)) z.values) (omega (arith, le3, le0)) (same_on c.values start.values f v z.values (omega (arith, le3, le0)) same z.same)
              (λ y lt. enter_same mask top base (map z.values (picked mask d.after.env)) z.values y (omega (arith, lt, le1, le2)));
          off = subst (λ e. Off mask e (merged mask top base)) (condition.env c) (off_merged mask top base);
          typed = z.typed;
        }

    pub follows_choose : Follows w l 1 fuel mask K Always (x >>= λ ok. if ok then m else n) (choose mask tries lone ltwo)
    follows_choose = record {
      grows = record { by = grows_out };
      by = λ most g c f s room free le needs few stands fits within known typed r.
          let paid : 1 ≡ g = omega (arith, needs, few) in
          let rest = (lone (yes_at c)).pieces ++ behind_one c in
          subst (λ q. Goes w ((x >>= λ ok. if ok then m else n) s) (Done w l Always mask most q c (choose mask tries lone ltwo c) s.store f free)) paid
          (then_goes w l x (λ ok. if ok then m else n) s
          (condition.by most g c (tries c).after.block (no_at c).block (half c.freq) f s room (λ h. bulk l.proc rest h + free h) le few (stand_first w.procedures l.proc (tests c) rest stands)
          (λ h. let z = fits h in omega (arith, z, bulk_append l.proc (tests c) rest h)) (λ h. let z = within h in omega (arith, z, bulk_append l.proc (tests c) rest h)) known typed r)
          (λ ok t v. ways most c f s free le (stand_rest w.procedures l.proc (tests c) rest stands) (λ h. let z = within h in omega (arith, z, bulk_append l.proc (tests c) rest h)) known ok t v));
    }
      where
        ways : (most : ℕ) (c : Cursor) (f : ℕ → ℕ) (s : At Store) (free : (Point → ℕ) → ℕ) → most ≤ fuel → Standing w.procedures l.proc ((lone (yes_at c)).pieces ++ behind_one c) → Fits w l ((lone (yes_at c)).pieces ++ behind_one c) free → K c.values f s.store → (ok : Bool) (t : At Store)
            → Went w l itself No_more most c (tries c).after (tries c).after.block (no_at c).block s.store f (λ h. bulk l.proc ((lone (yes_at c)).pieces ++ behind_one c) h + free h) ok t
            → Goes w ((if ok then m else n) t) (Done w l Always mask most 1 c (choose mask tries lone ltwo c) s.store f free)
        ways most c f s free le stands within known true t v =
            let pieces = (lone (yes_at c)).pieces in
            let rest = stand_rest w.procedures l.proc pieces (behind_one c) stands in
            let rest2 = stand_rest w.procedures l.proc (ltwo (no_at c)).pieces (close_two c ∷ []) rest.1 in
            let start = subst (λ i. Ready w l most 1 (record { block = (tries c).after.block; op = i; values = (tries c).after.values; env = (tries c).after.env }) v.values t (λ h. bulk l.proc (pieces ++ behind_one c) h + free h)) (sym (condition.begins c)) v.ready in
            let d = lone (yes_at c) in
            goes_on w l (m t)
            (one.by most 1 (yes_at c) v.values t (λ h. bulk l.proc (pieces ++ behind_one c) h + free h) (λ h. h (In l.proc d.after.block d.after.op) + free h) le (omega arith) (omega arith)
            (stand_first w.procedures l.proc pieces (behind_one c) stands) (λ h. omega (arith, bulk_append l.proc pieces (behind_one c) h)) (λ h. let z = within h in omega (arith, z, bulk_append l.proc pieces (behind_one c) h))
            (steady.by c.values (tries c).after.values f v.values s.store t.store (condition.grows c) v.same v.later known) v.typed start)
            (λ a u z. joins most c s.store f free v.values t.store (yes_at c) d u refl (omega arith) (one.grows.by (yes_at c)) (let y = two.grows.by (no_at c) in omega (arith, y))
            (rest.0.0, rest.0.1) rest2.0.2 v.ready.size v.ready.under v.later v.same z)
        ways most c f s free le stands within known false t v =
            let pieces = (lone (yes_at c)).pieces in
            let rest = stand_rest w.procedures l.proc pieces (behind_one c) stands in
            let others = (ltwo (no_at c)).pieces in
            let rest2 = stand_rest w.procedures l.proc others (close_two c ∷ []) rest.1 in
            let grown = one.grows.by (yes_at c) in
            let start = ready_higher w l (no_at c).values grown v.ready in
            let d = ltwo (no_at c) in
            goes_on w l (n t)
            (two.by most 1 (no_at c) v.values t (λ h. bulk l.proc (pieces ++ behind_one c) h + free h) (λ h. h (In l.proc d.after.block d.after.op) + free h) le (omega arith) (omega arith)
            (stand_first w.procedures l.proc others (close_two c ∷ []) rest.1) (λ h. omega (arith, bulk_append l.proc pieces (behind_one c) h, bulk_append l.proc others (close_two c ∷ []) h)) (λ h. let z = within h in omega (arith, z, bulk_append l.proc pieces (behind_one c) h, bulk_append l.proc others (close_two c ∷ []) h))
            (steady.by c.values (no_at c).values f v.values s.store t.store (let y = condition.grows c in omega (arith, y, grown)) v.same v.later known) v.typed start)
            (λ a u z. joins most c s.store f free v.values t.store (no_at c) d u refl grown (two.grows.by (no_at c)) (omega arith)
            (rest2.0.0, rest2.0.1) rest2.0.2 v.ready.size v.ready.under v.later v.same z)

  ---- Loops

  -- behind a round: at the header again, where a body was done, or behind the loop
  pub record Turned (most head : ℕ) (mask : Mask) (v : ℕ) (base : List ℕ) (c d : Cursor) (s : Store) (f : ℕ → ℕ) (free : (Point → ℕ) → ℕ) (goes : Bool) (t : At Store) : Type 0 where
    pub values : ℕ → ℕ
    pub ready : Ready w l most 1 (cond goes (record { block = head; op = 0; values = beyond mask v base; env = merged mask v base }) (position d)) values t (λ h. cond goes 0 (free h))
    pub later : Later w l s t.store
    pub same : Same v f values
    pub typed : Typing w l t.store

  -- a loop's header, with a parameter for each variable that changes
  pub record Header (head : ℕ) (mask : Mask) (v : ℕ) (base : List ℕ) : Type 0 where
    pub begins : Begins_with head (params mask v base)
    pub size : length base ≡ l.count
    pub under : Under v base

  -- guards with their bodies
  pub record Rounded (need fuel : ℕ) (mask : Mask) (K : Fact) (m : Act Bool) (rs : List Round) : Type 0 where
    pub grows : (head outside : ℕ) (c : Cursor) → c.values ≤ (rounds mask head outside rs c).after.values
    pub env : (head outside : ℕ) (c : Cursor) → (rounds mask head outside rs c).after.env ≡ c.env
    pub by : (most g head outside : ℕ) (c : Cursor) (v : ℕ) (base : List ℕ) (f : ℕ → ℕ) (s : At Store) (room free : (Point → ℕ) → ℕ) → most ≤ fuel → need ≤ g → g ≤ 1
        → Standing w.procedures l.proc (rounds mask head outside rs c).pieces → ((h : Point → ℕ) → bulk l.proc (rounds mask head outside rs c).pieces h + free h ≤ room h) → Fits w l (rounds mask head outside rs c).pieces free
        → Header head mask v base → Off mask base c.env → v ≤ c.values → K c.values f s.store → Typing w l s.store → Ready w l most g (position c) f s room
        → Goes w (m s) (Turned most head mask v base c (rounds mask head outside rs c).after s.store f free)

  pub rounds_none : {fuel : ℕ} {mask : Mask} {K : Fact} → Rounded 1 fuel mask K (give false) []
  rounds_none = record {
    grows = λ head outside c. omega arith;
    env = λ head outside c. refl;
    by = λ most g head outside c v base f s room free le needs few stands fits within header off low known typed r. record {
      by = record {
        values = f;
        ready = ready_more w l most 1 free r (omega arith) needs (λ h. let z = fits h in omega (arith, z));
        later = later_refl w l s.store;
        same = λ u lt. refl;
        typed = typed;
      };
    };
  }

  pub rounds_less : {fuel : ℕ} {mask : Mask} {K : Fact} {m : Act Bool} {rs : List Round} → Rounded 0 fuel mask K m rs → Rounded 1 fuel mask K m rs
  rounds_less one = record { grows = one.grows; env = one.env; by = λ most g head outside c v base f s room free le needs few stands fits within header off low known typed r. one.by most g head outside c v base f s room free le (omega arith) few stands fits within header off low known typed r }

  module _ {fuel : ℕ} {K : Fact} (mask : Mask) (x more : Act Bool) (body : Deed) (guard : Round) (rs : List Round) (steady : Steady w l K) (condition : Forks w l itself fuel K No_more x guard.test) (one : Follows w l 1 fuel mask K Always body guard.body) (others : Rounded 1 fuel mask K more rs) where
    abbrev then_at : Cursor → Cursor
    then_at c = at_freq (guard.test c).after c.freq

    abbrev next_at : ℕ → Cursor → Cursor
    next_at outside c = record (fresh (guard.body (then_at c)).after) { freq = behind rs c.freq outside; env = (guard.test c).after.env; seen = (guard.test c).after.seen }

    abbrev close_body : ℕ → ℕ → Cursor → Piece
    close_body head outside c = close (guard.body (then_at c)).after (Jump head (picked mask (guard.body (then_at c)).after.env)) (plain (next_at outside c).freq (next_at outside c).seen)

    abbrev guards : ℕ → Cursor → List Piece
    guards outside c = (guard.test c).pieces (guard.test c).after.block (next_at outside c).block c.freq

    abbrev behind_body : ℕ → ℕ → Cursor → List Piece
    behind_body head outside c = close_body head outside c ∷ (rounds mask head outside rs (next_at outside c)).pieces

    pub rounds_more : Rounded 0 fuel mask K (try x body more) (guard ∷ rs)
    rounds_more = record {
      grows = λ head outside c. let a = condition.grows c in let b = one.grows.by (then_at c) in let d = others.grows head outside (next_at outside c) in omega (arith, a, b, d);
      env = λ head outside c. others.env head outside (next_at outside c) ∙ condition.env c;
      by = λ most g head outside c v base f s room free le needs few stands fits within header off low known typed r.
          let rest = (guard.body (then_at c)).pieces ++ behind_body head outside c in
          then_goes w l x (λ ok. if ok then (body >>= λ _. give true) else more) s
          (condition.by most g c (guard.test c).after.block (next_at outside c).block c.freq f s room (λ h. bulk l.proc rest h + free h) le few (stand_first w.procedures l.proc (guards outside c) rest stands)
          (λ h. let z = fits h in omega (arith, z, bulk_append l.proc (guards outside c) rest h)) (λ h. let z = within h in omega (arith, z, bulk_append l.proc (guards outside c) rest h)) known typed r)
          (λ ok t z. ways most head outside c v base f s free le (stand_rest w.procedures l.proc (guards outside c) rest stands) (λ h. let z = within h in omega (arith, z, bulk_append l.proc (guards outside c) rest h)) header off low known ok t z);
    }
      where
        ways : (most head outside : ℕ) (c : Cursor) (v : ℕ) (base : List ℕ) (f : ℕ → ℕ) (s : At Store) (free : (Point → ℕ) → ℕ) → most ≤ fuel → Standing w.procedures l.proc ((guard.body (then_at c)).pieces ++ behind_body head outside c) → Fits w l ((guard.body (then_at c)).pieces ++ behind_body head outside c) free
            → Header head mask v base → Off mask base c.env → v ≤ c.values → K c.values f s.store → (ok : Bool) (t : At Store)
            → Went w l itself No_more most c (guard.test c).after (guard.test c).after.block (next_at outside c).block s.store f (λ h. bulk l.proc ((guard.body (then_at c)).pieces ++ behind_body head outside c) h + free h) ok t
            → Goes w ((if ok then (body >>= λ _. give true) else more) t) (Turned most head mask v base c (rounds mask head outside (guard ∷ rs) c).after s.store f free)
        ways most head outside c v base f s free le stands within header off low known true t z =
            let pieces = (guard.body (then_at c)).pieces in
            let d = guard.body (then_at c) in
            let rest = stand_rest w.procedures l.proc pieces (behind_body head outside c) stands in
            let grown = condition.grows c in
            let start = subst (λ i. Ready w l most 1 (record { block = (guard.test c).after.block; op = i; values = (guard.test c).after.values; env = (guard.test c).after.env }) z.values t (λ h. bulk l.proc (pieces ++ behind_body head outside c) h + free h)) (sym (condition.begins c)) z.ready in
            then_goes w l body (λ _. give true) t
            (one.by most 1 (then_at c) z.values t (λ h. bulk l.proc (pieces ++ behind_body head outside c) h + free h) (λ h. h (In l.proc d.after.block d.after.op) + free h) le (omega arith) (omega arith)
            (stand_first w.procedures l.proc pieces (behind_body head outside c) stands) (λ h. omega (arith, bulk_append l.proc pieces (behind_body head outside c) h)) (λ h. let y = within h in omega (arith, y, bulk_append l.proc pieces (behind_body head outside c) h))
            (steady.by c.values (guard.test c).after.values f z.values s.store t.store grown z.same z.later known) z.typed start)
            (λ a u y.
            let off2 = off_on mask base c.env d.after.env off (subst (λ e. Off mask e d.after.env) (condition.env c) y.off) in
            record {
              by = record {
                values = set_all (params mask v base) (map y.values (picked mask d.after.env)) y.values;
                ready = jump (λ h. 0) head v mask base (rest.0.0, rest.0.1) header.begins off2 header.size header.under (λ h. omega arith) y.ready;
                later = later_on w l s.store t.store u.store z.later y.later;
                same = same_on v v f y.values (set_all (params mask v base) (map y.values (picked mask d.after.env)) y.values) (omega arith) (λ i lt. y.same i (omega (arith, lt, low, grown)) ∙ z.same i (omega (arith, lt, low))) (enter_same mask v base (map y.values (picked mask d.after.env)) y.values);
                typed = y.typed;
              };
            })
        ways most head outside c v base f s free le stands within header off low known false t z =
            let pieces = (guard.body (then_at c)).pieces in
            let rest = stand_rest w.procedures l.proc pieces (behind_body head outside c) stands in
            let grown = condition.grows c in
            let grown2 = one.grows.by (then_at c) in
            goes_on w l (more t)
            (others.by most 1 head outside (next_at outside c) v base z.values t (λ h. bulk l.proc (pieces ++ behind_body head outside c) h + free h) free le (omega arith) (omega arith) rest.1
            (λ h. omega (arith, bulk_append l.proc pieces (behind_body head outside c) h)) (λ h. let y = within h in omega (arith, y, bulk_append l.proc pieces (behind_body head outside c) h))
            header (subst (λ e. Off mask base e) (sym (condition.env c)) off) (omega (arith, low, grown, grown2))
            (steady.by c.values (next_at outside c).values f z.values s.store t.store (omega (arith, grown, grown2)) z.same z.later known) z.typed (ready_higher w l (next_at outside c).values grown2 z.ready))
            (λ goes u y. record { values = y.values; ready = y.ready; later = later_on w l s.store t.store u.store z.later y.later; same = λ i lt. y.same i lt ∙ z.same i (omega (arith, lt, low)); typed = y.typed })

  module _ {fuel : ℕ} {K : Fact} (mask : Mask) (m : Act Bool) (rs : List Round) (steady : Steady w l K) (all : Rounded 0 fuel mask K m rs) where
    abbrev head_at : Cursor → Cursor
    head_at c = join mask c c (often c.freq)

    abbrev turns_at : Cursor → Made (Unit {0})
    turns_at c = rounds mask (head_at c).block c.freq rs (head_at c)

    -- before a round's moment
    record Before (most : ℕ) (c : Cursor) (s : Store) (f : ℕ → ℕ) (k : ℕ) (t : At Store) : Type 0 where
      pub values : ℕ → ℕ
      pub ready : Ready w l k 1 (position (head_at c)) values t (λ h. 0)
      pub later : Later w l s t.store
      pub same : Same c.values f values
      pub typed : Typing w l t.store

    pub follows_loop : Follows w l 1 fuel mask K Always (repeated fuel m) (loop mask rs)
    follows_loop = record {
      grows = record { by = λ c. let a = beyond_more mask c.values c.env in let b = all.grows (head_at c).block c.freq (head_at c) in omega (arith, a, b) };
      by = λ most g c f s room free le needs few stands fits within known typed r.
          let paid : 1 ≡ g = omega (arith, needs, few) in
          let header : Header (head_at c).block mask c.values c.env = record { begins = stands.0.2; size = r.size; under = r.under } in
          subst (λ q. Goes w (repeated fuel m s) (Done w l Always mask most q c (loop mask rs c) s.store f free)) paid
          (comes_repeat HasSense (system w) (least w.procedures) w.points w.first w.turns same_trap m most (Before most c s.store f) (λ u t. Done w l Always mask most 1 c (loop mask rs c) s.store f free u t)
          (λ k t h. record { gain = 0; place = runs_at w l (position (head_at c)) h.values h.ready.memory t.store; free = λ h. 0; reached = h.ready.reached })
          (λ k n t less under h is.
          goes_on w l (m (record t { turns = n }))
          (all.by n 0 (head_at c).block c.freq (head_at c) c.values c.env h.values (record t { turns = n }) (λ h. bulk l.proc (turns_at c).pieces h + free h) free (omega (arith, le, less, under)) (omega arith) (omega arith) stands.1 (λ h. omega arith) (λ h. let z = within h in omega (arith, z))
          header (off_merged mask c.values c.env) (beyond_more mask c.values c.env)
          (steady.by c.values (head_at c).values f h.values s.store t.store (beyond_more mask c.values c.env) h.same h.later known) h.typed
          (ready_moment n (λ h. bulk l.proc (turns_at c).pieces h + free h) is (λ h. let z = within h in omega (arith, z)) h.ready))
          (λ goes u z. turned most n c s f free goes t u (omega (arith, less, under)) h z))
          fuel most s le (omega arith) (record {
            values = set_all (params mask c.values c.env) (map f (picked mask c.env)) f;
            ready = jump (λ h. 0) (head_at c).block c.values mask c.env (stands.0.0, stands.0.1) stands.0.2 (off_refl mask c.env) r.size r.under (λ h. let z = fits h in omega (arith, z)) (ready_more w l most 1 room r (omega arith) needs (λ h. omega arith));
            later = later_refl w l s.store;
            same = enter_same mask c.values c.env (map f (picked mask c.env)) f;
            typed = typed;
          }));
    }
      where
        turned : (most n : ℕ) (c : Cursor) (s : At Store) (f : ℕ → ℕ) (free : (Point → ℕ) → ℕ) (goes : Bool) (t u : At Store) → n ≤ most → {k : ℕ} → (h : Before most c s.store f k t) → Turned n (head_at c).block mask c.values c.env (head_at c) (turns_at c).after t.store h.values free goes u
            → MatchBool goes (Before most c s.store f n u) (Done w l Always mask most 1 c (loop mask rs c) s.store f free tt u)
        turned most n c s f free true t u le h z = record { values = z.values; ready = z.ready; later = later_on w l s.store t.store u.store h.later z.later; same = λ i lt. z.same i lt ∙ h.same i lt; typed = z.typed }
        turned most n c s f free false t u le h z = record {
          values = z.values;
          ready = ready_more w l most 1 free z.ready le (omega arith) (λ h. omega arith);
          later = later_on w l s.store t.store u.store h.later z.later;
          is = tt;
          same = λ i lt. z.same i lt ∙ h.same i lt;
          off = subst (λ e. Off mask c.env e) (sym (all.env (head_at c).block c.freq (head_at c))) (off_merged mask c.values c.env);
          typed = z.typed;
        }

  ---- REPEAT

  module _ {fuel : ℕ} {K : Fact} (mask : Mask) (x : Act Bool) (body : Deed) (tries : Test) (low : Low (Unit {0})) (steady : Steady w l K) (condition : Forks w l itself fuel K No_more x tries) (one : Follows w l 1 fuel mask K Always body low) where
    abbrev top_at : Cursor → Cursor
    top_at c = join mask c c (often c.freq)

    abbrev done_at : Cursor → Made (Unit {0})
    done_at c = low (top_at c)

    abbrev back_at : Cursor → Cursor
    back_at c = at_freq (tries (done_at c).after).after (top_at c).freq

    abbrev exit_at : Cursor → Cursor
    exit_at c = at_freq (fresh (back_at c)) c.freq

    abbrev close_back : Cursor → Piece
    close_back c = close (back_at c) (Jump (top_at c).block (picked mask (back_at c).env)) (plain (exit_at c).freq (exit_at c).seen)

    abbrev tests_at : Cursor → List Piece
    tests_at c = (tries (done_at c).after).pieces (exit_at c).block (back_at c).block (back_at c).freq

    abbrev tail : Cursor → List Piece
    tail c = tests_at c ++ (close_back c ∷ [])

    -- behind the body, before the moment of the condition
    record Waits (k : ℕ) (c : Cursor) (s : Store) (f : ℕ → ℕ) (t : At Store) : Type 0 where
      pub values : ℕ → ℕ
      pub ready : Ready w l k 1 (position (done_at c).after) values t (λ h. 0)
      pub later : Later w l s t.store
      pub same : Same c.values f values
      pub off : Off mask c.env (done_at c).after.env
      pub typed : Typing w l t.store

    body_runs : (k : ℕ) (c : Cursor) (s : Store) (f : ℕ → ℕ) → k ≤ fuel → Standing w.procedures l.proc (done_at c).pieces → Fits w l (done_at c).pieces (λ h. 0) → K c.values f s → (v : ℕ → ℕ) (t : At Store) → Later w l s t.store → Same c.values f v → Typing w l t.store
        → Ready w l k 1 (position (top_at c)) v t (λ h. bulk l.proc (done_at c).pieces h) → Goes w (body t) (λ u z. Waits k c s f z)
    body_runs k c s f le stands within known v t later same typed r =
        let low_ = beyond_more mask c.values c.env in
        goes_on w l (body t)
        (one.by k 1 (top_at c) v t (λ h. bulk l.proc (done_at c).pieces h) (λ h. 0) le (omega arith) (omega arith) stands (λ h. omega arith) within (steady.by c.values (top_at c).values f v s t.store low_ same later known) typed r)
        (λ u z y. record {
          values = y.values;
          ready = y.ready;
          later = later_on w l s t.store z.store later y.later;
          same = same_on c.values (top_at c).values f v y.values low_ same y.same;
          off = off_on mask c.env (merged mask c.values c.env) (done_at c).after.env (off_merged mask c.values c.env) y.off;
          typed = y.typed;
        })

    pub follows_until : Follows w l 1 fuel mask K Always (until_so fuel body x) (repeat mask low tries)
    follows_until = record {
      grows = record { by = λ c. let a = beyond_more mask c.values c.env in let b = one.grows.by (top_at c) in let d = condition.grows (done_at c).after in omega (arith, a, b, d) };
      by = λ most g c f s room free le needs few stands fits within known typed r.
          let paid : 1 ≡ g = omega (arith, needs, few) in
          let pieces = (done_at c).pieces in
          let stood = stand_first w.procedures l.proc pieces (tail c) stands.1 in
          let behind_ = stand_rest w.procedures l.proc pieces (tail c) stands.1 in
          let enough : Fits w l pieces (λ h. 0) = λ h. (let z = within h in omega (arith, z, bulk_append l.proc pieces (tail c) h)) in
          subst (λ q. Goes w (until_so fuel body x s) (Done w l Always mask most q c (repeat mask low tries c) s.store f free)) paid
          (then_goes w l body (λ _. repeated fuel (round)) s
          (body_runs most c s.store f le stood enough known (set_all (params mask c.values c.env) (map f (picked mask c.env)) f) s (later_refl w l s.store) (enter_same mask c.values c.env (map f (picked mask c.env)) f) typed
          (jump (λ h. bulk l.proc pieces h) (top_at c).block c.values mask c.env (stands.0.0, stands.0.1) stands.0.2 (off_refl mask c.env) r.size r.under (λ h. let z = fits h in omega (arith, z, bulk_append l.proc pieces (tail c) h)) (ready_more w l most 1 room r (omega arith) needs (λ h. omega arith))))
          (λ u t y. loops most c s f free le r.under r.size behind_ stood within stands.0.2 known t y));
    }
      where
        round : Act Bool
        round = x >>= λ ok. if ok then give false else (body >>= λ _. give true)

        turn : (most k n : ℕ) (c : Cursor) (s : At Store) (f : ℕ → ℕ) (free : (Point → ℕ) → ℕ) → n ≤ most → n ≤ fuel → Under c.values c.env → length c.env ≡ l.count → Standing w.procedures l.proc (tail c) → Standing w.procedures l.proc (done_at c).pieces
            → Fits w l (repeat mask low tries c).pieces free → Begins_with (top_at c).block (params mask c.values c.env) → K c.values f s.store → (ok : Bool) (t u : At Store) → (h : Waits k c s.store f t)
            → Went w l itself No_more n (done_at c).after (tries (done_at c).after).after (exit_at c).block (back_at c).block t.store h.values (λ h. h (In l.proc (back_at c).block (back_at c).op) + (bulk l.proc (done_at c).pieces h + free h)) ok u
            → Goes w ((if ok then give false else (body >>= λ _. give true)) u) (λ goes z. MatchBool goes (Waits n c s.store f z) (Done w l Always mask most 1 c (repeat mask low tries c) s.store f free tt z))
        turn most k n c s f free below le under size behind_ stood within begins known true t u h z = record {
          by = record {
            values = z.values;
            ready = ready_more w l most 1 free z.ready below (omega arith) (λ h. omega arith);
            later = later_on w l s.store t.store u.store h.later z.later;
            is = tt;
            same = same_on c.values (done_at c).after.values f h.values z.values (let a = beyond_more mask c.values c.env in let b = one.grows.by (top_at c) in omega (arith, a, b)) h.same z.same;
            off = subst (λ e. Off mask c.env e) (sym (condition.env (done_at c).after)) h.off;
            typed = z.typed;
          };
        }
        turn most k n c s f free below le under size behind_ stood within begins known false t u h z =
            let tests = tests_at c in
            let last = stand_rest w.procedures l.proc tests (close_back c ∷ []) behind_ in
            let grown : c.values ≤ (done_at c).after.values = (let a = beyond_more mask c.values c.env in let b = one.grows.by (top_at c) in omega (arith, a, b)) in
            let start = subst (λ i. Ready w l n 1 (record { block = (back_at c).block; op = i; values = (tries (done_at c).after).after.values; env = (tries (done_at c).after).after.env }) z.values u (λ h. h (In l.proc (back_at c).block (back_at c).op) + (bulk l.proc (done_at c).pieces h + free h))) (sym (condition.begins (done_at c).after)) z.ready in
            let same = same_on c.values (done_at c).after.values f h.values z.values grown h.same z.same in
            then_goes w l body (λ _. give true) u
            (body_runs n c s.store f le stood (λ h. let y = within h in omega (arith, y, bulk_append l.proc (done_at c).pieces (tail c) h)) known
            (set_all (params mask c.values c.env) (map z.values (picked mask (back_at c).env)) z.values) u (later_on w l s.store t.store u.store h.later z.later)
            (same_on c.values c.values f z.values (set_all (params mask c.values c.env) (map z.values (picked mask (back_at c).env)) z.values) (omega arith) same (enter_same mask c.values c.env (map z.values (picked mask (back_at c).env)) z.values)) z.typed
            (jump (λ h. bulk l.proc (done_at c).pieces h) (top_at c).block c.values mask c.env (last.0.0, last.0.1) begins (subst (λ e. Off mask c.env e) (sym (condition.env (done_at c).after)) h.off) size under (λ h. omega arith) start))
            (λ v y q. record { by = q })

        loops : (most : ℕ) (c : Cursor) (s : At Store) (f : ℕ → ℕ) (free : (Point → ℕ) → ℕ) → most ≤ fuel → Under c.values c.env → length c.env ≡ l.count → Standing w.procedures l.proc (tail c) → Standing w.procedures l.proc (done_at c).pieces
            → Fits w l (repeat mask low tries c).pieces free → Begins_with (top_at c).block (params mask c.values c.env) → K c.values f s.store → (t : At Store) → Waits most c s.store f t
            → Goes w (repeated fuel round t) (λ u z. Done w l Always mask most 1 c (repeat mask low tries c) s.store f free u z)
        loops most c s f free le under size behind_ stood within begins known t y =
            comes_repeat HasSense (system w) (least w.procedures) w.points w.first w.turns same_trap round most (λ k z. Waits k c s.store f z) (λ u z. Done w l Always mask most 1 c (repeat mask low tries c) s.store f free u z)
            (λ k z h. record { gain = 0; place = runs_at w l (position (done_at c).after) h.values h.ready.memory z.store; free = λ h. 0; reached = h.ready.reached })
            (λ k n z less under_ h is.
            let rest : (Point → ℕ) → ℕ = λ h. bulk l.proc (tests_at c) h + (h (In l.proc (back_at c).block (back_at c).op) + (bulk l.proc (done_at c).pieces h + free h)) in
            let grown : c.values ≤ (done_at c).after.values = (let a = beyond_more mask c.values c.env in let b = one.grows.by (top_at c) in omega (arith, a, b)) in
            then_goes w l x (λ ok. if ok then give false else (body >>= λ _. give true)) (record z { turns = n })
            (condition.by n 0 (done_at c).after (exit_at c).block (back_at c).block (back_at c).freq h.values (record z { turns = n }) rest (λ h. h (In l.proc (back_at c).block (back_at c).op) + (bulk l.proc (done_at c).pieces h + free h)) (omega (arith, le, less, under_)) (omega arith)
            (stand_first w.procedures l.proc (tests_at c) (close_back c ∷ []) behind_) (λ h. omega arith) (λ h. let y = within h in omega (arith, y, bulk_append l.proc (done_at c).pieces (tail c) h, bulk_append l.proc (tests_at c) (close_back c ∷ []) h))
            (steady.by c.values (done_at c).after.values f h.values s.store z.store grown h.same h.later known) h.typed
            (ready_moment n rest is (λ h. let y = within h in omega (arith, y, bulk_append l.proc (done_at c).pieces (tail c) h, bulk_append l.proc (tests_at c) (close_back c ∷ []) h)) h.ready))
            (λ ok u q. turn most k n c s f free (omega (arith, less, under_)) (omega (arith, le, less, under_)) under size behind_ stood within begins known ok z u h q))
            fuel most t le (omega arith) y
