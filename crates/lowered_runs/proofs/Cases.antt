-- CASE: its tests, its parts, and what comes where none fits.
use Rattle.std.proofs.Common.{◌≡◌, ℕ, suc, ◌+◌, ◌≤◌, List, [], ◌∷◌, ◌++◌, map, length, Bool, true, false, cond, refl, sym, ap, ◌∙◌, subst, arith}
use Rattle.std.specs.Prelude.{◌||◌, if◌then◌else◌}
use Rattle.run_laws.specs.Runs.{Moves}
use Rattle.run_laws.specs.Turns.{Gives, after, ◌>>=◌, give}
use Rattle.run_laws.specs.Turns.{State as At}
use Rattle.run_laws.proofs.Reached.{pass_quiet}
use Rattle.block_runs.specs.declared.end.End.{End}
use Rattle.block_runs.specs.declared.end.End.TheVariants.{Jump}
use Rattle.block_runs.specs.States.{Point, In, Runs}
use Rattle.block_runs.specs.Steps.{at_block, set_all}
use Rattle.block_runs.specs.Points.{least}
use Rattle.ob_types.specs.Store.{Store, Act}
use Rattle.ob_types.specs.Statements.{Deed, try}
use Rattle.ssa_lowered.specs.Pieces.{Cursor, Low, Mask, fresh, params, merged, beyond, picked}
use Rattle.ssa_lowered.specs.Control.{Test, half, Rung, Ladder, ladder, before, Limbs, limbs, case}
use Rattle.lowered_runs.specs.Words.{Whole, Level, Later}
use Rattle.lowered_runs.proofs.Stores.{later_refl}
use Rattle.lowered_runs.proofs.Values.{Under, Same, Off, same_on, under_more, off_merged, beyond_more, enter_same}
use Rattle.lowered_runs.proofs.Standing.{Standing, stand_first, stand_rest, bulk, bulk_append}
use Rattle.lowered_runs.proofs.Ready.{Typing, Position, position, system, frame_at, world_of, runs_at, Goes, Ready, ready_more}
use Rattle.lowered_runs.proofs.Follows.{follows_known, Fact, Steady, Fits, Follows, Done, then_goes, goes_on, goes_here}
use Rattle.lowered_runs.proofs.Forks.{after_after, No_more, Ends_at, end_step, Went, Forks, ready_higher}
use Rattle.lowered_runs.proofs.Structures.{Always, itself, Begins_with, jump}

-- whether some is true
abbrev pub any_true : List Bool → Bool
any_true [] = false
any_true (b ∷ bs) = b || any_true bs

-- the first part that fits is done; whether there is one
abbrev pub first_of : List (Bool × Deed) → Act Bool
first_of [] = give false
first_of (x ∷ xs) = try (give x.0) x.1 (first_of xs)

-- where the tests of parts lead to, the i-th part first
abbrev pub pick : ℕ → List (List Bool) → (ℕ → ℕ) → ℕ → ℕ
pick i [] to out = out
pick i (bs ∷ more) to out = cond (any_true bs) (to i) (pick (suc i) more to out)

abbrev pub all_in : List (List Bool) → List Bool
all_in [] = []
all_in (bs ∷ more) = bs ++ all_in more

abbrev goal : List Rung → List Bool → (ℕ → ℕ) → ℕ → ℕ
goal [] bs to out = out
goal (r ∷ rs) [] to out = out
goal (r ∷ rs) (b ∷ bs) to out = cond b (to r.part) (goal rs bs to out)

-- each part's tests and what it does
abbrev pub parts_of : List (List Bool) → List Deed → List (Bool × Deed)
parts_of [] ms = []
parts_of (bs ∷ more) [] = []
parts_of (bs ∷ more) (m ∷ ms) = (any_true bs, m) ∷ parts_of more ms

abbrev pub Matched : List (List Bool) → List Deed → Type 0
Matched [] [] = Unit {0}
Matched (bs ∷ more) (m ∷ ms) = Matched more ms
Matched _ _ = ⊥

-- the tests of the parts, the i-th first
abbrev pub rungs_of : ℕ → List (List Test) → List Rung
rungs_of i [] = []
rungs_of i (ts ∷ more) = map (λ t. record { test = t; part = i }) ts ++ rungs_of (suc i) more

module _ (w : Whole) (l : Level) (fuel : ℕ) (K : Fact) (mask : Mask) (steady : Steady w l K) where
  ---- Tests

  -- tests that say these
  abbrev pub Says : List Test → List Bool → Type 0
  Says [] [] = Unit {0}
  Says (t ∷ ts) (b ∷ bs) = Forks w l itself fuel K No_more (give b) t × Says ts bs
  Says _ _ = ⊥

  abbrev pub AllSay : List (List Test) → List (List Bool) → Type 0
  AllSay [] [] = Unit {0}
  AllSay (ts ∷ more) (bs ∷ rest) = Says ts bs × AllSay more rest
  AllSay _ _ = ⊥

  abbrev Rungs : List Rung → List Bool → Type 0
  Rungs [] [] = Unit {0}
  Rungs (r ∷ rs) (b ∷ bs) = Forks w l itself fuel K No_more (give b) r.test × Rungs rs bs
  Rungs _ _ = ⊥

  rungs_first : (i : ℕ) (ts : List Test) (bs : List Bool) (rs : List Rung) (cs : List Bool) → Says ts bs → Rungs rs cs → Rungs (map (λ t. record { test = t; part = i }) ts ++ rs) (bs ++ cs)
  rungs_first i [] [] rs cs h more = more
  rungs_first i [] (b ∷ bs) rs cs h more = absurd h
  rungs_first i (t ∷ ts) [] rs cs h more = absurd h
  rungs_first i (t ∷ ts) (b ∷ bs) rs cs h more = (h.0, rungs_first i ts bs rs cs h.1 more)

  rungs_all : (i : ℕ) (tss : List (List Test)) (bss : List (List Bool)) → AllSay tss bss → Rungs (rungs_of i tss) (all_in bss)
  rungs_all i [] [] h = tt
  rungs_all i [] (bs ∷ more) h = absurd h
  rungs_all i (ts ∷ more) [] h = absurd h
  rungs_all i (ts ∷ more) (bs ∷ rest) h = rungs_first i ts bs (rungs_of (suc i) more) (all_in rest) h.0 (rungs_all (suc i) more rest h.1)

  goal_first : (i : ℕ) (ts : List Test) (bs : List Bool) (rs : List Rung) (cs : List Bool) (to : ℕ → ℕ) (out : ℕ) → Says ts bs → goal (map (λ t. record { test = t; part = i }) ts ++ rs) (bs ++ cs) to out ≡ cond (any_true bs) (to i) (goal rs cs to out)
  goal_first i [] [] rs cs to out h = refl
  goal_first i [] (b ∷ bs) rs cs to out h = absurd h
  goal_first i (t ∷ ts) [] rs cs to out h = absurd h
  goal_first i (t ∷ ts) (true ∷ bs) rs cs to out h = refl
  goal_first i (t ∷ ts) (false ∷ bs) rs cs to out h = goal_first i ts bs rs cs to out h.1

  goal_all : (i : ℕ) (tss : List (List Test)) (bss : List (List Bool)) (to : ℕ → ℕ) (out : ℕ) → AllSay tss bss → goal (rungs_of i tss) (all_in bss) to out ≡ pick i bss to out
  goal_all i [] [] to out h = refl
  goal_all i [] (bs ∷ more) to out h = absurd h
  goal_all i (ts ∷ more) [] to out h = absurd h
  goal_all i (ts ∷ more) (bs ∷ rest) to out h = goal_first i ts bs (rungs_of (suc i) more) (all_in rest) to out h.0 ∙ ap (cond (any_true bs) (to i)) (goal_all (suc i) more rest to out h.1)

  ladder_grows : (last : ℕ) (rs : List Rung) (bs : List Bool) → Rungs rs bs → (c : Cursor) → c.values ≤ (ladder last rs c).after.values
  ladder_grows last [] bs h c = omega arith
  ladder_grows last (r ∷ []) [] h c = absurd h
  ladder_grows last (r ∷ []) (b ∷ bs) h c = h.0.grows c
  ladder_grows last (r ∷ s ∷ rs) [] h c = absurd h
  ladder_grows last (r ∷ s ∷ rs) (b ∷ bs) h c = let i = h.0.grows c in let j = ladder_grows last (s ∷ rs) bs h.1 (r.test c).after in omega (arith, i, j)

  ladder_env : (last : ℕ) (rs : List Rung) (bs : List Bool) → Rungs rs bs → (c : Cursor) → (ladder last rs c).after.env ≡ c.env
  ladder_env last [] bs h c = refl
  ladder_env last (r ∷ []) [] h c = absurd h
  ladder_env last (r ∷ []) (b ∷ bs) h c = h.0.env c
  ladder_env last (r ∷ s ∷ rs) [] h c = absurd h
  ladder_env last (r ∷ s ∷ rs) (b ∷ bs) h c = ladder_env last (s ∷ rs) bs h.1 (r.test c).after ∙ h.0.env c

  ladder_begins : (last : ℕ) (rs : List Rung) (bs : List Bool) → Rungs rs bs → (c : Cursor) → (ladder last rs c).after.op ≡ 0
  ladder_begins last [] bs h c = refl
  ladder_begins last (r ∷ []) [] h c = absurd h
  ladder_begins last (r ∷ []) (b ∷ bs) h c = h.0.begins c
  ladder_begins last (r ∷ s ∷ rs) [] h c = absurd h
  ladder_begins last (r ∷ s ∷ rs) (b ∷ bs) h c = ladder_begins last (s ∷ rs) bs h.1 (r.test c).after

  -- behind the tests
  pub record Climbed (most : ℕ) (c d : Cursor) (block : ℕ) (f : ℕ → ℕ) (s : At Store) (free : (Point → ℕ) → ℕ) : Type 0 where
    pub values : ℕ → ℕ
    pub ready : Ready w l most 1 (record { block = block; op = 0; values = d.values; env = c.env }) values s free
    pub same : Same c.values f values

  at_env : {most b v : ℕ} {e d : List ℕ} {f : ℕ → ℕ} {s : At Store} {free : (Point → ℕ) → ℕ} → e ≡ d → Ready w l most 1 (record { block = b; op = 0; values = v; env = e }) f s free → Ready w l most 1 (record { block = b; op = 0; values = v; env = d }) f s free
  at_env {most} {b} {v} {e} {d} {f} {s} {free} is r = subst (λ x. Ready w l most 1 (record { block = b; op = 0; values = v; env = x }) f s free) is r

  climbs : (last : ℕ) (rs : List Rung) (bs : List Bool) → Rungs rs bs → (most : ℕ) (to : ℕ → ℕ) (c : Cursor) (f : ℕ → ℕ) (s : At Store) (room free : (Point → ℕ) → ℕ) → most ≤ fuel → Standing w.procedures l.proc ((ladder last rs c).pieces to)
      → ((h : Point → ℕ) → bulk l.proc ((ladder last rs c).pieces to) h + free h ≤ room h) → Fits w l ((ladder last rs c).pieces to) free → K c.values f s.store → Typing w l s.store → Ready w l most 1 (position c) f s room
      → Climbed most c (ladder last rs c).after (goal rs bs to (ladder last rs c).after.block) f s free
  climbs last [] bs h most to c f s room free le stands fits within known typed r = record {
    values = f;
    ready = record {
      memory = r.memory;
      reached = pass_quiet (system w) (least w.procedures) w.points w.first w.turns 1 free (In l.proc c.block c.op) (runs_at w l (record { block = suc c.block; op = 0; values = c.values; env = c.env }) f r.memory s.store) r.reached refl
          (end_step w l (position c) f r.memory s.store (Jump (suc c.block) []) (stands.0.0, stands.0.1) ∙ ap (λ ps. Moves [] (Runs (at_block (frame_at l (position c) f) (suc c.block) (set_all ps [] f)) l.callers (world_of w l r.memory s.store))) stands.0.2)
          (λ h. let z = fits h in omega (arith, z)) (omega arith);
      held = r.held;
      size = r.size;
      under = r.under;
      registers = r.registers;
      since = r.since;
    };
    same = λ u lt. refl;
  }
  climbs last (x ∷ []) [] h most to c f s room free le stands fits within known typed r = absurd h
  climbs last (x ∷ []) (b ∷ []) h most to c f s room free le stands fits within known typed r =
      let t = x.test c in
      let v = (h.0.by most 1 c (to x.part) t.after.block last f s room free le (omega arith) stands fits within known typed r).by in
      record { values = v.values; ready = at_env (h.0.env c) v.ready; same = v.same }
  climbs last (x ∷ []) (b ∷ d ∷ bs) h most to c f s room free le stands fits within known typed r = absurd h.1
  climbs last (x ∷ y ∷ rs) [] h most to c f s room free le stands fits within known typed r = absurd h
  climbs last (x ∷ y ∷ rs) (b ∷ bs) h most to c f s room free le stands fits within known typed r =
      let t = x.test c in
      let more = ladder last (y ∷ rs) t.after in
      let ps = t.pieces (to x.part) t.after.block c.freq in
      let qs = more.pieces to in
      let v = (h.0.by most 1 c (to x.part) t.after.block c.freq f s room (λ k. bulk l.proc qs k + free k) le (omega arith) (stand_first w.procedures l.proc ps qs stands)
      (λ k. let z = fits k in omega (arith, z, bulk_append l.proc ps qs k)) (λ k. let z = within k in omega (arith, z, bulk_append l.proc ps qs k)) known typed r).by in
      by b v (λ g same ready. climbs last (y ∷ rs) bs h.1 most to t.after g s (λ k. bulk l.proc qs k + free k) free le (stand_rest w.procedures l.proc ps qs stands) (λ k. omega arith) (λ k. let z = within k in omega (arith, z, bulk_append l.proc ps qs k))
      (steady.by c.values t.after.values f g s.store s.store (h.0.grows c) same (later_refl w l s.store) known) typed ready)
    where
      by : (b : Bool) → Went w l itself No_more most c (x.test c).after (to x.part) (x.test c).after.block s.store f (λ k. bulk l.proc ((ladder last (y ∷ rs) (x.test c).after).pieces to) k + free k) b s
          → ((g : ℕ → ℕ) → Same c.values f g → Ready w l most 1 (position (x.test c).after) g s (λ k. bulk l.proc ((ladder last (y ∷ rs) (x.test c).after).pieces to) k + free k) → Climbed most (x.test c).after (ladder last (y ∷ rs) (x.test c).after).after (goal (y ∷ rs) bs to (ladder last (y ∷ rs) (x.test c).after).after.block) g s free)
          → Climbed most c (ladder last (y ∷ rs) (x.test c).after).after (cond b (to x.part) (goal (y ∷ rs) bs to (ladder last (y ∷ rs) (x.test c).after).after.block)) f s free
      by true v again = record {
        values = v.values;
        ready = at_env (h.0.env c) (ready_higher w l (ladder last (y ∷ rs) (x.test c).after).after.values (ladder_grows last (y ∷ rs) bs h.1 (x.test c).after) (ready_more w l most 1 free v.ready (omega arith) (omega arith) (λ k. omega arith)));
        same = v.same;
      }
      by false v again =
          let z = again v.values v.same (subst (λ i. Ready w l most 1 (record { block = (x.test c).after.block; op = i; values = (x.test c).after.values; env = (x.test c).after.env }) v.values s (λ k. bulk l.proc ((ladder last (y ∷ rs) (x.test c).after).pieces to) k + free k)) (sym (h.0.begins c)) v.ready) in
          record { values = z.values; ready = at_env (h.0.env c) z.ready; same = same_on c.values (x.test c).after.values f v.values z.values (h.0.grows c) v.same z.same }

  ---- Parts

  abbrev pub Bodies : List Deed → List (Low (Unit {0})) → Type 0
  Bodies [] [] = Unit {0}
  Bodies (m ∷ ms) (b ∷ bs) = Follows w l 1 fuel mask K Always m b × Bodies ms bs
  Bodies _ _ = ⊥

  limbs_grow : (s : Cursor) (ms : List Deed) (bodies : List (Low (Unit {0}))) → Bodies ms bodies → (c : Cursor) (end : ℕ → End) → c.values ≤ (limbs mask s bodies c end).after.values
  limbs_grow s [] [] h c end = beyond_more mask c.values s.env
  limbs_grow s [] (b ∷ bs) h c end = absurd h
  limbs_grow s (m ∷ ms) [] h c end = absurd h
  limbs_grow s (m ∷ ms) (b ∷ bs) h c end =
      let start : Cursor = record (fresh c) { freq = half s.freq; env = s.env; seen = s.seen } in
      let one = b start in
      let i = h.0.grows.by start in let j = limbs_grow s ms bs h.1 one.after (λ out. Jump out (picked mask one.after.env)) in omega (arith, i, j)

  -- the number of values before the join's parameters
  abbrev last_values : Cursor → List (Low (Unit {0})) → Cursor → ℕ
  last_values s [] c = c.values
  last_values s (b ∷ bs) c = last_values s bs (b (record (fresh c) { freq = half s.freq; env = s.env; seen = s.seen })).after

  last_more : (s : Cursor) (ms : List Deed) (bodies : List (Low (Unit {0}))) → Bodies ms bodies → (c : Cursor) → c.values ≤ last_values s bodies c
  last_more s [] [] h c = omega arith
  last_more s [] (b ∷ bs) h c = absurd h
  last_more s (m ∷ ms) [] h c = absurd h
  last_more s (m ∷ ms) (b ∷ bs) h c =
      let start : Cursor = record (fresh c) { freq = half s.freq; env = s.env; seen = s.seen } in
      let i = h.0.grows.by start in let j = last_more s ms bs h.1 (b start).after in omega (arith, i, j)

  limbs_after : (s : Cursor) (bodies : List (Low (Unit {0}))) (c : Cursor) (end : ℕ → End) → position (limbs mask s bodies c end).after ≡ record { block = (limbs mask s bodies c end).after.block; op = 0; values = beyond mask (last_values s bodies c) s.env; env = merged mask (last_values s bodies c) s.env }
  limbs_after s [] c end = refl
  limbs_after s (b ∷ bs) c end = let one = b (record (fresh c) { freq = half s.freq; env = s.env; seen = s.seen }) in limbs_after s bs one.after (λ out. Jump out (picked mask one.after.env))

  limbs_first : (s : Cursor) (bodies : List (Low (Unit {0}))) (c : Cursor) (end : ℕ → End) (out : ℕ) → Standing w.procedures l.proc ((limbs mask s bodies c end).pieces out) → Ends_at w l c.block c.op (end out)
  limbs_first s [] c end out stands = (stands.0.0, stands.0.1)
  limbs_first s (b ∷ bs) c end out stands = (stands.0.0, stands.0.1)

  limbs_weight : (s : Cursor) (bodies : List (Low (Unit {0}))) (c : Cursor) (end : ℕ → End) (out : ℕ) (h : Point → ℕ) → h (In l.proc c.block c.op) ≤ bulk l.proc ((limbs mask s bodies c end).pieces out) h
  limbs_weight s [] c end out h = omega arith
  limbs_weight s (b ∷ bs) c end out h = omega arith

  limbs_join : (s : Cursor) (bodies : List (Low (Unit {0}))) (c : Cursor) (end : ℕ → End) (out : ℕ) → Standing w.procedures l.proc ((limbs mask s bodies c end).pieces out) → Begins_with w l (limbs mask s bodies c end).after.block (params mask (last_values s bodies c) s.env)
  limbs_join s [] c end out stands = stands.0.2
  limbs_join s (b ∷ bs) c end out stands =
      let one = b (record (fresh c) { freq = half s.freq; env = s.env; seen = s.seen }) in
      limbs_join s bs one.after (λ out. Jump out (picked mask one.after.env)) out (stand_rest w.procedures l.proc one.pieces ((limbs mask s bs one.after (λ out. Jump out (picked mask one.after.env))).pieces out) stands.1)

  -- from a part to behind the CASE
  pub record Joined (most base v out : ℕ) (env : List ℕ) (s : Store) (f : ℕ → ℕ) (free : (Point → ℕ) → ℕ) (u : Unit {0}) (t : At Store) : Type 0 where
    pub values : ℕ → ℕ
    pub ready : Ready w l most 1 (record { block = out; op = 0; values = beyond mask v env; env = merged mask v env }) values t free
    pub later : Later w l s t.store
    pub same : Same base f values
    pub typed : Typing w l t.store

  module _ (most base v out : ℕ) (way free : (Point → ℕ) → ℕ) (s : Cursor) where
    -- a part, from the beginning of its block
    abbrev Way : ℕ → Deed → Type 0
    Way block m = (f : ℕ → ℕ) (t : At Store) → K base f t.store → Typing w l t.store → Ready w l most 1 (record { block = block; op = 0; values = base; env = s.env }) f t way → Goes w (m t) (Joined most base v out s.env t.store f free)

    abbrev Ways : ℕ → (ℕ → ℕ) → List Deed → Type 0
    Ways i to [] = Unit {0}
    Ways i to (m ∷ ms) = Way (to i) m × Ways (suc i) to ms

    ways_later : (i b : ℕ) (to : ℕ → ℕ) (ms : List Deed) → Ways i to ms → Ways (suc i) (before b to) ms
    ways_later i b to [] h = tt
    ways_later i b to (m ∷ ms) h = (h.0, ways_later (suc i) b to ms h.1)

    ways : most ≤ fuel → Begins_with w l out (params mask v s.env) → length s.env ≡ l.count → Under v s.env → (ms : List Deed) (bodies : List (Low (Unit {0}))) → Bodies ms bodies → (c : Cursor) (end : ℕ → End) → base ≤ c.values → last_values s bodies c ≤ v → Standing w.procedures l.proc ((limbs mask s bodies c end).pieces out)
        → ((h : Point → ℕ) → bulk l.proc ((limbs mask s bodies c end).pieces out) h + free h ≤ way h) → Fits w l ((limbs mask s bodies c end).pieces out) free → Ways 0 (limbs mask s bodies c end).starts ms
    ways le is size under [] bodies each c end low high stands fits within = tt
    ways le is size under (m ∷ ms) [] each c end low high stands fits within = absurd each
    ways le is size under (m ∷ ms) (b ∷ bs) each c end low high stands fits within =
        let start : Cursor = record (fresh c) { freq = half s.freq; env = s.env; seen = s.seen } in
        let one = b start in
        let rest = limbs mask s bs one.after (λ out. Jump out (picked mask one.after.env)) in
        let stands1 = stand_rest w.procedures l.proc one.pieces (rest.pieces out) stands.1 in
        let grown = each.0.grows.by start in
        let last = last_more s ms bs each.1 one.after in (
          (λ f t known typed r. goes_on w l (m t)
              (each.0.by most 1 start f t way (λ h. h (In l.proc one.after.block one.after.op) + free h) le (omega arith) (omega arith) (stand_first w.procedures l.proc one.pieces (rest.pieces out) stands.1)
              (λ h. let z = fits h in let k = limbs_weight s bs one.after (λ out. Jump out (picked mask one.after.env)) out h in omega (arith, z, k, bulk_append l.proc one.pieces (rest.pieces out) h))
              (λ h. let z = within h in let k = limbs_weight s bs one.after (λ out. Jump out (picked mask one.after.env)) out h in omega (arith, z, k, bulk_append l.proc one.pieces (rest.pieces out) h))
              (steady.by base start.values f f t.store t.store low (λ y lt. refl) (later_refl w l t.store) known) typed (ready_higher w l start.values low r))
              (λ x z d. record {
                values = set_all (params mask v s.env) (map d.values (picked mask one.after.env)) d.values;
                ready = jump w l free out v mask s.env (limbs_first s bs one.after (λ out. Jump out (picked mask one.after.env)) out stands1) is d.off size under (λ h. omega arith) d.ready;
                later = d.later;
                same = same_on base start.values f d.values (set_all (params mask v s.env) (map d.values (picked mask one.after.env)) d.values) low (λ y lt. d.same y (omega (arith, lt, low)))
                    (λ y lt. enter_same mask v s.env (map d.values (picked mask one.after.env)) d.values y (omega (arith, lt, grown, last, high)));
                typed = d.typed;
              })),
          ways_later 0 start.block rest.starts ms (ways le is size under ms bs each.1 one.after (λ out. Jump out (picked mask one.after.env)) (omega (arith, low, grown)) high stands1
              (λ h. let z = fits h in omega (arith, z, bulk_append l.proc one.pieces (rest.pieces out) h)) (λ h. let z = within h in omega (arith, z, bulk_append l.proc one.pieces (rest.pieces out) h))),
        )

    -- the part that the tests lead to, or what comes where none fits
    module _ (final : Bool → Deed) (chosen : (t : At Store) → final true t ≡ Gives tt t) (other : ℕ) (none : (f : ℕ → ℕ) (t : At Store) → K base f t.store → Typing w l t.store → Ready w l most 1 (record { block = other; op = 0; values = base; env = s.env }) f t way → Goes w (final false t) (Joined most base v out s.env t.store f free)) where
      goes_part : (i : ℕ) (bss : List (List Bool)) (ms : List Deed) (to : ℕ → ℕ) → Matched bss ms → Ways i to ms → (f : ℕ → ℕ) (t : At Store) → K base f t.store → Typing w l t.store → Ready w l most 1 (record { block = pick i bss to other; op = 0; values = base; env = s.env }) f t way
          → Goes w (after (first_of (parts_of bss ms) t) final) (Joined most base v out s.env t.store f free)
      goes_part i [] [] to same each f t known typed r = none f t known typed r
      goes_part i [] (m ∷ ms) to same each f t known typed r = absurd same
      goes_part i (bs ∷ more) [] to same each f t known typed r = absurd same
      goes_part i (bs ∷ more) (m ∷ ms) to same each f t known typed r = by (any_true bs) r (λ q. goes_part (suc i) more ms to same each.1 f t known typed q)
        where
          by : (b : Bool) → Ready w l most 1 (record { block = cond b (to i) (pick (suc i) more to other); op = 0; values = base; env = s.env }) f t way
              → (Ready w l most 1 (record { block = pick (suc i) more to other; op = 0; values = base; env = s.env }) f t way → Goes w (after (first_of (parts_of more ms) t) final) (Joined most base v out s.env t.store f free))
              → Goes w (after ((if b then (m >>= λ _. give true) else first_of (parts_of more ms)) t) final) (Joined most base v out s.env t.store f free)
          by true r later = subst (λ e. Goes w e (Joined most base v out s.env t.store f free)) (sym (after_after (m t) (λ _. give true) final))
              (then_goes w l m (λ u. final true) t (each.0 f t known typed r) (λ u z d. goes_here w l (final true z) tt z (chosen z) d))
          by false r later = later r

  ---- CASE

  module _ (tss : List (List Test)) (bss : List (List Bool)) (says : AllSay tss bss) (ms : List Deed) (bodies : List (Low (Unit {0}))) (each : Bodies ms bodies) (same_size : Matched bss ms) (unmatched : ℕ → List ℕ → End) (final : Bool → Deed) (chosen : (t : At Store) → final true t ≡ Gives tt t) where
    abbrev tests_at : Cursor → Ladder
    tests_at c = ladder (half c.freq) (rungs_of 0 tss) c

    abbrev limbs_at : Cursor → Limbs
    limbs_at c = limbs mask c bodies (tests_at c).after (λ out. unmatched out (picked mask c.env))

    -- what comes where no part fits
    abbrev pub Otherwise : Type 0
    Otherwise = (most : ℕ) (c : Cursor) (base v out block : ℕ) (way free : (Point → ℕ) → ℕ) (f : ℕ → ℕ) (t : At Store) → Ends_at w l block 0 (unmatched out (picked mask c.env)) → Begins_with w l out (params mask v c.env) → length c.env ≡ l.count → Under v c.env → base ≤ v
        → ((h : Point → ℕ) → h (In l.proc block 0) + free h ≤ way h) → Typing w l t.store → Ready w l most 1 (record { block = block; op = 0; values = base; env = c.env }) f t way → Goes w (final false t) (Joined most base v out c.env t.store f free)

    rungs_say : Rungs (rungs_of 0 tss) (all_in bss)
    rungs_say = rungs_all 0 tss bss says

    pub follows_case : Otherwise → Follows w l 1 fuel mask K Always (first_of (parts_of bss ms) >>= final) (case mask (rungs_of 0 tss) bodies unmatched)
    follows_case otherwise = record {
      grows = record { by = λ c. let i = ladder_grows (half c.freq) (rungs_of 0 tss) (all_in bss) rungs_say c in let j = limbs_grow c ms bodies each (tests_at c).after (λ out. unmatched out (picked mask c.env)) in omega (arith, i, j) };
      by = λ most g c f s room free le needs few stands fits within known typed r.
          let paid : 1 ≡ g = omega (arith, needs, few) in
          let t = tests_at c in
          let a = limbs_at c in
          let end = λ (out : ℕ). unmatched out (picked mask c.env) in
          let out = a.after.block in
          let tests = t.pieces a.starts in
          let parts = a.pieces out in
          let way = λ (h : Point → ℕ). bulk l.proc parts h + free h in
          let base = t.after.values in
          let v = last_values c bodies t.after in
          let up = ladder_grows (half c.freq) (rungs_of 0 tss) (all_in bss) rungs_say c in
          let high = last_more c ms bodies each t.after in
          let stands2 = stand_rest w.procedures l.proc tests parts stands in
          let within2 = λ (h : Point → ℕ). bulk_append l.proc tests parts h in
          let x = climbs (half c.freq) (rungs_of 0 tss) (all_in bss) rungs_say most a.starts c f s room way le (stand_first w.procedures l.proc tests parts stands) (λ h. let z = fits h in omega (arith, z, bulk_append l.proc tests parts h)) (λ h. let z = within h in omega (arith, z, bulk_append l.proc tests parts h)) known typed
          (subst (λ q. Ready w l most q (position c) f s room) (sym paid) r) in
          let under = under_more c.values v c.env (omega (arith, up, high)) r.under in
          let ends = limbs_first c bodies t.after end out stands2 in
          let first = ladder_begins (half c.freq) (rungs_of 0 tss) (all_in bss) rungs_say c in
          let begins = limbs_join c bodies t.after end out stands2 in
          let place = limbs_after c bodies t.after end in
          subst (λ q. Goes w ((first_of (parts_of bss ms) >>= final) s) (Done w l Always mask most q c (case mask (rungs_of 0 tss) bodies unmatched c) s.store f free)) paid
          (goes_on w l ((first_of (parts_of bss ms) >>= final) s)
          (goes_part most base v out way free c final chosen t.after.block
          (λ g2 t2 known2 typed2 r2. otherwise most c base v out t.after.block way free g2 t2 (subst (λ i. Ends_at w l t.after.block i (end out)) first ends) begins r.size under high
          (λ h. let k = limbs_weight c bodies t.after end out h in let e = ap (λ i. h (In l.proc t.after.block i)) first in omega (arith, k, e)) typed2 r2)
          0 bss ms a.starts same_size
          (ways most base v out way free c le begins r.size under ms bodies each t.after end (omega arith) (omega arith) stands2 (λ h. omega arith) (λ h. let z = within h in omega (arith, z, bulk_append l.proc tests parts h)))
          x.values s (steady.by c.values base f x.values s.store s.store up x.same (later_refl w l s.store) known) typed
          (subst (λ b. Ready w l most 1 (record { block = b; op = 0; values = base; env = c.env }) x.values s way) (goal_all 0 tss bss a.starts t.after.block says) x.ready))
          (λ u z d. record {
            values = d.values;
            ready = subst (λ q. Ready w l most 1 q d.values z free) (sym place) d.ready;
            later = d.later;
            is = tt;
            same = same_on c.values base f x.values d.values up x.same d.same;
            off = subst (λ (q : Position). Off mask c.env q.env) (sym place) (off_merged mask v c.env);
            typed = d.typed;
          }));
    }

-- bodies whose facts are given
pub bodies_known : (w : Whole) (l : Level) (fuel : ℕ) (mask : Mask) {A B : Fact} (a : Steady w l A) (b : Steady w l B) → ((n : ℕ) (f : ℕ → ℕ) (s : Store) → B n f s → A n f s) → (ms : List Deed) (bodies : List (Low (Unit {0}))) → Bodies w l fuel A mask a ms bodies → Bodies w l fuel B mask b ms bodies
bodies_known w l fuel mask a b known [] [] h = tt
bodies_known w l fuel mask a b known [] (x ∷ xs) h = absurd h
bodies_known w l fuel mask a b known (m ∷ ms) [] h = absurd h
bodies_known w l fuel mask a b known (m ∷ ms) (x ∷ xs) h = (follows_known w l known h.0, bodies_known w l fuel mask a b known ms xs h.1)
