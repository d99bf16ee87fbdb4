-- The code of a construct does what the construct means: one logic for expressions, designators and statements.
use Rattle.std.proofs.Common.{◌≡◌, ℕ, suc, ◌+◌, ◌≤◌, ◌<◌, ◌⊎◌, List, [], ◌∷◌, ◌++◌, map, length, Bool, true, false, slice_index, ⊎_elim, inl, inr, refl, sym, ap, ap₂, ◌∙◌, subst, arith, Option, Some, None}
use Rattle.std.specs.Prelude.{drop}
use Rattle.run_laws.specs.Runs.{Moves, weigh}
use Rattle.run_laws.specs.Turns.{Ending, Gives, Fails, Spent, ◌>>=◌, give}
use Rattle.run_laws.specs.Turns.{State as At}
use Rattle.run_laws.proofs.Reached.{pass}
use Rattle.run_laws.proofs.Comes.{comes_bind, comes_map, comes_trap, comes_senseless}
use Rattle.a64_memory.specs.Memory.{Area}
use Rattle.block_runs.specs.declared.code.Code.{Code}
use Rattle.block_runs.specs.Blocks.{Operation, block_of, procedure_of}
use Rattle.block_runs.specs.States.{Frame, World, Runs, Point, In}
use Rattle.block_runs.specs.States.{Kind as Stopped}
use Rattle.block_runs.specs.Effects.{Effect, Does, effect_of}
use Rattle.block_runs.specs.Effects.{Gives as Yields, Fails as Refuses}
use Rattle.block_runs.specs.Steps.{set, define, behind, perform, operate}
use Rattle.block_runs.specs.Points.{least, rest_least}
use Rattle.ob_types.specs.Sense.{HasSense}
use Rattle.ob_types.specs.Store.{Cell, Store, Trap, Kind, Senseless, Act, given, cell_of}
use Rattle.ob_sound.proofs.Typed.{Sound, Good, Older, older_refl}
use Rattle.ssa_core.specs.Procedures.{operation_of}
use Rattle.ssa_core.specs.declared.procedure.Op.{Op}
use Rattle.ssa_lowered.specs.Pieces.{Cursor, Piece, Made, Low, Mask, emits, does}
use Rattle.ssa_lowered.specs.Pieces.{◌>>=◌ as ◌>>>◌, give as gives}
use Rattle.object_nodes.specs.Running.{forms_of_all}
use Rattle.lowered_runs.specs.Words.{same_trap, Whole, Level, ValueIs, Held, Later}
use Rattle.lowered_runs.proofs.Stores.{later_refl, later_on, value_later}
use Rattle.lowered_runs.proofs.Values.{Same, Off, put_same, same_on, under_more, under_at, off_refl, off_on, off_more}
use Rattle.lowered_runs.proofs.Standing.{Standing, stand_first, stand_rest, bulk, bulk_append, shared}
use Rattle.lowered_runs.proofs.Ready.{Position, position, system, world_of, frame_at, runs_at, Typing, Asks, Goes, Came_to, Ready, ready_more}

-- what is known of the values below n and of the store
abbrev pub Fact : Type 1
Fact = ℕ → (ℕ → ℕ) → Store → Type 0

abbrev pub And : Fact → Fact → Fact
And K L n f s = K n f s × L n f s

abbrev pub Anything : Fact
Anything n f s = Unit {0}

module _ (w : Whole) (l : Level) where
  -- it stays so while values are added and the call goes on
  pub record Steady (K : Fact) : Type 0 where
    pub by : (n m : ℕ) (f g : ℕ → ℕ) (s t : Store) → n ≤ m → Same n f g → Later w l s t → K n f s → K m g t

  pub steady_and : {K L : Fact} → Steady K → Steady L → Steady (And K L)
  steady_and a b = record { by = λ n m f g s t le same later h. (a.by n m f g s t le same later h.0, b.by n m f g s t le same later h.1) }

  pub steady_anything : Steady Anything
  steady_anything = record { by = λ n m f g s t le same later h. tt }

  -- behind a part
  pub record DoneTo {A B : Type 0} (kept : Bool) (R : A → B → Fact) (mask : Mask) (most g : ℕ) (c : Cursor) (v : Made B) (s : Store) (f : ℕ → ℕ) (free : (Point → ℕ) → ℕ) (a : A) (t : At Store) : Type 0 where
    pub values : ℕ → ℕ
    pub ready : Ready w l most g (position v.after) values t free
    pub later : Later w l s t.store
    pub is : R a v.result v.after.values values t.store
    pub same : Same c.values f values
    pub off : Off mask c.env v.after.env
    pub typed : Asks kept (Typing w l t.store)

  abbrev pub Done : {A B : Type 0} → (A → B → Fact) → Mask → (most g : ℕ) → Cursor → Made B → Store → (ℕ → ℕ) → ((Point → ℕ) → ℕ) → A → At Store → Type 0
  Done R mask most g c v s f free a t = DoneTo true R mask most g c v s f free a t

  -- values are only added
  pub record Grows {B : Type 0} (low : Low B) : Type 0 where
    pub by : (c : Cursor) → c.values ≤ (low c).after.values

  pub grows_bind : {B D : Type 0} {low : Low B} {more : B → Low D} → Grows low → ((b : B) → Grows (more b)) → Grows (low >>> more)
  grows_bind {B} {D} {low} {more} one two = record { by = λ c. let i = one.by c in let j = (two (low c).result).by (low c).after in omega (arith, i, j) }

  -- there is room for pieces, for what comes behind them, and for the routines
  abbrev pub Fits : List Piece → ((Point → ℕ) → ℕ) → Type 0
  Fits pieces free = (h : Point → ℕ) → bulk l.proc pieces h + (free h + shared h) ≤ weigh h w.points

  -- where K is known the code does what the meaning does, and behind it R is known; at first, need turns are paid for; where it is kept, the store is
  -- typed again behind it
  pub record FollowsTo {A B : Type 0} (kept : Bool) (need fuel : ℕ) (mask : Mask) (K : Fact) (R : A → B → Fact) (m : Act A) (low : Low B) : Type 0 where
    pub grows : Grows low
    pub by : (most g : ℕ) (c : Cursor) (f : ℕ → ℕ) (s : At Store) (room free : (Point → ℕ) → ℕ) → most ≤ fuel → need ≤ g → g ≤ 1
        → Standing w.procedures l.proc (low c).pieces → ((h : Point → ℕ) → bulk l.proc (low c).pieces h + free h ≤ room h) → Fits (low c).pieces free
        → K c.values f s.store → Typing w l s.store → Ready w l most g (position c) f s room → Goes w (m s) (DoneTo kept R mask most g c (low c) s.store f free)

  abbrev pub Follows : {A B : Type 0} → (need fuel : ℕ) → Mask → Fact → (A → B → Fact) → Act A → Low B → Type 0
  Follows need fuel mask K R m low = FollowsTo true need fuel mask K R m low

  -- parts of meanings, one behind the other
  pub then_goes : {A C : Type 0} {Good : A → At Store → Type 0} {Next : C → At Store → Type 0} (m : Act A) (h : A → Act C) (s : At Store) → Goes w (m s) Good → ((a : A) (t : At Store) → Good a t → Goes w (h a t) Next) → Goes w ((m >>= h) s) Next
  then_goes m h s one two = comes_bind HasSense (system w) (least w.procedures) w.points w.first w.turns same_trap (m s) h one two

  pub goes_on : {A : Type 0} {Good Next : A → At Store → Type 0} (e : Ending Store Trap A) → Goes w e Good → ((a : A) (t : At Store) → Good a t → Next a t) → Goes w e Next
  goes_on e one on = comes_map HasSense (system w) (least w.procedures) w.points w.first w.turns same_trap e one on

  pub goes_senseless : {A : Type 0} {Good : A → At Store → Type 0} (e : Ending Store Trap A) (out : List ℕ) → e ≡ Fails Senseless out → Goes w e Good
  goes_senseless {A} {Good} e out is = subst (λ z. Goes w z Good) (sym is) (comes_senseless HasSense (system w) (least w.procedures) w.points w.first w.turns same_trap Senseless out (λ x. x))

  pub goes_here : {A : Type 0} {Good : A → At Store → Type 0} (e : Ending Store Trap A) (a : A) (t : At Store) → e ≡ Gives a t → Good a t → Goes w e Good
  goes_here {A} {Good} e a t is good = subst (λ z. Goes w z Good) (sym is) (record { by = good })

  pub follows_bind : {A B C D : Type 0} {kept : Bool} {need fuel : ℕ} {mask : Mask} {K : Fact} {R : A → B → Fact} {Q : C → D → Fact} {m : Act A} {low : Low B} {h : A → Act C} {more : B → Low D}
      → Steady K → Follows need fuel mask K R m low → ((b : B) → Grows (more b)) → ((a : A) (b : B) → FollowsTo kept need fuel mask (And K (R a b)) Q (h a) (more b)) → FollowsTo kept need fuel mask K Q (m >>= h) (low >>> more)
  follows_bind {A} {B} {C} {D} {kept} {need} {fuel} {mask} {K} {R} {Q} {m} {low} {h} {more} steady one grows two = record {
    grows = grows_bind one.grows grows;
    by = λ most g c f s room free le needs few stands fits within known typed r.
        let d = low c in
        let e = more d.result d.after in
        then_goes m h s
        (one.by most g c f s room (λ k. bulk l.proc e.pieces k + free k) le needs few (stand_first w.procedures l.proc d.pieces e.pieces stands)
        (λ k. let z = fits k in omega (arith, z, bulk_append l.proc d.pieces e.pieces k)) (λ k. let z = within k in omega (arith, z, bulk_append l.proc d.pieces e.pieces k)) known typed r)
        (λ a t v. goes_on (h a t)
        ((two a d.result).by most g d.after v.values t (λ k. bulk l.proc e.pieces k + free k) free le needs few (stand_rest w.procedures l.proc d.pieces e.pieces stands)
        (λ k. omega arith) (λ k. let z = within k in omega (arith, z, bulk_append l.proc d.pieces e.pieces k))
        (steady.by c.values d.after.values f v.values s.store t.store (one.grows.by c) v.same v.later known, v.is) v.typed v.ready)
        (λ b u z. record {
          values = z.values;
          ready = z.ready;
          later = later_on w l s.store t.store u.store v.later z.later;
          is = z.is;
          same = same_on c.values d.after.values f v.values z.values (one.grows.by c) v.same z.same;
          off = off_on mask c.env d.after.env e.after.env v.off z.off;
          typed = z.typed;
        }));
  }

  pub grows_give : {B : Type 0} (b : B) → Grows (gives b)
  grows_give b = record { by = λ c. omega arith }

  pub grows_emits : (code : Code) (us : List ℕ) → Grows (emits code us)
  grows_emits code us = record { by = λ c. omega arith }

  pub grows_does : (code : Code) (us : List ℕ) → Grows (does code us)
  grows_does code us = record { by = λ c. omega arith }

  -- nothing is done: what the meaning gives is seen from what is known, or it makes no sense
  pub follows_seen : {A B : Type 0} {need fuel : ℕ} {mask : Mask} {K : Fact} {R : A → B → Fact} {m : Act A} (b : B)
      → ((n : ℕ) (f : ℕ → ℕ) (s : At Store) (memory : List Area) → Held w l s.store memory → Typing w l s.store → K n f s.store → ((a : A) × (m s ≡ Gives a s) × R a b n f s.store) ⊎ (m s ≡ Fails Senseless s.out)) → Follows need fuel mask K R m (gives b)
  follows_seen {A} {B} {need} {fuel} {mask} {K} {R} {m} b has = record {
    grows = grows_give b;
    by = λ most g c f s room free le needs few stands fits within known typed r. ⊎_elim
        (λ (z : (a : A) × (m s ≡ Gives a s) × R a b c.values f s.store). goes_here (m s) z.0 s z.1 (record {
          values = f;
          ready = ready_more w l most g free r (omega arith) (omega arith) (λ h. let y = fits h in omega (arith, y));
          later = later_refl w l s.store;
          is = z.2;
          same = λ u lt. refl;
          off = off_refl mask c.env;
          typed = typed;
        }))
        (λ (z : m s ≡ Fails Senseless s.out). goes_senseless (m s) s.out z)
        (has c.values f s r.memory r.held typed known);
  }

  pub follows_give : {A B : Type 0} {need fuel : ℕ} {mask : Mask} {K : Fact} {R : A → B → Fact} (a : A) (b : B) → ((n : ℕ) (f : ℕ → ℕ) (s : Store) → K n f s → R a b n f s) → Follows need fuel mask K R (give a) (gives b)
  follows_give a b has = follows_seen b (λ n f s memory held typed known. inl (a, refl, has n f s.store known))

  -- a part of the meaning that has no code of its own
  pub follows_then : {A B C : Type 0} {need fuel : ℕ} {mask : Mask} {K : Fact} {R : A → B → Fact} {Q : C → B → Fact} {m : Act A} {low : Low B} {h : A → Act C} → Steady K → Follows need fuel mask K R m low
      → ((a : A) (b : B) (n : ℕ) (f : ℕ → ℕ) (s : At Store) → K n f s.store → R a b n f s.store → ((x : C) × (h a s ≡ Gives x s) × Q x b n f s.store) ⊎ (h a s ≡ Fails Senseless s.out))
      → Follows need fuel mask K Q (m >>= h) low
  follows_then {A} {B} {C} {need} {fuel} {mask} {K} {R} {Q} {m} {low} {h} steady one gets = record {
    grows = one.grows;
    by = λ most g c f s room free le needs few stands fits within known typed r.
        then_goes m h s (one.by most g c f s room free le needs few stands fits within known typed r)
        (λ a t v. ⊎_elim
        (λ (z : (x : C) × (h a t ≡ Gives x t) × Q x (low c).result (low c).after.values v.values t.store). goes_here (h a t) z.0 t z.1 (record {
          values = v.values;
          ready = v.ready;
          later = v.later;
          is = z.2;
          same = v.same;
          off = v.off;
          typed = v.typed;
        }))
        (λ (z : h a t ≡ Fails Senseless t.out). goes_senseless (h a t) t.out z)
        (gets a (low c).result (low c).after.values v.values t (steady.by c.values (low c).after.values f v.values s.store t.store (one.grows.by c) v.same v.later known) v.is));
  }

  -- behind a part nothing is done but to name what it gives
  pub follows_result : {A B D : Type 0} {kept : Bool} {need fuel : ℕ} {mask : Mask} {K : Fact} {R : A → B → Fact} {Q : A → D → Fact} {m : Act A} {low : Low B} (g : B → D)
      → ((a : A) (b : B) (n : ℕ) (f : ℕ → ℕ) (s : Store) → R a b n f s → Q a (g b) n f s) → FollowsTo kept need fuel mask K R m low → FollowsTo kept need fuel mask K Q m (low >>> λ b. gives (g b))
  follows_result {m = m} {low = low} g has one = record {
    grows = grows_bind one.grows (λ b. grows_give (g b));
    by = λ most more c f s room free le needs few stands fits within known typed r.
        goes_on (m s)
        (one.by most more c f s room free le needs few (stand_first w.procedures l.proc (low c).pieces [] stands)
        (λ k. let z = fits k in omega (arith, z, bulk_append l.proc (low c).pieces [] k)) (λ k. let z = within k in omega (arith, z, bulk_append l.proc (low c).pieces [] k)) known typed r)
        (λ a t v. record { values = v.values; ready = v.ready; later = v.later; same = v.same; off = v.off; typed = v.typed; is = has a (low c).result (low c).after.values v.values t.store v.is });
  }

  -- more is known before
  pub follows_known : {A B : Type 0} {kept : Bool} {need fuel : ℕ} {mask : Mask} {K L : Fact} {R : A → B → Fact} {m : Act A} {low : Low B} → ((n : ℕ) (f : ℕ → ℕ) (s : Store) → L n f s → K n f s) → FollowsTo kept need fuel mask K R m low → FollowsTo kept need fuel mask L R m low
  follows_known has one = record {
    grows = one.grows;
    by = λ most g c f s room free le needs few stands fits within known typed r. one.by most g c f s room free le needs few stands fits within (has c.values f s.store known) typed r;
  }

  -- less is said behind
  pub follows_less : {A B : Type 0} {kept : Bool} {need fuel : ℕ} {mask : Mask} {K : Fact} {R Q : A → B → Fact} {m : Act A} {low : Low B} → ((a : A) (b : B) (n : ℕ) (f : ℕ → ℕ) (s : Store) → R a b n f s → Q a b n f s) → FollowsTo kept need fuel mask K R m low → FollowsTo kept need fuel mask K Q m low
  follows_less {m = m} {low = low} has one = record {
    grows = one.grows;
    by = λ most g c f s room free le needs few stands fits within known typed r.
        goes_on (m s) (one.by most g c f s room free le needs few stands fits within known typed r)
        (λ a t v. record { values = v.values; ready = v.ready; later = v.later; same = v.same; off = v.off; typed = v.typed; is = has a (low c).result (low c).after.values v.values t.store v.is });
  }

  -- more variables may change, and turns are paid for before
  pub follows_mask : {A B : Type 0} {kept : Bool} {low_need need fuel : ℕ} {less mask : Mask} {K : Fact} {R : A → B → Fact} {m : Act A} {low : Low B} → low_need ≤ need → ((x : ℕ) → mask x ≡ false → less x ≡ false) → FollowsTo kept low_need fuel less K R m low → FollowsTo kept need fuel mask K R m low
  follows_mask {less = less} {mask = mask} {m = m} {low = low} pays fewer one = record {
    grows = one.grows;
    by = λ most g c f s room free le needs few stands fits within known typed r.
        goes_on (m s) (one.by most g c f s room free le (omega (arith, pays, needs)) few stands fits within known typed r)
        (λ a t v. record { values = v.values; ready = v.ready; later = v.later; is = v.is; same = v.same; typed = v.typed; off = off_more less mask c.env (low c).after.env fewer v.off });
  }

  -- where a part makes sense, behind it the store is typed, and what it gives has the form that it says
  pub follows_sound : {A B : Type 0} {kept : Bool} {need fuel : ℕ} {mask : Mask} {K : Fact} {R : A → B → Fact} {m : Act A} {low : Low B} {P : List ℕ → A → Type 0} → ((tags : List ℕ) → Older l.store.tags tags → Sound w.program (forms_of_all w.program l.types) tags P m) → FollowsTo kept need fuel mask K R m low → Follows need fuel mask K (λ a b. And (R a b) (λ n f s. P s.tags a)) m low
  follows_sound {A} {B} {kept} {need} {fuel} {mask} {K} {R} {m} {low} {P} sound one = record {
    grows = one.grows;
    by = λ most g c f s room free le needs few stands fits within known typed r.
        by_ending most g c f s free (m s) ((sound s.store.tags (λ o k is. r.since.tag o k is)).by s (older_refl s.store.tags) typed) (one.by most g c f s room free le needs few stands fits within known typed r);
  }
    where
      by_ending : (most g : ℕ) (c : Cursor) (f : ℕ → ℕ) (s : At Store) (free : (Point → ℕ) → ℕ) (e : Ending Store Trap A) → Good w.program (forms_of_all w.program l.types) P s.store.tags e → Goes w e (DoneTo kept R mask most g c (low c) s.store f free) → Goes w e (Done (λ a b. And (R a b) (λ n f s. P s.tags a)) mask most g c (low c) s.store f free)
      by_ending most g c f s free (Gives a t) good goes = let v = goes.by in record { by = record { values = v.values; ready = v.ready; later = v.later; is = (v.is, good.2); same = v.same; off = v.off; typed = good.0 } }
      by_ending most g c f s free (Fails trap out) good goes = record { by = goes.by }
      by_ending most g c f s free (Spent out) good goes = record { by = goes.by }

  -- what is given is what is there
  pub follows_found : {A B : Type 0} {need fuel : ℕ} {mask : Mask} {K : Fact} {R : A → B → Fact} {low : Low B} (o : Option A) → Follows need fuel mask K R (given o) low → Follows need fuel mask K (λ a b. And (R a b) (λ n f s. o ≡ Some a)) (given o) low
  follows_found {A} {B} {need} {fuel} {mask} {K} {R} {low} o one = record {
    grows = one.grows;
    by = λ most g c f s room free le needs few stands fits within known typed r. by o most g c f s free (one.by most g c f s room free le needs few stands fits within known typed r);
  }
    where
      by : (o : Option A) (most g : ℕ) (c : Cursor) (f : ℕ → ℕ) (s : At Store) (free : (Point → ℕ) → ℕ) → Goes w (given o s) (Done R mask most g c (low c) s.store f free) → Goes w (given o s) (Done (λ a b. And (R a b) (λ n f s. o ≡ Some a)) mask most g c (low c) s.store f free)
      by (Some a) most g c f s free goes = let v = goes.by in record { by = record { values = v.values; ready = v.ready; later = v.later; is = (v.is, refl); same = v.same; off = v.off; typed = v.typed } }
      by None most g c f s free goes = record { by = goes.by }

  -- what doesn't change
  pub steady_fixed : (T : Type 0) → Steady (λ n f s. T)
  steady_fixed T = record { by = λ n m f g s t le same later h. h }

  -- what can't be
  pub follows_never : {A B : Type 0} {kept : Bool} {need fuel : ℕ} {mask : Mask} {K : Fact} {R : A → B → Fact} {m : Act A} {low : Low B} → ((n : ℕ) (f : ℕ → ℕ) (s : Store) → K n f s → ⊥) → Grows low → FollowsTo kept need fuel mask K R m low
  follows_never none grows = record { grows = grows; by = λ most g c f s room free le needs few stands fits within known typed r. absurd (none c.values f s.store known) }

  ---- Operations

  -- the effect of an operation, where a run stands
  abbrev pub effect_at : (ℕ → ℕ) → List Area → Store → Code → List ℕ → Effect
  effect_at f m s code us = effect_of w.code (length w.procedures) l.args (world_of w l m s) code (map f us)

  -- it does what a part of the meaning does: writes bytes, changes the store and memory, gives a number
  pub record Did {A : Type 0} (kept : Bool) (Q : A → ℕ → Store → Type 0) (e : Ending Store Trap A) (s : At Store) (m : List Area) (effect : Effect) : Type 0 where
    pub a : A
    pub state : At Store
    pub memory : List Area
    pub bytes : List ℕ
    pub x : ℕ
    pub gives : e ≡ Gives a state
    pub does : (effect ≡ Does bytes (world_of w l memory state.store) x) ⊎ ((effect ≡ Yields x) × (bytes ≡ []) × (world_of w l memory state.store ≡ world_of w l m s.store))
    pub turns : state.turns ≡ s.turns
    pub out : state.out ≡ s.out ++ bytes
    pub held : Held w l state.store memory
    pub later : Later w l s.store state.store
    pub registers : (y : ℕ) → y < l.count → l.in_register y ≡ true → (v : Cell) → cell_of state.store.frames l.frame (l.cell y) ≡ Some v → cell_of s.store.frames l.frame (l.cell y) ≡ Some v
    pub is : Q a x state.store
    pub typed : Typing w l s.store → Asks kept (Typing w l state.store)

  abbrev pub ActsTo : {A : Type 0} → Bool → (A → ℕ → Store → Type 0) → Ending Store Trap A → At Store → List Area → Effect → Type 0
  ActsTo kept Q e s m effect = Did kept Q e s m effect ⊎ (((k : ℕ) × (e ≡ Fails (Kind k l.proc) s.out) × (effect ≡ Refuses k)) ⊎ (e ≡ Fails Senseless s.out))

  abbrev pub Acts : {A : Type 0} → (A → ℕ → Store → Type 0) → Ending Store Trap A → At Store → List Area → Effect → Type 0
  Acts Q e s m effect = ActsTo true Q e s m effect

  append_none : (xs : List ℕ) → xs ++ [] ≡ xs
  append_none [] = refl
  append_none (x ∷ xs) = ap (λ ys. x ∷ ys) (append_none xs)

  -- a number is computed, and nothing changes
  pub acts_give : {A : Type 0} {Q : A → ℕ → Store → Type 0} {e : Ending Store Trap A} {s : At Store} {m : List Area} {effect : Effect} (a : A) (x : ℕ) → Held w l s.store m → e ≡ Gives a s → effect ≡ Yields x → Q a x s.store → Acts Q e s m effect
  acts_give {s = s} {m = m} a x held giving doing is = inl (record {
    a = a;
    state = s;
    memory = m;
    bytes = [];
    x = x;
    gives = giving;
    does = inr (doing, refl, refl);
    turns = refl;
    out = sym (append_none s.out);
    held = held;
    later = later_refl w l s.store;
    registers = λ y lt r v e. e;
    is = is;
    typed = λ t. t;
  })

  pub acts_trap : {A : Type 0} {kept : Bool} {Q : A → ℕ → Store → Type 0} {e : Ending Store Trap A} {s : At Store} {m : List Area} {effect : Effect} (k : ℕ) → e ≡ Fails (Kind k l.proc) s.out → effect ≡ Refuses k → ActsTo kept Q e s m effect
  acts_trap k is does = inr (inl (k, is, does))

  pub acts_senseless : {A : Type 0} {kept : Bool} {Q : A → ℕ → Store → Type 0} {e : Ending Store Trap A} {s : At Store} {m : List Area} {effect : Effect} → e ≡ Fails Senseless s.out → ActsTo kept Q e s m effect
  acts_senseless is = inr (inr is)

  ops_at : ℕ → ℕ → List Operation
  ops_at b i = drop i (block_of (procedure_of w.procedures l.proc) b).ops

  pub op_step : (c : Position) (f : ℕ → ℕ) (m : List Area) (s : Store) (op : Op) → ((rest : List Operation) × (drop c.op (block_of (procedure_of w.procedures l.proc) c.block).ops ≡ operation_of op ∷ rest))
      → (system w).step (runs_at w l c f m s) ≡ operate w.procedures (operation_of op) (frame_at l c f) l.callers (world_of w l m s) (effect_at f m s op.code op.uses)
  op_step c f m s op is = ap (λ ops. perform w.procedures w.code ops (frame_at l c f) l.callers (world_of w l m s)) is.1

  pub op_pays : (c : Position) (op : Op) → ((rest : List Operation) × (drop c.op (block_of (procedure_of w.procedures l.proc) c.block).ops ≡ operation_of op ∷ rest)) → least w.procedures (In l.proc c.block c.op) ≡ 1
  op_pays c op is = ap (λ ops. rest_least ops (block_of (procedure_of w.procedures l.proc) c.block).end) is.1

  -- where a run stands behind an operation
  abbrev behind_op : Position → Option ℕ → ℕ → Position
  behind_op c def values = record { block = c.block; op = suc c.op; values = values; env = c.env }

  moves_to : (c : Position) (f : ℕ → ℕ) (op : Op) (m : List Area) (s : At Store) (A : Type 0) (kept : Bool) (Q : A → ℕ → Store → Type 0) (e : Ending Store Trap A) (effect : Effect) (values : ℕ) → (d : Did kept Q e s m effect)
      → operate w.procedures (operation_of op) (frame_at l c f) l.callers (world_of w l m s.store) effect ≡ Moves d.bytes (runs_at w l (behind_op c op.def values) (define op.def d.x f) d.memory d.state.store)
  moves_to c f op m s A kept Q e effect values d = by d.does
    where
      fr : Frame
      fr = frame_at l c f

      by : ((effect ≡ Does d.bytes (world_of w l d.memory d.state.store) d.x) ⊎ ((effect ≡ Yields d.x) × (d.bytes ≡ []) × (world_of w l d.memory d.state.store ≡ world_of w l m s.store)))
          → operate w.procedures (operation_of op) (frame_at l c f) l.callers (world_of w l m s.store) effect ≡ Moves d.bytes (runs_at w l (behind_op c op.def values) (define op.def d.x f) d.memory d.state.store)
      by (inl h) = ap (operate w.procedures (operation_of op) (frame_at l c f) l.callers (world_of w l m s.store)) h
      by (inr h) = ap (operate w.procedures (operation_of op) (frame_at l c f) l.callers (world_of w l m s.store)) h.0
          ∙ ap₂ (λ bytes (x : World). Moves bytes (Runs (behind (frame_at l c f) op.def d.x) l.callers x)) (sym h.1) (sym h.2)

  -- the run behind an operation, where it doesn't halt
  pub moved : {A : Type 0} {kept : Bool} {Q : A → ℕ → Store → Type 0} {e : Ending Store Trap A} (most g : ℕ) (c : Position) (f : ℕ → ℕ) (s : At Store) (room free : (Point → ℕ) → ℕ) (op : Op) (values : ℕ) (r : Ready w l most g c f s room)
      → ((rest : List Operation) × (drop c.op (block_of (procedure_of w.procedures l.proc) c.block).ops ≡ operation_of op ∷ rest)) → ((h : Point → ℕ) → h (In l.proc c.block c.op) + free h ≤ room h)
      → (d : Did kept Q e s r.memory (effect_at f r.memory s.store op.code op.uses)) → c.values ≤ values → Same c.values f (define op.def d.x f)
      → Ready w l most g (record { block = c.block; op = suc c.op; values = values; env = c.env }) (define op.def d.x f) d.state free
  moved {A} {kept} {Q} {e} most g c f s room free op values r stands fits d le same = record {
    memory = d.memory;
    reached = subst (λ k. Came_to w most g k d.state.out (runs_at w l (behind_op c op.def values) (define op.def d.x f) d.memory d.state.store) free) (sym d.turns)
        (subst (λ o. Came_to w most g s.turns o (runs_at w l (behind_op c op.def values) (define op.def d.x f) d.memory d.state.store) free) (sym d.out)
        (pass (system w) (least w.procedures) w.points w.first w.turns g free (In l.proc c.block c.op) d.bytes (runs_at w l (behind_op c op.def values) (define op.def d.x f) d.memory d.state.store) r.reached refl
        (op_step c f r.memory s.store op stands ∙ moves_to c f op r.memory s A kept Q e (effect_at f r.memory s.store op.code op.uses) values d) fits (omega arith)));
    held = d.held;
    size = r.size;
    under = under_more c.values values c.env le r.under;
    registers = λ y lt reg v is.
        let z = r.size in
        subst (λ n. ValueIs w d.state.store.tags v n) (sym (same (slice_index c.env y) (under_at c.values c.env y (omega (arith, lt, z)) r.under)))
        (value_later w l s.store d.state.store v (f (slice_index c.env y)) d.later (r.registers y lt reg v (d.registers y lt reg v is)));
    since = later_on w l l.store s.store d.state.store r.since d.later;
  }

  -- where it halts, or the meaning makes no sense
  halts : {A : Type 0} {Good : A → At Store → Type 0} (most g : ℕ) (c : Cursor) (f : ℕ → ℕ) (s : At Store) (room : (Point → ℕ) → ℕ) (r : Ready w l most g (position c) f s room) (e : Ending Store Trap A) (op : Op)
      → ((rest : List Operation) × (drop c.op (block_of (procedure_of w.procedures l.proc) c.block).ops ≡ operation_of op ∷ rest)) → ((h : Point → ℕ) → h (In l.proc c.block c.op) ≤ room h)
      → ((k : ℕ) × (e ≡ Fails (Kind k l.proc) s.out) × (effect_at f r.memory s.store op.code op.uses ≡ Refuses k)) ⊎ (e ≡ Fails Senseless s.out) → Goes w e Good
  halts {A} {Good} most g c f s room r e op stands fits (inl z) = subst (λ x. Goes w x Good) (sym z.1)
      (comes_trap HasSense (system w) (least w.procedures) w.points w.first w.turns same_trap (Kind z.0 l.proc) (Stopped z.0 l.proc) r.reached
      (op_step (position c) f r.memory s.store op stands ∙ ap (operate w.procedures (operation_of op) (frame_at l (position c) f) l.callers (world_of w l r.memory s.store)) z.2) (refl, refl) fits)
  halts most g c f s room r e op stands fits (inr z) = goes_senseless e s.out z

  pub follows_emits : {A : Type 0} {kept : Bool} {need fuel : ℕ} {mask : Mask} {K : Fact} {R : A → ℕ → Fact} {m : Act A} (code : Code) (us : List ℕ)
      → ((n : ℕ) (f : ℕ → ℕ) (memory : List Area) (s : At Store) → Held w l s.store memory → K n f s.store → ActsTo kept (λ a x t. R a n (suc n) (set f n x) t) (m s) s memory (effect_at f memory s.store code us))
      → FollowsTo kept need fuel mask K R m (emits code us)
  follows_emits {A} {kept} {need} {fuel} {mask} {K} {R} {m} code us acts = record {
    grows = grows_emits code us;
    by = λ most g c f s room free le needs few stands fits within known typed r.
        let op : Op = record { code = code; uses = us; def = Some c.values } in
        ⊎_elim
        (λ (d : Did kept (λ a x t. R a c.values (suc c.values) (set f c.values x) t) (m s) s r.memory (effect_at f r.memory s.store code us)). goes_here (m s) d.a d.state d.gives (record {
          values = set f c.values d.x;
          ready = moved most g (position c) f s room free op (suc c.values) r stands.0 (λ h. let z = fits h in omega (arith, z)) d (omega arith) (put_same c.values c.values d.x f (omega arith));
          later = d.later;
          is = d.is;
          same = put_same c.values c.values d.x f (omega arith);
          off = off_refl mask c.env;
          typed = d.typed typed;
        }))
        (λ y. halts most g c f s room r (m s) op stands.0 (λ h. let z = fits h in omega (arith, z)) y)
        (acts c.values f r.memory s r.held known);
  }

  pub follows_does : {A : Type 0} {kept : Bool} {need fuel : ℕ} {mask : Mask} {K : Fact} {R : A → Unit {0} → Fact} {m : Act A} (code : Code) (us : List ℕ)
      → ((n : ℕ) (f : ℕ → ℕ) (memory : List Area) (s : At Store) → Held w l s.store memory → K n f s.store → ActsTo kept (λ a x t. R a tt n f t) (m s) s memory (effect_at f memory s.store code us))
      → FollowsTo kept need fuel mask K R m (does code us)
  follows_does {A} {kept} {need} {fuel} {mask} {K} {R} {m} code us acts = record {
    grows = grows_does code us;
    by = λ most g c f s room free le needs few stands fits within known typed r.
        let op : Op = record { code = code; uses = us; def = None } in
        ⊎_elim
        (λ (d : Did kept (λ a x t. R a tt c.values f t) (m s) s r.memory (effect_at f r.memory s.store code us)). goes_here (m s) d.a d.state d.gives (record {
          values = f;
          ready = moved most g (position c) f s room free op c.values r stands.0 (λ h. let z = fits h in omega (arith, z)) d (omega arith) (λ u lt. refl);
          later = d.later;
          is = d.is;
          same = λ u lt. refl;
          off = off_refl mask c.env;
          typed = d.typed typed;
        }))
        (λ y. halts most g c f s room r (m s) op stands.0 (λ h. let z = fits h in omega (arith, z)) y)
        (acts c.values f r.memory s r.held known);
  }
