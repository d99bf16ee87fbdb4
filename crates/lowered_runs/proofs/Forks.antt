-- Conditions: code that goes one of two ways.
use Rattle.std.proofs.Common.{◌≡◌, ℕ, ◌+◌, ◌≤◌, ◌⊎◌, List, [], ◌∷◌, Bool, true, false, not, cond, ⊎_elim, inl, inr, refl, sym, ap, ◌∙◌, subst, arith, Some, None}
use Rattle.std.specs.Prelude.{drop, nat_eq, if◌then◌else◌}
use Rattle.run_laws.specs.Runs.{Moves}
use Rattle.run_laws.specs.Turns.{Ending, Gives, Fails, Spent, after, give}
use Rattle.run_laws.specs.Turns.{State as At}
use Rattle.run_laws.proofs.Reached.{pass_quiet}
use Rattle.a64_memory.specs.Memory.{Area}
use Rattle.block_runs.specs.declared.end.End.{End}
use Rattle.block_runs.specs.declared.end.End.TheVariants.{Branch, Nonzero}
use Rattle.block_runs.specs.Blocks.{block_of, procedure_of}
use Rattle.block_runs.specs.Compares.{compares}
use Rattle.block_runs.specs.States.{Frame, World, Runs, Point, In}
use Rattle.block_runs.specs.Steps.{perform, leave}
use Rattle.block_runs.specs.Points.{least, rest_least, end_least}
use Rattle.ob_types.specs.Store.{Cell, Bits, Pointer, Store, Trap, Senseless, Act, bits, bits_in, given}
use Rattle.ob_types.specs.Store.{Code as Procedure}
use Rattle.ob_types.specs.Operators.{holds, truth, relation_of}
use Rattle.ob_types.specs.Expressions.{compared, both, either}
use Rattle.ob_types.specs.declared.tree.Relation.{Relation}
use Rattle.ssa_lowered.specs.Pieces.{Cursor, Low, Mask, close, plain}
use Rattle.ssa_lowered.specs.Values.{condition}
use Rattle.ssa_lowered.specs.Control.{Test, fork, fork_value, fork_branch, fork_not, fork_and, fork_or}
use Rattle.lowered_runs.specs.Words.{Whole, Level, Right, ValueIs, Later}
use Rattle.lowered_runs.proofs.Stores.{later_on}
use Rattle.lowered_runs.proofs.Values.{Under, Same, Off, same_on, under_more}
use Rattle.lowered_runs.proofs.Standing.{Standing, stand_first, stand_rest, bulk, bulk_append}
use Rattle.lowered_runs.proofs.Ready.{Typing, Position, position, system, world_of, frame_at, runs_at, Goes, Ready, ready_more}
use Rattle.lowered_runs.proofs.Follows.{Fact, And as Both, Steady, steady_and, grows_bind, grows_give, Fits, Follows, follows_bind, follows_seen, follows_then, follows_known, follows_result, then_goes, goes_on, goes_here}
use Rattle.lowered_runs.proofs.Exprs.{CellIs, steady_cell, follows_bits}
use Rattle.lowered_runs.proofs.Sets.{answers}

abbrev pub nothing : Mask
nothing x = false

abbrev pub No_more : {A : Type 0} → A → Fact
No_more a n f s = Unit {0}

-- parts of a part
pub after_after : {A B C : Type 0} (e : Ending Store Trap A) (f : A → Act B) (g : B → Act C) → after (after e f) g ≡ after e (λ a t. after (f a t) g)
after_after (Gives a t) f g = refl
after_after (Fails trap out) f g = refl
after_after (Spent out) f g = refl

module _ (w : Whole) (l : Level) where
  -- the end of a block
  abbrev pub Ends_at : ℕ → ℕ → End → Type 0
  Ends_at b i end = (drop i (block_of (procedure_of w.procedures l.proc) b).ops ≡ []) × ((block_of (procedure_of w.procedures l.proc) b).end ≡ end)

  pub end_step : (c : Position) (f : ℕ → ℕ) (m : List Area) (s : Store) (end : End) → Ends_at c.block c.op end → (system w).step (runs_at w l c f m s) ≡ leave w.procedures end (frame_at l c f) l.callers (world_of w l m s)
  end_step c f m s end is = ap (λ ops. perform w.procedures w.code ops (frame_at l c f) l.callers (world_of w l m s)) is.0 ∙ ap (λ e. leave w.procedures e (frame_at l c f) l.callers (world_of w l m s)) is.1

  pub end_pays : (b i : ℕ) (end : End) → Ends_at b i end → least w.procedures (In l.proc b i) ≡ end_least end
  end_pays b i end is = ap (λ ops. rest_least ops (block_of (procedure_of w.procedures l.proc) b).end) is.0 ∙ ap end_least is.1

  -- an end that goes where the value says
  abbrev pub EndIs : {A : Type 0} → (A → Bool) → A → (ℕ → ℕ → End) → Fact
  EndIs says a e n f s = (yes_to no_to : ℕ) → (end_least (e yes_to no_to) ≡ 1) × ((b i : ℕ) (fs : List Frame) (x : World) → leave w.procedures (e yes_to no_to) (record { proc = l.proc; block = b; at = i; values = f; args = l.args }) fs x ≡ Moves [] (Runs (record { proc = l.proc; block = cond (says a) yes_to no_to; at = 0; values = f; args = l.args }) fs x))

  -- behind a condition: at the beginning of one block or the other
  pub record Went {A : Type 0} (says : A → Bool) (Q : A → Fact) (most : ℕ) (c d : Cursor) (yes_to no_to : ℕ) (s : Store) (f : ℕ → ℕ) (free : (Point → ℕ) → ℕ) (a : A) (t : At Store) : Type 0 where
    pub values : ℕ → ℕ
    pub ready : Ready w l most 1 (record { block = cond (says a) yes_to no_to; op = 0; values = d.values; env = d.env }) values t free
    pub later : Later w l s t.store
    pub same : Same c.values f values
    pub is : Q a d.values values t.store
    pub typed : Typing w l t.store

  pub record Forks {A : Type 0} (says : A → Bool) (fuel : ℕ) (K : Fact) (Q : A → Fact) (m : Act A) (test : Test) : Type 0 where
    pub grows : (c : Cursor) → c.values ≤ (test c).after.values
    pub env : (c : Cursor) → (test c).after.env ≡ c.env
    pub begins : (c : Cursor) → (test c).after.op ≡ 0
    pub by : (most g : ℕ) (c : Cursor) (yes_to no_to freq : ℕ) (f : ℕ → ℕ) (s : At Store) (room free : (Point → ℕ) → ℕ) → most ≤ fuel → g ≤ 1
        → Standing w.procedures l.proc ((test c).pieces yes_to no_to freq) → ((h : Point → ℕ) → bulk l.proc ((test c).pieces yes_to no_to freq) h + free h ≤ room h) → Fits w l ((test c).pieces yes_to no_to freq) free
        → K c.values f s.store → Typing w l s.store → Ready w l most g (position c) f s room → Goes w (m s) (Went says Q most c (test c).after yes_to no_to s.store f free)

  -- the variables are as before
  pub ready_back : {most g b i v u : ℕ} {e d : List ℕ} {f : ℕ → ℕ} {s : At Store} {room : (Point → ℕ) → ℕ} → Off nothing e d → u ≤ v → Under u e → Ready w l most g (record { block = b; op = i; values = v; env = d }) f s room → Ready w l most g (record { block = b; op = i; values = v; env = e }) f s room
  ready_back {v = v} {u = u} {e = e} {f = f} {s = s} off le under r = record {
    memory = r.memory;
    reached = r.reached;
    held = r.held;
    size = sym off.size ∙ r.size;
    under = under_more u v e le under;
    registers = λ x lt reg c is. subst (λ n. ValueIs w s.store.tags c (f n)) (off.at x refl) (r.registers x lt reg c is);
    since = r.since;
  }

  pub forks_leaf : {A : Type 0} {says : A → Bool} {fuel : ℕ} {K : Fact} {Q : A → Fact} {m : Act A} {low : Low (ℕ → ℕ → End)} → Follows w l 0 fuel nothing K (λ a e. Both (EndIs says a e) (Q a)) m low → Forks says fuel K Q m (fork low)
  forks_leaf {A} {says} {fuel} {K} {Q} {m} {low} one = record {
    grows = one.grows.by;
    env = λ c. refl;
    begins = λ c. refl;
    by = λ most g c yes_to no_to freq f s room free le few stands fits within known typed r.
        let d = low c in
        let last = close d.after (d.result yes_to no_to) (plain freq c.seen) ∷ [] in
        goes_on w l (m s)
        (one.by most g c f s room (λ h. bulk l.proc last h + free h) le (omega arith) few (stand_first w.procedures l.proc d.pieces last stands)
        (λ h. let z = fits h in omega (arith, z, bulk_append l.proc d.pieces last h)) (λ h. let z = within h in omega (arith, z, bulk_append l.proc d.pieces last h)) known typed r)
        (λ a t v.
        let stood = (stand_rest w.procedures l.proc d.pieces last stands).0 in
        let turns = v.is.0 yes_to no_to in
        let pays = end_pays d.after.block d.after.op (d.result yes_to no_to) (stood.0, stood.1) ∙ turns.0 in
        let q = v.ready in
        record {
          values = v.values;
          ready = ready_back {u = c.values} v.off (one.grows.by c) r.under (record {
            memory = q.memory;
            reached = pass_quiet (system w) (least w.procedures) w.points w.first w.turns 1 free (In l.proc d.after.block d.after.op)
                (runs_at w l (record { block = cond (says a) yes_to no_to; op = 0; values = d.after.values; env = d.after.env }) v.values q.memory t.store) q.reached refl
                (end_step (position d.after) v.values q.memory t.store (d.result yes_to no_to) (stood.0, stood.1) ∙ turns.1 d.after.block d.after.op l.callers (world_of w l q.memory t.store))
                (λ h. omega arith) (omega (arith, pays));
            held = q.held;
            size = q.size;
            under = q.under;
            registers = q.registers;
            since = q.since;
          });
          later = v.later;
          same = v.same;
          is = v.is.1;
          typed = v.typed;
        });
  }

  same_way : (t : Bool) (yes_to no_to : ℕ) → (if t then no_to else yes_to) ≡ cond (not t) yes_to no_to
  same_way true yes_to no_to = refl
  same_way false yes_to no_to = refl

  pub forks_value : {fuel : ℕ} {K : Fact} {x : Act Cell} {low : Low ℕ} → Steady w l K → Follows w l 0 fuel nothing K (CellIs w l) x low → Forks holds fuel K No_more (bits x) (fork_value low)
  forks_value {low = low} steady one = forks_leaf (follows_result w l (λ a yes_to no_to. Nonzero a yes_to no_to)
      (λ k a n f s h. ((λ yes_to no_to. (refl, λ b i fs x. ap (λ t. Moves [] (Runs (record { proc = l.proc; block = t; at = 0; values = f; args = l.args }) fs x)) (same_way (nat_eq (f a) 0) yes_to no_to ∙ ap (λ z. cond (holds z) yes_to no_to) h.1.0))), tt))
      (follows_bits w l steady one))

  abbrev branch_to : ℕ → ℕ → ℕ → ℕ → ℕ → End
  branch_to r i j yes_to no_to = Branch r i j yes_to no_to

  -- a relation of two values decides by its own branch
  pub forks_branch : {fuel : ℕ} {K : Fact} {x y : Act Cell} {p q : Low ℕ} (right : Right w) (r : Relation) → Steady w l K → Follows w l 0 fuel nothing K (CellIs w l) x p → Follows w l 0 fuel nothing K (CellIs w l) y q → Forks holds fuel K No_more (bits (compared r x y)) (fork_branch (condition r) p q)
  forks_branch {fuel} {K} {x} {y} {p} {q} right r steady one two = forks_leaf (follows_then w l steady
      (follows_bind w l {R = CellIs w l} {Q = cell_end} steady one
      (λ i. grows_bind w l two.grows (λ j. grows_give w l (branch_to (condition r) i j)))
      (λ c i. follows_bind w l (steady_and w l steady (steady_cell w l c i)) (follows_known w l (λ n f s h. h.0) two)
      (λ j. grows_give w l (branch_to (condition r) i j))
      (λ d j. follows_seen w l (branch_to (condition r) i j) (λ n f s m held typed known. ⊎_elim
      (λ (z : (t : Bool) × (relation_of r c d ≡ Some t) × (compares (condition r) (f i) (f j) ≡ t)). inl (
        Bits (truth z.0),
        ap (λ o. after (given o s) (λ answer. give (Bits (truth answer)))) z.1,
        λ k is yes_to no_to. (refl, λ b2 i2 fs x2. ap (λ t. Moves [] (Runs (record { proc = l.proc; block = t; at = 0; values = f; args = l.args }) fs x2)) (ap (λ t. if t then yes_to else no_to) z.2 ∙ goes_by z.0 yes_to no_to ∙ ap (λ n. cond (holds n) yes_to no_to) (ap number_of is))),
      ))
      (λ (z : relation_of r c d ≡ None). inr (ap (λ o. after (given o s) (λ answer. give (Bits (truth answer)))) z))
      (answers w l right s.store m held r c d (f i) (f j) known.0.1.1 known.1.1)))))
      by)
    where
      cell_end : Cell → (ℕ → ℕ → End) → Fact
      cell_end c e n f s = (k : ℕ) → c ≡ Bits k → EndIs holds k e n f s

      number_of : Cell → ℕ
      number_of (Bits n) = n
      number_of _ = 0

      goes_by : (t : Bool) (yes_to no_to : ℕ) → (if t then yes_to else no_to) ≡ cond (holds (truth t)) yes_to no_to
      goes_by true yes_to no_to = refl
      goes_by false yes_to no_to = refl

      by : (c : Cell) (e : ℕ → ℕ → End) (n : ℕ) (f : ℕ → ℕ) (s : At Store) → K n f s.store → cell_end c e n f s.store → ((k : ℕ) × (bits_in c s ≡ Gives k s) × (EndIs holds k e n f s.store × Unit {0})) ⊎ (bits_in c s ≡ Fails Senseless s.out)
      by (Bits k) e n f s known h = inl (k, refl, (h k refl, tt))
      by (Pointer k) e n f s known h = inr refl
      by (Procedure k) e n f s known h = inr refl

  -- the targets are exchanged
  pub forks_not : {A : Type 0} {says : A → Bool} {fuel : ℕ} {K : Fact} {Q : A → Fact} {m : Act A} {test : Test} → Forks says fuel K Q m test → Forks (λ a. not (says a)) fuel K Q m (fork_not test)
  forks_not {says = says} {m = m} {test = test} one = record {
    grows = one.grows;
    env = one.env;
    begins = one.begins;
    by = λ most g c yes_to no_to freq f s room free le few stands fits within known typed r.
        goes_on w l (m s) (one.by most g c no_to yes_to freq f s room free le few stands fits within known typed r)
        (λ a t v. record { values = v.values; ready = subst (λ b. Ready w l most 1 (record { block = b; op = 0; values = (test c).after.values; env = (test c).after.env }) v.values t free) (turned (says a) yes_to no_to) v.ready; later = v.later; same = v.same; is = v.is; typed = v.typed });
  }
    where
      turned : (b : Bool) (yes_to no_to : ℕ) → cond b no_to yes_to ≡ cond (not b) yes_to no_to
      turned true yes_to no_to = refl
      turned false yes_to no_to = refl

  -- another act, whose value says the same
  pub forks_as : {A B : Type 0} {says : A → Bool} {fuel : ℕ} {K : Fact} {Q : A → Fact} {m : Act A} {test : Test} {tells : B → Bool} {R : B → Fact} (n : Act B) (h : A → Act B) → ((s : At Store) → n s ≡ after (m s) h)
      → ((a : A) (v : ℕ) (f : ℕ → ℕ) (s : At Store) → Q a v f s.store → (b : B) × (h a s ≡ Gives b s) × (tells b ≡ says a) × R b v f s.store) → Forks says fuel K Q m test → Forks tells fuel K R n test
  forks_as {says = says} {m = m} {test = test} {tells = tells} {R = R} n h same gets one = record {
    grows = one.grows;
    env = one.env;
    begins = one.begins;
    by = λ most g c yes_to no_to freq f s room free le few stands fits within known typed r.
        subst (λ e. Goes w e (Went tells R most c (test c).after yes_to no_to s.store f free)) (sym (same s))
        (then_goes w l m h s (one.by most g c yes_to no_to freq f s room free le few stands fits within known typed r)
        (λ a t v. let z = gets a (test c).after.values v.values t v.is in goes_here w l (h a t) z.0 t z.1 (record {
          values = v.values;
          ready = subst (λ b. Ready w l most 1 (record { block = cond b yes_to no_to; op = 0; values = (test c).after.values; env = (test c).after.env }) v.values t free) (sym z.2) v.ready;
          later = v.later;
          same = v.same;
          is = z.3;
          typed = v.typed;
        })));
  }

  -- where a run stands at the beginning of the block behind a condition
  abbrev pub Open : (most : ℕ) → Cursor → (ℕ → ℕ) → At Store → ((Point → ℕ) → ℕ) → Type 0
  Open most c f t free = Ready w l most 1 (position c) f t free

  opened : {most v : ℕ} {e : List ℕ} {f : ℕ → ℕ} {t : At Store} {free : (Point → ℕ) → ℕ} (way : Bool) (yes_to no_to to op : ℕ) → cond way yes_to no_to ≡ to → op ≡ 0 → Ready w l most 1 (record { block = cond way yes_to no_to; op = 0; values = v; env = e }) f t free → Ready w l most 1 (record { block = to; op = op; values = v; env = e }) f t free
  opened {most} {v} {e} {f} {t} {free} way yes_to no_to to op is at_first r = subst (λ x. Ready w l most 1 (record { block = to; op = x; values = v; env = e }) f t free) (sym at_first) (subst (λ x. Ready w l most 1 (record { block = x; op = 0; values = v; env = e }) f t free) is r)

  -- and where more values are made elsewhere
  pub ready_higher : {most g b i v : ℕ} {e : List ℕ} {f : ℕ → ℕ} {s : At Store} {room : (Point → ℕ) → ℕ} (u : ℕ) → v ≤ u → Ready w l most g (record { block = b; op = i; values = v; env = e }) f s room → Ready w l most g (record { block = b; op = i; values = u; env = e }) f s room
  ready_higher {v = v} {e = e} u le r = record { memory = r.memory; reached = r.reached; held = r.held; size = r.size; under = under_more v u e le r.under; registers = r.registers; since = r.since }

  module _ {fuel : ℕ} {K : Fact} (x y : Act Cell) (t u : Test) (steady : Steady w l K) (one : Forks holds fuel K No_more (bits x) t) (two : Forks holds fuel K No_more (bits y) u) where
    -- the second condition is tried where the first one goes on
    second : (most : ℕ) (c : Cursor) (yes_to no_to freq : ℕ) (f : ℕ → ℕ) (s : At Store) (free : (Point → ℕ) → ℕ) → most ≤ fuel → Standing w.procedures l.proc ((u (t c).after).pieces yes_to no_to freq) → Fits w l ((u (t c).after).pieces yes_to no_to freq) free → K c.values f s.store
        → (g : ℕ → ℕ) (z : At Store) → Later w l s.store z.store → Same c.values f g → Typing w l z.store → Ready w l most 1 (position (t c).after) g z (λ h. bulk l.proc ((u (t c).after).pieces yes_to no_to freq) h + free h)
        → Goes w (bits y z) (Went holds No_more most c (u (t c).after).after yes_to no_to s.store f free)
    second most c yes_to no_to freq f s free le stands within known g z later same typed r =
        goes_on w l (bits y z) (two.by most 1 (t c).after yes_to no_to freq g z (λ h. bulk l.proc ((u (t c).after).pieces yes_to no_to freq) h + free h) free le (omega arith) stands (λ h. omega arith) within
        (steady.by c.values (t c).after.values f g s.store z.store (one.grows c) same later known) typed r)
        (λ a q v. record { values = v.values; ready = v.ready; later = later_on w l s.store z.store q.store later v.later; same = same_on c.values (t c).after.values f g v.values (one.grows c) same v.same; is = tt; typed = v.typed })

    -- the first one decides
    settled : (most : ℕ) (c : Cursor) (yes_to no_to : ℕ) (s : At Store) (f : ℕ → ℕ) (free : (Point → ℕ) → ℕ) (j to : ℕ) → to ≡ cond (holds j) yes_to no_to → (a_to b_to k : ℕ) (z : At Store) (qs : (Point → ℕ) → ℕ) → Went holds No_more most c (t c).after a_to b_to s.store f (λ h. qs h + free h) k z → cond (holds k) a_to b_to ≡ to
        → Went holds No_more most c (u (t c).after).after yes_to no_to s.store f free j z
    settled most c yes_to no_to s f free j to is a_to b_to k z qs v goes =
        let r1 = opened (holds k) a_to b_to (cond (holds j) yes_to no_to) 0 (goes ∙ is) refl v.ready in
        let r2 = ready_higher (u (t c).after).after.values (two.grows (t c).after) r1 in
        let r3 = subst (λ e. Ready w l most 1 (record { block = cond (holds j) yes_to no_to; op = 0; values = (u (t c).after).after.values; env = e }) v.values z (λ h. qs h + free h)) (sym (two.env (t c).after)) r2 in
        record { values = v.values; ready = ready_more w l most 1 free r3 (omega arith) (omega arith) (λ h. omega arith); later = v.later; same = v.same; is = tt; typed = v.typed }

    pub forks_and : Forks holds fuel K No_more (bits (both x y)) (fork_and t u)
    forks_and = record {
      grows = λ c. let a = one.grows c in let b = two.grows (t c).after in omega (arith, a, b);
      env = λ c. two.env (t c).after ∙ one.env c;
      begins = λ c. two.begins (t c).after;
      by = λ most g c yes_to no_to freq f s room free le few stands fits within known typed r.
          let a = t c in
          let b = u a.after in
          let ps = a.pieces a.after.block no_to c.freq in
          let qs = b.pieces yes_to no_to freq in
          subst (λ e. Goes w e (Went holds No_more most c b.after yes_to no_to s.store f free)) (sym (after_after (bits x s) (λ k. if holds k then y else give (Bits 0)) bits_in))
          (then_goes w l (bits x) (λ k z. after ((if holds k then y else give (Bits 0)) z) bits_in) s
          (one.by most g c a.after.block no_to c.freq f s room (λ h. bulk l.proc qs h + free h) le few (stand_first w.procedures l.proc ps qs stands)
          (λ h. let z = fits h in omega (arith, z, bulk_append l.proc ps qs h)) (λ h. let z = within h in omega (arith, z, bulk_append l.proc ps qs h)) known typed r)
          (λ k z v. ways most c yes_to no_to freq f s free le (stand_rest w.procedures l.proc ps qs stands) (λ h. let z = within h in omega (arith, z, bulk_append l.proc ps qs h)) known k z v (holds k) refl));
    }
      where
        ways : (most : ℕ) (c : Cursor) (yes_to no_to freq : ℕ) (f : ℕ → ℕ) (s : At Store) (free : (Point → ℕ) → ℕ) → most ≤ fuel → Standing w.procedures l.proc ((u (t c).after).pieces yes_to no_to freq) → Fits w l ((u (t c).after).pieces yes_to no_to freq) free → K c.values f s.store
            → (k : ℕ) (z : At Store) (v : Went holds No_more most c (t c).after (t c).after.block no_to s.store f (λ h. bulk l.proc ((u (t c).after).pieces yes_to no_to freq) h + free h) k z) → (way : Bool) → holds k ≡ way
            → Goes w (after ((if holds k then y else give (Bits 0)) z) bits_in) (Went holds No_more most c (u (t c).after).after yes_to no_to s.store f free)
        ways most c yes_to no_to freq f s free le stands within known k z v true is =
            subst (λ b. Goes w (after ((if b then y else give (Bits 0)) z) bits_in) (Went holds No_more most c (u (t c).after).after yes_to no_to s.store f free)) (sym is)
            (second most c yes_to no_to freq f s free le stands within known v.values z v.later v.same v.typed
            (opened (holds k) (t c).after.block no_to (t c).after.block (t c).after.op (ap (λ b. cond b (t c).after.block no_to) is) (one.begins c) v.ready))
        ways most c yes_to no_to freq f s free le stands within known k z v false is =
            subst (λ b. Goes w (after ((if b then y else give (Bits 0)) z) bits_in) (Went holds No_more most c (u (t c).after).after yes_to no_to s.store f free)) (sym is)
            (record { by = settled most c yes_to no_to s f free 0 no_to refl (t c).after.block no_to k z (λ h. bulk l.proc ((u (t c).after).pieces yes_to no_to freq) h) v (ap (λ b. cond b (t c).after.block no_to) is) })

    -- the first condition decides
    pub forks_or : Forks holds fuel K No_more (bits (either x y)) (fork_or t u)
    forks_or = record {
      grows = λ c. let a = one.grows c in let b = two.grows (t c).after in omega (arith, a, b);
      env = λ c. two.env (t c).after ∙ one.env c;
      begins = λ c. two.begins (t c).after;
      by = λ most g c yes_to no_to freq f s room free le few stands fits within known typed r.
          let a = t c in
          let b = u a.after in
          let ps = a.pieces yes_to a.after.block c.freq in
          let qs = b.pieces yes_to no_to freq in
          subst (λ e. Goes w e (Went holds No_more most c b.after yes_to no_to s.store f free)) (sym (after_after (bits x s) (λ k. if holds k then give (Bits 1) else y) bits_in))
          (then_goes w l (bits x) (λ k z. after ((if holds k then give (Bits 1) else y) z) bits_in) s
          (one.by most g c yes_to a.after.block c.freq f s room (λ h. bulk l.proc qs h + free h) le few (stand_first w.procedures l.proc ps qs stands)
          (λ h. let z = fits h in omega (arith, z, bulk_append l.proc ps qs h)) (λ h. let z = within h in omega (arith, z, bulk_append l.proc ps qs h)) known typed r)
          (λ k z v. ways most c yes_to no_to freq f s free le (stand_rest w.procedures l.proc ps qs stands) (λ h. let z = within h in omega (arith, z, bulk_append l.proc ps qs h)) known k z v (holds k) refl));
    }
      where
        ways : (most : ℕ) (c : Cursor) (yes_to no_to freq : ℕ) (f : ℕ → ℕ) (s : At Store) (free : (Point → ℕ) → ℕ) → most ≤ fuel → Standing w.procedures l.proc ((u (t c).after).pieces yes_to no_to freq) → Fits w l ((u (t c).after).pieces yes_to no_to freq) free → K c.values f s.store
            → (k : ℕ) (z : At Store) (v : Went holds No_more most c (t c).after yes_to (t c).after.block s.store f (λ h. bulk l.proc ((u (t c).after).pieces yes_to no_to freq) h + free h) k z) → (way : Bool) → holds k ≡ way
            → Goes w (after ((if holds k then give (Bits 1) else y) z) bits_in) (Went holds No_more most c (u (t c).after).after yes_to no_to s.store f free)
        ways most c yes_to no_to freq f s free le stands within known k z v false is =
            subst (λ b. Goes w (after ((if b then give (Bits 1) else y) z) bits_in) (Went holds No_more most c (u (t c).after).after yes_to no_to s.store f free)) (sym is)
            (second most c yes_to no_to freq f s free le stands within known v.values z v.later v.same v.typed
            (opened (holds k) yes_to (t c).after.block (t c).after.block (t c).after.op (ap (λ b. cond b yes_to (t c).after.block) is) (one.begins c) v.ready))
        ways most c yes_to no_to freq f s free le stands within known k z v true is =
            subst (λ b. Goes w (after ((if b then give (Bits 1) else y) z) bits_in) (Went holds No_more most c (u (t c).after).after yes_to no_to s.store f free)) (sym is)
            (record { by = settled most c yes_to no_to s f free 1 yes_to refl yes_to (t c).after.block k z (λ h. bulk l.proc ((u (t c).after).pieces yes_to no_to freq) h) v (ap (λ b. cond b yes_to (t c).after.block) is) })
