-- How a procedure begins: its argument words, the first values of its variables, in memory and in registers.
use Rattle.std.proofs.Common.{◌≡◌, ℕ, zero, suc, ◌+◌, ◌*◌, ◌<◌, ◌≤◌, ◌⊎◌, inl, inr, ⊎_elim, List, [], ◌∷◌, length, map, drop, Bool, true, false, slice_get, slice_index, refl, sym, ap, ap₂, ◌∙◌, subst, arith, Option, Some, None}
use Rattle.std.proofs.lemmas.Bool.{cases_lt}
use Rattle.std.specs.Prelude.{◌-◌, ◌||◌, slice_index_or, replicate, if◌then◌else◌}
use Rattle.run_laws.specs.Turns.{State as At}
use Rattle.run_laws.proofs.Reached.{pass_quiet, loosen}
use Rattle.a64_memory.specs.Memory.{Area, shapes, covered, covers, bytes_at}
use Rattle.a64_memory.proofs.Shapes.{covers-shapes}
use Rattle.a64_memory.proofs.Cells.{shapes-stored8, shapes-stored1}
use Rattle.a64_memory.specs.Areas.{heap_base}
use Rattle.wrapping_numbers.specs.Numbers.{sub64}
use Rattle.block_runs.specs.declared.code.Code.{Code}
use Rattle.block_runs.specs.declared.code.Code.TheVariants.{Arg, Const, Store, StoreByte}
use Rattle.block_runs.specs.declared.code.Code.TheVariants.{Local as LocalAt}
use Rattle.block_runs.specs.States.{Point, In}
use Rattle.block_runs.specs.Steps.{set, operate}
use Rattle.block_runs.specs.Effects.{Does, given_at}
use Rattle.block_runs.specs.Effects.{Gives as Yields}
use Rattle.block_runs.specs.Points.{least}
use Rattle.ob_types.specs.Forms.{Form, types_fine}
use Rattle.ob_types.specs.Layout.{kind_of}
use Rattle.ob_types.specs.Store.{Cell}
use Rattle.ob_types.specs.Store.{Store as Objects}
use Rattle.ob_types.specs.Trees.{DataTree, Scalar, scalar_bytes}
use Rattle.ob_types.specs.declared.program.Program.{Program}
use Rattle.ob_types.proofs.DataTrees.{cells_are}
use Rattle.ob_types.proofs.Tests.{no}
use Rattle.object_nodes.specs.Addresses.{Sides}
use Rattle.object_nodes.specs.Nodes.{Node, VariableNode}
use Rattle.object_nodes.proofs.Meeting.{node_cells, node_bytes}
use Rattle.object_bytes.specs.Objects.{limit}
use Rattle.object_bytes.specs.Objects.{load as load_by, store as store_by}
use Rattle.object_bytes.proofs.Kept.{areas_store, bytes_store, load_same, bytes_apart, load_bytes, load_zero}
use Rattle.ssa_core.specs.Procedures.{operation_of}
use Rattle.ssa_core.specs.declared.procedure.Op.{Op}
use Rattle.ssa_lowered.specs.Data.{Layout, IsLayout, room}
use Rattle.ssa_lowered.specs.Pieces.{Cursor, Made, Low, Mask, rest, emits, does, skip}
use Rattle.ssa_lowered.specs.Pieces.{◌>>=◌ as ◌>>>◌, give as gives}
use Rattle.ssa_lowered.specs.Values.{store}
use Rattle.ssa_lowered.specs.Variables.{Variable, placed, further, first_value, store_first, first_of, opened}
use Rattle.ssa_lowered.specs.Variables.{stored as stored_all}
use Rattle.ssa_lowered.specs.Lowered.{Here, in_register}
use Rattle.held_stores.specs.Changes.{Beyond}
use Rattle.held_stores.specs.Held.{takes_byte}
use Rattle.lowered_runs.specs.Words.{Whole, Level, ground, ValueIs}
use Rattle.lowered_runs.proofs.Values.{Under, Same, put_here, put_else, put_same}
use Rattle.lowered_runs.proofs.Standing.{Standing, stand_first, stand_rest, bulk, bulk_append}
use Rattle.lowered_runs.proofs.Ready.{position, system, world_of, frame_at, runs_at, Came_to}
use Rattle.lowered_runs.proofs.Follows.{effect_at, op_step}
use Rattle.lowered_runs.proofs.Homes.{get_index, storing}
use Rattle.lowered_runs.proofs.Locals.{Way, Wide, Lent, Kept, way, wide_of, lent_of, Pairs, types_in, tree, size, is_wide, form_in, single, wide_in, lent_in, first, first_more, site_by, placed_all, own_at, own_by, scalar_tree, room_fits, lent_fits}

get_drop : (n : ℕ) (cs : List Cell) (d : ℕ) → slice_get (drop n cs) d ≡ slice_get cs (n + d)
get_drop zero cs d = let e : d ≡ 0 + d = omega arith in ap (slice_get cs) e
get_drop (suc n) [] d = refl
get_drop (suc n) (c ∷ cs) d = let e : suc (n + d) ≡ suc n + d = omega arith in get_drop n cs d ∙ ap (slice_get (c ∷ cs)) e

---- Code that makes values and stores them

module _ (w : Whole) (l : Level) (most : ℕ) (s : At Objects) where
  -- what is known of the values below n and of memory
  abbrev pub Stage : Type 1
  Stage = ℕ → (ℕ → ℕ) → List Area → Type 0

  pub record Went {B : Type 0} (R : B → Stage) (d : Made B) (free : (Point → ℕ) → ℕ) : Type 0 where
    pub values : ℕ → ℕ
    pub memory : List Area
    pub reached : Came_to w most 1 s.turns s.out (runs_at w l (position d.after) values memory s.store) free
    pub is : R d.result d.after.values values memory

  pub record Opens {B : Type 0} (K : Stage) (R : B → Stage) (low : Low B) : Type 0 where
    pub by : (c : Cursor) (f : ℕ → ℕ) (m : List Area) (room free : (Point → ℕ) → ℕ) → Standing w.procedures l.proc (low c).pieces → ((h : Point → ℕ) → bulk l.proc (low c).pieces h + free h ≤ room h) → K c.values f m
        → Came_to w most 1 s.turns s.out (runs_at w l (position c) f m s.store) room → Went R (low c) free

  pub opens_bind : {B D : Type 0} {K : Stage} {R : B → Stage} {Q : D → Stage} {low : Low B} {more : B → Low D} → Opens K R low → ((b : B) → Opens (R b) Q (more b)) → Opens K Q (low >>> more)
  opens_bind {low = low} {more = more} one two = record {
    by = λ c f m room free stands fits known at.
        let d = low c in
        let e = more d.result d.after in
        let x = one.by c f m room (λ h. bulk l.proc e.pieces h + free h) (stand_first w.procedures l.proc d.pieces e.pieces stands) (λ h. let z = fits h in omega (arith, z, bulk_append l.proc d.pieces e.pieces h)) known at in
        let y = (two d.result).by d.after x.values x.memory (λ h. bulk l.proc e.pieces h + free h) free (stand_rest w.procedures l.proc d.pieces e.pieces stands) (λ h. omega arith) x.is x.reached in
        record { values = y.values; memory = y.memory; reached = y.reached; is = y.is };
  }

  pub opens_give : {B : Type 0} {K : Stage} {R : B → Stage} (b : B) → ((n : ℕ) (f : ℕ → ℕ) (m : List Area) → K n f m → R b n f m) → Opens K R (gives b)
  opens_give b has = record {
    by = λ c f m room free stands fits known at. record {
      values = f;
      memory = m;
      reached = loosen (system w) (least w.procedures) w.points w.first w.turns most 1 free at (omega arith) (omega arith) (λ h. let z = fits h in omega (arith, z));
      is = has c.values f m known;
    };
  }

  pub opens_emits : {K : Stage} {R : ℕ → Stage} (code : Code) (us : List ℕ) → ((n : ℕ) (f : ℕ → ℕ) (m : List Area) → K n f m → (x : ℕ) × (effect_at w l f m s.store code us ≡ Yields x) × R n (suc n) (set f n x) m) → Opens K R (emits code us)
  opens_emits code us has = record {
    by = λ c f m room free stands fits known at.
        let op : Op = record { code = code; uses = us; def = Some c.values } in
        let x = has c.values f m known in
        record {
          values = set f c.values x.0;
          memory = m;
          reached = pass_quiet (system w) (least w.procedures) w.points w.first w.turns 1 free (In l.proc c.block c.op) (runs_at w l (position (emits code us c).after) (set f c.values x.0) m s.store) at refl
              (op_step w l (position c) f m s.store op stands.0 ∙ ap (operate w.procedures (operation_of op) (frame_at l (position c) f) l.callers (world_of w l m s.store)) x.1) (λ h. let z = fits h in omega (arith, z)) (omega arith);
          is = x.2;
        };
  }

  pub opens_does : {K : Stage} {R : Unit {0} → Stage} (code : Code) (us : List ℕ) → ((n : ℕ) (f : ℕ → ℕ) (m : List Area) → K n f m → (m2 : List Area) × (effect_at w l f m s.store code us ≡ Does [] (world_of w l m2 s.store) 0) × R tt n f m2) → Opens K R (does code us)
  opens_does code us has = record {
    by = λ c f m room free stands fits known at.
        let op : Op = record { code = code; uses = us; def = None } in
        let x = has c.values f m known in
        record {
          values = f;
          memory = x.0;
          reached = pass_quiet (system w) (least w.procedures) w.points w.first w.turns 1 free (In l.proc c.block c.op) (runs_at w l (position (does code us c).after) f x.0 s.store) at refl
              (op_step w l (position c) f m s.store op stands.0 ∙ ap (operate w.procedures (operation_of op) (frame_at l (position c) f) l.callers (world_of w l m s.store)) x.1) (λ h. let z = fits h in omega (arith, z)) (omega arith);
          is = x.2;
        };
  }

  pub opens_known : {B : Type 0} {K L : Stage} {R : B → Stage} {low : Low B} → ((n : ℕ) (f : ℕ → ℕ) (m : List Area) → L n f m → K n f m) → Opens K R low → Opens L R low
  opens_known has one = record { by = λ c f m room free stands fits known at. one.by c f m room free stands fits (has c.values f m known) at }

  pub opens_less : {B : Type 0} {K : Stage} {R Q : B → Stage} {low : Low B} → ((b : B) (n : ℕ) (f : ℕ → ℕ) (m : List Area) → R b n f m → Q b n f m) → Opens K R low → Opens K Q low
  opens_less {low = low} has one = record {
    by = λ c f m room free stands fits known at. let x = one.by c f m room free stands fits known at in record { values = x.values; memory = x.memory; reached = x.reached; is = has (low c).result (low c).after.values x.values x.memory x.is };
  }

  ---- Argument words

  -- the first i argument words are the first values
  abbrev pub FirstWords : ℕ → (ℕ → ℕ) → Type 0
  FirstWords i f = (a : ℕ) → a < i → f a ≡ slice_index l.args a

  abbrev pub Taken : ℕ → (List Area → Type 0) → Stage
  Taken i P n f m = (n ≡ i) × (FirstWords i f × P m)

  pub further_opens : (P : List Area → Type 0) (i k : ℕ) → i + k ≤ length l.args → Opens (Taken i P) (λ (u : Unit {0}). Taken (i + k) P) (further i k)
  further_opens P i zero le = opens_give tt (λ n f m h. let e = h.0 in (omega (arith, e), ((λ a lt. h.1.0 a (omega (arith, lt))), h.1.1)))
  further_opens P i (suc k) le = opens_bind {R = λ (v : ℕ). Taken (suc i) P}
      (opens_emits (Arg i) [] (λ n f m h. (slice_index l.args i, ap (λ o. given_at i o Yields) (get_index l.args i (omega (arith, le))), (ap suc h.0, ((λ a lt. more i n f h.0 h.1.0 a lt), h.1.1)))))
      (λ v. opens_less (λ u n f m h. let e = h.0 in (omega (arith, e), ((λ a lt. h.1.0 a (omega (arith, lt))), h.1.1))) (further_opens P (suc i) k (omega (arith, le))))
    where
      more : (i n : ℕ) (f : ℕ → ℕ) → n ≡ i → FirstWords i f → FirstWords (suc i) (set f n (slice_index l.args i))
      more i n f e h a lt = ⊎_elim
          (λ (less : a < i). put_else n (slice_index l.args i) f a (λ g. absurd (omega (arith, less, g, e))) ∙ h a less)
          (λ (ge : i ≤ a). let same : a ≡ n = omega (arith, ge, lt, e) in let here : a ≡ i = omega (arith, ge, lt) in ap (set f n (slice_index l.args i)) same ∙ put_here n (slice_index l.args i) f ∙ ap (slice_index l.args) (sym here))
          (cases_lt a i)

---- First values of variables

-- the number with which a variable begins
abbrev pub number_of : List ℕ → Option ℕ → ℕ
number_of args None = 0
number_of args (Some a) = slice_index args a

abbrev pub word_among : List ℕ → Option ℕ → Type 0
word_among args None = Unit {0}
word_among args (Some a) = a < length args

shapes_store : (b : Bool) (m : List Area) (p v : ℕ) → shapes (store_by b m p v) ≡ shapes m
shapes_store true m p v = shapes-stored1 m p v
shapes_store false m p v = shapes-stored8 m p v

-- memory with one more scalar stored
pub beyond_store : (at i x : ℕ) (b : Bool) (m0 m : List Area) → at ≤ i → i + scalar_bytes b ≤ heap_base → Beyond at m0 m → Beyond at m0 (store_by b m i x)
beyond_store at i x b m0 m le lt h = record {
  areas = shapes_store b m i x ∙ h.areas;
  rises = areas_store b m i x h.rises;
  bytes = bytes_store b m i x h.bytes;
  same = λ y n out. bytes_apart b m i x y n (outside y n out) ∙ h.same y n out;
}
  where
    outside : (y n : ℕ) → (y + n ≤ at) ⊎ (heap_base ≤ y) → Sides y n i (scalar_bytes b)
    outside y n (inl low) = inl (omega (arith, low, le))
    outside y n (inr high) = inr (omega (arith, high, lt))

some_is : {A : Type 0} {x y : A} → Some x ≡ Some y → x ≡ y
some_is e = cc

none_is : {A : Type 0} {x : A} → None ≡ Some x → ⊥
none_is e = cc

abbrev pub in_memory : Way → Bool
in_memory Wide = true
in_memory Lent = true
in_memory Kept = false

abbrev pub is_lent : Way → Bool
is_lent Lent = true
is_lent _ = false

either_left : (t r : Bool) → t ≡ true → (t || r) ≡ true
either_left true r e = refl
either_left false r e = no e

either_right : (t r : Bool) → r ≡ true → (t || r) ≡ true
either_right true r e = refl
either_right false r e = e

either_true : (t r : Bool) (n : ℕ) → (t ≡ true → 1 ≤ n) → (r ≡ true → 1 ≤ n) → (t || r) ≡ true → 1 ≤ n
either_true true r n a b e = a refl
either_true false r n a b e = b e

module _ (p : Program) where
  abbrev pub some_lent : Mask → Pairs → Bool
  some_lent lent [] = false
  some_lent lent (x ∷ xs) = is_lent (way (is_wide p x.0) (lent 0)) || some_lent (rest lent) xs

  abbrev pub wide_some : Pairs → Bool
  wide_some [] = false
  wide_some (x ∷ xs) = is_wide p x.0 || wide_some xs

  abbrev pub some_memory : Mask → Pairs → Bool
  some_memory lent [] = false
  some_memory lent (x ∷ xs) = in_memory (way (is_wide p x.0) (lent 0)) || some_memory (rest lent) xs

  -- where a variable is in memory, it is structured or a scalar that is lent
  pub memory_either : (lent : Mask) (xs : Pairs) → some_memory lent xs ≡ true → (wide_some xs ≡ true) ⊎ (some_lent lent xs ≡ true)
  memory_either lent [] e = no e
  memory_either lent (x ∷ xs) e = by (is_wide p x.0) (lent 0) (memory_either (rest lent) xs) e
    where
      later : (t : Bool) (r : Bool) → (wide_some xs ≡ true) ⊎ (some_lent (rest lent) xs ≡ true) → ((t || wide_some xs) ≡ true) ⊎ ((r || some_lent (rest lent) xs) ≡ true)
      later t r (inl h) = inl (either_right t (wide_some xs) h)
      later t r (inr h) = inr (either_right r (some_lent (rest lent) xs) h)

      by : (t r : Bool) → (some_memory (rest lent) xs ≡ true → (wide_some xs ≡ true) ⊎ (some_lent (rest lent) xs ≡ true)) → (in_memory (way t r) || some_memory (rest lent) xs) ≡ true → ((t || wide_some xs) ≡ true) ⊎ ((is_lent (way t r) || some_lent (rest lent) xs) ≡ true)
      by true r more e = inl refl
      by false true more e = inr refl
      by false false more e = later false false (more e)

-- a variable that is lent is in memory
pub lent_memory : (p : Program) (lay : Layout) (here : Here) (lent : Mask) (a b : ℕ) (xs : Pairs) (x : ℕ) (none : Variable) → lent x ≡ true → x < length (types_in xs) → in_register p lay here (slice_index_or (placed p.types lay lent a b xs) x none).site ≡ false
lent_memory p lay here lent a b [] x none e lt = absurd (omega (arith, lt))
lent_memory p lay here lent a b (y ∷ xs) zero none e lt = subst (λ vs. in_register p lay here (slice_index_or vs 0 none).site ≡ false) (sym (placed_all p lay lent a b y xs)) (by (is_wide p y.0) (lent 0) e)
  where
    by : (t r : Bool) → r ≡ true → in_register p lay here (site_by p lay (way t r) a b) ≡ false
    by true r h = refl
    by false true h = refl
    by false false h = no h
lent_memory p lay here lent a b (y ∷ xs) (suc x) none e lt =
    let W = way (is_wide p y.0) (lent 0) in
    subst (λ vs. in_register p lay here (slice_index_or vs (suc x) none).site ≡ false) (sym (placed_all p lay lent a b y xs))
    (lent_memory p lay here (rest lent) (a + wide_of W (room lay y.0)) (b + 8 * lent_of W) xs x none e (omega (arith, lt)))

-- the cells of a variable, and of all variables, have the numbers with which they begin
module _ (w : Whole) (z : Objects) (args : List ℕ) where
  abbrev pub Head : ℕ × Option ℕ → List Cell → Type 0
  Head x cs = ((c : ℕ) (v : Cell) → c < size w.program x.0 → slice_get cs c ≡ Some v → ValueIs w z.tags v (number_of args x.1)) × ((is_wide w.program x.0 ≡ true → x.1 ≡ None) × ((number_of args x.1 < limit (w.layout.is_small (kind_of w.program.types x.0))) × word_among args x.1))

  abbrev pub Firsts : Pairs → List Cell → Type 0
  Firsts [] cs = Unit {0}
  Firsts (x ∷ xs) cs = Head x cs × Firsts xs (drop (size w.program x.0) cs)

  ---- Register variables

  abbrev pub EnvIs : Mask → Pairs → List ℕ → ℕ → (ℕ → ℕ) → Type 0
  EnvIs lent [] [] n f = Unit {0}
  EnvIs lent (x ∷ xs) (u ∷ us) n f = ((u < n) × (in_memory (way (is_wide w.program x.0) (lent 0)) ≡ false → f u ≡ number_of args x.1)) × EnvIs (rest lent) xs us n f
  EnvIs lent _ _ n f = ⊥

  env_more : (lent : Mask) (xs : Pairs) (us : List ℕ) (n v : ℕ) (f g : ℕ → ℕ) → n ≤ v → Same n f g → EnvIs lent xs us n f → EnvIs lent xs us v g
  env_more lent [] [] n v f g le same h = tt
  env_more lent [] (u ∷ us) n v f g le same h = absurd h
  env_more lent (x ∷ xs) [] n v f g le same h = absurd h
  env_more lent (x ∷ xs) (u ∷ us) n v f g le same h = let lt = h.0.0 in ((omega (arith, lt, le), λ e. same u h.0.0 ∙ h.0.1 e), env_more (rest lent) xs us n v f g le same h.1)

  -- register variables have their first values
  pub registers_first : (here : Here) (lent : Mask) (a b : ℕ) (xs : Pairs) (cs : List Cell) (us : List ℕ) (n : ℕ) (f : ℕ → ℕ) (x k : ℕ) (none : Variable) (v : Cell) → EnvIs lent xs us n f → Firsts xs cs → slice_get (types_in xs) x ≡ Some k
      → in_register w.program w.layout here (slice_index_or (placed w.program.types w.layout lent a b xs) x none).site ≡ true → slice_get cs (first w.program xs x) ≡ Some v → ValueIs w z.tags v (f (slice_index us x))
  registers_first here lent a b [] cs us n f x k none v env firsts at reg cell = absurd (none_is at)
  registers_first here lent a b (y ∷ xs) cs [] n f x k none v env firsts at reg cell = absurd env
  registers_first here lent a b (y ∷ xs) cs (u ∷ us) n f zero k none v env firsts at reg cell =
      by (is_wide w.program y.0) refl (lent 0) refl (subst (λ vs. in_register w.program w.layout here (slice_index_or vs 0 none).site ≡ true) (placed_all w.program w.layout lent a b y xs) reg)
    where
      by : (t : Bool) → is_wide w.program y.0 ≡ t → (r : Bool) → lent 0 ≡ r → in_register w.program w.layout here (site_by w.program w.layout (way t r) a b) ≡ true → ValueIs w z.tags v (f u)
      by true is r is2 reg = no reg
      by false is true is2 reg = no reg
      by false is false is2 reg =
          let one = single w.program y.0 is in
          subst (λ q. ValueIs w z.tags v q) (sym (env.0.1 (ap₂ (λ t r. in_memory (way t r)) is is2))) (firsts.0.0 0 v (omega (arith, one)) cell)
  registers_first here lent a b (y ∷ xs) cs (u ∷ us) n f (suc x) k none v env firsts at reg cell =
      let W = way (is_wide w.program y.0) (lent 0) in
      registers_first here (rest lent) (a + wide_of W (room w.layout y.0)) (b + 8 * lent_of W) xs (drop (size w.program y.0) cs) us n f x k none v env.1 firsts.1 at
      (subst (λ vs. in_register w.program w.layout here (slice_index_or vs (suc x) none).site ≡ true) (placed_all w.program w.layout lent a b y xs) reg)
      (get_drop (size w.program y.0) cs (first w.program xs x) ∙ ap (slice_get cs) (sym (first_more w.program y xs x)) ∙ cell)

  -- as many as there are variables
  pub env_size : (lent : Mask) (xs : Pairs) (us : List ℕ) (n : ℕ) (f : ℕ → ℕ) → EnvIs lent xs us n f → length us ≡ length (types_in xs)
  env_size lent [] [] n f h = refl
  env_size lent [] (u ∷ us) n f h = absurd h
  env_size lent (x ∷ xs) [] n f h = absurd h
  env_size lent (x ∷ xs) (u ∷ us) n f h = ap suc (env_size (rest lent) xs us n f h.1)

  pub env_under : (lent : Mask) (xs : Pairs) (us : List ℕ) (n : ℕ) (f : ℕ → ℕ) → EnvIs lent xs us n f → Under n us
  env_under lent [] [] n f h = tt
  env_under lent [] (u ∷ us) n f h = absurd h
  env_under lent (x ∷ xs) [] n f h = absurd h
  env_under lent (x ∷ xs) (u ∷ us) n f h = (h.0.0, env_under (rest lent) xs us n f h.1)

-- the words with which variables begin are among the arguments
abbrev pub WordsAmong : List ℕ → Pairs → Type 0
WordsAmong args [] = Unit {0}
WordsAmong args (x ∷ xs) = word_among args x.1 × WordsAmong args xs

-- the trees of variables
abbrev pub trees_in : Program → Pairs → List DataTree
trees_in p xs = map (tree p) (types_in xs)

module _ (w : Whole) (fine : types_fine w.program.types ≡ true) (lays : IsLayout w.packed w.program.types w.layout) (l : Level) (most : ℕ) (s : At Objects) (m0 : List Area) (base bytes : ℕ) (locals : l.local ≡ base + bytes) (few : base + bytes ≤ heap_base)
    (covers_own : (x n : ℕ) → base ≤ x → x + n ≤ base + bytes → covered (shapes m0) x n ≡ true) where
  abbrev p : Program
  p = w.program

  abbrev lay : Layout
  lay = w.layout

  -- the arguments are values, and memory differs in the call's own words alone
  pub record Opened (n : ℕ) (f : ℕ → ℕ) (m : List Area) : Type 0 where
    pub many : length l.args ≤ n
    pub given : FirstWords w l most s (length l.args) f
    pub beyond : Beyond base m0 m

  pub opened_more : (n v : ℕ) (f g : ℕ → ℕ) (m : List Area) → n ≤ v → Same n f g → Opened n f m → Opened v g m
  opened_more n v f g m le same h = let many = h.many in record {
    many = omega (arith, many, le);
    given = λ a lt. same a (omega (arith, many, lt)) ∙ h.given a lt;
    beyond = h.beyond;
  }

  -- where a byte of the local data is
  local_at : (b : ℕ) → b ≤ bytes → sub64 l.local (bytes - b) ≡ base + b
  local_at b le = omega (arith, le, few, locals)

  own_covers : (x n : ℕ) (m : List Area) → base ≤ x → x + n ≤ base + bytes → Beyond base m0 m → covers m x n ≡ true
  own_covers x n m lo hi h = covers-shapes m x n ∙ ap (λ ss. covered ss x n) h.areas ∙ covers_own x n lo hi

  -- the bytes of structured variables are 0
  abbrev pub Zeros : ℕ → Pairs → List Area → Type 0
  Zeros a xs m = (x n : ℕ) → base + a ≤ x → x + n ≤ base + (a + wide_in p lay xs) → bytes_at m x n ≡ replicate n 0

  -- the cells in memory have their first values
  abbrev pub Puts : Mask → (a b : ℕ) → Pairs → List Cell → List Area → Type 0
  Puts lent a b xs cs m = (v c d x : ℕ) (f : Form) (value : Cell) → VariableNode w.packed (trees_in p xs) v c d (Scalar f) → own_at p lay base lent a b xs v ≡ Some x → slice_get cs c ≡ Some value
      → ValueIs w s.store.tags value (load_by (takes_byte (ground w) f) m (x + d))

  -- what is kept while bytes from b on are stored
  abbrev pub Keeps : ℕ → (ℕ → List Area → Type 0) → Type 0
  Keeps b P = (n v : ℕ) (m m2 : List Area) → n ≤ v → ((x k : ℕ) → x + k ≤ base + b → bytes_at m2 x k ≡ bytes_at m x k) → P n m → P v m2

  abbrev pub Before : ℕ → Pairs → (ℕ → List Area → Type 0) → Stage w l most s
  Before a xs P n f m = Opened n f m × (P n m × Zeros a xs m)

  abbrev pub Behind : Mask → (a b : ℕ) → Pairs → List Cell → (ℕ → List Area → Type 0) → Stage w l most s
  Behind lent a b xs cs P n f m = Opened n f m × (P n m × (Puts lent a b xs cs m × (some_lent p lent xs ≡ true → 1 ≤ n)))

  -- the first value of a variable
  first_opens : {K : Stage w l most s} (word_of : Option ℕ) → word_among l.args word_of → ((n v : ℕ) (f g : ℕ → ℕ) (m : List Area) → n ≤ v → Same n f g → K n f m → K v g m) → ((n : ℕ) (f : ℕ → ℕ) (m : List Area) → K n f m → Opened n f m)
      → Opens w l most s K (λ u n f m. K n f m × ((u < n) × (f u ≡ number_of l.args word_of))) (first_value word_of)
  first_opens None ok steady has = opens_emits w l most s (Const 0) [] (λ n f m h. (0, refl, (steady n (suc n) f (set f n 0) m (omega arith) (put_same n n 0 f (omega arith)) h, (omega arith, put_here n 0 f))))
  first_opens (Some a) ok steady has = opens_give w l most s a (λ n f m h. let o = has n f m h in let many = o.many in (h, (omega (arith, many, ok), o.given a ok)))

  module _ (all : ℕ) (all_is : all ≡ bytes) where
    abbrev place_first : Option ℕ → Bool → ℕ → Low (Unit {0})
    place_first word_of small b = emits (LocalAt (all - b)) [] >>> λ a. first_value word_of >>> λ u. store small a u

    eight : (small : Bool) → scalar_bytes small ≤ 8
    eight true = omega arith
    eight false = omega arith

    -- a scalar in memory
    lent_opens : (x : ℕ × Option ℕ) (small : Bool) (b : ℕ) (P : ℕ → List Area → Type 0) (P2 : List Area → Type 0) → b + 8 ≤ bytes → number_of l.args x.1 < limit small → word_among l.args x.1 → Keeps b P → ((m m2 : List Area) → ((y k : ℕ) → y + k ≤ base + b → bytes_at m2 y k ≡ bytes_at m y k) → P2 m → P2 m2)
        → Opens w l most s (λ n f m. Opened n f m × (P n m × P2 m)) (λ (u : Unit {0}) n f m. Opened n f m × (P n m × (P2 m × ((load_by small m (base + b) ≡ number_of l.args x.1) × (1 ≤ n))))) (place_first x.1 small b)
    lent_opens x small b P P2 lt few_number ok keeps keeps2 =
        let fits = eight small in
        opens_bind w l most s {R = λ a n f m. (Opened n f m × (P n m × P2 m)) × ((a < n) × (f a ≡ base + b))}
        (opens_emits w l most s (LocalAt (all - b)) [] (λ n f m h. (
          sub64 l.local (all - b),
          refl,
          (
            (opened_more n (suc n) f (set f n (sub64 l.local (all - b))) m (omega arith) (put_same n n (sub64 l.local (all - b)) f (omega arith)) h.0, (keeps n (suc n) m m (omega arith) (λ y k less. refl) h.1.0, h.1.1)),
            (omega arith, put_here n (sub64 l.local (all - b)) f ∙ ap (λ k. sub64 l.local (k - b)) all_is ∙ local_at b (omega (arith, lt))),
          ),
        )))
        (λ a. opens_bind w l most s (first_opens {K = λ n f m. (Opened n f m × (P n m × P2 m)) × ((a < n) × (f a ≡ base + b))} x.1 ok
        (λ n v f g m le same h. let less = h.1.0 in ((opened_more n v f g m le same h.0.0, (keeps n v m m le (λ y k less. refl) h.0.1.0, h.0.1.1)), (omega (arith, less, le), same a h.1.0 ∙ h.1.1))) (λ n f m h. h.0.0))
        (λ u. opens_does w l most s (if small then StoreByte else Store) (a ∷ u ∷ []) (λ n f m h.
        let o = h.0.0.0 in
        let m2 = store_by small m (base + b) (number_of l.args x.1) in
        let cover = own_covers (base + b) (scalar_bytes small) m (omega arith) (omega (arith, lt, fits)) o.beyond in
        let above = below_kept m (number_of l.args x.1) in (
          m2,
          storing w l small f m s.store a u (ap (λ y. covers m y (scalar_bytes small)) h.0.1.1 ∙ cover) ∙ ap₂ (λ i y. Does [] (world_of w l (store_by small m i y) s.store) 0) h.0.1.1 h.1.1,
          (
            record { many = o.many; given = o.given; beyond = beyond_store base (base + b) (number_of l.args x.1) small m0 m (omega arith) (omega (arith, lt, few, fits)) o.beyond },
            (
              keeps n n m m2 (omega arith) above h.0.0.1.0,
              (
                keeps2 m m2 above h.0.0.1.1,
                (
                  load_same small m (base + b) (number_of l.args x.1) cover few_number,
                  let less = h.1.0 in omega (arith, less),
                ),
              ),
            ),
          ),
        ))))
      where
        below_kept : (m : List Area) (y : ℕ) (z k : ℕ) → z + k ≤ base + b → bytes_at (store_by small m (base + b) y) z k ≡ bytes_at m z k
        below_kept m y z k less = bytes_apart small m (base + b) y z k (inl less)

    -- the scalars of a variable are ready
    abbrev pub HeadDone : ℕ × Option ℕ → Way → (a b : ℕ) → List Area → Type 0
    HeadDone x W a b m = (c d y : ℕ) (f : Form) → Node w.packed (tree p x.0) c d (Scalar f) → own_by p lay base W a b ≡ Some y → load_by (takes_byte (ground w) f) m (y + d) ≡ number_of l.args x.1

    abbrev pub With : ℕ × Option ℕ → Way → (a b : ℕ) → (ℕ → List Area → Type 0) → ℕ → List Area → Type 0
    With x W a b P n m = P n m × (HeadDone x W a b m × (is_lent W ≡ true → 1 ≤ n))

    -- it stands below what comes behind it
    head_below : (x : ℕ × Option ℕ) (t r : Bool) (a b c d y : ℕ) (f : Form) → is_wide p x.0 ≡ t → a + wide_of (way t r) (room lay x.0) ≤ b → Node w.packed (tree p x.0) c d (Scalar f) → own_by p lay base (way t r) a b ≡ Some y → y + d + scalar_bytes (takes_byte (ground w) f) ≤ base + (b + 8 * lent_of (way t r))
    head_below x true r a b c d y f is le node e =
        let at = some_is e in let fits = node_bytes w.packed (tree p x.0) c d (Scalar f) node in let enough = room_fits p w.packed lay fine lays x.0 in
        omega (arith, at, le, fits, enough)
    head_below x false true a b c d y f is le node e =
        let at = some_is e in let fits = node_bytes w.packed (tree p x.0) c d (Scalar f) node in let enough = lent_fits p w.packed lay fine lays x.0 is in
        omega (arith, at, fits, enough)
    head_below x false false a b c d y f is le node e = absurd (none_is e)

    with_keeps : (x : ℕ × Option ℕ) (t r : Bool) (a b : ℕ) (P : ℕ → List Area → Type 0) → is_wide p x.0 ≡ t → a + wide_of (way t r) (room lay x.0) ≤ b → Keeps b P → Keeps (b + 8 * lent_of (way t r)) (With x (way t r) a b P)
    with_keeps x t r a b P is le keeps n v m m2 more same h = (
      keeps n v m m2 more (λ y k lt. same y k (omega (arith, lt))) h.0,
      (
        (λ c d y f node e. load_bytes (takes_byte (ground w) f) m2 m (y + d) (y + d) (same (y + d) (scalar_bytes (takes_byte (ground w) f)) (head_below x t r a b c d y f is le node e)) ∙ h.1.0 c d y f node e),
        λ is. let g = h.1.1 is in omega (arith, g, more),
      ),
    )

    -- the scalar of a lent variable
    lent_done : (x : ℕ × Option ℕ) (a b : ℕ) (m : List Area) → is_wide p x.0 ≡ false → load_by (lay.is_small (kind_of p.types x.0)) m (base + b) ≡ number_of l.args x.1 → HeadDone x Lent a b m
    lent_done x a b m is loads c d y f node at =
        let one : (c ≡ 0) × (d ≡ 0) × (Scalar f ≡ Scalar (form_in p x.0)) = subst (λ t. Node w.packed t c d (Scalar f)) (scalar_tree p w.packed lay fine lays x.0 is) node in
        let start = some_is at in let zero_byte = one.1 in
        let place : y + d ≡ base + b = omega (arith, start, zero_byte) in
        ap₂ (λ b q. load_by b m q) (ap (takes_byte (ground w)) (form_same one.2) ∙ sym (lays.is_small (kind_of p.types x.0))) place ∙ loads
      where
        form_same : {f g : Form} → Scalar f ≡ Scalar g → f ≡ g
        form_same e = cc

    -- those of a structured one
    wide_done : (x : ℕ × Option ℕ) (a b : ℕ) (xs : Pairs) (m : List Area) → is_wide p x.0 ≡ true → number_of l.args x.1 ≡ 0 → Zeros a (x ∷ xs) m → HeadDone x Wide a b m
    wide_done x a b xs m is none zeros c d y f node at =
        let start = some_is at in
        let e = ap (λ t. wide_of (way t false) (room lay x.0)) is in
        let fits = node_bytes w.packed (tree p x.0) c d (Scalar f) node in let enough = room_fits p w.packed lay fine lays x.0 in
        load_zero (takes_byte (ground w) f) m (y + d) (zeros (y + d) (scalar_bytes (takes_byte (ground w) f)) (omega (arith, start)) (omega (arith, start, e, fits, enough))) ∙ sym none

    head_opens : (lent : Mask) (a b : ℕ) (x : ℕ × Option ℕ) (xs : Pairs) (cs : List Cell) (P : ℕ → List Area → Type 0) (t : Bool) → is_wide p x.0 ≡ t → (r : Bool) → Keeps b P → Head w s.store l.args x cs → a + (wide_of (way t false) (room lay x.0) + wide_in p lay xs) ≤ b → b + 8 * lent_of (way t r) ≤ bytes
        → Opens w l most s (Before a (x ∷ xs) P) (λ (u : Unit {0}). Before (a + wide_of (way t r) (room lay x.0)) xs (With x (way t r) a b P)) (store_first p.types lay all (record { type_number = x.0; word = x.1; site = site_by p lay (way t r) a b }) (site_by p lay (way t r) a b))
    head_opens lent a b x xs cs P true is r keeps head le fits =
        let e = ap (λ t. wide_of (way t false) (room lay x.0)) is in
        let none : number_of l.args x.1 ≡ 0 = ap (number_of l.args) (head.1.0 is) in
        subst (λ t. Opens w l most s (Before a (x ∷ xs) P) (λ (u : Unit {0}). Before (a + room lay x.0) xs (With x Wide a b P)) (if t then skip else place_first x.1 (lay.is_small (kind_of p.types x.0)) a)) (sym is)
        (opens_give w l most s tt (λ n f m h. (h.0, ((h.1.0, (wide_done x a b xs m is none h.1.1, λ bad. no bad)), λ y k lo hi. h.1.1 y k (omega (arith, lo)) (omega (arith, hi, e))))))
    head_opens lent a b x xs cs P false is true keeps head le fits =
        let e = ap (λ t. wide_of (way t false) (room lay x.0)) is in
        subst (λ t. Opens w l most s (Before a (x ∷ xs) P) (λ (u : Unit {0}). Before (a + 0) xs (With x Lent a b P)) (if t then skip else place_first x.1 (lay.is_small (kind_of p.types x.0)) b)) (sym is)
        (opens_less w l most s (λ u n f m h. (h.0, ((h.1.0, (lent_done x a b m is h.1.1.1.0, λ ok. h.1.1.1.1)), λ y k lo hi. h.1.1.0 y k (omega (arith, lo)) (omega (arith, hi, e)))))
        (lent_opens x (lay.is_small (kind_of p.types x.0)) b P (Zeros a (x ∷ xs)) (omega (arith, fits)) head.1.1.0 head.1.1.1 keeps (λ m m2 same z y k lo hi. same y k (omega (arith, hi, le, e)) ∙ z y k lo hi)))
    head_opens lent a b x xs cs P false is false keeps head le fits =
        let e = ap (λ t. wide_of (way t false) (room lay x.0)) is in
        opens_give w l most s tt (λ n f m h. (h.0, ((h.1.0, ((λ c d y f node own. absurd (none_is own)), λ bad. no bad)), λ y k lo hi. h.1.1 y k (omega (arith, lo)) (omega (arith, hi, e)))))

    puts_more : (lent : Mask) (a b : ℕ) (x : ℕ × Option ℕ) (xs : Pairs) (cs : List Cell) (m : List Area) → Head w s.store l.args x cs → HeadDone x (way (is_wide p x.0) (lent 0)) a b m
        → Puts (rest lent) (a + wide_of (way (is_wide p x.0) (lent 0)) (room lay x.0)) (b + 8 * lent_of (way (is_wide p x.0) (lent 0))) xs (drop (size p x.0) cs) m → Puts lent a b (x ∷ xs) cs m
    puts_more lent a b x xs cs m head done more zero c d y f value node own at =
        let inside = node_cells w.packed (tree p x.0) c d (Scalar f) node in let many = cells_are p.types x.0 in
        subst (λ k. ValueIs w s.store.tags value k) (sym (done c d y f node own)) (head.0 c value (omega (arith, inside, many)) at)
    puts_more lent a b x xs cs m head done more (suc v) c d y f value node own at =
        more v node.0 d y f value node.1 own (get_drop (size p x.0) cs node.0 ∙ ap (λ k. slice_get cs (k + node.0)) (cells_are p.types x.0) ∙ ap (slice_get cs) (sym node.2) ∙ at)

    way_room : (t r : Bool) (k more : ℕ) (a b : ℕ) → a + (wide_of (way t false) k + more) ≤ b → (a + wide_of (way t r) k ≤ b) × (a + wide_of (way t r) k + more ≤ b + 8 * lent_of (way t r))
    way_room true r k more a b le = (omega (arith, le), omega (arith, le))
    way_room false true k more a b le = (omega (arith, le), omega (arith, le))
    way_room false false k more a b le = (omega (arith, le), omega (arith, le))

    -- all variables, those that stand from a and b on
    pub stored_opens : (lent : Mask) (a b : ℕ) (xs : Pairs) (cs : List Cell) (P : ℕ → List Area → Type 0) → Keeps b P → Firsts w s.store l.args xs cs → a + wide_in p lay xs ≤ b → b + 8 * lent_in p lent xs ≤ bytes
        → Opens w l most s (Before a xs P) (λ (u : Unit {0}). Behind lent a b xs cs P) (stored_all p.types lay all (placed p.types lay lent a b xs))
    stored_opens lent a b [] cs P keeps firsts le fits = opens_give w l most s tt (λ n f m h. (h.0, (h.1.0, ((λ v c d y f value node own at. absurd node), λ e. no e))))
    stored_opens lent a b (x ∷ xs) cs P keeps firsts le fits =
        let W = way (is_wide p x.0) (lent 0) in
        let rooms = way_room (is_wide p x.0) (lent 0) (room lay x.0) (wide_in p lay xs) a b le in
        subst (λ vs. Opens w l most s (Before a (x ∷ xs) P) (λ (u : Unit {0}). Behind lent a b (x ∷ xs) cs P) (stored_all p.types lay all vs)) (sym (placed_all p lay lent a b x xs))
        (opens_bind w l most s (head_opens lent a b x xs cs P (is_wide p x.0) refl (lent 0) keeps firsts.0 le (omega (arith, fits)))
        (λ u. opens_less w l most s (λ u n f m h. (h.0, (h.1.0.0, (puts_more lent a b x xs cs m firsts.0 h.1.0.1.0 h.1.1.0, either_true (is_lent W) (some_lent p (rest lent) xs) n h.1.0.1.1 h.1.1.1))))
        (stored_opens (rest lent) (a + wide_of W (room lay x.0)) (b + 8 * lent_of W) xs (drop (size p x.0) cs) (With x W a b P) (with_keeps x (is_wide p x.0) (lent 0) a b P refl rooms.0 keeps) firsts.1 rooms.1 (omega (arith, fits)))))

  abbrev pub Steadily : Stage w l most s → Type 0
  Steadily K = (n v : ℕ) (f g : ℕ → ℕ) (m : List Area) → n ≤ v → Same n f g → K n f m → K v g m

  one_opened : (K : Stage w l most s) (x : ℕ × Option ℕ) (W : Way) (a b : ℕ) → word_among l.args x.1 → Steadily K → ((n : ℕ) (f : ℕ → ℕ) (m : List Area) → K n f m → Opened n f m) → ((n : ℕ) (f : ℕ → ℕ) (m : List Area) → K n f m → in_memory W ≡ true → 1 ≤ n)
      → Opens w l most s K (λ u n f m. K n f m × ((u < n) × (in_memory W ≡ false → f u ≡ number_of l.args x.1))) (first_of x.1 (site_by p lay W a b))
  one_opened K x Wide a b ok steady has one = opens_give w l most s 0 (λ n f m h. let g = one n f m h refl in (h, (omega (arith, g), λ e. no (sym e))))
  one_opened K x Lent a b ok steady has one = opens_give w l most s 0 (λ n f m h. let g = one n f m h refl in (h, (omega (arith, g), λ e. no (sym e))))
  one_opened K x Kept a b ok steady has one = opens_less w l most s (λ u n f m h. (h.0, (h.1.0, λ e. h.1.1))) (first_opens x.1 ok steady has)

  pub opened_opens : (lent : Mask) (a b : ℕ) (xs : Pairs) (K : Stage w l most s) → Steadily K → ((n : ℕ) (f : ℕ → ℕ) (m : List Area) → K n f m → Opened n f m) → ((n : ℕ) (f : ℕ → ℕ) (m : List Area) → K n f m → some_memory p lent xs ≡ true → 1 ≤ n) → WordsAmong l.args xs
      → Opens w l most s K (λ us n f m. K n f m × EnvIs w s.store l.args lent xs us n f) (opened (placed p.types lay lent a b xs))
  opened_opens lent a b [] K steady has one ok = opens_give w l most s [] (λ n f m h. (h, tt))
  opened_opens lent a b (x ∷ xs) K steady has one ok =
      let W = way (is_wide p x.0) (lent 0) in
      subst (λ vs. Opens w l most s K (λ us n f m. K n f m × EnvIs w s.store l.args lent (x ∷ xs) us n f) (opened vs)) (sym (placed_all p lay lent a b x xs))
      (opens_bind w l most s (one_opened K x W a b ok.0 steady has (λ n f m h e. one n f m h (either_left (in_memory W) (some_memory p (rest lent) xs) e)))
      (λ u. opens_bind w l most s (opened_opens (rest lent) (a + wide_of W (room lay x.0)) (b + 8 * lent_of W) xs (λ n f m. K n f m × ((u < n) × (in_memory W ≡ false → f u ≡ number_of l.args x.1)))
      (λ n v f g m le same h. let lt = h.1.0 in (steady n v f g m le same h.0, (omega (arith, lt, le), λ e. same u h.1.0 ∙ h.1.1 e))) (λ n f m h. has n f m h.0) (λ n f m h e. one n f m h.0 (either_right (in_memory W) (some_memory p (rest lent) xs) e)) ok.1)
      (λ us. opens_give w l most s (u ∷ us) (λ n f m h. (h.0.0, (h.0.1, h.1))))))
