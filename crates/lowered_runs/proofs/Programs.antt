-- Whole programs: the bodies of the modules, one after the other.
use Rattle.std.proofs.Common.{◌≡◌, ℕ, zero, suc, ◌+◌, ◌*◌, ◌<◌, ◌≤◌, List, [], ◌∷◌, ◌++◌, map, length, drop, true, false, not, ◌&&◌, slice_get, Bool, refl, sym, ap, ap₂, ◌∙◌, subst, arith, Option, Some, None, filter}
use Rattle.std.specs.Prelude.{nat_lt}
use Rattle.run_laws.specs.Runs.{Keeps, weigh}
use Rattle.run_laws.specs.Layers.{places_from, points_of_all}
use Rattle.run_laws.specs.Turns.{Ending, Gives, Fails, Spent, outcome}
use Rattle.run_laws.specs.Turns.{State as Moment}
use Rattle.run_laws.proofs.Reached.{starts, pass_quiet}
use Rattle.run_laws.proofs.Comes.{Stopped, keeps_comes}
use Rattle.run_laws.proofs.Comes.{MakesSense as No_nonsense}
use Rattle.run_laws.proofs.Weights.{weigh-append}
use Rattle.a64_memory.specs.Memory.{Area, AreBytes}
use Rattle.block_runs.specs.declared.end.End.TheVariants.{Return}
use Rattle.block_runs.specs.Blocks.{Procedure, block_at, bodies}
use Rattle.block_runs.specs.Blocks.{procedure_of as coded}
use Rattle.block_runs.specs.First.{first_state, first_world}
use Rattle.block_runs.specs.Points.{least, all_points, procedure_points, routine_points, AreCodePlaces}
use Rattle.block_runs.specs.States.{Starts, Enters, Point, Begin, Entry, In}
use Rattle.block_runs.specs.Steps.{begin, first_values, block_system}
use Rattle.ob_types.specs.Forms.{all, all_below, forms, joined, types_fine}
use Rattle.ob_types.specs.Layout.{cells_of_all}
use Rattle.ob_types.specs.Meaning.{procedure_of, locals_of, is_value, effects_of, at_most, start, meaning, texts_of}
use Rattle.ob_types.specs.Meaning.{bodies as all_bodies}
use Rattle.ob_types.specs.Sense.{HasSense, MakesSense}
use Rattle.ob_types.specs.Store.{Store, Trap}
use Rattle.ob_types.specs.WellFormed
use Rattle.ob_types.specs.WellFormed.{well_formed, is_empty}
use Rattle.ob_types.specs.declared.program.Module.{Module}
use Rattle.ob_types.specs.declared.program.Procedure.{Procedure as Declared}
use Rattle.ob_types.specs.declared.program.Program.{Program}
use Rattle.ob_types.specs.declared.statements.Checked.{Checked}
use Rattle.ob_types.proofs.Tests.{and_of, no}
use Rattle.ob_sound.proofs.Typed.{lt_of}
use Rattle.ob_sound.proofs.Handing.{AllTaken}
use Rattle.ob_sound.proofs.Programs.{s_at_most, start_typed, makes_sense}
use Rattle.ssa_core.specs.Procedures.{procedure, procedures, code_blocks}
use Rattle.ssa_lowered.specs.Data.{Layout, IsLayout, globals_room}
use Rattle.block_runs.specs.Effects.{char_bytes}
use Rattle.ssa_lowered.specs.Pieces.{Cursor, Made}
use Rattle.ssa_lowered.specs.Places.{Leaves, Stand}
use Rattle.ssa_lowered.specs.Variables.{structured_room, scalars_lent}
use Rattle.ssa_lowered.specs.Lowered.{procs_from, proc_of, made_of, here_of, deeds_of, at_entry, lent_in_body}
use Rattle.ssa_lowered.proofs.Stands.{proc_stands}
use Rattle.lowered_runs.specs.Words.{same_trap, Whole, Level, Held, AreInput}
use Rattle.ob_types.specs.Layout.{kind_of}
use Rattle.ob_types.specs.LegalTypes.{is_no_kind, formal_legal}
use Rattle.ob_types.specs.WellFormed.{no_answer}
use Rattle.ob_types.proofs.WellFormedParts.{parts_of}
use Rattle.lowered_runs.proofs.BodiesInOrder.{bodies_in_modules}
use Rattle.lowered_runs.proofs.Procedures.{coded_at, calling_all}
use Rattle.lowered_runs.proofs.Stores.{later_refl}
use Rattle.lowered_runs.proofs.Standing.{Standing, stand_first, bulk, bulk_append, shared}
use Rattle.lowered_runs.proofs.Ready.{position, system, world_of, runs_at, Typing, Goes, Came_to, Ready}
use Rattle.lowered_runs.proofs.Follows.{DoneTo, then_goes, goes_on}
use Rattle.lowered_runs.proofs.Forks.{Ends_at, end_step}
use Rattle.lowered_runs.proofs.Structures.{Always}
use Rattle.lowered_runs.proofs.Tree.{list_is}
use Rattle.lowered_runs.proofs.Points.{whole_weight, bodies_weight, bodies_within, declared_at}
use Rattle.lowered_runs.proofs.Starting.{whole_of, body_level, first_held_by}
use Rattle.lowered_runs.specs.Claims.{ConstantsStandBy}
use Rattle.lowered_runs.proofs.Bodies.{plain_body, standing_in, enters_body, leaves_body}
use Rattle.lowered_runs.proofs.Modules.{right_of_code, apart_in_body, variables_in_body, stacked_body}

empty_is : {A : Type 0} (xs : List A) → is_empty xs ≡ true → xs ≡ []
empty_is [] h = refl
empty_is (x ∷ xs) h = no h

none_is : (x : Option Checked) → no_answer x ≡ true → x ≡ None
none_is None h = refl
none_is (Some x) h = no h

-- what is behind a place begins there
at_drop : (j : ℕ) (xs : List ℕ) (y : ℕ) (ys : List ℕ) → drop j xs ≡ y ∷ ys → (slice_get xs j ≡ Some y) × (drop (suc j) xs ≡ ys)
at_drop zero [] y ys e = absurd (cc)
at_drop zero (x ∷ xs) y ys e = same e
  where
    same : x ∷ xs ≡ y ∷ ys → (Some x ≡ Some y) × (xs ≡ ys)
    same e = (cc, cc)
at_drop (suc j) [] y ys e = absurd (cc)
at_drop (suc j) (x ∷ xs) y ys e = at_drop j xs y ys e

at_end : (j : ℕ) (xs : List ℕ) → drop j xs ≡ [] → slice_get xs j ≡ None
at_end zero [] e = refl
at_end zero (x ∷ xs) e = absurd (cc)
at_end (suc j) [] e = refl
at_end (suc j) (x ∷ xs) e = at_end j xs e

module _ (p : Program) (packed : Bool) (lay : Layout) (laid_by : IsLayout packed p.types lay) (character : lay.character ≡ char_bytes) (input : List ℕ) (code : ℕ → ℕ) (constants : List ℕ) (n : ℕ) where
  abbrev w : Whole
  w = whole_of p packed lay input code constants n

  abbrev ps : List Procedure
  ps = procedures (procs_from p lay 0 p.procedures)

  abbrev level : ℕ → ℕ → Store → Level
  level q j s = body_level p packed lay input q j s

  -- the points of the bodies from the j-th on, and of the end
  abbrev left : ℕ → List Module → (Point → ℕ) → ℕ
  left j [] h = h (Begin j)
  left j (m ∷ ms) h = h (Begin j) + (whole_weight p lay m.body (procedure_of p m.body) h + left (suc j) ms h)

  -- between two bodies
  record Between (j : ℕ) (ms : List Module) (s : Moment Store) : Type 0 where
    pub gain : ℕ
    pub memory : List Area
    pub reached : Came_to w n gain s.turns s.out (Starts (world_of w (level 0 j s.store) memory s.store)) (left j ms)
    pub held : Held w (level 0 j s.store) s.store memory
    pub typed : Typing w (level 0 j s.store) s.store

  module _ (good : types_fine p.types ≡ true) (all_fine : (f : ℕ) → f < length p.procedures → WellFormed.procedure_fine p f ≡ true) (codes : AreCodePlaces (length ps) code) (declared : WellFormed.declarations_fine p ≡ true) (standing : 0 < length p.types.records + length (texts_of p.procedures) → ConstantsStandBy p lay constants) where
    module _ (j : ℕ) (m : Module) (ms : List Module) (s : Moment Store) (fine : WellFormed.module_fine p m ≡ true) where
      abbrev q : ℕ
      q = m.body

      abbrev d : Declared
      d = procedure_of p m.body

      abbrev l : Level
      l = level m.body j s.store

      split : ((nat_lt m.body (length p.procedures) && d.is_body) ≡ true) × (((is_empty d.formals && is_empty d.locals) && (is_no_kind (kind_of p.types d.result) && no_answer d.answer)) ≡ true)
      split = and_of (nat_lt m.body (length p.procedures) && d.is_body) ((is_empty d.formals && is_empty d.locals) && (is_no_kind (kind_of p.types d.result) && no_answer d.answer)) fine

      plain : ((is_empty d.formals && is_empty d.locals) ≡ true) × ((is_no_kind (kind_of p.types d.result) && no_answer d.answer) ≡ true)
      plain = and_of (is_empty d.formals && is_empty d.locals) (is_no_kind (kind_of p.types d.result) && no_answer d.answer) split.1

      there : q < length p.procedures
      there = lt_of p q (length p.procedures) (and_of (nat_lt m.body (length p.procedures)) d.is_body split.0).0

      no_formals : d.formals ≡ []
      no_formals = empty_is d.formals (and_of (is_empty d.formals) (is_empty d.locals) plain.0).0

      no_locals : d.locals ≡ []
      no_locals = empty_is d.locals (and_of (is_empty d.formals) (is_empty d.locals) plain.0).1

      no_result : d.answer ≡ None
      no_result = none_is d.answer (and_of (is_no_kind (kind_of p.types d.result)) (no_answer d.answer) plain.1).1

      none : locals_of d ≡ []
      none = ap₂ (λ a b. map (λ x. x.type_number) (filter (λ x. is_value x.mode) a) ++ b) no_formals no_locals

      is_at : coded ps q ≡ procedure (proc_of p lay q d)
      is_at = coded_at p packed lay laid_by character input code constants n q there

      uncounted : not d.is_body ≡ false
      uncounted = ap not (and_of (nat_lt m.body (length p.procedures)) d.is_body split.0).1

      no_cells : cells_of_all p.types (locals_of d) ≡ 0
      no_cells = ap (cells_of_all p.types) none

      no_bytes : (here_of p lay q d).bytes ≡ 0
      no_bytes = ap (λ ls. structured_room p.types lay ls + 8 * scalars_lent p.types lay (lent_in_body d) ls) none

      abbrev first : Cursor
      first = record (at_entry 0) { env = [] }

      abbrev done : Made (Unit {0})
      done = deeds_of p lay (here_of p lay q d) d.body first

      made : made_of p lay q d ≡ record { pieces = done.pieces ++ []; result = None; after = done.after }
      made = plain_body p lay q d no_formals no_locals no_result

      weight : (h : Point → ℕ) → whole_weight p lay q d h ≡ h (Entry q) + (bulk q done.pieces h + h (In q done.after.block done.after.op))
      weight h =
          let e = ap (λ z. h (Entry q) + (bulk q z.pieces h + h (In q z.after.block z.after.op))) made in
          let f = bulk_append q done.pieces [] h in
          omega (arith, e, f)

      stands : Standing ps q done.pieces
      stands = stand_first ps q done.pieces [] (standing_in ps q (procedure (proc_of p lay q d)) (done.pieces ++ []) is_at (subst (λ z. Stand (code_blocks (proc_of p lay q d).blocks) z.pieces) made (proc_stands p lay q d).0))

      ends : Ends_at w l done.after.block done.after.op (Return None)
      ends =
          let h = subst (λ z. Leaves (code_blocks (proc_of p lay q d).blocks) z.after.block z.after.op (Return z.result)) made (proc_stands p lay q d).1 in
          (ap (λ x. drop done.after.op (block_at x.blocks done.after.block).ops) is_at ∙ h.0, ap (λ x. (block_at x.blocks done.after.block).end) is_at ∙ h.1)

      abbrev behind : (Point → ℕ) → ℕ
      behind h = h (In q done.after.block done.after.op) + left (suc j) ms h

      abbrev enough : (Point → ℕ) → ℕ
      enough h = bulk q done.pieces h + behind h

      entered : slice_get (bodies ps) j ≡ Some q → (b : Between j (m ∷ ms) s) → Came_to w n 1 s.turns s.out (runs_at w l (position first) (first_values (procedure (proc_of p lay q d)) []) b.memory s.store) enough
      entered is b =
          pass_quiet (system w) (least w.procedures) w.points w.first w.turns 1 enough (Entry q) (runs_at w l (position first) (first_values (procedure (proc_of p lay q d)) []) b.memory s.store)
          (pass_quiet (system w) (least w.procedures) w.points w.first w.turns 1 (λ h. whole_weight p lay q d h + left (suc j) ms h) (Begin j) (Enters q [] [] (world_of w l b.memory s.store)) b.reached refl
          (ap (λ o. begin o (world_of w l b.memory s.store)) is) (λ h. omega arith) (omega arith))
          refl (enters_body ps q (world_of w l b.memory s.store) (procedure (proc_of p lay q d)) is_at uncounted no_cells no_bytes (omega arith)) (λ h. let e = weight h in omega (arith, e)) (omega arith)

      ready : slice_get (bodies ps) j ≡ Some q → (b : Between j (m ∷ ms) s) → Ready w l n 1 (position first) (first_values (procedure (proc_of p lay q d)) []) s enough
      ready is b = record {
        memory = b.memory;
        reached = entered is b;
        held = b.held;
        size = refl;
        under = tt;
        registers = λ x lt. absurd (omega (arith, lt));
        since = later_refl w l s.store;
      }

      next_body : (t : Moment Store) → DoneTo w l true Always (λ x. true) n 1 first done s.store (first_values (procedure (proc_of p lay q d)) []) behind tt t → Between (suc j) ms t
      next_body t z = record {
        gain = 0;
        memory = z.ready.memory;
        reached = pass_quiet (system w) (least w.procedures) w.points w.first w.turns 0 (left (suc j) ms) (In q done.after.block done.after.op) (Starts (world_of w (level 0 (suc j) t.store) z.ready.memory t.store)) z.ready.reached refl
            (end_step w l (position done.after) z.values z.ready.memory t.store (Return None) ends ∙ leaves_body ps q (world_of w l z.ready.memory t.store) (procedure (proc_of p lay q d)) is_at uncounted no_cells no_bytes (omega arith))
            (λ h. omega arith) (omega arith);
        held = z.ready.held;
        typed = z.typed;
      }

      body_runs : slice_get (bodies ps) j ≡ Some q → ((h : Point → ℕ) → left j (m ∷ ms) h + shared h ≤ weigh h w.points) → Between j (m ∷ ms) s
          → Goes w (effects_of p (at_most p n) (record { procedure = q; frame = 0; arguments = [] }) n d.body s) (λ u t. Between (suc j) ms t)
      body_runs is fits b =
          let parts = and_of (all (formal_legal p.types) d.formals) (all (WellFormed.fine p q) d.body && WellFormed.answer_fine p q (WellFormed.form_of p d.result) d.answer) (all_fine q there) in
          let body = and_of (all (WellFormed.fine p q) d.body) (WellFormed.answer_fine p q (WellFormed.form_of p d.result) d.answer) parts.1 in
          goes_on w l (effects_of p (at_most p n) (record { procedure = q; frame = 0; arguments = [] }) n d.body s)
          ((list_is w l (right_of_code p packed lay laid_by character input code constants n q j s.store codes declared) (apart_in_body p packed lay laid_by character input code constants n q j s.store) (variables_in_body p packed lay laid_by character input code constants n q j s.store declared standing none) good (at_most p n) (s_at_most p good all_fine n)
          (sym (ap (λ ls. joined (forms p.types) ls) none)) (subst (λ xs. AllTaken p good [] s.store.tags xs []) (sym no_formals) tt) (stacked_body p packed lay laid_by character input code constants n q j s.store) n (calling_all p packed lay laid_by character input code constants n good all_fine codes declared standing n) (λ x. true) d.body body.0 (λ x. refl) (λ x e. refl)).by
          n 1 first (first_values (procedure (proc_of p lay q d)) []) s enough behind (omega arith) (omega arith) (omega arith) stands (λ h. omega arith) (λ h. let e = weight h in let f = fits h in omega (arith, e, f))
          (λ k x h f at. absurd (nothing (ap (λ xs. slice_get xs k) (sym no_formals) ∙ at))) b.typed (ready is b))
          (λ u t z. next_body t z)
        where
          nothing : {A : Type 0} {x : A} → None ≡ Some x → ⊥
          nothing e = cc

    -- the bodies from the j-th on, and the end
    bodies_run : (j : ℕ) (ms : List Module) (s : Moment Store) → drop j (bodies ps) ≡ map (λ m. m.body) ms → all (WellFormed.module_fine p) ms ≡ true
        → ((h : Point → ℕ) → left j ms h + shared h ≤ weigh h w.points) → Between j ms s → Goes w (all_bodies p n ms s) (Stopped HasSense (system w) (least w.procedures) w.points w.first w.turns same_trap (Unit {0}))
    bodies_run j [] s rest fine fits b = record {
      by = record {
        most = n;
        gain = b.gain;
        place = Starts (world_of w (level 0 j s.store) b.memory s.store);
        free = left j [];
        reached = b.reached;
        stops = ap (λ o. begin o (world_of w (level 0 j s.store) b.memory s.store)) (at_end j (bodies ps) rest);
        fits = λ h. omega arith;
      };
    }
    bodies_run j (m ∷ ms) s rest fine fits b =
        let x = and_of (WellFormed.module_fine p m) (all (WellFormed.module_fine p) ms) fine in
        let z = at_drop j (bodies ps) m.body (map (λ m. m.body) ms) rest in
        then_goes w (level m.body j s.store) (effects_of p (at_most p n) (record { procedure = m.body; frame = 0; arguments = [] }) n (procedure_of p m.body).body) (λ u. all_bodies p n ms) s
        (body_runs j m ms s x.0 z.0 fits b)
        (λ u t c. bodies_run (suc j) ms t z.1 x.1 (λ h. let f = fits h in omega (arith, f)) c)

  -- the room for all bodies
  abbrev begins : (Point → ℕ) → ℕ → ℕ → ℕ
  begins h j zero = 0
  begins h j (suc k) = h (Begin j) + begins h (suc j) k

  begins_are : (h : Point → ℕ) (j k : ℕ) → weigh h (map Begin (places_from j k)) ≡ begins h j k
  begins_are h j zero = refl
  begins_are h j (suc k) = ap (λ x. h (Begin j) + x) (begins_are h (suc j) k)

  left_is : (h : Point → ℕ) (j : ℕ) (ms : List Module) → left j ms h ≡ begins h j (suc (length (map (λ m. m.body) ms))) + bodies_weight p lay h (map (λ m. m.body) ms)
  left_is h j [] = omega arith
  left_is h j (m ∷ ms) = let e = left_is h (suc j) ms in omega (arith, e)

  enough_room : bodies ps ≡ map (λ m. m.body) p.modules → (h : Point → ℕ) → left 0 p.modules h + shared h ≤ weigh h w.points
  enough_room order h =
      let starts_at = map Begin (places_from 0 (suc (length (bodies ps)))) in
      let a = weigh-append h starts_at (routine_points ++ points_of_all procedure_points 0 ps) in
      let b = weigh-append h routine_points (points_of_all procedure_points 0 ps) in
      let c = begins_are h 0 (suc (length (bodies ps))) in
      let d = bodies_within p lay 0 p.procedures h (λ i q e. let z : 0 + i ≡ i = omega arith in ap (procedure_of p) z ∙ declared_at p p.procedures i q _ e) in
      let e = left_is h 0 p.modules in
      let f = ap (λ fs. begins h 0 (suc (length fs)) + bodies_weight p lay h fs) order in
      omega (arith, a, b, c, d, e, f)

  makes_no_nonsense : (e : Ending Store Trap (Unit {0})) → MakesSense (outcome e) → No_nonsense HasSense (system w) (least w.procedures) w.points w.first w.turns same_trap e
  makes_no_nonsense (Gives u t) m = tt
  makes_no_nonsense (Fails trap out) m = m
  makes_no_nonsense (Spent out) m = tt

  declared_well : well_formed p ≡ true → WellFormed.declarations_fine p ≡ true
  declared_well h = (and_of (types_fine p.types) (WellFormed.declarations_fine p) (and_of (types_fine p.types && WellFormed.declarations_fine p) (all (all (λ c. nat_lt c 256)) (texts_of p.procedures) && (all (WellFormed.module_fine p) p.modules && all_below (length p.procedures) (WellFormed.procedure_fine p))) h).0).1

  -- the procedures keep up with the meaning
  pub keeps_up_by : well_formed p ≡ true → AreInput input → AreCodePlaces (length ps) code → globals_room p lay + length constants ≤ 0x10000000 → AreBytes constants → (0 < length p.types.records + length (texts_of p.procedures) → ConstantsStandBy p lay constants)
      → Keeps (block_system ps code) (least ps) (all_points ps) same_trap (first_state (globals_room p lay) constants input) n (meaning p input n)
  keeps_up_by h bytes codes room are standing =
      let parts = parts_of p h in
      let order = bodies_in_modules p lay h in
      keeps_comes HasSense (system w) (least w.procedures) w.points w.first w.turns same_trap (all_bodies p n p.modules (record { store = start p input; out = []; turns = n }))
      (makes_no_nonsense (all_bodies p n p.modules (record { store = start p input; out = []; turns = n })) (makes_sense p input n h bytes))
      (bodies_run parts.table parts.procedures codes (declared_well h) standing 0 p.modules (record { store = start p input; out = []; turns = n }) order parts.modules (enough_room order) (record {
        gain = 0;
        memory = (first_world (globals_room p lay) constants input).memory;
        reached = starts (system w) (least w.procedures) w.points w.first w.turns (left 0 p.modules) (λ h. let e = enough_room order h in omega (arith, e));
        held = first_held_by p packed lay input code constants n laid_by room are bytes standing (declared_well h) 0 0;
        typed = start_typed p parts.table parts.procedures input parts.texts bytes;
      }))
