-- A call from its entry to behind it.
use Rattle.std.proofs.Common.{◌≡◌, ℕ, zero, suc, ◌+◌, ◌*◌, ◌<◌, ◌≤◌, ⊎_elim, List, [], ◌∷◌, ◌++◌, map, length, drop, replicate, Bool, true, false, not, ◌&&◌, slice_get, slice_index, refl, sym, ap, ◌∙◌, subst, arith, Option, Some, None, length-append, ne_eqb}
use Rattle.std.specs.Prelude.{◌-◌, ◌==◌, min, nat_lt, nat_le, sum, if◌then◌else◌}
use Rattle.std.proofs.lemmas.Bool.{cases_lt}
use Rattle.std.proofs.lemmas.Bool.Decides.{nat_tests}
use Rattle.std.proofs.lemmas.List.{length-replicate, map-append}
use Rattle.std.proofs.lemmas.List.Sums.{sum-map}
use Rattle.run_laws.specs.Runs.{Moves, Traps, weigh}
use Rattle.run_laws.specs.Turns.{Ending, Gives, after, give, look, spend, ◌>>=◌}
use Rattle.run_laws.specs.Turns.{State as At}
use Rattle.run_laws.proofs.Reached.{pass_quiet, loosen}
use Rattle.run_laws.proofs.Comes.{comes_bind, comes_trap}
use Rattle.a64_memory.specs.Memory.{Area, shapes, covered, bytes_at}
use Rattle.a64_memory.specs.Areas.{heap_base, local_base, local_words}
use Rattle.wrapping_numbers.specs.Numbers.{add64}
use Rattle.block_runs.specs.declared.end.End.{End}
use Rattle.block_runs.specs.declared.end.End.TheVariants.{Return}
use Rattle.block_runs.specs.Blocks.{Operation, Procedure, block_of, block_at, procedure_of}
use Rattle.block_runs.specs.States.{World, Runs, Enters, Point, Entry, In, Kind}
use Rattle.block_runs.specs.Steps.{set_all, first_frame, first_values, taken, one_if}
use Rattle.block_runs.specs.Points.{least}
use Rattle.ob_types.specs.Forms.{all, types_fine}
use Rattle.ob_types.specs.Layout.{cells_of_all}
use Rattle.ob_types.specs.LegalTypes.{formal_legal}
use Rattle.ob_types.specs.Meaning.{locals_of, received, zeroed, cells_in, within, effects_of, answer, invoked}
use Rattle.ob_types.specs.Meaning.{procedure_of as declared_of}
use Rattle.ob_types.specs.Sense.{HasSense}
use Rattle.ob_types.specs.Expressions.{Calls}
use Rattle.ob_types.specs.Store.{Cell, Bits, Trap, Act, Handed, given, unless, spend_all}
use Rattle.ob_types.specs.Store.{Store as Objects, Kind as Trapping}
use Rattle.ob_types.specs.declared.program.Procedure.{Procedure as Declared}
use Rattle.ob_types.specs.declared.program.Program.{Program}
use Rattle.ob_types.proofs.Tests.{and_of}
use Rattle.ob_sound.proofs.Tables.{all_joined, starts, all_cells_length, starts_all}
use Rattle.ob_sound.proofs.Typed.{Typed, AllFit, typed_push}
use Rattle.ob_sound.proofs.Handing.{AllTaken, FitAll, receive_all, joined_append, fit_append, fit_at, fit_zeros}
use Rattle.ssa_core.specs.Procedures.{procedure, code_blocks}
use Rattle.ssa_core.specs.declared.procedure.Op.{Op}
use Rattle.ssa_lowered.specs.Pieces.{Cursor, Piece, Appends, Closes, Start, Made, numbers, blocks_of}
use Rattle.ssa_lowered.specs.Variables.{words_of, some_structured, further, zeroing, stored, opened}
use Rattle.ob_types.specs.Forms.{joined, forms}
use Rattle.std.proofs.Common.{filter}
use Rattle.std.specs.Prelude.{slice_index_or}
use Rattle.ob_types.specs.Meaning.{is_value}
use Rattle.ob_types.proofs.Tests.{some_same}
use Rattle.ssa_lowered.specs.Pieces.{Mask}
use Rattle.ssa_lowered.specs.Lowered.{in_register, lent_in_body, Here, here_of, at_entry, entry, deeds_of, zeroed_bytes, made_of, proc_of}
use Rattle.ssa_lowered.specs.Lowered.{answer as lower_answer}
use Rattle.ssa_lowered.proofs.Stands.{proc_stands}
use Rattle.lowered_runs.specs.Words.{same_trap, Whole, Level, Right, Apart, ground, active, ValueIs, Held}
use Rattle.lowered_runs.proofs.Stores.{later_refl, value_few}
use Rattle.lowered_runs.proofs.Values.{Same, put_here, put_else}
use Rattle.lowered_runs.proofs.Standing.{Standing, stand_first, stand_rest, bulk, bulk_append, shared}
use Rattle.lowered_runs.proofs.Ready.{Position, position, system, world_of, frame_at, runs_at, Typing, Goes, Came_to, Ready}
use Rattle.lowered_runs.proofs.Follows.{Follows, then_goes, goes_senseless}
use Rattle.lowered_runs.proofs.Forks.{Ends_at, nothing}
use Rattle.lowered_runs.proofs.Structures.{Always}
use Rattle.lowered_runs.proofs.Levels.{Given, steady_given, running}
use Rattle.lowered_runs.proofs.Levels.{here as here_in}
use Rattle.held_stores.specs.Changes.{Beyond, with_frame, without_frame}
use Rattle.held_stores.specs.Held.{takes_byte}
use Rattle.held_stores.proofs.Calls.{many_lengths, held_push}
use Rattle.object_nodes.specs.Running.{forms_of_all}
use Rattle.object_bytes.specs.Objects.{load}
use Rattle.object_nodes.specs.Nodes.{VariableNode}
use Rattle.ob_types.specs.Trees.{Scalar}
use Rattle.ob_types.specs.Forms.{Form}
use Rattle.lowered_runs.proofs.Frames.{Activation, call_of, above}
use Rattle.lowered_runs.proofs.Locals.{tree, wide_in}
use Rattle.lowered_runs.proofs.Calls.{AnswerIs, Words, words_length, Stacked, Back}
use Rattle.lowered_runs.proofs.Openings.{trees_in, Opens, opens_give, Taken, further_opens, opened_more, some_lent, wide_some, EnvIs, Firsts, stored_opens, opened_opens, memory_either, registers_first, env_size, env_under, Before, Behind}
use Rattle.lowered_runs.proofs.Zeroes.{zeroing_goes}
use Rattle.lowered_runs.proofs.Activations.{pairs_of, types_are, zeroed_by, none_zeroed, all_first, among_firsts, own_cells, wide_flag, type_at, cell_is, no_variable, activation, zeroed_is, bytes_are, variables_are, laid, given_above}
use Rattle.lowered_runs.proofs.Returns.{IsGiven, returns}
use Rattle.lowered_runs.proofs.Bodies.{standing_in}
use Rattle.lowered_runs.proofs.Points.{whole_weight}
use Rattle.held_stores.proofs.Calls.{sum_append}
use Rattle.held_stores.proofs.Calls.{own_cell}

-- a procedure's statements, and what is behind RETURN, do what they mean in a level
pub record Serves (w : Whole) (u : Level) (fuel : ℕ) (calls : Calls) : Type 0 where
  pub body : Follows w u 1 fuel (λ x. true) (Given w u) Always (effects_of w.program calls (running w u) fuel (declared_of w.program u.proc).body) (deeds_of w.program w.layout (here_in w u) (declared_of w.program u.proc).body)
  pub result : Follows w u 0 fuel nothing (Given w u) (AnswerIs w u) (answer w.program calls (running w u) (declared_of w.program u.proc).answer) (lower_answer w.program w.layout (here_in w u) (declared_of w.program u.proc).answer)

-- the first block has the first words as its parameters
pub first_block : (s : Start) (ops : List Op) (last : End) (ps : List Piece) → (block_at (code_blocks (blocks_of s ops last ps)) 0).params ≡ s.params
first_block s ops last [] = refl
first_block s ops last (Appends b i op ∷ ps) = first_block s (ops ++ op ∷ []) last ps
first_block s ops last (Closes b i end next ∷ ps) = refl

first_numbers : (i n : ℕ) (xs : List ℕ) (f : ℕ → ℕ) (a : ℕ) → a < n → n ≤ length xs → set_all (numbers i n) xs f (i + a) ≡ slice_index xs a
first_numbers i zero xs f a lt le = absurd (omega (arith, lt))
first_numbers i (suc n) [] f a lt le = absurd (omega (arith, le))
first_numbers i (suc n) (x ∷ xs) f zero lt le = let e : i + 0 ≡ i = omega arith in ap (set_all (numbers i (suc n)) (x ∷ xs) f) e ∙ put_here i x (set_all (numbers (suc i) n) xs f)
first_numbers i (suc n) (x ∷ xs) f (suc a) lt le =
    let e : i + suc a ≡ suc i + a = omega arith in
    ap (set_all (numbers i (suc n)) (x ∷ xs) f) e ∙ put_else i x (set_all (numbers (suc i) n) xs f) (suc i + a) (λ g. absurd (omega (arith, g))) ∙ first_numbers (suc i) n xs f a (omega (arith, lt)) (omega (arith, le))

module _ (w : Whole) (right : Right w) (good : types_fine w.program.types ≡ true) (l : Level) (apart : Apart w l) (stacked : Stacked l) (g : ℕ) (hs : List Handed) (xs : List ℕ) (def : Option ℕ) (most : ℕ) (c : Position) (f : ℕ → ℕ) (free : (Point → ℕ) → ℕ) (op : Operation) (rest : List Operation)
    (stands : drop c.op (block_of (procedure_of w.procedures l.proc) c.block).ops ≡ op ∷ rest) (def_is : op.def ≡ def) (within_all : (h : Point → ℕ) → free h ≤ weigh h w.points)
    (coded : procedure_of w.procedures g ≡ procedure (proc_of w.program w.layout g (declared_of w.program g))) (counted : (declared_of w.program g).is_body ≡ false)
    (legal : all (formal_legal w.program.types) (declared_of w.program g).formals ≡ true) (has_points : (h : Point → ℕ) → whole_weight w.program w.layout g (declared_of w.program g) h + shared h ≤ weigh h w.points)
    (is_given : IsGiven def (made_of w.program w.layout g (declared_of w.program g)).result) where
  abbrev p : Program
  p = w.program

  abbrev q : Declared
  q = declared_of p g

  abbrev mine : Here
  mine = here_of p w.layout g q

  abbrev lent : Mask
  lent = lent_in_body q

  abbrev k : Activation
  k = activation w l g hs xs (frame_at l c f)

  abbrev words : ℕ
  words = words_of q.formals

  abbrev pr : Procedure
  pr = procedure (proc_of p w.layout g q)

  -- the code, part by part
  abbrev made_words : Made (Unit {0})
  made_words = further 4 (words - 4) (at_entry words)

  abbrev made_zeros : Made (Unit {0})
  made_zeros = zeroing (some_structured p.types q.locals) mine.bytes (zeroed_bytes p w.layout q) made_words.after

  abbrev made_stores : Made (Unit {0})
  made_stores = stored p.types w.layout mine.bytes mine.variables made_zeros.after

  abbrev made_env : Made (List ℕ)
  made_env = opened mine.variables made_stores.after

  abbrev begins : Cursor
  begins = record made_env.after { env = made_env.result }

  abbrev made_body : Made (Unit {0})
  made_body = deeds_of p w.layout mine q.body begins

  abbrev made_answer : Made (Option ℕ)
  made_answer = lower_answer p w.layout mine q.answer made_body.after

  abbrev body_pieces : List Piece
  body_pieces = made_body.pieces ++ made_answer.pieces

  all_stand : Standing w.procedures g (made_of p w.layout g q).pieces
  all_stand = standing_in w.procedures g pr (made_of p w.layout g q).pieces coded (proc_stands p w.layout g q).0

  ends : (u : Level) → u.proc ≡ g → Ends_at w u made_answer.after.block made_answer.after.op (Return made_answer.result)
  ends u e =
      let h = (proc_stands p w.layout g q).1 in (
        ap (λ n. drop made_answer.after.op (block_of (procedure_of w.procedures n) made_answer.after.block).ops) e ∙ ap (λ x. drop made_answer.after.op (block_at x.blocks made_answer.after.block).ops) coded ∙ h.0,
        ap (λ n. (block_of (procedure_of w.procedures n) made_answer.after.block).end) e ∙ ap (λ x. (block_at x.blocks made_answer.after.block).end) coded ∙ h.1,
      )

  -- what the parts take
  abbrev last_point : (Point → ℕ) → ℕ
  last_point h = h (In g made_answer.after.block made_answer.after.op)

  abbrev free_body : (Point → ℕ) → ℕ
  free_body h = bulk g made_answer.pieces h + last_point h

  abbrev free_env : (Point → ℕ) → ℕ
  free_env h = bulk g made_body.pieces h + free_body h

  abbrev free_stores : (Point → ℕ) → ℕ
  free_stores h = bulk g made_env.pieces h + free_env h

  abbrev free_zeros : (Point → ℕ) → ℕ
  free_zeros h = bulk g made_stores.pieces h + free_stores h

  abbrev free_words : (Point → ℕ) → ℕ
  free_words h = bulk g made_zeros.pieces h + (free_zeros h + shared h)

  abbrev free_entry : (Point → ℕ) → ℕ
  free_entry h = bulk g made_words.pieces h + free_words h

  room_is : (h : Point → ℕ) → whole_weight p w.layout g q h + shared h ≡ h (Entry g) + free_entry h
  room_is h =
      let a = bulk_append g made_words.pieces (made_zeros.pieces ++ (made_stores.pieces ++ (made_env.pieces ++ body_pieces))) h in
      let b = bulk_append g made_zeros.pieces (made_stores.pieces ++ (made_env.pieces ++ body_pieces)) h in
      let d = bulk_append g made_stores.pieces (made_env.pieces ++ body_pieces) h in
      let e = bulk_append g made_env.pieces body_pieces h in
      let i = bulk_append g made_body.pieces made_answer.pieces h in
      omega (arith, a, b, d, e, i)

  stand_words : Standing w.procedures g made_words.pieces
  stand_words = stand_first w.procedures g made_words.pieces (made_zeros.pieces ++ (made_stores.pieces ++ (made_env.pieces ++ body_pieces))) all_stand

  stand_1 : Standing w.procedures g (made_zeros.pieces ++ (made_stores.pieces ++ (made_env.pieces ++ body_pieces)))
  stand_1 = stand_rest w.procedures g made_words.pieces (made_zeros.pieces ++ (made_stores.pieces ++ (made_env.pieces ++ body_pieces))) all_stand

  stand_2 : Standing w.procedures g (made_stores.pieces ++ (made_env.pieces ++ body_pieces))
  stand_2 = stand_rest w.procedures g made_zeros.pieces (made_stores.pieces ++ (made_env.pieces ++ body_pieces)) stand_1

  stand_3 : Standing w.procedures g (made_env.pieces ++ body_pieces)
  stand_3 = stand_rest w.procedures g made_stores.pieces (made_env.pieces ++ body_pieces) stand_2

  stand_4 : Standing w.procedures g body_pieces
  stand_4 = stand_rest w.procedures g made_env.pieces body_pieces stand_3

  -- the parameters of the first block
  params_are : (block_of pr 0).params ≡ numbers 0 (min words 4)
  params_are = first_block (entry words) [] (Return (made_of p w.layout g q).result) (made_of p w.layout g q).pieces

  -- what is known of the store when the procedure is entered
  pub record Entered (s : Objects) (m : List Area) : Type 0 where
    pub held : Held w l s m
    pub typed : Typing w l s
    pub taken : AllTaken p good (forms_of_all p l.types) s.tags q.formals hs
    pub words : Words w l s q.formals hs xs

  module _ (few_calls : length l.sizes < 8192) (few_cells : sum l.sizes + k.cells ≤ local_words) (low : l.local ≤ local_base + 8 * sum l.sizes) where
    bytes_room : l.local + k.bytes ≤ local_base + 8 * local_words
    bytes_room = let fit = (laid w l g hs xs (frame_at l c f) good right.laid).fits in omega (arith, fit, few_cells, low)

    ---- The entry

    world_with : List Area → Objects → (calls cells local : ℕ) → World
    world_with m t calls cells local = record (world_of w l m t) { calls = calls; cells = cells; local = local }

    taken_is : (m : List Area) (t s : Objects) → taken pr (world_of w l m t) ≡ world_of w (above l k s) m t
    unfolding world_with
    taken_is m t s =
        let more = length-append l.sizes (k.cells ∷ []) in
        let total = sum_append l.sizes k.cells in
        let bytes = bytes_are w l g hs xs (frame_at l c f) in
        let one : one_if (not q.is_body) ≡ 1 = ap (λ b. one_if (not b)) counted in
        let room = bytes_room in
        ap (λ x. world_with m t x (local_words - sum l.sizes - k.cells) (add64 l.local mine.bytes)) (omega (arith, more, one))
        ∙ ap (λ x. world_with m t (8192 - length (l.sizes ++ k.cells ∷ [])) x (add64 l.local mine.bytes)) (omega (arith, total))
        ∙ ap (λ x. world_with m t (8192 - length (l.sizes ++ k.cells ∷ [])) (local_words - sum (l.sizes ++ k.cells ∷ [])) x) (omega (arith, bytes, room))

    enter_step : (m : List Area) (t s : Objects) → (system w).step (Enters g xs (frame_at l c f ∷ l.callers) (world_of w l m t)) ≡ Moves [] (runs_at w (above l k s) (position (at_entry words)) (first_values pr xs) m t)
    enter_step m t s =
        let calls : (8192 - length l.sizes == 0) ≡ false = some_left (8192 - length l.sizes) (omega (arith, few_calls)) in
        let cells : nat_lt (local_words - sum l.sizes) k.cells ≡ false = grind (arith, nat_tests) in
        ap (λ x. if x.counted && 8192 - length l.sizes == 0 then Traps (Kind 8 g) else (if nat_lt (local_words - sum l.sizes) x.cells then Traps (Kind 9 g) else Moves [] (Runs (first_frame x g xs) (frame_at l c f ∷ l.callers) (taken x (world_of w l m t))))) coded
        ∙ ap (λ b. if not q.is_body && b then Traps (Kind 8 g) else (if nat_lt (local_words - sum l.sizes) k.cells then Traps (Kind 9 g) else Moves [] (Runs (first_frame pr g xs) (frame_at l c f ∷ l.callers) (taken pr (world_of w l m t))))) calls
        ∙ ap (λ b. if b then Traps (Kind 8 g) else (if nat_lt (local_words - sum l.sizes) k.cells then Traps (Kind 9 g) else Moves [] (Runs (first_frame pr g xs) (frame_at l c f ∷ l.callers) (taken pr (world_of w l m t))))) (and_false (not q.is_body))
        ∙ ap (λ b. if b then Traps (Kind 9 g) else Moves [] (Runs (first_frame pr g xs) (frame_at l c f ∷ l.callers) (taken pr (world_of w l m t)))) cells
        ∙ ap (λ x. Moves [] (Runs (first_frame pr g xs) (frame_at l c f ∷ l.callers) x)) (taken_is m t s)
      where
        some_left : (n : ℕ) → 0 < n → (n == 0) ≡ false
        some_left n lt = ne_eqb n 0 (λ e. absurd (omega (arith, e, lt)))

        and_false : (b : Bool) → (b && false) ≡ false
        and_false true = refl
        and_false false = refl

    ---- The body

    module _ (fuel : ℕ) (calls : Calls) (top : ℕ) (le_top : top ≤ most) (le_fuel : top ≤ fuel) (serves : (s : Objects) (cs : List Cell) (m : List Area) → Entered s m → Serves w (above l k (with_frame cs s)) fuel calls) where
      abbrev rest_of_call : List Cell → Act (Option Cell)
      rest_of_call cs = within cs (λ frame. effects_of p calls (record { procedure = g; frame = frame; arguments = hs }) fuel q.body >>= λ _. answer p calls (record { procedure = g; frame = frame; arguments = hs }) q.answer >>= λ r. spend >>= λ _. give r)

      abbrev whole_with : Act (Option Cell) → At Objects → ℕ → Ending Objects Trap (Option Cell)
      whole_with act t n = after (act t) (λ (r : Option Cell) t2. Gives r (record t2 { store = without_frame n t2.store }))

      -- behind the entry's code
      body_goes : (t : At Objects) (cells cs : List Cell) (m0 : List Area) (bound : ℕ) (values : ℕ → ℕ) (m : List Area) → cs ≡ cells ++ replicate (cells_of_all p.types q.locals) (Bits 0) → received q.formals hs ≡ Some cells → bound ≤ top → Entered t.store m0 → Beyond l.local m0 m → length cs ≡ k.cells → length xs ≤ begins.values
          → ((a : ℕ) → a < length xs → values a ≡ slice_index xs a) → ((v d b x : ℕ) (form : Form) (value : Cell) → VariableNode w.packed (trees_in p (pairs_of q)) v d b (Scalar form) → k.own v ≡ Some x → slice_get cs d ≡ Some value → ValueIs w t.store.tags value (load (takes_byte (ground w) form) m (x + b))) → Firsts w t.store xs (pairs_of q) cs → EnvIs w t.store xs lent (pairs_of q) made_env.result begins.values values
          → Came_to w bound 1 t.turns t.out (runs_at w (above l k (with_frame cs t.store)) (position begins) values m t.store) free_env → Goes w (rest_of_call cs t) (Back w l def c f t.store most free)
      body_goes t cells cs m0 bound values m cs_is is le entered beyond long many given_words puts firsts env at =
          let u = above l k (with_frame cs t.store) in
          let t1 : At Objects = record t { store = with_frame cs t.store } in
          let serve = serves t.store cs m0 entered in
          let frames : length t.store.frames ≡ length l.types = sym (many_lengths t.store.frames) ∙ ap length entered.held.frames ∙ sym stacked.depth in
          let names = given_above w l g hs xs (frame_at l c f) (with_frame cs t.store) good stacked cs t.store begins.values values entered.words given_words many in
          let ready : Ready w u bound 1 (position begins) values t1 free_env = record {
            memory = m;
            reached = at;
            held = held_push (ground w) (active l) (call_of k) stacked.depth (laid w l g hs xs (frame_at l c f) good right.laid) few_cells t.store cs m0 m entered.held beyond long (own_puts t.store cs m puts);
            size = env_size w t.store xs lent (pairs_of q) made_env.result begins.values values env ∙ ap length (types_are q);
            under = env_under w t.store xs lent (pairs_of q) made_env.result begins.values values env;
            registers = λ x lt reg v cell. first_value t cs values x v firsts env lt reg (sym (own_cell t.store.frames cs (length l.types) (k.cell x) (sym frames)) ∙ cell);
            since = later_refl w u (with_frame cs t.store);
          } in
          let inner = λ (n : ℕ). effects_of p calls (record { procedure = g; frame = n; arguments = hs }) fuel q.body >>= λ _. answer p calls (record { procedure = g; frame = n; arguments = hs }) q.answer >>= λ r. spend >>= λ _. give r in
          subst (λ n. Goes w (whole_with (inner n) t1 n) (Back w l def c f t.store most free)) (sym frames)
          (comes_bind HasSense (system w) (least w.procedures) w.points w.first w.turns same_trap (inner (length l.types) t1) (λ r t2. Gives r (record t2 { store = without_frame (length l.types) t2.store }))
          (then_goes w u (effects_of p calls (running w u) fuel q.body) (λ _. answer p calls (running w u) q.answer >>= λ r. spend >>= λ _. give r) t1
          (serve.body.by bound 1 begins values t1 free_env free_body (omega (arith, le, le_fuel)) (omega arith) (omega arith) (stand_first w.procedures g made_body.pieces made_answer.pieces stand_4) (λ h. omega arith)
          (λ h. let e = room_is h in let z = has_points h in omega (arith, e, z)) names (typed_inside t.store cells cs m0 cs_is is entered) ready)
          (λ x t2 d. then_goes w u (answer p calls (running w u) q.answer) (λ r. spend >>= λ _. give r) t2
          (serve.result.by bound 1 made_body.after d.values t2 free_body last_point (omega (arith, le, le_fuel)) (omega arith) (omega arith) (stand_rest w.procedures g made_body.pieces made_answer.pieces stand_4) (λ h. omega arith)
          (λ h. let e = room_is h in let z = has_points h in omega (arith, e, z)) ((steady_given w u).by begins.values made_body.after.values values d.values t1.store t2.store (serve.body.grows.by begins) d.same d.later names) d.typed d.ready)
          (λ r t3 d3. returns w right good l apart stacked g hs xs def most c f free op rest stands def_is within_all coded counted few_calls few_cells (let room = bytes_room in omega (arith, room)) (with_frame cs t.store) t.store cs m0 bound (position made_answer.after) d3.values made_answer.result t3 r refl entered.held (omega (arith, le, le_top)) (ends u refl) is_given d3.ready d3.is)))
          (λ r t4 b. record { by = b }))
        where
          forms_more : (vs : List (List ℕ)) (ks : List ℕ) → forms_of_all p (vs ++ ks ∷ []) ≡ forms_of_all p vs ++ joined (forms p.types) ks ∷ []
          forms_more vs ks = map-append (joined (forms p.types)) vs (ks ∷ [])

          typed_inside : (s : Objects) (cells cs : List Cell) (m0 : List Area) → cs ≡ cells ++ replicate (cells_of_all p.types q.locals) (Bits 0) → received q.formals hs ≡ Some cells → Entered s m0 → Typing w (above l k (with_frame cs s)) (with_frame cs s)
          typed_inside s cells cs m0 cs_is is entered =
              let r = receive_all p good (forms_of_all p l.types) s.tags q.formals hs entered.taken legal in
              let same : r.0 ≡ cells = some_same r.0 cells (sym r.1 ∙ is) in
              let own = joined (forms p.types) (locals_of q) in
              subst (λ fs. Typed p fs (with_frame cs s)) (sym (forms_more l.types k.types)) (typed_push p (forms_of_all p l.types) s own cs (subst (λ cs. AllFit p s.tags own cs) (sym cs_is) (fit_at p good s.tags own (cells ++ replicate (cells_of_all p.types q.locals) (Bits 0))
              (subst (λ ys. FitAll p good s.tags ys (cells ++ replicate (cells_of_all p.types q.locals) (Bits 0))) (sym (joined_append p good (map (λ x. x.type_number) (filter (λ x. is_value x.mode) q.formals)) q.locals))
              (fit_append p good s.tags (joined (forms p.types) (map (λ x. x.type_number) (filter (λ x. is_value x.mode) q.formals))) (joined (forms p.types) q.locals) cells (replicate (cells_of_all p.types q.locals) (Bits 0))
              (subst (λ cs. FitAll p good s.tags (joined (forms p.types) (map (λ x. x.type_number) (filter (λ x. is_value x.mode) q.formals))) cs) same r.2)
              (fit_zeros p good s.tags (joined (forms p.types) q.locals) (cells_of_all p.types q.locals) (all_cells_length p.types q.locals) (all_joined starts (forms p.types) (starts_all p.types) q.locals)))))) entered.typed)

          own_puts : (s : Objects) (cs : List Cell) (m : List Area) → ((v d b x : ℕ) (form : Form) (value : Cell) → VariableNode w.packed (trees_in p (pairs_of q)) v d b (Scalar form) → k.own v ≡ Some x → slice_get cs d ≡ Some value → ValueIs w s.tags value (load (takes_byte (ground w) form) m (x + b)))
              → (v d b x : ℕ) (form : Form) (value : Cell) → VariableNode w.packed (map (tree p) (locals_of q)) v d b (Scalar form) → k.own v ≡ Some x → slice_get cs d ≡ Some value → ValueIs w s.tags value (load (takes_byte (ground w) form) m (x + b))
          own_puts s cs m puts v d b x form value node own at = puts v d b x form value (subst (λ ks. VariableNode w.packed (map (tree p) ks) v d b (Scalar form)) (sym (types_are q)) node) own at

          first_value : (t : At Objects) (cs : List Cell) (values : ℕ → ℕ) (x : ℕ) (v : Cell) → Firsts w t.store xs (pairs_of q) cs → EnvIs w t.store xs lent (pairs_of q) made_env.result begins.values values → x < k.count → k.in_register x ≡ true → slice_get cs (k.cell x) ≡ Some v → ValueIs w t.store.tags v (values (slice_index made_env.result x))
          first_value t cs values x v firsts env lt reg cell =
              let z = type_at w l g hs xs (frame_at l c f) t.store x lt in
              registers_first w t.store xs mine lent 0 (wide_in p w.layout (pairs_of q)) (pairs_of q) cs made_env.result begins.values values x z.0 no_variable v env firsts z.1
              (subst (λ vs. in_register p w.layout mine (slice_index_or vs x no_variable).site ≡ true) (variables_are w l g hs xs (frame_at l c f)) (and_of (nat_lt x (length (locals_of q))) (in_register p w.layout mine (slice_index_or mine.variables x no_variable).site) reg).1) (ap (slice_get cs) (sym (cell_is w l g hs xs (frame_at l c f) t.store x)) ∙ cell)

      ---- The entry's code

      abbrev own_zeros : List Cell
      own_zeros = replicate (cells_of_all p.types q.locals) (Bits 0)

      few_bytes : l.local + k.bytes ≤ heap_base
      few_bytes = let room = bytes_room in omega (arith, room)

      covers_own : (s : Objects) (m0 : List Area) → Held w l s m0 → (x n : ℕ) → l.local ≤ x → x + n ≤ l.local + k.bytes → covered (shapes m0) x n ≡ true
      covers_own s m0 h x n lo hi = ap (λ ss. covered ss x n) h.areas ∙ h.room.local_covered x n (let b = h.room.local_begins in omega (arith, b, lo)) (let room = bytes_room in omega (arith, hi, room))

      cells_long : (cells : List Cell) → received q.formals hs ≡ Some cells → length (cells ++ own_zeros) ≡ k.cells
      cells_long cells is =
          let e = length-append cells own_zeros in let f = length-replicate (cells_of_all p.types q.locals) (Bits 0) in let h = own_cells p q hs cells is legal in
          omega (arith, e, f, h)

      -- argument words that are in no register
      words_opens : (s : At Objects) (m0 : List Area) (bound : ℕ) → length xs ≡ words → Opens w (above l k s.store) bound s (Taken w (above l k s.store) bound s (min words 4) (λ m. m ≡ m0)) (λ (x : Unit {0}). Taken w (above l k s.store) bound s words (λ m. m ≡ m0)) (further 4 (words - 4))
      words_opens s m0 bound long = ⊎_elim
          (λ (lt : words < 5).
          let e : words - 4 ≡ 0 = omega (arith, lt) in let all_first : min words 4 ≡ words = omega (arith, lt) in
          subst (λ n. Opens w (above l k s.store) bound s (Taken w (above l k s.store) bound s (min words 4) (λ m. m ≡ m0)) (λ (x : Unit {0}). Taken w (above l k s.store) bound s words (λ m. m ≡ m0)) (further 4 n)) (sym e)
          (subst (λ n. Opens w (above l k s.store) bound s (Taken w (above l k s.store) bound s n (λ m. m ≡ m0)) (λ (x : Unit {0}). Taken w (above l k s.store) bound s words (λ m. m ≡ m0)) (further 4 0)) (sym all_first)
          (opens_give w (above l k s.store) bound s tt (λ n f m h. h))))
          (λ (ge : 5 ≤ words).
          let four : min words 4 ≡ 4 = omega (arith, ge) in let all_words : 4 + (words - 4) ≡ words = omega (arith, ge) in
          subst (λ n. Opens w (above l k s.store) bound s (Taken w (above l k s.store) bound s n (λ m. m ≡ m0)) (λ (x : Unit {0}). Taken w (above l k s.store) bound s words (λ m. m ≡ m0)) (further 4 (words - 4))) (sym four)
          (subst (λ n. Opens w (above l k s.store) bound s (Taken w (above l k s.store) bound s 4 (λ m. m ≡ m0)) (λ (x : Unit {0}). Taken w (above l k s.store) bound s n (λ m. m ≡ m0)) (further 4 (words - 4))) all_words
          (further_opens w (above l k s.store) bound s (λ m. m ≡ m0) 4 (words - 4) (omega (arith, ge, long)))))
          (cases_lt words 5)

      first_words : (a : ℕ) → length xs ≡ words → a < min words 4 → first_values pr xs a ≡ slice_index xs a
      first_words a long lt =
          let e : a ≡ 0 + a = omega arith in
          ap (λ ps. set_all ps xs (λ v. 0) a) params_are ∙ ap (set_all (numbers 0 (min words 4)) xs (λ v. 0)) e ∙ first_numbers 0 (min words 4) xs (λ v. 0) a lt (omega (arith, long))

      abbrev flag : Bool
      flag = some_structured p.types q.locals

      abbrev if_flag : ℕ → List Area → Type 0
      if_flag n m = flag ≡ true → 1 ≤ n

      -- the variables' first values
      variables_go : (t : At Objects) (m0 : List Area) (cells : List Cell) (before : Cursor) (given_values : ℕ → ℕ) (s : At Objects) → (entered : Entered t.store m0) → (held0 : Held w l s.store m0) → received q.formals hs ≡ Some cells → length xs ≤ before.values → ((a : ℕ) → a < length xs → given_values a ≡ slice_index xs a)
          → (bound : ℕ) → bound ≤ top → (values : ℕ → ℕ) (memory : List Area) → Came_to w bound 1 t.turns t.out (runs_at w (above l k s.store) (position made_zeros.after) values memory t.store) free_zeros → Beyond l.local m0 memory
          → ((x n : ℕ) → l.local ≤ x → x + n ≤ l.local + zeroed_bytes p w.layout q → bytes_at memory x n ≡ replicate n 0) → Same before.values given_values values → before.values ≤ made_zeros.after.values → (flag ≡ true → 1 ≤ made_zeros.after.values) → Goes w (rest_of_call (cells ++ own_zeros) t) (Back w l def c f t.store most free)
      variables_go t m0 cells before given_values s entered held0 is many given_words bound le values memory at beyond zeros same more made =
          let cs = cells ++ own_zeros in
          let u = above l k (with_frame cs t.store) in
          let pairs = pairs_of q in
          let wide = wide_in p w.layout pairs in
          let covers = covers_own t.store m0 entered.held in
          let firsts = all_first w t.store xs l good right.laid (λ v x h. value_few w l right t.store m0 v x entered.held h) (forms_of_all p l.types) q hs cells (cells_of_all p.types q.locals) is entered.words entered.taken legal in
          let vars = variables_are w l g hs xs (frame_at l c f) in
          let K = Behind w good right.laid u bound t m0 l.local k.bytes refl few_bytes covers lent 0 wide pairs cs if_flag in
          let x = (subst (λ vs. Opens w u bound t (Before w good right.laid u bound t m0 l.local k.bytes refl few_bytes covers 0 pairs if_flag) (λ (y : Unit {0}). K) (stored p.types w.layout mine.bytes vs)) (sym vars)
          (stored_opens w good right.laid u bound t m0 l.local k.bytes refl few_bytes covers mine.bytes (bytes_are w l g hs xs (frame_at l c f)) lent 0 wide pairs cs if_flag (λ n v m m2 more same h e. let z = h e in omega (arith, z, more)) firsts (omega arith) (omega arith))).by
          made_zeros.after values memory free_zeros free_stores (stand_first w.procedures g made_stores.pieces (made_env.pieces ++ body_pieces) stand_2) (λ h. omega arith)
          (record { many = omega (arith, many, more); given = λ a lt. same a (omega (arith, lt, many)) ∙ given_words a lt; beyond = beyond }, (made, λ y n lo hi. let e = zeroed_is w l g hs xs (frame_at l c f) in zeros y n (omega (arith, lo)) (omega (arith, hi, e)))) at in
          let y = (subst (λ vs. Opens w u bound t K (λ us n f m. K n f m × EnvIs w t.store xs lent pairs us n f) (opened vs)) (sym vars)
          (opened_opens w good right.laid u bound t m0 l.local k.bytes refl few_bytes covers lent 0 wide pairs K
          (λ n v f g m le same h. (opened_more w good right.laid u bound t m0 l.local k.bytes refl few_bytes covers n v f g m le same h.0, ((λ e. let z = h.1.0 e in omega (arith, z, le)), (h.1.1.0, λ e. let z = h.1.1.1 e in omega (arith, z, le)))))
          (λ n f m h. h.0)
          (λ n f m h e. ⊎_elim (λ (wide_one : wide_some p pairs ≡ true). h.1.0 (wide_flag p q legal wide_one)) (λ (lent_one : some_lent p lent pairs ≡ true). h.1.1.1 lent_one) (memory_either p lent pairs e))
          (among_firsts w t.store xs pairs cs firsts))).by
          made_stores.after x.values x.memory free_stores free_env (stand_first w.procedures g made_env.pieces body_pieces stand_3) (λ h. omega arith) x.is x.reached in
          body_goes t cells cs m0 bound y.values y.memory refl is le entered y.is.0.0.beyond (cells_long cells is) y.is.0.0.many y.is.0.0.given y.is.0.1.1.0 firsts y.is.1 y.reached

      -- behind the entry
      opening_goes : (s : At Objects) (m0 : List Area) (cells : List Cell) (bound : ℕ) → bound ≤ top → Entered s.store m0 → received q.formals hs ≡ Some cells → Came_to w bound 1 s.turns s.out (runs_at w (above l k s.store) (position (at_entry words)) (first_values pr xs) m0 s.store) free_entry
          → Goes w ((spend_all (zeroed p q) >>= λ (x : Unit {0}). rest_of_call (cells ++ own_zeros)) s) (Back w l def c f s.store most free)
      opening_goes s m0 cells bound le entered is at =
          let long = words_length w l s.store q.formals hs xs entered.words in
          let u = above l k s.store in
          let wide = wide_in p w.layout (pairs_of q) in
          let covers = covers_own s.store m0 entered.held in
          let by = zeroed_by p w.layout w.packed good right.laid q legal in
          let e = zeroed_is w l g hs xs (frame_at l c f) in
          let a = (words_opens s m0 bound long).by (at_entry words) (first_values pr xs) m0 free_entry free_words stand_words (λ h. omega arith) (refl, ((λ i lt. first_words i long lt), refl)) at in
          then_goes w l (spend_all (zeroed p q)) (λ (x : Unit {0}). rest_of_call (cells ++ own_zeros)) s
          (zeroing_goes w u m0 l.local k.bytes refl few_bytes covers bound (zeroed p q) by.words (zeroed_bytes p w.layout q) made_words.after a.values s mine.bytes a.memory free_words free_zeros flag (e ∙ by.whole) by.some (let many = by.many in omega (arith, many, e)) (omega (arith, e)) (bytes_are w l g hs xs (frame_at l c f))
          (λ none. e ∙ none_zeroed p w.layout q legal none) (λ h. let e = room_is h in let z = has_points h in omega (arith, e, z))
          (stand_first w.procedures g made_zeros.pieces (made_stores.pieces ++ (made_env.pieces ++ body_pieces)) stand_1) (λ h. omega arith) a.reached
          (subst (λ m. Beyond l.local m0 m) (sym a.is.1.1) (record { areas = refl; rises = entered.held.rises; bytes = entered.held.bytes; same = λ x n o. refl })))
          (λ x t z. subst (λ st. Goes w (rest_of_call (cells ++ own_zeros) t) (Back w l def c f st most free)) z.store
          (variables_go t m0 cells made_words.after a.values s (subst (λ st. Entered st m0) (sym z.store) entered) entered.held is (let e = a.is.0 in omega (arith, e, long)) (λ i lt. a.is.1.0 i (omega (arith, lt, long)))
          z.bound (let b = z.less in omega (arith, b, le)) z.values z.memory z.reached z.beyond z.zeros z.same z.more z.made))

      -- what is done behind the test of the argument's cells
      abbrev behind_tests : List Cell → Act (Option Cell)
      behind_tests cells = spend_all (zeroed p q) >>= λ (x : Unit {0}). rest_of_call (cells ++ own_zeros)

      -- from the entry
      tested_goes : (s : At Objects) (m0 : List Area) (cells : List Cell) (bound : ℕ) → bound ≤ top → Entered s.store m0 → received q.formals hs ≡ Some cells → Came_to w bound 0 s.turns s.out (Enters g xs (frame_at l c f ∷ l.callers) (world_of w l m0 s.store)) (λ h. h (Entry g) + free_entry h)
          → Goes w (behind_tests cells s) (Back w l def c f s.store most free)
      tested_goes s m0 cells bound le entered is at =
          opening_goes s m0 cells bound le entered is
          (pass_quiet (system w) (least w.procedures) w.points w.first w.turns 1 free_entry (Entry g) (runs_at w (above l k s.store) (position (at_entry words)) (first_values pr xs) m0 s.store) at refl
          (enter_step m0 s.store s.store) (λ h. omega arith) (omega arith))

  ---- The tests of an entry

  -- no call is left
  full_step : (m : List Area) (t : Objects) → 8192 ≤ length l.sizes → (system w).step (Enters g xs (frame_at l c f ∷ l.callers) (world_of w l m t)) ≡ Traps (Kind 8 g)
  full_step m t ge =
      let none : 8192 - length l.sizes ≡ 0 = omega (arith, ge) in
      ap (λ x. if x.counted && 8192 - length l.sizes == 0 then Traps (Kind 8 g) else (if nat_lt (local_words - sum l.sizes) x.cells then Traps (Kind 9 g) else Moves [] (Runs (first_frame x g xs) (frame_at l c f ∷ l.callers) (taken x (world_of w l m t))))) coded
      ∙ ap (λ n. if not q.is_body && n == 0 then Traps (Kind 8 g) else (if nat_lt (local_words - sum l.sizes) k.cells then Traps (Kind 9 g) else Moves [] (Runs (first_frame pr g xs) (frame_at l c f ∷ l.callers) (taken pr (world_of w l m t))))) none
      ∙ ap (λ b. if not b && 0 == 0 then Traps (Kind 8 g) else (if nat_lt (local_words - sum l.sizes) k.cells then Traps (Kind 9 g) else Moves [] (Runs (first_frame pr g xs) (frame_at l c f ∷ l.callers) (taken pr (world_of w l m t))))) counted

  -- too few cells are left
  short_step : (m : List Area) (t : Objects) → length l.sizes < 8192 → sum l.sizes ≤ local_words → local_words < sum l.sizes + k.cells → (system w).step (Enters g xs (frame_at l c f ∷ l.callers) (world_of w l m t)) ≡ Traps (Kind 9 g)
  short_step m t lt fits more =
      let some : (8192 - length l.sizes == 0) ≡ false = ne_eqb (8192 - length l.sizes) 0 (λ e. absurd (omega (arith, e, lt))) in
      let few : nat_lt (local_words - sum l.sizes) k.cells ≡ true = short (local_words - sum l.sizes) k.cells (omega (arith, more, fits)) in
      ap (λ x. if x.counted && 8192 - length l.sizes == 0 then Traps (Kind 8 g) else (if nat_lt (local_words - sum l.sizes) x.cells then Traps (Kind 9 g) else Moves [] (Runs (first_frame x g xs) (frame_at l c f ∷ l.callers) (taken x (world_of w l m t))))) coded
      ∙ ap (λ b. if not q.is_body && b then Traps (Kind 8 g) else (if nat_lt (local_words - sum l.sizes) k.cells then Traps (Kind 9 g) else Moves [] (Runs (first_frame pr g xs) (frame_at l c f ∷ l.callers) (taken pr (world_of w l m t))))) some
      ∙ ap (λ b. if b then Traps (Kind 8 g) else (if nat_lt (local_words - sum l.sizes) k.cells then Traps (Kind 9 g) else Moves [] (Runs (first_frame pr g xs) (frame_at l c f ∷ l.callers) (taken pr (world_of w l m t))))) (and_false (not q.is_body))
      ∙ ap (λ b. if b then Traps (Kind 9 g) else Moves [] (Runs (first_frame pr g xs) (frame_at l c f ∷ l.callers) (taken pr (world_of w l m t)))) few
    where
      short : (a b : ℕ) → a < b → nat_lt a b ≡ true
      short a b lt = grind (arith, nat_tests)

      and_false : (b : Bool) → (b && false) ≡ false
      and_false true = refl
      and_false false = refl

  module _ (fuel : ℕ) (calls : Calls) (top : ℕ) (le_top : top ≤ most) (le_fuel : top ≤ fuel) (serves : (s : Objects) (cs : List Cell) (m : List Area) → Entered s m → sum l.sizes + k.cells ≤ local_words → Serves w (above l k (with_frame cs s)) fuel calls) where
    abbrev pub full_room : (Point → ℕ) → ℕ
    full_room h = whole_weight p w.layout g q h + shared h

    -- what a call does behind its first turn, where its cells are known
    abbrev behind : List Cell → Act (Option Cell)
    behind cells = spend_all (zeroed p q) >>= λ (x : Unit {0}). within (cells ++ replicate (cells_of_all p.types q.locals) (Bits 0)) (λ frame. effects_of p calls (record { procedure = g; frame = frame; arguments = hs }) fuel q.body >>= λ _. answer p calls (record { procedure = g; frame = frame; arguments = hs }) q.answer >>= λ r. spend >>= λ _. give r)

    abbrev cell_test : List Cell → List (List Cell) → Act (Option Cell)
    cell_test cells frames = unless g 9 (nat_le (cells_in frames + (length cells + cells_of_all p.types q.locals)) 1048576) >>= λ (x : Unit {0}). behind cells

    abbrev call_test : List Cell → Act (Option Cell)
    call_test cells = look (λ s. s.frames) >>= λ frames. unless g 8 (nat_lt (length frames) 8192) >>= λ (x : Unit {0}). cell_test cells frames

    sizes_sum : (all : List (List Cell)) → cells_in all ≡ sum (map length all)
    sizes_sum all = sym (sum-map (λ (cs : List Cell). length cs) all)

    module _ (s : At Objects) (m0 : List Area) (bound : ℕ) (le : bound ≤ top) (entered : Entered s.store m0) (at : Came_to w bound 0 s.turns s.out (Enters g xs (frame_at l c f ∷ l.callers) (world_of w l m0 s.store)) full_room) where
      abbrev Q : Option Cell → At Objects → Type 0
      Q = Back w l def c f s.store most free

      many_calls : length s.store.frames ≡ length l.sizes
      many_calls = sym (many_lengths s.store.frames) ∙ ap length entered.held.frames

      many_cells : (cells : List Cell) → received q.formals hs ≡ Some cells → cells_in s.store.frames + (length cells + cells_of_all p.types q.locals) ≡ sum l.sizes + k.cells
      many_cells cells is = let e = sizes_sum s.store.frames in let f = ap sum entered.held.frames in let h = own_cells p q hs cells is legal in omega (arith, e, f, h)

      by_cells : (cells : List Cell) → received q.formals hs ≡ Some cells → length l.sizes < 8192 → (b : Bool) → nat_le (cells_in s.store.frames + (length cells + cells_of_all p.types q.locals)) 1048576 ≡ b → Goes w (after (unless g 9 b s) (λ x. behind cells)) Q
      by_cells cells is lt false e =
          let over : local_words < sum l.sizes + k.cells = let same = many_cells cells is in let gt = more_than (cells_in s.store.frames + (length cells + cells_of_all p.types q.locals)) 1048576 e in omega (arith, same, gt) in
          comes_trap HasSense (system w) (least w.procedures) w.points w.first w.turns same_trap (Trapping 9 g) (Kind 9 g) at (short_step m0 s.store lt entered.held.room.local_few over) (refl, refl) (λ h. omega arith)
        where
          more_than : (a b : ℕ) → nat_le a b ≡ false → b < a
          more_than a b h = grind (arith, nat_tests)
      by_cells cells is lt true e =
          let fits : sum l.sizes + k.cells ≤ local_words = let same = many_cells cells is in let ge = at_most (cells_in s.store.frames + (length cells + cells_of_all p.types q.locals)) 1048576 e in omega (arith, same, ge) in
          tested_goes lt fits entered.held.room.local_ends fuel calls top le_top le_fuel (λ s cs m en. serves s cs m en fits) s m0 cells bound le entered is
          (loosen (system w) (least w.procedures) w.points w.first w.turns bound 0 (λ h. h (Entry g) + free_entry h) at (omega arith) (omega arith) (λ h. let e = room_is h in omega (arith, e)))
        where
          at_most : (a b : ℕ) → nat_le a b ≡ true → a ≤ b
          at_most a b h = grind (arith, nat_tests)

      by_calls : (cells : List Cell) → received q.formals hs ≡ Some cells → (b : Bool) → nat_lt (length s.store.frames) 8192 ≡ b → Goes w (after (unless g 8 b s) (λ x. cell_test cells s.store.frames)) Q
      by_calls cells is false e =
          let full : 8192 ≤ length l.sizes = let same = many_calls in let ge = no_less (length s.store.frames) 8192 e in omega (arith, same, ge) in
          comes_trap HasSense (system w) (least w.procedures) w.points w.first w.turns same_trap (Trapping 8 g) (Kind 8 g) at (full_step m0 s.store full) (refl, refl) (λ h. omega arith)
        where
          no_less : (a b : ℕ) → nat_lt a b ≡ false → b ≤ a
          no_less a b h = grind (arith, nat_tests)
      by_calls cells is true e =
          by_cells cells is (let same = many_calls in let lt = less (length s.store.frames) 8192 e in omega (arith, same, lt)) (nat_le (cells_in s.store.frames + (length cells + cells_of_all p.types q.locals)) 1048576) refl
        where
          less : (a b : ℕ) → nat_lt a b ≡ true → a < b
          less a b h = grind (arith, nat_tests)

      by_received : (o : Option (List Cell)) → received q.formals hs ≡ o → Goes w (after (given o s) call_test) Q
      by_received None e = goes_senseless w l (after (given None s) call_test) s.out refl
      by_received (Some cells) e = by_calls cells e (nat_lt (length s.store.frames) 8192) refl

      pub invoked_goes : Goes w (invoked p calls fuel g hs s) Q
      invoked_goes = by_received (received q.formals hs) refl
