-- A call's return: its turn, and the caller behind it.
use Rattle.std.proofs.Common.{◌≡◌, ℕ, ◌+◌, ◌^◌, ◌<◌, ◌≤◌, List, [], ◌∷◌, ◌++◌, length, drop, true, false, not, refl, ap, ◌∙◌, subst, arith, Option, Some, None, length-append}
use Rattle.std.specs.Prelude.{◌-◌, is_some, sum, option_map}
use Rattle.run_laws.specs.Runs.{Moves, weigh}
use Rattle.run_laws.specs.Turns.{give, spend, ◌>>=◌}
use Rattle.run_laws.specs.Turns.{State as At}
use Rattle.run_laws.proofs.Reached.{pass_quiet, loosen}
use Rattle.run_laws.proofs.Comes.{comes_spend}
use Rattle.a64_memory.specs.Memory.{Area}
use Rattle.a64_memory.specs.Areas.{local_words}
use Rattle.wrapping_numbers.specs.Numbers.{sub64}
use Rattle.block_runs.specs.declared.end.End.TheVariants.{Return}
use Rattle.block_runs.specs.Blocks.{Operation, block_of, procedure_of}
use Rattle.block_runs.specs.States.{Frame, World, Runs, Point, In}
use Rattle.block_runs.specs.Steps.{behind, one_if, freed, goes_back, resumed, answered}
use Rattle.block_runs.specs.Points.{least}
use Rattle.ob_types.specs.Forms.{types_fine}
use Rattle.ob_types.specs.Layout.{cells_of_all}
use Rattle.ob_types.specs.Meaning.{locals_of}
use Rattle.ob_types.specs.Meaning.{procedure_of as declared_of}
use Rattle.ob_types.specs.Sense.{HasSense}
use Rattle.ob_types.specs.Store.{Cell, Frames, Handed, cell_of}
use Rattle.ob_types.specs.Trees.{Scalar}
use Rattle.object_nodes.proofs.Designators.{trees_push}
use Rattle.ob_types.specs.Store.{Store as Objects}
use Rattle.ob_types.proofs.Tests.{no}
use Rattle.ssa_core.specs.Procedures.{procedure}
use Rattle.ssa_lowered.specs.Lowered.{here_of, proc_of}
use Rattle.lowered_runs.specs.Words.{same_trap, Whole, Level, Right, Apart, ground, active, ValueIs, Held, Later}
use Rattle.lowered_runs.proofs.Ready.{Position, system, world_of, frame_at, runs_at, Goes, Ready}
use Rattle.lowered_runs.proofs.Forks.{Ends_at, end_step, end_pays}
use Rattle.held_stores.specs.Changes.{with_frame, without_frame}
use Rattle.held_stores.proofs.Calls.{many_lengths, other_slot, later_pop, held_pop}
use Rattle.lowered_runs.proofs.Frames.{Activation, call_of, above}
use Rattle.lowered_runs.proofs.Calls.{Stacked, ResultIs, Back, AnswerIs}
use Rattle.lowered_runs.proofs.Activations.{activation, bytes_are, laid}
use Rattle.held_stores.proofs.Calls.{sum_append}
use Rattle.held_stores.proofs.Calls.{take_cell}
use Rattle.held_stores.proofs.Calls.{pushed_cell}

-- the number that a call gives, and that one is given where it is wanted
abbrev pub number_back : Option ℕ → Option ℕ → ℕ
number_back None o = 0
number_back (Some v) None = 0
number_back (Some v) (Some x) = x

abbrev pub IsGiven : Option ℕ → Option ℕ → Type 0
IsGiven None o = Unit {0}
IsGiven (Some v) o = is_some o ≡ true

answered_is : (f : Frame) (fs : List Frame) (x : World) (def o : Option ℕ) → IsGiven def o → answered f fs x def o ≡ Moves [] (Runs (behind f def (number_back def o)) fs x)
answered_is f fs x None o given = refl
answered_is f fs x (Some v) None given = no given
answered_is f fs x (Some v) (Some y) given = refl

given_values : (def o : Option ℕ) (f : ℕ → ℕ) → IsGiven def o → IsGiven def (option_map f o)
given_values None o f h = tt
given_values (Some v) None f h = no h
given_values (Some v) (Some i) f h = refl

result_is : (w : Whole) (l : Level) (def : Option ℕ) (a : Option Cell) (o : Option ℕ) (n : ℕ) (f : ℕ → ℕ) (s : Objects) → IsGiven def o → AnswerIs w l a o n f s → ResultIs w def a s (number_back def (option_map f o))
result_is w l None a o n f s given is = tt
result_is w l (Some v) a None n f s given is = no given
result_is w l (Some v) None (Some i) n f s given is = absurd is
result_is w l (Some v) (Some c) (Some i) n f s given is = is.1

result_frames : (w : Whole) (def : Option ℕ) (a : Option Cell) (s t : Objects) (x : ℕ) → s.tags ≡ t.tags → ResultIs w def a s x → ResultIs w def a t x
result_frames w None a s t x e h = tt
result_frames w (Some v) None s t x e h = h
result_frames w (Some v) (Some c) s t x e h = subst (λ k. ValueIs w k c x) e h

module _ (w : Whole) (right : Right w) (good : types_fine w.program.types ≡ true) (l : Level) (apart : Apart w l) (stacked : Stacked l) (g : ℕ) (hs : List Handed) (xs : List ℕ) (def : Option ℕ) (most : ℕ) (c : Position) (f : ℕ → ℕ) (free : (Point → ℕ) → ℕ) (op : Operation) (rest : List Operation)
    (stands : drop c.op (block_of (procedure_of w.procedures l.proc) c.block).ops ≡ op ∷ rest) (def_is : op.def ≡ def) (within : (h : Point → ℕ) → free h ≤ weigh h w.points)
    (coded : procedure_of w.procedures g ≡ procedure (proc_of w.program w.layout g (declared_of w.program g))) (counted : (declared_of w.program g).is_body ≡ false)
    (few_calls : length l.sizes < 8192) (few_cells : sum l.sizes + cells_of_all w.program.types (locals_of (declared_of w.program g)) ≤ local_words) (small : l.local < 2 ^ 62) where
  abbrev pub caller : Frame
  caller = frame_at l c f

  abbrev pub k : Activation
  k = activation w l g hs xs caller

  abbrev pub n : ℕ
  n = length l.types

  module _ (s0 : Objects) where
    abbrev pub u : Level
    u = above l k s0

    world_with : List Area → Objects → (calls cells local : ℕ) → World
    world_with m t calls cells local = record (world_of w l m t) { calls = calls; cells = cells; local = local }

    -- what a call took is given back
    freed_is : (m : List Area) (t : Objects) → freed (procedure_of w.procedures g) (world_of w u m t) ≡ world_of w l m (without_frame n t)
    unfolding world_with
    freed_is m t =
        let more = length-append l.sizes (k.cells ∷ []) in
        let total = sum_append l.sizes k.cells in
        let bytes = bytes_are w l g hs xs caller in
        let one : one_if (not (declared_of w.program g).is_body) ≡ 1 = ap (λ b. one_if (not b)) counted in
        let bytes_few : k.bytes < 2 ^ 62 = bytes_small in
        ap (λ p. freed p (world_of w u m t)) coded
        ∙ ap (λ x. world_with m t x (local_words - sum (l.sizes ++ k.cells ∷ []) + k.cells) (sub64 (l.local + k.bytes) (here_of w.program w.layout g (declared_of w.program g)).bytes)) (omega (arith, more, few_calls, one))
        ∙ ap (λ x. world_with m t (8192 - length l.sizes) x (sub64 (l.local + k.bytes) (here_of w.program w.layout g (declared_of w.program g)).bytes)) (omega (arith, total, few_cells))
        ∙ ap (λ x. world_with m t (8192 - length l.sizes) (local_words - sum l.sizes) x) (omega (arith, bytes, small, bytes_few))
      where
        bytes_small : k.bytes < 2 ^ 62
        bytes_small = let fit = (laid w l g hs xs caller good right.laid).fits in omega (arith, fit, few_cells)

    return_step : (at : Position) (values : ℕ → ℕ) (m : List Area) (t : Objects) (o : Option ℕ) → Ends_at w u at.block at.op (Return o) → IsGiven def o
        → (system w).step (runs_at w u at values m t) ≡ Moves [] (Runs (behind caller def (number_back def (option_map values o))) l.callers (world_of w l m (without_frame n t)))
    return_step at values m t o ends given =
        end_step w u at values m t (Return o) ends
        ∙ ap (λ x. goes_back w.procedures (caller ∷ l.callers) x (option_map values o)) (freed_is m t)
        ∙ ap (λ ops. resumed ops caller l.callers (world_of w l m (without_frame n t)) (option_map values o)) stands
        ∙ ap (λ d. answered caller l.callers (world_of w l m (without_frame n t)) d (option_map values o)) def_is
        ∙ answered_is caller l.callers (world_of w l m (without_frame n t)) def (option_map values o) (given_values def o values given)

    -- from behind the result to behind the call
    pub returns : (s : Objects) (cs : List Cell) (m0 : List Area) (bound : ℕ) (at : Position) (values : ℕ → ℕ) (o : Option ℕ) (v : At Objects) (a : Option Cell) → s0 ≡ with_frame cs s → Held w l s m0 → bound ≤ most → Ends_at w u at.block at.op (Return o) → IsGiven def o
        → Ready w u bound 1 at values v (λ h. h (In g at.block at.op)) → AnswerIs w u a o at.values values v.store
        → Goes w ((spend >>= λ (x : Unit {0}). give a) v) (λ r t. Back w l def c f s most free r (record t { store = without_frame n t.store }))
    returns s cs m0 bound at values o v a first held0 le ends given r is =
        let x = number_back def (option_map values o) in
        let later0 = subst (λ z. Later w u z v.store) first r.since in
        let later = later_pop (ground w) (active l) (call_of k) stacked.depth l.frame s v.store cs held0.frames (let d = stacked.deep in let e = stacked.depth in omega (arith, d, e)) later0 in
        comes_spend HasSense (system w) (least w.procedures) w.points w.first w.turns same_trap v (λ u. give a) free
        (pass_quiet (system w) (least w.procedures) w.points w.first w.turns 2 (λ h. 0) (In g at.block at.op) (Runs (behind caller def x) l.callers (world_of w l r.memory (without_frame n v.store))) r.reached refl
        (return_step at values r.memory v.store o ends given) (λ h. omega arith) (let e = end_pays w u at.block at.op (Return o) ends in omega (arith, e)))
        within
        (λ j turns reached. record {
          by = record {
            memory = r.memory;
            x = x;
            reached = loosen (system w) (least w.procedures) w.points w.first w.turns most 1 free reached (let b = r.reached.bound in omega (arith, b, le, turns)) (omega arith) (λ h. omega arith);
            held = held_pop (ground w) (active l) (call_of k) stacked.depth s v.store m0 r.memory held0 later0.next r.held;
            later = later;
            still = λ d lt reg. still_pop s cs v.store d held0 later0 lt reg;
            is = result_frames w def a v.store (without_frame n v.store) x refl (result_is w u def a o at.values values v.store given is);
          };
        })
      where
        still_pop : (s : Objects) (cs : List Cell) (t : Objects) (d : ℕ) {m : List Area} → Held w l s m → Later w u (with_frame cs s) t → d < l.count → l.in_register d ≡ true → cell_of (without_frame n t).frames l.frame (l.cell d) ≡ cell_of s.frames l.frame (l.cell d)
        still_pop s cs t d held later lt reg =
            let own = apart.scalars d lt reg in
            let there = stacked.own d lt in let depth = stacked.depth in
            let many = ap length held.frames in let count = many_lengths s.frames in
            let below : l.frame < length l.types = omega (arith, there, depth) in
            take_cell n t.frames l.frame (l.cell d) below
            ∙ later.still l.frame d (l.cell d) 0 own.0 below (trees_push w.program w.packed l.types k.types (with_frame cs s).tags Frames l.frame d (l.cell d) 0 (Scalar own.0) own.1)
            (other_slot (ground w) (active l) (call_of k) depth l.frame d (λ e. absurd (omega (arith, e, below))) ∙ apart.registers d lt reg)
            ∙ pushed_cell s.frames cs l.frame (l.cell d) (omega (arith, there, many, count))
