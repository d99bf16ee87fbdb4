-- The number of a flow's first trace shows in the numbers of its results alone.
use Rattle.std.proofs.Common.{◌≡◌, ℕ, zero, suc, ◌+◌, cond, List, [], ◌∷◌, ◌++◌, map, length, Option, Some, None, refl, sym, ap, ap₂, ◌∙◌, arith}
use Rattle.std.proofs.Math.Path.{fun_ext}
use Rattle.std.specs.Prelude.{All, flat_map, slice_index_or}
use Rattle.run_laws.specs.Layers.{places_from}
use Rattle.block_runs.specs.Blocks.{CodeBlock}
use Rattle.block_runs.specs.declared.end.End.{End}
use Rattle.block_runs.specs.declared.end.End.TheVariants.{Jump, Branch, Nonzero, Return, Trap}
use Rattle.lir_core.specs.declared.flow.Flow.{Flow}
use Rattle.lir_core.specs.declared.flow.Trace.{Trace}
use Rattle.lir_core.specs.declared.places.Places.{Places}
use Rattle.lir_core.specs.declared.places.Line.{Line}
use Rattle.lir_core.specs.declared.places.TraceOut.{TraceOut}
use Rattle.lir_core.specs.Flows.{code_nodes, node_at}
use Rattle.lir_core.specs.Sound.{IsSound, no_places}
use Rattle.lir_core.specs.Spots.{argument_of}
use Rattle.walked_results.specs.Walked.{IsWalked}
use Rattle.trace_build.specs.Cuts.{lists_of, all_nodes}
use Rattle.trace_build.specs.Parents.{trace_at}
use Rattle.trace_needs.specs.Needs.{first_of}
use Rattle.linear_scan.specs.Linear.{Case, Hint}
use Rattle.alloc_choice.specs.declared.choice.Choice.{Choice}
use Rattle.alloc_choice.specs.declared.choice.Policy.{Policy}
use Rattle.alloc_choice.specs.declared.choice.Used.{Used}
use Rattle.alloc_choice.specs.declared.choice.Used.TheVariants.{Plain as ByPlain, Trivial as ByTrivial, Linear as ByLinear, BottomUp as ByBottomUp}
use Rattle.alloc_choice.specs.Choice.{used}
use Rattle.alloc_choice.specs.Results.{case_with, hint_for, hint_from, out_at, parent_of, result_at, result_by, results_to}
use Rattle.trace_work.proofs.Ready.{length-results_to}
use Rattle.parallel_move.specs.Order.{order_of}
use Rattle.parallel_move.specs.declared.step.Step.{Step}
use Rattle.boundary_resolve.specs.declared.code_line.CodeLine.TheVariants.{Body, Edge, Leave}
use Rattle.boundary_resolve.specs.declared.code_line.CodeLine.TheVariants.{Node as Begins}
use Rattle.boundary_resolve.specs.Moves.{edge_moves, entry_places, entry_argument}
use Rattle.boundary_resolve.specs.Placing.{end_at, entry_steps, is_test, jump_steps, lines_at, lines_in, node_lines, placed_of, places_at, registers_at, registers_in, seat_at, start_at, steps_between, steps_from, steps_of_end, test_steps}
use Rattle.linked_flows.specs.Allocations.{Cut, all_allocated, allocated, copies_of, part_at}
use Rattle.placed_code.specs.Results.{Allocated, Part}
use Rattle.flow_allocation.specs.Allocations.{AllAllocations, IsAllocation}
use Rattle.flow_allocation.specs.Numbered.{all_renumbered, numbered, renumbered, with_number}

---- Results one by one

pub length-numbered : (n : ℕ) (outs : List TraceOut) → length (numbered n outs) ≡ length outs
length-numbered n [] = refl
length-numbered n (o ∷ outs) = ap (λ k. suc k) (length-numbered (suc n) outs)

numbered-push : (n : ℕ) (outs : List TraceOut) (o : TraceOut) → numbered n (outs ++ o ∷ []) ≡ numbered n outs ++ with_number (n + length outs) o ∷ []
numbered-push n [] o = let e : n ≡ n + 0 = omega arith in ap (λ k. with_number k o ∷ []) e
numbered-push n (x ∷ outs) o =
    let e : suc n + length outs ≡ n + suc (length outs) = omega arith in
    ap (λ os. with_number n x ∷ os) (numbered-push (suc n) outs o ∙ ap (λ k. numbered (suc n) outs ++ with_number k o ∷ []) e)

-- what doesn't look at the number of a result is the same of each
module _ {A : Type 0} (part : TraceOut → A) (blind : (n : ℕ) (o : TraceOut) → part (with_number n o) ≡ part o) where
  part_numbered : (n : ℕ) (outs : List TraceOut) (t : ℕ) → part (out_at (numbered n outs) t) ≡ part (out_at outs t)
  part_numbered n [] t = refl
  part_numbered n (o ∷ outs) zero = blind n o
  part_numbered n (o ∷ outs) (suc t) = part_numbered (suc n) outs t

module _ (Holds : TraceOut → Type 0) (blind : (n : ℕ) (o : TraceOut) → Holds o → Holds (with_number n o)) where
  holds_numbered : (n : ℕ) (outs : List TraceOut) (t : ℕ) → Holds (out_at outs t) → Holds (out_at (numbered n outs) t)
  holds_numbered n [] t h = h
  holds_numbered n (o ∷ outs) zero h = blind n o h
  holds_numbered n (o ∷ outs) (suc t) h = holds_numbered (suc n) outs t h

sound_numbered : (k : ℕ) (f : Flow) (t : Trace) (n : ℕ) (o : TraceOut) → IsSound k f t o → IsSound k f t (with_number n o)
sound_numbered k f t n o h = record { counts = h.counts; nodes = h.nodes }

walked_numbered : (k : ℕ) (f : Flow) (t : Trace) (n : ℕ) (o : TraceOut) → IsWalked k f t o → IsWalked k f t (with_number n o)
walked_numbered k f t n o h = record { counts = h.counts; nodes = h.nodes }

---- Results of a flow's traces

result_numbered : (by : Used) (x : Case) (m n : ℕ) (ns : List ℕ) (hint : Option Hint) → result_by by x n ns hint ≡ with_number n (result_by by x m ns hint)
result_numbered ByPlain x m n ns hint = refl
result_numbered ByTrivial x m n [] hint = refl
result_numbered ByTrivial x m n (k ∷ ns) hint = refl
result_numbered ByLinear x m n [] hint = refl
result_numbered ByLinear x m n (k ∷ ns) hint = refl
result_numbered ByBottomUp x m n ns hint = refl

hint_numbered : (bls : List CodeBlock) (traces : List Trace) (n : ℕ) (outs : List TraceOut) (head parent : Option ℕ) → hint_for bls traces (numbered n outs) head parent ≡ hint_for bls traces outs head parent
hint_numbered bls traces n outs None parent = refl
hint_numbered bls traces n outs (Some head) None = refl
hint_numbered bls traces n outs (Some head) (Some p) = ap (λ ends. hint_from bls (trace_at traces p) (ending ends) head) (part_numbered (λ o. o.ends) (λ k o. refl) n outs p)
  where
    ending : List Places → TraceOut
    ending ends = record { trace = 0; starts = []; ends = ends; lines = []; regs = [] }

results_numbered : (p : Policy) (x : Case) (m n : ℕ) (traces : List Trace) (t : ℕ) → results_to p x n traces t ≡ numbered n (results_to p x m traces t)
results_numbered p x m n traces zero = refl
results_numbered p x m n traces (suc t) =
    let outs = results_to p x m traces t in
    let ns = (trace_at traces t).nodes in
    let by = used p x.flow.nodes ns in
    let bls = code_nodes x.flow.nodes in
    let hint : Option Hint = hint_for bls traces outs (first_of ns) (parent_of bls traces t) in
    let long : length outs ≡ t = length-results_to p x m traces t in
    let number : n + t ≡ n + length outs = omega (arith, long) in
    ap (λ os. os ++ result_at p x n traces os t ∷ []) (results_numbered p x m n traces t)
    ∙ ap (λ h. numbered n outs ++ result_by by x (n + t) ns h ∷ []) (hint_numbered bls traces n outs (first_of ns) (parent_of bls traces t))
    ∙ ap (λ o. numbered n outs ++ o ∷ []) (result_numbered by x (m + t) (n + t) ns hint)
    ∙ ap (λ k. numbered n outs ++ with_number k (result_by by x (m + t) ns hint) ∷ []) number
    ∙ sym (numbered-push n outs (result_at p x m traces outs t))

-- a flow with final results has them also by other numbers
pub renumbered_allocation : (choice : Choice) (first n : ℕ) (c : Cut) → IsAllocation choice first c → IsAllocation choice n (renumbered n c)
renumbered_allocation choice first n c a = record {
  rows = a.rows;
  live = a.live;
  traces = a.traces;
  results = ap (numbered n) a.results ∙ sym (results_numbered choice.policy (case_with c.flow a.rows choice.regs) first n c.traces (length c.traces));
  sound = record {
    valid = a.sound.valid;
    few = a.sound.few;
    partition = a.sound.partition;
    each = length-numbered n c.outs ∙ a.sound.each;
    sound = λ t lt. holds_numbered (IsSound choice.regs c.flow (trace_at c.traces t)) (sound_numbered choice.regs c.flow (trace_at c.traces t)) n c.outs t (a.sound.sound t lt);
  };
  walked = λ t lt. holds_numbered (IsWalked choice.regs c.flow (trace_at c.traces t)) (walked_numbered choice.regs c.flow (trace_at c.traces t)) n c.outs t (a.walked t lt);
  paths = a.paths;
}

-- flows with final results, each by itself, have them also one behind the other
pub all_renumbered_allocations : (choice : Choice) (n : ℕ) (cs : List Cut) → All (IsAllocation choice 0) cs → AllAllocations choice n (all_renumbered n cs)
all_renumbered_allocations choice n [] each = tt
all_renumbered_allocations choice n (c ∷ cs) each = (
  renumbered_allocation choice 0 n c (each 0 c (omega arith)),
  all_renumbered_allocations choice (n + length c.traces) cs (λ k x lt. each (suc k) x (omega (arith, lt))),
)

---- Lines and steps

module _ (f : Flow) (traces : List Trace) (n : ℕ) (outs : List TraceOut) where
  places_numbered : (which : TraceOut → List Places) → ((k : ℕ) (o : TraceOut) → which (with_number k o) ≡ which o) → (s : _) → places_at which (numbered n outs) s ≡ places_at which outs s
  places_numbered which blind None = refl
  places_numbered which blind (Some s) = ap (λ qs. slice_index_or qs s.at no_places) (part_numbered which blind n outs s.trace)

  lines_numbered : (s : _) → lines_in (numbered n outs) s ≡ lines_in outs s
  lines_numbered None = refl
  lines_numbered (Some s) = ap (λ ls. slice_index_or ls s.at []) (part_numbered (λ o. o.lines) (λ k o. refl) n outs s.trace)

  registers_numbered : (s : _) → registers_in (numbered n outs) s ≡ registers_in outs s
  registers_numbered None = refl
  registers_numbered (Some s) = ap (λ rs. slice_index_or rs s.at []) (part_numbered (λ o. o.regs) (λ k o. refl) n outs s.trace)

  start_numbered : (k : ℕ) → start_at traces (numbered n outs) k ≡ start_at traces outs k
  start_numbered k = places_numbered (λ o. o.starts) (λ m o. refl) (seat_at traces k)

  end_numbered : (k : ℕ) → end_at traces (numbered n outs) k ≡ end_at traces outs k
  end_numbered k = places_numbered (λ o. o.ends) (λ m o. refl) (seat_at traces k)

  between_numbered : (from to : ℕ) (argument : ℕ → ℕ) → steps_between traces (numbered n outs) from to argument ≡ steps_between traces outs from to argument
  between_numbered from to argument = ap₂ (λ before behind. order_of (edge_moves before behind argument)) (end_numbered from) (start_numbered to)

  of_end_numbered : (k : ℕ) (end : End) → steps_of_end f traces (numbered n outs) k end ≡ steps_of_end f traces outs k end
  of_end_numbered k (Jump to args) = between_numbered k to (argument_of (node_at f.nodes to).params args)
  of_end_numbered k (Branch kind a b one other) = refl
  of_end_numbered k (Nonzero a one other) = refl
  of_end_numbered k (Return a) = refl
  of_end_numbered k (Trap kind) = refl

  jump_numbered : (k : ℕ) → jump_steps f traces (numbered n outs) k ≡ jump_steps f traces outs k
  jump_numbered k = of_end_numbered k (node_at f.nodes k).end

  from_numbered : (ps : List ℕ) (k : ℕ) → steps_from f traces (numbered n outs) ps k ≡ steps_from f traces outs ps k
  from_numbered [] k = refl
  from_numbered (p ∷ ps) k = ap (λ steps. cond (is_test (node_at f.nodes p).end) steps []) (between_numbered p k (λ v. v))

  test_numbered : (k : ℕ) → test_steps f traces (numbered n outs) k ≡ test_steps f traces outs k
  test_numbered k = from_numbered (node_at f.nodes k).preds k

  entry_numbered : entry_steps f traces (numbered n outs) ≡ entry_steps f traces outs
  entry_numbered = let params = (node_at f.nodes 0).params in ap (λ behind. order_of (edge_moves (entry_places (length params)) behind (entry_argument params))) (start_numbered 0)

  node_numbered : (k : ℕ) → node_lines f traces (numbered n outs) k ≡ node_lines f traces outs k
  node_numbered k =
      ap₂ (λ tests lines. Begins k ∷ map Edge tests ++ map Body lines ++ map Edge (jump_steps f traces (numbered n outs) k) ++ Leave k ∷ []) (test_numbered k) (lines_numbered (seat_at traces k))
      ∙ ap (λ jumps. Begins k ∷ map Edge (test_steps f traces outs k) ++ map Body (lines_at traces outs k) ++ map Edge jumps ++ Leave k ∷ []) (jump_numbered k)

  -- the lines of code are the same
  pub placed_numbered : placed_of f traces (numbered n outs) ≡ placed_of f traces outs
  placed_numbered = ap₂ (λ steps lines. map Edge steps ++ flat_map lines (all_nodes (lists_of traces))) entry_numbered (fun_ext node_numbered)

---- As results for flows

module _ (n : ℕ) (c : Cut) where
  part_renumbered : (k : ℕ) → part_at (renumbered n c) k ≡ part_at c k
  part_renumbered k =
      ap₂ (λ start end. part start end (lines_at c.traces (numbered n c.outs) k) (registers_at c.traces (numbered n c.outs) k) (test_steps c.flow c.traces (numbered n c.outs) k) (jump_steps c.flow c.traces (numbered n c.outs) k)) (start_numbered c.flow c.traces n c.outs k) (end_numbered c.flow c.traces n c.outs k)
      ∙ ap₂ (λ lines named. part (start_at c.traces c.outs k) (end_at c.traces c.outs k) lines named (test_steps c.flow c.traces (numbered n c.outs) k) (jump_steps c.flow c.traces (numbered n c.outs) k)) (lines_numbered c.flow c.traces n c.outs (seat_at c.traces k)) (registers_numbered c.flow c.traces n c.outs (seat_at c.traces k))
      ∙ ap₂ (λ tests jumps. part (start_at c.traces c.outs k) (end_at c.traces c.outs k) (lines_at c.traces c.outs k) (registers_at c.traces c.outs k) tests jumps) (test_numbered c.flow c.traces n c.outs k) (jump_numbered c.flow c.traces n c.outs k)
    where
      part : Places → Places → List Line → List ℕ → List Step → List Step → Part
      part start end lines named tests jumps = record { start = start; end = end; lines = lines; named = named; into = copies_of tests; leaving = copies_of jumps }

  pub allocated_renumbered : allocated (renumbered n c) ≡ allocated c
  allocated_renumbered = ap₂ (λ steps part. whole steps part) (entry_numbered c.flow c.traces n c.outs) (fun_ext part_renumbered)
    where
      whole : List Step → (ℕ → Part) → Allocated
      whole steps part = record { flow = c.flow; first = copies_of steps; parts = map part (places_from 0 (length c.flow.nodes)); order = all_nodes (lists_of c.traces) }

pub all_allocated_renumbered : (n : ℕ) (cs : List Cut) → all_allocated (all_renumbered n cs) ≡ all_allocated cs
all_allocated_renumbered n [] = refl
all_allocated_renumbered n (c ∷ cs) = ap₂ (λ x xs. x ∷ xs) (allocated_renumbered n c) (all_allocated_renumbered (n + length c.traces) cs)
