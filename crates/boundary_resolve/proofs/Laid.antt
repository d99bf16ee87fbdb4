-- A procedure's lines, as code lays them.
use Rattle.std.proofs.Common.{◌≡◌, ℕ, zero, suc, ◌+◌, ◌<◌, ◌≤◌, Bool, true, false, cond, List, [], ◌∷◌, ◌++◌, map, filter, length, take, drop, get_or, Some, None, refl, sym, ap, ap₂, ◌∙◌, subst, arith}
use Rattle.std.specs.Prelude.{flat_map, slice_get}
use Rattle.std.proofs.lemmas.List.{drop_more, drop_all, append_assoc, append-nil, length-map, map-append}
use Rattle.run_laws.specs.Layers.{places_from}
use Rattle.block_runs.specs.Live.{has}
use Rattle.lir_core.specs.declared.flow.Flow.{Flow}
use Rattle.lir_core.specs.declared.flow.Trace.{Trace}
use Rattle.lir_core.specs.declared.places.Move.{Move}
use Rattle.lir_core.specs.declared.places.Places.{Places}
use Rattle.lir_core.specs.declared.places.TraceOut.{TraceOut}
use Rattle.lir_core.specs.Spots.{IsRising, argument_of}
use Rattle.lir_core.specs.Lines.{AreDistinct}
use Rattle.lir_core.specs.Flows.{node_at}
use Rattle.global_live.proofs.Lists.{not_in_front, not_in_back}
use Rattle.trace_build.specs.Cuts.{lists_of, all_nodes}
use Rattle.parallel_move.specs.declared.step.Step.{Step}
use Rattle.parallel_move.specs.Order.{is_moving, pending, copied, ordered, order_of}
use Rattle.parallel_move.proofs.Linking.{apart_filter}
use Rattle.boundary_resolve.specs.declared.code_line.CodeLine.{CodeLine}
use Rattle.boundary_resolve.specs.declared.code_line.CodeLine.TheVariants.{Edge}
use Rattle.boundary_resolve.specs.Moves.{edge_moves, entry_places, FewRegs}
use Rattle.boundary_resolve.specs.Placing.{seats_from, seat_of, start_at, end_at, places_at, steps_between, is_test, steps_from, test_steps}
use Rattle.boundary_resolve.specs.Edges.{AreSound}
use Rattle.boundary_resolve.specs.Codes.{AreRows}
use Rattle.boundary_resolve.proofs.Crossing.{moves_distinct}
use Rattle.boundary_resolve.proofs.Between.{not_seated, length-places, params_are, sound_in}

pub edge_pushed : (from to : Places) (params args : List ℕ) (moves slice : List Move) (steps steps' : List Step) (old new : List CodeLine) → IsRising to.homed → moves ≡ edge_moves from to (argument_of params args) → slice ≡ moves → (AreDistinct slice → steps ≡ order_of slice) → steps' ≡ steps → new ≡ old ++ map Edge steps' → new ≡ old ++ map Edge (order_of (edge_moves from to (argument_of params args)))
edge_pushed from to params args moves slice steps steps' old new rising is same ordered again more =
    let all : slice ≡ edge_moves from to (argument_of params args) = same ∙ is in
    let d : AreDistinct slice = subst AreDistinct (sym all) (moves_distinct from to (argument_of params args) rising) in
    more ∙ ap (λ (x : List Step). old ++ map Edge x) (again ∙ ordered d ∙ ap order_of all)

moving_twice : (ms : List Move) → filter is_moving (filter is_moving ms) ≡ filter is_moving ms
moving_twice [] = refl
moving_twice (m ∷ ms) = at_test (is_moving m) refl (moving_twice ms)
  where
    at_test : (b : Bool) → is_moving m ≡ b → filter is_moving (filter is_moving ms) ≡ filter is_moving ms → filter is_moving (cond b (m ∷ filter is_moving ms) (filter is_moving ms)) ≡ cond b (m ∷ filter is_moving ms) (filter is_moving ms)
    at_test true e on = ap (λ c. cond c (m ∷ filter is_moving (filter is_moving ms)) (filter is_moving (filter is_moving ms))) e ∙ ap (λ x. m ∷ x) on
    at_test false e on = on

-- the moves of an edge that move have its steps
pub edge_ordered : (from to : Places) (params args : List ℕ) (moves : List Move) → IsRising to.homed → moves ≡ filter is_moving (edge_moves from to (argument_of params args)) → AreDistinct moves × (order_of moves ≡ order_of (edge_moves from to (argument_of params args)))
edge_ordered from to params args moves rising is = (
  subst AreDistinct (sym is) (apart_filter (edge_moves from to (argument_of params args)) (moves_distinct from to (argument_of params args) rising)),
  ap order_of is ∙ ap (λ (fs : List Move). ordered (length (map pending fs)) (map pending fs)) (moving_twice (edge_moves from to (argument_of params args))),
)

distinct_behind : (n : ℕ) (ms : List Move) → AreDistinct ms → AreDistinct (drop n ms)
distinct_behind zero ms d = d
distinct_behind (suc n) [] d = tt
distinct_behind (suc n) (m ∷ ms) d = distinct_behind n ms d.1

pub steps_behind : (ms : List Move) (n : ℕ) (slice : List Move) (steps : List Step) → slice ≡ drop n ms → AreDistinct ms → (AreDistinct slice → steps ≡ order_of slice) → steps ≡ order_of (drop n ms)
steps_behind ms n slice steps is d ordered = ordered (subst AreDistinct (sym is) (distinct_behind n ms d)) ∙ ap order_of is

-- the first moves in their own order, and the steps of the others
pub pushed_both : (moves : List Move) (n : ℕ) (steps : List Step) (old mid new : List CodeLine) → order_of moves ≡ map copied (filter is_moving (take n moves)) ++ order_of (drop n moves) → steps ≡ order_of (drop n moves) → mid ≡ old ++ map Edge (map copied (filter is_moving (take n moves))) → new ≡ mid ++ map Edge steps → new ≡ old ++ map Edge (order_of moves)
pushed_both moves n steps old mid new split rest first then =
    then ∙ ap₂ (λ x y. x ++ map Edge y) first rest ∙ append_assoc old (map Edge (map copied (filter is_moving (take n moves)))) (map Edge (order_of (drop n moves)))
    ∙ ap (λ x. old ++ x) (sym (ap (map Edge) split ∙ map-append Edge (map copied (filter is_moving (take n moves))) (order_of (drop n moves))))

-- the same edge
pub same_edge : (from from' to to' : Places) (params params' args args' : List ℕ) → from ≡ from' → to ≡ to' → params ≡ params' → args ≡ args' → order_of (edge_moves from to (argument_of params args)) ≡ order_of (edge_moves from' to' (argument_of params' args'))
same_edge from from' to to' params params' args args' a b c d =
    ap₂ (λ (x y : Places). order_of (edge_moves x y (argument_of params args))) a b ∙ ap₂ (λ (x y : List ℕ). order_of (edge_moves from' to' (argument_of x y))) c d

pub entry_few : (n : ℕ) → n ≤ 16 → FewRegs (entry_places n)
entry_few n h = let a = length-map (places_from 0 n) (λ (x : ℕ). Some x) in let b = length-places 0 n in omega (arith, a, b, h)

pub places_more : (i k : ℕ) → places_from i (k + 1) ≡ places_from i k ++ (i + k) ∷ []
places_more i zero = ap (λ n. n ∷ []) (let e : i ≡ i + 0 = omega arith in e)
places_more i (suc k) =
    ap (places_from i) (let e : suc k + 1 ≡ suc (k + 1) = omega arith in e) ∙ ap (λ x. i ∷ x) (places_more (suc i) k ∙ ap (λ n. places_from (suc i) k ++ n ∷ []) (let e : suc i + k ≡ i + suc k = omega arith in e))

pub test_is : (f : Flow) (traces : List Trace) (outs : List TraceOut) (n p : ℕ) (preds : List ℕ) → preds ≡ (node_at f.nodes n).preds → Some p ≡ slice_get preds 0 → is_test (node_at f.nodes p).end ≡ true → test_steps f traces outs n ≡ steps_between traces outs p n (λ v. v)
test_is f traces outs n p [] e h t = cc
test_is f traces outs n p (q ∷ qs) e h t =
    let is : q ≡ p = cc in
    ap (λ ps. steps_from f traces outs ps n) (sym e) ∙ ap (λ x. cond (is_test (node_at f.nodes x).end) (steps_between traces outs x n (λ v. v)) []) is ∙ ap (λ b. cond b (steps_between traces outs p n (λ v. v)) []) t

pub nodes_more : (F : ℕ → List CodeLine) (ns : List ℕ) (i n : ℕ) (all old new : List CodeLine) → i < length ns → n ≡ get_or ns i 0 → old ++ flat_map F (drop i ns) ≡ all → new ≡ old ++ F n → new ++ flat_map F (drop (i + 1) ns) ≡ all
nodes_more F ns i n all old new lt is inv more =
    ap (λ x. x ++ flat_map F (drop (i + 1) ns)) more ∙ append_assoc old (F n) (flat_map F (drop (i + 1) ns))
    ∙ ap (λ x. old ++ x) (sym (ap (flat_map F) (drop_more ns i 0 lt ∙ ap (λ y. y ∷ drop (i + 1) ns) (sym is)))) ∙ inv

---- Sound results have rows

pub not_sitting : (traces : List Trace) (t n : ℕ) → has (all_nodes (lists_of traces)) n ≡ false → seat_of (seats_from t traces) n ≡ None
not_sitting [] t n h = refl
not_sitting (x ∷ traces) t n h = not_seated x.nodes t 0 n (seats_from (suc t) traces) (not_in_front x.nodes (all_nodes (lists_of traces)) n h) ∙ not_sitting traces (suc t) n (not_in_back x.nodes (all_nodes (lists_of traces)) n h)

pub rows_of_sound : (k : ℕ) (f : Flow) (traces : List Trace) (outs : List TraceOut) → AreSound k f traces outs → AreRows f traces outs
rows_of_sound k f traces outs all = record {
  entry = let a = params_are k f traces outs all 0 in let b = all.valid.code.first_params in omega (arith, a, b);
  starts = λ n. start_row n (has (all_nodes (lists_of traces)) n) refl;
  ends = λ n. end_row n (has (all_nodes (lists_of traces)) n) refl;
}
  where
    start_row : (n : ℕ) (b : Bool) → has (all_nodes (lists_of traces)) n ≡ b → FewRegs (start_at traces outs n) × IsRising (start_at traces outs n).homed
    start_row n true h = let s = sound_in k f traces outs all n h in let a = s.row.0.registers in let b = all.few.1 in (omega (arith, a, b), s.rises)
    start_row n false h = subst (λ (q : Places). FewRegs q × IsRising q.homed) (sym (ap (places_at (λ o. o.starts) outs) (not_sitting traces 0 n h))) (omega arith, tt)

    end_row : (n : ℕ) (b : Bool) → has (all_nodes (lists_of traces)) n ≡ b → FewRegs (end_at traces outs n)
    end_row n true h = let r = (sound_in k f traces outs all n h).row.1 in let a = r.registers in let b = all.few.1 in omega (arith, a, b)
    end_row n false h = subst FewRegs (sym (ap (places_at (λ o. o.ends) outs) (not_sitting traces 0 n h))) (omega arith)

pub all_placed : (F : ℕ → List CodeLine) (traces : List Trace) (i : ℕ) (placed all : List CodeLine) → placed ++ flat_map F (all_nodes (lists_of (drop i traces))) ≡ all → length traces ≤ i → placed ≡ all
all_placed F traces i placed all inv past = sym (append-nil placed) ∙ sym (ap (λ x. placed ++ flat_map F (all_nodes (lists_of x))) (drop_all i traces past)) ∙ inv
