-- Over every edge of a flow places that hold before it hold behind it.
use Rattle.std.proofs.Common.{◌≡◌, ℕ, zero, suc, ◌+◌, ◌<◌, ◌≤◌, Bool, true, false, ◌&&◌, ◌||◌, cond, List, [], ◌∷◌, ◌++◌, map, length, get_or, Option, Some, refl, sym, ap, ap₂, ◌∙◌, subst, arith, ⊎_elim}
use Rattle.std.specs.Prelude.{◌==◌}
use Rattle.std.proofs.lemmas.Bool.{eqb-true, eq-eqb}
use Rattle.std.proofs.lemmas.Option.{slice_get-get_or}
use Rattle.std.proofs.lemmas.List.{length-map}
use Rattle.run_laws.specs.Layers.{places_from}
use Rattle.block_runs.specs.declared.end.End.{End}
use Rattle.block_runs.specs.declared.end.End.TheVariants.{Jump, Branch, Nonzero, Return, Trap}
use Rattle.block_runs.specs.Blocks.{CodeBlock, block_at, no_block, successors, end_uses}
use Rattle.block_runs.specs.Live.{has, Live, block_makes}
use Rattle.block_runs.specs.Valid.{all_below, params_of, arguments_fit}
use Rattle.lir_core.specs.declared.flow.Node.{Node}
use Rattle.lir_core.specs.declared.flow.Flow.{Flow}
use Rattle.lir_core.specs.declared.flow.Trace.{Trace}
use Rattle.lir_core.specs.declared.places.TraceOut.{TraceOut}
use Rattle.lir_core.specs.Flows.{code_node, code_nodes, leads, preds_of, no_node, node_at}
use Rattle.lir_core.specs.Spots.{IsRising, IsRow, placed, in_register, argument_of, TakesOver}
use Rattle.lir_core.specs.Sound.{IsStart, IsEnd, IsSoundNode, room_of, no_places}
use Rattle.global_live.proofs.Lists.{has-append, has_front, has_one, times_of_out, all_below_in}
use Rattle.global_live.proofs.Tables.{has-preds_of, at_block}
use Rattle.trace_build.specs.Parents.{trace_at}
use Rattle.trace_build.specs.Cuts.{lists_of, all_nodes}
use Rattle.parallel_move.specs.declared.step.Step.{Step}
use Rattle.parallel_move.specs.Steps.{steps_source}
use Rattle.boundary_resolve.specs.declared.seats.Seat.{Seat}
use Rattle.boundary_resolve.specs.Moves.{entry_places, entry_argument}
use Rattle.boundary_resolve.specs.Placing.{seats_in, seats_from, seat_of, seat_at, out_at, places_at, start_at, end_at, steps_between, steps_of_end, jump_steps, is_test, steps_from, test_steps, entry_steps, lines_in, lines_at, registers_in, registers_at}
use Rattle.boundary_resolve.specs.Edges.{AreSound, argument_by, edge_argument, edge_steps, EdgesHold}
use Rattle.boundary_resolve.proofs.Crossing.{takes_over}

---- Nodes and blocks

pub blocks_at : (nodes : List Node) (n : ℕ) → block_at (code_nodes nodes) n ≡ code_node (node_at nodes n)
blocks_at [] n = refl
blocks_at (x ∷ xs) zero = refl
blocks_at (x ∷ xs) (suc n) = blocks_at xs n

---- Seats

pub record Sits (ns : List ℕ) (t i n : ℕ) (s : Option Seat) : Type 0 where
  pub at : ℕ
  pub within : at < length ns
  pub node : get_or ns at 0 ≡ n
  pub is : s ≡ Some (record { node = n; trace = t; at = i + at })

sits : (ns : List ℕ) (t i n : ℕ) (rest : List Seat) → has ns n ≡ true → Sits ns t i n (seat_of (seats_in t i ns ++ rest) n)
sits [] t i n rest h = cc
sits (m ∷ ns) t i n rest h = at_test (m == n) refl h (λ k. sits ns t (suc i) n rest k)
  where
    at_test : (b : Bool) → (m == n) ≡ b → cond b true (has ns n) ≡ true → (has ns n ≡ true → Sits ns t (suc i) n (seat_of (seats_in t (suc i) ns ++ rest) n)) → Sits (m ∷ ns) t i n (cond b (Some (record { node = m; trace = t; at = i })) (seat_of (seats_in t (suc i) ns ++ rest) n))
    at_test true e h on =
        let q : m ≡ n = eqb-true m n e in
        let z : i ≡ i + 0 = omega arith in
        record { at = 0; within = omega arith; node = q; is = ap₂ (λ a b. let s : Seat = record { node = a; trace = t; at = b } in Some s) q z }
    at_test false e h on =
        let s = on h in
        let z : suc i + s.at ≡ i + suc s.at = omega arith in
        let w = s.within in
        record { at = suc s.at; within = omega (arith, w); node = s.node; is = s.is ∙ ap (λ b. let x : Seat = record { node = n; trace = t; at = b } in Some x) z }

pub not_seated : (ns : List ℕ) (t i n : ℕ) (rest : List Seat) → has ns n ≡ false → seat_of (seats_in t i ns ++ rest) n ≡ seat_of rest n
not_seated [] t i n rest h = refl
not_seated (m ∷ ns) t i n rest h = at_test (m == n) h (not_seated ns t (suc i) n rest)
  where
    at_test : (b : Bool) → cond b true (has ns n) ≡ false → (has ns n ≡ false → seat_of (seats_in t (suc i) ns ++ rest) n ≡ seat_of rest n) → cond b (Some (record { node = m; trace = t; at = i })) (seat_of (seats_in t (suc i) ns ++ rest) n) ≡ seat_of rest n
    at_test true h on = cc
    at_test false h on = on h

pub record Seated (traces : List Trace) (t n : ℕ) (s : Option Seat) : Type 0 where
  pub trace : ℕ
  pub below : trace < length traces
  pub at : ℕ
  pub within : at < length (trace_at traces trace).nodes
  pub node : get_or (trace_at traces trace).nodes at 0 ≡ n
  pub is : s ≡ Some (record { node = n; trace = t + trace; at = at })

pub seated : (traces : List Trace) (t n : ℕ) → has (all_nodes (lists_of traces)) n ≡ true → Seated traces t n (seat_of (seats_from t traces) n)
seated [] t n h = cc
seated (x ∷ traces) t n h = at_test (has x.nodes n) refl (λ k. seated traces (suc t) n k)
  where
    behind : has x.nodes n ≡ false → has (all_nodes (lists_of traces)) n ≡ true
    behind off = sym (ap (λ b. b || has (all_nodes (lists_of traces)) n) off) ∙ sym (has-append x.nodes (all_nodes (lists_of traces)) n) ∙ h

    at_test : (b : Bool) → has x.nodes n ≡ b → (has (all_nodes (lists_of traces)) n ≡ true → Seated traces (suc t) n (seat_of (seats_from (suc t) traces) n)) → Seated (x ∷ traces) t n (seat_of (seats_in t 0 x.nodes ++ seats_from (suc t) traces) n)
    at_test true e on =
        let s = sits x.nodes t 0 n (seats_from (suc t) traces) e in
        let z : 0 + s.at ≡ s.at = omega arith in
        let u : t ≡ t + 0 = omega arith in
        record { trace = 0; below = omega arith; at = s.at; within = s.within; node = s.node; is = s.is ∙ ap₂ (λ a b. let y : Seat = record { node = n; trace = a; at = b } in Some y) u z }
    at_test false e on =
        let s = on (behind e) in
        let b = s.below in
        let z : suc t + s.trace ≡ t + suc s.trace = omega arith in
        record { trace = suc s.trace; below = omega (arith, b); at = s.at; within = s.within; node = s.node; is = not_seated x.nodes t 0 n (seats_from (suc t) traces) e ∙ s.is ∙ ap (λ a. let y : Seat = record { node = n; trace = a; at = s.at } in Some y) z }

---- Arguments

pub turned : (p v : ℕ) (b : Bool) → (p == v) ≡ b → (v == p) ≡ b
turned p v true e = eq-eqb v p (sym (eqb-true p v e))
turned p v false e = at_test (v == p) refl
  where
    at_test : (b : Bool) → (v == p) ≡ b → b ≡ false
    at_test false h = refl
    at_test true h = let t : (p == v) ≡ true = eq-eqb p v (sym (eqb-true v p h)) in cc

pub length-places : (i n : ℕ) → length (places_from i n) ≡ n
length-places i zero = refl
length-places i (suc n) = ap suc (length-places (suc i) n)

argument_off : (params args : List ℕ) (v : ℕ) → has params v ≡ false → argument_of params args v ≡ v
argument_off [] args v h = refl
argument_off (p ∷ ps) [] v h = refl
argument_off (p ∷ ps) (a ∷ args) v h = at_test (p == v) refl h (argument_off ps args v)
  where
    at_test : (b : Bool) → (p == v) ≡ b → cond b true (has ps v) ≡ false → (has ps v ≡ false → argument_of ps args v ≡ v) → cond (v == p) a (argument_of ps args v) ≡ v
    at_test true e h on = cc
    at_test false e h on = ap (λ b. cond b a (argument_of ps args v)) (turned p v false e) ∙ on h

argument_in : (params args : List ℕ) (v : ℕ) → length params ≡ length args → has params v ≡ true → has args (argument_of params args v) ≡ true
argument_in [] args v l h = cc
argument_in (p ∷ ps) [] v l h = absurd (omega (arith, l))
argument_in (p ∷ ps) (a ∷ args) v l h = at_test (p == v) refl h (λ k. argument_in ps args v (omega (arith, l)) k)
  where
    later : (b : Bool) (x : ℕ) → has args x ≡ true → cond b true (has args x) ≡ true
    later true x h = refl
    later false x h = h

    at_test : (b : Bool) → (p == v) ≡ b → cond b true (has ps v) ≡ true → (has ps v ≡ true → has args (argument_of ps args v) ≡ true) → has (a ∷ args) (cond (v == p) a (argument_of ps args v)) ≡ true
    at_test true e h on = ap (λ b. has (a ∷ args) (cond b a (argument_of ps args v))) (turned p v true e) ∙ ap (λ b. cond b true (has args a)) (eq-eqb a a refl)
    at_test false e h on = ap (λ b. has (a ∷ args) (cond b a (argument_of ps args v))) (turned p v false e) ∙ later (a == argument_of ps args v) (argument_of ps args v) (on h)

---- Each node's places

module _ (k : ℕ) (f : Flow) (traces : List Trace) (outs : List TraceOut) (all : AreSound k f traces outs) where
  bls : List CodeBlock
  bls = code_nodes f.nodes

  size : length (code_nodes f.nodes) ≡ length f.nodes
  size = length-map f.nodes code_node

  in_trace : (n : ℕ) → n < length f.nodes → has (all_nodes (lists_of traces)) n ≡ true
  in_trace n lt = at_test (has (all_nodes (lists_of traces)) n) refl
    where
      at_test : (b : Bool) → has (all_nodes (lists_of traces)) n ≡ b → b ≡ true
      at_test true e = refl
      at_test false e = let once = all.partition n lt in let none = times_of_out (all_nodes (lists_of traces)) n e in absurd (omega (arith, once, none))

  pub record SoundAt (n : ℕ) : Type 0 where
    pub row : (IsRow k (start_at traces outs n)) × (IsRow k (end_at traces outs n))
    pub rises : IsRising (start_at traces outs n).homed
    pub starts : IsStart (code_nodes f.nodes) n (start_at traces outs n)
    pub ends : IsEnd (code_nodes f.nodes) n (end_at traces outs n)

  pub sound_in : (n : ℕ) → has (all_nodes (lists_of traces)) n ≡ true → SoundAt n
  sound_in n h =
      let s = seated traces 0 n h in
      let z : 0 + s.trace ≡ s.trace = omega arith in
      let seat : seat_at traces n ≡ Some (record { node = n; trace = s.trace; at = s.at }) = s.is ∙ ap (λ a. let y : Seat = record { node = n; trace = a; at = s.at } in Some y) z in
      let here = (all.sound s.trace s.below).nodes s.at s.within in
      let start_is : start_at traces outs n ≡ get_or (out_at outs s.trace).starts s.at no_places = ap (places_at (λ o. o.starts) outs) seat in
      let end_is : end_at traces outs n ≡ get_or (out_at outs s.trace).ends s.at no_places = ap (places_at (λ o. o.ends) outs) seat in
      record {
        row = (subst (IsRow k) (sym start_is) here.row.0, subst (IsRow k) (sym end_is) here.row.1);
        rises = subst (λ q. IsRising q.homed) (sym start_is) here.rises;
        starts = subst (IsStart (code_nodes f.nodes) n) (sym start_is) (subst (λ m. IsStart (code_nodes f.nodes) m (get_or (out_at outs s.trace).starts s.at no_places)) s.node here.starts);
        ends = subst (IsEnd (code_nodes f.nodes) n) (sym end_is) (subst (λ m. IsEnd (code_nodes f.nodes) m (get_or (out_at outs s.trace).ends s.at no_places)) s.node here.ends);
      }

  pub node_sound : (n : ℕ) → n < length f.nodes → IsSoundNode (room_of k f) (code_nodes f.nodes) n (start_at traces outs n) (lines_at traces outs n) (registers_at traces outs n) (end_at traces outs n)
  node_sound n lt =
      let s = seated traces 0 n (in_trace n lt) in
      let z : 0 + s.trace ≡ s.trace = omega arith in
      let seat : seat_at traces n ≡ Some (record { node = n; trace = s.trace; at = s.at }) = s.is ∙ ap (λ a. let y : Seat = record { node = n; trace = a; at = s.at } in Some y) z in
      let here = (all.sound s.trace s.below).nodes s.at s.within in
      subst (λ o. IsSoundNode (room_of k f) (code_nodes f.nodes) n (places_at (λ x. x.starts) outs o) (lines_in outs o) (registers_in outs o) (places_at (λ x. x.ends) outs o)) (sym seat)
      (subst (λ m. IsSoundNode (room_of k f) (code_nodes f.nodes) m (get_or (out_at outs s.trace).starts s.at no_places) (get_or (out_at outs s.trace).lines s.at []) (get_or (out_at outs s.trace).regs s.at []) (get_or (out_at outs s.trace).ends s.at no_places)) s.node here)

  sound_at : (n : ℕ) → n < length f.nodes → SoundAt n
  sound_at n lt = sound_in n (in_trace n lt)

  -- a value that is live into a node is none of its parameters
  not_made : (n v : ℕ) → n < length f.nodes → Live (code_nodes f.nodes) v n → has (node_at f.nodes n).params v ≡ false
  not_made n v lt live = at_test (has (node_at f.nodes n).params v) refl
    where
      at_test : (b : Bool) → has (node_at f.nodes n).params v ≡ b → b ≡ false
      at_test false e = refl
      at_test true e =
          let there = slice_get-get_or (code_nodes f.nodes) n no_block (omega (arith, lt, size)) in
          let made : has (block_makes (block_at (code_nodes f.nodes) n)) v ≡ true = has_front (block_at (code_nodes f.nodes) n).params _ v (ap (λ (b : CodeBlock). has b.params v) (blocks_at f.nodes n) ∙ e) in
          absurd (all.valid.code.placed.own v n (block_at (code_nodes f.nodes) n) there made live)

  -- the edge of a node, which passes arguments to parameters
  crosses : (from to : ℕ) (args : List ℕ) → from < length f.nodes → to < length f.nodes → leads (code_nodes f.nodes) to from ≡ true
      → ((v : ℕ) → has (node_at f.nodes to).params v ≡ true → has (end_uses (block_at (code_nodes f.nodes) from).end) (argument_of (node_at f.nodes to).params args v) ≡ true)
      → TakesOver (end_at traces outs from) (start_at traces outs to) (argument_of (node_at f.nodes to).params args) (steps_source (steps_between traces outs from to (argument_of (node_at f.nodes to).params args)))
  crosses from to args lf lt edge passes = takes_over (end_at traces outs from) (start_at traces outs to) (argument_of (node_at f.nodes to).params args) (record { placed_before = before; rising = (sound_at to lt).rises })
    where
      params : List ℕ
      params = (node_at f.nodes to).params

      before : (v : ℕ) → placed (start_at traces outs to) v ≡ true → placed (end_at traces outs from) (argument_of (node_at f.nodes to).params args v) ≡ true
      before v h = ⊎_elim
          (λ live. ap (placed (end_at traces outs from)) (argument_off (node_at f.nodes to).params args v (not_made to v lt live)) ∙ (sound_at from lf).ends.live v (to, edge, live))
          (λ param. (sound_at from lf).ends.read (argument_of (node_at f.nodes to).params args v) (passes v (sym (ap (λ (b : CodeBlock). has b.params v) (blocks_at f.nodes to)) ∙ param)))
          ((sound_at to lt).starts.only v h)

  target_below : (from to : ℕ) → leads (code_nodes f.nodes) to from ≡ true → to < length f.nodes
  target_below from to edge =
      let t : all_below (length (code_nodes f.nodes)) (successors (block_at (code_nodes f.nodes) from).end) ≡ true = at_block (λ bl. all_below (length (code_nodes f.nodes)) (successors bl.end)) (code_nodes f.nodes) from all.valid.code.targets refl in
      subst (λ n. to < n) size (all_below_in (length (code_nodes f.nodes)) (successors (block_at (code_nodes f.nodes) from).end) to t edge)

  fits_at : (n : ℕ) → arguments_fit (code_nodes f.nodes) (node_at f.nodes n).end ≡ true
  fits_at n = sym (ap (λ (b : CodeBlock). arguments_fit (code_nodes f.nodes) b.end) (blocks_at f.nodes n)) ∙ at_block (λ bl. arguments_fit (code_nodes f.nodes) bl.end) (code_nodes f.nodes) n all.valid.code.arguments refl

  pub params_are : (n : ℕ) → params_of (code_nodes f.nodes) n ≡ length (node_at f.nodes n).params
  params_are n = ap (λ (b : CodeBlock). length b.params) (blocks_at f.nodes n)

  ---- Jumps

  jumps : (from to target : ℕ) (args : List ℕ) → from < length f.nodes → leads (code_nodes f.nodes) to from ≡ true → (node_at f.nodes from).end ≡ Jump target args
      → TakesOver (end_at traces outs from) (start_at traces outs to) (edge_argument f from to) (steps_source (edge_steps f traces outs from to))
  jumps from to target args lf edge e =
      let lt = target_below from to edge in
      let end_is : (block_at (code_nodes f.nodes) from).end ≡ Jump target args = ap (λ (b : CodeBlock). b.end) (blocks_at f.nodes from) ∙ e in
      let is : target ≡ to = has_one target to (sym (ap (λ x. has (successors x) to) end_is) ∙ edge) in
      let fit : length args ≡ params_of (code_nodes f.nodes) target = eqb-true (length args) (params_of (code_nodes f.nodes) target) (sym (ap (arguments_fit (code_nodes f.nodes)) e) ∙ fits_at from) in
      let long : length (node_at f.nodes to).params ≡ length args = sym (params_are to) ∙ ap (params_of (code_nodes f.nodes)) (sym is) ∙ sym fit in
      let across = crosses from to args lf lt edge (λ v h. ap (λ x. has (end_uses x) (argument_of (node_at f.nodes to).params args v)) end_is ∙ argument_in (node_at f.nodes to).params args v long h) in
      subst (λ (x : End). TakesOver (end_at traces outs from) (start_at traces outs to) (argument_by x (node_at f.nodes to).params) (steps_source (cond (is_test x) (test_steps f traces outs to) (steps_of_end f traces outs from x)))) (sym e)
      (subst (λ t. TakesOver (end_at traces outs from) (start_at traces outs to) (argument_of (node_at f.nodes to).params args) (steps_source (steps_between traces outs from t (argument_of (node_at f.nodes t).params args)))) (sym is) across)

  ---- Tests

  -- the target of a test has no other predecessor
  only_pred : (ps : List ℕ) (n : ℕ) → has ps n ≡ true → length ps ≤ 1 → ps ≡ n ∷ []
  only_pred [] n h l = cc
  only_pred (p ∷ []) n h l = ap (λ x. x ∷ []) (has_one p n h)
  only_pred (p ∷ (q ∷ ps)) n h l = absurd (omega (arith, l))

  tests : (from to : ℕ) → from < length f.nodes → leads (code_nodes f.nodes) to from ≡ true → is_test (node_at f.nodes from).end ≡ true → length (successors (node_at f.nodes from).end) ≡ 2 → length (node_at f.nodes to).params ≡ 0
      → TakesOver (end_at traces outs from) (start_at traces outs to) (λ v. v) (steps_source (test_steps f traces outs to))
  tests from to lf edge test two none =
      let lt = target_below from to edge in
      let empty : (node_at f.nodes to).params ≡ [] = no_params (node_at f.nodes to).params none in
      let here = slice_get-get_or f.nodes from no_node lf in
      let split = all.valid.split from (node_at f.nodes from) here two to (sym (ap (λ (b : CodeBlock). has (successors b.end) to) (blocks_at f.nodes from)) ∙ edge) in
      let preds : (node_at f.nodes to).preds ≡ from ∷ [] = all.valid.preds to (node_at f.nodes to) (slice_get-get_or f.nodes to no_node lt) ∙ only_pred (preds_of (code_nodes f.nodes) to) from (has-preds_of (code_nodes f.nodes) to from ∙ edge) split in
      let steps : test_steps f traces outs to ≡ steps_between traces outs from to (λ v. v) = ap (λ ps. steps_from f traces outs ps to) preds ∙ ap (λ b. cond b (steps_between traces outs from to (λ v. v)) []) test in
      let across = crosses from to [] lf lt edge (λ v h. no_param (node_at f.nodes to).params v empty h) in
      subst (λ (x : List Step). TakesOver (end_at traces outs from) (start_at traces outs to) (λ v. v) (steps_source x)) (sym steps)
      (subst (λ (ps : List ℕ). TakesOver (end_at traces outs from) (start_at traces outs to) (argument_of ps []) (steps_source (steps_between traces outs from to (argument_of ps [])))) empty across)
    where
      no_params : (ps : List ℕ) → length ps ≡ 0 → ps ≡ []
      no_params [] e = refl
      no_params (p ∷ ps) e = absurd (omega (arith, e))

      no_param : {A : Type 0} (ps : List ℕ) (v : ℕ) → ps ≡ [] → has ps v ≡ true → A
      no_param ps v e h = let z : false ≡ true = sym (ap (λ x. has x v) e) ∙ h in cc

  parts : (a b : Bool) → (a && b) ≡ true → (a ≡ true) × (b ≡ true)
  parts true b h = (refl, h)
  parts false b h = cc

  -- both targets of a test have no parameters
  no_params_at : (to one other : ℕ) → (params_of (code_nodes f.nodes) one == 0 && params_of (code_nodes f.nodes) other == 0) ≡ true → has (one ∷ other ∷ []) to ≡ true → length (node_at f.nodes to).params ≡ 0
  no_params_at to one other fit h = at_test (one == to) refl h
    where
      both : ((params_of (code_nodes f.nodes) one == 0) ≡ true) × ((params_of (code_nodes f.nodes) other == 0) ≡ true)
      both = parts (params_of (code_nodes f.nodes) one == 0) (params_of (code_nodes f.nodes) other == 0) fit

      at_test : (b : Bool) → (one == to) ≡ b → cond b true (has (other ∷ []) to) ≡ true → length (node_at f.nodes to).params ≡ 0
      at_test true e h = sym (params_are to) ∙ ap (params_of (code_nodes f.nodes)) (sym (eqb-true one to e)) ∙ eqb-true (params_of (code_nodes f.nodes) one) 0 both.0
      at_test false e h = sym (params_are to) ∙ ap (params_of (code_nodes f.nodes)) (sym (has_one other to h)) ∙ eqb-true (params_of (code_nodes f.nodes) other) 0 both.1

  tested : (from to one other : ℕ) (x : End) → from < length f.nodes → leads (code_nodes f.nodes) to from ≡ true → (node_at f.nodes from).end ≡ x → is_test x ≡ true → successors x ≡ one ∷ other ∷ [] → arguments_fit (code_nodes f.nodes) x ≡ (params_of (code_nodes f.nodes) one == 0 && params_of (code_nodes f.nodes) other == 0)
      → ((ps : List ℕ) → argument_by x ps ≡ (λ v. v))
      → TakesOver (end_at traces outs from) (start_at traces outs to) (edge_argument f from to) (steps_source (edge_steps f traces outs from to))
  tested from to one other x lf edge e test to_two fit same =
      let end_is : (block_at (code_nodes f.nodes) from).end ≡ x = ap (λ (b : CodeBlock). b.end) (blocks_at f.nodes from) ∙ e in
      let there : has (one ∷ other ∷ []) to ≡ true = sym (ap (λ y. has (successors y) to) end_is ∙ ap (λ y. has y to) to_two) ∙ edge in
      let none = no_params_at to one other (sym fit ∙ sym (ap (arguments_fit (code_nodes f.nodes)) e) ∙ fits_at from) there in
      let across = tests from to lf edge (ap is_test e ∙ test) (ap (λ y. length (successors y)) e ∙ ap length to_two) none in
      let argument_is : edge_argument f from to ≡ (λ v. v) = ap (λ y. argument_by y (node_at f.nodes to).params) e ∙ same (node_at f.nodes to).params in
      let steps_are : edge_steps f traces outs from to ≡ test_steps f traces outs to = ap (λ b. cond b (test_steps f traces outs to) (jump_steps f traces outs from)) (ap is_test e ∙ test) in
      subst (λ g. TakesOver (end_at traces outs from) (start_at traces outs to) g (steps_source (edge_steps f traces outs from to))) (sym argument_is)
      (subst (λ (y : List Step). TakesOver (end_at traces outs from) (start_at traces outs to) (λ v. v) (steps_source y)) (sym steps_are) across)

  over_edge : (from to : ℕ) → from < length f.nodes → leads (code_nodes f.nodes) to from ≡ true → (x : End) → (node_at f.nodes from).end ≡ x
      → TakesOver (end_at traces outs from) (start_at traces outs to) (edge_argument f from to) (steps_source (edge_steps f traces outs from to))
  over_edge from to lf edge (Jump target args) e = jumps from to target args lf edge e
  over_edge from to lf edge (Branch c a b one other) e = tested from to one other (Branch c a b one other) lf edge e refl refl refl (λ ps. refl)
  over_edge from to lf edge (Nonzero a one other) e = tested from to one other (Nonzero a one other) lf edge e refl refl refl (λ ps. refl)
  over_edge from to lf edge (Return a) e = let z : false ≡ true = sym (ap (λ (b : CodeBlock). has (successors b.end) to) (blocks_at f.nodes from) ∙ ap (λ y. has (successors y) to) e) ∙ edge in cc
  over_edge from to lf edge (Trap kind) e = let z : false ≡ true = sym (ap (λ (b : CodeBlock). has (successors b.end) to) (blocks_at f.nodes from) ∙ ap (λ y. has (successors y) to) e) ∙ edge in cc

  ---- The entry

  from_entry : TakesOver (entry_places (length (node_at f.nodes 0).params)) (start_at traces outs 0) (entry_argument (node_at f.nodes 0).params) (steps_source (entry_steps f traces outs))
  from_entry = takes_over (entry_places (length (node_at f.nodes 0).params)) (start_at traces outs 0) (entry_argument (node_at f.nodes 0).params) (record { placed_before = before; rising = (sound_at 0 some).rises })
    where
      some : 0 < length f.nodes
      some = subst (λ n. 0 < n) size all.valid.code.begins

      in_regs : (ns : List ℕ) (v : ℕ) → has ns v ≡ true → in_register (map Some ns) v ≡ true
      in_regs [] v h = h
      in_regs (n ∷ ns) v h = at_test (n == v) h (in_regs ns v)
        where
          at_test : (b : Bool) → cond b true (has ns v) ≡ true → (has ns v ≡ true → in_register (map Some ns) v ≡ true) → cond b true (in_register (map Some ns) v) ≡ true
          at_test true h on = refl
          at_test false h on = on h

      before : (v : ℕ) → placed (start_at traces outs 0) v ≡ true → placed (entry_places (length (node_at f.nodes 0).params)) (entry_argument (node_at f.nodes 0).params v) ≡ true
      before v h = ⊎_elim
          (λ live. absurd (all.valid.code.placed.first v live))
          (λ param.
          let ps = (node_at f.nodes 0).params in
          let there : has ps v ≡ true = sym (ap (λ (b : CodeBlock). has b.params v) (blocks_at f.nodes 0)) ∙ param in
          let arg = argument_in ps (places_from 0 (length ps)) v (sym (length-places 0 (length ps))) there in
          ap (λ b. b || false) (in_regs (places_from 0 (length ps)) (argument_of ps (places_from 0 (length ps)) v) arg))
          ((sound_at 0 some).starts.only v h)

  pub edges_hold_all : EdgesHold f traces outs
  edges_hold_all = record { entry = from_entry; edge = λ from to lf edge. over_edge from to lf edge (node_at f.nodes from).end refl }
