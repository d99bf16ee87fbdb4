-- Each node's part is sound, and its copies fit.
use Rattle.std.proofs.Common.{◌≡◌, ℕ, suc, ◌+◌, ◌<◌, ◌≤◌, List, [], ◌∷◌, map, length, get_or, Bool, true, false, cond, Some, refl, arith, sym, ap, ◌∙◌, subst}
use Rattle.run_laws.specs.Layers.{places_from}
use Rattle.block_runs.specs.declared.end.End.{End}
use Rattle.block_runs.specs.declared.end.End.TheVariants.{Jump, Branch, Nonzero, Return, Trap}
use Rattle.block_runs.specs.Live.{has}
use Rattle.lir_core.specs.declared.flow.Flow.{Flow}
use Rattle.lir_core.specs.declared.flow.Trace.{Trace}
use Rattle.lir_core.specs.declared.places.TraceOut.{TraceOut}
use Rattle.lir_core.specs.Flows.{code_nodes, node_at}
use Rattle.lir_core.specs.Lines.{Room}
use Rattle.lir_core.specs.Sound.{IsSoundNode, room_of, no_places}
use Rattle.trace_build.specs.Cuts.{lists_of, all_nodes}
use Rattle.boundary_resolve.specs.Moves.{entry_places, entry_argument, edge_moves}
use Rattle.boundary_resolve.specs.Placing.{out_at, places_at, lines_in, registers_in, registers_at, start_at, end_at, lines_at, is_test, steps_between, steps_from, steps_of_end, test_steps, jump_steps, entry_steps}
use Rattle.boundary_resolve.specs.Edges.{AreSound}
use Rattle.boundary_resolve.proofs.Between.{seated, sound_in, length-places}
use Rattle.placed_code.specs.Results.{CopiesFit}
use Rattle.linked_flows.specs.Allocations.{copies_of}
use Rattle.linked_flows.proofs.Sequence.{edge_fits, order_fits}
use Rattle.linked_flows.proofs.Ordering.{has_of_times}
use Rattle.boundary_resolve.proofs.Laid.{not_sitting as unseated}

module _ (k : ℕ) (f : Flow) (traces : List Trace) (outs : List TraceOut) (all : AreSound k f traces outs) where
  pub traced : (n : ℕ) → n < length f.nodes → has (all_nodes (lists_of traces)) n ≡ true
  traced n l = let once = all.partition n l in has_of_times (all_nodes (lists_of traces)) n (omega (arith, once))

  pub sound_node : (n : ℕ) → n < length f.nodes → IsSoundNode (room_of k f) (code_nodes f.nodes) n (start_at traces outs n) (lines_at traces outs n) (registers_at traces outs n) (end_at traces outs n)
  sound_node n l =
      let s = seated traces 0 n (traced n l) in
      let z : s.trace ≡ 0 + s.trace = omega arith in
      let here = (all.sound s.trace s.below).nodes s.at s.within in
      let named = subst (λ m. IsSoundNode (room_of k f) (code_nodes f.nodes) m (get_or (out_at outs s.trace).starts s.at no_places) (get_or (out_at outs s.trace).lines s.at []) (get_or (out_at outs s.trace).regs s.at []) (get_or (out_at outs s.trace).ends s.at no_places)) s.node here in
      let placed = subst (λ t. IsSoundNode (room_of k f) (code_nodes f.nodes) n (get_or (out_at outs t).starts s.at no_places) (get_or (out_at outs t).lines s.at []) (get_or (out_at outs t).regs s.at []) (get_or (out_at outs t).ends s.at no_places)) z named in
      subst (λ x. IsSoundNode (room_of k f) (code_nodes f.nodes) n (places_at (λ o. o.starts) outs x) (lines_in outs x) (registers_in outs x) (places_at (λ o. o.ends) outs x)) (sym s.is) placed

  -- places have no more registers than there are
  rows : (n : ℕ) → (length (start_at traces outs n).regs ≤ k) × (length (end_at traces outs n).regs ≤ k)
  rows n = by_test (has (all_nodes (lists_of traces)) n) refl
    where
      by_test : (b : Bool) → has (all_nodes (lists_of traces)) n ≡ b → (length (start_at traces outs n).regs ≤ k) × (length (end_at traces outs n).regs ≤ k)
      by_test true h = let s = sound_in k f traces outs all n h in let a = s.row.0.registers in let b = s.row.1.registers in (omega (arith, a), omega (arith, b))
      by_test false h =
          let none = unseated traces 0 n h in
          let a : length (start_at traces outs n).regs ≡ 0 = ap (λ o. length (places_at (λ o. o.starts) outs o).regs) none in
          let b : length (end_at traces outs n).regs ≡ 0 = ap (λ o. length (places_at (λ o. o.ends) outs o).regs) none in
          (omega (arith, a), omega (arith, b))

  abbrev room : Room
  room = room_of k f

  between_fits : (from to : ℕ) (argument : ℕ → ℕ) → CopiesFit room (copies_of (steps_between traces outs from to argument))
  between_fits from to argument = order_fits room (edge_moves (end_at traces outs from) (start_at traces outs to) argument) (edge_fits room (end_at traces outs from) (start_at traces outs to) argument (rows from).1 (rows to).0)

  from_fits : (ps : List ℕ) (n : ℕ) → CopiesFit room (copies_of (steps_from f traces outs ps n))
  from_fits [] n = tt
  from_fits (p ∷ ps) n = by_test (is_test (node_at f.nodes p).end)
    where
      by_test : (b : Bool) → CopiesFit room (copies_of (cond b (steps_between traces outs p n (λ v. v)) []))
      by_test true = between_fits p n (λ v. v)
      by_test false = tt

  end_fits : (n : ℕ) (e : End) → CopiesFit room (copies_of (steps_of_end f traces outs n e))
  end_fits n (Jump to args) = between_fits n to _
  end_fits n (Branch c a b one other) = tt
  end_fits n (Nonzero a one other) = tt
  end_fits n (Return a) = tt
  end_fits n (Trap kind) = tt

  pub steps_fit : (n : ℕ) → CopiesFit room (copies_of (test_steps f traces outs n)) × CopiesFit room (copies_of (jump_steps f traces outs n))
  steps_fit n = (from_fits (node_at f.nodes n).preds n, end_fits n (node_at f.nodes n).end)

  pub entry_fits : length (node_at f.nodes 0).params ≤ k → CopiesFit room (copies_of (entry_steps f traces outs))
  entry_fits few =
      let params = (node_at f.nodes 0).params in
      let n = length params in
      let size = entry_size n in
      order_fits room (edge_moves (entry_places n) (start_at traces outs 0) (entry_argument params)) (edge_fits room (entry_places n) (start_at traces outs 0) (entry_argument params) (omega (arith, few, size)) (rows 0).0)
    where
      length_map : (xs : List ℕ) → length (map Some xs) ≡ length xs
      length_map [] = refl
      length_map (x ∷ xs) = ap suc (length_map xs)

      entry_size : (n : ℕ) → length (entry_places n).regs ≡ n
      entry_size n = length_map (places_from 0 n) ∙ length-places 0 n
