-- At the entry the first node's parameters come from the first registers.
use Rattle.std.proofs.Common.{◌≡◌, ℕ, zero, suc, ◌+◌, ◌<◌, ◌==◌, ◌&&◌, ◌||◌, ⊎_elim, List, [], ◌∷◌, ◌++◌, map, length, get_or, Bool, true, false, cond, Option, Some, None, refl, arith, sym, ap, ◌∙◌, subst, eq-eqb}
use Rattle.std.specs.Prelude.{if◌then◌else◌}
use Rattle.std.proofs.lemmas.List.{append-nil}
use Rattle.std.proofs.lemmas.Bool.{eqb-true}
use Rattle.run_laws.specs.Layers.{places_from}
use Rattle.block_runs.specs.declared.end.End.{End}
use Rattle.block_runs.specs.declared.end.End.TheVariants.{Jump, Branch, Nonzero, Return, Trap}
use Rattle.block_runs.specs.Blocks.{CodeBlock, block_at, successors}
use Rattle.block_runs.specs.Live.{has}
use Rattle.block_runs.specs.Valid.{arguments_fit, params_of}
use Rattle.lir_core.specs.declared.flow.Flow.{Flow}
use Rattle.lir_core.specs.declared.flow.Trace.{Trace}
use Rattle.lir_core.specs.declared.places.Place.{Place}
use Rattle.lir_core.specs.declared.places.Places.{Places}
use Rattle.lir_core.specs.declared.places.TraceOut.{TraceOut}
use Rattle.lir_core.specs.Flows.{code_nodes, node_at}
use Rattle.lir_core.specs.Spots.{Spot, reg, home, out, target, saved, get, view_of, placed, in_register, argument_of, Holds}
use Rattle.global_live.proofs.Lists.{has_one}
use Rattle.global_live.proofs.Tables.{at_block}
use Rattle.parallel_move.specs.declared.step.Step.{Step}
use Rattle.parallel_move.specs.Order.{order_of}
use Rattle.boundary_resolve.specs.Moves.{place_of, reg_moves, home_moves, stays_home, edge_moves}
use Rattle.boundary_resolve.specs.Moves as edges
use Rattle.boundary_resolve.specs.Placing.{start_at, end_at, is_test, steps_between, steps_from, test_steps, entry_steps}
use Rattle.boundary_resolve.specs.Edges.{AreSound}
use Rattle.boundary_resolve.proofs.Crossing.{in_reg, in_home}
use Rattle.boundary_resolve.proofs.Between.{blocks_at, SoundAt, edges_hold_all}
use Rattle.placed_code.specs.Layout.{position}
use Rattle.placed_code.specs.Placed.{Copy}
use Rattle.placed_code.specs.Results.{TakeOver, entry_places}
use Rattle.linked_flows.specs.Allocations.{copies_of}
use Rattle.linked_flows.proofs.Sequence.{take_over}
use Rattle.linked_flows.proofs.Ordering.{at_position}
use Rattle.linked_flows.proofs.Edges.{pred_leads}

-- places without values need no moves
no_reg_moves : (from : ℕ → Place) (i : ℕ) (regs : List (Option ℕ)) → ((v : ℕ) → in_register regs v ≡ true → ⊥) → reg_moves from i regs ≡ []
no_reg_moves from i [] none = refl
no_reg_moves from i (None ∷ regs) none = no_reg_moves from (suc i) regs none
no_reg_moves from i (Some v ∷ regs) none = absurd (none v (ap (λ b. cond b true (in_register regs v)) (eq-eqb v v refl)))

no_home_moves : (stays : ℕ → Bool) (from : ℕ → Place) (vs : List ℕ) → ((v : ℕ) → has vs v ≡ true → ⊥) → home_moves stays from vs ≡ []
no_home_moves stays from [] none = refl
no_home_moves stays from (v ∷ vs) none = absurd (none v (ap (λ b. cond b true (has vs v)) (eq-eqb v v refl)))

no_moves : (before after : Places) (argument : ℕ → ℕ) → ((v : ℕ) → placed after v ≡ true → ⊥) → edge_moves before after argument ≡ []
no_moves before after argument none =
    let from : ℕ → Place = λ v. place_of before (argument v) in
    ap (λ ms. ms ++ home_moves (stays_home before argument) from after.homed) (no_reg_moves from 0 after.regs (λ v h. none v (in_regs v h)))
    ∙ no_home_moves (stays_home before argument) from after.homed (λ v h. none v (in_home after v h))
  where
    in_regs : (v : ℕ) → in_register after.regs v ≡ true → placed after v ≡ true
    in_regs v h = ap (λ b. b || has after.homed v) h

and_left : (a b : Bool) → (a && b) ≡ true → a ≡ true
and_left true b e = refl
and_left false b e = cc

and_right : (a b : Bool) → (a && b) ≡ true → b ≡ true
and_right true b e = e
and_right false b e = cc

-- a parameter's argument is its index
argument_index : (params : List ℕ) (a v : ℕ) → has params v ≡ true → argument_of params (places_from a (length params)) v ≡ a + position params v
argument_index [] a v h = cc
argument_index (p ∷ params) a v h = by_test (p == v) refl h (argument_index params (suc a) v)
  where
    turned : (b : Bool) → (p == v) ≡ b → (v == p) ≡ b
    turned true e = eq-eqb v p (sym (eqb-true p v e))
    turned false e = by_other (v == p) refl
      where
        by_other : (b : Bool) → (v == p) ≡ b → b ≡ false
        by_other false g = refl
        by_other true g = let wrong : (p == v) ≡ true = eq-eqb p v (sym (eqb-true v p g)) in cc

    by_test : (b : Bool) → (p == v) ≡ b → cond b true (has params v) ≡ true → (has params v ≡ true → argument_of params (places_from (suc a) (length params)) v ≡ suc a + position params v)
        → cond (v == p) a (argument_of params (places_from (suc a) (length params)) v) ≡ a + (if b then 0 else suc (position params v))
    by_test true e h on = let z : a ≡ a + 0 = omega arith in ap (λ b. cond b a (argument_of params (places_from (suc a) (length params)) v)) (turned true e) ∙ z
    by_test false e h on = let r = on h in let z : suc a + position params v ≡ a + suc (position params v) = omega arith in ap (λ b. cond b a (argument_of params (places_from (suc a) (length params)) v)) (turned false e) ∙ r ∙ z

-- the i-th register at the entry
entry_get : (a n i v : ℕ) → get (map Some (places_from a n)) i ≡ Some v → (v ≡ a + i) × (i < n)
entry_get a zero i v e = cc
entry_get a (suc n) zero v e = let same : a ≡ v = cc in (omega (arith, same), omega arith)
entry_get a (suc n) (suc i) v e = let r = entry_get (suc a) n i v e in let l = r.1 in let z = r.0 in (omega (arith, z), omega (arith, l))

get_some : (xs : List ℕ) (i : ℕ) → i < length xs → get (map Some xs) i ≡ Some (get_or xs i 0)
get_some [] i l = absurd (omega (arith, l))
get_some (x ∷ xs) zero l = refl
get_some (x ∷ xs) (suc i) l = get_some xs i (omega (arith, l))

-- what a view gives is placed
view_placed : (q : Places) (p : Spot) (v : ℕ) → view_of q p ≡ Some v → placed q v ≡ true
view_placed q (reg r) v e = in_reg q r v e
view_placed q (home u) v e = by_test (has q.homed u) refl e
  where
    by_test : (b : Bool) → has q.homed u ≡ b → cond b (Some u) None ≡ Some v → placed q v ≡ true
    by_test true h e = let same : u ≡ v = cc in in_home q v (subst (λ x. has q.homed x ≡ true) same h)
    by_test false h e = cc
view_placed q (out s) v e = cc
view_placed q target v e = cc
view_placed q saved v e = cc

module _ (k : ℕ) (f : Flow) (traces : List Trace) (outs : List TraceOut) (all : AreSound k f traces outs) (some : 0 < length f.nodes) (first : SoundAt k f traces outs all 0) where
  abbrev params : List ℕ
  params = (node_at f.nodes 0).params

  -- only parameters are placed at the start
  start_params : (v : ℕ) → placed (start_at traces outs 0) v ≡ true → has params v ≡ true
  start_params v h = ⊎_elim (λ live. absurd (all.valid.code.placed.first v live)) (λ param. sym (ap (λ (b : CodeBlock). has b.params v) (blocks_at f.nodes 0)) ∙ param) (first.starts.only v h)

  both_none : (one other : ℕ) → has (one ∷ other ∷ []) 0 ≡ true → (params_of (code_nodes f.nodes) one == 0 && params_of (code_nodes f.nodes) other == 0) ≡ true → length params ≡ 0
  both_none one other h fit = by_test (one == 0) refl h
    where
      at_one : (to : ℕ) → (params_of (code_nodes f.nodes) to == 0) ≡ true → to ≡ 0 → length params ≡ 0
      at_one to z same = sym (ap (λ (b : CodeBlock). length b.params) (blocks_at f.nodes 0)) ∙ ap (params_of (code_nodes f.nodes)) (sym same) ∙ eqb-true (params_of (code_nodes f.nodes) to) 0 z

      by_test : (x : Bool) → (one == 0) ≡ x → cond x true (has (other ∷ []) 0) ≡ true → length params ≡ 0
      by_test true g h = at_one one (and_left (params_of (code_nodes f.nodes) one == 0) (params_of (code_nodes f.nodes) other == 0) fit) (eqb-true one 0 g)
      by_test false g h = at_one other (and_right (params_of (code_nodes f.nodes) one == 0) (params_of (code_nodes f.nodes) other == 0) fit) (has_one other 0 h)

  -- where a test leads to the first node, it has no parameters
  no_params : (e : End) → is_test e ≡ true → has (successors e) 0 ≡ true → arguments_fit (code_nodes f.nodes) e ≡ true → length params ≡ 0
  no_params (Jump to args) t h fit = cc
  no_params (Branch c a b one other) t h fit = both_none one other h fit
  no_params (Nonzero a one other) t h fit = both_none one other h fit
  no_params (Return a) t h fit = cc
  no_params (Trap kind) t h fit = cc

  none_has : (xs : List ℕ) (v : ℕ) → length xs ≡ 0 → has xs v ≡ true → ⊥
  none_has [] v e h = cc
  none_has (x ∷ xs) v e h = omega (arith, e)

  -- no step stands at the head of the first node
  pub no_steps : test_steps f traces outs 0 ≡ []
  no_steps = by_preds (node_at f.nodes 0).preds refl
    where
      by_test : (p : ℕ) (ps : List ℕ) → (node_at f.nodes 0).preds ≡ p ∷ ps → (b : Bool) → is_test (node_at f.nodes p).end ≡ b → cond b (steps_between traces outs p 0 (λ v. v)) [] ≡ []
      by_test p ps e false t = refl
      by_test p ps e true t =
          let first_is : has (p ∷ ps) p ≡ true = ap (λ b. cond b true (has ps p)) (eq-eqb p p refl) in
          let edge = pred_leads k f traces outs all 0 p some (ap (λ xs. has xs p) e ∙ first_is) in
          let there : has (successors (node_at f.nodes p).end) 0 ≡ true = sym (ap (λ (b : CodeBlock). has (successors b.end) 0) (blocks_at f.nodes p)) ∙ edge in
          let fit : arguments_fit (code_nodes f.nodes) (node_at f.nodes p).end ≡ true = sym (ap (λ (b : CodeBlock). arguments_fit (code_nodes f.nodes) b.end) (blocks_at f.nodes p)) ∙ at_block (λ bl. arguments_fit (code_nodes f.nodes) bl.end) (code_nodes f.nodes) p all.valid.code.arguments refl in
          let none = no_params (node_at f.nodes p).end t there fit in
          ap order_of (no_moves (end_at traces outs p) (start_at traces outs 0) (λ v. v) (λ v h. none_has params v none (start_params v h)))

      by_preds : (ps : List ℕ) → (node_at f.nodes 0).preds ≡ ps → steps_from f traces outs ps 0 ≡ []
      by_preds [] e = refl
      by_preds (p ∷ ps) e = by_test p ps e (is_test (node_at f.nodes p).end) refl

  -- the copies of the entry's edge
  pub enters : TakeOver (entry_places (code_nodes f.nodes)) (start_at traces outs 0) (λ v. v) (copies_of (entry_steps f traces outs) ++ copies_of (test_steps f traces outs 0))
  enters =
      let first_copies = copies_of (entry_steps f traces outs) in
      let same : first_copies ++ copies_of (test_steps f traces outs 0) ≡ first_copies = ap (λ (ss : List Step). first_copies ++ copies_of ss) no_steps ∙ append-nil first_copies in
      subst (λ (ms : List Copy). TakeOver (entry_places (code_nodes f.nodes)) (start_at traces outs 0) (λ v. v) ms) (sym same) from_registers
    where
      from_registers : TakeOver (entry_places (code_nodes f.nodes)) (start_at traces outs 0) (λ v. v) (copies_of (entry_steps f traces outs))
      from_registers V c h p v e =
          let ps = (node_at f.nodes 0).params in
          let n = length ps in
          let W : ℕ → ℕ = λ j. V (get_or ps j 0) in
          let same : (block_at (code_nodes f.nodes) 0).params ≡ ps = ap (λ (b : CodeBlock). b.params) (blocks_at f.nodes 0) in
          let before : Holds W (view_of (edges.entry_places n)) c = λ q u g. at_entry V c h q u g in
          let over = take_over (edges.entry_places n) (start_at traces outs 0) (edges.entry_argument ps) (entry_steps f traces outs) (edges_hold_all k f traces outs all).entry W c before p v e in
          let param = start_params v (view_placed (start_at traces outs 0) p v e) in
          let index : edges.entry_argument ps v ≡ 0 + position ps v = argument_index ps 0 v param in
          let z : 0 + position ps v ≡ position ps v = omega arith in
          over ∙ ap W (index ∙ z) ∙ ap V (at_position ps v param)
        where
          at_entry : (V : ℕ → ℕ) (c : Spot → ℕ) → Holds V (view_of (entry_places (code_nodes f.nodes))) c → (q : Spot) (u : ℕ) → view_of (edges.entry_places (length (node_at f.nodes 0).params)) q ≡ Some u → c q ≡ V (get_or (node_at f.nodes 0).params u 0)
          at_entry V c h (reg i) u g =
              let ps = (node_at f.nodes 0).params in
              let r = entry_get 0 (length ps) i u g in
              let is : u ≡ i = (let z = r.0 in omega (arith, z)) in
              let same : (block_at (code_nodes f.nodes) 0).params ≡ ps = ap (λ (b : CodeBlock). b.params) (blocks_at f.nodes 0) in
              h (reg i) (get_or ps i 0) (ap (λ (xs : List ℕ). get (map Some xs) i) same ∙ get_some ps i r.1) ∙ ap (λ j. V (get_or ps j 0)) (sym is)
          at_entry V c h (home w) u g = cc
          at_entry V c h (out s) u g = cc
          at_entry V c h target u g = cc
          at_entry V c h saved u g = cc
