-- Over each edge the copies behind a node and those before the next take places over.
use Rattle.std.proofs.Common.{◌≡◌, ℕ, zero, suc, ◌<◌, ◌≤◌, List, [], ◌∷◌, ◌++◌, length, Bool, true, false, cond, refl, arith, sym, ap, ◌∙◌, subst, eq-eqb}
use Rattle.std.proofs.lemmas.List.{append-nil}
use Rattle.std.proofs.lemmas.Option.{slice_get-get_or}
use Rattle.block_runs.specs.declared.end.End.{End}
use Rattle.block_runs.specs.declared.end.End.TheVariants.{Jump, Branch, Nonzero, Return, Trap}
use Rattle.block_runs.specs.Blocks.{CodeBlock, block_at, successors}
use Rattle.block_runs.specs.Live.{has}
use Rattle.lir_core.specs.declared.flow.Node.{Node}
use Rattle.lir_core.specs.declared.flow.Flow.{Flow}
use Rattle.lir_core.specs.declared.flow.Trace.{Trace}
use Rattle.lir_core.specs.declared.places.TraceOut.{TraceOut}
use Rattle.lir_core.specs.Flows.{code_nodes, leads, preds_of, no_node, node_at}
use Rattle.lir_core.specs.Spots.{TakesOver}
use Rattle.global_live.proofs.Lists.{has_one}
use Rattle.global_live.proofs.Tables.{has-preds_of}
use Rattle.parallel_move.specs.declared.step.Step.{Step}
use Rattle.parallel_move.specs.Steps.{steps_source}
use Rattle.boundary_resolve.specs.Placing.{start_at, end_at, is_test, steps_between, steps_from, test_steps, jump_steps}
use Rattle.boundary_resolve.specs.Edges.{AreSound, argument_by}
use Rattle.boundary_resolve.proofs.Between.{blocks_at, edges_hold_all}
use Rattle.placed_code.specs.Placed.{Copy}
use Rattle.placed_code.specs.Results.{TakeOver, left_by, carried_by}
use Rattle.linked_flows.specs.Allocations.{copies_of}
use Rattle.linked_flows.proofs.Sequence.{take_over}

two_successors : (e : End) → is_test e ≡ true → length (successors e) ≡ 2
two_successors (Jump to args) h = cc
two_successors (Branch c a b one other) h = refl
two_successors (Nonzero a one other) h = refl
two_successors (Return a) h = cc
two_successors (Trap kind) h = cc

only_one : (ps : List ℕ) (p n : ℕ) → length (p ∷ ps) ≤ 1 → has (p ∷ ps) n ≡ true → p ≡ n
only_one [] p n l h = has_one p n h
only_one (q ∷ ps) p n l h = absurd (omega (arith, l))

module _ (k : ℕ) (f : Flow) (traces : List Trace) (outs : List TraceOut) (all : AreSound k f traces outs) where
  pub count : length (code_nodes f.nodes) ≡ length f.nodes
  count = length_code f.nodes
    where
      length_code : (ns : List Node) → length (code_nodes ns) ≡ length ns
      length_code [] = refl
      length_code (n ∷ ns) = ap suc (length_code ns)

  -- the predecessors of a node
  pub preds_are : (to : ℕ) → to < length f.nodes → (node_at f.nodes to).preds ≡ preds_of (code_nodes f.nodes) to
  preds_are to l = all.valid.preds to (node_at f.nodes to) (slice_get-get_or f.nodes to no_node l)

  pub pred_leads : (to p : ℕ) → to < length f.nodes → has (node_at f.nodes to).preds p ≡ true → leads (code_nodes f.nodes) to p ≡ true
  pred_leads to p l h = sym (has-preds_of (code_nodes f.nodes) to p) ∙ sym (ap (λ xs. has xs p) (preds_are to l)) ∙ h

  -- what ends in a test and leads to a node is its only predecessor
  alone : (to p : ℕ) → to < length f.nodes → p < length f.nodes → leads (code_nodes f.nodes) to p ≡ true → is_test (node_at f.nodes p).end ≡ true → length (node_at f.nodes to).preds ≤ 1
  alone to p l m h t =
      let here = slice_get-get_or f.nodes p no_node m in
      let few = all.valid.split p (node_at f.nodes p) here (two_successors (node_at f.nodes p).end t) to (sym (ap (λ (b : CodeBlock). has (successors b.end) to) (blocks_at f.nodes p)) ∙ h) in
      subst (λ (xs : List ℕ). length xs ≤ 1) (sym (preds_are to l)) few

  pub leads_below : (to p : ℕ) → leads (code_nodes f.nodes) to p ≡ true → p < length f.nodes
  leads_below to p h = by_bound f.nodes p h
    where
      by_bound : (ns : List Node) (p : ℕ) → has (successors (block_at (code_nodes ns) p).end) to ≡ true → p < length ns
      by_bound [] p h = cc
      by_bound (n ∷ ns) zero h = omega arith
      by_bound (n ∷ ns) (suc p) h = let l = by_bound ns p h in omega (arith, l)

  -- behind a jump no step stands at the head of the target
  no_steps : (from to : ℕ) → to < length f.nodes → leads (code_nodes f.nodes) to from ≡ true → is_test (node_at f.nodes from).end ≡ false → test_steps f traces outs to ≡ []
  no_steps from to l h j = by_preds (node_at f.nodes to).preds refl
    where
      by_test : (p : ℕ) (ps : List ℕ) → (node_at f.nodes to).preds ≡ p ∷ ps → (b : Bool) → is_test (node_at f.nodes p).end ≡ b → cond b (steps_between traces outs p to (λ v. v)) [] ≡ []
      by_test p ps e false t = refl
      by_test p ps e true t =
          let first : has (p ∷ ps) p ≡ true = ap (λ b. cond b true (has ps p)) (eq-eqb p p refl) in
          let edge = pred_leads to p l (ap (λ xs. has xs p) e ∙ first) in
          let few = alone to p l (leads_below to p edge) edge t in
          let there : has (p ∷ ps) from ≡ true = sym (ap (λ xs. has xs from) e) ∙ ap (λ xs. has xs from) (preds_are to l) ∙ has-preds_of (code_nodes f.nodes) to from ∙ h in
          let same = only_one ps p from (subst (λ (xs : List ℕ). length xs ≤ 1) e few) there in
          let wrong : true ≡ false = sym t ∙ ap (λ n. is_test (node_at f.nodes n).end) same ∙ j in
          cc

      by_preds : (ps : List ℕ) → (node_at f.nodes to).preds ≡ ps → steps_from f traces outs ps to ≡ []
      by_preds [] e = refl
      by_preds (p ∷ ps) e = by_test p ps e (is_test (node_at f.nodes p).end) refl

  pub over : (from to : ℕ) → from < length f.nodes → to < length f.nodes → has (successors (block_at (code_nodes f.nodes) from).end) to ≡ true
      → TakeOver (end_at traces outs from) (start_at traces outs to) (carried_by (block_at (code_nodes f.nodes) from).end (block_at (code_nodes f.nodes) to).params) (left_by (block_at (code_nodes f.nodes) from).end (copies_of (jump_steps f traces outs from)) ++ copies_of (test_steps f traces outs to))
  over from to l m h =
      subst (λ (b : CodeBlock). TakeOver (end_at traces outs from) (start_at traces outs to) (carried_by b.end (block_at (code_nodes f.nodes) to).params) (left_by b.end (copies_of (jump_steps f traces outs from)) ++ copies_of (test_steps f traces outs to))) (sym (blocks_at f.nodes from))
      (subst (λ (b : CodeBlock). TakeOver (end_at traces outs from) (start_at traces outs to) (carried_by (node_at f.nodes from).end b.params) (left_by (node_at f.nodes from).end (copies_of (jump_steps f traces outs from)) ++ copies_of (test_steps f traces outs to))) (sym (blocks_at f.nodes to))
      (by_end (node_at f.nodes from).end refl held))
    where
      held : TakesOver (end_at traces outs from) (start_at traces outs to) (argument_by (node_at f.nodes from).end (node_at f.nodes to).params) (steps_source (cond (is_test (node_at f.nodes from).end) (test_steps f traces outs to) (jump_steps f traces outs from)))
      held = (edges_hold_all k f traces outs all).edge from to l h

      by_end : (e : End) → (node_at f.nodes from).end ≡ e → TakesOver (end_at traces outs from) (start_at traces outs to) (argument_by e (node_at f.nodes to).params) (steps_source (cond (is_test e) (test_steps f traces outs to) (jump_steps f traces outs from)))
          → TakeOver (end_at traces outs from) (start_at traces outs to) (carried_by e (node_at f.nodes to).params) (left_by e (copies_of (jump_steps f traces outs from)) ++ copies_of (test_steps f traces outs to))
      by_end (Jump target args) e t =
          let none = no_steps from to m h (ap is_test e) in
          let js = copies_of (jump_steps f traces outs from) in
          let same : js ++ copies_of (test_steps f traces outs to) ≡ js = ap (λ (ss : List Step). js ++ copies_of ss) none ∙ append-nil js in
          subst (λ (ms : List Copy). TakeOver (end_at traces outs from) (start_at traces outs to) (carried_by (Jump target args) (node_at f.nodes to).params) ms) (sym same)
          (take_over (end_at traces outs from) (start_at traces outs to) (argument_by (Jump target args) (node_at f.nodes to).params) (jump_steps f traces outs from) t)
      by_end (Branch c a b one other) e t = take_over (end_at traces outs from) (start_at traces outs to) (λ v. v) (test_steps f traces outs to) t
      by_end (Nonzero a one other) e t = take_over (end_at traces outs from) (start_at traces outs to) (λ v. v) (test_steps f traces outs to) t
      by_end (Return a) e t = let wrong : false ≡ true = sym (ap (λ (b : CodeBlock). has (successors b.end) to) (blocks_at f.nodes from) ∙ ap (λ y. has (successors y) to) e) ∙ h in cc
      by_end (Trap kind) e t = let wrong : false ≡ true = sym (ap (λ (b : CodeBlock). has (successors b.end) to) (blocks_at f.nodes from) ∙ ap (λ y. has (successors y) to) e) ∙ h in cc
