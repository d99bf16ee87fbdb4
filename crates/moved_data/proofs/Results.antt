-- The results of the traces of a flow without the places of data.
use Rattle.std.proofs.Common.{◌≡◌, ℕ, zero, suc, ◌+◌, cond, List, [], ◌∷◌, ◌++◌, map, filter, Option, Some, None, refl, ap, ap₂, ◌∙◌}
use Rattle.std.specs.Prelude.{◌&&◌, slice_get, nat_le}
use Rattle.std.specs.List.{list_any}
use Rattle.std.specs.Option.{option_map}
use Rattle.run_laws.specs.Layers.{places_from}
use Rattle.block_runs.specs.declared.code.Code.{Code}
use Rattle.block_runs.specs.declared.code.Code.TheVariants.{Global}
use Rattle.block_runs.specs.Live.{has}
use Rattle.lir_core.specs.declared.flow.Lir.{Lir}
use Rattle.lir_core.specs.declared.flow.Node.{Node}
use Rattle.lir_core.specs.declared.flow.Flow.{Flow}
use Rattle.lir_core.specs.declared.flow.Trace.{Trace}
use Rattle.lir_core.specs.declared.places.TraceOut.{TraceOut}
use Rattle.lir_core.specs.Flows.{code_nodes, node_at}
use Rattle.lir_core.specs.Lines.{end_reads}
use Rattle.trace_build.specs.Parents.{trace_at, enters}
use Rattle.trace_needs.specs.Needs.{first_of}
use Rattle.linear_scan.specs.Linear.{Case, Hint}
use Rattle.linear_scan.specs.Inputs.{hint_at}
use Rattle.simple_policies.specs.plain.Plain.{picked, in_homes, is_at_start, is_at_end, plain_start, plain_end, lir_lines, lir_regs, lirs_lines, lirs_regs, loads, load_regs, node_lines, node_regs, plain_of, index_of}
use Rattle.alloc_choice.specs.declared.choice.Policy.{Policy}
use Rattle.alloc_choice.specs.declared.choice.Policy.TheVariants as policy
use Rattle.alloc_choice.specs.declared.choice.Used.{Used}
use Rattle.alloc_choice.specs.declared.choice.Used.TheVariants.{Plain, Trivial, Linear, BottomUp}
use Rattle.alloc_choice.specs.Choice.{is_jump, is_none, is_bare, is_trivial, freq_of, is_often, used}
use Rattle.alloc_choice.specs.Results.{case_with, result_by, parent_of, entering, hint_for, out_at, result_at, results_to}
use Rattle.moved_code.specs.Code.{unplaced_code}
use Rattle.moved_data.specs.Alike.{unplaced_lir, unplaced_node, unplaced}
use Rattle.moved_data.proofs.Nodes.{node_same, get_same, leads_same, preds_same}
use Rattle.moved_data.proofs.Linear.{linear_same, trivial_same}
use Rattle.moved_data.proofs.Bottom.{bottom_up_same}

---- Plain

lines_by_code : (c : Code) (i : ℕ) (x : Lir) → lir_lines i (record x { template = unplaced_code c }) ≡ lir_lines i (record x { template = c })
lines_by_code (Global n) i x = refl
lines_by_code c i x = refl

lines_same : (i : ℕ) (xs : List Lir) → lirs_lines i (map unplaced_lir xs) ≡ lirs_lines i xs
lines_same i [] = refl
lines_same i (x ∷ xs) = ap₂ (λ a b. a ++ b) (lines_by_code x.template i x) (lines_same (suc i) xs)

regs_same : (xs : List Lir) → lirs_regs (map unplaced_lir xs) ≡ lirs_regs xs
regs_same [] = refl
regs_same (x ∷ xs) = ap (λ rs. lir_regs x ++ rs) (regs_same xs)

node_lines_same : (node : Node) → node_lines (unplaced_node node) ≡ node_lines node
node_lines_same node = ap (λ ls. ls ++ loads [] (end_reads node.end)) (lines_same 0 node.lirs)

node_regs_same : (node : Node) → node_regs (unplaced_node node) ≡ node_regs node
node_regs_same node = ap (λ rs. rs ++ load_regs [] (end_reads node.end)) (regs_same node.lirs)

module _ (f : Flow) (rows : List (List ℕ)) (regs : ℕ) where
  abbrev one : Case
  one = case_with (unplaced f) rows regs

  abbrev other : Case
  other = case_with f rows regs

  plain_start_same : (n : ℕ) → plain_start regs (unplaced f) rows n ≡ plain_start regs f rows n
  plain_start_same n = ap (λ node. in_homes regs (picked f.values (is_at_start rows n node))) (node_same f.nodes n)

  plain_end_same : (n : ℕ) → plain_end regs (unplaced f) rows n ≡ plain_end regs f rows n
  plain_end_same n = ap (λ node. in_homes regs (picked f.values (is_at_end rows node.end))) (node_same f.nodes n)

  lines_at : (n : ℕ) → node_lines (node_at (unplaced f).nodes n) ≡ node_lines (node_at f.nodes n)
  lines_at n = ap node_lines (node_same f.nodes n) ∙ node_lines_same (node_at f.nodes n)

  regs_at : (n : ℕ) → node_regs (node_at (unplaced f).nodes n) ≡ node_regs (node_at f.nodes n)
  regs_at n = ap node_regs (node_same f.nodes n) ∙ node_regs_same (node_at f.nodes n)

  plain_same : (number : ℕ) (ns : List ℕ) → plain_of regs (unplaced f) rows number ns ≡ plain_of regs f rows number ns
  plain_same number ns = λ k. record {
    trace = number;
    starts = map (λ n. plain_start_same n k) ns;
    ends = map (λ n. plain_end_same n k) ns;
    lines = map (λ n. lines_at n k) ns;
    regs = map (λ n. regs_at n k) ns;
  }

  ---- Which policy is used

  no_lirs : (xs : List Lir) → is_none (map unplaced_lir xs) ≡ is_none xs
  no_lirs [] = refl
  no_lirs (x ∷ xs) = refl

  bare_same : (node : Option Node) → is_bare (option_map unplaced_node node) ≡ is_bare node
  bare_same None = refl
  bare_same (Some node) = ap (λ b. is_jump node.end && (is_none node.params && b)) (no_lirs node.lirs)

  trivial_is : (ns : List ℕ) → is_trivial (unplaced f).nodes ns ≡ is_trivial f.nodes ns
  trivial_is [] = refl
  trivial_is (n ∷ []) = ap is_bare (get_same f.nodes n) ∙ bare_same (slice_get f.nodes n)
  trivial_is (n ∷ (m ∷ ns)) = refl

  freq_same : (node : Option Node) → freq_of (option_map unplaced_node node) ≡ freq_of node
  freq_same None = refl
  freq_same (Some node) = refl

  often_is : (ns : List ℕ) → is_often (unplaced f).nodes ns ≡ is_often f.nodes ns
  often_is ns = λ k. list_any (λ n. nat_le 1048576 ((ap freq_of (get_same f.nodes n) ∙ freq_same (slice_get f.nodes n)) k)) ns

  used_same : (p : Policy) (ns : List ℕ) → used p (unplaced f).nodes ns ≡ used p f.nodes ns
  used_same policy.Plain ns = refl
  used_same policy.Linear ns = ap (λ b. cond b Trivial Linear) (trivial_is ns)
  used_same policy.BottomUp ns = ap (λ b. cond b Trivial BottomUp) (trivial_is ns)
  used_same policy.Mixed ns = ap₂ (λ b c. cond b Trivial (cond c Linear BottomUp)) (trivial_is ns) (often_is ns)

  ---- Hints

  enters_same : (from to : List ℕ) → enters (code_nodes (unplaced f).nodes) from to ≡ enters (code_nodes f.nodes) from to
  enters_same from [] = refl
  enters_same from (head ∷ rest) = λ k. list_any (leads_same f.nodes k head) from

  parent_same : (traces : List Trace) (t : ℕ) → parent_of (code_nodes (unplaced f).nodes) traces t ≡ parent_of (code_nodes f.nodes) traces t
  parent_same traces t = λ k. first_of (filter (λ s. enters_same (trace_at traces s).nodes (trace_at traces t).nodes k) (places_from 0 t))

  entering_same : (ns : List ℕ) (head : ℕ) → entering (code_nodes (unplaced f).nodes) ns head ≡ entering (code_nodes f.nodes) ns head
  entering_same ns head = ap (λ ps. first_of (filter (has ns) ps)) (preds_same f.nodes head)

  hint_same : (traces : List Trace) (outs : List TraceOut) (head parent : Option ℕ) → hint_for (code_nodes (unplaced f).nodes) traces outs head parent ≡ hint_for (code_nodes f.nodes) traces outs head parent
  hint_same traces outs None parent = refl
  hint_same traces outs (Some head) None = refl
  hint_same traces outs (Some head) (Some p) = ap (option_map (λ n. hint_at (trace_at traces p) (out_at outs p) (index_of (trace_at traces p).nodes n))) (entering_same (trace_at traces p).nodes head)

  ---- Results

  by_same : (used : Used) (number : ℕ) (ns : List ℕ) (hint : Option Hint) → result_by used one number ns hint ≡ result_by used other number ns hint
  by_same Plain number ns hint = plain_same number ns
  by_same Trivial number ns hint = trivial_same f rows regs number ns hint
  by_same Linear number ns hint = linear_same f rows regs number ns hint
  by_same BottomUp number ns hint = bottom_up_same f rows regs number ns

  at_same : (p : Policy) (first : ℕ) (traces : List Trace) (outs : List TraceOut) (t : ℕ) → result_at p one first traces outs t ≡ result_at p other first traces outs t
  at_same p first traces outs t =
      let ns = (trace_at traces t).nodes in
      let head = first_of ns in
      ap (λ u. result_by u one (first + t) ns (hint_for (code_nodes (unplaced f).nodes) traces outs head (parent_of (code_nodes (unplaced f).nodes) traces t))) (used_same p ns)
      ∙ ap (λ parent. result_by (used p f.nodes ns) one (first + t) ns (hint_for (code_nodes (unplaced f).nodes) traces outs head parent)) (parent_same traces t)
      ∙ ap (λ hint. result_by (used p f.nodes ns) one (first + t) ns hint) (hint_same traces outs head (parent_of (code_nodes f.nodes) traces t))
      ∙ by_same (used p f.nodes ns) (first + t) ns (hint_for (code_nodes f.nodes) traces outs head (parent_of (code_nodes f.nodes) traces t))

  pub results_same : (p : Policy) (first : ℕ) (traces : List Trace) (n : ℕ) → results_to p one first traces n ≡ results_to p other first traces n
  results_same p first traces zero = refl
  results_same p first traces (suc t) =
      let before = results_to p other first traces t in
      ap (λ outs. outs ++ result_at p one first traces outs t ∷ []) (results_same p first traces t) ∙ ap (λ out. before ++ out ∷ []) (at_same p first traces before t)
