-- The results of a flow's traces by rows with the same bits.
use Rattle.std.proofs.Common.{◌≡◌, ℕ, zero, suc, ◌+◌, List, [], ◌∷◌, ◌++◌, map, Option, refl, ap, ◌∙◌}
use Rattle.std.specs.Prelude.{◌||◌}
use Rattle.std.specs.List.{list_any}
use Rattle.block_runs.specs.Blocks.{end_uses, successors}
use Rattle.block_runs.specs.Live.{has}
use Rattle.lir_core.specs.declared.flow.Flow.{Flow}
use Rattle.lir_core.specs.declared.flow.Trace.{Trace}
use Rattle.lir_core.specs.declared.places.TraceOut.{TraceOut}
use Rattle.lir_core.specs.Flows.{code_nodes, node_at}
use Rattle.lir_core.specs.Rows.{has_bit}
use Rattle.trace_build.specs.Parents.{trace_at}
use Rattle.trace_needs.specs.Needs.{first_of}
use Rattle.linear_scan.specs.Linear.{Case, Hint}
use Rattle.simple_policies.specs.plain.Plain.{picked, in_homes, plain_start, plain_end, node_lines, node_regs, plain_of}
use Rattle.source_image.specs.alloc_choice.declared.choice.Policy.{Policy}
use Rattle.source_image.specs.alloc_choice.declared.choice.Used.{Used}
use Rattle.source_image.specs.alloc_choice.declared.choice.Used.TheVariants.{Plain, Trivial, Linear, BottomUp}
use Rattle.source_image.specs.alloc_choice.Choice.{used}
use Rattle.source_image.specs.alloc_choice.Results.{case_with, result_by, parent_of, hint_for, result_at, results_to}
use Rattle.text_laws.proofs.one_image.Linear.{linear_same, trivial_same}
use Rattle.text_laws.proofs.one_image.Bottom.{bottom_up_same}

module _ (rows others : List (List ℕ)) (e : has_bit rows ≡ has_bit others) (f : Flow) (regs : ℕ) where
  abbrev one : Case
  one = case_with f rows regs

  abbrev other : Case
  other = case_with f others regs

  plain_start_same : plain_start regs f rows ≡ plain_start regs f others
  plain_start_same = λ k n. in_homes regs (picked f.values (λ v. e k n v || has (node_at f.nodes n).params v))

  plain_end_same : plain_end regs f rows ≡ plain_end regs f others
  plain_end_same = λ k n. in_homes regs (picked f.values (λ v. list_any (λ to. e k to v) (successors (node_at f.nodes n).end) || has (end_uses (node_at f.nodes n).end) v))

  plain_same : (number : ℕ) (ns : List ℕ) → plain_of regs f rows number ns ≡ plain_of regs f others number ns
  plain_same number ns = λ k. record {
    trace = number;
    starts = map (plain_start_same k) ns;
    ends = map (plain_end_same k) ns;
    lines = map (λ n. node_lines (node_at f.nodes n)) ns;
    regs = map (λ n. node_regs (node_at f.nodes n)) ns;
  }

  by_same : (used : Used) (number : ℕ) (ns : List ℕ) (hint : Option Hint) → result_by used one number ns hint ≡ result_by used other number ns hint
  by_same Plain number ns hint = plain_same number ns
  by_same Trivial number ns hint = trivial_same f regs rows others e number ns hint
  by_same Linear number ns hint = linear_same f regs rows others e number ns hint
  by_same BottomUp number ns hint = bottom_up_same rows others e f regs number ns

  at_same : (p : Policy) (first : ℕ) (traces : List Trace) (outs : List TraceOut) (t : ℕ) → result_at p one first traces outs t ≡ result_at p other first traces outs t
  at_same p first traces outs t =
      let ns = (trace_at traces t).nodes in
      by_same (used p f.nodes ns) (first + t) ns (hint_for (code_nodes f.nodes) traces outs (first_of ns) (parent_of (code_nodes f.nodes) traces t))

  pub results_same : (p : Policy) (first : ℕ) (traces : List Trace) (n : ℕ) → results_to p one first traces n ≡ results_to p other first traces n
  results_same p first traces zero = refl
  results_same p first traces (suc t) =
      let before = results_to p other first traces t in
      ap (λ outs. outs ++ result_at p one first traces outs t ∷ []) (results_same p first traces t) ∙ ap (λ out. before ++ out ∷ []) (at_same p first traces before t)
