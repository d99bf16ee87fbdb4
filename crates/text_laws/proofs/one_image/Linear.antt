-- Linear scan and the trivial result by rows with the same bits.
use Rattle.std.proofs.Common.{◌≡◌, ℕ, ◌+◌, List, [], ◌∷◌, map, Option, Some, None, refl, ap, ◌∙◌}
use Rattle.std.specs.Prelude.{filter, replicate, slice_get}
use Rattle.block_runs.specs.declared.end.End.{End}
use Rattle.lir_core.specs.declared.flow.Node.{Node}
use Rattle.lir_core.specs.declared.flow.Flow.{Flow}
use Rattle.lir_core.specs.declared.places.Places.{Places}
use Rattle.lir_core.specs.Rows.{has_bit}
use Rattle.trace_needs.specs.Needs.{first_of, next_need}
use Rattle.loc_state.specs.declared.part.Part.{Part}
use Rattle.loc_state.specs.declared.forward.Forward.{Forward}
use Rattle.loc_state.specs.Steps.{places, started, closed, in_part}
use Rattle.linear_scan.specs.Policy.{from, drop_dead}
use Rattle.linear_scan.specs.Starts.{arguments_of, if_live, start_behind, start_afresh}
use Rattle.linear_scan.specs.Linear.{Case, Hint, params_of, end_of, end_position, position_behind, result_of, first_start, next_start, in_node, behind, along, result_by, need_in, linear}
use Rattle.simple_policies.specs.trivial.Trivial.{trivial, trivial_start}
use Rattle.source_image.specs.alloc_choice.Results.{case_with}
use Rattle.text_laws.proofs.one_image.Needs.{live_into_same, positions_same}

module _ (f : Flow) (regs : ℕ) (rows others : List (List ℕ)) (e : has_bit rows ≡ has_bit others) where
  abbrev one : Case
  one = case_with f rows regs

  abbrev other : Case
  other = case_with f others regs

  need_same : (ns : List ℕ) → need_in one ns ≡ need_in other ns
  need_same ns = λ k v p. next_need (positions_same rows others e f ns k) v p

  module _ (need : ℕ → ℕ → Option ℕ) where
    first_start_same : (n : ℕ) (hint : Option Hint) → first_start one need n hint ≡ first_start other need n hint
    first_start_same n None = λ k. start_afresh (from need 0) regs (live_into_same rows others e f.values n k) (params_of (slice_get f.nodes n))
    first_start_same n (Some h) = λ k. start_behind (from need 0) (e k n) (params_of (slice_get f.nodes n)) (end_of (slice_get f.nodes h.node)) h.places

    next_start_same : (p : ℕ) (end : End) (q : Places) (next : Option ℕ) → next_start one need p end q next ≡ next_start other need p end q next
    next_start_same p end q None = refl
    next_start_same p end q (Some n) = λ k. Some (start_behind (from need p) (e k n) (params_of (slice_get f.nodes n)) (arguments_of end) q)

    module _ (drops : ℕ → List ℕ → Part → Part) where
      behind_same : (p : ℕ) (node : Option Node) (next : Option ℕ) (t : Forward) → behind one need drops p node next t ≡ behind other need drops p node next t
      behind_same p None next t = refl
      behind_same p (Some node) next t =
          ap (λ start. closed start (in_part (in_node one need drops p node) t)) (next_start_same (end_position p node + 1) node.end (places (in_node one need drops p node t.part)) next)

      along_same : (p : ℕ) (ns : List ℕ) (t : Forward) → along one need drops p ns t ≡ along other need drops p ns t
      along_same p [] t = refl
      along_same p (n ∷ ns) t =
          let q = position_behind p (slice_get f.nodes n) in
          ap (along one need drops q ns) (behind_same p (slice_get f.nodes n) (first_of ns) t) ∙ along_same q ns (behind other need drops p (slice_get f.nodes n) (first_of ns) t)

      result_same : (number : ℕ) (ns : List ℕ) (hint : Option Hint) → result_by one need drops number ns hint ≡ result_by other need drops number ns hint
      result_same number [] hint = refl
      result_same number (n ∷ ns) hint =
          ap (λ start. result_of number (along one need drops 0 (n ∷ ns) (started start))) (first_start_same n hint) ∙ ap (result_of number) (along_same 0 (n ∷ ns) (started (first_start other need n hint)))

  pub linear_same : (number : ℕ) (ns : List ℕ) (hint : Option Hint) → linear one number ns hint ≡ linear other number ns hint
  linear_same number ns hint =
      let need = need_in other ns in
      ap (λ need. result_by one need (λ p vs t. drop_dead need p t) number ns hint) (need_same ns) ∙ result_same need (λ p vs t. drop_dead need p t) number ns hint

  start_same : (n : ℕ) (hint : Option Hint) → trivial_start one n hint ≡ trivial_start other n hint
  start_same n None = λ k. record { regs = replicate regs None; homed = live_into_same rows others e f.values n k }
  start_same n (Some h) = λ k. record { regs = map (if_live (e k n)) h.places.regs; homed = filter (e k n) h.places.homed }

  pub trivial_same : (number : ℕ) (ns : List ℕ) (hint : Option Hint) → trivial one number ns hint ≡ trivial other number ns hint
  trivial_same number [] hint = refl
  trivial_same number (n ∷ ns) hint = λ k. record { trace = number; starts = start_same n hint k ∷ []; ends = start_same n hint k ∷ []; lines = [] ∷ []; regs = [] ∷ [] }
