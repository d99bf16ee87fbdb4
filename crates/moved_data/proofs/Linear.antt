-- Linear scan and the trivial result in a flow without the places of data.
use Rattle.std.proofs.Common.{◌≡◌, ℕ, ◌+◌, List, [], ◌∷◌, map, Option, Some, None, refl, ap, ap₂, ◌∙◌}
use Rattle.std.specs.Prelude.{slice_get}
use Rattle.std.specs.Option.{option_map}
use Rattle.block_runs.specs.declared.code.Code.{Code}
use Rattle.block_runs.specs.declared.code.Code.TheVariants.{Global}
use Rattle.block_runs.specs.declared.end.End.{End}
use Rattle.lir_core.specs.declared.flow.Lir.{Lir}
use Rattle.lir_core.specs.declared.flow.Node.{Node}
use Rattle.lir_core.specs.declared.flow.Flow.{Flow}
use Rattle.lir_core.specs.declared.places.Places.{Places}
use Rattle.lir_core.specs.Rows.{has_bit, live_into}
use Rattle.lir_core.specs.Lines.{end_reads}
use Rattle.trace_needs.specs.Needs.{first_of, next_need}
use Rattle.loc_state.specs.declared.part.Part.{Part}
use Rattle.loc_state.specs.declared.forward.Forward.{Forward}
use Rattle.loc_state.specs.Steps.{places, started, closed, in_part}
use Rattle.linear_scan.specs.Policy.{from, drop_dead, bring_all, operate, operate_all}
use Rattle.linear_scan.specs.Starts.{arguments_of, start_behind, start_afresh}
use Rattle.linear_scan.specs.Linear.{Case, Hint, params_of, end_of, end_position, position_behind, result_of, first_start, next_start, in_node, behind, along, result_by, need_in, linear}
use Rattle.simple_policies.specs.trivial.Trivial.{trivial}
use Rattle.alloc_choice.specs.Results.{case_with}
use Rattle.moved_code.specs.Code.{unplaced_code}
use Rattle.moved_data.specs.Alike.{unplaced_lir, unplaced_node, unplaced}
use Rattle.moved_data.proofs.Nodes.{map_length, get_same}
use Rattle.moved_data.proofs.Needs.{positions_same}

---- A node

pub params_same : (node : Option Node) → params_of (option_map unplaced_node node) ≡ params_of node
params_same None = refl
params_same (Some node) = refl

ends_same : (node : Option Node) → end_of (option_map unplaced_node node) ≡ end_of node
ends_same None = refl
ends_same (Some node) = refl

pub position_same : (p : ℕ) (node : Node) → end_position p (unplaced_node node) ≡ end_position p node
position_same p node = ap (λ n. p + 1 + n) (map_length unplaced_lir node.lirs)

pub behind_position : (p : ℕ) (node : Option Node) → position_behind p (option_map unplaced_node node) ≡ position_behind p node
behind_position p None = refl
behind_position p (Some node) = ap (λ q. q + 1) (position_same p node)

module _ (need : ℕ → ℕ → Option ℕ) (drops : ℕ → List ℕ → Part → Part) where
  by_code : (c : Code) (p i : ℕ) (x : Lir) (t : Part) → operate need drops p i (record x { template = unplaced_code c }) t ≡ operate need drops p i (record x { template = c }) t
  by_code (Global n) p i x t = refl
  by_code c p i x t = refl

  operate_same : (p i : ℕ) (x : Lir) (t : Part) → operate need drops p i (unplaced_lir x) t ≡ operate need drops p i x t
  operate_same p i x t = by_code x.template p i x t

  operations_same : (p i : ℕ) (xs : List Lir) (t : Part) → operate_all need drops p i (map unplaced_lir xs) t ≡ operate_all need drops p i xs t
  operations_same p i [] t = refl
  operations_same p i (x ∷ xs) t = ap (operate_all need drops (p + 1) (i + 1) (map unplaced_lir xs)) (operate_same p i x t) ∙ operations_same (p + 1) (i + 1) xs (operate need drops p i x t)

module _ (f : Flow) (rows : List (List ℕ)) (regs : ℕ) where
  abbrev one : Case
  one = case_with (unplaced f) rows regs

  abbrev other : Case
  other = case_with f rows regs

  need_same : (ns : List ℕ) → need_in one ns ≡ need_in other ns
  need_same ns = λ k v p. next_need (positions_same f rows ns k) v p

  module _ (need : ℕ → ℕ → Option ℕ) where
    params_at : (n : ℕ) → params_of (slice_get (unplaced f).nodes n) ≡ params_of (slice_get f.nodes n)
    params_at n = ap params_of (get_same f.nodes n) ∙ params_same (slice_get f.nodes n)

    end_at : (n : ℕ) → end_of (slice_get (unplaced f).nodes n) ≡ end_of (slice_get f.nodes n)
    end_at n = ap end_of (get_same f.nodes n) ∙ ends_same (slice_get f.nodes n)

    first_start_same : (n : ℕ) (hint : Option Hint) → first_start one need n hint ≡ first_start other need n hint
    first_start_same n None = ap (λ ps. start_afresh (from need 0) regs (live_into f.values rows n) ps) (params_at n)
    first_start_same n (Some h) = ap₂ (λ ps es. start_behind (from need 0) (has_bit rows n) ps es h.places) (params_at n) (end_at h.node)

    next_start_same : (p : ℕ) (end : End) (q : Places) (next : Option ℕ) → next_start one need p end q next ≡ next_start other need p end q next
    next_start_same p end q None = refl
    next_start_same p end q (Some n) = ap (λ ps. Some (start_behind (from need p) (has_bit rows n) ps (arguments_of end) q)) (params_at n)

    module _ (drops : ℕ → List ℕ → Part → Part) where
      in_node_same : (p : ℕ) (node : Node) (t : Part) → in_node one need drops p (unplaced_node node) t ≡ in_node other need drops p node t
      in_node_same p node t =
          ap₂ (λ q u. bring_all need q (end_reads node.end) (end_reads node.end) u) (position_same p node) (operations_same need drops (p + 1) 0 node.lirs t)

      behind_node : (p : ℕ) (node : Node) (next : Option ℕ) (t : Forward) → behind one need drops p (Some (unplaced_node node)) next t ≡ behind other need drops p (Some node) next t
      behind_node p node next t =
          ap₂ (λ q part. closed (next_start one need (q + 1) node.end (places part) next) (record t { part = part })) (position_same p node) (in_node_same p node t.part)
          ∙ ap (λ start. closed start (in_part (in_node other need drops p node) t)) (next_start_same (end_position p node + 1) node.end (places (in_node other need drops p node t.part)) next)

      behind_same : (p : ℕ) (node : Option Node) (next : Option ℕ) (t : Forward) → behind one need drops p (option_map unplaced_node node) next t ≡ behind other need drops p node next t
      behind_same p None next t = refl
      behind_same p (Some node) next t = behind_node p node next t

      along_same : (p : ℕ) (ns : List ℕ) (t : Forward) → along one need drops p ns t ≡ along other need drops p ns t
      along_same p [] t = refl
      along_same p (n ∷ ns) t =
          let node = slice_get f.nodes n in
          ap (λ o. along one need drops (position_behind p o) ns (behind one need drops p o (first_of ns) t)) (get_same f.nodes n)
          ∙ ap₂ (λ q u. along one need drops q ns u) (behind_position p node) (behind_same p node (first_of ns) t)
          ∙ along_same (position_behind p node) ns (behind other need drops p node (first_of ns) t)

      result_same : (number : ℕ) (ns : List ℕ) (hint : Option Hint) → result_by one need drops number ns hint ≡ result_by other need drops number ns hint
      result_same number [] hint = refl
      result_same number (n ∷ ns) hint =
          ap (λ start. result_of number (along one need drops 0 (n ∷ ns) (started start))) (first_start_same n hint) ∙ ap (result_of number) (along_same 0 (n ∷ ns) (started (first_start other need n hint)))

  pub linear_same : (number : ℕ) (ns : List ℕ) (hint : Option Hint) → linear one number ns hint ≡ linear other number ns hint
  linear_same number ns hint =
      let need = need_in other ns in
      ap (λ need. result_by one need (λ p vs t. drop_dead need p t) number ns hint) (need_same ns) ∙ result_same need (λ p vs t. drop_dead need p t) number ns hint

  pub trivial_same : (number : ℕ) (ns : List ℕ) (hint : Option Hint) → trivial one number ns hint ≡ trivial other number ns hint
  trivial_same number [] hint = refl
  trivial_same number (n ∷ ns) None = refl
  trivial_same number (n ∷ ns) (Some h) = refl
