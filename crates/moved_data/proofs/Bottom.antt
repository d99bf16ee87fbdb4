-- Bottom-up allocation in a flow without the places of data.
use Rattle.std.proofs.Common.{◌≡◌, ℕ, ◌+◌, List, [], ◌∷◌, ◌++◌, map, Option, Some, None, refl, ap, ap₂, ◌∙◌}
use Rattle.std.specs.Prelude.{filter, slice_get}
use Rattle.std.specs.Option.{option_map}
use Rattle.block_runs.specs.declared.code.Code.{Code}
use Rattle.block_runs.specs.declared.code.Code.TheVariants.{Global}
use Rattle.block_runs.specs.Live.{has}
use Rattle.lir_core.specs.declared.flow.Lir.{Lir}
use Rattle.lir_core.specs.declared.flow.Node.{Node}
use Rattle.lir_core.specs.declared.flow.Flow.{Flow}
use Rattle.lir_core.specs.declared.places.Places.{Places}
use Rattle.lir_core.specs.Lines.{end_reads}
use Rattle.trace_needs.specs.Needs.{first_of, last_mention}
use Rattle.loc_back.specs.declared.part.BackPart.{BackPart}
use Rattle.loc_back.specs.declared.backward.Backward.{Backward}
use Rattle.loc_back.specs.Marks.{at_start, at_end, with_marks, starts_marked, ends_marked}
use Rattle.loc_back.specs.Steps.{started, closed, in_part, before_node, left_node}
use Rattle.linear_scan.specs.Linear.{Case, params_of, end_position, position_behind}
use Rattle.bottom_up.specs.Policy.{take_all, operate, operate_all}
use Rattle.bottom_up.specs.Ends.{given_at, homed_at}
use Rattle.bottom_up.specs.Bottom.{made_by, made_along, live_first, homed_first, next_params, to_end, before_it, along, walked_back, result_of, mention_in, bottom_up}
use Rattle.alloc_choice.specs.Results.{case_with}
use Rattle.moved_code.specs.Code.{unplaced_code}
use Rattle.moved_data.specs.Alike.{unplaced_lir, unplaced_node, unplaced}
use Rattle.moved_data.proofs.Nodes.{get_same}
use Rattle.moved_data.proofs.Living.{defs_same}
use Rattle.moved_data.proofs.Needs.{positions_same}
use Rattle.moved_data.proofs.Linear.{params_same, position_same, behind_position}

---- A node

module _ (mention : ℕ → ℕ → Option ℕ) where
  by_code : (c : Code) (p i : ℕ) (x : Lir) (t : BackPart) → operate mention p i (record x { template = unplaced_code c }) t ≡ operate mention p i (record x { template = c }) t
  by_code (Global n) p i x t = refl
  by_code c p i x t = refl

  operate_same : (p i : ℕ) (x : Lir) (t : BackPart) → operate mention p i (unplaced_lir x) t ≡ operate mention p i x t
  operate_same p i x t = by_code x.template p i x t

  operations_same : (p i : ℕ) (xs : List Lir) (t : BackPart) → operate_all mention p i (map unplaced_lir xs) t ≡ operate_all mention p i xs t
  operations_same p i [] t = refl
  operations_same p i (x ∷ xs) t = ap (operate mention p i (unplaced_lir x)) (operations_same (p + 1) (i + 1) xs t) ∙ operate_same p i x (operate_all mention (p + 1) (i + 1) xs t)

made_same : (node : Option Node) → made_by (option_map unplaced_node node) ≡ made_by node
made_same None = refl
made_same (Some node) = ap (λ ds. node.params ++ ds) (defs_same node.lirs)

start_marks : (values : ℕ) (rows : List (List ℕ)) (n : ℕ) (node : Option Node) → at_start values rows n (option_map unplaced_node node) ≡ at_start values rows n node
start_marks values rows n None = refl
start_marks values rows n (Some node) = refl

end_marks : (values : ℕ) (rows : List (List ℕ)) (node : Option Node) → at_end values rows (option_map unplaced_node node) ≡ at_end values rows node
end_marks values rows None = refl
end_marks values rows (Some node) = refl

module _ (f : Flow) (rows : List (List ℕ)) where
  starts_same : (homed ns : List ℕ) (qs : List Places) → starts_marked (unplaced f) rows homed ns qs ≡ starts_marked f rows homed ns qs
  starts_same homed [] qs = refl
  starts_same homed (n ∷ ns) [] = refl
  starts_same homed (n ∷ ns) (q ∷ qs) =
      ap₂ (λ vs rest. with_marks homed vs q ∷ rest) (ap (at_start f.values rows n) (get_same f.nodes n) ∙ start_marks f.values rows n (slice_get f.nodes n)) (starts_same homed ns qs)

  ends_same : (homed ns : List ℕ) (qs : List Places) → ends_marked (unplaced f) rows homed ns qs ≡ ends_marked f rows homed ns qs
  ends_same homed [] qs = refl
  ends_same homed (n ∷ ns) [] = refl
  ends_same homed (n ∷ ns) (q ∷ qs) =
      ap₂ (λ vs rest. with_marks homed vs q ∷ rest) (ap (at_end f.values rows) (get_same f.nodes n) ∙ end_marks f.values rows (slice_get f.nodes n)) (ends_same homed ns qs)

  closed_same : (ns : List ℕ) (b : Backward) → closed (unplaced f) rows ns b ≡ closed f rows ns b
  closed_same ns b =
      let l = left_node b in
      λ k. record l { starts = starts_same l.part.homed ns l.starts k; ends = ends_same l.part.homed ns l.ends k }

  made_along_same : (ns : List ℕ) → made_along (unplaced f).nodes ns ≡ made_along f.nodes ns
  made_along_same [] = refl
  made_along_same (n ∷ ns) = ap₂ (λ a b. a ++ b) (ap made_by (get_same f.nodes n) ∙ made_same (slice_get f.nodes n)) (made_along_same ns)

  module _ (regs : ℕ) where
    abbrev one : Case
    one = case_with (unplaced f) rows regs

    abbrev other : Case
    other = case_with f rows regs

    mention_same : (ns : List ℕ) → mention_in one ns ≡ mention_in other ns
    mention_same ns = λ k v p. last_mention (positions_same f rows ns k) v p

    live_first_same : (ns : List ℕ) → live_first one ns ≡ live_first other ns
    live_first_same [] = refl
    live_first_same (n ∷ ns) = refl

    homed_first_same : (ns : List ℕ) → homed_first one ns ≡ homed_first other ns
    homed_first_same ns = ap₂ (λ vs ls. filter (has vs) ls) (made_along_same ns) (live_first_same ns)

    next_params_same : (next : Option ℕ) → next_params one next ≡ next_params other next
    next_params_same None = refl
    next_params_same (Some m) = ap params_of (get_same f.nodes m) ∙ params_same (slice_get f.nodes m)

    to_end_same : (node : Node) (next : Option ℕ) (b : Backward) → to_end one (unplaced_node node) next b ≡ to_end other node next b
    to_end_same node next b =
        ap (λ ps. before_node ps node.end (given_at next ps b.part.regs node.end) (homed_at f.values rows next ps b.part.regs node.end) b) (next_params_same next)

    module _ (mention : ℕ → ℕ → Option ℕ) where
      before_node_same : (p : ℕ) (node : Node) (next : Option ℕ) (b : Backward) → before_it one mention p (Some (unplaced_node node)) next b ≡ before_it other mention p (Some node) next b
      before_node_same p node next b =
          ap₂ (λ q c. in_part (operate_all mention (p + 1) 0 (map unplaced_lir node.lirs)) (in_part (take_all mention q (end_reads node.end) (end_reads node.end)) c)) (position_same p node) (to_end_same node next b)
          ∙ ap (λ part. record (to_end other node next b) { part = part }) (operations_same mention (p + 1) 0 node.lirs (take_all mention (end_position p node) (end_reads node.end) (end_reads node.end) (to_end other node next b).part))

      before_same : (p : ℕ) (node : Option Node) (next : Option ℕ) (b : Backward) → before_it one mention p (option_map unplaced_node node) next b ≡ before_it other mention p node next b
      before_same p None next b = refl
      before_same p (Some node) next b = before_node_same p node next b

      along_same : (p : ℕ) (ns : List ℕ) (b : Backward) → along one mention p ns b ≡ along other mention p ns b
      along_same p [] b = refl
      along_same p (n ∷ ns) b =
          let node = slice_get f.nodes n in
          ap (λ o. before_it one mention p o (first_of ns) (along one mention (position_behind p o) ns b)) (get_same f.nodes n)
          ∙ ap (λ q. before_it one mention p (option_map unplaced_node node) (first_of ns) (along one mention q ns b)) (behind_position p node)
          ∙ ap (before_it one mention p (option_map unplaced_node node) (first_of ns)) (along_same (position_behind p node) ns b)
          ∙ before_same p node (first_of ns) (along other mention (position_behind p node) ns b)

      walked_same : (ns : List ℕ) → walked_back one mention ns ≡ walked_back other mention ns
      walked_same ns =
          let start = started (homed_first other ns) regs in
          let whole : along one mention 0 ns (started (homed_first one ns) regs) ≡ along other mention 0 ns start = ap (λ homed. along one mention 0 ns (started homed regs)) (homed_first_same ns) ∙ along_same 0 ns start in
          ap (λ b. closed (unplaced f) rows ns b) whole ∙ closed_same ns (along other mention 0 ns start)

    pub bottom_up_same : (number : ℕ) (ns : List ℕ) → bottom_up one number ns ≡ bottom_up other number ns
    bottom_up_same number ns = ap (λ mention. result_of number (walked_back one mention ns)) (mention_same ns) ∙ ap (result_of number) (walked_same (mention_in other ns) ns)
