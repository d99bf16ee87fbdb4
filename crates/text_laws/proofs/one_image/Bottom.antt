-- Bottom-up allocation by rows with the same bits.
use Rattle.std.proofs.Common.{◌≡◌, ℕ, ◌+◌, List, [], ◌∷◌, ◌++◌, Option, Some, None, refl, ap, ◌∙◌}
use Rattle.std.specs.Prelude.{filter, slice_get}
use Rattle.block_runs.specs.Blocks.{end_uses, successors}
use Rattle.block_runs.specs.Live.{has}
use Rattle.block_runs.specs.declared.end.End.{End}
use Rattle.lir_core.specs.declared.flow.Node.{Node}
use Rattle.lir_core.specs.declared.flow.Flow.{Flow}
use Rattle.lir_core.specs.declared.places.Places.{Places}
use Rattle.lir_core.specs.Lines.{end_reads}
use Rattle.lir_core.specs.Rows.{has_bit}
use Rattle.trace_needs.specs.Needs.{first_of, last_mention}
use Rattle.loc_back.specs.declared.backward.Backward.{Backward}
use Rattle.loc_back.specs.Marks.{live_at_each, at_start, at_end, with_marks, starts_marked, ends_marked}
use Rattle.loc_back.specs.Steps.{started, closed, in_part, before_node, left_node}
use Rattle.linear_scan.specs.Linear.{Case, end_position, position_behind}
use Rattle.bottom_up.specs.Policy.{take_all, operate_all}
use Rattle.bottom_up.specs.Ends.{given_at, homed_at, passed_home}
use Rattle.bottom_up.specs.Bottom.{made_along, live_first, homed_first, next_params, to_end, before_it, along, walked_back, result_of, mention_in, bottom_up}
use Rattle.source_image.specs.alloc_choice.Results.{case_with}
use Rattle.text_laws.proofs.one_image.Needs.{live_into_same, live_off_same, positions_same}

module _ (rows others : List (List ℕ)) (e : has_bit rows ≡ has_bit others) where
  each_same : (values : ℕ) (ss : List ℕ) → live_at_each values rows ss ≡ live_at_each values others ss
  each_same values [] = refl
  each_same values (s ∷ ss) = λ k. live_into_same rows others e values s k ++ each_same values ss k

  at_start_same : (values n : ℕ) (node : Option Node) → at_start values rows n node ≡ at_start values others n node
  at_start_same values n None = live_into_same rows others e values n
  at_start_same values n (Some node) = λ k. live_into_same rows others e values n k ++ node.params

  at_end_same : (values : ℕ) (node : Option Node) → at_end values rows node ≡ at_end values others node
  at_end_same values None = refl
  at_end_same values (Some node) = λ k. each_same values (successors node.end) k ++ end_uses node.end

  module _ (f : Flow) where
    starts_same : (homed ns : List ℕ) (qs : List Places) → starts_marked f rows homed ns qs ≡ starts_marked f others homed ns qs
    starts_same homed [] qs = refl
    starts_same homed (n ∷ ns) [] = refl
    starts_same homed (n ∷ ns) (q ∷ qs) = λ k. with_marks homed (at_start_same f.values n (slice_get f.nodes n) k) q ∷ starts_same homed ns qs k

    ends_same : (homed ns : List ℕ) (qs : List Places) → ends_marked f rows homed ns qs ≡ ends_marked f others homed ns qs
    ends_same homed [] qs = refl
    ends_same homed (n ∷ ns) [] = refl
    ends_same homed (n ∷ ns) (q ∷ qs) = λ k. with_marks homed (at_end_same f.values (slice_get f.nodes n) k) q ∷ ends_same homed ns qs k

    closed_same : (ns : List ℕ) (b : Backward) → closed f rows ns b ≡ closed f others ns b
    closed_same ns b =
        let l = left_node b in
        λ k. record l { starts = starts_same l.part.homed ns l.starts k; ends = ends_same l.part.homed ns l.ends k }

    module _ (regs : ℕ) where
      abbrev one : Case
      one = case_with f rows regs

      abbrev other : Case
      other = case_with f others regs

      mention_same : (ns : List ℕ) → mention_in one ns ≡ mention_in other ns
      mention_same ns = λ k v p. last_mention (positions_same rows others e f ns k) v p

      live_first_same : (ns : List ℕ) → live_first one ns ≡ live_first other ns
      live_first_same [] = refl
      live_first_same (n ∷ ns) = live_into_same rows others e f.values n

      homed_first_same : (ns : List ℕ) → homed_first one ns ≡ homed_first other ns
      homed_first_same ns = ap (λ vs. filter (has (made_along f.nodes ns)) vs) (live_first_same ns)

      homed_at_same : (next : Option ℕ) (params : List ℕ) (behind : List (Option ℕ)) (end : End) → homed_at f.values rows next params behind end ≡ homed_at f.values others next params behind end
      homed_at_same next params behind end = λ k. passed_home next params behind end ++ live_off_same rows others e f.values next (successors end) k

      to_end_same : (node : Node) (next : Option ℕ) (b : Backward) → to_end one node next b ≡ to_end other node next b
      to_end_same node next b =
          ap (λ homed. before_node (next_params one next) node.end (given_at next (next_params one next) b.part.regs node.end) homed b) (homed_at_same next (next_params one next) b.part.regs node.end)

      module _ (mention : ℕ → ℕ → Option ℕ) where
        before_same : (p : ℕ) (node : Option Node) (next : Option ℕ) (b : Backward) → before_it one mention p node next b ≡ before_it other mention p node next b
        before_same p None next b = refl
        before_same p (Some node) next b =
            ap (λ c. in_part (operate_all mention (p + 1) 0 node.lirs) (in_part (take_all mention (end_position p node) (end_reads node.end) (end_reads node.end)) c)) (to_end_same node next b)

        along_same : (p : ℕ) (ns : List ℕ) (b : Backward) → along one mention p ns b ≡ along other mention p ns b
        along_same p [] b = refl
        along_same p (n ∷ ns) b =
            let node = slice_get f.nodes n in
            ap (λ c. before_it one mention p node (first_of ns) c) (along_same (position_behind p node) ns b) ∙ before_same p node (first_of ns) (along other mention (position_behind p node) ns b)

        walked_same : (ns : List ℕ) → walked_back one mention ns ≡ walked_back other mention ns
        walked_same ns =
            let start = started (homed_first other ns) regs in
            let whole : along one mention 0 ns (started (homed_first one ns) regs) ≡ along other mention 0 ns start = ap (λ homed. along one mention 0 ns (started homed regs)) (homed_first_same ns) ∙ along_same 0 ns start in
            ap (λ b. closed f rows ns b) whole ∙ closed_same ns (along other mention 0 ns start)

      pub bottom_up_same : (number : ℕ) (ns : List ℕ) → bottom_up one number ns ≡ bottom_up other number ns
      bottom_up_same number ns = ap (λ mention. result_of number (walked_back one mention ns)) (mention_same ns) ∙ ap (result_of number) (walked_same (mention_in other ns) ns)
