use Rattle.std.proofs.Common.{rules, ap, ◌∙◌}
use Rattle.std.proofs.lemmas.List.Sorted.{answers_always, IsNonDecreasingBy-from_sort_by_key}
use Rattle.trace_needs.specs.Tables.{row_in}
use Rattle.trace_needs.proofs.Halving.{same_row}
use Rattle.trace_needs.proofs.notes.Notes.by_value.Goals as goal

pub returns-clause-same_rows : goal.returns-clause-same_rows
returns-clause-same_rows c v =
    same_row c.self.inside.notes.items c.sort_by_key.new.self.items v (c.sort_by_key.ensures.stable (λ n. n.value) (answers_always _ _ _ (λ f a r g h. search rules)))
    ∙ ap (λ notes. row_in notes v) c.self.view_is

pub returns-clause-values_rise : goal.returns-clause-values_rise
returns-clause-values_rise c = IsNonDecreasingBy-from_sort_by_key (λ n. n.value) _ c.in_ok-sort_by_key.ensures.sorted (λ a r q k. search rules)
