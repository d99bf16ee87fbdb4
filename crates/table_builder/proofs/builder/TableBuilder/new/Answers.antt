use Rattle.std.proofs.Common.{ap, ◌∙◌}
use Rattle.table_builder.proofs.Basics.{basics_built}
use Rattle.table_builder.proofs.builder.TableBuilder.new.Goals as goal

pub returns-clause-built : goal.returns-clause-built
returns-clause-built c =
    basics_built _ _ _ _ _ _ c.in_ok-push_basics.ensures.sound (c.in_ok-push_basics.ensures.records ∙ ap (λ t. t.records) c.empty_table-table.ensures.types) (c.in_ok-push_basics.ensures.signatures ∙ ap (λ t. t.signatures) c.empty_table-table.ensures.types)
    c.in_ok-push_basics.ensures.entries (ap (λ bs. bs.items) c.in_ok-push_basics.ensures.bases ∙ c.empty_table-table.ensures.bases) (ap (λ ls. ls.items) c.in_ok-push_basics.ensures.layouts ∙ c.empty_table-table.ensures.layouts) c.new.ensures c.in_ok-elements.ensures
