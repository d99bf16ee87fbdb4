use Rattle.std.proofs.Common.{◌∷◌, ◌++◌, [], ◌∙◌, cond, Some, ap, refl}
use Rattle.std.specs.Prelude.{min}
use Rattle.std.specs.Str.{bytes_eq}
use Rattle.table_builder.specs.Cells.{most_cells}
use Rattle.check_types.specs.Fields.{at_fields}
use Rattle.check_making.proofs.new_types.fields.with_field.Goals as goal

pub returns-clause-with : goal.returns-clause-with
returns-clause-with c = record {
  module_number = refl;
  line = refl;
  added = c.in_ok-push.ensures.items ∙ ap (λ n. c.args.layout.added.items ++ record { name = n; exported = c.args.entry.exported; of = c.args.entry.of } ∷ []) (c.in_ok-name.ensures ∙ c.spelled-bytes.ensures);
  fields = λ q. c.in_ok-fields.ensures.with q
      ∙ ap (λ name. cond (bytes_eq name q) (Some c.args.entry) (at_fields c.args.layout.fields q)) (c.in_ok-key.ensures.items ∙ c.spelled-bytes.ensures);
  cells = c.capped-all.ensures.is ∙ ap (min most_cells) c.saturating_add.ensures;
  extent = c.with_part.ensures;
}
