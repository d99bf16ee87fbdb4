use Rattle.std.proofs.Common.{◌*◌, ap, ap₂, ◌∙◌}
use Rattle.std.specs.Prelude.{min}
use Rattle.ob_judge.specs.Shapes.{cells as cells_of}
use Rattle.check_types.specs.TypeMeaning.{type_shape}
use Rattle.check_types.specs.Known.{known_of}
use Rattle.table_builder.specs.Cells.{most_cells, innermost, elements_in}
use Rattle.table_builder.proofs.Counts.{capped_both}
use Rattle.table_builder.proofs.Repeated.{cells_by_elements}
use Rattle.table_builder.proofs.builder.TableBuilder.cells.Goals as goal

pub returns : goal.returns
returns c =
    let known = known_of c.args.self.now.table in
    let shape = type_shape c.args.self.now.table.types c.args.of in
    c.capped.ensures.is
    ∙ ap (λ n. min most_cells (n * c.own_cells.result)) c.from-count.ensures
    ∙ ap₂ (λ n k. min most_cells (n * k)) c.elements-elements.ensures.count (c.own_cells.ensures.is ∙ ap (λ s. min most_cells (cells_of known s)) c.elements-elements.ensures.innermost)
    ∙ capped_both most_cells (elements_in shape) (cells_of known (innermost shape))
    ∙ ap (min most_cells) (cells_by_elements known shape)
