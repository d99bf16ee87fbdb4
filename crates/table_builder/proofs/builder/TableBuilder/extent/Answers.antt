use Rattle.std.proofs.Common.{ℕ, ◌*◌, ap, ap₂, ◌∙◌}
use Rattle.ob_types.specs.declared.types.Extent.{Extent}
use Rattle.ob_judge.specs.Shapes.{extent as extent_of}
use Rattle.check_types.specs.TypeMeaning.{type_shape}
use Rattle.check_types.specs.Known.{known_of}
use Rattle.table_builder.specs.Cells.{most_cells, counted_extent, innermost, elements_in}
use Rattle.table_builder.proofs.Counts.{capped_both}
use Rattle.table_builder.proofs.Repeated.{extent_by_elements}
use Rattle.table_builder.proofs.builder.TableBuilder.extent.Goals as goal

pub returns : goal.returns
returns c =
    let known = known_of c.args.self.now.table in
    let shape = type_shape c.args.self.now.table.types c.args.of in
    let own = c.own_extent-own.ensures ∙ ap (λ s. counted_extent (extent_of known s)) c.elements-elements.ensures.innermost in
    c.counted.ensures
    ∙ ap₂ (λ (k n : ℕ). counted_extent (record { bytes = k * n; wide = c.own_extent-own.result.wide })) c.from-count.ensures c.from.ensures
    ∙ ap₂ (λ (n : ℕ) (x : Extent). counted_extent (record { bytes = n * x.bytes; wide = x.wide })) c.elements-elements.ensures.count own
    ∙ ap (λ (n : ℕ). record { bytes = n; wide = (extent_of known (innermost shape)).wide }) (capped_both most_cells (elements_in shape) (extent_of known (innermost shape)).bytes)
    ∙ ap counted_extent (extent_by_elements known shape)
