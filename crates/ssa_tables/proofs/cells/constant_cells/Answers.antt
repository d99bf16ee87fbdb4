use Rattle.std.proofs.Common.{◌*◌, min, List, length, ap, ◌∙◌}
use Rattle.ob_types.specs.Meaning.{texts_of}
use Rattle.ob_types.specs.declared.types.RecordType.{RecordType}
use Rattle.ssa_tables.specs.Places.{finish, string_cells}
use Rattle.ssa_tables.proofs.Limits.{constants_counted}
use Rattle.ssa_tables.proofs.cells.constant_cells.Goals as goal

pub returns : goal.returns
returns c =
    constants_counted c.args.program.now c.descriptor_cells-first.result c.behind_procedures.result
    (c.descriptor_cells-first.ensures ∙ ap (λ (rs : List RecordType). min (16 * length rs) 16777215) c.records.ensures)
    (c.behind_procedures.ensures ∙ ap (λ qs. finish string_cells c.descriptor_cells-first.result (texts_of qs)) c.as_slice.ensures)
