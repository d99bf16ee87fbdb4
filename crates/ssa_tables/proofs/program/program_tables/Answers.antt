use Rattle.std.proofs.Common.{ap₂, ◌∙◌, arith}
use Rattle.ssa_tables.specs.Places.{module_finish, type_cells_by}
use Rattle.ssa_tables.proofs.Limits.{globals_passed, first_within, module_cells_are}
use Rattle.ssa_tables.proofs.program.program_tables.Goals as goal

pub returns-then-module_cells-gt1048576-clause-limit : goal.returns-then-module_cells-gt1048576-clause-limit
returns-then-module_cells-gt1048576-clause-limit c =
    let p = c.args.program.now in
    let a = c.module_cells.ensures ∙ ap₂ (λ s ms. module_finish (type_cells_by s) 1 ms) c.as_slice.ensures c.as_slice-2.ensures ∙ module_cells_are p c.in-Ok.counts c.in-Ok.ensures in
    globals_passed p (omega (arith, c.if-len-gt4096.false, c.len.ensures)) (omega (arith, a, c.if-module_cells-gt1048576.true))

pub returns-in-Ok-shared-clause-within : goal.returns-in-Ok-shared-clause-within
returns-in-Ok-shared-clause-within c =
    let p = c.args.program.now in
    let a = c.module_cells.ensures ∙ ap₂ (λ s ms. module_finish (type_cells_by s) 1 ms) c.as_slice.ensures c.as_slice-2.ensures ∙ module_cells_are p c.in-Ok.counts c.in-Ok.ensures in
    first_within p (omega (arith, c.if-len-gt4096.false, c.len.ensures)) (omega (arith, a, c.if-module_cells-gt1048576.false))
