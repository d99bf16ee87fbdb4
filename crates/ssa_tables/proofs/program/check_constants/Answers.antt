use Rattle.ssa_tables.proofs.Limits.{constants_passed, constants_within}
use Rattle.ssa_tables.proofs.program.check_constants.Goals as goal

pub returns-then-constant_cells-gt262144-clause-limit : goal.returns-then-constant_cells-gt262144-clause-limit
returns-then-constant_cells-gt262144-clause-limit c = constants_passed c.args.program.now c.constant_cells.result c.constant_cells.ensures c.if-constant_cells-gt262144.true

pub returns-clause-within : goal.returns-clause-within
returns-clause-within c = constants_within c.args.program.now c.constant_cells.result c.constant_cells.ensures c.if-constant_cells-gt262144.false
