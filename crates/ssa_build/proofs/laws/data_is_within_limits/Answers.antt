use Rattle.ssa_build.proofs.Within.{few_procedures, few_globals, few_constants}
use Rattle.ssa_build.proofs.laws.data_is_within_limits.Goals as goal

pub returns-clause-procedures : goal.returns-clause-procedures
returns-clause-procedures c = few_procedures

pub returns-clause-globals : goal.returns-clause-globals
returns-clause-globals c = few_globals

pub returns-clause-constants : goal.returns-clause-constants
returns-clause-constants c = few_constants
