use Rattle.ssa_tables.proofs.constants.Counted.{constants_length, constants_whole}
use Rattle.ssa_tables.proofs.constants.laws.constants_are_counted.Goals as goal

pub returns : goal.returns
returns c = record { few = constants_length; whole = constants_whole }
