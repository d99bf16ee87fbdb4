use Rattle.ssa_tables.proofs.Rooms.{globals_length, globals_whole}
use Rattle.ssa_tables.proofs.constants.laws.globals_are_counted.Goals as goal

pub returns : goal.returns
returns c = record { few = globals_length; whole = globals_whole }
