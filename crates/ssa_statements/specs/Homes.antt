-- Where scalar variables are, as the definitions have it.
use Rattle.ssa_lowered.specs.Values.{Register, Memory}
use Rattle.ssa_lowered.specs.Values.{Home as HomeOf}
use Rattle.ssa_statements.specs.declared.homes.Home.{Home}
use Rattle.ssa_statements.specs.declared.homes.Home.TheVariants as The

abbrev pub home_value : Home → HomeOf
home_value (The.Register x) = Register x
home_value (The.Memory a small) = Memory a small
