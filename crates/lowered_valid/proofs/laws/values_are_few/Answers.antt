use Rattle.lowered_valid.proofs.Modest.{all_few}
use Rattle.lowered_valid.proofs.laws.values_are_few.Goals as goal

pub returns : goal.returns
returns c = all_few
