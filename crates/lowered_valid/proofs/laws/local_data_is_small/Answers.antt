use Rattle.lowered_valid.proofs.Modest.{all_small}
use Rattle.lowered_valid.proofs.laws.local_data_is_small.Goals as goal

pub returns : goal.returns
returns c = all_small
