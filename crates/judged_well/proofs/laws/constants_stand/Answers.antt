use Rattle.judged_well.proofs.Constants.{t_constant}
use Rattle.judged_well.proofs.laws.constants_stand.Goals as goal

pub returns : goal.returns
returns c = t_constant
