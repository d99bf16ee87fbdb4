use Rattle.judged_outlines.proofs.ends.Modules.{module_ends_well}
use Rattle.judged_outlines.proofs.ends.laws.modules_end_well.Goals as goal

pub returns : goal.returns
returns g = λ p m c d read is ends. module_ends_well p read m c ends d is
