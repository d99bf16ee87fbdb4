use Rattle.one_lowering.proofs.Programs.{one_lowering}
use Rattle.one_lowering.proofs.laws.forms_have_one_lowering.Goals as goal

pub returns : goal.returns
returns c = one_lowering
