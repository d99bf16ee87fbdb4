use Rattle.one_lowering.proofs.InOrder.{one_form}
use Rattle.one_lowering.proofs.laws.ordered_programs_have_one_form.Goals as goal

pub returns : goal.returns
returns c = one_form
