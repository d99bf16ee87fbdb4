use Rattle.one_meaning.proofs.Programs.{one_meaning}
use Rattle.one_meaning.proofs.laws.forms_have_one_meaning.Goals as goal

pub returns : goal.returns
returns c = one_meaning
