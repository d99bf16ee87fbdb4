use Rattle.object_form.proofs.Objects.{one_object}
use Rattle.object_form.proofs.laws.bytes_have_one_object.Goals as goal

pub returns : goal.returns
returns c = one_object
