use Rattle.object_form.proofs.Objects.{object_again}
use Rattle.object_form.proofs.laws.written_objects_are_read.Goals as goal

pub returns : goal.returns
returns c = object_again
