use Rattle.object_commands.proofs.Once.{object_once}
use Rattle.object_commands.proofs.laws.objects_come_to_one.Goals as goal

pub returns : goal.returns
returns c = object_once c.texts_have_one_first_fault.ensures.fault c.texts_have_one_first_fault.ensures.apart c.texts_have_one_lowering.ensures c.texts_have_one_refusal_of_traces.ensures
