use Rattle.compare_commands.proofs.Once.{compares_once}
use Rattle.compare_commands.proofs.laws.compares_come_to_one.Goals as goal

pub returns : goal.returns
returns c =
    compares_once c.lowerings_have_one_image.ensures c.texts_have_one_lowering.ensures c.texts_have_one_first_fault.ensures.fault c.texts_have_one_first_fault.ensures.apart
