use Rattle.show_commands.proofs.Once.{show_once}
use Rattle.show_commands.proofs.laws.shows_come_to_one.Goals as goal

pub returns : goal.returns
returns c = show_once c.lowerings_have_one_image.ensures c.texts_have_one_first_fault.ensures.fault c.texts_have_one_first_fault.ensures.apart c.texts_have_one_lowering.ensures
