use Rattle.meaning_commands.proofs.Once.{mean_once}
use Rattle.meaning_commands.proofs.laws.meanings_come_to_one.Goals as goal

pub returns : goal.returns
returns c =
    mean_once c.texts_have_one_meaning.ensures c.texts_have_one_lowering.ensures c.texts_have_one_first_fault.ensures.fault c.texts_have_one_first_fault.ensures.apart
