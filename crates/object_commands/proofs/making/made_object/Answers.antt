use Rattle.note_commands.specs.words.program_image.Faults.{TellsOfTraces}
use Rattle.note_commands.proofs.trc_texts.Named.{names_text}
use Rattle.object_commands.proofs.making.made_object.Goals as goal

pub refused-requires-clause-named : goal.refused-requires-clause-named
refused-requires-clause-named g c = names_text c.args.texts.now c.in-Err.refusal (TellsOfTraces c.args.choice.now) c.in-Err.ensures.refused
