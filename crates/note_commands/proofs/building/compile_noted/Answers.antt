use Rattle.note_laws.specs.noted_image.Faults.{TellsWithNotes}
use Rattle.trc_texts.proofs.Named.{names_text}
use Rattle.note_commands.proofs.building.compile_noted.Goals as goal

pub refused-requires-clause-named : goal.refused-requires-clause-named
refused-requires-clause-named g c = names_text c.args.texts.now c.in-Err.refusal (TellsWithNotes c.args.choice.now) c.in-Err.ensures.refused
