use Rattle.image_words.specs.program_image.Faults.{TellsOfTraces}
use Rattle.trc_texts.proofs.Named.{names_text}
use Rattle.trc_texts.proofs.compiling.trace_lines.Goals as goal

pub refused-requires-clause-named : goal.refused-requires-clause-named
refused-requires-clause-named c = names_text c.args.texts.now c.in-Err.refusal (TellsOfTraces c.args.choice.now) c.in-Err.ensures.refused
