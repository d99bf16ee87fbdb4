use Rattle.image_words.specs.program_image.Faults.{Tells}
use Rattle.trc_texts.proofs.Named.{names_text}
use Rattle.trc_texts.proofs.compiling.compile.Goals as goal

pub refused-requires-clause-named : goal.refused-requires-clause-named
refused-requires-clause-named g c = names_text c.args.texts.now c.in-Err.refusal (Tells c.args.choice.now) c.in-Err.ensures.refused
