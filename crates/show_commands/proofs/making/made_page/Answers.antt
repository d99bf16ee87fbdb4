use Rattle.std.proofs.Common.{map}
use Rattle.program_page.specs.Faults.{TellsOfPage}
use Rattle.program_page.specs.Pages.{wish_of}
use Rattle.trc_texts.proofs.Named.{names_text}
use Rattle.show_commands.proofs.making.made_page.Goals as goal

pub refused-requires-clause-named : goal.refused-requires-clause-named
refused-requires-clause-named g c =
    let asked = c.args.asked.now in
    names_text c.args.texts.now c.in-Err.refusal (TellsOfPage (wish_of (map (λ name. name.now) asked.names.now) c.args.texts.now asked.choice.now asked.policy)) c.in-Err.ensures.refused
