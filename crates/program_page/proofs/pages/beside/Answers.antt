use Rattle.std.proofs.Common.{sym, subst}
use Rattle.shown_program.specs.words.alloc_choice.Choice.{IsFitChoice}
use Rattle.program_page.proofs.Told.{fit}
use Rattle.program_page.proofs.pages.beside.Goals as goal

pub shown_program-requires-clause-choice : goal.shown_program-requires-clause-choice
shown_program-requires-clause-choice g c κs within = subst IsFitChoice (sym c.with_policy.ensures) (fit c.args.choice.now c.in-Some.policy c.requires.choice)
