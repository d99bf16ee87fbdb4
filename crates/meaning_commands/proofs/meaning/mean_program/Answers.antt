use Rattle.std.proofs.Common.{sym, subst}
use Rattle.meaning_commands.specs.Inputs.{IsGiven}
use Rattle.meaning_commands.proofs.Meant.{done, not_done}
use Rattle.meaning_commands.proofs.meaning.mean_program.Goals as goal

pub returns-in-Ok-clause-answers : goal.returns-in-Ok-clause-answers
returns-in-Ok-clause-answers g c = λ held faults.
    done c.args.program.now c.args.turns _ _ _ _ held faults c.as_slice.result.now _ _ _
    (subst (IsGiven c.args.program.now.imports_in _ _) (sym c.as_slice.ensures.value) c.in-Ok.ensures.given) c.mean_on.ensures.answers

pub returns-in-Err-clause-answers : goal.returns-in-Err-clause-answers
returns-in-Err-clause-answers g c = λ held faults. not_done c.args.program.now c.args.turns _ _ _ _ held faults _ _ c.in-Err.ensures.fault
