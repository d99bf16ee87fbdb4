use Rattle.std.proofs.Common.{sym, subst}
use Rattle.meaning_commands.specs.Inputs.{IsGiven}
use Rattle.compare_commands.proofs.Telling.{told, not_told}
use Rattle.compare_commands.proofs.comparing.tell_rows.Goals as goal

pub returns-in-Ok-clause-answers : goal.returns-in-Ok-clause-answers
returns-in-Ok-clause-answers g c = λ held faults.
    told c.args.wanted c.args.steps c.args.rows.items _ _ _ _ held faults c.as_slice.result.now _ _ _
    (subst (IsGiven c.args.wanted _ _) (sym c.as_slice.ensures.value) c.in-Ok.ensures.given) c.tell_on.ensures.answers

pub returns-in-Err-clause-answers : goal.returns-in-Err-clause-answers
returns-in-Err-clause-answers g c = λ held faults. not_told c.args.wanted c.args.steps c.args.rows.items _ _ _ _ held faults _ _ c.in-Err.ensures.fault
