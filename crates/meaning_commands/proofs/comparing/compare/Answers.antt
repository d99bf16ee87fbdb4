use Rattle.meaning_commands.proofs.Meant.{compared, not_compared}
use Rattle.meaning_commands.proofs.comparing.compare.Goals as goal

pub returns-in-Ok-clause-answers : goal.returns-in-Ok-clause-answers
returns-in-Ok-clause-answers g c = λ held faults.
    compared c.args.program.now c.args.image c.args.steps c.args.turns _ _ _ _ held faults c.in-Ok.bytes.items _ _ _ c.in-Ok.ensures.given c.compare_on.ensures.answers

pub returns-in-Err-clause-answers : goal.returns-in-Err-clause-answers
returns-in-Err-clause-answers g c = λ held faults.
    not_compared c.args.program.now c.args.image c.args.steps c.args.turns _ _ _ _ held faults _ _ c.in-Err.ensures.fault
