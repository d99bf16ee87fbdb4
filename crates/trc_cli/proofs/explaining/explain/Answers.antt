use Rattle.std.proofs.Common.{refl}
use Rattle.explanations.specs.Explained.{explanation}
use Rattle.trc_answers.proofs.Answering.{lacks, prints}
use Rattle.trc_cli.proofs.explaining.explain.Goals as goal

pub returns-in-Ok-clause-answers : goal.returns-in-Ok-clause-answers
returns-in-Ok-clause-answers g c = λ held faults left input_faults.
    prints _ (explanation c.args.topic) held faults left input_faults _ _ _ refl
    (rw (← c.in-Ok.ensures, ← c.as_slice.ensures.value) c.print.ensures.answers)

pub returns-in-Err-clause-answers : goal.returns-in-Err-clause-answers
returns-in-Err-clause-answers g c = λ held faults left input_faults. lacks _ held held faults faults left input_faults _ _ refl refl
