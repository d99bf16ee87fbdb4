use Rattle.std.proofs.Common.{refl, ◌∙◌, subst}
use Rattle.trc_answers.specs.Answers.{PrintAnswers}
use Rattle.trc_answers.proofs.Answering.{prints}
use Rattle.trc_cli.specs.Commands.{summary_of}
use Rattle.trc_cli.proofs.bulk.tell.Goals as goal

pub returns-in-Ok-clause-answers : goal.returns-in-Ok-clause-answers
returns-in-Ok-clause-answers g c = λ held faults left input_faults.
    prints _ (summary_of c.args.counts c.args.written.now) held faults left input_faults _ _ _ refl
    (subst (λ lines. PrintAnswers lines (g.O.Sink.account c.args.out.now) (g.O.Sink.account c.print.new.out) c.print.result) (c.as_slice.ensures.value ∙ c.in-Ok.ensures) c.print.ensures.answers)
