use Rattle.std.proofs.Common.{◌∙◌, [], sym, ap, ap₂, subst, arith}
use Rattle.memory_devices.specs.MemSink.{account_of}
use Rattle.trc_answers.specs.Answers.{RunAnswers}
use Rattle.trc_answers.specs.Runs.{run_of}
use Rattle.trc_answers.specs.Verdict.{Prints}
use Rattle.trc_answers.proofs.Answering.{mapped}
use Rattle.trc_cli.specs.Commands.{SummaryComesTo, summary_of}
use Rattle.trc_cli.proofs.Summaries.{told_when_done, stopped}
use Rattle.trc_cli.proofs.bulk.run_and_tell.Goals as goal

pub returns-in-Done-clause-answers : goal.returns-in-Done-clause-answers
returns-in-Done-clause-answers g c = λ held faults left input_faults.
    let made = c.args.made in
    let outcome = run_of made.image [] c.args.steps in
    let before = c.in-Ok.written in
    let after = c.run_on.new.out in
    let ran = subst (λ i. RunAnswers made.image.places (run_of made.image i c.args.steps) (account_of before) (account_of after) c.run_on.result) c.new-3.ensures.items
    (subst (λ image. RunAnswers image.places (run_of image c.new-3.result.items c.args.steps) (account_of before) (account_of after) c.run_on.result) c.image_alone.ensures c.run_on.ensures.answers) in
    let done = subst (RunAnswers made.image.places outcome (account_of before) (account_of after)) c.in-Done.is ran in
    let is = told_when_done made outcome before after (ap (λ s. s.taken) c.in-Ok.ensures) done in
    mapped _ (λ _. SummaryComesTo c.args.steps made) _ _ _
    (λ _ v it. it ∙ ap₂ (λ n w. Prints (summary_of n w)) c.counted-counts.ensures c.bytes.ensures ∙ sym is)
    (c.tell.ensures.answers held faults left input_faults)

pub returns : goal.returns
returns g c =
    let made = c.args.made in
    let outcome = run_of made.image [] c.args.steps in
    let before = c.in-Ok.written in
    let after = c.run_on.new.out in
    let ran = subst (λ i. RunAnswers made.image.places (run_of made.image i c.args.steps) (account_of before) (account_of after) c.run_on.result) c.new-3.ensures.items
    (subst (λ image. RunAnswers image.places (run_of image c.new-3.result.items c.args.steps) (account_of before) (account_of after) c.run_on.result) c.image_alone.ensures c.run_on.ensures.answers) in
    record {
      answers = λ held faults left input_faults.
          stopped made outcome (account_of before) (account_of after) c.run_on.result ran c.in_default-run_on.not-Done c.in_default-run_on.not-WriteFault held faults left input_faults (g.O.Sink.account c.args.out.now);
      plain = c.run_on.ensures.plain;
      rises = omega arith;
    }
