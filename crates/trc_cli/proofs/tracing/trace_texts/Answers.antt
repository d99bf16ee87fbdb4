use Rattle.trc_cli.proofs.Endings.{has_traces, no_traces}
use Rattle.trc_cli.proofs.tracing.trace_texts.Goals as goal

pub returns-in-Ok-clause-answers : goal.returns-in-Ok-clause-answers
returns-in-Ok-clause-answers g c = λ held faults left input_faults.
    rw c.of.ensures (has_traces c.args.choice.now c.args.texts.now c.in-Ok.lines.items c.as_slice.result.now held faults left input_faults _ _ _ c.in-Ok.ensures.lines c.as_slice.ensures.value c.print.ensures.answers)

pub returns-in-Err-clause-answers : goal.returns-in-Err-clause-answers
returns-in-Err-clause-answers g c = λ held faults left input_faults.
    no_traces c.args.choice.now c.args.texts.now _ c.in-Err.ensures.refused held faults left input_faults _
