use Rattle.std.proofs.Common.{◌≤◌, subst}
use Rattle.trc_texts.specs.words.alloc_choice.declared.choice.Choice.{Choice}
use Rattle.trc_texts.specs.words.compiled_runs.Compiled.{flows_of}
use Rattle.trace_build.specs.Traces.{traces_in}
use Rattle.trc_texts.specs.words.program_image.Faults.{TellsOfTraces}
use Rattle.trc_texts.specs.words.program_image.Limits.{most_traces}
use Rattle.trc_texts.proofs.Named.{names_text}
use Rattle.meaning_commands.specs.Programs.{usual_choice}
use Rattle.meaning_commands.proofs.Refusing.{program_refused, refused_so}
use Rattle.meaning_commands.proofs.programs.program_within.Goals as goal

pub returns-in-Err-clause-refused : goal.returns-in-Err-clause-refused
returns-in-Err-clause-refused c = refused_so (TellsOfTraces usual_choice) c.args.texts.now c.in-Err.ending.cause c.in-Err.ensures.refused

pub returns-in-Ok-program_traces-clause-within : goal.returns-in-Ok-program_traces-clause-within
returns-in-Ok-program_traces-clause-within c = record {
  within = c.in-Ok-program_traces.ensures.within;
  few = subst (λ (choice : Choice). traces_in choice.builder (flows_of c.in-Ok.program) ≤ most_traces) c.usual_choice.ensures c.in-Ok-program_traces.ensures.few;
}

pub refused-requires-clause-named : goal.refused-requires-clause-named
refused-requires-clause-named c =
    let p = c.in-Ok.program in
    let fault = c.in-Err-program_traces.fault in
    names_text c.args.texts.now c.refused_program.result (TellsOfTraces usual_choice)
    (program_refused (TellsOfTraces usual_choice) c.args.texts.now p c.in-Ok.ensures.program fault c.refused_program.result c.refused_program.ensures
    (subst (λ choice. TellsOfTraces choice p fault) c.usual_choice.ensures c.in-Err-program_traces.ensures.limit))

pub returns-in-Err-program_traces-clause-refused : goal.returns-in-Err-program_traces-clause-refused
returns-in-Err-program_traces-clause-refused c =
    let p = c.in-Ok.program in
    let fault = c.in-Err-program_traces.fault in
    record {
      refusal = c.refused_program.result;
      is = program_refused (TellsOfTraces usual_choice) c.args.texts.now p c.in-Ok.ensures.program fault c.refused_program.result c.refused_program.ensures
          (subst (λ choice. TellsOfTraces choice p fault) c.usual_choice.ensures c.in-Err-program_traces.ensures.limit);
      cause_is = c.refused.ensures.cause;
    }
