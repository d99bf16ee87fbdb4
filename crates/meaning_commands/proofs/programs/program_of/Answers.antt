use Rattle.trc_texts.proofs.Named.{names_text}
use Rattle.meaning_commands.proofs.Refusing.{source_refused}
use Rattle.meaning_commands.proofs.programs.program_of.Goals as goal

pub returns-in-Ok-clause-program : goal.returns-in-Ok-clause-program
returns-in-Ok-clause-program c = record { of_texts = c.in-Ok.ensures.program; well_formed = c.in-Ok.ensures.well_formed }

pub refused-requires-clause-named : goal.refused-requires-clause-named
refused-requires-clause-named c =
    names_text c.args.texts.now c.refused_source.result (λ p fault. ⊥)
    (source_refused (λ p fault. ⊥) c.args.texts.now c.in-Err.fault c.refused_source.result c.refused_source.ensures c.in-Err.ensures.fault)

pub returns-in-Err-clause-refused : goal.returns-in-Err-clause-refused
returns-in-Err-clause-refused c = record {
  refusal = c.refused_source.result;
  is = source_refused (λ p fault. ⊥) c.args.texts.now c.in-Err.fault c.refused_source.result c.refused_source.ensures c.in-Err.ensures.fault;
  cause_is = c.refused.ensures.cause;
}
