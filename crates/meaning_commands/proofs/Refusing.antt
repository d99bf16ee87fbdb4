-- Why texts are refused, from faults to refusals.
use Rattle.std.proofs.Common.{◌≡◌, ℕ, List, sym, subst}
use Rattle.ob_types.specs.declared.program.Program.{Program}
use Rattle.trc_texts.specs.words.program_image.declared.fault.ProgramFault.{ProgramFault}
use Rattle.trc_texts.specs.words.program_image.declared.fault.ProgramFault.TheVariants as whole
use Rattle.trc_texts.specs.words.source_program.Texts.{IsSourceFault}
use Rattle.trc_texts.specs.words.source_program.declared.fault.SourceFault.{SourceFault}
use Rattle.trc_texts.specs.words.source_program.declared.fault.SourceFault.TheVariants as source
use Rattle.trc_texts.specs.words.source_image.Refusals.{IsRefusalOf, of_program, of_source}
use Rattle.trc_texts.specs.words.source_image.declared.refusal.Refusal.{Refusal}
use Rattle.trc_texts.specs.words.source_image.declared.refusal.Refusal.TheVariants.{TooLong, Source, Limit, Memory}
use Rattle.trc_answers.specs.declared.causes.Cause.{Cause}
use Rattle.trc_texts.specs.Texts.{IsRefusedAs}
use Rattle.meaning_commands.specs.Programs.{AreProgram, IsNoProgram}

module _ (TellsOf : Program → ProgramFault → Type 0) (texts : List (List ℕ)) where
  source_told : (fault : SourceFault) → IsSourceFault texts fault → IsRefusalOf TellsOf texts (of_source fault)
  source_told (source.TooLong n) h = h
  source_told (source.Fault n number at) h = h
  source_told source.Memory h = tt

  pub source_refused : (fault : SourceFault) (refusal : Refusal) → refusal ≡ of_source fault → IsSourceFault texts fault → IsRefusalOf TellsOf texts refusal
  source_refused fault refusal e h = subst (IsRefusalOf TellsOf texts) (sym e) (source_told fault h)

  program_told : (p : Program) → AreProgram texts p → (fault : ProgramFault) → TellsOf p fault → IsRefusalOf TellsOf texts (of_program fault)
  program_told p x (whole.Limit n i) t = record { program = p; of_texts = x.of_texts; well_formed = x.well_formed; tells = t }
  program_told p x whole.Memory t = tt

  pub program_refused : (p : Program) → AreProgram texts p → (fault : ProgramFault) (refusal : Refusal) → refusal ≡ of_program fault → TellsOf p fault → IsRefusalOf TellsOf texts refusal
  program_refused p x fault refusal e t = subst (IsRefusalOf TellsOf texts) (sym e) (program_told p x fault t)

  no_program : (r : Refusal) → IsNoProgram texts r → IsRefusalOf TellsOf texts r
  no_program (TooLong n) h = h
  no_program (Source n number at) h = h
  no_program (Limit number index) h = absurd h.tells
  no_program Memory h = tt

  -- texts that are no program are refused by every way to tell of programs' faults
  pub refused_so : (cause : Cause) → IsRefusedAs (IsNoProgram texts) cause → IsRefusedAs (IsRefusalOf TellsOf texts) cause
  refused_so cause r = record { refusal = r.refusal; is = no_program r.refusal r.is; cause_is = r.cause_is }
