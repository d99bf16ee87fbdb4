-- The line that tells how a command ended.
use Rattle.std.specs.Prelude.{Option}
use Rattle.outside.specs.Files.{Held}
use Rattle.outside.specs.Sink.{Account}
use Rattle.trc_answers.specs.declared.places.Position.{Position}
use Rattle.word_requests.specs.Asked.{Asked}
use Rattle.trc_answers.specs.declared.causes.Cause.{Cause}
use Rattle.trc_answers.specs.Causes.{IsPlaced, TookLine, line_of}
use Rattle.trc_cli.specs.Commands.{IsTextOf, first_module, names_read}

-- the error output took the cause's line, with the place of a rule that is broken, or its count of faults rose
pub record IsTold (held : Option Held) (asked : Option Asked) (old new : Account) (cause : Cause) : Type 0 where
  pub place : Position
  pub placed : IsPlaced (IsTextOf held asked) cause place
  pub told : TookLine old new (line_of (names_read asked) (first_module asked) place cause)
