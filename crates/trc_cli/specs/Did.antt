-- What was done for words, and told.
use Rattle.std.specs.Prelude.{◌≡◌, ℕ, List, Option}
use Rattle.outside.specs.Sink.{Account}
use Rattle.word_requests.specs.Asked.{Asked}
use Rattle.trc_words.specs.Asked.{asked}
use Rattle.trc_answers.specs.declared.causes.Outcome.{Outcome}
use Rattle.trc_answers.specs.Causes.{status_of}
use Rattle.trc_answers.specs.Verdict.{world}
use Rattle.trc_answers.specs.Answers.{Answers, Devices}
use Rattle.trc_cli.specs.Commands.{ComesTo, FaultsOnlyInExec, FilesUse, InputUse}
use Rattle.trc_cli.specs.Lines.{IsTold}

-- what was asked for was answered: the devices before and after, the error output before and after, and the answer
pub record Did (request : Option Asked) (old new : Devices) (before after : Account) (outcome : Outcome) : Type 0 where
  pub answers : Answers (λ left. ComesTo (world old.held left) request) old new outcome.cause
  pub unread : InputUse request old new
  pub untouched : FilesUse request old new
  pub no_fault : FaultsOnlyInExec request outcome.cause
  pub status : outcome.status ≡ status_of outcome.cause
  pub told : IsTold old.held request before after outcome.cause

-- some words were, with this status
pub record DidSome (old new : Devices) (before after : Account) (status : ℕ) : Type 0 where
  pub words : List (List ℕ)
  pub outcome : Outcome
  pub did : Did (asked words) old new before after outcome
  pub is : status ≡ outcome.status
