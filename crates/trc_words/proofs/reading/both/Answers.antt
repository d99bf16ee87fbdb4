use Rattle.std.proofs.Common.{map, string_bytes}
use Rattle.word_requests.specs.Asked.{both_asked}
use Rattle.command_words.specs.Commands.{both_command}
use Rattle.trc_words.proofs.Matching.{asks_refused, asks_taken}
use Rattle.trc_words.proofs.reading.both.Goals as goal

pub returns : goal.returns
returns c = asks_taken both_command (map string_bytes c.args.words.now) c.in_ok-matches.matches both_asked c.both_request.result c.in_ok-matches.ensures c.both_request.ensures

pub returns-in_err-matches : goal.returns-in_err-matches
returns-in_err-matches c = asks_refused both_command (map string_bytes c.args.words.now) both_asked c.in_err-matches.field-0.0 c.from_residual.result c.in_err-matches.ensures c.from_residual.ensures.1
