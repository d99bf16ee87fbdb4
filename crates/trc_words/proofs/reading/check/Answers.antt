use Rattle.std.proofs.Common.{map, string_bytes}
use Rattle.word_requests.specs.Asked.{check_asked}
use Rattle.command_words.specs.Commands.{check_command}
use Rattle.trc_words.proofs.Matching.{asks_refused, asks_taken}
use Rattle.trc_words.proofs.reading.check.Goals as goal

pub returns : goal.returns
returns c = asks_taken check_command (map string_bytes c.args.words.now) c.in_ok-matches.matches check_asked c.check_request.result c.in_ok-matches.ensures c.check_request.ensures

pub returns-in_err-matches : goal.returns-in_err-matches
returns-in_err-matches c = asks_refused check_command (map string_bytes c.args.words.now) check_asked c.in_err-matches.field-0.0 c.from_residual.result c.in_err-matches.ensures c.from_residual.ensures.1
