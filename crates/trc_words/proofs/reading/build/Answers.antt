use Rattle.std.proofs.Common.{map, string_bytes}
use Rattle.word_requests.specs.Asked.{build_asked}
use Rattle.command_words.specs.Commands.{build_command}
use Rattle.trc_words.proofs.Matching.{asks_refused, asks_taken}
use Rattle.trc_words.proofs.reading.build.Goals as goal

pub returns : goal.returns
returns c = asks_taken build_command (map string_bytes c.args.words.now) c.in_ok-matches.matches build_asked c.build_request.result c.in_ok-matches.ensures c.build_request.ensures

pub returns-in_err-matches : goal.returns-in_err-matches
returns-in_err-matches c = asks_refused build_command (map string_bytes c.args.words.now) build_asked c.in_err-matches.field-0.0 c.from_residual.result c.in_err-matches.ensures c.from_residual.ensures.1
