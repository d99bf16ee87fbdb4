use Rattle.std.proofs.Common.{map, string_bytes}
use Rattle.word_requests.specs.Asked.{compare_asked}
use Rattle.command_words.specs.Commands.{compare_command}
use Rattle.trc_words.proofs.Matching.{asks_refused, asks_taken}
use Rattle.trc_words.proofs.reading.compare.Goals as goal

pub returns : goal.returns
returns c = asks_taken compare_command (map string_bytes c.args.words.now) c.in_ok-matches.matches compare_asked c.compare_request.result c.in_ok-matches.ensures c.compare_request.ensures

pub returns-in_err-matches : goal.returns-in_err-matches
returns-in_err-matches c = asks_refused compare_command (map string_bytes c.args.words.now) compare_asked c.in_err-matches.field-0.0 c.from_residual.result c.in_err-matches.ensures c.from_residual.ensures.1
