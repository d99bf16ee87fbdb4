use Rattle.std.proofs.Common.{map, string_bytes}
use Rattle.word_requests.specs.Asked.{audit_asked}
use Rattle.command_words.specs.Commands.{audit_command}
use Rattle.trc_words.proofs.Matching.{asks_refused, asks_taken}
use Rattle.trc_words.proofs.reading.audit.Goals as goal

pub returns : goal.returns
returns c = asks_taken audit_command (map string_bytes c.args.words.now) c.in_ok-matches.matches audit_asked c.audit_request.result c.in_ok-matches.ensures c.audit_request.ensures

pub returns-in_err-matches : goal.returns-in_err-matches
returns-in_err-matches c = asks_refused audit_command (map string_bytes c.args.words.now) audit_asked c.in_err-matches.field-0.0 c.from_residual.result c.in_err-matches.ensures c.from_residual.ensures.1
