use Rattle.std.proofs.Common.{Ok, map, refl, string_bytes}
use Rattle.word_requests.specs.declared.request.Request.TheVariants.{Help}
use Rattle.word_requests.specs.Asked.{help_asked}
use Rattle.command_words.specs.Commands.{help_command}
use Rattle.trc_words.proofs.Matching.{asks_refused, asks_taken}
use Rattle.trc_words.proofs.reading.help.Goals as goal

pub returns : goal.returns
returns c = asks_taken help_command (map string_bytes c.args.words.now) c.in_ok-_matches._matches help_asked (Ok Help) c.in_ok-_matches.ensures refl

pub returns-in_err-_matches : goal.returns-in_err-_matches
returns-in_err-_matches c = asks_refused help_command (map string_bytes c.args.words.now) help_asked c.in_err-_matches.field-0.0 c.from_residual.result c.in_err-_matches.ensures c.from_residual.ensures.1
