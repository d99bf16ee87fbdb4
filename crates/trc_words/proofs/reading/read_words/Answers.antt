use Rattle.std.proofs.Common.{map, string_bytes}
use Rattle.trc_words.proofs.Fitting.{fits_of}
use Rattle.trc_words.proofs.reading.read_words.Goals as goal

pub returns-in-Some-clause-fits : goal.returns-in-Some-clause-fits
returns-in-Some-clause-fits c = fits_of c.as_str.result.now (map string_bytes c.args.words.now) c.of_command.result c.of_command.ensures
