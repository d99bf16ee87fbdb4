use Rattle.std.proofs.Common.{map, string_bytes}
use Rattle.clap.specs.Words.{app_of}
use Rattle.command_words.proofs.Taking.{taken, refused}
use Rattle.command_words.proofs.matching.matches.Goals as goal

pub returns-in-Ok : goal.returns-in-Ok
returns-in-Ok c = taken (app_of c.args.command) (map string_bytes c.args.words.now) c.in-Ok.matches c.requires (c.in-Ok.ensures.kinds c.requires) c.in-Ok.ensures.matches

pub returns-in-Err : goal.returns-in-Err
returns-in-Err c = refused (app_of c.args.command) (map string_bytes c.args.words.now) c.in-Err.error _ (c.in-Err.ensures.kinds c.requires) c.fault.ensures
