use Rattle.std.proofs.Common.{Err, ap}
use Rattle.meaning_commands.proofs.Giving.{read_too_much}
use Rattle.meaning_commands.proofs.input.read_input.Goals as goal

pub returns-in-Err-TooLong-clause-fault : goal.returns-in-Err-TooLong-clause-fault
returns-in-Err-TooLong-clause-fault g c =
    read_too_much c.args.wanted _ _ _ _ c.if-not-wanted.false (c.in-Err-TooLong.ensures.too_long (ap Err c.in-Err-TooLong.field-0-is))
