use Rattle.trc_answers.proofs.Answering.{long_bytes}
use Rattle.trc_answers.specs.Reading.{IsTooLong}
use Rattle.std.proofs.Common.{refl}
use Rattle.trc_answers.proofs.reading.read_text.Goals as goal

pub returns-in-Err-TooLong-clause-fault : goal.returns-in-Err-TooLong-clause-fault
returns-in-Err-TooLong-clause-fault g c =
    let told = rw c.in-Err-TooLong.field-0-is at c.in-Err-TooLong.ensures.tells in
    let long = long_bytes _ _ 1048576 told in
    IsTooLong long.0 long.1 long.2 refl
