use Rattle.std.proofs.Common.{refl}
use Rattle.trc_answers.specs.Reading.{NoBytes, IsNoFile}
use Rattle.trc_answers.proofs.Answering.{held_bytes, long_image, missing}
use Rattle.trc_answers.proofs.reading.read_image_file.Goals as goal

pub returns-in-Ok-clause-bytes : goal.returns-in-Ok-clause-bytes
returns-in-Ok-clause-bytes g c = record { is = held_bytes _ _ 16777216 c.in-Ok.bytes c.in-Ok.ensures.tells; within = c.in-Ok.ensures.within }

pub returns-in-Err-NoSuchFile-clause-fault : goal.returns-in-Err-NoSuchFile-clause-fault
returns-in-Err-NoSuchFile-clause-fault g c =
    let told = rw c.in-Err-NoSuchFile.field-0-is at c.in-Err-NoSuchFile.ensures.tells in
    IsNoFile (missing _ c.args.number _ 16777216 NoBytes told)

pub returns-in-Err-TooLong-clause-fault : goal.returns-in-Err-TooLong-clause-fault
returns-in-Err-TooLong-clause-fault g c =
    let told = rw c.in-Err-TooLong.field-0-is at c.in-Err-TooLong.ensures.tells in
    IsNoFile (long_image _ c.args.number _ NoBytes told)
