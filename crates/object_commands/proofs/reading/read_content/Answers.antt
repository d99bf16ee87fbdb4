use Rattle.object_commands.proofs.Files.{content_held, lacks_content, long_content, no_file, plain_content}
use Rattle.trc_answers.proofs.Answering.{held_bytes}
use Rattle.object_commands.proofs.reading.read_content.Goals as goal

pub returns-in-Ok-clause-content : goal.returns-in-Ok-clause-content
returns-in-Ok-clause-content g c = content_held _ c.args.name.now c.as_slice.result.now c.in-Ok.bytes.items c.content_of.result (held_bytes _ _ 67108864 c.in-Ok.bytes c.in-Ok.ensures.tells) c.as_slice.ensures.value c.content_of.ensures.content

pub returns-in-Ok-clause-fault : goal.returns-in-Ok-clause-fault
returns-in-Ok-clause-fault g c = lacks_content _ c.args.number c.args.name.now _ _ c.content_of.result c.content_of.ensures.fault

pub returns-in-Ok-clause-plain : goal.returns-in-Ok-clause-plain
returns-in-Ok-clause-plain g c = plain_content c.content_of.result c.content_of.ensures.fault

pub returns-in-Err-TooLong-clause-content : goal.returns-in-Err-TooLong-clause-content
returns-in-Err-TooLong-clause-content g c = long_content _ _ (rw c.in-Err-TooLong.field-0-is at c.in-Err-TooLong.ensures.tells)

pub returns-in-Err-NoSuchFile-clause-fault : goal.returns-in-Err-NoSuchFile-clause-fault
returns-in-Err-NoSuchFile-clause-fault g c = no_file _ c.args.number _ _ _ (rw c.in-Err-NoSuchFile.field-0-is at c.in-Err-NoSuchFile.ensures.tells)
